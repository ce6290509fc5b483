-- F-6: two openings alike but for the bytes of user and password are concealed: preparing them, and every row of calls.
use Prim.Native.Nat.{ℕ, ◌+◌, ◌-◌, ◌≤◌}
use native.Mathlib.Nat.{add-zero}
use native.Mathlib.Omega.{arith}
use mathlib.Core.Path.{◌≡◌, refl, ap, sym, ◌∙◌, subst}
use mathlib.Core.Logic.{inl, inr}
use mathlib.Core.Bool.{Bool, true, false, ◌&&◌, ◌||◌, not}
use mathlib.Core.List.{List, [], ◌∷◌, ◌++◌}
use lib.ListN.{length, replicate, length-append, length-replicate}
use lib.Dec.{ltb}
use Rattle.protocol.specs.declared.AuthMethod.TheVariants.{NoAuth, UserPass}
use Rattle.protocol.specs.Answers.{Port, Answer, Accepted, Refused}
use Rattle.protocol.specs.declared.Record.{Record}
use Rattle.protocol.specs.declared.SocksConfig.{SocksConfig}
use Rattle.protocol.specs.declared.SocksError.{SocksError}
use Rattle.protocol.specs.declared.SocksError.TheVariants.{MissingHost, HostByte, MissingPort, CredentialTooLong, HostTooLong, DnsFailure}
use Rattle.protocol.specs.Bytes.{padded}
use Rattle.protocol.specs.Host.{strip, all_allowed}
use Rattle.protocol.specs.AddressReading.{Destination, destination_of}
use Rattle.protocol.specs.Requests.{negotiation_req, authentication_req, proxy_req}
use Rattle.protocol.specs.Opening.{V5, check5, refuse, is_empty, is_missing, is_name, is_none, first_record, Opening, v5, credentials_if, asked5, port_number, opening5}
use Rattle.protocol.specs.declared.Reply.TheVariants.{NegotiationRes}
use Rattle.client_stages.specs.declared.due.Stage.TheVariants.{Awaiting}
use Rattle.client_session.specs.declared.Session.{Session}
use Rattle.client_session.specs.Calls.{fresh, prepared_for, prepared_by, prepare5}
use Rattle.noninterference.specs.Places.{Secret, Agree}
use Rattle.noninterference.specs.Calls.{AlikeBut, Call, SameCalls, Hidden, Concealed}
use Rattle.noninterference.proofs.Bytes.{agree_all, agree_none, agree_join}
use Rattle.noninterference.proofs.Sessions.{other, Goes}
use Rattle.noninterference.proofs.Rows.{rows}

-- ---- the stored bytes

agree_eq : (S : ℕ → Type 0) (n : ℕ) {xs ys : List ℕ} → xs ≡ ys → Agree S n xs ys
agree_eq S n {xs} e = subst (λ (l : List ℕ). Agree S n xs l) e (agree_all S n xs)

module _ (u w u' w' : List ℕ) (p : length u ≡ length u') (q : length w ≡ length w') where
  abbrev S : ℕ → Type 0
  S = Secret true (length u) (length w)

  password_agree : Agree S (5 + length u + 1) w w'
  password_agree = agree_none S (5 + length u + 1) w w' q (λ i h. inr (omega arith, omega arith))

  user_agree : Agree S 5 u u'
  user_agree = agree_none S 5 u u' p (λ i h. inl (omega arith, omega arith))

  credentials_agree : Agree S 3 (authentication_req u w) (authentication_req u' w')
  unfolding authentication_req
  credentials_agree =
      agree_join S 3 (0x01 ∷ length u ∷ []) (0x01 ∷ length u' ∷ []) (u ++ (length w ∷ w)) (u' ++ (length w' ∷ w')) (agree_eq S 3 (ap (λ (k : ℕ). 0x01 ∷ k ∷ []) p))
      (agree_join S 5 u u' (length w ∷ w) (length w' ∷ w') user_agree
      (agree_join S (5 + length u) (length w ∷ []) (length w' ∷ []) w w' (agree_eq S (5 + length u) (ap (λ (k : ℕ). k ∷ []) q)) password_agree))

  pub all_agree : (r : List ℕ) → Agree S 0 (negotiation_req UserPass ++ (authentication_req u w ++ r)) (negotiation_req UserPass ++ (authentication_req u' w' ++ r))
  unfolding negotiation_req
  all_agree r =
      agree_join S 0 (negotiation_req UserPass) (negotiation_req UserPass) (authentication_req u w ++ r) (authentication_req u' w' ++ r) (agree_all S 0 (negotiation_req UserPass))
      (agree_join S 3 (authentication_req u w) (authentication_req u' w') r r credentials_agree (agree_all S (3 + length (authentication_req u w)) r))

pub padded_agree : (S : ℕ → Type 0) (n : ℕ) (xs ys : List ℕ) → Agree S 0 xs ys → Agree S 0 (padded n xs) (padded n ys)
padded_agree S n xs ys a =
    agree_join S 0 xs ys (replicate (n - length xs) 0) (replicate (n - length ys) 0) a (agree_eq S (0 + length xs) (ap (λ (k : ℕ). replicate (n - k) 0) a.long))

padded_long : (xs : List ℕ) → 778 ≤ length (padded 1024 xs)
padded_long xs = omega (arith, length-append xs (replicate (1024 - length xs) 0), length-replicate {A = ℕ} (1024 - length xs) 0)

-- ---- what is prepared

abbrev asking : Bool → List ℕ → List ℕ → Destination → ℕ → Bool → Session
asking c u w d port o = prepared_for (v5 (credentials_if c u w) d port o)

abbrev stored : Bool → List ℕ → List ℕ → Destination → ℕ → Bool → List ℕ
stored c u w d port o = (asking c u w d port o).requests.bytes

module _ (u w u' w' : List ℕ) (p : length u ≡ length u') (q : length w ≡ length w') (d : Destination) (port : ℕ) (o : Bool) where
  authentication_long : length (authentication_req u w) ≡ length (authentication_req u' w')
  authentication_long = (credentials_agree u w u' w' p q).long

  -- asking for credentials, with another length of them and other bytes
  abbrev with_length : ℕ → List ℕ → Session
  with_length k bs =
      fresh (Awaiting (NegotiationRes UserPass))
      (record { lengths = record { optimistic = o; first = length (negotiation_req UserPass); authentication = k; proxy = length (proxy_req d port) }; bytes = bs })

  asking_other : (c : Bool) → other (asking c u w d port o) (stored c u' w' d port o) ≡ asking c u' w' d port o
  asking_other false = refl
  asking_other true = λ i. with_length (authentication_long i) (stored true u' w' d port o)

  asking_goes : (c : Bool) → Goes (Secret c (length u) (length w)) 0 (asking c u w d port o) (stored c u' w' d port o)
  asking_goes false =
      record { agree = agree_all (Secret false (length u) (length w)) 0 (stored false u w d port o); long = padded_long (negotiation_req NoAuth ++ ([] ++ proxy_req d port)); stands = (refl, λ f. sym (add-zero _)) }
  asking_goes true =
      record {
        agree = padded_agree (Secret true (length u) (length w)) 1024 _ _ (all_agree u w u' w' p q (proxy_req d port));
        long = padded_long (negotiation_req UserPass ++ (authentication_req u w ++ proxy_req d port));
        stands = (refl, λ f. refl);
      }

-- ---- the checks, by what two openings have in common

abbrev check_by : SocksConfig → List ℕ → Port → ℕ → ℕ → List Record → Answer
check_by c h port n m rs =
    refuse (is_empty h || is_empty (strip h)) MissingHost
    (refuse (not (all_allowed (strip h))) HostByte
    (refuse (is_missing port) MissingPort
    (refuse (c.proxy_auth && (ltb 255 n || ltb 255 m)) CredentialTooLong
    (refuse (is_name (destination_of (strip h)) && ltb 255 (length (strip h))) HostTooLong
    (refuse (c.local_dns && (is_name (destination_of (strip h)) && is_none (first_record rs))) DnsFailure Accepted)))))

answer_is : (x : Answer) (o : Opening) → (prepared_by x o).answer ≡ x
answer_is Accepted o = refl
answer_is (Refused e) o = refl

module _ (a b : V5) (e : AlikeBut a b) where
  pub checks_alike : check5 a ≡ check5 b
  unfolding check5
  checks_alike = λ i. check_by (e.config i) (e.host i) (e.port i) (e.users i) (e.passwords i) (e.records i)

  abbrev pub destination : Destination
  destination = asked5 a.config.local_dns a.records (destination_of (strip a.host))

  -- the second opening, as the first with other credentials
  pub opening_alike : opening5 b ≡ v5 (credentials_if a.config.proxy_auth b.user b.password) destination (port_number a.port) a.config.optimistic
  unfolding opening5
  opening_alike =
      sym (λ i.
      v5 (credentials_if (e.config i).proxy_auth b.user b.password) (asked5 (e.config i).local_dns (e.records i) (destination_of (strip (e.host i)))) (port_number (e.port i))
      (e.config i).optimistic)

  answers_alike : (prepare5 a).answer ≡ (prepare5 b).answer
  unfolding prepare5
  answers_alike = answer_is (check5 a) (opening5 a) ∙ checks_alike ∙ sym (answer_is (check5 b) (opening5 b))

  refused_alike : (x : SocksError) → (prepare5 a).answer ≡ Refused x → prepare5 a ≡ prepare5 b
  unfolding prepare5
  refused_alike x r =
      let k : check5 a ≡ Refused x = sym (answer_is (check5 a) (opening5 a)) ∙ r in
      ap (λ (y : Answer). prepared_by y (opening5 a)) k ∙ sym (ap (λ (y : Answer). prepared_by y (opening5 b)) (sym checks_alike ∙ k))

  -- accepted, the sessions
  first_session : check5 a ≡ Accepted → (prepare5 a).session ≡ asking a.config.proxy_auth a.user a.password destination (port_number a.port) a.config.optimistic
  unfolding prepare5 opening5
  first_session k = ap (λ (y : Answer). (prepared_by y (opening5 a)).session) k

  second_session : check5 a ≡ Accepted → (prepare5 b).session ≡ asking a.config.proxy_auth b.user b.password destination (port_number a.port) a.config.optimistic
  unfolding prepare5
  second_session k = ap (λ (y : Answer). (prepared_by y (opening5 b)).session) (sym checks_alike ∙ k) ∙ ap prepared_for opening_alike

  accepted_checks : (prepare5 a).answer ≡ Accepted → check5 a ≡ Accepted
  unfolding prepare5
  accepted_checks r = sym (answer_is (check5 a) (opening5 a)) ∙ r

  hidden_rows : (cs ds : List Call) → SameCalls cs ds → (prepare5 a).answer ≡ Accepted
      → Hidden (Secret a.config.proxy_auth (length a.user) (length a.password)) 0 (prepare5 a).session (prepare5 b).session cs ds
  hidden_rows cs ds m r =
      let c = a.config.proxy_auth in
      let port = port_number a.port in
      let o = a.config.optimistic in
      let T = Secret c (length a.user) (length a.password) in
      let k = accepted_checks r in
      let x = asking c a.user a.password destination port o in
      let y = stored c b.user b.password destination port o in
      let h = rows T 0 x y (asking_goes a.user a.password b.user b.password e.users e.passwords destination port o c) cs ds m in
      let z = asking_other a.user a.password b.user b.password e.users e.passwords destination port o c ∙ sym (second_session k) in
      subst (λ (s : Session). Hidden T 0 s (prepare5 b).session cs ds) (sym (first_session k)) (subst (λ (s : Session). Hidden T 0 x s cs ds) z h)

pub concealed : (a b : V5) → AlikeBut a b → Concealed a b
concealed a b e = record { answers = answers_alike a b e; refused = refused_alike a b e; hidden = hidden_rows a b e }
