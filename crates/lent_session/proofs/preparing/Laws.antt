-- What preparing leaves in lent bytes that were cleared, by what the code finds and writes.
use Rattle.protocol.specs.declared.Record.{Record}
use Rattle.std.specs.Prelude.{Option}
use Rattle.std.proofs.Common.{◌≡◌, ℕ, ◌+◌, ◌-◌, ◌*◌, ◌≤◌, Bool, true, false, List, [], ◌++◌, length, take, drop, set, replicate, sym, refl, ap, ◌∙◌, subst, append-nil, arith, length-append, length-drop, drop_of_length-le, take_all, take_at, drop_at}
use lib.ListN.{length-replicate, replicate-append-replicate}
use Rattle.protocol.specs.declared.AddressKind.TheVariants.{Ipv4}
use Rattle.protocol.specs.Answers.{Answer, Accepted, Refused, Port}
use Rattle.protocol.specs.declared.AuthMethod.TheVariants.{NoAuth, UserPass}
use Rattle.protocol.specs.declared.Reply.{Reply}
use Rattle.protocol.specs.declared.SocksConfig.{SocksConfig}
use Rattle.protocol.specs.declared.SocksError.{SocksError}
use Rattle.protocol.specs.Bytes.{padded}
use Rattle.protocol.specs.Numbers as numbers
use Rattle.protocol.specs.Numbers.{answer_number}
use Rattle.protocol.specs.Opening.{first_record, first_four, check5, check4, Opening, v5, v4, no_auth, user_pass, opening5, opening4}
use Rattle.protocol.specs.Requests.{negotiation_req, authentication_req, proxy_req, request}
use Rattle.buffers.specs.write.Written.{overwrite}
use Rattle.lookup.specs.Chosen.{chosen_of, records_of}
use Rattle.lookup.proofs.Firsts.{first_chosen, four_chosen}
use Rattle.client_stages.specs.declared.due.Requests.{Requests}
use Rattle.client_stages.specs.declared.due.Stage.{Stage}
use Rattle.client_stages.specs.declared.due.Stage.TheVariants.{Awaiting, Open, Failed}
use Rattle.client_session.specs.declared.Prepared.{Prepared}
use Rattle.client_session.specs.Calls.{kept_with, fresh, prepared_by, prepare5, prepare4}
use Rattle.client_opening.specs.declared.common.Begun.{Begun}
use Rattle.client_opening.specs.common.Begun.{prepared_with}
use Rattle.client_opening.proofs.common.Records.{by_first5, by_first4}
use Rattle.raw_numbers.specs.Numbers.{truth, bit, port_of}
use Rattle.raw_records.specs.Records.{records_in}
use Rattle.lent_numbers.specs.bytes.Numbers.{digits}
use Rattle.lent_session.specs.declared.preparing.RawConfig.{RawConfig}
use Rattle.lent_session.specs.State.{session_at, reply_number, code_of, state_of}
use Rattle.lent_session.specs.Fits.{Fits}
use Rattle.lent_session.specs.Calls.{Prepares}
use Rattle.lent_session.specs.Given.{config_of, given5, given4}
use Rattle.lent_session.specs.preparing.Blank.{unstaged}
use Rattle.lent_session.proofs.Writing.{with, state_back}

pub config_as : (c : RawConfig) {a l o : Bool} → a ≡ truth c.proxy_auth → l ≡ truth c.local_dns → o ≡ truth c.optimistic
    → ◌≡◌ {A = SocksConfig} (record { proxy_auth = a; local_dns = l; optimistic = o }) (config_of c)
config_as c a l o = λ i. record { proxy_auth = a i; local_dns = l i; optimistic = o i }

-- ---- all bytes cleared

pub filled : (s d : List ℕ) (i : ℕ) → s ≡ replicate i 0 ++ drop i d → length d ≤ i → i ≤ length d → s ≡ replicate (length d) 0
filled s d i q h l =
    let z : i ≡ length d = omega arith in
    q ∙ ap (λ (t : List ℕ). replicate i 0 ++ t) (drop_of_length-le d h) ∙ append-nil (replicate i 0) ∙ ap (λ (n : ℕ). replicate n 0) z

pub filled_long : (s d : List ℕ) (i : ℕ) → s ≡ replicate i 0 ++ drop i d → i ≤ length d → length s ≡ length d
filled_long s d i q l = ap length q ∙ length-append (replicate i 0) (drop i d) ∙ omega (arith, length-replicate {A = ℕ} i 0, length-drop i d)

-- of cleared bytes the first 282, and the rest, which is lent
module _ (s : List ℕ) {n : ℕ} (q : s ≡ replicate n 0) (l : n ≡ 1306) where
  split : s ≡ replicate 282 0 ++ replicate 1024 0
  split = q ∙ ap (λ (k : ℕ). replicate k 0) l ∙ sym (replicate-append-replicate {A = ℕ} 282 1024 0)

  long : length s ≡ 1306
  long = ap length q ∙ length-replicate {A = ℕ} n 0 ∙ l

  pub requests_blank : take (length s - 282) (drop 282 s) ≡ replicate 1024 0
  requests_blank =
      take_all (length s - 282) (drop 282 s) (omega (arith, length-drop 282 s)) ∙ ap (drop 282) split
      ∙ drop_at (replicate 282 0) (replicate 1024 0) 282 (length-replicate {A = ℕ} 282 0)

  pub requests_put : (bytes : List ℕ) → take 282 s ++ (bytes ++ drop (length s - 282) (drop 282 s)) ≡ replicate 282 0 ++ bytes
  requests_put bytes =
      let first : take 282 s ≡ replicate 282 0 = ap (take 282) split ∙ take_at (replicate 282 0) (replicate 1024 0) 282 (length-replicate {A = ℕ} 282 0) in
      let none : drop (length s - 282) (drop 282 s) ≡ [] = drop_of_length-le (drop 282 s) {i = length s - 282} (omega (arith, length-drop 282 s)) in
      (λ i. first i ++ (bytes ++ none i)) ∙ ap (λ (t : List ℕ). replicate 282 0 ++ t) (append-nil bytes)

  pub put_long : (bytes : List ℕ) → length bytes ≡ 1024 → length (take 282 s ++ (bytes ++ drop (length s - 282) (drop 282 s))) ≡ 1306
  put_long bytes h = ap length (requests_put bytes) ∙ length-append (replicate 282 0) bytes ∙ omega (arith, length-replicate {A = ℕ} 282 0)

-- ---- the stage

module _ (stage : Stage) (q : Requests) {s : List ℕ} {o : Bool} {b : ℕ} (p : q.lengths.optimistic ≡ o) (u : s ≡ unstaged (fresh stage q)) (r : b ≡ bit o) where
  coded : (g : Stage) {n : ℕ} (m : ℕ) → m ≡ n + 16 * b → n ≡ code_of g false false Ipv4 → m ≡ code_of g false q.lengths.optimistic Ipv4
  coded g m w v = w ∙ omega (arith, v, r, ap bit p)

  pub staged_awaiting : {e : Reply} {n : ℕ} → stage ≡ Awaiting e → n ≡ reply_number e → set s 18 (n + 16 * b) ≡ state_of (fresh stage q)
  unfolding digits
  staged_awaiting {e} {n} w v =
      let c = coded (Awaiting e) (n + 16 * b) refl (v ∙ omega arith) in
      ap (λ (l : List ℕ). set l 18 (n + 16 * b)) u ∙ (λ i. with (fresh stage q) (c i) 0 0) ∙ (λ i. state_of (fresh (sym w i) q))

  pub staged_open : stage ≡ Open → set s 18 (7 + 16 * b) ≡ state_of (fresh stage q)
  unfolding digits
  staged_open w =
      let c = coded Open (7 + 16 * b) refl refl in
      ap (λ (l : List ℕ). set l 18 (7 + 16 * b)) u ∙ (λ i. with (fresh stage q) (c i) 0 0) ∙ (λ i. state_of (fresh (sym w i) q))

  pub staged_failed : {e : SocksError} {n t : ℕ} → stage ≡ Failed e → n ≡ numbers.number e → t ≡ numbers.status e → set (set (set s 18 (16 * b)) 19 n) 20 t ≡ state_of (fresh stage q)
  unfolding digits
  staged_failed {e} {n} {t} w v x =
      let c = coded (Failed e) (16 * b) (omega arith) refl in
      ap (λ (l : List ℕ). set (set (set l 18 (16 * b)) 19 n) 20 t) u ∙ (λ i. with (fresh stage q) (c i) (v i) (x i)) ∙ (λ i. state_of (fresh (sym w i) q))

-- ---- the lengths, over zeros

pub kept_as : (b : Begun) (bytes : List ℕ) {s s₁ s₂ s₃ s₄ : List ℕ} → s ≡ replicate 282 0 ++ bytes → s₁ ≡ overwrite s 10 (digits 2 b.lengths.first) → s₂ ≡ overwrite s₁ 12 (digits 2 b.lengths.authentication)
    → s₃ ≡ overwrite s₂ 14 (digits 2 b.lengths.proxy)
    → ((q : Requests) → q.lengths.optimistic ≡ b.lengths.optimistic → s₃ ≡ unstaged (fresh b.stage q) → s₄ ≡ state_of (fresh b.stage q)) → s₄ ≡ state_of (prepared_with b bytes).session
unfolding overwrite digits
kept_as b bytes q u v w f =
    f (record { lengths = b.lengths; bytes = bytes }) refl
    (w ∙ ap (λ (l : List ℕ). overwrite l 14 (digits 2 b.lengths.proxy)) (v ∙ ap (λ (l : List ℕ). overwrite l 12 (digits 2 b.lengths.authentication)) (u ∙ ap (λ (l : List ℕ). overwrite l 10 (digits 2 b.lengths.first)) q)))

-- ---- what is prepared fits

padded_few : (xs : List ℕ) → length (padded 1024 xs) ≡ 1024 → length xs ≤ 1024
padded_few xs h = omega (arith, length-append xs (replicate (1024 - length xs) 0))

kept_fits : (g : Stage) (o : Bool) (q a p : List ℕ) → length (padded 1024 (q ++ (a ++ p))) ≡ 1024 → Fits (fresh g (kept_with o q a p))
kept_fits g o q a p h =
    let few = padded_few (q ++ (a ++ p)) h in
    let x = length-append q (a ++ p) in
    let y = length-append a p in
    record { attempts = omega arith; held = omega arith; first = omega arith; authentication = omega arith; proxy = omega arith; port = omega arith; hold = length-replicate {A = ℕ} 261 0; bytes = h }

prepared_fits : (a : Answer) (o : Opening) → length (prepared_by a o).session.requests.bytes ≡ 1024 → Fits (prepared_by a o).session
prepared_fits Accepted (v5 no_auth d port o) h = kept_fits _ o (negotiation_req NoAuth) [] (proxy_req d port) h
prepared_fits Accepted (v5 (user_pass u p) d port o) h = kept_fits _ o (negotiation_req UserPass) (authentication_req u p) (proxy_req d port) h
prepared_fits Accepted (v4 d port) h = kept_fits _ false (request d port) [] [] h
prepared_fits (Refused e) o h = kept_fits (Failed e) false [] [] [] h

-- ---- a preparing

prepares : (a : Answer) (o : Opening) {p : Prepared} → p ≡ prepared_by a o → (b : Begun) (bytes : List ℕ) → length bytes ≡ 1024 → prepared_with b bytes ≡ p → {r : ℕ} {s' : List ℕ} → r ≡ answer_number b.answer
    → s' ≡ state_of (prepared_with b bytes).session → Prepares p r s'
prepares a o {p} pw b bytes long q u v =
    let f : Fits p.session = subst (λ (x : Prepared). Fits x.session) (sym pw) (prepared_fits a o (ap (λ (x : Prepared). length x.session.requests.bytes) (sym pw ∙ sym q) ∙ long)) in
    let left = v ∙ ap (λ (x : Prepared). state_of x.session) q in
    record { returned = u ∙ ap (λ (x : Prepared). answer_number x.answer) q; left = left; means = ap session_at left ∙ state_back p.session f }

-- of the list of records the first that serves is all that is asked

module _ (b : Begun) (bytes : List ℕ) (long : length bytes ≡ 1024) (host : List ℕ) (port : ℕ) (records : List ℕ) {l : Option Record} {pt : Port} {r : ℕ} {s' : List ℕ} where
  pub prepares5 : (c : RawConfig) (user password : List ℕ) {cf : SocksConfig} → l ≡ chosen_of false (records_in records) → cf ≡ config_of c → pt ≡ port_of port
      → prepared_with b bytes ≡ prepare5 (record { config = cf; host = host; port = pt; user = user; password = password; records = records_of l })
      → r ≡ answer_number b.answer → s' ≡ state_of (prepared_with b bytes).session → Prepares (prepare5 (given5 c host port user password records)) r s'
  unfolding prepare5
  prepares5 c user password {cf} el ec ep e u v =
      let first : first_record (records_of l) ≡ first_record (records_in records) = ap (λ (k : Option Record). first_record (records_of k)) el ∙ first_chosen (records_in records) in
      let h = e ∙ by_first5 cf host pt user password (records_in records) (records_of l) (λ _. first) in
      let g = h ∙ (λ i. prepare5 (record { config = ec i; host = host; port = ep i; user = user; password = password; records = records_in records })) in
      let a = given5 c host port user password records in
      prepares (check5 a) (opening5 a) refl b bytes long g u v

  pub prepares4 : (local_dns : ℕ) {t : Bool} → l ≡ chosen_of true (records_in records) → t ≡ truth local_dns → pt ≡ port_of port
      → prepared_with b bytes ≡ prepare4 (record { local_dns = t; host = host; port = pt; records = records_of l })
      → r ≡ answer_number b.answer → s' ≡ state_of (prepared_with b bytes).session → Prepares (prepare4 (given4 local_dns host port records)) r s'
  unfolding prepare4
  prepares4 local_dns {t} el et ep e u v =
      let first : first_four (records_of l) ≡ first_four (records_in records) = ap (λ (k : Option Record). first_four (records_of k)) el ∙ four_chosen (records_in records) in
      let h = e ∙ by_first4 t host pt (records_in records) (records_of l) (λ _. first) in
      let g = h ∙ (λ i. prepare4 (record { local_dns = et i; host = host; port = ep i; records = records_in records })) in
      let a = given4 local_dns host port records in
      prepares (check4 a) (opening4 a) refl b bytes long g u v
