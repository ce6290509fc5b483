-- Deliveries to the end that the calls hold are deliveries to the side's session; and F-3's promise.
use Prim.Native.Nat.{ℕ, min, ◌≤◌}
use native.Mathlib.Omega.{arith}
use mathlib.Core.Path.{◌≡◌, refl, ap, sym, subst, ◌∙◌}
use mathlib.Core.Logic.{◌↔◌, ◌⊎◌, inl, inr}
use mathlib.Core.Bool.{Bool, true, false, true≢false, cond, ◌&&◌, ◌||◌}
use mathlib.Core.List.{List, [], ◌∷◌, ◌++◌}
use lib.ListN.{length, take, drop}
use lib.Seq.{take-append_seam, take_all}
use lib.Dec.{leb, ltb, lit<, lit≤}
use Rattle.protocol.specs.Answers.{Accepted, Refused}
use Rattle.protocol.specs.declared.SocksError.{SocksError}
use Rattle.protocol.specs.declared.SocksError.TheVariants.{ShortOutput, CredentialTooLong, Settled}
use Rattle.protocol.specs.Bytes.{Bytes, BytePieces, padded}
use Rattle.protocol.specs.AddressReading.{Destination, ipv4, ipv6, domain}
use Rattle.protocol.specs.Requests.{kind_of}
use Rattle.protocol.specs.Bound.{Endpoint, endpoint, kind_in, bytes_in, unbound}
use Rattle.protocol.specs.Opening.{refuse}
use Rattle.protocol.proofs.Bytes.{joined_bytes}
use Rattle.protocol.proofs.Openings.{clash, all_passed, checked, less_just}
use Rattle.proxy_spec.specs.declared.Field.TheVariants.{First}
use Rattle.proxy_spec.specs.declared.Stage.{Stage}
use Rattle.proxy_spec.specs.declared.Stage.TheVariants as stage
use Rattle.proxy_spec.specs.End as plain
use Rattle.proxy_spec.specs.End.{Setup, End, asks, asked, machine, used_by, used}
use Rattle.proxy_spec.specs.Side.{EndSession, reads, talk_at, server, standing_of}
use Rattle.proxy_spec.proofs.Side.{server_lawful}
use Rattle.proxy_spec.proofs.Feed.{sent_feed, standing_feed, used_feed}
use Rattle.proxy_spec.proofs.Fits.{feed_target}
use Rattle.proxy_decisions.specs.decision.Due.{session_at}
use Rattle.proxy_decisions.specs.destination.Last.{target_as}
use Rattle.proxy_replies.specs.declared.stages.Outcome.TheVariants as told
use Rattle.proxy_replies.specs.stages.Told.{outcome_at, has_destination}
use Rattle.proxy_delivery.specs.piece.Pieces.{stage_of}
use Rattle.proxy_session.specs.declared.Server.{Server}
use Rattle.proxy_session.specs.declared.SetUp.{SetUp}
use Rattle.proxy_session.specs.Server.{credential_of, text_of, setup_of, held_bytes, asked_for, view, packed, outcome, destination, fresh}
use Rattle.proxy_session.specs.Calls.{refusal, too_long, set_up, takes, deliver}
use Rattle.proxy.specs.Served.{setup_for, outcome_by, target_by, handed_out, receiver, tunnel_of, joined_of, Served, AllServed}
use Rattle.proxy.specs.Turns.{Tells, nowhere, SettingUp}
use Rattle.talk.specs.Talk as talk
use Rattle.talk.specs.Tunnel as side
use Rattle.talk.specs.Tunnel.{Delivery, answer_to, given, refusing, accepting}
use Rattle.talk.specs.Follow as like
use Rattle.talk.proofs.Pieces.{pieces}
use Rattle.talk.proofs.Follow as follow

pub view_packed : (s : Server) (m : EndSession) → view (packed s m) ≡ m
view_packed s (talk.waiting f h) = rw take-append_seam
view_packed s (talk.ended (talk.done x)) = ap (λ (d : Destination). talk.ended (talk.done (asked x.version (endpoint d x.target.port)))) (kind_back x.target.address)
  where
    kind_back : (d : Destination) → kind_of (kind_in d) (take (length (bytes_in d)) (bytes_in d ++ drop (length (bytes_in d)) s.hold)) ≡ d
    kind_back (ipv4 bs) = ap ipv4 (take-append_seam bs _)
    kind_back (ipv6 bs) = ap ipv6 (take-append_seam bs _)
    kind_back (domain bs) = ap domain (take-append_seam bs _)
view_packed s (talk.ended (talk.failed e)) = refl

-- ---- one delivery

-- an end set up so stands for a side's session, and has not been answered
pub record Stands (c : Setup) (s : Server) (m : EndSession) : Type 0 where
  pub set : setup_of s ≡ c
  pub seen : view s ≡ m
  pub staged : s.stage ≡ stage_of m

module _ (s : Server) (g : s.stage ≡ stage_of (view s)) where
  abbrev c : Setup
  c = setup_of s

  itself : Stands c s (view s)
  itself = record { set = refl; seen = refl; staged = g }

  takes_alike : (p out : List ℕ) → like.Alike (Stands c) (takes s p out) (accepting (server c) (view s) (given (server c) (view s) p) out)
  takes_alike [] out = record { session = itself; used = omega arith; sent = refl }
  takes_alike (b ∷ bs) out =
      record {
        session = record { set = refl; seen = view_packed s (talk.onward (server c) (view s) (b ∷ bs)).session; staged = refl };
        used = refl;
        sent = refl;
      }

  answers_alike : (b v : Bool) (p out : List ℕ)
      → like.Alike (Stands c) (cond b (refusal Settled s out) (cond v (takes s p out) (refusal ShortOutput s out)))
      (cond b (refusing Settled (view s) out) (cond v (accepting (server c) (view s) (given (server c) (view s) p) out) (refusing ShortOutput (view s) out)))
  answers_alike true v p out = record { session = itself; used = refl; sent = refl }
  answers_alike false true p out = takes_alike p out
  answers_alike false false p out = record { session = itself; used = refl; sent = refl }

  alike : (d : Delivery) → like.Alike (Stands c) (answer_to receiver s d) (answer_to (side.receiver (server c) 262) (view s) d)
  unfolding deliver side.deliver
  alike d = answers_alike (talk.is_over (view s)) (leb 262 (length d.output)) d.piece d.output

pub step : (c : Setup) (s : Server) (m : EndSession) → Stands c s m → (d : Delivery)
    → like.Alike (Stands c) (answer_to receiver s d) (answer_to (side.receiver (server c) 262) m d)
step c s m t d =
    subst (λ (n : EndSession). like.Alike (Stands c) (answer_to receiver s d) (answer_to (side.receiver (server c) 262) n d)) t.seen
    (subst (λ (k : Setup). like.Alike (Stands k) (answer_to receiver s d) (answer_to (side.receiver (server k) 262) (view s) d)) t.set
    (alike s (rw t.seen t.staged) d))

-- ---- what the calls tell of an end that stands for a side's session

outcome_told : (m : EndSession) → outcome_at (stage_of m) ≡ outcome_by (standing_of m)
outcome_told (talk.waiting f h) = refl
outcome_told (talk.ended (talk.done x)) = refl
outcome_told (talk.ended (talk.failed e)) = refl

target_told : (t : Stage) (x : Endpoint) (h : List ℕ) → cond (has_destination t) x unbound ≡ target_by (standing_of (session_at t x h))
target_told (stage.Awaiting f) x h = refl
target_told (stage.Asked v) x h = refl
target_told (stage.Open v) x h = refl
target_told (stage.Failed e) x h = refl

stage_told : (m : EndSession) (x : plain.Asked) → standing_of m ≡ asks x → stage_of m ≡ stage.Asked x.version
stage_told (talk.waiting f h) x q = let z : ◌≡◌ {A = ℕ} 0 1 = cc in absurd (omega arith)
stage_told (talk.ended (talk.done y)) x q = let e : y ≡ x = cc in rw e
stage_told (talk.ended (talk.failed n)) x q = let z : ◌≡◌ {A = ℕ} 0 1 = cc in absurd (omega arith)

-- of joined bytes that are bytes, the destination has at most 1,014, and so it is handed out whole
small_target : (c : Setup) (bs : List ℕ) → Bytes bs → length (bytes_in (target_by (machine c bs).standing).address) ≤ 1014
small_target c bs y = rw (standing_feed c bs) (go (talk.feed (server c) (talk_at c First) bs).session refl)
  where
    go : (m : EndSession) → (talk.feed (server c) (talk_at c First) bs).session ≡ m → length (bytes_in (target_by (standing_of m)).address) ≤ 1014
    go (talk.waiting f h) q = lit≤ tt
    go (talk.ended (talk.done x)) q = feed_target c First bs y x q
    go (talk.ended (talk.failed e)) q = lit≤ tt

target_whole : (x : Endpoint) → length (bytes_in x.address) ≤ 1014 → target_as x ≡ handed_out x
target_whole x h =
    let n : min (length (bytes_in x.address)) 1014 ≡ length (bytes_in x.address) = omega arith in
    let l = take_all 1014 (bytes_in x.address) h in
    λ i. record { kind = kind_in x.address; len = n i; bytes = padded 1014 (l i); port = x.port }

-- ---- of an end that stands for the talk fed with no byte

begins : (c : Setup) → talk.feed (server c) (talk_at c First) [] ≡ talk.unmoved (talk.waiting First [])
unfolding talk.feed reads
begins c = refl

record Fed (c : Setup) (s : Server) (ds : List Delivery) : Type 0 where
  sends : (tunnel_of s ds).sent ≡ (machine c (joined_of ds)).sent
  stages : (x : plain.Asked) → (machine c (joined_of ds)).standing ≡ asks x → (tunnel_of s ds).session.stage ≡ stage.Asked x.version
  outcomes : outcome (tunnel_of s ds).session ≡ outcome_by (machine c (joined_of ds)).standing
  targets : destination (tunnel_of s ds).session ≡ target_as (target_by (machine c (joined_of ds)).standing)
  count : (tunnel_of s ds).count ≡ used c (joined_of ds)
  rest : (tunnel_of s ds).rest ≡ drop (used c (joined_of ds)) (joined_of ds)

-- the end that deliveries leave stands for the talk fed with their bytes
pub stands_fed : (c : Setup) (s : Server) → Stands c s (talk.waiting First []) → (ds : List Delivery)
    → Stands c (tunnel_of s ds).session (talk.feed (server c) (talk_at c First) (joined_of ds)).session
stands_fed c s b ds =
    let N = server c in
    let t = talk_at c First in
    let w = follow.follows (Stands c) receiver (side.receiver N 262) refl (step c) ds s (talk.feed N t []).session (rw (begins c) b) in
    let j = follow.joined_same (Stands c) receiver (side.receiver N 262) refl (step c) ds in
    subst (Stands c (tunnel_of s ds).session) ((pieces N (server_lawful c) 262 t ((server_lawful c).shaped First) ds).session ∙ rw (← j)) w.session

fed : (c : Setup) (s : Server) → Stands c s (talk.waiting First []) → (ds : List Delivery) → Fed c s ds
fed c s b ds =
    let N = server c in
    let t = talk_at c First in
    let f = talk.feed N t [] in
    let z = begins c in
    let b' : Stands c s f.session = rw z b in
    let w = follow.follows (Stands c) receiver (side.receiver N 262) refl (step c) ds s f.session b' in
    let j = follow.joined_same (Stands c) receiver (side.receiver N 262) refl (step c) ds in
    let p = pieces N (server_lawful c) 262 t ((server_lawful c).shaped First) ds in
    let bs = joined_of ds in
    let e = (tunnel_of s ds).session in
    let m = (talk.feed N t bs).session in
    let k : (tunnel_of s ds).count ≡ used c bs = w.count ∙ p.count ∙ rw (← j) (sym (used_feed c bs)) in
    let a = stands_fed c s b ds in
    let q : standing_of (view e) ≡ (machine c bs).standing = ap standing_of a.seen ∙ sym (standing_feed c bs) in
    record {
      sends = w.sent ∙ ap (λ (x : talk.FedOf N). x.sent ++ side.sent_by (side.receiver N 262) f.session ds) (sym z) ∙ p.sent ∙ rw (← j) (sym (sent_feed c bs));
      stages = λ x r. a.staged ∙ stage_told m x (sym (standing_feed c bs) ∙ r);
      outcomes = ap outcome_at a.staged ∙ outcome_told m ∙ ap outcome_by (sym (standing_feed c bs));
      targets = ap target_as (target_told e.stage (asked_for e) (held_bytes e) ∙ ap target_by q);
      count = k;
      rest = w.rest ∙ p.rest ∙ rw (← j, ← w.count, k);
    }

-- ---- the promise, of what set-up returned

-- without credentials user and password are not looked at
pub machine_without : (authenticates : Bool) (user password bs : List ℕ)
    → machine (setup_for authenticates (cond authenticates user []) (cond authenticates password [])) bs ≡ machine (setup_for authenticates user password) bs
unfolding machine
machine_without true user password bs = refl
machine_without false user password bs = refl

text_back : (text : List ℕ) → text_of (credential_of text) ≡ text
text_back text = take-append_seam text _

module _ (authenticates : Bool) (user password : List ℕ) where
  abbrev given_user : List ℕ
  given_user = cond authenticates user []

  abbrev given_password : List ℕ
  given_password = cond authenticates password []

  abbrev asked_for_lem : Setup
  asked_for_lem = setup_for authenticates user password

  abbrev pub kept : Setup
  kept = setup_for authenticates given_user given_password

  abbrev pub new : Server
  new = fresh (stage.Awaiting First) authenticates (credential_of given_user) (credential_of given_password)

  pub kept_back : setup_of new ≡ kept
  kept_back = λ i. setup_for authenticates (text_back given_user i) (text_back given_password i)

  used_without : (bs : List ℕ) → used kept bs ≡ used asked_for_lem bs
  unfolding used
  used_without bs = ap (λ (e : End). used_by e.standing e.place bs) (machine_without authenticates user password bs)

  kept_fed : (ds : List Delivery) → Fed asked_for_lem new ds
  kept_fed ds =
      let f = fed kept new (record { set = kept_back; seen = refl; staged = refl }) ds in
      let m = machine_without authenticates user password (joined_of ds) in
      let u = used_without (joined_of ds) in
      record {
        sends = f.sends ∙ ap (λ (e : End). e.sent) m;
        stages = λ x q. f.stages x (ap (λ (e : End). e.standing) m ∙ q);
        outcomes = f.outcomes ∙ ap (λ (e : End). outcome_by e.standing) m;
        targets = f.targets ∙ ap (λ (e : End). target_as (target_by e.standing)) m;
        count = f.count ∙ u;
        rest = f.rest ∙ ap (λ (n : ℕ). drop n (joined_of ds)) u;
      }

  served : (ds : List Delivery) → BytePieces ds → Served asked_for_lem new ds
  served ds y =
      let f = kept_fed ds in
      record {
        sent_as = f.sends;
        outcome_as = f.outcomes;
        asked_in = f.stages;
        destination_as = f.targets ∙ target_whole (target_by (machine asked_for_lem (joined_of ds)).standing) (small_target asked_for_lem (joined_of ds) (joined_bytes receiver ds y));
        count_as = f.count;
        rests_are = rw f.count f.rest;
        alike = λ ds' e.
            let g = kept_fed ds' in
            record {
              outcomes = g.outcomes ∙ ap (λ (l : List ℕ). outcome_by (machine asked_for_lem l).standing) e ∙ sym f.outcomes;
              destinations = g.targets ∙ ap (λ (l : List ℕ). target_as (target_by (machine asked_for_lem l).standing)) e ∙ sym f.targets;
              sent = g.sends ∙ ap (λ (l : List ℕ). (machine asked_for_lem l).sent) e ∙ sym f.sends;
              count = g.count ∙ ap (used asked_for_lem) e ∙ sym f.count;
              rest = g.rest ∙ ap (λ (l : List ℕ). drop (used asked_for_lem l) l) e ∙ sym f.rest;
            };
      }

  abbrev pub set_up_lem : Bool → SetUp
  set_up_lem b =
      cond b (record { answer = Refused CredentialTooLong; server = fresh (stage.Failed CredentialTooLong) false (credential_of []) (credential_of []) })
      (record { answer = Accepted; server = new })

  answered : (b : Bool) → (set_up_lem b).answer ≡ refuse b CredentialTooLong Accepted
  answered true = refl
  answered false = refl

  empty : (b : Bool) (e : SocksError) → (set_up_lem b).answer ≡ Refused e → (set_up_lem b).server ≡ fresh (stage.Failed CredentialTooLong) false (credential_of []) (credential_of [])
  empty true e q = refl
  empty false e q = absurd (clash q)

  refused : (b : Bool) (e : SocksError) → (set_up_lem b).answer ≡ Refused e → Tells (set_up_lem b).server (told.Failed CredentialTooLong) nowhere
  refused true e q = record { outcomes = refl; destinations = refl }
  refused false e q = absurd (clash q)

  waits : (b : Bool) → (set_up_lem b).answer ≡ Accepted → Tells (set_up_lem b).server told.Waiting nowhere
  waits true q = absurd (clash (sym q))
  waits false q = record { outcomes = refl; destinations = refl }

  accepted : (b : Bool) → (set_up_lem b).answer ≡ Accepted → (ds : List Delivery) → BytePieces ds → Served asked_for_lem (set_up_lem b).server ds
  accepted true q ds y = absurd (clash (sym q))
  accepted false q ds y = served ds y

pub all_served : AllServed
unfolding set_up
all_served authenticates user password q ds y = accepted authenticates user password (too_long authenticates user password) q ds y

-- ---- the set-up's own number

long_just : (a b c : Bool) {P Q : Type 0} → b ≡ true ↔ P → c ≡ true ↔ Q → (a && (b || c)) ≡ true ↔ ((a ≡ true) × (P ⊎ Q))
long_just false b c p q = (λ r. absurd (true≢false (sym r)), λ (r, _). r)
long_just true true c p q = (λ r. (refl, inl (p.0 refl)), λ r. refl)
long_just true false c {P} {Q} p q = (λ r. (refl, inr (q.0 r)), λ (_, h). back h)
  where
    back : P ⊎ Q → c ≡ true
    back (inl h) = absurd (true≢false (sym (p.1 h)))
    back (inr h) = q.1 h

pub setting_up : (authenticates : Bool) (user password : List ℕ) → SettingUp authenticates user password
unfolding set_up
setting_up a user password =
    let b = too_long a user password in
    record {
      number = rw (answered a user password b)
          (checked b _ CredentialTooLong 5 Accepted [] refl (lit< tt) (long_just a (ltb 255 (length user)) (ltb 255 (length password)) (less_just 255 (length user)) (less_just 255 (length password))) all_passed);
      empty = empty a user password b;
      refused = refused a user password b;
      accepted = waits a user password b;
    }
