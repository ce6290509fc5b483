-- The plain machine is open exactly on its opening's grammar.
use Prim.Native.Nat.{ℕ, ◌+◌}
use native.Mathlib.Nat.{add-zero}
use native.Mathlib.Omega.{arith}
use mathlib.Core.Path.{◌≡◌, refl, ap, sym, subst, ◌∙◌}
use mathlib.Core.Logic.{◌↔◌}
use mathlib.Core.Bool.{Bool, true, false, true≢false}
use mathlib.Core.List.{List, [], ◌∷◌, ◌++◌, append-nil}
use lib.ListN.{length, take}
use lib.Seq.{take_at}
use Rattle.protocol.specs.declared.AuthMethod.TheVariants.{NoAuth, UserPass, NoneAcceptable}
use Rattle.protocol.specs.declared.SocksError.{SocksError}
use Rattle.protocol.specs.declared.Reply.{Reply}
use Rattle.protocol.specs.declared.Reply.TheVariants.{NegotiationRes, AuthenticationRes, ProxyRes, Response}
use Rattle.protocol.specs.Answers.{Good, Bad, Decision, Undecided, Decided}
use Rattle.protocol.specs.declared.Outcome.TheVariants.{Waiting, Open}
use Rattle.protocol.specs.Bytes.{Bytes, two_of}
use Rattle.protocol.specs.AddressReading.{ipv4}
use Rattle.protocol.specs.Requests.{Destination4}
use Rattle.protocol.specs.Bound.{Endpoint, endpoint, bound_by}
use Rattle.protocol.specs.Opening.{no_auth, user_pass, Opening, v5, v4}
use Rattle.protocol.specs.Replies.{decide}
use Rattle.protocol.specs.Machine.{Machine, machine, used}
use Rattle.protocol.specs.Grammar.{BoundField, Sequence, plain, credentials, version4, Replied, JustOne, Word, method_00, method_02, accepted, connected, granted}
use Rattle.protocol.specs.Client.{Kept, ClientTalk, due, at_proxy_res, at_authentication_res, after_method, talk_at, told, client, kept, begun, side, outcome_of, bound_in}
use Rattle.protocol.proofs.Bytes.{bytes_left, bytes_right}
use Rattle.protocol.proofs.Words.{word_good, word_names, word_just}
use Rattle.protocol.proofs.Client.{client_lawful, machine_feed, used_feed}
use Rattle.talk.specs.Decision as talk
use Rattle.talk.specs.Talk.{done, failed, stop, await, Session, waiting, ended, feed, held_by, is_over}
use Rattle.talk.specs.Lawful.{Good as GoodAt, Accepts, Begins}
use Rattle.talk.proofs.Accept.{opens, parsed, feed_used}

-- ---- a message good at a stage is a word, and back

pub untold : (d : Decision) (n : ℕ) → told d ≡ talk.decided n talk.good → d ≡ Decided n Good
untold Undecided n q = let z : ◌≡◌ {A = ℕ} 0 1 = cc in absurd (omega arith)
untold (Decided m Good) n q = let e : m ≡ n = cc in ap (λ (z : ℕ). Decided z Good) e
untold (Decided m (Bad e)) n q = let z : ◌≡◌ {A = ℕ} 0 1 = cc in absurd (omega arith)

module _ (c : Kept) where
  message_is : (e : Reply) (m : List ℕ) → Bytes m → GoodAt (client c) e m → Word e m (bound_by e m)
  message_is e m y g = (word_just e m y).0 (untold (decide e m) (length m) g)

  message_of : (e : Reply) (m : List ℕ) {x : Endpoint} → Word e m x → GoodAt (client c) e m
  message_of e m w = ap told (rw append-nil at (word_good e m [] w))

abbrev Inverse : Reply → List ℕ → Endpoint → Type 0
Inverse (NegotiationRes NoAuth) w x = w ≡ 5 ∷ 0 ∷ []
Inverse (NegotiationRes UserPass) w x = w ≡ 5 ∷ 2 ∷ []
Inverse (NegotiationRes NoneAcceptable) w x = ⊥
Inverse AuthenticationRes w x = w ≡ 1 ∷ 0 ∷ []
Inverse ProxyRes w x = (a : List ℕ) × (w ≡ 5 ∷ 0 ∷ 0 ∷ a) × BoundField a x
Inverse Response w x = (q : List ℕ) × (a : List ℕ) × (w ≡ 0 ∷ 0x5A ∷ (q ++ a)) × (x ≡ endpoint (ipv4 a) (two_of q)) × (length q ≡ 2) × (length a ≡ 4)

inverse : {e : Reply} {w : List ℕ} {x : Endpoint} → Word e w x → Inverse e w x
inverse method_00 = refl
inverse method_02 = refl
inverse accepted = refl
inverse (connected {a} b) = (a, refl, b)
inverse (granted q a l k) = (q, a, refl, refl, l, k)

-- ---- a request that is due changes nothing of what is accepted

due_is : (c : Kept) (o : Bool) (q : List ℕ) (t : ClientTalk) (p : List ℕ) (x : Endpoint) → Accepts (client c) (due o q t) p x → Accepts (client c) t p x
due_is c true q t p x a = a
due_is c false q t p x a = a

due_of : (c : Kept) (o : Bool) (q : List ℕ) (t : ClientTalk) (p : List ℕ) (x : Endpoint) → Accepts (client c) t p x → Accepts (client c) (due o q t) p x
due_of c true q t p x a = a
due_of c false q t p x a = a

-- ---- from each wait on

-- a message of known bytes, and what follows
then_is : (c : Kept) (e : Reply) (k : List ℕ → ClientTalk) (p w : List ℕ) (x : Endpoint) → Bytes p → ((m : List ℕ) → Inverse e m (bound_by e m) → m ≡ w) → Accepts (client c) (await e k) p x
    → (l : List ℕ) × (p ≡ w ++ l) × Bytes l × Accepts (client c) (k w) l x
then_is c e k p w x y h (m, l, s, g, a) =
    let z = h m (inverse (message_is c e m (bytes_left m l (rw s at y)) g)) in
    (l, s ∙ ap (λ (v : List ℕ). v ++ l) z, bytes_right m l (rw s at y), subst (λ (v : List ℕ). Accepts (client c) (k v) l x) z a)

-- the last message, and what it names
last_is : (c : Kept) (e : Reply) (p : List ℕ) (x : Endpoint) → Bytes p → Accepts (client c) (await e (λ m. stop (done (bound_by e m)))) p x → Inverse e p x
last_is c e p x y (m, l, s, g, z) =
    let w : p ≡ m = s ∙ rw (z.0, append-nil) in
    let n : bound_by e p ≡ x = ap (bound_by e) w ∙ z.1 in
    rw n at (inverse (message_is c e p y (rw w g)))

last_of : (c : Kept) (e : Reply) (w : List ℕ) (x : Endpoint) → Word e w x → Accepts (client c) (await e (λ m. stop (done (bound_by e m)))) w x
last_of c e w x v = (w, [], sym (append-nil w), message_of c e w v, (refl, word_names e w x v))

module _ (c : Kept) (x : Endpoint) where
  no_auth_is : (p : List ℕ) → Bytes p → Accepts (client c) (talk_at c (NegotiationRes NoAuth)) p x → (a : List ℕ) × (p ≡ 5 ∷ 0 ∷ 5 ∷ 0 ∷ 0 ∷ a) × BoundField a x
  no_auth_is p y v =
      let (l, e, y', b) = then_is c (NegotiationRes NoAuth) (λ r. after_method NoAuth c) p (5 ∷ 0 ∷ []) x y (λ m i. i) v in
      let (a, i, z) = last_is c ProxyRes l x y' (due_is c c.optimistic c.proxy at_proxy_res l x b) in
      (a, cc, z)

  user_pass_is : (p : List ℕ) → Bytes p → Accepts (client c) (talk_at c (NegotiationRes UserPass)) p x → (a : List ℕ) × (p ≡ 5 ∷ 2 ∷ 1 ∷ 0 ∷ 5 ∷ 0 ∷ 0 ∷ a) × BoundField a x
  user_pass_is p y v =
      let (l, e, y', b) = then_is c (NegotiationRes UserPass) (λ r. after_method UserPass c) p (5 ∷ 2 ∷ []) x y (λ m i. i) v in
      let d = due_is c c.optimistic c.authentication (at_authentication_res c) l x b in
      let (l', e', y'', b') = then_is c AuthenticationRes (λ m. due c.optimistic c.proxy at_proxy_res) l (1 ∷ 0 ∷ []) x y' (λ m i. i) d in
      let (a, i, z) = last_is c ProxyRes l' x y'' (due_is c c.optimistic c.proxy at_proxy_res l' x b') in
      (a, cc, z)

  proxy_of : (a : List ℕ) → BoundField a x → Accepts (client c) (due c.optimistic c.proxy at_proxy_res) (5 ∷ 0 ∷ 0 ∷ a) x
  proxy_of a b = due_of c c.optimistic c.proxy at_proxy_res (5 ∷ 0 ∷ 0 ∷ a) x (last_of c ProxyRes (5 ∷ 0 ∷ 0 ∷ a) x (connected b))

  no_auth_of : (a : List ℕ) → BoundField a x → Accepts (client c) (talk_at c (NegotiationRes NoAuth)) (5 ∷ 0 ∷ 5 ∷ 0 ∷ 0 ∷ a) x
  no_auth_of a b = (5 ∷ 0 ∷ [], 5 ∷ 0 ∷ 0 ∷ a, refl, message_of c (NegotiationRes NoAuth) (5 ∷ 0 ∷ []) method_00, proxy_of a b)

  user_pass_of : (a : List ℕ) → BoundField a x → Accepts (client c) (talk_at c (NegotiationRes UserPass)) (5 ∷ 2 ∷ 1 ∷ 0 ∷ 5 ∷ 0 ∷ 0 ∷ a) x
  user_pass_of a b = (
    5 ∷ 2 ∷ [],
    1 ∷ 0 ∷ 5 ∷ 0 ∷ 0 ∷ a,
    refl,
    message_of c (NegotiationRes UserPass) (5 ∷ 2 ∷ []) method_02,
    due_of c c.optimistic c.authentication (at_authentication_res c) (1 ∷ 0 ∷ 5 ∷ 0 ∷ 0 ∷ a) x
        (1 ∷ 0 ∷ [], 5 ∷ 0 ∷ 0 ∷ a, refl, message_of c AuthenticationRes (1 ∷ 0 ∷ []) accepted, proxy_of a b),
  )

-- ---- the opening's talk accepts just the sequences

version4_is : {d : Destination4} {port : ℕ} {p : List ℕ} {x : Endpoint} → Inverse Response p x → Sequence (v4 d port) p x
version4_is (q, a, e, n, l, k) = rw (e, n) (version4 q a l k)

pub sequence_is : (o : Opening) (p : List ℕ) (x : Endpoint) → Bytes p → Accepts (side o) (begun o) p x → Sequence o p x
sequence_is (v5 no_auth d port false) p x y v = let (a, e, b) = no_auth_is (kept (v5 no_auth d port false)) x p y v in rw e (plain b)
sequence_is (v5 no_auth d port true) p x y v = let (a, e, b) = no_auth_is (kept (v5 no_auth d port true)) x p y v in rw e (plain b)
sequence_is (v5 (user_pass u w) d port false) p x y v = let (a, e, b) = user_pass_is (kept (v5 (user_pass u w) d port false)) x p y v in rw e (credentials b)
sequence_is (v5 (user_pass u w) d port true) p x y v = let (a, e, b) = user_pass_is (kept (v5 (user_pass u w) d port true)) x p y v in rw e (credentials b)
sequence_is (v4 d port) p x y v = version4_is (last_is (kept (v4 d port)) Response p x y v)

pub sequence_of : (o : Opening) (p : List ℕ) (x : Endpoint) → Sequence o p x → Accepts (side o) (begun o) p x
sequence_of _ _ _ (plain {d} {port} {o = false} {a} {x} b) = no_auth_of (kept (v5 no_auth d port false)) x a b
sequence_of _ _ _ (plain {d} {port} {o = true} {a} {x} b) = no_auth_of (kept (v5 no_auth d port true)) x a b
sequence_of _ _ _ (credentials {u} {p} {d} {port} {o = false} {a} {x} b) = user_pass_of (kept (v5 (user_pass u p) d port false)) x a b
sequence_of _ _ _ (credentials {u} {p} {d} {port} {o = true} {a} {x} b) = user_pass_of (kept (v5 (user_pass u p) d port true)) x a b
sequence_of _ _ _ (version4 {d} {port} q a l k) = last_of (kept (v4 d port)) Response (0 ∷ 0x5A ∷ (q ++ a)) (endpoint (ipv4 a) (two_of q)) (granted q a l k)

-- ---- the plain machine

pub outcome_open : (s : Session Reply Endpoint SocksError) → outcome_of s ≡ Open → s ≡ ended (done (bound_in s))
outcome_open (waiting s h) q = let z : ◌≡◌ {A = ℕ} 0 1 = cc in absurd (omega arith)
outcome_open (ended (done x)) q = refl
outcome_open (ended (failed e)) q = let z : ◌≡◌ {A = ℕ} 0 1 = cc in absurd (omega arith)

pub outcome_feed : (o : Opening) (bs : List ℕ) → (machine o bs).outcome ≡ outcome_of (feed (side o) (begun o) bs).session
outcome_feed o bs = ap (λ (m : Machine). m.outcome) (machine_feed o bs)

bound_feed : (o : Opening) (bs : List ℕ) → (machine o bs).bound ≡ bound_in (feed (side o) (begun o) bs).session
bound_feed o bs = ap (λ (m : Machine). m.bound) (machine_feed o bs)

-- what a beginning that is a reply sequence comes to
record Opened (o : Opening) (bs p : List ℕ) (x : Endpoint) : Type 0 where
  is : (machine o bs).outcome ≡ Open
  long : used o bs ≡ length p
  named : (machine o bs).bound ≡ x

opened : (o : Opening) (bs p : List ℕ) (x : Endpoint) → Begins p bs → Sequence o p x → Opened o bs p x
opened o bs p x b s =
    let d = opens (side o) (client_lawful (kept o)) (begun o) bs p x b (sequence_of o p x s) in
    record {
      is = outcome_feed o bs ∙ rw d.session;
      long = used_feed o bs ∙ rw d.session (add-zero _ ∙ d.place);
      named = bound_feed o bs ∙ rw d.session;
    }

replied : (o : Opening) (bs : List ℕ) → Bytes bs → (machine o bs).outcome ≡ Open → (p : List ℕ) × Begins p bs × Sequence o p (machine o bs).bound
replied o bs y q =
    let e = outcome_open (feed (side o) (begun o) bs).session (sym (outcome_feed o bs) ∙ q) in
    let (p, (f, s), a) = parsed (side o) (client_lawful (kept o)) (begun o) bs (bound_in (feed (side o) (begun o) bs).session) e in
    (p, (f, s), rw (bound_feed o bs) (sequence_is o p _ (bytes_left p f (rw s at y)) a))

-- open exactly when the bytes begin with a reply sequence
pub open_just : (o : Opening) (bs : List ℕ) → Bytes bs → (machine o bs).outcome ≡ Open ↔ Replied o bs
open_just o bs y = (λ q. let (p, b, s) = replied o bs y q in (p, (machine o bs).bound, b, s), λ (p, x, b, s). (opened o bs p x b s).is)

same_beginning : (p p' bs : List ℕ) → Begins p bs → Begins p' bs → length p ≡ length p' → p ≡ p'
same_beginning p p' bs (q, b) (q', b') l = sym (take_at p q (length p) refl) ∙ ap (take (length p)) (sym b ∙ b') ∙ take_at p' q' (length p) (sym l)

-- and then it is the only one, so many bytes are used, and the address is the one that it names
pub open_one : (o : Opening) (bs : List ℕ) → Bytes bs → (machine o bs).outcome ≡ Open → JustOne o bs (used o bs) (machine o bs).bound
open_one o bs y q =
    let (p, b, s) = replied o bs y q in
    let n = (opened o bs p (machine o bs).bound b s).long in
    record {
      begin = p;
      begins = b;
      is = s;
      only = λ p' x b' s'. let w = opened o bs p' x b' s' in (same_beginning p' p bs b' b (sym w.long ∙ n), sym w.named);
      long = n;
    }

-- ---- what follows the used bytes of a settled machine changes nothing

pub over_settled : (s : Session Reply Endpoint SocksError) → (outcome_of s ≡ Waiting → ⊥) → is_over s ≡ true
over_settled (waiting s h) w = absurd (w refl)
over_settled (ended e) w = refl

reached_place : (o : Opening) (bs : List ℕ) → is_over (feed (side o) (begun o) bs).session ≡ true
    → used o bs ≡ (feed (side o) (begun o) bs).place
reached_place o bs w = used_feed o bs ∙ go (feed (side o) (begun o) bs).session w
  where
    go : (s : Session Reply Endpoint SocksError) → is_over s ≡ true → (feed (side o) (begun o) bs).place + length (held_by s) ≡ (feed (side o) (begun o) bs).place
    go (waiting s h) w = absurd (true≢false (sym w))
    go (ended e) w = add-zero _

pub settled_same : (o : Opening) (bs more : List ℕ) → ((machine o bs).outcome ≡ Waiting → ⊥) → machine o (take (used o bs) bs ++ more) ≡ machine o bs
settled_same o bs more w =
    let v = over_settled (feed (side o) (begun o) bs).session (λ q. w (outcome_feed o bs ∙ q)) in
    let u = feed_used (side o) (client_lawful (kept o)) (begun o) bs more v in
    machine_feed o (take (used o bs) bs ++ more) ∙ rw (reached_place o bs v, u) (sym (machine_feed o bs))
