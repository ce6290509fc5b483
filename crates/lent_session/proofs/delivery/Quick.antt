-- Bytes that do not decide a reply, and a piece of them taken.
use Rattle.std.proofs.Common.{◌≡◌, ℕ, ◌+◌, ◌-◌, ◌<◌, ◌≤◌, Bool, true, false, cond, leb, List, ◌++◌, length, take, drop, sym, refl, ap, ◌∙◌, append_assoc, zero-le, le_refl, zero-add, arith, length-append, length-drop, length-take, get_or-drop, get_or-take, eq-eqb, le-leb}
use lib.ListN.{get_or-append}
use borrow.Author.Tests.{lt-leb}
use Rattle.protocol.specs.declared.AuthMethod.TheVariants.{NoAuth, UserPass, NoneAcceptable}
use Rattle.protocol.specs.declared.Reply.{Reply}
use Rattle.protocol.specs.declared.Reply.TheVariants.{NegotiationRes, AuthenticationRes, ProxyRes, Response}
use Rattle.protocol.specs.Answers.{Undecided}
use Rattle.protocol.specs.declared.Bound.{Bound}
use Rattle.protocol.specs.Bytes.{byte}
use Rattle.protocol.specs.Bound.{unbound}
use Rattle.protocol.specs.Replies.{head_allowed, type_allowed, proxy_size, proxy_at, decide}
use Rattle.buffers.specs.write.Written.{overwrite}
use Rattle.replies.specs.unread.Fewest.{fewest}
use Rattle.replies.proofs.unread.Reading.{too_few}
use Rattle.client_stages.specs.declared.due.Lengths.{Lengths}
use Rattle.client_stages.specs.declared.due.Stage.TheVariants.{Awaiting}
use Rattle.client_delivery.specs.turns.Turns.{kept_in}
use Rattle.client_delivery.proofs.turns.Steps.{stage_rests, rests_decided}
use Rattle.client_delivery.specs.piece.Takes.{TakeResult}
use Rattle.client_delivery.proofs.piece.Keeping.{held_long, keeps_waits}
use Rattle.talk.specs.Talk.{waiting}
use Rattle.lent_session.specs.State.{reply_number}
use Rattle.lent_session.specs.delivery.Quick.{Fewest}

-- ---- by the reply alone

module _ (held : ℕ) (hold p : List ℕ) (long : length hold ≡ 261) (inside : held ≤ 261) where
  bytes_long : length (take held hold ++ p) ≡ held + length p
  bytes_long = length-append (take held hold) p ∙ ap (λ (k : ℕ). k + length p) (held_long held hold long inside)

  fewest_few : (e : Reply) {k : ℕ} → k ≤ fewest e → held + length p < k → decide e (take held hold ++ p) ≡ Undecided
  fewest_few e h w = too_few e (take held hold ++ p) (omega (arith, bytes_long))

pub fewest_two : (e : Reply) {n : ℕ} → n ≡ reply_number e → n < 5 → (held : ℕ) (hold : List ℕ) → length hold ≡ 261 → held ≤ 261 → Fewest e held hold 2
fewest_two (NegotiationRes m) q h held hold l i p w = fewest_few held hold p l i (NegotiationRes m) (le_refl 2) w
fewest_two AuthenticationRes q h held hold l i p w = fewest_few held hold p l i AuthenticationRes (le_refl 2) w
fewest_two ProxyRes q h held hold l i p w = absurd (omega arith)
fewest_two Response q h held hold l i p w = absurd (omega arith)

pub fewest_eight : (e : Reply) {n : ℕ} → n ≡ reply_number e → n ≡ 6 → (held : ℕ) (hold : List ℕ) → length hold ≡ 261 → held ≤ 261 → Fewest e held hold 8
fewest_eight (NegotiationRes NoAuth) q h held hold l i p w = absurd (omega arith)
fewest_eight (NegotiationRes UserPass) q h held hold l i p w = absurd (omega arith)
fewest_eight (NegotiationRes NoneAcceptable) q h held hold l i p w = absurd (omega arith)
fewest_eight AuthenticationRes q h held hold l i p w = absurd (omega arith)
fewest_eight ProxyRes q h held hold l i p w = absurd (omega arith)
fewest_eight Response q h held hold l i p w = fewest_few held hold p l i Response (le_refl 8) w

pub is_proxy : (e : Reply) {n : ℕ} → n ≡ reply_number e → 5 ≤ n → (n ≡ 6 → ⊥) → ProxyRes ≡ e
is_proxy (NegotiationRes NoAuth) q h s = absurd (omega arith)
is_proxy (NegotiationRes UserPass) q h s = absurd (omega arith)
is_proxy (NegotiationRes NoneAcceptable) q h s = absurd (omega arith)
is_proxy AuthenticationRes q h s = absurd (omega arith)
is_proxy ProxyRes q h s = refl
is_proxy Response q h s = absurd (s q)

pub fewest_three : (held : ℕ) (hold : List ℕ) → length hold ≡ 261 → held ≤ 261 → Fewest ProxyRes held hold 3
fewest_three held hold l i p w = fewest_few held hold p l i ProxyRes (le_refl 3) w

pub fewest_proxies : (e : Reply) → ProxyRes ≡ e → (held k : ℕ) (hold : List ℕ) → Fewest ProxyRes held hold k → Fewest e held hold k
fewest_proxies e q held k hold f p w = ap (λ (x : Reply). decide x (take held hold ++ p)) (sym q) ∙ f p w

pub hold_long : (s : List ℕ) → length s ≡ 1306 → length (take 261 (drop 21 s)) ≡ 261
hold_long s l = length-take 261 (drop 21 s) ∙ omega (arith, length-drop 21 s)

-- ---- a ProxyRes by its first five bytes

proxy_few : (bs : List ℕ) (k : ℕ) → head_allowed (byte bs 0) (byte bs 1) (byte bs 2) ≡ true → type_allowed (byte bs 3) (byte bs 4) ≡ true → proxy_size (byte bs 3) (byte bs 4) ≡ k → length bs < k → decide ProxyRes bs ≡ Undecided
unfolding decide proxy_at
proxy_few bs k h t z w = rw (h, t, z, lt-leb k (length bs) w) (both (leb 3 (length bs)) (leb 5 (length bs)))
  where
    both : (x y : Bool) → cond x (cond y Undecided Undecided) Undecided ≡ Undecided
    both true true = refl
    both true false = refl
    both false y = refl

-- the first five bytes of lent bytes' hold, as the code has them
pub record Head (s : List ℕ) : Type 0 where
  pub version : byte s 21 ≡ 5
  pub reply : byte s 22 ≤ 8
  pub reserved : byte s 23 ≡ 0

module _ (s : List ℕ) (l : length s ≡ 1306) (held : ℕ) (five : 5 ≤ held) (inside : held ≤ 261) (p : List ℕ) where
  abbrev hold : List ℕ
  hold = take 261 (drop 21 s)

  long : length hold ≡ 261
  long = hold_long s l

  byte_same : (i : ℕ) → i < 5 → byte (take held hold ++ p) i ≡ byte s (21 + i)
  byte_same i h = get_or-append (take held hold) p 0 i (omega (arith, held_long held hold long inside)) ∙ get_or-take held hold i 0 (omega arith) ∙ get_or-take 261 (drop 21 s) i 0 (omega arith) ∙ get_or-drop 21 s i 0

  head_stands : Head s → head_allowed (byte (take held hold ++ p) 0) (byte (take held hold ++ p) 1) (byte (take held hold ++ p) 2) ≡ true
  unfolding head_allowed
  head_stands h =
      rw (byte_same 0 (omega arith), byte_same 1 (omega arith), byte_same 2 (omega arith), eq-eqb (byte s 21) 5 h.version, le-leb (byte s 22) 8 h.reply, eq-eqb (byte s 23) 0 h.reserved)

  typed : (atyp k : ℕ) → byte s 24 ≡ atyp → type_allowed atyp (byte s 25) ≡ true → proxy_size atyp (byte s 25) ≡ k → Head s → held + length p < k → decide ProxyRes (take held hold ++ p) ≡ Undecided
  typed atyp k q t z h w =
      let b3 = byte_same 3 (omega arith) ∙ q in
      let b4 = byte_same 4 (omega arith) in
      proxy_few (take held hold ++ p) k (head_stands h) ((λ i. type_allowed (b3 i) (b4 i)) ∙ t) ((λ i. proxy_size (b3 i) (b4 i)) ∙ z) (omega (arith, bytes_long held hold p long inside))

  pub fewest_ipv4 : Head s → byte s 24 ≡ 1 → held + length p < 10 → decide ProxyRes (take held hold ++ p) ≡ Undecided
  unfolding type_allowed proxy_size
  fewest_ipv4 h q = typed 1 10 q refl refl h

  pub fewest_ipv6 : Head s → byte s 24 ≡ 4 → held + length p < 22 → decide ProxyRes (take held hold ++ p) ≡ Undecided
  unfolding type_allowed proxy_size
  fewest_ipv6 h q = typed 4 22 q refl refl h

  pub fewest_name : Head s → byte s 24 ≡ 3 → (byte s 25 ≡ 0 → ⊥) → {n : ℕ} → n ≡ byte s 25 → held + length p < 7 + n → decide ProxyRes (take held hold ++ p) ≡ Undecided
  unfolding type_allowed proxy_size
  fewest_name h q z r w = typed 3 (7 + byte s 25) q (le-leb 1 (byte s 25) (omega arith)) refl h (omega arith)

  pub fewest_other : held + length p < 3 → decide ProxyRes (take held hold ++ p) ≡ Undecided
  fewest_other w = fewest_three held hold long inside p w

-- ---- a piece that does not decide is held

-- bytes put behind the first n are the first n and they, put at the start
from_start : (n : ℕ) (hold p : List ℕ) → n ≤ length hold → overwrite hold 0 (take n hold ++ p) ≡ overwrite hold n p
unfolding overwrite
from_start n hold p h =
    let m : length (take n hold) ≡ n = length-take n hold ∙ omega arith in
    ap (λ (k : ℕ). (take n hold ++ p) ++ drop k hold) (zero-add _ ∙ length-append (take n hold) p ∙ ap (λ (k : ℕ). k + length p) m) ∙ append_assoc (take n hold) p (drop (n + length p) hold)

pub takes_undecided : (l : Lengths) (e : Reply) (n : ℕ) (hold p : List ℕ) (bound : Bound) → length hold ≡ 261 → decide e (take n hold ++ p) ≡ Undecided → n + length p ≤ 261
    → TakeResult l e (take n hold) p hold bound (record { stage = Awaiting e; held = n + length p; used = length p; from = 0; sent = 0; bound = bound; attempts = 1 }) (overwrite hold n p)
takes_undecided l e n hold p bound long d f =
    let m : length (take n hold) ≡ n = held_long n hold long (omega arith) in
    let y : n + length p ≡ n + length p - 0 = omega arith in
    let z : length (take n hold ++ p) ≤ 261 = omega (arith, length-append (take n hold) p) in
    record {
      session = waiting e (take n hold ++ p);
      place = 0;
      whole = λ b. stage_rests (kept_in l b) (Awaiting e) unbound (take n hold ++ p) (d, z);
      decided = 0;
      decides = λ b. rests_decided (kept_in l b) (Awaiting e) (take n hold ++ p) (d, z);
      keeps = (keeps_waits 0 (take n hold) p hold m zero-le unbound refl (ap (λ (k : ℕ). record { stage = Awaiting e; held = k; used = length p; from = 0; sent = 0; bound = bound; attempts = 1 }) y) (sym (from_start n hold p (omega arith)))).0;
      few = zero-le;
      inside = zero-le;
    }
