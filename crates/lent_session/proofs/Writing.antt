-- A session is read back from its writing, and lent bytes that mean a session that awaits are its writing. A write of a field is the writing of the session with it changed.
use Rattle.std.proofs.Common.{◌≡◌, ℕ, ◌+◌, ◌*◌, ◌/◌, ◌%◌, ◌^◌, ◌<◌, ◌≤◌, Bool, true, false, List, ◌∷◌, ◌++◌, length, take, drop, set, sym, refl, ap, ◌∙◌, add-zero, add-one, arith, length-append, length-drop, take-append-drop, length-take, drop-cons, drop-drop, take_at, drop_at}
use Rattle.protocol.specs.declared.Bound.{Bound}
use Rattle.protocol.specs.declared.Reply.{Reply}
use Rattle.protocol.specs.declared.SocksError.{SocksError}
use Rattle.protocol.specs.Bytes.{Bytes, byte}
use Rattle.protocol.specs.Numbers as numbers
use Rattle.protocol.proofs.Bytes.{bytes_part}
use Rattle.buffers.specs.write.Written.{overwrite}
use Rattle.buffers.proofs.write.Laws.{length_overwrite}
use Rattle.client_stages.specs.declared.due.Stage.{Stage}
use Rattle.client_stages.specs.declared.due.Stage.TheVariants.{Awaiting, Open, Failed}
use Rattle.client_delivery.specs.declared.piece.Taken.{Taken}
use Rattle.client_session.specs.declared.Session.{Session}
use Rattle.lent_numbers.specs.bytes.Numbers.{number, digits}
use Rattle.lent_numbers.proofs.bytes.Laws.{number_digits, digits_number, overwrite_first, overwrite_second}
use Rattle.lent_session.specs.State.{session_at, reply_number, stage_number, kind_number, code_of, error_number, status_number, state_of}
use Rattle.lent_session.specs.Fits.{Fits}
use Rattle.lent_session.specs.delivery.Changes.{at, holding, trying, settled, appended}
use Rattle.lent_session.proofs.Codes.{bit_back, kind_back, stage_back, code_small, code_stage, code_started, code_optimistic, code_kind, code_staged, code_opened, code_begun, Awaits, awaits, code_whole}

-- a session fits with the requests of one that fits
pub refit : {x : Session} → Fits x → {g : Stage} {b : Bool} {n a : ℕ} {h : List ℕ} {k : Bound} → a < 2 ^ 64 → n < 65536 → k.port < 65536 → length h ≡ 261
    → Fits (record { stage = g; started = b; held = n; hold = h; bound = k; attempts = a; requests = x.requests })
refit f a n p l = record { attempts = a; held = n; first = f.first; authentication = f.authentication; proxy = f.proxy; port = p; hold = l; bytes = f.bytes }

-- ---- a session is read back

pub state_long : (x : Session) → length x.hold ≡ 261 → length x.requests.bytes ≡ 1024 → length (state_of x) ≡ 1306
unfolding digits
state_long x h b = rw (length-append x.hold x.requests.bytes, h, b)

module _ (x : Session) (f : Fits x) where
  abbrev code : ℕ
  code = code_of x.stage x.started x.requests.lengths.optimistic x.bound.kind

  pub state_back : session_at (state_of x) ≡ x
  unfolding digits
  state_back =
      let g = x.stage in
      let b = x.started in
      let o = x.requests.lengths.optimistic in
      let k = x.bound.kind in
      let l = x.requests.lengths in
      let stage = stage_back g code (code_stage g b o k) (code_small g b o k) in
      let started = bit_back b (code / 8 % 2) (code_started g b o k) in
      let optimistic = bit_back o (code / 16 % 2) (code_optimistic g b o k) in
      let kind = kind_back k (code / 32) (code_kind g b o k) in
      let held = number_digits 2 x.held f.held in
      let port = number_digits 2 x.bound.port f.port in
      let attempts = number_digits 8 x.attempts f.attempts in
      let first = number_digits 2 l.first f.first in
      let authentication = number_digits 2 l.authentication f.authentication in
      let proxy = number_digits 2 l.proxy f.proxy in
      let hold = take_at x.hold x.requests.bytes 261 f.hold in
      let bytes = drop_at x.hold x.requests.bytes 261 f.hold in
      λ i. record {
        stage = stage i;
        started = started i;
        held = held i;
        hold = hold i;
        bound = record { kind = kind i; port = port i };
        attempts = attempts i;
        requests = record { lengths = record { optimistic = optimistic i; first = first i; authentication = authentication i; proxy = proxy i }; bytes = bytes i };
      }

-- ---- bytes are a writing

module _ (s : List ℕ) (y : Bytes s) where
  digits_part : (n m : ℕ) → n + m ≤ length s → digits m (number (take m (drop n s))) ≡ take m (drop n s)
  digits_part n m h =
      let l : length (take m (drop n s)) ≡ m = simp (length-take, length-drop) (omega arith) in
      rw l at (digits_number (take m (drop n s)) (bytes_part s n m y))

  -- the bytes of a field, and all that follow
  join : (n m : ℕ) → n + m ≤ length s → {t : List ℕ} → t ≡ drop (n + m) s → digits m (number (take m (drop n s))) ++ t ≡ drop n s
  join n m h q = rw (digits_part n m h, q, ← drop-drop m n s) (take-append-drop m (drop n s))

  cons : (n : ℕ) → n < length s → {t : List ℕ} {b : ℕ} → b ≡ byte s n → t ≡ drop (n + 1) s → b ∷ t ≡ drop n s
  cons n h q r = rw (q, r, add-one n) (sym (drop-cons s n 0 h))

  pub state_written : length s ≡ 1306 → (e : Reply) → (session_at s).stage ≡ Awaiting e → state_of (session_at s) ≡ s
  state_written l e w =
      let a : Awaits (byte s 18) (byte s 19) (byte s 20) e = awaits (byte s 18) (byte s 19) (byte s 20) e w in
      let c : code_of (session_at s).stage (session_at s).started (session_at s).requests.lengths.optimistic (session_at s).bound.kind ≡ byte s 18 =
      ap (λ (g : Stage). code_of g (session_at s).started (session_at s).requests.lengths.optimistic (session_at s).bound.kind) w ∙ code_whole (byte s 18) e a.number a.small in
      let err : error_number (session_at s).stage ≡ byte s 19 = ap error_number w ∙ sym a.error in
      let st : status_number (session_at s).stage ≡ byte s 20 = ap status_number w ∙ sym a.status in
      let hold : take 261 (drop 21 s) ++ drop 282 s ≡ drop 21 s = ap (λ (t : List ℕ). take 261 (drop 21 s) ++ t) (sym (drop-drop 261 21 s)) ∙ take-append-drop 261 (drop 21 s) in
      join 0 8 (omega arith) (join 8 2 (omega arith) (join 10 2 (omega arith) (join 12 2 (omega arith) (join 14 2 (omega arith) (join 16 2 (omega arith)
      (cons 18 (omega arith) c (cons 19 (omega arith) err (cons 20 (omega arith) st hold))))))))

-- ---- writes of fields

-- a session's writing with other numbers for its stage
abbrev pub with : Session → ℕ → ℕ → ℕ → List ℕ
with x c n t =
    digits 8 x.attempts
    ++ (digits 2 x.held
    ++ (digits 2 x.requests.lengths.first
    ++ (digits 2 x.requests.lengths.authentication
    ++ (digits 2 x.requests.lengths.proxy ++ (digits 2 x.bound.port ++ (c ∷ n ∷ t ∷ (x.hold ++ x.requests.bytes)))))))

module _ (x : Session) {s : List ℕ} (q : s ≡ state_of x) where
  pub tried_as : Fits x → (n : ℕ) {m k : ℕ} → m ≡ number (take 8 s) → k ≡ (m + n) % 2 ^ 64 → overwrite s 0 (digits 8 k) ≡ state_of (trying n x)
  unfolding overwrite digits
  tried_as f n {m} {k} r w =
      let a : m ≡ x.attempts = r ∙ ap (λ (l : List ℕ). number (take 8 l)) q ∙ number_digits 8 x.attempts f.attempts in
      rw q (ap (λ (j : ℕ). state_of (record { stage = x.stage; started = x.started; held = x.held; hold = x.hold; bound = x.bound; attempts = j; requests = x.requests })) (w ∙ ap (λ (j : ℕ). (j + n) % 2 ^ 64) a))

  -- so many attempts more, and so many bytes held
  pub counted_as : Fits x → (n m : ℕ) {a k : ℕ} {s₁ s₂ : List ℕ} → a ≡ number (take 8 s) → k ≡ (a + n) % 2 ^ 64 → s₁ ≡ overwrite s 0 (digits 8 k) → s₂ ≡ overwrite s₁ 8 (digits 2 m) → s₂ ≡ state_of (at x.stage m x.bound (trying n x))
  unfolding overwrite digits
  counted_as f n m r w u v = v ∙ ap (λ (l : List ℕ). overwrite l 8 (digits 2 m)) (u ∙ tried_as f n r w)

  pub hold_as : (n : ℕ) (p : List ℕ) → n + length p ≤ length x.hold → overwrite s (21 + n) p ≡ state_of (holding (overwrite x.hold n p) x)
  unfolding digits
  hold_as n p h =
      let front : List ℕ = take 21 (state_of x) in
      ap (λ (l : List ℕ). overwrite l (21 + n) p) q ∙ overwrite_second front (x.hold ++ x.requests.bytes) p 21 n refl ∙ ap (λ (l : List ℕ). front ++ l) (overwrite_first x.hold x.requests.bytes p n h)

  pub held_as : (n : ℕ) → overwrite s 8 (digits 2 n) ≡ state_of (at x.stage n x.bound x)
  unfolding overwrite digits
  held_as n = rw q

  pub started_as : x.started ≡ false → set s 18 (byte s 18 + 8) ≡ state_of (record { stage = x.stage; started = true; held = x.held; hold = x.hold; bound = x.bound; attempts = x.attempts; requests = x.requests })
  unfolding digits
  started_as w =
      let g = x.stage in
      let o = x.requests.lengths.optimistic in
      let k = x.bound.kind in
      rw q (ap (λ (c : ℕ). with x c (error_number g) (status_number g)) (ap (λ (b : Bool). code_of g b o k + 8) w ∙ code_begun g o k))

  module _ {e : Reply} (w : x.stage ≡ Awaiting e) where
    abbrev marked : ℕ → ℕ
    marked n = byte s 18 / 8 * 8 + n

    coded : (g : Stage) {n : ℕ} → n ≡ stage_number g → marked n ≡ code_of g x.started x.requests.lengths.optimistic x.bound.kind
    unfolding digits
    coded g r = rw (q, r) (code_staged x.stage x.started x.requests.lengths.optimistic x.bound.kind g)

    pub awaited_as : (e' : Reply) {n : ℕ} → n ≡ reply_number e' → set s 18 (marked n) ≡ state_of (at (Awaiting e') x.held x.bound x)
    unfolding digits
    awaited_as e' {n} r =
        let c = coded (Awaiting e') r in
        ap (λ (l : List ℕ). set l 18 (marked n)) q ∙ (λ i. with x (c i) (error_number (w i)) (status_number (w i)))

    pub failed_as : (y : SocksError) {n t : ℕ} → n ≡ numbers.number y → t ≡ numbers.status y → set (set (set s 18 (byte s 18 / 8 * 8)) 19 n) 20 t ≡ state_of (at (Failed y) x.held x.bound x)
    unfolding digits
    failed_as y {n} {t} r u =
        let c : byte s 18 / 8 * 8 ≡ code_of (Failed y) x.started x.requests.lengths.optimistic x.bound.kind = sym (add-zero (byte s 18 / 8 * 8)) ∙ coded (Failed y) refl in
        ap (λ (l : List ℕ). set (set (set l 18 (byte s 18 / 8 * 8)) 19 n) 20 t) q ∙ (λ i. with x (c i) (r i) (u i))

    pub opened_as : (b : Bound) {k : ℕ} → k ≡ kind_number b.kind → overwrite (set s 18 (byte s 18 % 32 / 8 * 8 + 7 + 32 * k)) 16 (digits 2 b.port) ≡ state_of (at Open x.held b x)
    unfolding overwrite digits
    opened_as b {k} r =
        let c : byte s 18 % 32 / 8 * 8 + 7 + 32 * k ≡ code_of Open x.started x.requests.lengths.optimistic b.kind = rw (q, r) (code_opened x.stage x.started x.requests.lengths.optimistic x.bound.kind b.kind) in
        ap (λ (l : List ℕ). overwrite (set l 18 (byte s 18 % 32 / 8 * 8 + 7 + 32 * k)) 16 (digits 2 b.port)) q
        ∙ (λ i. with (at Open x.held b x) (c i) (error_number (w i)) (status_number (w i)))

-- ---- a piece held behind what is held

pub appended_as : (x : Session) {s : List ℕ} → s ≡ state_of x → Fits x → (p : List ℕ) {held : ℕ} → x.held ≡ held → held + length p ≤ 261 → {s₁ s₂ s₃ : List ℕ} {a k : ℕ} → s₁ ≡ overwrite s (21 + held) p → a ≡ number (take 8 s₁)
    → k ≡ (a + 1) % 2 ^ 64 → s₂ ≡ overwrite s₁ 0 (digits 8 k) → s₃ ≡ overwrite s₂ 8 (digits 2 (held + length p)) → s₃ ≡ state_of (appended p x)
appended_as x q f p {held} z r c a k u v =
    let h = x.hold in
    let l = length_overwrite h held p (omega (arith, f.hold)) ∙ f.hold in
    counted_as (holding (overwrite h held p) x) (c ∙ hold_as x q held p (omega (arith, f.hold))) (refit f f.attempts f.held f.port l) 1 (held + length p) a k u v
    ∙ ap (λ (n : ℕ). state_of (at x.stage (n + length p) x.bound (holding (overwrite h n p) (trying 1 x)))) (sym z)

-- ---- what a piece came to

settled_is : (t : Taken) (x : Session) {g : Stage} {b : Bound} → t.stage ≡ g → t.bound ≡ b → state_of (at g t.held b (trying t.attempts x)) ≡ state_of (settled t x)
settled_is t x p q = λ i. state_of (at (sym p i) t.held (sym q i) (trying t.attempts x))

pub settled_as : (t : Taken) (x : Session) {s : List ℕ} → s ≡ state_of x → Fits x → {a k : ℕ} {s₁ s₂ s₃ : List ℕ} → a ≡ number (take 8 s) → k ≡ (a + t.attempts) % 2 ^ 64 → s₁ ≡ overwrite s 0 (digits 8 k) → s₂ ≡ overwrite s₁ 8 (digits 2 t.held)
    → {g : Stage} {b : Bound} → t.stage ≡ g → t.bound ≡ b
    → (s₂ ≡ state_of (at x.stage t.held x.bound (trying t.attempts x)) → s₃ ≡ state_of (at g t.held b (trying t.attempts x))) → s₃ ≡ state_of (settled t x)
settled_as t x q f r w u v p z put = put (counted_as x q f t.attempts t.held r w u v) ∙ settled_is t x p z

pub waits_not_open : {g : Stage} {e : Reply} → g ≡ Awaiting e → g ≡ Open → ⊥
waits_not_open p q = let z : ◌≡◌ {A = ℕ} 0 1 = cc in absurd (omega arith)

pub failed_not_open : {g : Stage} {y : SocksError} → g ≡ Failed y → g ≡ Open → ⊥
failed_not_open p q = let z : ◌≡◌ {A = ℕ} 0 1 = cc in absurd (omega arith)
