-- An end is read back from its writing, and lent bytes that mean an end that has not failed are its writing. A write of a part is the writing of the end with it changed.
use Prim.Native.Nat.{ℕ, ◌+◌, ◌≤◌, ◌<◌}
use native.Mathlib.Omega.{arith}
use native.Mathlib.Numerals.{add-one}
use mathlib.Core.Path.{◌≡◌, refl, sym, ap, ◌∙◌}
use mathlib.Core.Bool.{Bool}
use mathlib.Core.List.{List, ◌∷◌, ◌++◌}
use lib.ListN.{length, take, drop, set, replicate, length-append, length-take, length-drop, take-append-drop}
use lib.Seq.{take_at, drop_at, drop-drop, drop-cons}
use Rattle.protocol.specs.Bytes.{Bytes, byte}
use Rattle.protocol.proofs.Bytes.{bytes_part}
use Rattle.protocol.specs.declared.AddressKind.{AddressKind}
use Rattle.buffers.specs.write.Written.{overwrite, Wrote}
use Rattle.protocol.specs.declared.SocksError.TheVariants.{Settled}
use Rattle.proxy_spec.specs.declared.Stage.{Stage}
use Rattle.proxy_spec.specs.declared.Stage.TheVariants.{Failed}
use Rattle.proxy_session.specs.declared.Server.{Server}
use Rattle.raw_errors.specs.Errors.{error_of, error_among}
use Rattle.lent_numbers.specs.bytes.Numbers.{number, digits}
use Rattle.lent_numbers.proofs.bytes.Laws.{number_digits, digits_number}
use Rattle.lent_proxy.specs.State.{kept_at, limit, stage_at, stage_of, server_at, authenticates_at, code_of, stage_keeps, state_of}
use Rattle.lent_proxy.specs.Fits.{Fits, changed, staged, Rewrites}
use Rattle.lent_proxy.proofs.Codes.{code_small, code_stage, authenticates_back, kind_back, stage_back, keeps_small, code_whole, AtStage, at_stage_lem, Means, means}

-- ---- an end is read back

pub state_long : (x : Server) → length x.hold ≡ 1014 → length x.user.bytes ≡ 255 → length x.password.bytes ≡ 255 → length (state_of x) ≡ 1539
unfolding digits
state_long x h u p = rw (length-append x.hold (x.user.bytes ++ x.password.bytes), length-append x.user.bytes x.password.bytes, h, u, p)

module _ (x : Server) (f : Fits x) where
  abbrev code : ℕ
  code = code_of x.stage x.authenticates x.bound.kind

  abbrev rest : List ℕ
  rest = x.user.bytes ++ x.password.bytes

  pub state_back : server_at (state_of x) ≡ x
  unfolding digits
  state_back =
      let g = x.stage in
      let b = x.authenticates in
      let k = x.bound.kind in
      let m = number_digits 8 (stage_keeps g) (keeps_small g f.stage) in
      let stage : stage_of (stage_at code (number (digits 8 (stage_keeps g)))) (number (digits 8 (stage_keeps g))) ≡ g =
      ap (λ (n : ℕ). stage_of (stage_at code n) n) m ∙ stage_back code (code_small g b k) g (code_stage g b k) f.stage in
      let held = number_digits 2 x.held f.held in
      let port = number_digits 2 x.bound.port f.port in
      let hold = take_at x.hold rest 1014 f.hold in
      let behind : drop 1014 (x.hold ++ rest) ≡ rest = drop_at x.hold rest 1014 f.hold in
      let user : take 255 (drop 1014 (x.hold ++ rest)) ≡ x.user.bytes = ap (take 255) behind ∙ take_at x.user.bytes x.password.bytes 255 f.user in
      let password : drop 1269 (x.hold ++ rest) ≡ x.password.bytes =
      sym (drop-drop 255 1014 (x.hold ++ rest)) ∙ ap (drop 255) behind ∙ drop_at x.user.bytes x.password.bytes 255 f.user in
      λ i. record {
        stage = stage i;
        held = held i;
        hold = hold i;
        bound = record { kind = kind_back g b k i; port = port i };
        authenticates = authenticates_back g b k i;
        user = record { len = x.user.len; bytes = user i };
        password = record { len = x.password.len; bytes = password i };
      }

-- ---- bytes are a writing

module _ (s : List ℕ) (y : Bytes s) where
  digits_part : (n m : ℕ) → n + m ≤ length s → digits m (number (take m (drop n s))) ≡ take m (drop n s)
  digits_part n m h =
      let l : length (take m (drop n s)) ≡ m = simp (length-take, length-drop) (omega arith) in
      rw l at (digits_number (take m (drop n s)) (bytes_part s n m y))

  -- the bytes of a part, and all that follow
  join : (n m : ℕ) → n + m ≤ length s → {t : List ℕ} → t ≡ drop (n + m) s → digits m (number (take m (drop n s))) ++ t ≡ drop n s
  join n m h q = rw (digits_part n m h, q, ← drop-drop m n s) (take-append-drop m (drop n s))

  cons : (n : ℕ) → n < length s → {t : List ℕ} {b : ℕ} → b ≡ byte s n → t ≡ drop (n + 1) s → b ∷ t ≡ drop n s
  cons n h q r = rw (q, r, add-one n) (sym (drop-cons s n 0 h))

  onto : (n m : ℕ) {t : List ℕ} → t ≡ drop (n + m) s → take m (drop n s) ++ t ≡ drop n s
  onto n m q = rw (q, ← drop-drop m n s) (take-append-drop m (drop n s))

  pub state_written : length s ≡ 1539 → {n : ℕ} → n ≡ stage_at (byte s 4) (kept_at s) → (n ≡ 0 → ⊥) → state_of (server_at s) ≡ s
  state_written l {n} q z =
      let a : AtStage (byte s 4) (kept_at s) n = at_stage_lem (byte s 4) (kept_at s) q z in
      let w : Means n (kept_at s) = means n (kept_at s) a.keeps (omega (arith, a.stage)) in
      let g : (server_at s).stage ≡ stage_of n (kept_at s) = ap (λ (k : ℕ). stage_of k (kept_at s)) (sym q) in
      let c : code_of (server_at s).stage (server_at s).authenticates (server_at s).bound.kind ≡ byte s 4 =
      ap (λ (t : Stage). code_of t (server_at s).authenticates (server_at s).bound.kind) g ∙ code_whole (byte s 4) (stage_of n (kept_at s)) a.small (w.number ∙ a.stage) in
      let m : stage_keeps (server_at s).stage ≡ kept_at s = ap stage_keeps g ∙ w.keeps in
      let kept : digits 8 (stage_keeps (server_at s).stage) ++ drop 15 s ≡ drop 7 s = ap (λ (k : ℕ). digits 8 k ++ drop 15 s) m ∙ join 7 8 (omega arith) refl in
      let behind : take 1014 (drop 15 s) ++ (take 255 (drop 1029 s) ++ drop 1284 s) ≡ drop 15 s = onto 15 1014 (onto 1029 255 refl) in
      join 0 2 (omega arith) (join 2 2 (omega arith) (cons 4 (omega arith) c (cons 5 (omega arith) refl (cons 6 (omega arith) refl
      (ap (λ (t : List ℕ). digits 8 (stage_keeps (server_at s).stage) ++ t) behind ∙ kept)))))

-- ---- writes of parts

module _ (x : Server) where
  pub put_held : (n : ℕ) → overwrite (state_of x) 0 (digits 2 n) ≡ state_of (changed x x.stage n x.hold x.bound)
  unfolding overwrite digits
  put_held n = refl

  pub put_port : (n : ℕ) → overwrite (state_of x) 2 (digits 2 n) ≡ state_of (changed x x.stage x.held x.hold (record { kind = x.bound.kind; port = n }))
  unfolding overwrite digits
  put_port n = refl

  -- the code of a stage, and then what it keeps
  pub put_stage : (g : Stage) (k : AddressKind) → overwrite (set (state_of x) 4 (code_of g x.authenticates k)) 7 (digits 8 (stage_keeps g)) ≡ state_of (staged x g k)
  unfolding overwrite digits
  put_stage g k = refl

  pub put_hold : length x.hold ≡ 1014 → (h : List ℕ) → take 15 (state_of x) ++ (h ++ drop 1014 (drop 15 (state_of x))) ≡ state_of (changed x x.stage x.held h x.bound)
  unfolding digits
  put_hold l h = rw (drop_at x.hold (x.user.bytes ++ x.password.bytes) 1014 l)

module _ (g : Stage) (k : AddressKind) {s s' : List ℕ} {c m r : ℕ} {b : Bool} where
  pub stage_put : b ≡ authenticates_at (byte s 4) → c ≡ code_of g b k → m ≡ stage_keeps g → Wrote (set s 4 c) 7 (digits 8 m) r s' → Rewrites (λ x. staged x g k) s s'
  unfolding digits
  stage_put a d e w x q =
      let z : b ≡ x.authenticates = a ∙ ap (λ (t : List ℕ). authenticates_at (byte t 4)) q ∙ authenticates_back x.stage x.authenticates x.bound.kind in
      w.bytes ∙ rw (d, e, z, q) (put_stage x g k)

-- all zeros refuses everything: it was never set up
pub zeros_mean : (server_at (replicate 1539 0)).stage ≡ Failed Settled
unfolding number limit stage_at stage_of error_of error_among
zeros_mean = refl
