-- Lent bytes that are cleared, and what a set-up leaves in them.
use Prim.Native.Nat.{ℕ, zero, suc, ◌+◌, ◌-◌, ◌%◌, ◌≤◌, ◌<◌}
use native.Mathlib.Numerals.{add-one}
use native.Mathlib.Omega.{arith}
use mathlib.Core.Path.{◌≡◌, refl, sym, ap, subst, ◌∙◌}
use mathlib.Core.Bool.{Bool, true, false}
use mathlib.Core.List.{List, [], ◌∷◌, ◌++◌, append_assoc, append-nil}
use lib.ListN.{length, drop, set, replicate, length-append, length-set, length-replicate, replicate-append-replicate}
use lib.Seq.{drop-length}
use Rattle.protocol.specs.declared.AddressKind.TheVariants.{Ipv4}
use Rattle.protocol.specs.declared.SocksError.TheVariants.{CredentialTooLong}
use Rattle.protocol.specs.Bytes.{padded}
use Rattle.protocol.specs.Numbers.{answer_number}
use Rattle.buffers.specs.write.Written.{overwrite, Wrote}
use Rattle.buffers.proofs.write.Laws.{zeros_under}
use Rattle.proxy_spec.specs.declared.Field.TheVariants.{First}
use Rattle.proxy_spec.specs.declared.Stage.{Stage}
use Rattle.proxy_spec.specs.declared.Stage.TheVariants.{Awaiting, Failed}
use Rattle.proxy_session.specs.declared.Server.{Server}
use Rattle.proxy_session.specs.declared.SetUp.{SetUp}
use Rattle.proxy_session.specs.declared.Credential.{Credential}
use Rattle.proxy_session.specs.Server.{credential_of, fresh}
use Rattle.proxy_session.specs.Calls.{too_long, set_up}
use Rattle.proxy_session.proofs.Laws.{set_refused, set_without, set_with}
use Rattle.lent_numbers.specs.bytes.Numbers.{digits}
use Rattle.lent_proxy.specs.State.{server_at, state_of}
use Rattle.lent_proxy.specs.Fits.{Fits, StageFits, Rewrites, staged}
use Rattle.lent_proxy.specs.Calls.{SetsUp}
use Rattle.lent_proxy.specs.setting_up.Kept.{waits, Keeps}
use Rattle.lent_proxy.proofs.Writing.{state_back}
use Rattle.lent_proxy.proofs.delivery.Laws.{overwrite_behind, overwrite_within, header}

-- ---- zeros up to a place

cleared_next : (s : List ℕ) (i : ℕ) → i < length s → set (replicate i 0 ++ drop i s) i 0 ≡ replicate (suc i) 0 ++ drop (suc i) s
cleared_next [] i h = absurd (omega arith)
cleared_next (b ∷ bs) zero h = refl
cleared_next (b ∷ bs) (suc i) h = ap (λ (t : List ℕ). 0 ∷ t) (cleared_next bs i (omega arith))

pub cleared_on : (s : List ℕ) (i : ℕ) {t : List ℕ} → i < length s → t ≡ replicate i 0 ++ drop i s → set t i 0 ≡ replicate (i + 1) 0 ++ drop (i + 1) s
cleared_on s i h e = rw (e, add-one i) (cleared_next s i h)

pub cleared_all : (s : List ℕ) (i : ℕ) {t : List ℕ} → i ≡ length s → t ≡ replicate i 0 ++ drop i s → t ≡ replicate (length s) 0
cleared_all s i q e = e ∙ rw (q, drop-length s) (append-nil (replicate (length s) 0))

-- the first end
zeros_parted : replicate {A = ℕ} 1539 0 ≡ replicate 15 0 ++ (replicate 1014 0 ++ (replicate 255 0 ++ replicate 255 0))
zeros_parted =
    sym (ap (λ (t : List ℕ). replicate 15 0 ++ (replicate 1014 0 ++ t)) (replicate-append-replicate {A = ℕ} 255 255 0)
    ∙ ap (λ (t : List ℕ). replicate 15 0 ++ t) (replicate-append-replicate {A = ℕ} 1014 510 0)
    ∙ replicate-append-replicate {A = ℕ} 15 1524 0)

pub begun : (s : List ℕ) {t : List ℕ} → length s ≡ 1539 → t ≡ replicate (length s) 0 → set t 4 1 ≡ state_of waits
unfolding digits
begun s l e = rw (e, l) (ap (λ (t : List ℕ). set t 4 1) zeros_parted)

-- ---- credentials

text_written : (bs : List ℕ) → length bs ≤ 255 → overwrite (replicate 255 0) 0 bs ≡ padded 255 bs
text_written bs h = zeros_under 255 {next = 0 + length bs} (record { inside = omega (arith, length-replicate {A = ℕ} 255 0); place = refl; bytes = refl })

-- of a new end with these lengths and texts
abbrev with : ℕ → List ℕ → ℕ → List ℕ → Server
with n u m p = fresh (Awaiting First) true (record { len = n; bytes = u }) (record { len = m; bytes = p })

module _ (n m : ℕ) (u p bs : List ℕ) (h : length bs ≤ length u) where
  abbrev front : List ℕ
  front = header (with n u m p)

  put_user : overwrite (state_of (with n u m p)) 1029 bs ≡ state_of (with n (overwrite u 0 bs) m p)
  unfolding digits
  put_user =
      let l : length (front ++ replicate 1014 0) ≡ 1029 = length-append front (replicate 1014 0) ∙ ap (λ (k : ℕ). 15 + k) (length-replicate {A = ℕ} 1014 0) in
      ap (λ (t : List ℕ). overwrite t 1029 bs) (sym (append_assoc front (replicate 1014 0) (u ++ p)))
      ∙ overwrite_behind (front ++ replicate 1014 0) (u ++ p) bs 1029 0 l
      ∙ ap (λ (t : List ℕ). (front ++ replicate 1014 0) ++ t) (overwrite_within u p bs 0 (omega arith))
      ∙ append_assoc front (replicate 1014 0) (overwrite u 0 bs ++ p)

module _ (n m : ℕ) (u p bs : List ℕ) (k : length u ≡ 255) where
  put_password : overwrite (state_of (with n u m p)) 1284 bs ≡ state_of (with n u m (overwrite p 0 bs))
  unfolding digits
  put_password =
      let f : List ℕ = header (with n u m p) in
      let a : f ++ (replicate 1014 0 ++ (u ++ p)) ≡ (f ++ (replicate 1014 0 ++ u)) ++ p = sym (append_assoc f (replicate 1014 0 ++ u) p ∙ ap (λ (t : List ℕ). f ++ t) (append_assoc (replicate 1014 0) u p)) in
      let b : (f ++ (replicate 1014 0 ++ u)) ++ overwrite p 0 bs ≡ f ++ (replicate 1014 0 ++ (u ++ overwrite p 0 bs)) = append_assoc f (replicate 1014 0 ++ u) (overwrite p 0 bs) ∙ ap (λ (t : List ℕ). f ++ t) (append_assoc (replicate 1014 0) u (overwrite p 0 bs)) in
      let c : length (replicate 1014 0 ++ u) ≡ 1269 = length-append (replicate 1014 0) u ∙ rw (length-replicate {A = ℕ} 1014 0, k) in
      let l : length (f ++ (replicate 1014 0 ++ u)) ≡ 1284 = length-append f (replicate 1014 0 ++ u) ∙ ap (λ (i : ℕ). 15 + i) c in
      ap (λ (t : List ℕ). overwrite t 1284 bs) a ∙ overwrite_behind (f ++ (replicate 1014 0 ++ u)) p bs 1284 0 l ∙ b

padded_long : (bs : List ℕ) → length bs ≤ 255 → length (padded 255 bs) ≡ 255
padded_long bs h = length-append bs (replicate (255 - length bs) 0) ∙ omega (arith, length-replicate {A = ℕ} (255 - length bs) 0)

pub kept : (user password : List ℕ) {s s₁ s₂ : List ℕ} {r r₁ : ℕ} → s ≡ state_of waits → length user ≤ 255 → length password ≤ 255
    → Wrote (set (set (set s 4 17) 5 (length user % 256)) 6 (length password % 256)) 1029 user r s₁ → Wrote s₁ 1284 password r₁ s₂ → Keeps user password s₂
unfolding digits
kept user password q i j v w =
    let n : length user % 256 ≡ length user = omega arith in
    let m : length password % 256 ≡ length password = omega arith in
    let z : List ℕ = replicate 255 0 in
    w.bytes
    ∙ ap (λ (t : List ℕ). overwrite t 1284 password) (v.bytes ∙ ap (λ (t : List ℕ). overwrite (set (set (set t 4 17) 5 (length user % 256)) 6 (length password % 256)) 1029 user) q
    ∙ put_user (length user % 256) (length password % 256) z z user (omega (arith, length-replicate {A = ℕ} 255 0)) ∙ ap (λ (t : List ℕ). state_of (with (length user % 256) t (length password % 256) z)) (text_written user i))
    ∙ put_password (length user % 256) (length password % 256) (padded 255 user) z password (padded_long user i)
    ∙ ap (λ (t : List ℕ). state_of (with (length user % 256) (padded 255 user) (length password % 256) t)) (text_written password j)
    ∙ rw (n, m)

pub sets_long : (s : List ℕ) (a b c : ℕ) → length s ≡ 1539 → length (set (set (set s 4 a) 5 b) 6 c) ≡ 1539
sets_long s a b c l = length-set (set (set s 4 a) 5 b) 6 c ∙ length-set (set s 4 a) 5 b ∙ length-set s 4 a ∙ l

-- ---- a set-up

pub as_told : {a w : Bool} (user password : List ℕ) {r : ℕ} {s : List ℕ} → w ≡ a → SetsUp (set_up w user password) r s → SetsUp (set_up a user password) r s
as_told user password {r} {s} e u = subst (λ (b : Bool). SetsUp (set_up b user password) r s) e u

module _ (a : Bool) (user password : List ℕ) where
  sets : {v : SetUp} {r : ℕ} {s : List ℕ} → v ≡ set_up a user password → r ≡ answer_number v.answer → s ≡ state_of v.server → Fits v.server → SetsUp (set_up a user password) r s
  sets {v} {r} {s} e p l f = subst (λ (u : SetUp). SetsUp u r s) e (record { returned = p; left = l; means = ap server_at l ∙ state_back v.server f })

  fresh_fits : (g : Stage) (b : Bool) (u p : Credential) → StageFits g → length u.bytes ≡ 255 → Fits (fresh g b u p)
  fresh_fits g b u p f l = record { stage = f; held = omega arith; port = omega arith; hold = length-replicate {A = ℕ} 1014 0; user = l }

  pub sets_refused : too_long a user password ≡ true → {r : ℕ} {s₁ s : List ℕ} → s₁ ≡ state_of waits → Rewrites (λ x. staged x (Failed CredentialTooLong) Ipv4) s₁ s → StageFits (Failed CredentialTooLong) → r ≡ 5
      → SetsUp (set_up a user password) r s
  sets_refused t q b f p = sets (set_refused a user password refl t refl) p (b waits q) (fresh_fits (Failed CredentialTooLong) false (credential_of []) (credential_of []) f (padded_long [] (omega arith)))

  pub sets_without : too_long a user password ≡ false → a ≡ false → {r : ℕ} {s : List ℕ} → s ≡ state_of waits → r ≡ 0 → SetsUp (set_up a user password) r s
  sets_without t e q p = sets (set_without a user password refl t e refl) p q (fresh_fits (Awaiting First) false (credential_of []) (credential_of []) tt (padded_long [] (omega arith)))

  pub sets_with : too_long a user password ≡ false → a ≡ true → length user ≤ 255 → {r : ℕ} {s : List ℕ} → Keeps user password s → r ≡ 0 → SetsUp (set_up a user password) r s
  sets_with t e h q p = sets (set_with a user password t e refl refl refl) p q (fresh_fits (Awaiting First) true (credential_of user) (credential_of password) tt (padded_long user h))
