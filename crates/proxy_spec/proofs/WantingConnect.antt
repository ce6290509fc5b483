-- What a v5 connect wants: its head, and its address and port.
use Prim.Native.Nat.{ℕ, suc, ◌+◌, ◌-◌, ◌<◌}
use native.Mathlib.Omega.{arith}
use mathlib.Core.Path.{◌≡◌, refl, sym, ◌∙◌}
use mathlib.Core.Bool.{Bool, true, false, true≢false, cond, not, ◌&&◌}
use mathlib.Core.List.{List, [], ◌∷◌, ◌++◌}
use lib.ListN.{length, take, replicate}
use lib.Dec.{leb, eqb, lit≤}
use borrow.Author.Tests.{le-leb, eqb-true, eq-eqb}
use Rattle.protocol.specs.declared.SocksError.TheVariants.{Malformed}
use Rattle.protocol.specs.Bytes.{Bytes, byte}
use Rattle.proxy_spec.specs.declared.Field.{Field}
use Rattle.proxy_spec.specs.declared.Field.TheVariants.{Head, Address}
use Rattle.proxy_spec.specs.End.{Setup}
use Rattle.proxy_spec.specs.Side.{reads}
use Rattle.proxy_spec.specs.Shortest.{lacking, from_head, wants_head, address_size}
use Rattle.proxy_spec.proofs.Open.{zeros, bytes_then}
use Rattle.proxy_spec.proofs.Taken.{small_size, taken_address, taken_head}
use Rattle.proxy_spec.proofs.Made as made
use Rattle.proxy_spec.proofs.Made.{head_word}
use Rattle.talk.specs.Decision.{undecided}
use Rattle.proxy_spec.proofs.Wanting.{Settling, Wanted, fails_just, asks_by, fails_by, asks_word, once_waits, test_waits, sized_waits, over_one, Fixed, fixed_short, fixed_good, fixed_message, fixed_over, fill, filled}

-- ---- DST.ADDR and DST.PORT

module _ (c : Setup) (command type : ℕ) where
  abbrev at : Field
  at = Address command type

  address_by : (h : List ℕ) (n : ℕ) → Fixed at h n → length h < n → (b : Bool) → eqb command 1 ≡ b → Wanted c at h (lacking n h)
  address_by h n x o true e =
      asks_by c at h (fill h n) n (zeros (n - length h)) (filled h n o).0 o (made.made_address c command type (h ++ fill h n) e (fixed_good at h n x (fill h n) (filled h n o).1))
      (λ bs (y, (m, r, w, g, a)). fixed_message at h n x bs m r w g)
  address_by h n x o false e =
      fails_by c at h (fill h n) n (zeros (n - length h)) (filled h n o).0 o (λ bs k. true≢false (sym (taken_address c command type (h ++ bs) k).0 ∙ e))
      (made.over_address c command type (h ++ fill h n) e (fixed_good at h n x (fill h n) (filled h n o).1))
      (λ bs k. (fixed_over at h n x c _ bs k).0)

  address_sized : (h : List ℕ) (n : ℕ) → Fixed at h n → reads at h ≡ undecided → Wanted c at h (lacking n h)
  address_sized h n x u = address_by h n x (fixed_short at h n x u) (eqb command 1) refl

  address_none : eqb type 0x01 ≡ false → eqb type 0x04 ≡ false → (b : Bool) → eqb command 1 ≡ b → Wanted c at [] (lacking (cond b 4 1) [])
  unfolding reads
  address_none p q true e =
      asks_by c at [] (0x01 ∷ 0x00 ∷ 0x00 ∷ 0x00 ∷ []) 4 (bytes_then 1 (replicate 3 0) (lit≤ tt) (zeros 3)) refl (omega arith) (made.made_address c command type (0x01 ∷ 0x00 ∷ 0x00 ∷ 0x00 ∷ []) e (rw (p, q)))
      (λ bs k. small_size type bs (length bs) (taken_address c command type bs k).1)
  address_none p q false e =
      fails_by c at [] (0x00 ∷ []) 1 (zeros 1) refl (omega arith) (λ bs k. true≢false (sym (taken_address c command type bs k).0 ∙ e))
      (made.over_bad c at _ (0x00 ∷ []) 1 Malformed (rw (p, q)))
      (λ bs k. over_one c at _ [] (rw (p, q)) bs k)

  address_name : eqb type 0x01 ≡ false → eqb type 0x04 ≡ false → (h : List ℕ) → reads at h ≡ undecided
      → Wanted c at h (lacking (cond (leb 1 (length h)) (3 + byte h 0) (cond (eqb command 1) 4 1)) h)
  unfolding reads
  address_name p q [] u = address_none p q (eqb command 1) refl
  address_name p q (b ∷ h) u =
      let v = (test_waits (leb 1 b) 1 _ (once_waits 1 (b ∷ h) _ (omega arith) (rw (p, q) at u))).0 in
      rw (le-leb 1 (suc (length h)) (omega arith)) (address_sized (b ∷ h) (3 + b) (λ bs. rw (p, q, le-leb 1 (suc (length (h ++ bs))) (omega arith), v)) u)

  pub shortest_address : (h : List ℕ) → reads at h ≡ undecided → Wanted c at h (lacking (address_size command type h) h)
  unfolding reads
  shortest_address h u = go (eqb type 0x01) (eqb type 0x04) refl refl
    where
      go : (a b : Bool) → eqb type 0x01 ≡ a → eqb type 0x04 ≡ b
          → Wanted c at h (lacking (cond a 6 (cond b 18 (cond (leb 1 (length h)) (3 + byte h 0) (cond (eqb command 1) 4 1)))) h)
      go true b e g = address_sized h 6 (λ bs. rw e) u
      go false true e g = address_sized h 18 (λ bs. rw (e, g)) u
      go false false e g = address_name e g h u

-- ---- VER, CMD, RSV and ATYP

pub head_bytes : Bytes head_word
head_bytes =
    bytes_then 5 (1 ∷ 0 ∷ 3 ∷ 1 ∷ replicate 3 0) (lit≤ tt)
    (bytes_then 1 (0 ∷ 3 ∷ 1 ∷ replicate 3 0) (lit≤ tt)
    (bytes_then 0 (3 ∷ 1 ∷ replicate 3 0) (lit≤ tt) (bytes_then 3 (1 ∷ replicate 3 0) (lit≤ tt) (bytes_then 1 (replicate 3 0) (lit≤ tt) (zeros 3)))))

module _ (c : Setup) where
  head_asks : (h : List ℕ) → h ≡ take (length h) head_word → length h < 8 → Wanted c Head h (lacking from_head h)
  head_asks h e o = asks_word c Head h head_word from_head head_bytes refl e o (made.made_head c) (λ bs k. (taken_head c (h ++ bs) k).0)

  head_fails : (a b : ℕ) (h s : List ℕ) → eqb b 1 ≡ false → reads Head (a ∷ b ∷ h) ≡ undecided → Bytes s → length s ≡ 1 → Settling c Head (a ∷ b ∷ h) s → Wanted c Head (a ∷ b ∷ h) 1
  head_fails a b h s e u y l k =
      fails_just c Head (a ∷ b ∷ h) s 1 y l (λ bs t. true≢false (sym (taken_head c (a ∷ b ∷ (h ++ bs)) t).1 ∙ e)) k (λ bs t. over_one c Head _ (a ∷ b ∷ h) u bs t)

  head_two : (a b : ℕ) → a ≡ 5 → reads Head (a ∷ b ∷ []) ≡ undecided → (x : Bool) → eqb b 1 ≡ x → Wanted c Head (a ∷ b ∷ []) (cond (true && not x) 1 (lacking from_head (a ∷ b ∷ [])))
  unfolding reads
  head_two a b p u true e = head_asks (a ∷ b ∷ []) (λ i. p i ∷ eqb-true b 1 e i ∷ []) (omega arith)
  head_two a b p u false e = head_fails a b [] (0x01 ∷ []) e u (bytes_then 1 (replicate 0 0) (lit≤ tt) (zeros 0)) refl (made.over_bad c Head _ (a ∷ b ∷ 0x01 ∷ []) 3 Malformed (rw (eq-eqb a 5 p)))

  head_three : (a b d : ℕ) → a ≡ 5 → d ≡ 0 → reads Head (a ∷ b ∷ d ∷ []) ≡ undecided → (x : Bool) → eqb b 1 ≡ x
      → Wanted c Head (a ∷ b ∷ d ∷ []) (cond (true && not x) 1 (lacking from_head (a ∷ b ∷ d ∷ [])))
  unfolding reads
  head_three a b d p q u true e = head_asks (a ∷ b ∷ d ∷ []) (λ i. p i ∷ eqb-true b 1 e i ∷ q i ∷ []) (omega arith)
  head_three a b d p q u false e =
      head_fails a b (d ∷ []) (0x00 ∷ []) e u (zeros 1) refl
      (made.over_message c Head _ (a ∷ b ∷ d ∷ 0x00 ∷ []) [] (rw (eq-eqb a 5 p, eq-eqb d 0 q)) (made.over_refused c _ _ []))

  pub shortest_head : (h : List ℕ) → reads Head h ≡ undecided → Wanted c Head h (wants_head h)
  unfolding reads
  shortest_head [] u = head_asks [] refl (omega arith)
  shortest_head (a ∷ []) u =
      let (p, _) = test_waits (eqb a 5) 1 _ u in
      head_asks (a ∷ []) (λ i. eqb-true a 5 p i ∷ []) (omega arith)
  shortest_head (a ∷ b ∷ []) u =
      let (p, _) = test_waits (eqb a 5) 1 _ u in
      head_two a b (eqb-true a 5 p) u (eqb b 1) refl
  shortest_head (a ∷ b ∷ d ∷ []) u =
      let (p, v) = test_waits (eqb a 5) 1 _ u in
      let (q, _) = test_waits (eqb d 0) 3 _ v in
      head_three a b d (eqb-true a 5 p) (eqb-true d 0 q) u (eqb b 1) refl
  shortest_head (a ∷ b ∷ d ∷ e ∷ h) u =
      let (p, v) = test_waits (eqb a 5) 1 _ (once_waits 1 (a ∷ b ∷ d ∷ e ∷ h) _ (omega arith) u) in
      let (q, w) = test_waits (eqb d 0) 3 _ (once_waits 3 (a ∷ b ∷ d ∷ e ∷ h) _ (omega arith) v) in
      absurd (omega (arith, sized_waits 4 (a ∷ b ∷ d ∷ e ∷ h) w))
