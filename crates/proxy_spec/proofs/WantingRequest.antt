-- What a v4 request wants: its head, its user id, and a name.
use Prim.Native.Nat.{ℕ, suc, ◌+◌, ◌-◌, ◌≤◌, ◌<◌}
use native.Mathlib.Omega.{arith}
use mathlib.Core.Path.{◌≡◌, refl, ap, sym, subst, ◌∙◌}
use mathlib.Core.Bool.{Bool, true, false, true≢false, cond, not, ◌&&◌}
use mathlib.Core.List.{List, [], ◌∷◌, ◌++◌, append_assoc}
use lib.ListN.{length, take, drop, replicate, length-append, length-drop, get_or-eq_default}
use lib.Dec.{leb, ltb, eqb, lit≤}
use borrow.Author.Tests.{leb-true, leb-false, le-ltb}
use Rattle.protocol.specs.declared.SocksError.{SocksError}
use Rattle.protocol.specs.declared.SocksError.TheVariants.{Malformed}
use Rattle.protocol.specs.Bytes.{Bytes, byte}
use Rattle.protocol.specs.Opening.{announces}
use Rattle.protocol.proofs.Bytes.{bytes_join}
use Rattle.proxy_spec.specs.Reads.{Seen, short, wrong, unknown, whole, text_in}
use Rattle.proxy_spec.specs.declared.Ports.{Ports}
use Rattle.proxy_spec.specs.declared.Field.TheVariants.{Request, UserId, Name}
use Rattle.proxy_spec.specs.End.{Setup}
use Rattle.proxy_spec.specs.Side.{at_name, at_request, ports_of, ip_of, talk_at, reads, read_text}
use Rattle.proxy_spec.specs.Shortest.{lacking, takes4, wants_user_id, wants_name}
use Rattle.proxy_spec.proofs.Open.{padded_byte, zeros, bytes_then}
use Rattle.proxy_spec.proofs.Side.{extends, TextLaw, text_law}
use Rattle.proxy_spec.proofs.Texts.{text_right}
use Rattle.proxy_spec.proofs.Taken.{Taken, taken_name, taken_id, taken_request}
use Rattle.proxy_spec.proofs.Made as made
use Rattle.proxy_spec.proofs.Made.{Over}
use Rattle.proxy_spec.proofs.Wanting.{Settling, Wanted, asks_just, fails_just, asks_by, fails_by, over_waits, over_next, over_one, longer, message_one, Fixed, fixed_short, fixed_over, fill, filled}
use Rattle.talk.specs.Decision.{Decision, undecided, decided, good, bad}
use Rattle.talk.specs.Lawful.{Late}
use Rattle.talk.proofs.Feed.{late_of}

-- ---- a name and its NULL

module _ (c : Setup) (p : Ports) where
  by_name : (h : List ℕ) → reads (Name p) h ≡ undecided → (b : Bool) → takes4 c.authenticates p ≡ b → Wanted c (Name p) h (cond (b && ltb (length h) 1) 2 1)
  unfolding reads text_in
  by_name [] u true e =
      asks_just c (Name p) [] (0x01 ∷ 0x00 ∷ []) 2 (bytes_then 1 (replicate 1 0) (lit≤ tt) (zeros 1)) refl (made.made_name c p (0x01 ∷ 0x00 ∷ []) e refl)
      (λ bs k. (taken_name c p bs k).1)
  by_name [] u false e =
      fails_just c (Name p) [] (0x00 ∷ []) 1 (zeros 1) refl (λ bs k. true≢false (sym (taken_name c p bs k).0 ∙ e)) (made.over_bad c (Name p) _ (0x00 ∷ []) 1 Malformed refl)
      (λ bs k. over_one c (Name p) _ [] refl bs k)
  by_name (b ∷ h) u true e =
      rw (le-ltb (suc (length h)) 1 (omega arith))
      (asks_just c (Name p) (b ∷ h) (0x00 ∷ []) 1 (zeros 1) refl (made.made_name c p ((b ∷ h) ++ (0x00 ∷ [])) e (made.name_good p (b ∷ h) u (omega arith)))
      (λ bs (y, (m, r, w, g, a)). message_one (Name p) (b ∷ h) u bs m r w g))
  by_name (b ∷ h) u false e =
      fails_just c (Name p) (b ∷ h) (0x00 ∷ []) 1 (zeros 1) refl (λ bs k. true≢false (sym (taken_name c p ((b ∷ h) ++ bs) k).0 ∙ e))
      (made.over_name c p ((b ∷ h) ++ (0x00 ∷ [])) e (made.name_good p (b ∷ h) u (omega arith)))
      (λ bs k. over_one c (Name p) _ (b ∷ h) u bs k)

  pub shortest_name : (h : List ℕ) → reads (Name p) h ≡ undecided → Wanted c (Name p) h (wants_name c.authenticates p h)
  shortest_name h u = by_name h u (takes4 c.authenticates p) refl

-- ---- a user id and its NULL

id_bad : (p : Ports) (l : List ℕ) (n : ℕ) (e : SocksError) → reads (UserId p) l ≡ decided n (bad e) → 255 < length l
unfolding reads
id_bad p l n e q = go (text_in 255 l) refl (text_law 255 l) q (leb 256 (length l)) refl
  where
    go : (s : Seen ℕ) → text_in 255 l ≡ s → TextLaw 255 l s → read_text s ≡ decided n (bad e) → (b : Bool) → leb 256 (length l) ≡ b → 255 < length l
    go s w t r true o = leb-true 256 (length l) o
    go short w t r false o = let z : ◌≡◌ {A = ℕ} 0 1 = cc in absurd (omega arith)
    go (wrong k) w t r false o = absurd (text_right 255 l (omega (arith, leb-false 256 (length l) o)) k w)
    go (unknown k) w t r false o = absurd t
    go (whole k m) w t r false o = let z : ◌≡◌ {A = ℕ} 0 1 = cc in absurd (omega arith)

module _ (c : Setup) (p : Ports) (h : List ℕ) (u : reads (UserId p) h ≡ undecided) where
  -- it is settled by no single byte, if a name is announced
  two_by : announces (ip_of p) ≡ true → length h < 255 → (bs : List ℕ) → Settling c (UserId p) h bs
      → (d : Decision SocksError) → reads (UserId p) (h ++ bs) ≡ d → Late (suc (length h)) d → 2 ≤ length bs
  unfolding reads text_in
  two_by t o bs k undecided e l = absurd (over_waits c (UserId p) _ (h ++ bs) e k)
  two_by t o bs k (decided n good) e l =
      let v : Over c (at_name c p) (drop n (h ++ bs)) = rw t at (over_next c (UserId p) _ (h ++ bs) n e k) in
      omega (arith, over_one c (Name p) _ [] refl (drop n (h ++ bs)) v, length-drop n (h ++ bs), length-append h bs)
  two_by t o bs k (decided n (bad x)) e l = omega (arith, id_bad p (h ++ bs) n x e, length-append h bs)

  id_two : announces (ip_of p) ≡ true → length h < 255 → (bs : List ℕ) → Settling c (UserId p) h bs → 2 ≤ length bs
  id_two t o bs k = two_by t o bs k (reads (UserId p) (h ++ bs)) refl (late_of (extends (UserId p) h bs) u)

  by_id : (a t o : Bool) → announces (ip_of p) ≡ a → takes4 c.authenticates p ≡ t → leb 255 (length h) ≡ o → Wanted c (UserId p) h (cond a (cond t 3 (cond o 1 2)) 1)
  by_id false true o ea et eo =
      asks_just c (UserId p) h (0x00 ∷ []) 1 (zeros 1) refl (made.made_id c p (h ++ (0x00 ∷ [])) ea et (made.id_good p h u))
      (λ bs (y, (m, r, w, g, a)). message_one (UserId p) h u bs m r w g)
  by_id false false o ea et eo =
      fails_just c (UserId p) h (0x00 ∷ []) 1 (zeros 1) refl (λ bs k. true≢false (sym (taken_id c p (h ++ bs) k).0 ∙ et))
      (made.over_id c p (h ++ (0x00 ∷ [])) ea et (made.id_good p h u))
      (λ bs k. over_one c (UserId p) _ h u bs k)
  by_id true true o ea et eo =
      asks_just c (UserId p) h (0x00 ∷ 0x01 ∷ 0x00 ∷ []) 3 (bytes_then 0 (1 ∷ replicate 1 0) (lit≤ tt) (bytes_then 1 (replicate 1 0) (lit≤ tt) (zeros 1))) refl
      (subst (Taken c (talk_at c (UserId p))) (append_assoc h (0x00 ∷ []) (0x01 ∷ 0x00 ∷ [])) (made.made_named c p (h ++ (0x00 ∷ [])) ea et (made.id_good p h u)))
      (λ bs k. let (_, m, r, e, g, s) = taken_id c p (h ++ bs) k in omega (arith, longer (UserId p) h u bs m r e g, s ea, ap length e, length-append h bs, length-append m r))
  by_id true false true ea et eo =
      fails_just c (UserId p) h (0x01 ∷ []) 1 (bytes_then 1 (replicate 0 0) (lit≤ tt) (zeros 0)) refl (λ bs k. true≢false (sym (taken_id c p (h ++ bs) k).0 ∙ et))
      (made.over_bad c (UserId p) _ (h ++ (0x01 ∷ [])) 256 Malformed (made.id_over p h u (leb-true 255 (length h) eo)))
      (λ bs k. over_one c (UserId p) _ h u bs k)
  by_id true false false ea et eo =
      fails_just c (UserId p) h (0x00 ∷ 0x00 ∷ []) 2 (zeros 2) refl (λ bs k. true≢false (sym (taken_id c p (h ++ bs) k).0 ∙ et))
      (subst (Over c (talk_at c (UserId p))) (append_assoc h (0x00 ∷ []) (0x00 ∷ [])) (made.over_named c p (h ++ (0x00 ∷ [])) ea (made.id_good p h u)))
      (id_two ea (leb-false 255 (length h) eo))

  pub shortest_id : Wanted c (UserId p) h (wants_user_id c.authenticates p h)
  shortest_id = by_id (announces (ip_of p)) (takes4 c.authenticates p) (leb 255 (length h)) refl refl refl

-- ---- CD, DSTPORT and DSTIP: zeros up to a user id's NULL

module _ (c : Setup) where
  request_sized : (h : List ℕ) → Fixed Request h 7
  unfolding reads
  request_sized h bs = refl

  zero_last : (h : List ℕ) → length h < 7 → byte (h ++ fill h 7) 6 ≡ 0
  zero_last h o = padded_byte h (7 - length h) 6 ∙ get_or-eq_default h 0 (omega arith)

  module _ (h : List ℕ) (o : length h < 7) where
    abbrev zeroed : List ℕ
    zeroed = fill h 7 ++ (0x00 ∷ [])

    zeroed_bytes : Bytes zeroed
    zeroed_bytes = bytes_join (fill h 7) (0x00 ∷ []) (zeros (7 - length h)) (zeros 1)

    zeroed_long : length h + length zeroed ≡ 8
    zeroed_long = omega (arith, (filled h 7 o).0, length-append (fill h 7) (0x00 ∷ []))

    request_asks : takes4 c.authenticates (ports_of (h ++ fill h 7)) ≡ true → Wanted c Request h (lacking 8 h)
    request_asks t =
        asks_by c Request h zeroed 8 zeroed_bytes zeroed_long (omega arith)
        (subst (Taken c (talk_at c Request)) (append_assoc h (fill h 7) (0x00 ∷ [])) (made.made_request c (h ++ fill h 7) (filled h 7 o).1 (zero_last h o) t))
        (λ bs k. (taken_request c (h ++ bs) k).2)

    request_fails : takes4 c.authenticates (ports_of (h ++ fill h 7)) ≡ false → ((bs : List ℕ) → Taken c (at_request c) (h ++ bs) → ⊥) → Wanted c Request h (lacking 8 h)
    unfolding reads text_in
    request_fails t none =
        fails_by c Request h zeroed 8 zeroed_bytes zeroed_long (omega arith) none
        (subst (Over c (talk_at c Request)) (append_assoc h (fill h 7) (0x00 ∷ [])) (made.over_request c (h ++ fill h 7) (filled h 7 o).1 (zero_last h o) t))
        (λ bs k. let (l, v) = fixed_over Request h 7 (request_sized h) c _ bs k in
        omega (arith, over_one c (UserId (ports_of (take 7 (h ++ bs)))) _ [] refl (drop 7 (h ++ bs)) v, length-drop 7 (h ++ bs)))

  request_none : (b : Bool) → c.authenticates ≡ b → Wanted c Request [] (lacking 8 [])
  request_none true e = request_fails [] (omega arith) (rw e) (λ bs k. true≢false (sym e ∙ (taken_request c bs k).0))
  request_none false e =
      asks_by c Request [] (0x01 ∷ replicate 7 0x00) 8 (bytes_then 1 (replicate 7 0) (lit≤ tt) (zeros 7)) refl (omega arith) (made.made_request c (0x01 ∷ replicate 6 0x00) refl refl (rw e))
      (λ bs k. (taken_request c bs k).2)

  request_some : (b : ℕ) (h : List ℕ) → length (b ∷ h) < 7 → (t : Bool) → (not c.authenticates && eqb b 1) ≡ t → Wanted c Request (b ∷ h) (lacking 8 (b ∷ h))
  request_some b h o true e = request_asks (b ∷ h) o e
  request_some b h o false e =
      request_fails (b ∷ h) o e (λ bs k. let (s, q, _) = taken_request c ((b ∷ h) ++ bs) k in true≢false (sym (rw s q) ∙ e))

  pub shortest_request : (h : List ℕ) → reads Request h ≡ undecided → Wanted c Request h (lacking 8 h)
  shortest_request [] u = request_none c.authenticates refl
  shortest_request (b ∷ h) u = request_some b h (fixed_short Request (b ∷ h) 7 (request_sized (b ∷ h)) u) (not c.authenticates && eqb b 1) refl
