-- F-9: the four schemes are read as the grammar has them.
use Prim.Native.Nat.{ℕ, ◌<◌}
use native.Mathlib.Omega.{arith}
use mathlib.Core.Path.{◌≡◌, refl, sym, ap, ◌∙◌}
use mathlib.Core.Bool.{Bool, true, false}
use mathlib.Core.List.{List, ◌++◌}
use lib.ListN.{length, get_or, get_or-append}
use Rattle.protocol.specs.declared.Version.{Version}
use Rattle.protocol.specs.declared.Version.TheVariants.{V4, V5}
use Rattle.proxy_url_spec.specs.Grammar.{Scheme, socks4, socks4a, socks5, socks5h}
use Rattle.proxy_url_spec.specs.Reading.{socks4_word, socks4a_word, socks5_word, socks5h_word, Reader, word, or, scheme_of}
use Rattle.proxy_url_spec.proofs.Readers.{Any, Law, law_as, Or, one, other, Apart, law_or}
use Rattle.proxy_url_spec.proofs.Fields.{Is, law_word}

-- two words that differ at a place
pub words_apart : {A : Type 0} (w x : List ℕ) (v u : A) (i : ℕ) → i < length w → i < length x → (get_or w i 0 ≡ get_or x i 0 → ⊥) → Apart Any (Is w v) (Is x u)
words_apart w x v u i h k f y t z a o y' t' z' a' o' e =
    let p : w ++ t ≡ x ++ t' = rw (← a.spelt, ← a'.spelt) e in
    f (sym (get_or-append w t 0 i h) ∙ ap (λ (l : List ℕ). get_or l i 0) p ∙ get_or-append x t' 0 i k)

pub or_apart : {A : Type 0} {Ok : List ℕ → Type 0} {W X Y : List ℕ → A → Type 0} → Apart Ok W X → Apart Ok W Y → Apart Ok W (Or X Y)
or_apart f g w t v a o x r u (one b) q e = f w t v a o x r u b q e
or_apart f g w t v a o x r u (other b) q e = g w t v a o x r u b q e

abbrev Named : List ℕ → Version → Bool → List ℕ → Version × Bool → Type 0
Named w v dns = Is w (v, dns)

abbrev Last : List ℕ → Version × Bool → Type 0
Last = Named socks5h_word V5 false

abbrev Last2 : List ℕ → Version × Bool → Type 0
Last2 = Or (Named socks5_word V5 true) Last

abbrev Last3 : List ℕ → Version × Bool → Type 0
Last3 = Or (Named socks4a_word V4 false) Last2

abbrev Four : List ℕ → Version × Bool → Type 0
Four = Or (Named socks4_word V4 true) Last3

abbrev pub SchemeWord : List ℕ → Version × Bool → Type 0
SchemeWord w t = Scheme w t.0 t.1

named : (w x : List ℕ) (v : Version) (dns : Bool) (t : Version × Bool) → Named w v dns x t → Scheme w v dns → SchemeWord x t
named w x v dns t i s = rw (i.spelt, i.value) s

scheme_of_lem : (w : List ℕ) (t : Version × Bool) → Four w t → SchemeWord w t
scheme_of_lem w t (one i) = named socks4_word w V4 true t i socks4
scheme_of_lem w t (other (one i)) = named socks4a_word w V4 false t i socks4a
scheme_of_lem w t (other (other (one i))) = named socks5_word w V5 true t i socks5
scheme_of_lem w t (other (other (other i))) = named socks5h_word w V5 false t i socks5h

of_scheme_by : {w : List ℕ} {v : Version} {dns : Bool} → Scheme w v dns → Four w (v, dns)
of_scheme_by socks4 = one (record { spelt = refl; value = refl })
of_scheme_by socks4a = other (one (record { spelt = refl; value = refl }))
of_scheme_by socks5 = other (other (one (record { spelt = refl; value = refl })))
of_scheme_by socks5h = other (other (other (record { spelt = refl; value = refl })))

abbrev R5h : Reader (Version × Bool)
R5h = word socks5h_word (V5, false)

abbrev R5 : Reader (Version × Bool)
R5 = word socks5_word (V5, true)

abbrev R4a : Reader (Version × Bool)
R4a = word socks4a_word (V4, false)

law_four : Law Any Four scheme_of
unfolding scheme_of
law_four =
    law_or Any (Named socks4_word V4 true) Last3 (word socks4_word (V4, true)) (or R4a (or R5 R5h)) (law_word socks4_word (V4, true))
    (law_or Any (Named socks4a_word V4 false) Last2 R4a (or R5 R5h) (law_word socks4a_word (V4, false))
    (law_or Any (Named socks5_word V5 true) Last R5 R5h (law_word socks5_word (V5, true)) (law_word socks5h_word (V5, false)) (words_apart socks5_word socks5h_word (V5, true) (V5, false) 6 (omega arith) (omega arith) (λ e. omega arith)))
    (or_apart (words_apart socks4a_word socks5_word (V4, false) (V5, true) 5 (omega arith) (omega arith) (λ e. omega arith)) (words_apart socks4a_word socks5h_word (V4, false) (V5, false) 5 (omega arith) (omega arith) (λ e. omega arith))))
    (or_apart (words_apart socks4_word socks4a_word (V4, true) (V4, false) 6 (omega arith) (omega arith) (λ e. omega arith))
    (or_apart (words_apart socks4_word socks5_word (V4, true) (V5, true) 5 (omega arith) (omega arith) (λ e. omega arith)) (words_apart socks4_word socks5h_word (V4, true) (V5, false) 5 (omega arith) (omega arith) (λ e. omega arith))))

pub law_scheme : Law Any SchemeWord scheme_of
law_scheme = law_as scheme_of_lem (λ w t s. of_scheme_by s) law_four
