-- F-13: a state draws just one handshake, and leaves just one state: the definition says which load it is.
use Prim.Native.Nat.{ℕ}
use mathlib.Core.Path.{◌≡◌, ap, sym, subst, ◌∙◌}
use mathlib.Core.List.{List}
use Rattle.protocol.specs.Opening.{Opening}
use Rattle.endings_spec.specs.Endings.{Leads, Wanted}
use Rattle.endings_spec.proofs.Order.{wanted_once}
use Rattle.load_spec.specs.Load.{Handshake, opening_of, opens, after_choice, bytewise, Chosen, Drawn, DrawnBytewise}
use Rattle.load_spec.specs.Cutting.{Pieces, is, cut_of}
use Rattle.load_spec.proofs.Cutting.{cut_only}

module _ (s : ℕ) (h g : Handshake) (k : Chosen s h) (l : Chosen s g) where
  same_opening : opening_of g.v5 g.credentials g.name ≡ opening_of h.v5 h.credentials h.name
  same_opening = λ i. opening_of ((l.version ∙ sym k.version) i) ((l.credentials ∙ sym k.credentials) i) ((l.name ∙ sym k.name) i)

  same_replies : h.replies ≡ g.replies
  same_replies =
      wanted_once (Leads (opening_of h.v5 h.credentials h.name) opens) h.replies g.replies k.replies
      (subst (λ (o : Opening). Wanted (Leads o opens) g.replies) same_opening l.replies)

  same_handshake : h.pieces ≡ g.pieces → h ≡ g
  same_handshake e = λ i.
      record {
        v5 = (k.version ∙ sym l.version) i;
        credentials = (k.credentials ∙ sym l.credentials) i;
        name = (k.name ∙ sym l.name) i;
        replies = same_replies i;
        pieces = e i;
      }

pub drawn_once : (s : ℕ) (h g : Handshake) (s₁ s₂ : ℕ) → Drawn s h s₁ → Drawn s g s₂ → (h ≡ g) × (s₁ ≡ s₂)
drawn_once s h g s₁ s₂ (k, c) (l, d) =
    let e : is h.pieces s₁ ≡ is g.pieces s₂ = cut_only c ∙ ap (λ (bs : List ℕ). cut_of (after_choice s) bs) (same_replies s h g k l) ∙ sym (cut_only d) in
    (same_handshake s h g k l (ap (λ (p : Pieces). p.pieces) e), ap (λ (p : Pieces). p.state) e)

pub drawn_bytewise_once : (s : ℕ) (h g : Handshake) (s₁ s₂ : ℕ) → DrawnBytewise s h s₁ → DrawnBytewise s g s₂ → (h ≡ g) × (s₁ ≡ s₂)
drawn_bytewise_once s h g s₁ s₂ (k, p, e) (l, q, f) = (same_handshake s h g k l (p ∙ ap bytewise (same_replies s h g k l) ∙ sym q), e ∙ sym f)
