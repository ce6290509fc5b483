-- A call by its tests, whatever it is made to: settled, out of order, output long enough. What a refused one leaves, and what an accepted one is.
use Prim.Native.Nat.{ℕ}
use mathlib.Core.Path.{◌≡◌, refl, sym, ◌∙◌}
use mathlib.Core.Bool.{Bool, true, false, cond, not}
use mathlib.Core.List.{List}
use Rattle.protocol.specs.Answers as code
use Rattle.protocol.specs.declared.SocksError.{SocksError}
use Rattle.protocol.specs.declared.SocksError.TheVariants.{ShortOutput, Settled, OutOfOrder}
use Rattle.protocol.specs.Opening.{refuse}
use Rattle.protocol.proofs.Openings.{clash, same_error}
use Rattle.talk.specs.Tunnel.{Answer, Behind}
use Rattle.talk.proofs.Sends.{none_sent}

module _ {X : Type 0} (s : X) (out : List ℕ) where
  abbrev pub refusing : SocksError → Answer X code.Answer
  refusing e = record { answer = code.Refused e; session = s; used = 0; sent = 0; output = out }

  module _ (k : Answer X code.Answer) (x : k.answer ≡ code.Accepted) where
    abbrev pub judged : Bool → Bool → Bool → Answer X code.Answer
    judged a b c = cond a (refusing Settled) (cond b (refusing OutOfOrder) (cond c k (refusing ShortOutput)))

    pub refuses : (a b c : Bool) (e : SocksError) → (judged a b c).answer ≡ code.Refused e → judged a b c ≡ refusing e
    refuses true b c e p = rw (same_error p)
    refuses false true c e p = rw (same_error p)
    refuses false false true e p = absurd (clash (sym x ∙ p))
    refuses false false false e p = rw (same_error p)

    pub accepts : (a b c : Bool) → (judged a b c).answer ≡ code.Accepted → (a ≡ false) × (judged a b c ≡ k)
    accepts true b c p = absurd (clash (sym p))
    accepts false true c p = absurd (clash (sym p))
    accepts false false true p = (refl, refl)
    accepts false false false p = absurd (clash (sym p))

    -- the last test may be told in other words, as long as it is met
    pub answered : (a b c d : Bool) → (a ≡ false → b ≡ false → c ≡ d) → (judged a b c).answer ≡ refuse a Settled (refuse b OutOfOrder (refuse (not d) ShortOutput code.Accepted))
    answered true b c d f = refl
    answered false true c d f = refl
    answered false false c d f = rw (f refl refl) (go d)
      where
        go : (d : Bool) → (cond d k (refusing ShortOutput)).answer ≡ refuse (not d) ShortOutput code.Accepted
        go true = x
        go false = refl

    pub stays : (a b c : Bool) → (c ≡ true → Behind k out) → Behind (judged a b c) out
    stays true b c f = none_sent _ s 0 out
    stays false true c f = none_sent _ s 0 out
    stays false false true f = f refl
    stays false false false f = none_sent _ s 0 out
