-- F-3's promise over the proxy's end in lent bytes: that over the end that they mean.
use Prim.Native.Nat.{ℕ}
use native.Mathlib.Omega.{arith}
use mathlib.Core.Path.{◌≡◌, refl, ap, sym, subst, ◌∙◌}
use mathlib.Core.List.{List}
use lib.ListN.{drop}
use Rattle.protocol.specs.declared.SocksError.{SocksError}
use Rattle.protocol.specs.Bytes.{Bytes, BytePieces}
use Rattle.protocol.specs.Numbers.{number, status}
use Rattle.protocol.proofs.Limits.{number_accepted}
use Rattle.proxy_spec.specs.declared.Stage.{Stage}
use Rattle.proxy_spec.specs.declared.Stage.TheVariants.{Awaiting, Asked, Open, Failed}
use Rattle.proxy_spec.specs.End as plain
use Rattle.proxy_spec.specs.End.{Setup, Standing, waits, asks, fails, machine}
use Rattle.proxy_replies.specs.declared.stages.Outcome.TheVariants as outcome
use Rattle.proxy_replies.specs.stages.Told.{outcome_at}
use Rattle.proxy_session.specs.declared.Server.{Server}
use Rattle.proxy_session.specs.Server.{destination}
use Rattle.proxy_session.specs.Calls.{set_up, deliver, answer, end}
use Rattle.proxy.specs.Served.{outcome_by, target_by, handed_out, receiver, joined_of, Served}
use Rattle.proxy.proofs.Tunnels.{all_served}
use Rattle.proxy.proofs.Turns.{in_turn}
use Rattle.raw_numbers.specs.Numbers.{truth}
use Rattle.raw_errors.specs.Errors.{error_of, error_among}
use Rattle.lent_numbers.specs.bytes.Numbers as bytes
use Rattle.lent_proxy.specs.State.{limit, stage_at, stage_of, server_at, state_of}
use Rattle.lent_proxy.specs.Calls.{standing_of, target_of}
use Rattle.lent_proxy.proofs.Writing.{state_back}
use Rattle.lent_tunnel.specs.Demand3.{Lent}
use Rattle.lent_tunnel.specs.Served as lent
use Rattle.lent_tunnel.specs.Served.{returned, standing_at, target_at, standing_numbers, LentServes, LentServing, Zeros}
use Rattle.lent_tunnel.proofs.Carried.{Carried, carries, lends_as}
use Rattle.lent_tunnel.proofs.ServedKept.{deliver_whole, set_up_whole, Written, left}
use Rattle.talk.specs.Tunnel.{Delivery, answer_to, after}
use Rattle.talk.specs.Follow.{Alike}

-- an end that was not answered stands, in numbers, as the plain machine
pub waiting_told : (t : Stage) → outcome_at t ≡ outcome.Waiting → standing_of t ≡ record { state = 0; number = 0; status = 0 }
waiting_told (Awaiting f) q = refl
waiting_told (Asked v) q = let z : ◌≡◌ {A = ℕ} 0 1 = cc in absurd (omega arith)
waiting_told (Open v) q = let z : ◌≡◌ {A = ℕ} 0 1 = cc in absurd (omega arith)
waiting_told (Failed e) q = let z : ◌≡◌ {A = ℕ} 0 1 = cc in absurd (omega arith)

pub failed_told : (t : Stage) (e : SocksError) → outcome_at t ≡ outcome.Failed e → standing_of t ≡ record { state = 2; number = number e; status = status e }
failed_told (Awaiting f) e q = let z : ◌≡◌ {A = ℕ} 0 1 = cc in absurd (omega arith)
failed_told (Asked v) e q = let z : ◌≡◌ {A = ℕ} 0 1 = cc in absurd (omega arith)
failed_told (Open v) e q = let z : ◌≡◌ {A = ℕ} 0 1 = cc in absurd (omega arith)
failed_told (Failed d) e q = let z : d ≡ e = cc in ap (λ (x : SocksError). record { state = 2; number = number x; status = status x }) z

standing_told : (t : Stage) (z : Standing) → outcome_at t ≡ outcome_by z → ((x : plain.Asked) → z ≡ asks x → t ≡ Asked x.version) → standing_of t ≡ standing_numbers z
standing_told t waits q f = waiting_told t q
standing_told t (asks x) q f = ap standing_of (f x refl)
standing_told t (fails e) q f = failed_told t e q

pub means : (s : List ℕ) (x : Server) → Written s x → server_at s ≡ x
means s x w = ap server_at w.is ∙ state_back x w.whole.fits

step : (s : List ℕ) (x : Server) → Written s x → (d : Delivery) → Bytes d.piece → Alike Written (answer_to lent.receiver s d) (answer_to receiver x d)
step s x w d y =
    subst (λ (z : Server). Alike Written (returned s (deliver z d.piece d.output)) (deliver x d.piece d.output)) (sym (means s x w))
    (record {
      session = left (deliver x d.piece d.output) s d.output x w (deliver_whole x w.whole d.piece d.output y) ((in_turn x).deliver_untouched d.piece d.output);
      used = refl;
      sent = refl;
    })

module _ (c : Setup) (s : List ℕ) (x : Server) (w : Written s x) (served : (ds : List Delivery) → BytePieces ds → Served c x ds) where
  module _ (ds : List Delivery) (y : BytePieces ds) (l : Lent ds) where
    abbrev e : Server
    e = after receiver x ds

    carried : Carried Written lent.receiver receiver s x ds
    carried = carries Written lent.receiver receiver step ds y (λ d m. lends_as 262 refl d (l d m)) s x w

    same : server_at (after lent.receiver s ds) ≡ e
    same = means _ _ carried.follows.session

    standings : standing_at (after lent.receiver s ds) ≡ standing_numbers (machine c (lent.joined_of ds)).standing
    standings =
        let h = served ds y in
        ap (λ (t : Server). standing_of t.stage) same
        ∙ standing_told e.stage (machine c (joined_of ds)).standing h.outcome_as h.asked_in ∙ rw carried.joins

    targets : target_at (after lent.receiver s ds) ≡ target_of (handed_out (target_by (machine c (lent.joined_of ds)).standing))
    targets = ap (λ (t : Server). target_of (destination t)) same ∙ ap target_of (served ds y).destination_as ∙ rw carried.joins

  lent_served : (ds : List Delivery) → BytePieces ds → Lent ds → LentServes c s ds
  lent_served ds y l =
      let h = served ds y in
      let k = carried ds y l in
      let f = k.follows in
      record {
        sent_as = rw (k.joins, f.sent) h.sent_as;
        standing_as = standings ds y l;
        destination_as = targets ds y l;
        count_as = rw (k.joins, f.count) h.count_as;
        rests_are = f.rest ∙ h.rests_are ∙ (λ i. drop (sym f.count i) (sym k.joins i));
        written = f.session.is ∙ ap state_of (sym (same ds y l));
        alike = λ ds' y' l' q.
            let k' = carried ds' y' l' in
            let f' = k'.follows in
            let a = h.alike ds' (sym k'.joins ∙ q ∙ k.joins) in
            record {
              standings = standings ds' y' l' ∙ rw q (sym (standings ds y l));
              targets = targets ds' y' l' ∙ rw q (sym (targets ds y l));
              sent = rw (f'.sent, f.sent) a.sent;
              count = f'.count ∙ a.count ∙ sym f.count;
              rest = f'.rest ∙ a.rest ∙ sym f.rest;
            };
      }

pub lent_serving : LentServing
lent_serving authenticates user password p =
    let x = (set_up (truth authenticates) user password).server in
    lent_served _ (state_of x) x (record { is = refl; whole = set_up_whole (truth authenticates) user password }) (all_served (truth authenticates) user password (number_accepted _ p))

pub zeros : Zeros
unfolding limit stage_at stage_of bytes.number error_of error_among deliver answer end
zeros = record { stands = refl; deliver = λ piece out. refl; answer = λ status x out. refl; end = refl }
