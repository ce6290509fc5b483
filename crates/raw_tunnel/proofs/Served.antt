-- F-3's promise over the proxy's end as numbers: that over the end that they mean.
use Prim.Native.Nat.{ℕ}
use native.Mathlib.Omega.{arith}
use mathlib.Core.Path.{◌≡◌, refl, ap, sym, ◌∙◌}
use mathlib.Core.List.{List}
use lib.ListN.{drop}
use Rattle.protocol.specs.declared.SocksError.{SocksError}
use Rattle.protocol.specs.Bytes.{BytePieces}
use Rattle.protocol.specs.Numbers.{number, status, answer_number}
use Rattle.protocol.proofs.Limits.{number_accepted}
use Rattle.proxy_spec.specs.declared.Stage.{Stage}
use Rattle.proxy_spec.specs.declared.Stage.TheVariants.{Awaiting, Asked, Open, Failed}
use Rattle.proxy_spec.specs.End as plain
use Rattle.proxy_spec.specs.End.{Setup, Standing, waits, asks, fails, machine}
use Rattle.proxy_replies.specs.declared.stages.Outcome.TheVariants as outcome
use Rattle.proxy_replies.specs.stages.Told.{outcome_at}
use Rattle.proxy_session.specs.declared.Server.{Server}
use Rattle.proxy_session.specs.Server.{destination}
use Rattle.proxy_session.specs.Calls.{set_up, deliver, answer, end}
use Rattle.proxy.specs.Served.{outcome_by, target_by, handed_out, receiver, joined_of, Served}
use Rattle.proxy.proofs.Tunnels.{all_served}
use Rattle.raw_numbers.specs.Numbers.{truth}
use Rattle.raw_errors.specs.Errors.{error_of, error_among}
use Rattle.raw_server.specs.Raw.{stage_of, raw_of, standing_of}
use Rattle.raw_server.proofs.Back.{server_back}
use Rattle.raw_asked.specs.Asked.{target_of}
use Rattle.raw_tunnel.specs.Demand3.{Lent}
use Rattle.raw_tunnel.specs.Served as raw
use Rattle.raw_tunnel.specs.Served.{returned, raw_standing, raw_target, standing_numbers, RawServes, RawServing, Zeros}
use Rattle.raw_tunnel.proofs.Carried.{Carried, carries, lends_as}
use Rattle.talk.specs.Tunnel.{Delivery, answer_to, after}

-- an end that was not answered stands, in numbers, as the plain machine
pub waiting_told : (t : Stage) → outcome_at t ≡ outcome.Waiting → standing_of t ≡ record { state = 0; number = 0; status = 0 }
waiting_told (Awaiting f) q = refl
waiting_told (Asked v) q = let z : ◌≡◌ {A = ℕ} 0 1 = cc in absurd (omega arith)
waiting_told (Open v) q = let z : ◌≡◌ {A = ℕ} 0 1 = cc in absurd (omega arith)
waiting_told (Failed e) q = let z : ◌≡◌ {A = ℕ} 0 1 = cc in absurd (omega arith)

pub failed_told : (t : Stage) (e : SocksError) → outcome_at t ≡ outcome.Failed e → standing_of t ≡ record { state = 2; number = number e; status = status e }
failed_told (Awaiting f) e q = let z : ◌≡◌ {A = ℕ} 0 1 = cc in absurd (omega arith)
failed_told (Asked v) e q = let z : ◌≡◌ {A = ℕ} 0 1 = cc in absurd (omega arith)
failed_told (Open v) e q = let z : ◌≡◌ {A = ℕ} 0 1 = cc in absurd (omega arith)
failed_told (Failed d) e q = let z : d ≡ e = cc in ap (λ (x : SocksError). record { state = 2; number = number x; status = status x }) z

standing_told : (t : Stage) (z : Standing) → outcome_at t ≡ outcome_by z → ((x : plain.Asked) → z ≡ asks x → t ≡ Asked x.version) → standing_of t ≡ standing_numbers z
standing_told t waits q f = waiting_told t q
standing_told t (asks x) q f = ap standing_of (f x refl)
standing_told t (fails e) q f = failed_told t e q

same : (s : Server) (d : Delivery) → answer_to raw.receiver (raw_of s) d ≡ returned (answer_to receiver s d)
same s d = ap (λ (t : Server). returned (deliver t d.piece d.output)) (server_back s)

module _ (c : Setup) (s : Server) (served : (ds : List Delivery) → BytePieces ds → Served c s ds) where
  module _ (ds : List Delivery) (y : BytePieces ds) (l : Lent ds) where
    abbrev e : Server
    e = after receiver s ds

    carried : Carried raw_of receiver raw.receiver s ds
    carried = carries raw_of answer_number receiver raw.receiver same ds (λ d m. lends_as 262 refl d (l d m)) s

    stands : raw_standing (after raw.receiver (raw_of s) ds) ≡ standing_numbers (machine c (raw.joined_of ds)).standing
    stands =
        let h = served ds y in
        ap raw_standing carried.session ∙ ap (λ (t : Server). standing_of t.stage) (server_back e)
        ∙ standing_told e.stage (machine c (joined_of ds)).standing h.outcome_as h.asked_in ∙ rw carried.joins

    targets : raw_target (after raw.receiver (raw_of s) ds) ≡ target_of (handed_out (target_by (machine c (raw.joined_of ds)).standing))
    targets =
        ap raw_target carried.session ∙ ap (λ (t : Server). target_of (destination t)) (server_back e) ∙ ap target_of (served ds y).destination_as ∙ rw carried.joins

  raw_served : (ds : List Delivery) → BytePieces ds → Lent ds → RawServes c (raw_of s) ds
  raw_served ds y l =
      let h = served ds y in
      let w = carried ds y l in
      record {
        sent_as = rw (w.joins, w.sent) h.sent_as;
        standing_as = stands ds y l;
        destination_as = targets ds y l;
        count_as = rw (w.joins, w.count) h.count_as;
        rests_are = w.rest ∙ h.rests_are ∙ (λ i. drop (sym w.count i) (sym w.joins i));
        alike = λ ds' y' l' q.
            let w' = carried ds' y' l' in
            let a = h.alike ds' (sym w'.joins ∙ q ∙ w.joins) in
            record {
              standings = stands ds' y' l' ∙ rw q (sym (stands ds y l));
              targets = targets ds' y' l' ∙ rw q (sym (targets ds y l));
              sent = rw (w'.sent, w.sent) a.sent;
              count = w'.count ∙ a.count ∙ sym w.count;
              rest = w'.rest ∙ a.rest ∙ sym w.rest;
            };
      }

pub raw_serving : RawServing
raw_serving authenticates user password p =
    raw_served _ (set_up (truth authenticates) user password).server (all_served (truth authenticates) user password (number_accepted _ p))

pub zeros : Zeros
unfolding stage_of error_of error_among deliver answer end
zeros = record { stands = refl; deliver = λ piece out. refl; answer = λ status x out. refl; end = refl }
