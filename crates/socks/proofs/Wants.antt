-- A session wants what the opening's talk lacks behind the joined bytes.
use Prim.Native.Nat.{ℕ, ◌≤◌}
use native.Mathlib.Omega.{arith}
use mathlib.Core.Path.{◌≡◌, refl, ap, sym, subst, ◌∙◌}
use mathlib.Core.Bool.{Bool, true, false, true≢false}
use mathlib.Core.List.{List, [], ◌∷◌, ◌++◌}
use lib.ListN.{length}
use lib.Seq.{drop_at}
use Rattle.protocol.specs.Answers.{Answer, Accepted, Refused}
use Rattle.protocol.specs.declared.Bound.{Bound}
use Rattle.protocol.specs.declared.Outcome.TheVariants.{Waiting, Open}
use Rattle.protocol.specs.Bytes.{Bytes}
use Rattle.protocol.specs.Opening.{V5, V4, check5, check4, Opening, opening5, opening4, delivery_room, Limits, Sixteen}
use Rattle.protocol.specs.Replies.{decide}
use Rattle.protocol.specs.Client as client
use Rattle.protocol.specs.Wants.{Some, Completes, WantedBy}
use Rattle.protocol.proofs.Bytes.{bytes_join, joined_bytes}
use Rattle.protocol.proofs.Client.{client_lawful, begun_shaped}
use Rattle.protocol.proofs.Limits.{limits5, limits4}
use Rattle.protocol.proofs.Openings.{clash}
use Rattle.protocol.proofs.Sequences.{sequence_is, sequence_of, outcome_feed, outcome_open, over_settled}
use Rattle.protocol.proofs.Wants.{Lacks, lacks_behind, WantsIn, wanted, waits_undecided, uses_all, leaves}
use Rattle.client_stages.specs.declared.due.Stage.{Stage}
use Rattle.client_stages.specs.declared.due.Stage.TheVariants.{Awaiting, Open as OpenStage, Failed}
use Rattle.client_stages.specs.due.Stages.{SideSession, view_at}
use Rattle.client_delivery.specs.wants.Wants.{wants_for, wants_at}
use Rattle.client_delivery.specs.wants.Still.{good_still}
use Rattle.client_delivery.proofs.wants.Client.{undecided_is, lacks, wants_some}
use Rattle.client_session.specs.declared.Session.{Session}
use Rattle.client_session.specs.Session.{view, held_bytes, outcome, wants}
use Rattle.client_session.specs.Calls.{Call, prepared_by, prepare5, prepare4, start, deliver}
use Rattle.socks.specs.Demand3.{receiver, joined_of}
use Rattle.socks.specs.Wants.{AnyWants, LeavesOne, Reads, Read}
use Rattle.socks.proofs.InTwo.{start_begins}
use Rattle.socks.proofs.Tunnels.{Stands, step}
use Rattle.socks.proofs.Openings.{begins_stands}
use Rattle.socks.proofs.Attempts.{StandsAt, fed_with, stands_all}
use Rattle.talk.specs.Talk as talk
use Rattle.talk.specs.Tunnel as side
use Rattle.talk.specs.Tunnel.{Delivery, answer_to}
use Rattle.talk.proofs.Feed.{Still, feed_ready, feed_still}

-- ---- of every session value

abbrev wants_in : SideSession → ℕ
wants_in (talk.waiting e h) = wants_for e h
wants_in (talk.ended x) = 0

at_view : (stage : Stage) (b : Bound) (h : List ℕ) → wants_at stage true h ≡ wants_in (view_at stage b h)
at_view (Awaiting e) b h = refl
at_view OpenStage b h = refl
at_view (Failed x) b h = refl

started_wants : (s : Session) → s.started ≡ true → wants s ≡ wants_in (view s)
started_wants s g = rw g (at_view s.stage s.bound (held_bytes s))

none_wanted : (stage : Stage) (h : List ℕ) → wants_at stage false h ≡ 0
none_wanted (Awaiting e) h = refl
none_wanted OpenStage h = refl
none_wanted (Failed x) h = refl

settled_wants : (stage : Stage) (g : Bool) (b : Bound) (h : List ℕ) → (client.outcome_of (view_at stage b h) ≡ Waiting → ⊥) → wants_at stage g h ≡ 0
settled_wants (Awaiting e) g b h f = absurd (f refl)
settled_wants OpenStage g b h f = refl
settled_wants (Failed x) g b h f = refl

in_some : (m : SideSession) → client.outcome_of m ≡ Waiting → 1 ≤ wants_in m
in_some (talk.waiting e h) q = wants_some e h
in_some (talk.ended (talk.done x)) q = let z : ◌≡◌ {A = ℕ} 0 1 = cc in absurd (omega arith)
in_some (talk.ended (talk.failed x)) q = let z : ◌≡◌ {A = ℕ} 0 1 = cc in absurd (omega arith)

pub any_wants : (s : Session) → AnyWants s
any_wants s =
    record {
      unstarted = λ g. rw g (none_wanted s.stage (held_bytes s));
      settled = settled_wants s.stage s.started s.bound (held_bytes s);
      some = λ g q. rw (started_wants s g) (in_some (view s) q);
    }

-- ---- of an opening's, behind deliveries

not_waiting : (m : SideSession) → talk.is_over m ≡ true → client.outcome_of m ≡ Waiting → ⊥
not_waiting (talk.waiting e h) w q = true≢false (sym w)
not_waiting (talk.ended (talk.done x)) w q = let z : ◌≡◌ {A = ℕ} 0 1 = cc in omega arith
not_waiting (talk.ended (talk.failed x)) w q = let z : ◌≡◌ {A = ℕ} 0 1 = cc in omega arith

module _ (o : Opening) where
  abbrev N : talk.Side
  N = client.side o

  abbrev k : client.Kept
  k = client.kept o

  module _ (s : Session) (came : List ℕ) (y : Bytes came) (t : StandsAt o s came) where
    wants_are : (m : SideSession) → fed_with o came ≡ m → WantsIn N (client_lawful k) m (wants s)
    wants_are (talk.waiting e h) q =
        let u = undecided_is (decide e h) (waits_undecided N (client_lawful k) (client.begun o) came e h q) in
        rw (started_wants s t.going, t.seen, q) (good_still e h, lacks k e h u)
    wants_are (talk.ended x) q = started_wants s t.going ∙ ap wants_in (t.seen ∙ q)

    wanted_by : WantedBy o came (wants s)
    wanted_by =
        wanted N (client_lawful k) (client.begun o) (begun_shaped o) came
        (λ bs z (x, a). (x, sequence_is o (came ++ bs) x (bytes_join came bs y z) a))
        (λ bs z (x, q). (x, sequence_of o (came ++ bs) x q))
        (λ bs w q. not_waiting (fed_with o (came ++ bs)) w (sym (outcome_feed o (came ++ bs)) ∙ q))
        (λ bs f. over_settled (fed_with o (came ++ bs)) (λ q. f (outcome_feed o (came ++ bs) ∙ q)))
        (wants s) (wants_are (fed_with o came) refl)

    past : (piece out : List ℕ) → Bytes piece → length piece ≤ wants s → outcome (deliver s piece out).session ≡ Open → (deliver s piece out).used ≡ length piece
    past piece out z l q =
        let d : Delivery = record { piece = piece; output = out } in
        let r = delivery_room o in
        let a = step r k s (fed_with o came) t d in
        let m = (answer_to (side.receiver N r) (fed_with o came) d).session in
        let e = outcome_open m (sym (ap client.outcome_of a.session.seen) ∙ q) in
        uses_all N (client_lawful k) r (Stands r k) (receiver r) (step r k) s (fed_with o came) t (feed_ready N (client_lawful k) (client.begun o) (begun_shaped o) came)
        (feed_still N (client_lawful k) (client.begun o) (begun_shaped o) came) (wants s) (wants_are (fed_with o came) refl) d z l (client.bound_in m) e

    -- the shortest stream and a byte behind it
    one_left : (m : SideSession) → fed_with o came ≡ m → WantsIn N (client_lawful k) m (wants s) → Some (Completes o came) → client.outcome_of m ≡ Waiting → LeavesOne o s
    one_left (talk.ended (talk.done x)) q w c f = let z : ◌≡◌ {A = ℕ} 0 1 = cc in absurd (omega arith)
    one_left (talk.ended (talk.failed x)) q w c f = let z : ◌≡◌ {A = ℕ} 0 1 = cc in absurd (omega arith)
    one_left (talk.waiting e h) q (b, l) (bs, z, (x, p)) f = go b l
      where
        r : ℕ
        r = delivery_room o

        stands : Stands (delivery_room o) k s (talk.waiting e h)
        stands = subst (Stands (delivery_room o) k s) q t

        go : (b : Bool) → Lacks N (client_lawful k) (client.talk_at k e) h (wants s) b → LeavesOne o s
        go false l = absurd ((lacks_behind N (client_lawful k) (client.begun o) (begun_shaped o) came e h q (wants s) false l).none refl (bs, z, (x, sequence_of o (came ++ bs) x p)))
        go true l =
            let v = leaves N (client_lawful k) (delivery_room o) (Stands (delivery_room o) k) (receiver (delivery_room o)) (step (delivery_room o) k) s e h stands
            (subst (Still N) q (feed_still N (client_lawful k) (client.begun o) (begun_shaped o) came)) (wants s) l in
            record {
              stream = v.stream;
              bytes = v.bytes;
              long = v.long;
              opens = λ b out g.
                  ap client.outcome_of ((step (delivery_room o) k s (talk.waiting e h) stands (record { piece = v.stream ++ (b ∷ []); output = out })).session.seen ∙ v.ends (b ∷ []) out g);
              used = λ b out g. v.used (b ∷ []) out g;
              leaves = λ b out g. rw (v.used (b ∷ []) out g) (drop_at v.stream (b ∷ []) (wants s) v.long);
            }

    pub reads : Reads o s came
    reads =
        record {
          wanted = wanted_by;
          never_past = past;
          some = (any_wants s).some t.going;
          left_over = λ q c. one_left (fed_with o came) refl (wants_are (fed_with o came) refl) c (sym (ap client.outcome_of t.seen) ∙ q);
        }

  read : (x : Answer) → (x ≡ Accepted → Limits o) → Read (prepared_by x o) o
  read Accepted l out p q ds y =
      let c = sym (start_begins o out q (l refl)) in
      let b : StandsAt o (start (prepared_by Accepted o).session out).session [] = subst (λ (k : Call). StandsAt o k.session []) c (begins_stands o (l refl) out).stands in
      reads _ (joined_of o ds) (joined_bytes (receiver (delivery_room o)) ds y) (stands_all o ds _ [] b)
  read (Refused e) l out p q ds y = absurd (clash (sym p))

-- for every preparing that v5 accepts, with records of sixteen address bytes as their arrays have
pub read_v5 : (a : V5) → Sixteen a.records → Read (prepare5 a) (opening5 a)
unfolding prepare5
read_v5 a x = read (opening5 a) (check5 a) (limits5 a x)

-- and for every one that v4 accepts
pub read_v4 : (a : V4) → Read (prepare4 a) (opening4 a)
unfolding prepare4
read_v4 a = read (opening4 a) (check4 a) (limits4 a)
