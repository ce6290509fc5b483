-- F-13: what the handshakes of the load come to, by the session's own calls.
use Rattle.std.specs.Prelude.{◌≡◌, ℕ, Bool, true, false, List, [], ◌∷◌, ◌++◌, take, replicate}
use Rattle.client_session.specs.declared.Session.{Session}
use Rattle.client_session.specs.declared.Prepared.{Prepared}
use Rattle.client_session.specs.Session.{outcome}
use Rattle.client_session.specs.Calls.{Call, prepare5, prepare4, start, deliver}
use Rattle.endings_spec.specs.declared.Kind.{Kind}
use Rattle.endings_spec.specs.declared.Kind.TheVariants.{WithoutCredentials, WithCredentials, OverV4}
use Rattle.load_spec.specs.Load.{Handshake, arguments5, arguments4, Cut, bytewise, Drawn, DrawnBytewise, Load}
use Rattle.load.specs.declared.Tally.{Tally}
use Rattle.load.specs.Tally.{Counts, no_counts, with_sent, with_outcome, counts_of}

-- ---- a handshake, run: its session is prepared, started and delivered its pieces, one after the other with one output; what each call sent is
-- counted, and at last whether the session is open

-- what is counted, and the output
pub record Ran : Type 0 where
  pub counts : Counts
  pub output : List ℕ

abbrev pub sent_by : Call → List ℕ
sent_by c = take c.sent c.output

unfoldable pub fed_with : Session → List (List ℕ) → List ℕ → Counts → Ran
fed_with s [] out t = record { counts = with_outcome t (outcome s); output = out }
fed_with s (p ∷ ps) out t = let c = deliver s p out in fed_with c.session ps c.output (with_sent t (sent_by c))

abbrev pub prepared_by : Bool → Bool → ℕ → Prepared
prepared_by true credentials name = prepare5 (arguments5 credentials name)
prepared_by false credentials name = prepare4 (arguments4 name)

abbrev pub prepared_for : Handshake → Prepared
prepared_for h = prepared_by h.v5 h.credentials h.name

unfoldable pub ran_over : Handshake → List ℕ → Counts → Ran
ran_over h out t = let c = start (prepared_for h).session out in fed_with c.session h.pieces c.output (with_sent t (sent_by c))

-- handshakes one after the other
unfoldable pub ran_all : List Handshake → List ℕ → Counts → Ran
ran_all [] out t = record { counts = t; output = out }
ran_all (h ∷ hs) out t = let r = ran_over h out t in ran_all hs r.output r.counts

-- ---- what the functions return: pieces as drawn, or byte by byte

abbrev pub Pieces : Bool → ℕ → List ℕ → List (List ℕ) → ℕ → Type 0
Pieces false s bs ps s' = Cut s bs ps s'
Pieces true s bs ps s' = (ps ≡ bytewise bs) × (s' ≡ s)

abbrev pub One : Bool → ℕ → Handshake → ℕ → Type 0
One false = Drawn
One true = DrawnBytewise

-- from a state, replies delivered to a session with an output, counted on from there
pub record Fed (single : Bool) (s : ℕ) (session : Session) (replies out : List ℕ) (t : Counts) (r : Tally) (out' : List ℕ) : Type 0 where
  pub pieces : List (List ℕ)
  pub cut : Pieces single s replies pieces r.state
  pub ran : fed_with session pieces out t ≡ record { counts = counts_of r; output = out' }

-- a handshake of the load
pub record RanOne (single : Bool) (t : Tally) (out : List ℕ) (r : Tally) (out' : List ℕ) : Type 0 where
  pub handshake : Handshake
  pub drawn : One single t.state handshake r.state
  pub ran : ran_over handshake out (counts_of t) ≡ record { counts = counts_of r; output = out' }

-- so many of them from a tally on
pub record RanOn (single : Bool) (t : Tally) (count : ℕ) (out : List ℕ) (r : Tally) : Type 0 where
  pub handshakes : List Handshake
  pub load : Load (One single) t.state count handshakes r.state
  pub ran : (ran_all handshakes out (counts_of t)).counts ≡ counts_of r

-- and from a seed
pub record RanLoad (single : Bool) (count seed : ℕ) (r : Tally) : Type 0 where
  pub handshakes : List Handshake
  pub load : Load (One single) seed count handshakes r.state
  pub ran : (ran_all handshakes (replicate 1024 0) no_counts).counts ≡ counts_of r

-- ---- the kind of an opening

abbrev pub kind_by : Bool → Bool → Kind
kind_by true true = WithCredentials
kind_by true false = WithoutCredentials
kind_by false credentials = OverV4
