-- Sessions that lent bytes can hold stay so: whatever byte strings a session is fed with.
use Prim.Native.Nat.{ℕ, ◌+◌, ◌-◌, ◌%◌, ◌^◌, ◌≤◌, ◌<◌}
use native.Mathlib.Omega.{arith}
use mathlib.Core.Path.{◌≡◌, refl, ap, sym, subst, ◌∙◌}
use mathlib.Core.Bool.{Bool, true}
use mathlib.Core.List.{List, [], ◌∷◌, ◌++◌}
use lib.ListN.{length, drop, replicate, length-append, length-drop}
use Rattle.protocol.specs.Answers.{Answer, Accepted, Refused}
use Rattle.protocol.specs.declared.SocksError.{SocksError}
use Rattle.protocol.specs.Bytes.{Bytes}
use Rattle.client_stages.specs.declared.due.Requests.{Requests}
use Rattle.client_stages.specs.due.Parts.{requests_of}
use Rattle.client_stages.specs.due.Stages.{SideSession, holds_of, bound_after}
use Rattle.client_stages.proofs.due.Held.{Holds, onward_holds, holds_few}
use Rattle.client_session.specs.declared.Session.{Session}
use Rattle.client_session.specs.Session.{side_of, view, packed, attempted}
use Rattle.client_session.specs.Calls.{Call, start, deliver, end, takes}
use Rattle.socks.proofs.Tunnels.{view_packed}
use Rattle.socks.proofs.Turns.{start_untouched, start_accepts, deliver_untouched, deliver_accepts, end_untouched, end_accepts}
use Rattle.lent_session.specs.Fits.{Fits}
use Rattle.lent_session.proofs.Writing.{state_back}
use Rattle.lent_session.specs.State.{session_at, state_of}
use Rattle.lent_session.specs.Calls.{left_by}
use Rattle.talk.specs.Talk.{waiting, ended, done, failed, onward}
use Rattle.talk.specs.Attempts.{attempts_by}

-- how many bytes its requests have
abbrev pub most : Requests → ℕ
most r = r.lengths.first + r.lengths.authentication + r.lengths.proxy

-- what it holds are bytes, as many as the hold has; behind its requests there are zeros
pub record Whole (x : Session) : Type 0 where
  pub fits : Fits x
  pub holds : Holds (view x)
  pub room : most x.requests ≤ 1024
  pub blank : drop (most x.requests) x.requests.bytes ≡ replicate (1024 - most x.requests) 0

port_small : (m : SideSession) → Holds m → (x : Session) → Fits x → (bound_after m x.bound).port < 65536
port_small (waiting e h) s x f = f.port
port_small (ended (done y)) s x f = s.port
port_small (ended (failed e)) s x f = f.port

hold_long : (h hold : List ℕ) → length hold ≡ 261 → length h ≤ 261 → length (h ++ drop (length h) hold) ≡ 261
hold_long h hold l f = simp (length-append, length-drop) (omega arith)

below : (n : ℕ) → n % 2 ^ 64 < 2 ^ 64
below n = omega arith

pub packed_fits : (x : Session) → Fits x → (m : SideSession) → Holds m → (n : ℕ) → Fits (attempted n (packed x m))
packed_fits x f m s n =
    let k = holds_few m s in
    record {
      attempts = below _;
      held = omega arith;
      first = f.first;
      authentication = f.authentication;
      proxy = f.proxy;
      port = port_small m s x f;
      hold = hold_long (holds_of m) x.hold f.hold k;
      bytes = f.bytes;
    }

takes_whole : (x : Session) → Whole x → (piece out : List ℕ) → Bytes piece → Whole (takes x piece out).session
takes_whole x w [] out y = w
takes_whole x w (b ∷ bs) out y =
    let f = onward (side_of x) (view x) (b ∷ bs) in
    let h = onward_holds (requests_of x.requests) (view x) w.holds (b ∷ bs) y in
    record {
      fits = packed_fits x w.fits f.session h (attempts_by (side_of x) (view x) (b ∷ bs));
      holds = subst Holds (sym (view_packed x f.session)) h;
      room = w.room;
      blank = w.blank;
    }

pub deliver_whole : (x : Session) → Whole x → (piece out : List ℕ) → Bytes piece → Whole (deliver x piece out).session
deliver_whole x w piece out y = go (deliver x piece out).answer refl
  where
    go : (a : Answer) → (deliver x piece out).answer ≡ a → Whole (deliver x piece out).session
    go Accepted q = rw (deliver_accepts x piece out q) (takes_whole x w piece out y)
    go (Refused e) q = rw (deliver_untouched x piece out e q) w

-- a start changes nothing of it
started_fits : (x : Session) → Fits x → (b : Bool) → Fits (record { stage = x.stage; started = b; held = x.held; hold = x.hold; bound = x.bound; attempts = x.attempts; requests = x.requests })
started_fits x f b =
    record { attempts = f.attempts; held = f.held; first = f.first; authentication = f.authentication; proxy = f.proxy; port = f.port; hold = f.hold; bytes = f.bytes }

pub start_fits : (x : Session) → Fits x → (out : List ℕ) → Fits (start x out).session
start_fits x f out = go (start x out).answer refl
  where
    go : (a : Answer) → (start x out).answer ≡ a → Fits (start x out).session
    go Accepted q = rw (start_accepts x out q) (started_fits x f true)
    go (Refused e) q = rw (start_untouched x out e q) f

pub start_whole : (x : Session) → Whole x → (out : List ℕ) → Whole (start x out).session
start_whole x w out = go (start x out).answer refl
  where
    go : (a : Answer) → (start x out).answer ≡ a → Whole (start x out).session
    go Accepted q = rw (start_accepts x out q) (record { fits = started_fits x w.fits true; holds = w.holds; room = w.room; blank = w.blank })
    go (Refused e) q = rw (start_untouched x out e q) w

-- an end holds nothing
pub end_fits : (x : Session) → Fits x → Fits (end x).session
end_fits x f = go (end x).answer refl
  where
    go : (a : Answer) → (end x).answer ≡ a → Fits (end x).session
    go Accepted q =
        rw (end_accepts x q)
        (record {
          attempts = f.attempts;
          held = omega arith;
          first = f.first;
          authentication = f.authentication;
          proxy = f.proxy;
          port = f.port;
          hold = f.hold;
          bytes = f.bytes;
        })
    go (Refused e) q = rw (end_untouched x e q) f

pub end_whole : (x : Session) → Whole x → Whole (end x).session
end_whole x w = go (end x).answer refl
  where
    go : (a : Answer) → (end x).answer ≡ a → Whole (end x).session
    go Accepted q =
        let f = end_fits x w.fits in
        rw (end_accepts x q) (record { fits = rw (end_accepts x q) at f; holds = tt; room = w.room; blank = w.blank })
    go (Refused e) q = rw (end_untouched x e q) w

-- ---- lent bytes are the one writing of a session

pub record Written (s : List ℕ) (x : Session) : Type 0 where
  pub is : s ≡ state_of x
  pub whole : Whole x

pub means : (s : List ℕ) (x : Session) → Written s x → session_at s ≡ x
means s x w = ap session_at w.is ∙ state_back x w.whole.fits

pub left : (c : Call) (s : List ℕ) (x : Session) → Written s x → Whole c.session → ((e : SocksError) → c.answer ≡ Refused e → c.session ≡ x) → Written (left_by c.answer c.session s) c.session
left c s x w f h = go c.answer refl
  where
    go : (a : Answer) → c.answer ≡ a → Written (left_by a c.session s) c.session
    go Accepted q = record { is = refl; whole = f }
    go (Refused e) q = record { is = w.is ∙ ap state_of (sym (h e q)); whole = f }
