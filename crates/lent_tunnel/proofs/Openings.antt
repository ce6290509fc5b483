-- What preparing leaves can stand in lent bytes, and is all zeros once it is wiped.
use Prim.Native.Nat.{ℕ, ◌+◌, ◌-◌, ◌≤◌}
use native.Mathlib.Omega.{arith}
use mathlib.Core.Path.{◌≡◌, refl, ap, sym, ◌∙◌}
use mathlib.Core.Bool.{Bool, false}
use mathlib.Core.List.{List, [], ◌∷◌, ◌++◌}
use lib.ListN.{length, drop, replicate, length-append, length-replicate, replicate-append-replicate}
use lib.Seq.{drop-append-add, drop_at}
use lib.Dec.{lit<}
use Rattle.protocol.specs.Answers.{Answer, Accepted, Refused}
use Rattle.protocol.specs.declared.AuthMethod.TheVariants.{NoAuth, UserPass}
use Rattle.protocol.specs.declared.Reply.{Reply}
use Rattle.protocol.specs.declared.Reply.TheVariants.{NegotiationRes, Response}
use Rattle.protocol.specs.declared.SocksError.{SocksError}
use Rattle.protocol.specs.Bytes.{padded}
use Rattle.protocol.specs.Requests.{negotiation_req, authentication_req, proxy_req, request}
use Rattle.protocol.specs.Opening.{V5, V4, check5, check4, Opening, v5, v4, no_auth, user_pass, opening5, opening4, Limits, Sixteen}
use Rattle.protocol.proofs.Limits.{limits5, limits4}
use Rattle.client_stages.specs.declared.due.Stage.{Stage}
use Rattle.client_stages.specs.declared.due.Stage.TheVariants.{Awaiting}
use Rattle.client_session.specs.declared.Session.{Session}
use Rattle.client_session.specs.Calls.{kept_with, fresh, prepared_for, empty_session, prepared_by, prepare5, prepare4}
use Rattle.lent_numbers.specs.bytes.Numbers.{digits}
use Rattle.lent_numbers.proofs.bytes.Laws.{length_digits}
use Rattle.lent_session.specs.Fits.{Fits}
use Rattle.lent_session.proofs.Writing.{state_back}
use Rattle.lent_session.specs.State.{state_of, two_at, code_of, error_number, status_number}
use Rattle.lent_session.specs.Calls.{written, wiped}
use Rattle.lent_tunnel.proofs.Kept.{most, Whole}

small : (q a p : List ℕ) → length q + length a + length p ≤ 1024 → length (q ++ (a ++ p)) ≤ 1024
small q a p h = simp length-append (omega arith)

padded_long : (bs : List ℕ) → length bs ≤ 1024 → length (padded 1024 bs) ≡ 1024
padded_long bs h = simp (length-append, length-replicate) (omega arith)

padded_blank : (bs : List ℕ) (n : ℕ) → n ≡ length bs → drop n (padded 1024 bs) ≡ replicate (1024 - n) 0
padded_blank bs n e = rw e (drop_at bs (replicate (1024 - length bs) 0) (length bs) refl)

-- a session with requests, that holds nothing
module _ (o : Bool) (q a p : List ℕ) (h : length q + length a + length p ≤ 1024) (stage : Stage) where
  pub fresh_fits : Fits (fresh stage (kept_with o q a p))
  fresh_fits =
      record {
        attempts = lit< tt;
        held = lit< tt;
        first = omega arith;
        authentication = omega arith;
        proxy = omega arith;
        port = lit< tt;
        hold = length-replicate {A = ℕ} 261 0;
        bytes = padded_long (q ++ (a ++ p)) (small q a p h);
      }

pub fresh_whole : (o : Bool) (q a p : List ℕ) → length q + length a + length p ≤ 1024 → (e : Reply) → Whole (fresh (Awaiting e) (kept_with o q a p))
fresh_whole o q a p h e =
    let l : length q + length a + length p ≡ length (q ++ (a ++ p)) = simp length-append (omega arith) in
    record {
      fits = fresh_fits o q a p h (Awaiting e);
      holds = (omega arith, λ i. omega arith);
      room = h;
      blank = padded_blank (q ++ (a ++ p)) (length q + length a + length p) l;
    }

pub empty_fits : (e : SocksError) → Fits (empty_session e)
empty_fits e = fresh_fits _ [] [] [] (omega arith) _

prepared_whole : (o : Opening) → Limits o → Whole (prepared_for o)
prepared_whole (v5 no_auth d port o) (n, c) = fresh_whole o (negotiation_req NoAuth) [] (proxy_req d port) (omega arith) (NegotiationRes NoAuth)
prepared_whole (v5 (user_pass u p) d port o) (n, a, c) = fresh_whole o (negotiation_req UserPass) (authentication_req u p) (proxy_req d port) (omega arith) (NegotiationRes UserPass)
prepared_whole (v4 d port) l = fresh_whole false (request d port) [] [] (omega arith) Response

whole_by : (a : Answer) (o : Opening) → (a ≡ Accepted → Limits o) → (prepared_by a o).answer ≡ Accepted → Whole (prepared_by a o).session
whole_by Accepted o l q = prepared_whole o (l refl)
whole_by (Refused e) o l q = let z : ◌≡◌ {A = ℕ} 0 1 = cc in absurd (omega arith)

-- of what a preparing accepted, with records of sixteen address bytes as their arrays have
pub whole5 : (a : V5) → Sixteen a.records → (prepare5 a).answer ≡ Accepted → Whole (prepare5 a).session
unfolding prepare5
whole5 a x q = whole_by (check5 a) (opening5 a) (limits5 a x) q

pub whole4 : (a : V4) → (prepare4 a).answer ≡ Accepted → Whole (prepare4 a).session
unfolding prepare4
whole4 a q = whole_by (check4 a) (opening4 a) (limits4 a) q

fits_by : (a : Answer) (o : Opening) → (a ≡ Accepted → Limits o) → Fits (prepared_by a o).session
fits_by Accepted o l = (prepared_whole o (l refl)).fits
fits_by (Refused e) o l = empty_fits e

-- and of what any left
pub fits5 : (a : V5) → Sixteen a.records → Fits (prepare5 a).session
unfolding prepare5
fits5 a x = fits_by (check5 a) (opening5 a) (limits5 a x)

pub fits4 : (a : V4) → Fits (prepare4 a).session
unfolding prepare4
fits4 a = fits_by (check4 a) (opening4 a) (limits4 a)

-- ---- wiped

past : (k n m : ℕ) (rest to : List ℕ) → drop m rest ≡ to → drop (k + m) (digits k n ++ rest) ≡ to
past k n m rest to e = ap (λ (j : ℕ). drop (j + m) (digits k n ++ rest)) (sym (length_digits k n)) ∙ drop-append-add (digits k n) rest m ∙ e

-- numbers of eight bytes and of two, one behind the other, three bytes, the hold, and what stands behind it
behind_numbers : (a b c d e f : ℕ) (u v w : ℕ) (hold bytes : List ℕ) → length hold ≡ 261 → (n : ℕ)
    → drop (282 + n) (digits 8 a ++ (digits 2 b ++ (digits 2 c ++ (digits 2 d ++ (digits 2 e ++ (digits 2 f ++ (u ∷ v ∷ w ∷ (hold ++ bytes)))))))) ≡ drop n bytes
behind_numbers a b c d e f u v w hold bytes l n =
    let t : List ℕ = u ∷ v ∷ w ∷ (hold ++ bytes) in
    let z : 282 + n ≡ 8 + (2 + (2 + (2 + (2 + (2 + (3 + (261 + n))))))) = omega arith in
    let h : drop (261 + n) (hold ++ bytes) ≡ drop n bytes = ap (λ (j : ℕ). drop (j + n) (hold ++ bytes)) (sym l) ∙ drop-append-add hold bytes n in
    let k : drop (3 + (261 + n)) t ≡ drop n bytes = drop-append-add (u ∷ v ∷ w ∷ []) (hold ++ bytes) (261 + n) ∙ h in
    let six : drop (2 + (3 + (261 + n))) (digits 2 f ++ t) ≡ drop n bytes = past 2 f (3 + (261 + n)) t (drop n bytes) k in
    let five = past 2 e (2 + (3 + (261 + n))) (digits 2 f ++ t) (drop n bytes) six in
    let four = past 2 d (2 + (2 + (3 + (261 + n)))) (digits 2 e ++ (digits 2 f ++ t)) (drop n bytes) five in
    let three = past 2 c (2 + (2 + (2 + (3 + (261 + n))))) (digits 2 d ++ (digits 2 e ++ (digits 2 f ++ t))) (drop n bytes) four in
    let two = past 2 b (2 + (2 + (2 + (2 + (3 + (261 + n)))))) (digits 2 c ++ (digits 2 d ++ (digits 2 e ++ (digits 2 f ++ t)))) (drop n bytes) three in
    rw z (past 8 a (2 + (2 + (2 + (2 + (2 + (3 + (261 + n))))))) (digits 2 b ++ (digits 2 c ++ (digits 2 d ++ (digits 2 e ++ (digits 2 f ++ t))))) (drop n bytes) two)

behind : (x : Session) → Fits x → (n : ℕ) → drop (282 + n) (state_of x) ≡ drop n x.requests.bytes
behind x f n =
    behind_numbers x.attempts x.held x.requests.lengths.first x.requests.lengths.authentication x.requests.lengths.proxy x.bound.port
    (code_of x.stage x.started x.requests.lengths.optimistic x.bound.kind) (error_number x.stage) (status_number x.stage) x.hold x.requests.bytes f.hold n

written_is : (x : Session) → Whole x → written (state_of x) ≡ most x.requests
written_is x w =
    let e : two_at (state_of x) 10 + two_at (state_of x) 12 + two_at (state_of x) 14 ≡ most x.requests = ap (λ (t : Session). most t.requests) (state_back x w.fits) in
    let r = w.room in
    rw e (omega arith)

pub wipes : (x : Session) → Whole x → wiped (state_of x) ≡ replicate 1306 0
wipes x w =
    let n : ℕ = most x.requests in
    let r = w.room in
    let z : 282 + n + (1024 - n) ≡ 1306 = omega arith in
    rw (written_is x w, behind x w.fits n, w.blank) (replicate-append-replicate {A = ℕ} (282 + n) (1024 - n) 0 ∙ ap (λ (j : ℕ). replicate j 0) z)
