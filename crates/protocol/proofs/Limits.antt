-- F-4: each request of an accepted opening keeps to its limit, so that over v5 at most 778 bytes are sent in all; and no number is 0 or 11.
use Prim.Native.Nat.{ℕ, ◌+◌, ◌≤◌, ◌<◌}
use native.Mathlib.Omega.{arith}
use mathlib.Core.Path.{◌≡◌, refl, ap, ◌∙◌}
use mathlib.Core.Logic.{◌⊎◌, inl, inr}
use mathlib.Core.Option.{Option, none, some}
use mathlib.Core.Bool.{Bool, true, false, cond}
use mathlib.Core.List.Memᴰ
use mathlib.Core.List.{List, [], ◌∷◌, ◌++◌}
use lib.ListN.{length, take, drop, length-append, length-take}
use lib.Dec.{leb, lit<}
use borrow.Author.Tests.{leb-true, leb-false}
use Rattle.protocol.specs.declared.AuthMethod.{AuthMethod}
use Rattle.protocol.specs.declared.AuthMethod.TheVariants.{NoAuth, UserPass, NoneAcceptable}
use Rattle.protocol.specs.declared.Family.{Family}
use Rattle.protocol.specs.declared.Family.TheVariants.{Four, Six}
use Rattle.protocol.specs.declared.Record.{Record}
use Rattle.protocol.specs.declared.Reply.{Reply}
use Rattle.protocol.specs.Answers.{Good, Bad, Decision, Undecided, Decided, Answer, Accepted, Refused}
use Rattle.protocol.specs.declared.SocksError.{SocksError}
use Rattle.protocol.specs.declared.SocksError.TheVariants.{ShortOutput, MissingHost, HostByte, MissingPort, CredentialTooLong, HostTooLong, IpV6, DnsFailure, UnexpectedEof, Parsing, Unsupported, MethodMismatch, Failed, Command, Settled, NotOpen, ShortText, Malformed, WrongCredentials, RouteLength, OutOfOrder, AnnouncesName, BadLine, CaptureCut, CaptureNotAccepted, ShortStream}
use Rattle.protocol.specs.declared.Outcome.{Outcome}
use Rattle.protocol.specs.declared.Outcome.TheVariants as Out
use Rattle.protocol.specs.declared.Outcome.TheVariants.{Waiting, Open}
use Rattle.protocol.specs.Bytes.{two}
use Rattle.protocol.specs.Numbers.{number, answer_number, outcome_number}
use Rattle.protocol.specs.Host.{strip}
use Rattle.protocol.specs.AddressText.{Name}
use Rattle.protocol.specs.AddressReading.{Destination, ipv4, ipv6, domain, destination_of}
use Rattle.protocol.specs.Requests.{negotiation_req, authentication_req, address_field, proxy_req, Destination4, address, name, request}
use Rattle.protocol.specs.Opening.{V5, V4, record_family, first_record, unless_four, first_four, check5, check4, found_four, asked4, opening4, Opening, v5, no_auth, user_pass, asked5, or_else, credentials_if, port_number, opening5, replies, at_opening, later, v4, start_room, Limits, Sixteen}
use Rattle.protocol.specs.Replies.{decide}
use Rattle.protocol.specs.Bound.{Endpoint, unbound, bound_by}
use Rattle.protocol.specs.Machine.{Machine, sends, reads, run, machine}
use Rattle.protocol.proofs.Openings.{check5_just, check4_just}
use Rattle.protocol.proofs.Destinations.{ipv4_length, ipv6_length, ipv6_just, domain_is, name_just}

pub greeting_size : (m : AuthMethod) → length (negotiation_req m) ≡ 3
unfolding negotiation_req
greeting_size NoAuth = refl
greeting_size UserPass = refl
greeting_size NoneAcceptable = refl

pub credentials_limit : (u p : List ℕ) → length u ≤ 255 → length p ≤ 255 → length (authentication_req u p) ≤ 513
unfolding authentication_req
credentials_limit u p h k = omega (arith, length-append u (length p ∷ p))

-- a destination of at most 255 bytes
abbrev Short : Destination → Type 0
Short (ipv4 bs) = length bs ≤ 255
Short (ipv6 bs) = length bs ≤ 255
Short (domain s) = length s ≤ 255

pub connect_limit : (d : Destination) (port : ℕ) → Short d → length (proxy_req d port) ≤ 262
unfolding proxy_req address_field
connect_limit (ipv4 bs) port h = omega (arith, length-append bs (two port))
connect_limit (ipv6 bs) port h = omega (arith, length-append bs (two port))
connect_limit (domain s) port h = omega (arith, length-append s (two port))

-- ---- an accepted opening

at_most : (m n : ℕ) → (m < n → ⊥) → n ≤ m
at_most m n h = go (leb n m) refl
  where
    go : (b : Bool) → leb n m ≡ b → n ≤ m
    go true e = leb-true n m e
    go false e = absurd (h (leb-false n m e))

family_short : (f : Family) (bs : List ℕ) → length bs ≡ 16 → Short (record_family f bs)
family_short Four bs l = omega (arith, length-take 4 bs)
family_short Six bs l = omega arith

found_short : (lookup : Bool) (rs : List Record) (n : List ℕ) → Sixteen rs → length n ≤ 255 → Short (cond lookup (or_else (first_record rs) (domain n)) (domain n))
found_short false rs n x h = h
found_short true [] n x h = h
found_short true (r ∷ rs) n x h = family_short r.family r.address (x r (Memᴰ.head refl))

asked_short : (lookup : Bool) (rs : List Record) (s : List ℕ) → Sixteen rs → (Name s × (255 < length s) → ⊥) → Short (asked5 lookup rs (destination_of s))
asked_short lookup rs s x h = go (destination_of s) refl
  where
    go : (d : Destination) → destination_of s ≡ d → Short (asked5 lookup rs d)
    go (ipv4 bs) e = omega (arith, ipv4_length s bs e)
    go (ipv6 bs) e = omega (arith, ipv6_length s bs e)
    go (domain n) e =
        let k = domain_is s n e in
        let w : Name s = (name_just s).0 (e ∙ ap domain k) in
        found_short lookup rs n x (rw k (at_most 255 (length s) (λ l. h (w, l))))

limits_of : (b : Bool) (u p : List ℕ) (d : Destination) (port : ℕ) (o : Bool) → ((b ≡ true) × ((255 < length u) ⊎ (255 < length p)) → ⊥) → Short d
    → Limits (v5 (credentials_if b u p) d port o)
limits_of false u p d port o h k = (greeting_size NoAuth, connect_limit d port k)
limits_of true u p d port o h k = (
  greeting_size UserPass,
  credentials_limit u p (at_most 255 (length u) (λ l. h (refl, inl l))) (at_most 255 (length p) (λ l. h (refl, inr l))),
  connect_limit d port k,
)

pub limits5 : (a : V5) → Sixteen a.records → check5 a ≡ Accepted → Limits (opening5 a)
unfolding opening5
limits5 a x e =
    let n = (check5_just a).accepts.0 (ap answer_number e) in
    let c = n.1.1.1 in
    limits_of a.config.proxy_auth a.user a.password _ (port_number a.port) a.config.optimistic c.0
    (asked_short a.config.local_dns a.records (strip a.host) x c.1.0)

-- ---- over v4

address_limit : (bs : List ℕ) (port : ℕ) → length bs ≤ 4 → length (request (address bs) port) ≤ 1024
unfolding request
address_limit bs port h = omega (arith, length-append bs (0 ∷ []))

name_limit : (s : List ℕ) (port : ℕ) → length s ≤ 1014 → length (request (name s) port) ≤ 1024
unfolding request
name_limit s port h = omega (arith, length-append s (0 ∷ []))

abbrev Four4 : Option (List ℕ) → Type 0
Four4 none = Unit {0}
Four4 (some bs) = length bs ≤ 4

four_short : (rs : List Record) → Four4 (first_four rs)
unfolding first_four
four_short [] = tt
four_short (r ∷ rs) = go r.family (four_short rs)
  where
    go : (f : Family) → Four4 (first_four rs) → Four4 (unless_four f r.address (first_four rs))
    go Four ih = omega (arith, length-take 4 r.address)
    go Six ih = ih

-- an address of at most four bytes, or a name of at most 1,014
abbrev pub Short4 : Destination4 → Type 0
Short4 (address bs) = length bs ≤ 4
Short4 (name s) = length s ≤ 1014

found_short4 : (found : Option (List ℕ)) (s : List ℕ) → Four4 found → length s ≤ 1014 → Short4 (found_four found s)
found_short4 none s f h = h
found_short4 (some bs) s f h = f

named_short : (lookup : Bool) (rs : List Record) (s : List ℕ) → length s ≤ 1014 → Short4 (cond lookup (found_four (first_four rs) s) (name s))
named_short true rs s h = found_short4 (first_four rs) s (four_short rs) h
named_short false rs s h = h

pub asked4_short : (a : V4) → check4 a ≡ Accepted → Short4 (asked4 a.local_dns a.records (destination_of (strip a.host)))
asked4_short a e = go (destination_of (strip a.host)) refl
  where
    go : (d : Destination) → destination_of (strip a.host) ≡ d → Short4 (asked4 a.local_dns a.records d)
    go (ipv4 bs) q = omega (arith, ipv4_length (strip a.host) bs q)
    go (ipv6 bs) q = let n = (check4_just a).accepts.0 (ap answer_number e) in absurd (n.1.1.1.0 (bs, (ipv6_just (strip a.host) bs).0 q))
    go (domain m) q =
        let n = (check4_just a).accepts.0 (ap answer_number e) in
        let k = domain_is (strip a.host) m q in
        let w : Name (strip a.host) = (name_just (strip a.host)).0 (q ∙ ap domain k) in
        let h : length (strip a.host) ≤ 1014 = at_most 1014 (length (strip a.host)) (λ l. n.1.1.1.1.0 (w, l)) in
        named_short a.local_dns a.records m (rw k h)

request_limit : (d : Destination4) (port : ℕ) → Short4 d → length (request d port) ≤ 1024
request_limit (address bs) port h = address_limit bs port h
request_limit (name s) port h = name_limit s port h

pub limits4 : (a : V4) → check4 a ≡ Accepted → Limits (opening4 a)
unfolding opening4
limits4 a e = request_limit _ (port_number a.port) (asked4_short a e)

-- ---- what is sent in all

abbrev lengths : List (List ℕ) → ℕ
lengths [] = 0
lengths (q ∷ qs) = length q + lengths qs

sends_length : (qs : List (List ℕ)) (sent : List ℕ) → length (sends qs sent) ≡ length sent + lengths qs
sends_length [] sent = omega arith
sends_length (q ∷ qs) sent = omega (arith, sends_length qs (sent ++ q), length-append sent q)

first_and_rest : (qs : List (List ℕ)) → lengths (take 1 qs) + lengths (drop 1 qs) ≡ lengths qs
first_and_rest [] = refl
first_and_rest (q ∷ qs) = omega arith

run_length : (es : List Reply) (left : List (List ℕ)) (sent : List ℕ) (x : Endpoint) (place : ℕ) (bs : List ℕ)
    → length (run es left sent x place bs).sent ≤ length sent + lengths left
unfolding run
run_length [] left sent x place bs = omega arith
run_length (e ∷ es) left sent x place bs =
    go (decide e (drop place bs)) (λ n. run es (drop 1 left) (sends (take 1 left) sent) (bound_by e (take n (drop place bs))) (place + n) bs)
    (λ n.
    let h = run_length es (drop 1 left) (sends (take 1 left) sent) (bound_by e (take n (drop place bs))) (place + n) bs in
    omega (arith, sends_length (take 1 left) sent, first_and_rest left))
  where
    go : (d : Decision) (next : ℕ → Machine) → ((n : ℕ) → length (next n).sent ≤ length sent + lengths left) → length (reads d sent place next).sent ≤ length sent + lengths left
    go Undecided next ih = omega arith
    go (Decided n Good) next ih = ih n
    go (Decided n (Bad y)) next ih = omega arith

sent_length : (o : Opening) (bs : List ℕ) → length (machine o bs).sent ≤ lengths (at_opening o) + lengths (later o)
unfolding machine
sent_length o bs = omega (arith, run_length (replies o) (later o) (sends (at_opening o) []) unbound 0 bs, sends_length (at_opening o) [])

-- an opening whose requests keep to their limits sends at most 778 bytes over v5, and 1,024 over v4
pub sent_within : (o : Opening) → Limits o → (bs : List ℕ) → length (machine o bs).sent ≤ start_room o
sent_within (v5 no_auth d port true) l bs = omega (arith, sent_length (v5 no_auth d port true) bs, l.0, l.1)
sent_within (v5 no_auth d port false) l bs = omega (arith, sent_length (v5 no_auth d port false) bs, l.0, l.1)
sent_within (v5 (user_pass u p) d port true) l bs = omega (arith, sent_length (v5 (user_pass u p) d port true) bs, l.0, l.1, l.2)
sent_within (v5 (user_pass u p) d port false) l bs = omega (arith, sent_length (v5 (user_pass u p) d port false) bs, l.0, l.1, l.2)
sent_within (v4 d port) l bs = omega (arith, sent_length (v4 d port) bs, l)

-- ---- no number of a refusal or failure is 0 or 11

pub number_is : (e : SocksError) → (0 < number e) × (number e ≡ 11 → ⊥)
number_is ShortOutput = (lit< tt, λ q. omega arith)
number_is MissingHost = (lit< tt, λ q. omega arith)
number_is HostByte = (lit< tt, λ q. omega arith)
number_is MissingPort = (lit< tt, λ q. omega arith)
number_is CredentialTooLong = (lit< tt, λ q. omega arith)
number_is HostTooLong = (lit< tt, λ q. omega arith)
number_is IpV6 = (lit< tt, λ q. omega arith)
number_is DnsFailure = (lit< tt, λ q. omega arith)
number_is UnexpectedEof = (lit< tt, λ q. omega arith)
number_is Parsing = (lit< tt, λ q. omega arith)
number_is Unsupported = (lit< tt, λ q. omega arith)
number_is MethodMismatch = (lit< tt, λ q. omega arith)
number_is Failed = (lit< tt, λ q. omega arith)
number_is (Command s) = (lit< tt, λ q. omega arith)
number_is Settled = (lit< tt, λ q. omega arith)
number_is NotOpen = (lit< tt, λ q. omega arith)
number_is ShortText = (lit< tt, λ q. omega arith)
number_is Malformed = (lit< tt, λ q. omega arith)
number_is WrongCredentials = (lit< tt, λ q. omega arith)
number_is RouteLength = (lit< tt, λ q. omega arith)
number_is OutOfOrder = (lit< tt, λ q. omega arith)
number_is AnnouncesName = (lit< tt, λ q. omega arith)
number_is BadLine = (lit< tt, λ q. omega arith)
number_is CaptureCut = (lit< tt, λ q. omega arith)
number_is CaptureNotAccepted = (lit< tt, λ q. omega arith)
number_is ShortStream = (lit< tt, λ q. omega arith)

-- so 0 says that a call was accepted
pub number_accepted : (x : Answer) → answer_number x ≡ 0 → x ≡ Accepted
number_accepted Accepted q = refl
number_accepted (Refused e) q = let p = (number_is e).0 in absurd (omega arith)

pub answer_not_11 : (x : Answer) → answer_number x ≡ 11 → ⊥
answer_not_11 Accepted q = omega arith
answer_not_11 (Refused e) q = (number_is e).1 q

pub outcome_not_11 : (x : Outcome) → outcome_number x ≡ 11 → ⊥
outcome_not_11 Waiting q = omega arith
outcome_not_11 Open q = omega arith
outcome_not_11 (Out.Failed e) q = (number_is e).1 q
