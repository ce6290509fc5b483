-- An opening is accepted exactly when none of its conditions holds, and each number comes exactly when its condition is the first to hold.
use Prim.Native.Nat.{ℕ, ◌<◌}
use native.Mathlib.Omega.{arith}
use mathlib.Core.Path.{◌≡◌, refl, ap, sym, ◌∙◌}
use mathlib.Core.Logic.{◌↔◌, ◌⊎◌, inl, inr}
use mathlib.Core.Option.{Option, none, some}
use mathlib.Core.Bool.{Bool, true, false, ◌&&◌, ◌||◌, not, false≢true, true≢false}
use mathlib.Core.List.{List, [], ◌∷◌}
use lib.ListN.{length}
use lib.Dec.{leb, ltb, eqb, lit<}
use borrow.Author.Tests.{lt-ltb, ltb-true, lt-leb, leb-false, eqb-true, not-true}
use Rattle.protocol.specs.Answers.{Port, Missing, Given, Answer, Accepted, Refused}
use Rattle.protocol.specs.declared.Record.{Record}
use Rattle.protocol.specs.declared.SocksError.{SocksError}
use Rattle.protocol.specs.Numbers.{number, answer_number}
use Rattle.protocol.specs.Host.{strip, all_allowed, Forbidden}
use Rattle.protocol.specs.AddressText.{Ipv6, Name}
use Rattle.protocol.specs.AddressReading.{Destination, ipv4, ipv6, domain, destination_of}
use Rattle.protocol.specs.Requests.{Destination4, address, name, Announces}
use Rattle.protocol.specs.Opening.{V5, V4, first_record, first_four, Condition, ◌↣◌, conditions5, conditions4, First, Answers, refuse, is_empty, is_missing, is_name, is_ipv6, is_none, announces, is_announcing, check5, check4, asked5, asked4, opening5, opening4}
use Rattle.protocol.proofs.Hosts.{forbidden_just}
use Rattle.protocol.proofs.Destinations.{ipv6_just, domain_is, name_just}

pub clash : {e : SocksError} → Accepted ≡ Refused e → ⊥
clash p = let z : ◌≡◌ {A = ℕ} 0 1 = cc in omega arith

pub same_error : {d e : SocksError} → Refused d ≡ Refused e → d ≡ e
same_error p = cc

pub not_long : (m n : ℕ) → not (leb m n) ≡ true ↔ (n < m)
not_long m n = (λ q. leb-false m n (not-true (leb m n) q), λ h. rw (lt-leb m n h))

pub all_passed : Answers 0 []
all_passed = record { accepts = (λ q. tt, λ q. refl); refuses = λ k l. (λ q. omega arith, λ q. absurd q) }

pub checked : (b : Bool) (P : Type 0) (e : SocksError) (m : ℕ) (x : Answer) (cs : List Condition) → number e ≡ m → 0 < m → b ≡ true ↔ P → Answers (answer_number x) cs
    → Answers (answer_number (refuse b e x)) ((P ↣ m) ∷ cs)
checked true P e m x cs w v (p, q) a =
    record {
      accepts = (λ r. absurd (omega arith), λ r. absurd (r.0 (p refl)));
      refuses = λ k l. (λ r. inl (p refl, sym w ∙ r), held k);
    }
  where
    held : (k : ℕ) → (P × (m ≡ k)) ⊎ ((P → ⊥) × First k cs) → number e ≡ k
    held k (inl r) = w ∙ r.1
    held k (inr r) = absurd (r.0 (p refl))
checked false P e m x cs w v (p, q) a =
    record {
      accepts = (λ r. (no, a.accepts.0 r), λ r. a.accepts.1 r.1);
      refuses = λ k l. (λ r. inr (no, (a.refuses k l).0 r), held k l);
    }
  where
    no : P → ⊥
    no h = false≢true (q h)

    held : (k : ℕ) → 0 < k → (P × (m ≡ k)) ⊎ ((P → ⊥) × First k cs) → answer_number x ≡ k
    held k l (inl r) = absurd (no r.0)
    held k l (inr r) = (a.refuses k l).1 r.1

-- ---- each test decides its condition

both_just : {P Q : Type 0} (a b : Bool) → a ≡ true ↔ P → b ≡ true ↔ Q → (a && b) ≡ true ↔ (P × Q)
both_just true true (p, _) (q, _) = (λ r. (p refl, q refl), λ r. refl)
both_just true false p (_, q) = (λ r. absurd (false≢true r), λ r. q r.1)
both_just false b (_, p) q = (λ r. absurd (false≢true r), λ r. p r.0)

both_true : (a b : Bool) → (a && b) ≡ true → (a ≡ true) × (b ≡ true)
both_true true b q = (refl, q)
both_true false b q = absurd (false≢true q)

same_address : {bs cs : List ℕ} → address bs ≡ address cs → bs ≡ cs
same_address e = cc

either_just : {P Q : Type 0} (a b : Bool) → a ≡ true ↔ P → b ≡ true ↔ Q → (a || b) ≡ true ↔ (P ⊎ Q)
either_just {P} {Q} true b (p, p') q = (λ r. inl (p refl), λ r. refl)
either_just {P} {Q} false b (p, p') (q, q') = (λ r. inr (q r), back)
  where
    back : P ⊎ Q → b ≡ true
    back (inl r) = absurd (false≢true (p' r))
    back (inr r) = q' r

itself : (a : Bool) → a ≡ true ↔ (a ≡ true)
itself a = (λ q. q, λ q. q)

pub less_just : (n m : ℕ) → ltb n m ≡ true ↔ (n < m)
less_just n m = (ltb-true n m, lt-ltb n m)

empty_just : (s : List ℕ) → is_empty s ≡ true ↔ (s ≡ [])
empty_just [] = (λ q. refl, λ q. refl)
empty_just (b ∷ s) = (λ q. absurd (none_left (eqb-true (length (b ∷ s)) 0 q)), λ q. (let z : ◌≡◌ {A = ℕ} 0 1 = cc in absurd (omega arith)))
  where
    none_left : length (b ∷ s) ≡ 0 → ⊥
    none_left z = omega arith

forbidden : (s : List ℕ) → not (all_allowed s) ≡ true ↔ Forbidden s
forbidden s = (λ q. (forbidden_just s).0 (not-true (all_allowed s) q), λ q. rw ((forbidden_just s).1 q))

missing_just : (p : Port) → is_missing p ≡ true ↔ (p ≡ Missing)
missing_just Missing = (λ q. refl, λ q. refl)
missing_just (Given n) = (λ q. absurd (false≢true q), λ q. (let z : ◌≡◌ {A = ℕ} 0 1 = cc in absurd (omega arith)))

none_just : {A : Type 0} (r : Option A) → is_none r ≡ true ↔ (r ≡ none)
none_just none = (λ q. refl, λ q. refl)
none_just (some a) = (λ q. absurd (false≢true q), λ q. (let z : ◌≡◌ {A = ℕ} 0 1 = cc in absurd (omega arith)))

pub is_name_lem : (s : List ℕ) → is_name (destination_of s) ≡ true ↔ Name s
is_name_lem s = (there (destination_of s) refl, λ n. rw ((name_just s).1 n))
  where
    there : (d : Destination) → destination_of s ≡ d → is_name d ≡ true → Name s
    there (ipv4 bs) e q = absurd (false≢true q)
    there (ipv6 bs) e q = absurd (false≢true q)
    there (domain n) e q = let k = domain_is s n e in (name_just s).0 (e ∙ ap domain k)

is_ipv6_lem : (s : List ℕ) → is_ipv6 (destination_of s) ≡ true ↔ ((bs : List ℕ) × Ipv6 s bs)
is_ipv6_lem s = (there (destination_of s) refl, λ (bs, x). rw ((ipv6_just s bs).1 x))
  where
    there : (d : Destination) → destination_of s ≡ d → is_ipv6 d ≡ true → (bs : List ℕ) × Ipv6 s bs
    there (ipv4 bs) e q = absurd (false≢true q)
    there (ipv6 bs) e q = (bs, (ipv6_just s bs).0 e)
    there (domain n) e q = absurd (false≢true q)

three_just : {P Q R : Type 0} (a b c : Bool) → a ≡ true ↔ P → b ≡ true ↔ Q → c ≡ true ↔ R → (a && (b && c)) ≡ true ↔ (P × Q × R)
three_just a b c p q r =
    let s = both_just a (b && c) p (both_just b c q r) in
    (λ h. let x = s.0 h in (x.0, x.1.0, x.1.1), λ (x, y, z). s.1 (x, (y, z)))

-- four bytes announce a name just where they are 0.0.0.x with x not zero
pub announces_just : (ip : List ℕ) → announces ip ≡ true ↔ Announces ip
unfolding announces
announces_just ip = (there ip, λ (x, l, e). rw (e, lt-ltb 0 x l))
  where
    there : (ip : List ℕ) → announces ip ≡ true → Announces ip
    there (a ∷ b ∷ c ∷ d ∷ []) q =
        let t = both_true (eqb a 0) (eqb b 0 && (eqb c 0 && ltb 0 d)) q in
        let u = both_true (eqb b 0) (eqb c 0 && ltb 0 d) t.1 in
        let v = both_true (eqb c 0) (ltb 0 d) u.1 in
        (d, ltb-true 0 d v.1, rw (eqb-true a 0 t.0, eqb-true b 0 u.0, eqb-true c 0 v.0))
    there [] q = absurd (false≢true q)
    there (a ∷ []) q = absurd (false≢true q)
    there (a ∷ b ∷ []) q = absurd (false≢true q)
    there (a ∷ b ∷ c ∷ []) q = absurd (false≢true q)
    there (a ∷ b ∷ c ∷ d ∷ e ∷ r) q = let z = eqb-true (length (a ∷ b ∷ c ∷ d ∷ e ∷ r)) 4 (both_true (eqb (length (a ∷ b ∷ c ∷ d ∷ e ∷ r)) 4) (eqb a 0 && (eqb b 0 && (eqb c 0 && ltb 0 d))) q).0 in absurd (omega arith)

announcing_just : (d : Destination4) → is_announcing d ≡ true ↔ ((bs : List ℕ) × (d ≡ address bs) × Announces bs)
announcing_just (address bs) = (λ q. (bs, refl, (announces_just bs).0 q), λ (cs, e, n). (announces_just bs).1 (rw (same_address e) n))
announcing_just (name s) = (λ q. absurd (false≢true q), λ (cs, e, n). (let z : ◌≡◌ {A = ℕ} 0 1 = cc in absurd (omega arith)))

-- ---- the openings

pub check5_just : (a : V5) → Answers (answer_number (check5 a)) (conditions5 a)
unfolding check5
check5_just a =
    let s = strip a.host in
    checked _ _ _ _ _ _ refl (lit< tt) (either_just (is_empty a.host) (is_empty s) (empty_just a.host) (empty_just s))
    (checked _ _ _ _ _ _ refl (lit< tt) (forbidden s)
    (checked _ _ _ _ _ _ refl (lit< tt) (missing_just a.port)
    (checked _ _ _ _ _ _ refl (lit< tt)
    (both_just a.config.proxy_auth _ (itself a.config.proxy_auth)
    (either_just (ltb 255 (length a.user)) (ltb 255 (length a.password)) (less_just 255 (length a.user)) (less_just 255 (length a.password))))
    (checked _ _ _ _ _ _ refl (lit< tt) (both_just (is_name (destination_of s)) (ltb 255 (length s)) (is_name_lem s) (less_just 255 (length s)))
    (checked _ _ _ _ _ _ refl (lit< tt)
    (three_just a.config.local_dns (is_name (destination_of s)) (is_none (first_record a.records)) (itself a.config.local_dns) (is_name_lem s) (none_just (first_record a.records)))
    all_passed)))))

pub check4_just : (a : V4) → Answers (answer_number (check4 a)) (conditions4 a)
unfolding check4
check4_just a =
    let s = strip a.host in
    checked _ _ _ _ _ _ refl (lit< tt) (either_just (is_empty a.host) (is_empty s) (empty_just a.host) (empty_just s))
    (checked _ _ _ _ _ _ refl (lit< tt) (forbidden s)
    (checked _ _ _ _ _ _ refl (lit< tt) (missing_just a.port)
    (checked _ _ _ _ _ _ refl (lit< tt) (is_ipv6_lem s)
    (checked _ _ _ _ _ _ refl (lit< tt) (both_just (is_name (destination_of s)) (ltb 1014 (length s)) (is_name_lem s) (less_just 1014 (length s)))
    (checked _ _ _ _ _ _ refl (lit< tt)
    (three_just a.local_dns (is_name (destination_of s)) (is_none (first_four a.records)) (itself a.local_dns) (is_name_lem s) (none_just (first_four a.records)))
    (checked _ _ _ _ _ _ refl (lit< tt) (announcing_just (asked4 a.local_dns a.records (destination_of s))) all_passed))))))

-- ---- the lookup list changes nothing unless local lookup is on and the host is a name

-- local lookup is off, or the host is no name
abbrev Unread : Bool → Destination → Type 0
Unread lookup d = (lookup ≡ false) ⊎ (is_name d ≡ false)

unread : (lookup : Bool) (s : List ℕ) → (((lookup ≡ true) × Name s) → ⊥) → Unread lookup (destination_of s)
unread false s not_so = inl refl
unread true s not_so = go (is_name (destination_of s)) refl
  where
    go : (x : Bool) → is_name (destination_of s) ≡ x → (true ≡ false) ⊎ (x ≡ false)
    go true e = absurd (not_so (refl, (is_name_lem s).0 e))
    go false e = inr refl

test_same : (lookup : Bool) (d : Destination) (x y : Bool) → Unread lookup d → (lookup && (is_name d && x)) ≡ (lookup && (is_name d && y))
test_same lookup d x y (inl e) = rw e
test_same lookup d x y (inr e) = rw e

asked5_same : (lookup : Bool) (d : Destination) (rs rs' : List Record) → Unread lookup d → asked5 lookup rs d ≡ asked5 lookup rs' d
asked5_same lookup (ipv4 bs) rs rs' u = refl
asked5_same lookup (ipv6 bs) rs rs' u = refl
asked5_same lookup (domain s) rs rs' (inl e) = rw e
asked5_same lookup (domain s) rs rs' (inr e) = absurd (true≢false e)

asked4_same : (lookup : Bool) (d : Destination) (rs rs' : List Record) → Unread lookup d → asked4 lookup rs d ≡ asked4 lookup rs' d
asked4_same lookup (ipv4 bs) rs rs' u = refl
asked4_same lookup (ipv6 bs) rs rs' u = refl
asked4_same lookup (domain s) rs rs' (inl e) = rw e
asked4_same lookup (domain s) rs rs' (inr e) = absurd (true≢false e)

pub lookup5 : (a : V5) (rs : List Record) → ((a.config.local_dns ≡ true) × Name (strip a.host) → ⊥)
    → let b : V5 = record { config = a.config; host = a.host; port = a.port; user = a.user; password = a.password; records = rs } in (check5 b ≡ check5 a) × (opening5 b ≡ opening5 a)
unfolding check5 opening5
lookup5 a rs not_so =
    let u = unread a.config.local_dns (strip a.host) not_so in (
      rw (test_same a.config.local_dns (destination_of (strip a.host)) (is_none (first_record rs)) (is_none (first_record a.records)) u),
      rw (asked5_same a.config.local_dns (destination_of (strip a.host)) rs a.records u),
    )

pub lookup4 : (a : V4) (rs : List Record) → ((a.local_dns ≡ true) × Name (strip a.host) → ⊥)
    → let b : V4 = record { local_dns = a.local_dns; host = a.host; port = a.port; records = rs } in (check4 b ≡ check4 a) × (opening4 b ≡ opening4 a)
unfolding check4 opening4
lookup4 a rs not_so =
    let u = unread a.local_dns (strip a.host) not_so in (
      rw (test_same a.local_dns (destination_of (strip a.host)) (is_none (first_four rs)) (is_none (first_four a.records)) u, asked4_same a.local_dns (destination_of (strip a.host)) rs a.records u),
      rw (asked4_same a.local_dns (destination_of (strip a.host)) rs a.records u),
    )
