-- F-9's promise holds of every line.
use Prim.Native.Nat.{ℕ, ◌-◌, ◌≤◌, zero-le}
use native.Mathlib.Omega.{arith}
use mathlib.Core.Path.{◌≡◌, refl, sym, subst, ◌∙◌}
use mathlib.Core.Logic.{◌⊎◌, inl, inr}
use mathlib.Core.Bool.{false, true≢false}
use mathlib.Core.Option.{Option, none, some}
use mathlib.Core.List.{List}
use lib.ListN.{length, take, replicate}
use lib.Seq.{take-append_seam, drop-append_seam}
use Rattle.protocol.specs.Bytes.{padded}
use Rattle.proxy_url_spec.specs.Grammar.{Value, Line, without_credentials, with_credentials}
use Rattle.proxy_url_spec.specs.Reading.{Read, reads, dies, line_of}
use Rattle.proxy_url_spec.proofs.Places.{line_sound, line_once, line_dies, line_place, place_once, part_taken, line_host}
use Rattle.proxy_url.specs.Coded.{is_given, user_of, password_of}
use Rattle.proxy_url.specs.Calls.{refused_at, accepted_as, line_coded, read_of}
use Rattle.proxy_url.specs.Reads.{given_by, told, Unlawful, Filled, ReadsLine, ReadsEach}

-- an answer tells the value that it was made of
given_is : (c : Option (List ℕ × List ℕ))
    → given_by (is_given c) (take (length (user_of c)) (padded 255 (user_of c))) (take (length (password_of c)) (padded 255 (password_of c))) ≡ c
given_is none = refl
given_is (some c) = rw (take-append_seam c.0 (replicate (255 - length c.0) 0), take-append_seam c.1 (replicate (255 - length c.1) 0))

told_is : (line : List ℕ) (v : Value) → Line line v → told line (accepted_as v) ≡ v
told_is line v x =
    let c = given_is v.credentials in
    let h = part_taken (line_host x) in
    λ i. record { version = v.version; local_dns = v.local_dns; credentials = c i; host_at = v.host_at; host = h i; port = v.port }

-- what is not of user and password is zeros
abbrev Few : Option (List ℕ × List ℕ) → Type 0
Few none = Unit {0}
Few (some c) = (length c.0 ≤ 255) × (length c.1 ≤ 255)

line_few : {line : List ℕ} {v : Value} → Line line v → Few v.credentials
line_few (without_credentials s h p) = tt
line_few (with_credentials s u w h p) = (u.few, w.few)

user_few : (c : Option (List ℕ × List ℕ)) → Few c → length (user_of c) ≤ 255
user_few none f = zero-le
user_few (some c) f = f.0

password_few : (c : Option (List ℕ × List ℕ)) → Few c → length (password_of c) ≤ 255
password_few none f = zero-le
password_few (some c) f = f.1

none_given : (c : Option (List ℕ × List ℕ)) → is_given c ≡ false → (length (user_of c) ≡ 0) × (length (password_of c) ≡ 0)
none_given none q = (refl, refl)
none_given (some c) q = absurd (true≢false q)

filled : (v : Value) → Few v.credentials → Filled (accepted_as v)
filled v f =
    record {
      user_few = user_few v.credentials f;
      user_rest = drop-append_seam (user_of v.credentials) _;
      password_few = password_few v.credentials f;
      password_rest = drop-append_seam (password_of v.credentials) _;
      none_given = none_given v.credentials;
    }

accepted : (line : List ℕ) (v : Value) (n : ℕ) → line_of line ≡ reads v n → ReadsLine line (accepted_as v)
accepted line v n e =
    let x = line_sound line v n e in
    record {
      answers =
          record {
            accepts = ((λ q. ((λ f. f v x), tt)), (λ q. refl));
            refuses = λ k h. ((λ q. absurd (omega arith)), λ f. absurd (first k f x));
          };
      value_just = λ u. ((λ q. subst (λ (z : Value). Line line z) (sym (told_is line v x) ∙ q.1) x), (λ y. (refl, told_is line v x ∙ line_once x y)));
      once = λ u w a b. line_once a b;
      place_is = λ f. absurd (f v x);
      place_once = λ a b p q. place_once p q;
      empty = λ f. absurd (f v x);
      no_place = λ q. refl;
      filled = filled v (line_few x);
    }
  where
    first : (k : ℕ) → (Unlawful line × (24 ≡ k)) ⊎ ((Unlawful line → ⊥) × ⊥) → Line line v → ⊥
    first k (inl f) x = f.0 v x
    first k (inr f) x = f.1

refused : (line : List ℕ) (n : ℕ) → line_of line ≡ dies n → ReadsLine line (refused_at n)
refused line n e =
    let x : Unlawful line = line_dies line n e in
    record {
      answers =
          record {
            accepts = ((λ q. absurd (omega arith)), (λ q. absurd (q.0 x)));
            refuses = λ k h. ((λ q. inl (x, q)), λ f. first k f);
          };
      value_just = λ u. ((λ q. let z : ◌≡◌ {A = ℕ} 0 1 = cc in absurd (omega arith)), (λ y. absurd (x u y)));
      once = λ u w a b. line_once a b;
      place_is = λ f. line_place line n e;
      place_once = λ a b p q. place_once p q;
      empty =
          λ f.
          record {
            version = refl;
            local_dns = refl;
            proxy_auth = refl;
            user = refl;
            user_len = refl;
            password = refl;
            password_len = refl;
            host_at = refl;
            host_len = refl;
            port = refl;
          };
      no_place = λ q. let z : ◌≡◌ {A = ℕ} 0 1 = cc in absurd (omega arith);
      filled = record { user_few = zero-le; user_rest = refl; password_few = zero-le; password_rest = refl; none_given = λ q. (refl, refl) };
    }
  where
    first : (k : ℕ) → (Unlawful line × (24 ≡ k)) ⊎ ((Unlawful line → ⊥) × ⊥) → 24 ≡ k
    first k (inl f) = f.1
    first k (inr f) = absurd f.1

pub reads_each : ReadsEach
unfolding read_of
reads_each line = go (line_of line) refl
  where
    go : (r : Read Value) → line_of line ≡ r → ReadsLine line (line_coded r)
    go (reads v n) e = accepted line v n e
    go (dies n) e = refused line n e
