-- F-9: what is read off the buffer that lines were written into.
use Prim.Native.Nat.{ℕ, suc, ◌+◌, ◌-◌, ◌*◌, ◌≤◌, ◌<◌}
use native.Mathlib.Omega.{arith}
use mathlib.Core.Path.{◌≡◌, refl, sym, ap, ◌∙◌}
use mathlib.Core.Logic.{◌⊎◌, inl, inr}
use mathlib.Core.Bool.{false}
use mathlib.Core.List.{List, [], ◌∷◌, ◌++◌, map, append_assoc}
use lib.ListN.{length, take, drop, get_or, replicate, length-append, get_or-append}
use lib.Seq.{take-take, take-append-le, take-append_seam, drop-append_seam, take-add, drop_at, length-take-le, get_or-take, get_or-drop, get_or-append-add}
use Rattle.protocol.specs.Answers.{Given}
use Rattle.buffers.specs.write.Written.{overwrite}
use Rattle.buffers.proofs.write.Laws.{length_overwrite}
use Rattle.route_session.specs.plan.Plan.{proxy_of, proxies_of}
use Rattle.proxy_url_spec.specs.Grammar.{Value, Line}
use Rattle.proxy_url_spec.proofs.Places.{line_complete, line_host, part_taken}
use Rattle.proxy_url.specs.Coded.{is_given, user_of, password_of}
use Rattle.proxy_url.specs.Calls.{accepted_as, line_coded, read_of}
use Rattle.proxy_url_route.specs.Calls.{host_in, user_in, password_in, fields_written, line_written, written_by, proxy_at, proxies_from}
use Rattle.proxy_url_route.specs.RoutesRead.{proxy_for, Values, end, line, Placed, Outside, OutsideAll}
use Rattle.proxy_url_route.proofs.fields.Laws.{few, length_line}

-- ---- a part goes by the bytes up to its end

pub part_kept : (m from len : ℕ) (a b : List ℕ) → from + len ≤ m → take m a ≡ take m b → take len (drop from a) ≡ take len (drop from b)
part_kept m from len a b h e =
    let p : take (from + len) a ≡ take (from + len) b =
    sym (take-take (from + len) m a h) ∙ ap (take (from + len)) e ∙ take-take (from + len) m b h in
    let k : from ≤ m = omega arith in
    let q : take from a ≡ take from b = sym (take-take from m a k) ∙ ap (take from) e ∙ take-take from m b k in
    let r : take from b ++ take len (drop from a) ≡ take from b ++ take len (drop from b) =
    ap (λ (s : List ℕ). s ++ take len (drop from a)) (sym q) ∙ sym (take-add from len a) ∙ p ∙ take-add from len b in
    sym (drop-append_seam (take from b) (take len (drop from a))) ∙ ap (drop (length (take from b))) r ∙ drop-append_seam (take from b) (take len (drop from b))

-- ---- one write

module _ (o : List ℕ) (at : ℕ) (bs : List ℕ) (inside : at + length bs ≤ length o) where
  head_long : length (take at o) ≡ at
  head_long = length-take-le at o (omega arith)

  pub overwritten : take (length bs) (drop at (overwrite o at bs)) ≡ bs
  unfolding overwrite
  overwritten =
      ap (take (length bs)) (drop_at (take at o) (bs ++ drop (at + length bs) o) at head_long) ∙ take-append_seam bs (drop (at + length bs) o)

  pub before_write : (m : ℕ) → m ≤ at → take m (overwrite o at bs) ≡ take m o
  unfolding overwrite
  before_write m h =
      let k : m ≤ length (take at o) = omega (arith, head_long) in
      take-append-le m (take at o) (bs ++ drop (at + length bs) o) k ∙ take-take m at o h

  pub other_byte : (j : ℕ) → (j < at) ⊎ (at + length bs ≤ j) → get_or (overwrite o at bs) j 0 ≡ get_or o j 0
  unfolding overwrite
  other_byte j (inl h) =
      get_or-append (take at o) (bs ++ drop (at + length bs) o) 0 j (omega (arith, head_long)) ∙ get_or-take at o j 0 h
  other_byte j (inr h) =
      let n : ℕ = at + length bs in
      let p : List ℕ = take at o ++ bs in
      let l : length p ≡ n = length-append (take at o) bs ∙ ap (λ (k : ℕ). k + length bs) head_long in
      let z : length p + (j - n) ≡ j = omega arith in
      let y : n + (j - n) ≡ j = omega arith in
      ap (λ (s : List ℕ). get_or s j 0) (sym (append_assoc (take at o) bs (drop n o)))
      ∙ ap (λ (k : ℕ). get_or (p ++ drop n o) k 0) (sym z)
      ∙ get_or-append-add p (drop n o) (j - n) 0
      ∙ get_or-drop n o (j - n) 0
      ∙ ap (λ (k : ℕ). get_or o k 0) y

-- ---- three

module _ (at : ℕ) (host user password b : List ℕ) (inside : at + 765 ≤ length b) (h : length host ≤ 255) (u : length user ≤ 255) (p : length password ≤ 255) where
  in_first : at + length host ≤ length b
  in_first = omega arith

  in_second : at + 255 + length user ≤ length (overwrite b at host)
  in_second = omega (arith, length_overwrite b at host in_first)

  in_third : at + 510 + length password ≤ length (overwrite (overwrite b at host) (at + 255) user)
  in_third = omega (arith, length_overwrite b at host in_first, length_overwrite (overwrite b at host) (at + 255) user in_second)

  to_second : (m : ℕ) → m ≤ at + 510 → take m (fields_written at host user password b) ≡ take m (overwrite (overwrite b at host) (at + 255) user)
  to_second m k = before_write (overwrite (overwrite b at host) (at + 255) user) (at + 510) password in_third m k

  to_first : (m : ℕ) → m ≤ at + 255 → take m (fields_written at host user password b) ≡ take m (overwrite b at host)
  to_first m k = to_second m (omega arith) ∙ before_write (overwrite b at host) (at + 255) user in_second m k

  pub host_read : take (length host) (drop at (fields_written at host user password b)) ≡ host
  host_read = part_kept (at + 255) at (length host) _ _ (omega arith) (to_first (at + 255) (omega arith)) ∙ overwritten b at host in_first

  pub user_read : take (length user) (drop (at + 255) (fields_written at host user password b)) ≡ user
  user_read =
      part_kept (at + 510) (at + 255) (length user) _ _ (omega arith) (to_second (at + 510) (omega arith)) ∙ overwritten (overwrite b at host) (at + 255) user in_second

  pub password_read : take (length password) (drop (at + 510) (fields_written at host user password b)) ≡ password
  password_read = overwritten (overwrite (overwrite b at host) (at + 255) user) (at + 510) password in_third

  pub before_fields : (m : ℕ) → m ≤ at → take m (fields_written at host user password b) ≡ take m b
  before_fields m k = to_first m (omega arith) ∙ before_write b at host in_first m k

  pub other_fields : (j : ℕ) → (j < at) ⊎ (at + length host ≤ j) → (j < at + 255) ⊎ (at + 255 + length user ≤ j) → (j < at + 510) ⊎ (at + 510 + length password ≤ j)
      → get_or (fields_written at host user password b) j 0 ≡ get_or b j 0
  other_fields j x y z =
      other_byte (overwrite (overwrite b at host) (at + 255) user) (at + 510) password in_third j z
      ∙ other_byte (overwrite b at host) (at + 255) user in_second j y
      ∙ other_byte b at host in_first j x

-- ---- a line's

pub read_is : {l : List ℕ} {v : Value} → Line l v → read_of l ≡ accepted_as v
unfolding read_of
read_is x = ap line_coded (line_complete x)

pub line_written_is : {l : List ℕ} {v : Value} → Line l v → (at : ℕ) (b : List ℕ)
    → line_written at l b ≡ fields_written at v.host (user_of v.credentials) (password_of v.credentials) b
unfolding line_written
line_written_is {l} {v} x at b =
    let e = read_is x in
    let h : host_in l (accepted_as v) ≡ v.host = part_taken (line_host x) in
    let c = v.credentials in
    let u : user_in (accepted_as v) ≡ user_of c = take-append_seam (user_of c) (replicate (255 - length (user_of c)) 0) in
    let p : password_in (accepted_as v) ≡ password_of c = take-append_seam (password_of c) (replicate (255 - length (password_of c)) 0) in
    rw e (λ i. fields_written at (h i) (u i) (p i) b)

module _ {l : List ℕ} {v : Value} (x : Line l v) (at : ℕ) (b : List ℕ) (inside : at + 765 ≤ length b) where
  pub before_line : (m : ℕ) → m ≤ at → take m (line_written at l b) ≡ take m b
  before_line m k =
      let f = few x in
      ap (take m) (line_written_is x at b) ∙ before_fields at v.host (user_of v.credentials) (password_of v.credentials) b inside f.host f.user f.password m k

  pub other_line : (j : ℕ) → Outside j (proxy_at at (read_of l)).host → Outside j (proxy_at at (read_of l)).user → Outside j (proxy_at at (read_of l)).password
      → get_or (line_written at l b) j 0 ≡ get_or b j 0
  other_line j p q r =
      let f = few x in
      let e = read_is x in
      ap (λ (s : List ℕ). get_or s j 0) (line_written_is x at b)
      ∙ other_fields at v.host (user_of v.credentials) (password_of v.credentials) b inside f.host f.user f.password j (rw e at p) (rw e at q) (rw e at r)

  -- the proxy is read off each buffer that agrees with it up to the fields' end
  pub proxy_read : (w : List ℕ) → take (at + 765) w ≡ take (at + 765) (line_written at l b) → proxy_of w (proxy_at at (read_of l)) ≡ proxy_for v
  proxy_read w k =
      let f = few x in
      let a = f.host in
      let y = f.user in
      let z = f.password in
      let c = v.credentials in
      let g : take (at + 765) w ≡ take (at + 765) (fields_written at v.host (user_of c) (password_of c) b) = k ∙ ap (take (at + 765)) (line_written_is x at b) in
      let h : take (length v.host) (drop at w) ≡ v.host =
      part_kept (at + 765) at (length v.host) w _ (omega arith) g ∙ host_read at v.host (user_of c) (password_of c) b inside a y z in
      let u : take (length (user_of c)) (drop (at + 255) w) ≡ user_of c =
      part_kept (at + 765) (at + 255) (length (user_of c)) w _ (omega arith) g ∙ user_read at v.host (user_of c) (password_of c) b inside a y z in
      let p : take (length (password_of c)) (drop (at + 510) w) ≡ password_of c =
      part_kept (at + 765) (at + 510) (length (password_of c)) w _ (omega arith) g ∙ password_read at v.host (user_of c) (password_of c) b inside a y z in
      rw (read_is x)
      (λ i. record {
        version = v.version;
        host = h i;
        port = Given v.port;
        authenticates = is_given c;
        optimistic = false;
        user = u i;
        password = p i;
      })

-- ---- all lines'

module _ (n k : ℕ) (b : List ℕ) (long : length b ≡ 6120) (few : n + suc k ≤ 8) where
  room : n * 765 + 765 ≤ length b
  room = omega arith

  pub long_behind : (l : List ℕ) → length (line_written (n * 765) l b) ≡ 6120
  long_behind l = length_line (n * 765) l b room ∙ long

  few_behind : suc n + k ≤ 8
  few_behind = omega arith

pub length_written : (n : ℕ) (ls : List (List ℕ)) (b : List ℕ) → length b ≡ 6120 → n + length ls ≤ 8 → length (written_by n ls b) ≡ 6120
unfolding written_by
length_written n [] b h k = h
length_written n (l ∷ ls) b h k =
    length_written (suc n) ls (line_written (n * 765) l b) (long_behind n (length ls) b h k l) (few_behind n (length ls) b h k)

pub before_lines : (n : ℕ) {ls : List (List ℕ)} {vs : List Value} → Values ls vs → (b : List ℕ) → length b ≡ 6120 → n + length ls ≤ 8
    → (m : ℕ) → m ≤ n * 765 → take m (written_by n ls b) ≡ take m b
unfolding written_by
before_lines n end b h k m q = refl
before_lines n (line {l} {ls} x xs) b h k m q =
    before_lines (suc n) xs (line_written (n * 765) l b) (long_behind n (length ls) b h k l) (few_behind n (length ls) b h k) m (omega arith)
    ∙ before_line x (n * 765) b (room n (length ls) b h k) m q

pub other_bytes : (n : ℕ) {ls : List (List ℕ)} {vs : List Value} → Values ls vs → (b : List ℕ) → length b ≡ 6120 → n + length ls ≤ 8
    → (j : ℕ) → OutsideAll j (proxies_from n ls) → get_or (written_by n ls b) j 0 ≡ get_or b j 0
unfolding written_by proxies_from
other_bytes n end b h k j o = refl
other_bytes n (line {l} {ls} x xs) b h k j (o, p, q, r) =
    other_bytes (suc n) xs (line_written (n * 765) l b) (long_behind n (length ls) b h k l) (few_behind n (length ls) b h k) j r
    ∙ other_line x (n * 765) b (room n (length ls) b h k) j o p q

pub proxies_read : (n : ℕ) {ls : List (List ℕ)} {vs : List Value} → Values ls vs → (b : List ℕ) → length b ≡ 6120 → n + length ls ≤ 8
    → proxies_of (written_by n ls b) (proxies_from n ls) ≡ map proxy_for vs
unfolding written_by proxies_from
proxies_read n end b h k = refl
proxies_read n (line {l} {ls} {v} {vs} x xs) b h k =
    let b₁ : List ℕ = line_written (n * 765) l b in
    let i = long_behind n (length ls) b h k l in
    let f = few_behind n (length ls) b h k in
    let w : List ℕ = written_by (suc n) ls b₁ in
    let p : proxy_of w (proxy_at (n * 765) (read_of l)) ≡ proxy_for v =
    proxy_read x (n * 765) b (room n (length ls) b h k) w (before_lines (suc n) xs b₁ i f (n * 765 + 765) (omega arith)) in
    let q : proxies_of w (proxies_from (suc n) ls) ≡ map proxy_for vs = proxies_read (suc n) xs b₁ i f in
    λ t. p t ∷ q t

pub placed_from : (n : ℕ) (ls : List (List ℕ)) → Placed n (proxies_from n ls)
unfolding proxies_from
placed_from n [] = tt
placed_from n (l ∷ ls) = (refl, refl, refl, placed_from (suc n) ls)
