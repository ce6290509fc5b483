-- Bytes copied to both ends of sixteen zeros.
use Rattle.std.proofs.Common.{◌≡◌, ℕ, ◌+◌, ◌-◌, ◌≤◌, List, ◌++◌, length, take, replicate, sym, ◌∙◌, append_assoc, append-nil, arith, length-append, drop_of_length-le, length-take-le, take_at, drop_at}
use lib.ListN.{length-replicate, replicate-append-replicate}
use lib.Seq.{paste}

pub joins : (us ws : List ℕ) (n m : ℕ) → length us ≡ 16 → length ws ≡ 16 → n + m ≤ 16
    → paste (paste (replicate 16 0) 0 us n) (16 - m) ws m ≡ take n us ++ (replicate (16 - (n + m)) 0 ++ take m ws)
joins us ws n m hu hw h =
    let p : ℕ = 16 - (n + m) in
    let q : n + (p + m) ≡ 16 = omega arith in
    let z : replicate {A = ℕ} 16 0 ≡ replicate n 0 ++ (replicate p 0 ++ replicate m 0) =
    rw (replicate-append-replicate {A = ℕ} p m 0, replicate-append-replicate {A = ℕ} n (p + m) 0, q) in
    let front : List ℕ = take n us ++ replicate p 0 in
    let k : length front ≡ 16 - m = length-append (take n us) (replicate p 0) ∙ rw (length-take-le n us (omega arith), length-replicate {A = ℕ} p 0) (omega arith) in
    let head : paste (replicate 16 0) 0 us n ≡ front ++ replicate m 0 =
    rw (z, drop_at (replicate n 0) (replicate p 0 ++ replicate m 0) (0 + n) (length-replicate {A = ℕ} n 0 ∙ omega arith)) (sym (append_assoc (take n us) (replicate p 0) (replicate m 0))) in
    let l : length (front ++ replicate m 0) ≤ 16 - m + m = rw (length-append front (replicate m 0), k, length-replicate {A = ℕ} m 0) (omega arith) in
    rw (head, take_at front (replicate m 0) (16 - m) k, drop_of_length-le (front ++ replicate m 0) l, append-nil) (append_assoc (take n us) (replicate p 0) (take m ws))
