-- F-3: a text that ends at a 00, as code over bytes finds it.
use Rattle.std.specs.Prelude.{ℕ, zero, suc, cond, List, [], ◌∷◌, leb, eqb}
use Rattle.protocol.specs.declared.SocksError.{SocksError}
use Rattle.protocol.specs.declared.SocksError.TheVariants.{Malformed}
use Rattle.talk.specs.Decision.{Decision, undecided, decided, good, bad}
use Rattle.proxy_spec.specs.Reads.{Seen, short, wrong, unknown, whole}

-- how many bytes stand ahead of the first 00, of at most so many
unfoldable pub run_of : ℕ → List ℕ → ℕ
run_of zero bs = 0
run_of (suc most) [] = 0
run_of (suc most) (b ∷ bs) = cond (eqb b 0x00) 0 (suc (run_of most bs))

-- a text of at least so many bytes
abbrev pub read_within : ℕ → Seen ℕ → Decision SocksError
read_within fewest short = undecided
read_within fewest (wrong n) = decided n (bad Malformed)
read_within fewest (unknown n) = decided n (bad Malformed)
read_within fewest (whole n m) = cond (leb fewest m) (decided n good) (decided n (bad Malformed))
