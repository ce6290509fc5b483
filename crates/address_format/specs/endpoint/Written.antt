-- F-1: a text written into a buffer.
use Rattle.std.specs.Prelude.{ℕ, ◌≤◌, ◌≡◌, cond, List, ◌++◌, length, drop, leb, Result, Ok, Err, IfOk}
use Rattle.protocol.specs.Answers.{Answer, Accepted, Refused}
use Rattle.protocol.specs.declared.SocksError.{SocksError}
use Rattle.protocol.specs.declared.SocksError.TheVariants.{ShortText}

-- what a call on a buffer answers, the text's length, and the buffer after it
pub record TextCall : Type 0 where
  pub answer : Answer
  pub len : ℕ
  pub buffer : List ℕ

-- nothing is written
abbrev pub unwritten : SocksError → List ℕ → TextCall
unwritten e buffer = record { answer = Refused e; len = 0; buffer = buffer }

-- 18 if the buffer is shorter than the text; else the text stands at its start, the bytes behind it unchanged
abbrev pub write_text : List ℕ → List ℕ → TextCall
write_text t buffer =
    cond (leb (length t) (length buffer)) (record { answer = Accepted; len = length t; buffer = t ++ drop (length t) buffer })
    (unwritten ShortText buffer)

-- an answer, and the length beside it if it is accepted
abbrev pub with_length : Answer → ℕ → Result ℕ SocksError
with_length Accepted n = Ok n
with_length (Refused e) n = Err e

-- what a function of the code returns and leaves in the buffer, as a call says; with the bound that a caller slices by
pub record TextResult (c : TextCall) (r : Result ℕ SocksError) (buffer' : List ℕ) : Type 0 where
  pub returned : r ≡ with_length c.answer c.len
  pub buffer : buffer' ≡ c.buffer
  pub inside : IfOk r (λ n. n ≤ length buffer')
