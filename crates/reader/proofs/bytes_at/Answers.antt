use lib.ListN.{length-append}
use borrow.Author.Tests.{le-leb, lt-leb}
use Rattle.reader.specs.Reader.{bytes_at}
use Rattle.reader.proofs.bytes_at.Goals as goal

pub returns-then-end-held : goal.returns-then-end-held
unfolding bytes_at
returns-then-end-held c = simp (length-append, le-leb _ _ c.if-end-held.true)

pub returns : goal.returns
unfolding bytes_at
returns c = simp (length-append, lt-leb _ _ c.if-end-held.false)
