-- 01, "Address text": the rows of groups that an answer shows.
use Rattle.std.specs.Prelude.{◌≡◌, ℕ, ◌≤◌, List, length, take, drop}
use Rattle.protocol.specs.AddressReading.{Row, no_row, ends, gap}
use Rattle.address_text.specs.declared.groups.Stop.{Stop}
use Rattle.address_text.specs.declared.groups.Stop.TheVariants.{NoRow, Ends, Gap}
use Rattle.address_text.specs.declared.groups.GroupRow.{GroupRow}

-- the row that a stop, bytes and what follows `::` stand for
abbrev pub row_of : Stop → List ℕ → List ℕ → Row
row_of NoRow bs t = no_row
row_of Ends bs t = ends bs
row_of Gap bs t = gap bs t

-- an answer that shows the row w of the text s: its first len bytes, and from next on what follows `::`
pub record Shows (s : List ℕ) (w : Row) (r : GroupRow) : Type 0 where
  pub shown : row_of r.stop (take r.len r.bytes) (drop r.next s) ≡ w
  pub few : r.len ≤ 16
  pub sixteen : length r.bytes ≡ 16
  pub inside : r.next ≤ length s
