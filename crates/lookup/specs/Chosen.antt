-- Document 01, "Lookup": the record that is taken of a list, v5 the first of all, v4 the first of family four.
use Rattle.std.specs.Prelude.{Bool, true, not, cond, List, [], ◌∷◌, Option, None, Some, find}
use Rattle.protocol.specs.declared.Family.{Family}
use Rattle.protocol.specs.declared.Family.TheVariants.{Four, Six}
use Rattle.protocol.specs.declared.Record.{Record}

abbrev pub serves : Bool → Family → Bool
serves four Four = true
serves four Six = not four

-- the first that serves
abbrev pub chosen_of : Bool → List Record → Option Record
chosen_of four rs = find (λ r. serves four r.family) rs

-- one record at a time: a record that was found stays
abbrev pub step_of : Bool → Option Record → Record → Option Record
step_of four None r = cond (serves four r.family) (Some r) None
step_of four (Some q) r = Some q

unfoldable pub stepped : Bool → Option Record → List Record → Option Record
stepped four c [] = c
stepped four c (r ∷ rs) = stepped four (step_of four c r) rs

-- the list of records that a chosen one stands for
abbrev pub records_of : Option Record → List Record
records_of None = []
records_of (Some r) = r ∷ []
