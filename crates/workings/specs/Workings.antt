-- How a code comes to its entry or its count, who loses a place, and divisions, in words. Assumes nothing.
--   evicting          it evicts the first entry of a line
--   way_of            semi-ordered: it is held, it enters a line with room, or it evicts the first entry
--   shared_way_of     shared-deduction: it is held, it takes an empty place, or all places share
--   lost              the code that had the place before and has it no more
--   way_text          the rule that applies to a semi-ordered counter, in words
--   shared_way_text   the rule that applies to a shared-deduction counter, in words
--   division_text     a number as a quotient times a step and a remainder, written out
use Rattle.std.specs.Prelude.{ℕ, cond, List, [], ◌∷◌, length, Some, None, Option, nat_lt, ◌++◌, codes}
use Rattle.std.specs.Fmt.{decimal}
use Rattle.flow.specs.Codes.{same}
use Rattle.flow.specs.declared.code.Code.{Code}
use Rattle.semi.specs.Line.{holds}
use Rattle.semi.specs.declared.entry.Entry.{Entry}
use Rattle.shared.specs.Places.{Place, holds as has_place, any_empty}
use Rattle.workings.specs.declared.semi_ordered.Way.{Way}
use Rattle.workings.specs.declared.semi_ordered.Way.TheVariants.{Held, Enters, Evicts}
use Rattle.workings.specs.declared.shared_deduction.Way.{Way as SharedWay}
use Rattle.workings.specs.declared.shared_deduction.Way.TheVariants.{Held as HasPlace, Takes, Shares}

abbrev pub evicting : List Entry → Way
evicting [] = Enters
evicting (first ∷ rest) = Evicts first

abbrev pub way_of : ℕ → List Entry → Code → Way
way_of n line k = cond (holds k line) Held (cond (nat_lt (length line) n) Enters (evicting line))

abbrev pub shared_way_of : List Place → Code → SharedWay
shared_way_of places k = cond (has_place k places) HasPlace (cond (any_empty places) Takes Shares)

abbrev pub lost : Place → Place → Option Code
lost None new = None
lost (Some x) None = Some x.code
lost (Some x) (Some y) = cond (same x.code y.code) None (Some x.code)

abbrev pub way_text : Way → List ℕ
way_text Held = codes "held: it counts from its entry"
way_text Enters = codes "absent, and the line has room: it counts from 0"
way_text (Evicts e) = codes "absent, and the line is full: it counts from the first group and step - 1"

abbrev pub shared_way_text : SharedWay → List ℕ
shared_way_text HasPlace = codes "held: its count rises"
shared_way_text Takes = codes "absent, and a place is empty: it takes the lowest"
shared_way_text Shares = codes "absent, and no place is empty: all counts fall"

abbrev pub division_text : ℕ → ℕ → ℕ → ℕ → List ℕ
division_text number quotient step remainder = decimal number ++ codes " = " ++ decimal quotient ++ codes " x " ++ decimal step ++ codes " + " ++ decimal remainder
