-- Worked sheets of the counters, as facts about the rules. Assumes nothing.
--   flow            the code of a flow of a sheet
--   A, B, C, D, E   such flows
--   semi_first, semi_second, semi_third   the semi-ordered counter after A 7 and B 25, then C 3, then C 30
--   SemiSheet       semi-ordered, two places, step 10: A 7 and B 25, then C 3, then C 30
--   entry           an entry of a line
--   SemiPlaces      semi-ordered, step 10: which entry is evicted, where an entry goes that has equals, that an entry stays whose group does, and that passes count groups
--   shared_full, shared_first, shared_second   the shared-deduction counter after A 5 and B 3, then C 4, then E 1
--   SharedSheet     shared-deduction, two places: A 5, B 3 and C 4, then E 1
use Rattle.std.specs.Prelude.{◌≡◌, false, [], ◌∷◌, ℕ, None}
use Rattle.flow.specs.declared.code.Code.{Code}
use Rattle.semi.specs.declared.entry.Entry.{Entry}
use Rattle.semi.specs.Line.{holds}
use Rattle.shared.specs.Places.{filled, holds as has_place}
use Rattle.semi.specs.Semi.{SemiModel, semi_opened, semi_more, semi_meaning}
use Rattle.shared.specs.Shared.{SharedModel, shared_opened, shared_more, shared_meaning}

abbrev pub flow : ℕ → Code
flow n = record { high = 0; low = n }

abbrev pub A : Code
A = flow 1

abbrev pub B : Code
B = flow 2

abbrev pub C : Code
C = flow 3

abbrev pub D : Code
D = flow 4

abbrev pub E : Code
E = flow 5

-- after A 7 and B 25
abbrev pub semi_first : SemiModel
semi_first = semi_more (semi_more (semi_opened 2 10) A 7) B 25

-- then C 3
abbrev pub semi_second : SemiModel
semi_second = semi_more semi_first C 3

-- then C 30
abbrev pub semi_third : SemiModel
semi_third = semi_more semi_second C 30

pub record SemiSheet : Type 0 where
  pub first_a : semi_meaning.estimate semi_first A ≡ 7
  pub first_b : semi_meaning.estimate semi_first B ≡ 25
  pub first_absent : (k : Code) → holds k semi_first.line ≡ false → semi_meaning.estimate semi_first k ≡ 9
  pub second_passes : semi_meaning.passes semi_first C 3 ≡ 0
  pub second_a_left : holds A semi_second.line ≡ false
  pub second_c : semi_meaning.estimate semi_second C ≡ 12
  pub second_a : semi_meaning.estimate semi_second A ≡ 19
  pub third_passes : semi_meaning.passes semi_second C 30 ≡ 1
  pub third_c : semi_meaning.estimate semi_third C ≡ 42
  pub third_line : semi_third.line ≡ record { code = B; group = 2; remainder = 5 } ∷ record { code = C; group = 4; remainder = 2 } ∷ []

abbrev pub entry : Code → ℕ → ℕ → Entry
entry k g r = record { code = k; group = g; remainder = r }

pub record SemiPlaces : Type 0 where
  -- after A 7, B 5 and C 25, E 3 evicts A, the first of the lowest group
  pub evicts_the_first : (semi_more (semi_more (semi_more (semi_more (semi_opened 3 10) A 7) B 5) C 25) E 3).line ≡ entry B 0 5 ∷ entry E 1 2 ∷ entry C 2 5 ∷ []
  -- B goes behind A, whose group is the same
  pub behind_its_equals : (semi_more (semi_more (semi_opened 2 10) A 7) B 3).line ≡ entry A 0 7 ∷ entry B 0 3 ∷ []
  pub behind_in_front : (semi_more (semi_more (semi_more (semi_opened 2 10) A 7) B 3) C 1).line ≡ entry B 0 3 ∷ entry C 1 0 ∷ []
  -- A keeps its place while its group stays
  pub stays : (semi_more (semi_more (semi_more (semi_opened 2 10) A 3) B 5) A 2).line ≡ entry A 0 5 ∷ entry B 0 5 ∷ []
  -- the remainder belongs to the sum: 7 and 8 make 15
  pub rounds_the_sum : (semi_more (semi_more (semi_opened 2 10) A 7) A 8).line ≡ entry A 1 5 ∷ []
  -- C goes from group 1 to group 4, past B and E, which are both of group 2
  pub counts_groups : semi_meaning.passes (semi_more (semi_more (semi_more (semi_opened 3 10) C 12) B 25) E 27) C 30 ≡ 1

-- after A 5 and B 3
abbrev pub shared_full : SharedModel
shared_full = shared_more (shared_more (shared_opened 2) A 5) B 3

-- then C 4
abbrev pub shared_first : SharedModel
shared_first = shared_more shared_full C 4

-- then E 1
abbrev pub shared_second : SharedModel
shared_second = shared_more shared_first E 1

pub record SharedSheet : Type 0 where
  pub full_places : shared_full.held ≡ filled A 5 ∷ filled B 3 ∷ []
  pub full_passes : shared_meaning.passes (shared_more (shared_opened 2) A 5) B 3 ≡ 0
  pub first_passes : shared_meaning.passes shared_full C 4 ≡ 2
  pub first_places : shared_first.held ≡ filled A 2 ∷ filled C 1 ∷ []
  pub first_deduction : shared_first.deduction ≡ 3
  pub first_a : shared_meaning.estimate shared_first A ≡ 5
  pub first_b : shared_meaning.estimate shared_first B ≡ 3
  pub first_c : shared_meaning.estimate shared_first C ≡ 4
  pub held_passes : shared_meaning.passes shared_first A 1 ≡ 0
  pub second_passes : shared_meaning.passes shared_first E 1 ≡ 2
  pub second_places : shared_second.held ≡ filled A 1 ∷ None ∷ []
  pub second_deduction : shared_second.deduction ≡ 4
  pub second_e_out : has_place E shared_second.held ≡ false
  pub second_a : shared_meaning.estimate shared_second A ≡ 5
  pub second_b : shared_meaning.estimate shared_second B ≡ 4
