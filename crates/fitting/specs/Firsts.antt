-- The first packet of a counter that is opened for it. Assumes nothing.
--   first_answer   the refusals of an open and an add, in their order, else the weight
--   first_leaves   the model after it: an accepted open, and the add; a refused open leaves it as it was
use Rattle.std.specs.Prelude.{ℕ, cond}
use Rattle.flow.specs.Answers.{Answer, answered, refused, after}
use Rattle.flow.specs.Limits.{most_places, most_weight, outside}
use Rattle.flow.specs.Meanings.{Meaning, open_answer, open_leaves, add_leaves}
use Rattle.flow.specs.declared.code.Code.{Code}

abbrev pub first_answer : ℕ → ℕ → ℕ → ℕ → Answer ℕ
first_answer greatest n s w =
    cond (outside 1 most_places n) (refused 1) (cond (outside 1 greatest s) (refused 2) (cond (outside 1 most_weight w) (refused 3) (answered w)))

abbrev pub first_leaves : {C : Type 0} (m : Meaning C) → m.Model → ℕ → ℕ → Code → ℕ → m.Model
first_leaves m x n s k w = after (open_answer m x n s) x (add_leaves m (open_leaves m x n s) k w)
