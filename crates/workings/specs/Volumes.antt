-- The true volumes of flows. Assumes nothing.
--   tallied   the flows with a weight more for the code, at their end where it is new
use Rattle.std.specs.Prelude.{ℕ, ◌+◌, cond, List, [], ◌∷◌}
use Rattle.text.specs.Reading.{capped}
use Rattle.flow.specs.Codes.{same}
use Rattle.flow.specs.declared.code.Code.{Code}

abbrev pub tallied : Code → ℕ → List (Code × ℕ) → List (Code × ℕ)
tallied k w [] = (k, w) ∷ []
tallied k w (t ∷ ts) = cond (same t.0 k) ((k, capped 64 (t.1 + w)) ∷ ts) (t ∷ tallied k w ts)
