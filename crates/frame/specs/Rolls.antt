-- Packets on a roll, the newest first, and the volumes of flows. Assumes nothing.
--   Packet        the code of a flow and a weight
--   part          what a packet adds to the volume of a flow
--   volume_in     the volume of a flow: the sum of the weights with its code
--   total         the sum of all weights
--   true_volume   the volume of a flow among the last W packets, or among all if there are fewer
use Rattle.std.specs.Prelude.{ℕ, ◌+◌, cond, List, [], ◌∷◌, take}
use Rattle.flow.specs.declared.code.Code.{Code}
use Rattle.flow.specs.Codes.{same}

pub record Packet : Type 0 where
  pub code : Code
  pub weight : ℕ

abbrev pub part : Code → Packet → ℕ
part k x = cond (same x.code k) x.weight 0

abbrev pub volume_in : Code → List Packet → ℕ
volume_in k [] = 0
volume_in k (x ∷ xs) = part k x + volume_in k xs

abbrev pub total : List Packet → ℕ
total [] = 0
total (x ∷ xs) = x.weight + total xs

abbrev pub true_volume : ℕ → Code → List Packet → ℕ
true_volume window k roll = volume_in k (take window roll)
