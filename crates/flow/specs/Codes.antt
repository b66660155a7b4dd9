-- Codes of flows. Assumes nothing.
--   same   the test whether two codes are equal
use Rattle.std.specs.Prelude.{Bool, ◌&&◌, ◌==◌}
use Rattle.flow.specs.declared.code.Code.{Code}

abbrev pub same : Code → Code → Bool
same a b = a.high == b.high && a.low == b.low
