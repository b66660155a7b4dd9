-- The rules give the worked tapes the lines that were reckoned by hand.
use Rattle.std.proofs.Common.{refl}
use Rattle.std.specs.Fmt.{digits}
use Rattle.frame.specs.Plans.{block_of, unit_of}
use Rattle.sitting.specs.Tapes.{turns}
use Rattle.mark.specs.Worked.{Worked}

pub worked : Worked
unfolding block_of unit_of digits turns
worked = record {
  sample = refl;
  accounts = refl;
  commands = refl;
  levels = refl;
  greater_levels = refl;
  plans = refl;
  packets = refl;
  no_kinds = refl;
  no_counter = refl;
  key_unknown = refl;
  counter_unknown = refl;
  plan_cut = refl;
  short_text = refl;
  short_areas = refl;
  short_table = refl;
  longest = refl;
  too_long = refl;
}
