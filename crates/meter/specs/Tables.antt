-- The areas of lists, and lists in memory of their own. Assumes nothing.
--   ample       areas that are long enough for every list
--   told_list   the records that a list answers, or the number of a refusal
use Rattle.std.specs.Prelude.{List, Ok, Err, vec_items, Result, Vec}
use Rattle.std.specs.declared.alloc.Global.{Global}
use Rattle.flow.specs.Answers.{Answer, answered, refused}
use Rattle.flow.specs.Limits.{least_scratch, most_marks}
use Rattle.flow.specs.Refusals.{number}
use Rattle.flow.specs.declared.refusal.Refusal.{Refusal}
use Rattle.meter.specs.declared.day.Areas.{Areas}
use Rattle.meter.specs.declared.record.Record.{Record}

abbrev pub ample : Areas
ample = record { scratch = least_scratch; table = most_marks }

abbrev pub told_list : Result (Vec Record Global) Refusal → Answer (List Record)
told_list (Ok v) = answered (vec_items v)
told_list (Err e) = refused (number e)
