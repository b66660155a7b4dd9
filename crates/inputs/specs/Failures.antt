-- Why a line of an input is not carried out, in words. Assumes nothing.
--   failure_text   a line that cannot be read with its reason, or a refusal with its number; nothing is said where the reason has no text that is known
use Rattle.std.specs.Prelude.{ℕ, List, ◌++◌, Some, codes, Option}
use Rattle.std.specs.Fmt.{decimal, ◌++?◌}
use Rattle.flow.specs.Refusals.{number, wording}
use Rattle.inputs.specs.declared.failure.Failure.{Failure}
use Rattle.inputs.specs.declared.failure.Failure.TheVariants.{Unread, Refused}

abbrev pub failure_text : {U : Type 0} → (U → Option (List ℕ)) → Failure U → Option (List ℕ)
failure_text reason (Unread why) = Some (codes "Not read: ") ++? reason why ++? Some (codes ".")
failure_text reason (Refused r) = Some (codes "Refused (" ++ decimal (number r) ++ codes "): " ++ wording r ++ codes ".")
