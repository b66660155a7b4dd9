-- Comparisons of what was answered with what a sheet says. Assumes nothing.
--   verdict_of     whether a call was accepted, or the number that it was refused with
--   same           two verdicts are equal
--   agrees         the answer is what the sheet says
--   word           the word for that
--   verdict_text   a verdict in words
--   line           a comparison in words
--   runs           what is run, line by line
--   sheet          what the sheets say, line by line
use Rattle.std.specs.Prelude.{ℕ, Bool, true, false, cond, List, [], ◌∷◌, ◌++◌, ◌==◌, codes}
use Rattle.std.specs.Fmt.{decimal}
use Rattle.flow.specs.Answers.{Answer, answered, refused}
use Rattle.answers.specs.declared.comparison.Comparison.{Comparison}
use Rattle.answers.specs.declared.comparison.Verdict.{Verdict}
use Rattle.answers.specs.declared.comparison.Verdict.TheVariants.{Accepted, Refused}

abbrev pub verdict_of : {A : Type 0} → Answer A → Verdict
verdict_of (answered a) = Accepted
verdict_of (refused n) = Refused n

abbrev pub same : Verdict → Verdict → Bool
same Accepted Accepted = true
same Accepted (Refused n) = false
same (Refused m) Accepted = false
same (Refused m) (Refused n) = m == n

abbrev pub agrees : Comparison → Bool
agrees c = same c.answered c.says

abbrev pub word : Comparison → List ℕ
word c = cond (agrees c) (codes "agrees") (codes "DIFFERS")

abbrev pub verdict_text : Verdict → List ℕ
verdict_text Accepted = codes "accepted"
verdict_text (Refused n) = codes "refused with " ++ decimal n

abbrev pub line : Comparison → List ℕ
line c = c.run.now ++ codes ": " ++ verdict_text c.answered ++ codes ", the sheet says " ++ verdict_text c.says ++ codes ": " ++ word c

abbrev pub runs : List (List ℕ)
runs = codes "W 10 with k 4" ∷ codes "weight 10" ∷ codes "weight 11" ∷ codes "weight 0" ∷ codes "prefix 10.0.0.1/8" ∷ []

abbrev pub sheet : List Verdict
sheet = Refused 7 ∷ Accepted ∷ Refused 10 ∷ Refused 9 ∷ Refused 14 ∷ []
