-- The entries of a Space-Saving counter, and what an add does to them. Assumes nothing.
--   vacant     an entry that counts no code yet
--   counts     an entry counts the code
--   holds      some entry counts the code
--   count_of   the code's count, 0 where no entry counts it
--   total      the sum of the counts
--   least      the least of the counts
--   estimate   the greater of the code's count and the least count: an absent code has the least
--   takes      an add of the code may go to this entry: to the code's own where there is one, else to one with the least count
--   taker      the place of the first such entry
--   credited   the entries once the first that passes a test is the code's, with its count raised
--   added      the entries after an add
--   apart      the test that no two entries count one code
use Rattle.std.specs.Prelude.{ℕ, ◌+◌, min, max, Bool, true, cond, not, ◌&&◌, ◌||◌, List, [], ◌∷◌, map, ◌==◌, nat_lt}
use Rattle.std.specs.List.{fold, list_any, position_or_len}
use Rattle.flow.specs.Codes.{same}
use Rattle.flow.specs.declared.code.Code.{Code}
use Rattle.fitting.specs.declared.entry.Entry.{Entry}

abbrev pub vacant : Entry
vacant = record { code = record { high = 0; low = 0 }; count = 0 }

abbrev pub counts : Code → Entry → Bool
counts k e = nat_lt 0 e.count && same k e.code

abbrev pub holds : Code → List Entry → Bool
holds k es = list_any (counts k) es

abbrev pub count_of : Code → List Entry → ℕ
count_of k [] = 0
count_of k (e ∷ es) = cond (counts k e) e.count (count_of k es)

abbrev pub total : List Entry → ℕ
total [] = 0
total (e ∷ es) = e.count + total es

-- no count is above their sum
abbrev pub least : List Entry → ℕ
least es = fold min (total es) (map (λ e. e.count) es)

abbrev pub estimate : Code → List Entry → ℕ
estimate k es = max (count_of k es) (least es)

abbrev pub takes : Code → List Entry → Entry → Bool
takes k es e = cond (holds k es) (counts k e) (e.count == least es)

abbrev pub taker : Code → List Entry → ℕ
taker k es = position_or_len (takes k es) es

abbrev pub credited : (Entry → Bool) → Code → ℕ → List Entry → List Entry
credited p k w [] = []
credited p k w (e ∷ es) = cond (p e) (record { code = k; count = e.count + w } ∷ es) (e ∷ credited p k w es)

abbrev pub added : List Entry → Code → ℕ → List Entry
added es k w = credited (takes k es) k w es

abbrev pub apart : List Entry → Bool
apart [] = true
apart (e ∷ es) = (e.count == 0 || not (holds e.code es)) && apart es
