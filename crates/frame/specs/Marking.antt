-- Marks: which are made, which are dropped, and whose they are. Assumes nothing.
--   due             a packet of weight w is marked where its flow was estimated at q: (q + w) / T exceeds q / T
--   marked          the marks after such a packet
--   remains         some mark was made in the block of the packet at offset i
--   dropped         the marks of the previous frame once the packet at offset i has come: the oldest goes if one of its block remains
--   leave           the same where offsets rise: it is enough to look at the oldest
--   marks_from      how many marks a flow has that were made at offset a or later
--   marks_of        how many marks a flow has
--   flow_estimate   T (m + 2) + q mod T, for m marks and the counter's estimate q
--   without         a list of codes without one of them
--   times           how often a code stands in a list
--   flows           the flows that have a mark, each once, in the order of their oldest marks
use Rattle.std.specs.Prelude.{ℕ, ◌+◌, ◌*◌, ◌/◌, ◌%◌, Bool, false, cond, ◌&&◌, ◌||◌, List, [], ◌∷◌, ◌++◌, drop, ◌==◌, nat_le, nat_lt}
use Rattle.flow.specs.declared.code.Code.{Code}
use Rattle.flow.specs.Codes.{same}
use Rattle.frame.specs.declared.marks.Mark.{Mark}

abbrev pub due : ℕ → ℕ → ℕ → Bool
due t q w = nat_lt (q / t) ((q + w) / t)

abbrev pub marked : ℕ → ℕ → ℕ → Mark → List Mark → List Mark
marked t q w m ms = cond (due t q w) (ms ++ m ∷ []) ms

abbrev pub remains : ℕ → ℕ → List Mark → Bool
remains b i [] = false
remains b i (m ∷ ms) = m.offset / b == i / b || remains b i ms

abbrev pub dropped : ℕ → ℕ → List Mark → List Mark
dropped b i ms = cond (remains b i ms) (drop 1 ms) ms

abbrev pub leave : ℕ → ℕ → List Mark → List Mark
leave b i [] = []
leave b i (m ∷ ms) = cond (m.offset / b == i / b) ms (m ∷ ms)

abbrev pub marks_from : ℕ → Code → List Mark → ℕ
marks_from a k [] = 0
marks_from a k (m ∷ ms) = cond (same m.code k && nat_le a m.offset) 1 0 + marks_from a k ms

abbrev pub marks_of : Code → List Mark → ℕ
marks_of = marks_from 0

abbrev pub flow_estimate : ℕ → ℕ → ℕ → ℕ
flow_estimate t m q = t * (m + 2) + q % t

abbrev pub without : Code → List Code → List Code
without k [] = []
without k (c ∷ cs) = cond (same c k) (without k cs) (c ∷ without k cs)

abbrev pub times : Code → List Code → ℕ
times k [] = 0
times k (c ∷ cs) = cond (same c k) 1 0 + times k cs

abbrev pub flows : List Mark → List Code
flows [] = []
flows (m ∷ ms) = m.code ∷ without m.code (flows ms)
