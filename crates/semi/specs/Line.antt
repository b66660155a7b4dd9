-- The line of a semi-ordered counter, and what one add does to it. Assumes nothing.
-- A line is a list of entries, lowest group first. s is the step, n the places.
--   blank         an entry of zeros
--   holds         some entry has the code
--   entry_of      the entry with the code, or another where none has it
--   without       the line without the entry of a code
--   replaced      the line with an entry in the place of the one of its code
--   placed        the line with an entry directly behind the last one whose group is not above its own
--   first_group   the group of the first entry
--   rest          the line without its first entry
--   entering      what an absent code counts from: nothing while there is room, else the first group and s - 1
--   start         what a code counts from: its entry, or that
--   value         the number that an entry stands for, s · group + remainder
--   estimate      the value that a code counts from
--   raised        the entry of a code that counted from another, with a weight more
--   others        the entries that stay when a code is added
--   added         the line after an add
--   has_group     some entry has the group
--   between       how many different groups of the entries lie strictly between two
--   passes        the different groups of the others strictly between the start group and the new one
--   AtLeast       each group is at least a number
--   Rising        the groups never fall
--   CodesDiffer   no two entries have one code
--   Small         each remainder is below the step
--   total         the sum of the greatest numbers that entries of these groups can stand for
--   Lawful        what a line keeps after t packets of total weight v
--   at_least      the test of AtLeast
--   orderly       the test of Rising, CodesDiffer and Small together
--   some_up_to    some entry's group is not above a number
--   behind_last   `placed` for lists in any order
use Rattle.std.specs.Prelude.{◌≡◌, ℕ, ◌+◌, ◌-◌, ◌*◌, ◌/◌, ◌%◌, ◌<◌, ◌≤◌, Bool, true, false, cond, not, ◌&&◌, List, [], ◌∷◌, length, ◌==◌, nat_le, nat_lt}
use Rattle.flow.specs.Codes.{same}
use Rattle.flow.specs.declared.code.Code.{Code}
use Rattle.semi.specs.declared.entry.Entry.{Entry}

-- an entry of zeros
abbrev pub blank : Entry
blank = record { code = record { high = 0; low = 0 }; group = 0; remainder = 0 }

-- some entry of the line has the code
abbrev pub holds : Code → List Entry → Bool
holds k [] = false
holds k (e ∷ es) = cond (same k e.code) true (holds k es)

-- the entry with the code, or the other where none has it
abbrev pub entry_of : Code → List Entry → Entry → Entry
entry_of k [] other = other
entry_of k (e ∷ es) other = cond (same k e.code) e (entry_of k es other)

-- the line without the entry of the code
abbrev pub without : Code → List Entry → List Entry
without k [] = []
without k (e ∷ es) = cond (same k e.code) es (e ∷ without k es)

-- the line with an entry in the place of the one of its code
abbrev pub replaced : Entry → List Entry → List Entry
replaced e [] = []
replaced e (x ∷ xs) = cond (same e.code x.code) (e ∷ xs) (x ∷ replaced e xs)

-- an entry goes directly behind the last one whose group is not above its own (the groups of a line never fall)
abbrev pub placed : Entry → List Entry → List Entry
placed e [] = e ∷ []
placed e (x ∷ xs) = cond (nat_le x.group e.group) (x ∷ placed e xs) (e ∷ x ∷ xs)

abbrev pub first_group : List Entry → ℕ
first_group [] = 0
first_group (e ∷ _) = e.group

abbrev pub rest : List Entry → List Entry
rest [] = []
rest (_ ∷ es) = es

-- what an absent code counts from: nothing while there is room, else just under the next group after the first entry's
abbrev pub entering : ℕ → ℕ → List Entry → Code → Entry
entering n s line k =
    cond (nat_lt (length line) n)
    (record { code = k; group = 0; remainder = 0 })
    (record { code = k; group = first_group line; remainder = s - 1 })

-- what a code counts from
abbrev pub start : ℕ → ℕ → List Entry → Code → Entry
start n s line k = entry_of k line (entering n s line k)

-- the number that an entry stands for
abbrev pub value : ℕ → Entry → ℕ
value s e = s * e.group + e.remainder

abbrev pub estimate : ℕ → ℕ → List Entry → Code → ℕ
estimate n s line k = value s (start n s line k)

-- the entry of a code that counted from e, with w more
abbrev pub raised : ℕ → ℕ → Code → Entry → Entry
raised s w k e = record { code = k; group = e.group + (e.remainder + w) / s; remainder = (e.remainder + w) % s }

-- the entries that stay when a code is added: a full line loses its first for an absent code
abbrev pub others : ℕ → List Entry → Code → List Entry
others n line k = cond (holds k line) (without k line) (cond (nat_lt (length line) n) line (rest line))

-- the line after w is added to the code
abbrev pub added : ℕ → ℕ → List Entry → Code → ℕ → List Entry
added n s line k w =
    let old = start n s line k in
    let new = raised s w k old in
    cond (holds k line && new.group == old.group) (replaced new line) (placed new (others n line k))

-- some entry has the group
abbrev pub has_group : ℕ → List Entry → Bool
has_group g [] = false
has_group g (e ∷ es) = cond (g == e.group) true (has_group g es)

-- how many different groups of the entries are strictly between two
abbrev pub between : ℕ → ℕ → List Entry → ℕ
between a b [] = 0
between a b (e ∷ es) =
    cond (nat_lt a e.group && (nat_lt e.group b && not (has_group e.group es))) (1 + between a b es) (between a b es)

abbrev pub passes : ℕ → ℕ → List Entry → Code → ℕ → ℕ
passes n s line k w =
    let old = start n s line k in
    between old.group (raised s w k old).group (others n line k)

-- each group is at least g
abbrev pub AtLeast : ℕ → List Entry → Type 0
AtLeast g [] = Unit {0}
AtLeast g (e ∷ es) = (g ≤ e.group) × AtLeast g es

-- the groups never fall
abbrev pub Rising : List Entry → Type 0
Rising [] = Unit {0}
Rising (e ∷ es) = AtLeast e.group es × Rising es

-- no two entries have one code
abbrev pub CodesDiffer : List Entry → Type 0
CodesDiffer [] = Unit {0}
CodesDiffer (e ∷ es) = (holds e.code es ≡ false) × CodesDiffer es

-- each remainder is below the step
abbrev pub Small : ℕ → List Entry → Type 0
Small s [] = Unit {0}
Small s (e ∷ es) = (e.remainder < s) × Small s es

-- the sum of the greatest numbers that entries of these groups can stand for
abbrev pub total : ℕ → List Entry → ℕ
total s [] = 0
total s (e ∷ es) = (s * e.group + (s - 1)) + total s es

-- a line of at most n entries with step s, after t packets of total weight v
pub record Lawful (n s t v : ℕ) (line : List Entry) : Type 0 where
  pub few : length line ≤ n
  pub rising : Rising line
  pub distinct : CodesDiffer line
  pub small : Small s line
  pub sum : total s line ≤ v + t * (s - 1)

-- the test of what a line keeps: groups never fall, no code twice, each remainder below the step
abbrev pub at_least : ℕ → List Entry → Bool
at_least g [] = true
at_least g (e ∷ es) = nat_le g e.group && at_least g es

abbrev pub orderly : ℕ → List Entry → Bool
orderly s [] = true
orderly s (e ∷ es) = (at_least e.group es && not (holds e.code es)) && (nat_lt e.remainder s && orderly s es)

-- some entry's group is not above g
abbrev pub some_up_to : ℕ → List Entry → Bool
some_up_to g [] = false
some_up_to g (e ∷ es) = cond (nat_le e.group g) true (some_up_to g es)

-- directly behind the last entry whose group is not above its own, in any list
abbrev pub behind_last : Entry → List Entry → List Entry
behind_last e [] = e ∷ []
behind_last e (x ∷ xs) = cond (some_up_to e.group (x ∷ xs)) (x ∷ behind_last e xs) (e ∷ x ∷ xs)
