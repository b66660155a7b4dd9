-- The order of the groups.
use Rattle.std.specs.Prelude.{◌≡◌, ℕ, ◌<◌, ◌≤◌, true, List, [], ◌∷◌, length}
use Rattle.std.proofs.Common.{arith}
use Rattle.semi.specs.Line.{AtLeast, Rising, entry_of, first_group, holds, placed, replaced, rest, without}
use Rattle.semi.specs.declared.entry.Entry.{Entry}
use Rattle.flow.specs.declared.code.Code.{Code}

-- the order of the line
pub at_least-less : (g h : ℕ) (xs : List Entry) → g ≤ h → AtLeast h xs → AtLeast g xs
at_least-less g h [] l a = tt
at_least-less g h (x ∷ xs) l a = (omega arith, at_least-less g h xs l a.1)

pub at_least-placed : (g : ℕ) (e : Entry) (xs : List Entry) → g ≤ e.group → AtLeast g xs → AtLeast g (placed e xs)
at_least-placed g e [] l a = (l, tt)
at_least-placed g e (x ∷ xs) l a = grind (arith, at_least-placed g e xs l a.1)

pub rising_placed : (e : Entry) (xs : List Entry) → Rising xs → Rising (placed e xs)
rising_placed e [] r = (tt, tt)
rising_placed e (x ∷ xs) r =
    grind (arith, rising_placed e xs r.1, at_least-placed x.group e xs, at_least-less e.group x.group xs)

pub at_least-without : (g : ℕ) (k : Code) (xs : List Entry) → AtLeast g xs → AtLeast g (without k xs)
at_least-without g k [] a = tt
at_least-without g k (x ∷ xs) a = grind (arith, at_least-without g k xs a.1)

pub rising_without : (k : Code) (xs : List Entry) → Rising xs → Rising (without k xs)
rising_without k [] r = tt
rising_without k (x ∷ xs) r = grind (arith, rising_without k xs r.1, at_least-without x.group k xs r.0)

pub at_least-replaced : (g : ℕ) (e : Entry) (xs : List Entry) → g ≤ e.group → AtLeast g xs → AtLeast g (replaced e xs)
at_least-replaced g e [] l a = tt
at_least-replaced g e (x ∷ xs) l a = grind (arith, at_least-replaced g e xs l a.1)

pub at_least-entry_of : (g : ℕ) (k : Code) (xs : List Entry) (d : Entry) → AtLeast g xs → holds k xs ≡ true → g ≤ (entry_of k xs d).group
at_least-entry_of g k [] d a h = grind arith
at_least-entry_of g k (x ∷ xs) d a h = grind (arith, at_least-entry_of g k xs d a.1)

pub rising_replaced : (e : Entry) (xs : List Entry) (d : Entry) → holds e.code xs ≡ true → e.group ≡ (entry_of e.code xs d).group → Rising xs → Rising (replaced e xs)
rising_replaced e [] d h q r = tt
rising_replaced e (x ∷ xs) d h q r =
    grind (arith, rising_replaced e xs d, at_least-replaced x.group e xs, at_least-entry_of x.group e.code xs d)

pub rising_rest : (line : List Entry) → Rising line → Rising (rest line)
rising_rest [] r = tt
rising_rest (x ∷ xs) r = r.1

-- the first group of a line is its least
pub first-least : (line : List Entry) → Rising line → AtLeast (first_group line) line
first-least [] r = tt
first-least (x ∷ xs) r = (omega arith, r.0)

pub least_first : (g : ℕ) (line : List Entry) → 0 < length line → AtLeast g line → g ≤ first_group line
least_first g [] h a = grind arith
least_first g (x ∷ xs) h a = a.0

pub at_least-rest : (g : ℕ) (line : List Entry) → AtLeast g line → AtLeast g (rest line)
at_least-rest g [] a = tt
at_least-rest g (x ∷ xs) a = a.1
