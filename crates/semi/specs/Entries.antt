-- Where an entry is found after a change of the line, and what the change keeps.
use Rattle.std.specs.Prelude.{◌≡◌, ℕ, ◌+◌, ◌-◌, ◌*◌, ◌<◌, true, false, List, [], ◌∷◌, length, refl}
use Rattle.std.proofs.Common.{arith}
use Rattle.semi.specs.Line.{CodesDiffer, Small, entry_of, holds, placed, replaced, rest, total, without}
use Rattle.semi.specs.declared.entry.Entry.{Entry}
use Rattle.flow.proofs.Codes.{same_refl, same_sym, same_true}
use Rattle.flow.specs.Codes.{same}
use Rattle.flow.specs.declared.code.Code.{Code}

-- an entry that is put into the line is found there
pub entry_of-placed : (e : Entry) (xs : List Entry) (d : Entry) → holds e.code xs ≡ false → entry_of e.code (placed e xs) d ≡ e
entry_of-placed e [] d h = grind (arith, same_refl)
entry_of-placed e (x ∷ xs) d h = grind (arith, same_refl, entry_of-placed e xs d)

pub holds-placed : (e : Entry) (xs : List Entry) → holds e.code (placed e xs) ≡ true
holds-placed e [] = grind (arith, same_refl)
holds-placed e (x ∷ xs) = grind (arith, same_refl, holds-placed e xs)

pub entry_of-placed_other : (j : Code) (e : Entry) (xs : List Entry) (d : Entry) → same j e.code ≡ false → entry_of j (placed e xs) d ≡ entry_of j xs d
entry_of-placed_other j e [] d h = grind arith
entry_of-placed_other j e (x ∷ xs) d h = grind (arith, entry_of-placed_other j e xs d)

pub length-placed : (e : Entry) (xs : List Entry) → length (placed e xs) ≡ length xs + 1
length-placed e [] = grind arith
length-placed e (x ∷ xs) = grind (arith, length-placed e xs)

pub total-placed : (s : ℕ) (e : Entry) (xs : List Entry) → total s (placed e xs) ≡ (s * e.group + (s - 1)) + total s xs
total-placed s e [] = grind arith
total-placed s e (x ∷ xs) = grind (arith, total-placed s e xs)

-- the entries that stay
pub holds-without : (k : Code) (xs : List Entry) → CodesDiffer xs → holds k (without k xs) ≡ false
holds-without k [] d = refl
holds-without k (x ∷ xs) d = grind (arith, same_true, holds-without k xs d.1)

pub entry_of-without : (j k : Code) (xs : List Entry) (d : Entry) → same j k ≡ false → entry_of j (without k xs) d ≡ entry_of j xs d
entry_of-without j k [] d h = refl
entry_of-without j k (x ∷ xs) d h = grind (arith, same_true, entry_of-without j k xs d h)

pub length_without : (k : Code) (xs : List Entry) → holds k xs ≡ true → length (without k xs) + 1 ≡ length xs
length_without k [] h = grind arith
length_without k (x ∷ xs) h = grind (arith, length_without k xs)

pub total-without : (s : ℕ) (k : Code) (xs : List Entry) (d : Entry) → holds k xs ≡ true → (s * (entry_of k xs d).group + (s - 1)) + total s (without k xs) ≡ total s xs
total-without s k [] d h = grind arith
total-without s k (x ∷ xs) d h = grind (arith, total-without s k xs d)

pub entry_of_absent : (k : Code) (xs : List Entry) (d : Entry) → holds k xs ≡ false → entry_of k xs d ≡ d
entry_of_absent k [] d h = refl
entry_of_absent k (x ∷ xs) d h = grind (arith, entry_of_absent k xs d)

pub entry_of_held : (k : Code) (xs : List Entry) (d e : Entry) → holds k xs ≡ true → entry_of k xs d ≡ entry_of k xs e
entry_of_held k [] d e h = grind arith
entry_of_held k (x ∷ xs) d e h = grind (arith, entry_of_held k xs d e)

pub code_entry_of : (k : Code) (xs : List Entry) (d : Entry) → d.code ≡ k → (entry_of k xs d).code ≡ k
code_entry_of k [] d h = h
code_entry_of k (x ∷ xs) d h = grind (arith, same_true, code_entry_of k xs d h)

pub entry_of-replaced : (e : Entry) (xs : List Entry) (d : Entry) → holds e.code xs ≡ true → entry_of e.code (replaced e xs) d ≡ e
entry_of-replaced e [] d h = grind arith
entry_of-replaced e (x ∷ xs) d h = grind (arith, same_refl, entry_of-replaced e xs d)

pub entry_of-replaced_other : (j : Code) (e : Entry) (xs : List Entry) (d : Entry) → same j e.code ≡ false → entry_of j (replaced e xs) d ≡ entry_of j xs d
entry_of-replaced_other j e [] d h = refl
entry_of-replaced_other j e (x ∷ xs) d h = grind (arith, same_true, entry_of-replaced_other j e xs d h)

pub length-replaced : (e : Entry) (xs : List Entry) → length (replaced e xs) ≡ length xs
length-replaced e [] = refl
length-replaced e (x ∷ xs) = grind (arith, length-replaced e xs)

pub total-replaced : (s : ℕ) (e : Entry) (xs : List Entry) (d : Entry) → e.group ≡ (entry_of e.code xs d).group → total s (replaced e xs) ≡ total s xs
total-replaced s e [] d h = refl
total-replaced s e (x ∷ xs) d h = grind (arith, total-replaced s e xs d)

-- no code twice
pub holds-placed_other : (j : Code) (e : Entry) (xs : List Entry) → same j e.code ≡ false → holds j (placed e xs) ≡ holds j xs
holds-placed_other j e [] h = grind arith
holds-placed_other j e (x ∷ xs) h = grind (arith, holds-placed_other j e xs h)

pub distinct_placed : (e : Entry) (xs : List Entry) → holds e.code xs ≡ false → CodesDiffer xs → CodesDiffer (placed e xs)
distinct_placed e [] h d = (refl, tt)
distinct_placed e (x ∷ xs) h d =
    grind (arith, distinct_placed e xs, holds-placed_other x.code e xs, same_sym e.code x.code)

pub holds-without_other : (j k : Code) (xs : List Entry) → same j k ≡ false → holds j (without k xs) ≡ holds j xs
holds-without_other j k [] h = refl
holds-without_other j k (x ∷ xs) h = grind (arith, same_true, holds-without_other j k xs h)

pub distinct_without : (k : Code) (xs : List Entry) → CodesDiffer xs → CodesDiffer (without k xs)
distinct_without k [] d = tt
distinct_without k (x ∷ xs) d = grind (arith, distinct_without k xs d.1, holds-without_other x.code k xs, same_sym k x.code)

pub holds-replaced : (j : Code) (e : Entry) (xs : List Entry) → holds j (replaced e xs) ≡ holds j xs
holds-replaced j e [] = refl
holds-replaced j e (x ∷ xs) = grind (arith, same_true, holds-replaced j e xs)

pub distinct_replaced : (e : Entry) (xs : List Entry) → CodesDiffer xs → CodesDiffer (replaced e xs)
distinct_replaced e [] d = tt
distinct_replaced e (x ∷ xs) d = grind (arith, same_true, distinct_replaced e xs d.1, holds-replaced x.code e xs)

-- remainders
pub small-placed : (s : ℕ) (e : Entry) (xs : List Entry) → e.remainder < s → Small s xs → Small s (placed e xs)
small-placed s e [] h m = (h, tt)
small-placed s e (x ∷ xs) h m = grind (arith, small-placed s e xs h)

pub small-without : (s : ℕ) (k : Code) (xs : List Entry) → Small s xs → Small s (without k xs)
small-without s k [] m = tt
small-without s k (x ∷ xs) m = grind (arith, small-without s k xs m.1)

pub small-replaced : (s : ℕ) (e : Entry) (xs : List Entry) → e.remainder < s → Small s xs → Small s (replaced e xs)
small-replaced s e [] h m = tt
small-replaced s e (x ∷ xs) h m = grind (arith, small-replaced s e xs h)

pub small-entry_of : (s : ℕ) (k : Code) (xs : List Entry) (d : Entry) → d.remainder < s → Small s xs → (entry_of k xs d).remainder < s
small-entry_of s k [] d h m = h
small-entry_of s k (x ∷ xs) d h m = grind (arith, small-entry_of s k xs d h)

pub small_of : (s : ℕ) (k : Code) (xs : List Entry) (d : Entry) → Small s xs → holds k xs ≡ true → (entry_of k xs d).remainder < s
small_of s k [] d m h = grind arith
small_of s k (x ∷ xs) d m h = grind (arith, small_of s k xs d)

pub distinct_rest : (line : List Entry) → CodesDiffer line → CodesDiffer (rest line)
distinct_rest [] r = tt
distinct_rest (x ∷ xs) r = r.1

pub small-rest : (s : ℕ) (line : List Entry) → Small s line → Small s (rest line)
small-rest s [] r = tt
small-rest s (x ∷ xs) r = r.1

pub holds-rest : (k : Code) (line : List Entry) → holds k line ≡ false → holds k (rest line) ≡ false
holds-rest k [] h = refl
holds-rest k (x ∷ xs) h = grind arith

pub entry_of-rest : (j : Code) (line : List Entry) (d e : Entry) → CodesDiffer line → holds j (rest line) ≡ true → entry_of j (rest line) d ≡ entry_of j line e
entry_of-rest j [] d e di h = grind arith
entry_of-rest j (x ∷ xs) d e di h = grind (arith, same_true, entry_of_held j xs d e h)
