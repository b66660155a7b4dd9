-- The place of a code, and the place of a group.
use Rattle.std.proofs.Common.{◌≡◌, ℕ, zero, suc, ◌+◌, ◌-◌, ◌<◌, ◌≤◌, Bool, true, false, leb, Option, Some, None, is_some, MatchOption, List, [], ◌∷◌, ◌++◌, length, get_or, take, drop, set, sym, refl, ap, ◌∙◌, add-one, arith}
use Rattle.std.specs.List.{copy_within, insert, prefix_len}
use Rattle.std.specs.List.Sorted.{IsNonDecreasingBy, IsPartitionPoint}
use Rattle.semi.specs.Line.{AtLeast, Rising, blank, holds, placed, rest}
use Rattle.semi.specs.declared.entry.Entry.{Entry}
use Rattle.semi.proofs.Steps.{holds_at}
use Rattle.flow.proofs.Codes.{same_sym}
use Rattle.flow.specs.Codes.{same}
use Rattle.flow.specs.declared.code.Code.{Code}
use Rattle.std.proofs.lemmas.Bool.{cond-false, cond-true, leb-false, lt-leb}
use Rattle.std.proofs.lemmas.List.Sums.{prefix_len_passes, prefix_len_stops}
use Rattle.std.proofs.lemmas.List.{append-nil, drop_all, length-append, take_all, take_at, take_more}
use Rattle.std.proofs.Math.Seq.{paste}

-- a search for a code, one entry on
pub holds_more : (k : Code) (xs : List Entry) (i : ℕ) → i < length xs → holds k (take i xs) ≡ false → same (get_or xs i blank).code k ≡ false → holds k (take (i + 1) xs) ≡ false
holds_more k xs i l h q = ap (holds k) (take_more xs i blank l) ∙ holds-push (take i xs) (get_or xs i blank) h (same_sym k (get_or xs i blank).code ∙ q)
  where
    holds-push : (xs : List Entry) (e : Entry) → holds k xs ≡ false → same k e.code ≡ false → holds k (xs ++ e ∷ []) ≡ false
    holds-push [] e h q = grind arith
    holds-push (x ∷ xs) e h q = grind (arith, holds-push xs e)

-- a search tells whether the line holds the code
pub holds_found : (k : Code) (xs : List Entry) (o : Option ℕ) → MatchOption o (holds k xs ≡ false) (λ i. (i < length xs) × ((get_or xs i blank).code ≡ k)) → is_some o ≡ holds k xs
holds_found k xs None h = sym h
holds_found k xs (Some i) h = sym (ap (λ (j : Code). holds j xs) (sym h.1) ∙ holds_at xs i h.0)

-- the groups of a line never fall
pub rising_by : (xs : List Entry) → Rising xs → IsNonDecreasingBy (λ e. e.group) xs
rising_by [] r i j d l h = absurd (omega arith)
rising_by (x ∷ xs) r zero zero d l h = omega arith
rising_by (x ∷ xs) r zero (suc j) d l h = at_least_in x.group xs j d r.0 (omega arith)
  where
    at_least_in : (g : ℕ) (xs : List Entry) (j : ℕ) (d : Entry) → AtLeast g xs → j < length xs → g ≤ (get_or xs j d).group
    at_least_in g [] j d a l = absurd (omega arith)
    at_least_in g (x ∷ xs) zero d a l = a.0
    at_least_in g (x ∷ xs) (suc j) d a l = at_least_in g xs j d a.1 (omega arith)
rising_by (x ∷ xs) r (suc i) zero d l h = absurd (omega arith)
rising_by (x ∷ xs) r (suc i) (suc j) d l h = rising_by xs r.1 i j d (omega arith) (omega arith)

-- the first i groups are not above g, and the others are
abbrev pub Parts : ℕ → ℕ → List Entry → Type 0
Parts g i xs = IsPartitionPoint (λ e. leb e.group g ≡ true) (λ e. leb e.group g ≡ false) xs i

next : (g i : ℕ) (x : Entry) (xs : List Entry) → Parts g (suc i) (x ∷ xs) → Parts g i xs
next g i x xs p = (λ k d l h. p.0 (suc k) d (omega arith) (omega arith), λ k d l h. p.1 (suc k) d (omega arith) (omega arith))

pub parts_front : (g : ℕ) (xs : List Entry) → Rising xs → Parts g (prefix_len (λ e. leb e.group g) xs) xs
parts_front g xs r =
    let p : Entry → Bool = λ e. leb e.group g in (
      λ k d l h. prefix_len_passes p xs k d h,
      λ k d l h. lt-leb _ _ (omega (
        arith,
        leb-false (get_or xs (prefix_len p xs) d).group g (prefix_len_stops p xs d (omega arith)),
        rising_by xs r (prefix_len p xs) k d l h,
      )),
    )

-- an entry of the group goes to that place
pub placed_at : (e : Entry) (xs : List Entry) (i : ℕ) → Parts e.group i xs → placed e xs ≡ take i xs ++ e ∷ drop i xs
placed_at e [] zero p = refl
placed_at e [] (suc i) p = refl
placed_at e (x ∷ xs) zero p = cond-false _ _ _ (p.1 0 x (omega arith) (omega arith))
placed_at e (x ∷ xs) (suc i) p =
    cond-true _ _ _ (p.0 0 x (omega arith) (omega arith)) ∙ ap {B = List Entry} (λ r. x ∷ r) (placed_at e xs i (next e.group i x xs p))

-- the entries behind the first, as `settle` reads them
pub later_is : (xs : List Entry) → take (length xs - 1) (drop 1 xs) ≡ rest xs
later_is [] = refl
later_is (x ∷ xs) = let e : suc (length xs) - 1 ≡ length xs = omega arith in ap (λ (m : ℕ). take m xs) e ∙ take_all (length xs) xs (omega arith)

pub rising_later : (xs : List Entry) → 0 < length xs → Rising xs → Rising (rest xs) × AtLeast (get_or xs 0 blank).group (rest xs)
rising_later [] l r = absurd (omega arith)
rising_later (x ∷ xs) l r = (r.1, r.0)

-- what `settle` leaves: the first i of the others a place lower, and then `new`
pub settled : (xs : List Entry) (new : Entry) (i : ℕ) (out : List Entry) → 0 < length xs → i ≤ length (rest xs) → Parts new.group i (rest xs) →
    out ≡ copy_within xs 1 (i + 1) 0 → set out i new ≡ placed new (rest xs)
settled [] new i out l w p e = absurd (omega arith)
settled (x ∷ xs) new i out l w p e =
    let n : (i + 1) - 1 ≡ i = omega arith in
    let z : 0 + i ≡ i = omega arith in
    ap (λ (ys : List Entry). set ys i new) e ∙ ap (λ (m : ℕ). set (paste (x ∷ xs) 0 xs m) i new) n ∙ ap (λ (m : ℕ). set (take i xs ++ drop m (x ∷ xs)) i new) z ∙
    lowered x xs i w ∙ sym (placed_at new xs i p)
  where
    lowered : (x : Entry) (xs : List Entry) (i : ℕ) → i ≤ length xs → set (take i xs ++ drop i (x ∷ xs)) i new ≡ take i xs ++ new ∷ drop i xs
    lowered x xs zero l = refl
    lowered x [] (suc i) l = absurd (omega arith)
    lowered x (y ∷ xs) (suc i) l = ap {B = List Entry} (λ ys. y ∷ ys) (lowered y xs i (omega arith))

-- what `wedge` leaves: the entries from a place on a place higher, over the last, and `new` there
pub wedged : (front : List Entry) (last new : Entry) (i : ℕ) → i ≤ length front →
    set (copy_within (front ++ last ∷ []) i (length front) (i + 1)) i new ≡ insert front i new
wedged front last new i l =
    let all : List Entry = front ++ last ∷ [] in
    let none : drop ((i + 1) + (length front - i)) all ≡ [] = drop_all ((i + 1) + (length front - i)) all (omega (arith, length-append front (last ∷ []))) in
    ap (λ (ys : List Entry). set (take (i + 1) all ++ take (length front - i) (drop i all) ++ ys) i new) none ∙
    ap (λ (ys : List Entry). set ys i new) (append-nil (take (i + 1) all ++ take (length front - i) (drop i all))) ∙
    ap (λ (m : ℕ). set (take m all ++ take (length front - i) (drop i all)) i new) (add-one i) ∙ raised front i (length front - i) refl l
  where
    raised : (front : List Entry) (i m : ℕ) → m ≡ length front - i → i ≤ length front →
        set (take (suc i) (front ++ last ∷ []) ++ take m (drop i (front ++ last ∷ []))) i new ≡ insert front i new
    raised [] zero m e l = rw e refl
    raised [] (suc i) m e l = absurd (omega arith)
    raised (x ∷ xs) zero m e l = ap {B = List Entry} (λ ys. new ∷ ys) (take_at (x ∷ xs) (last ∷ []) m (omega arith))
    raised (x ∷ xs) (suc i) m e l = ap {B = List Entry} (λ ys. x ∷ ys) (raised xs i m (omega arith) (omega arith))
