-- The steps of an add, by the place of the entry of the code.
use Rattle.std.proofs.Common.{◌≡◌, ℕ, zero, suc, ◌+◌, ◌-◌, ◌<◌, ◌≤◌, true, false, List, [], ◌∷◌, ◌++◌, length, get_or, take, drop, set, sym, refl, cond, eqb, ltb, ap, ◌∙◌, inl, inr, mul-le-mul_right, one-mul, add-one, arith}
use Rattle.semi.specs.Adding.{code_start, rest_parts, small-start}
use Rattle.semi.specs.Entries.{entry_of_absent, total-without}
use Rattle.semi.specs.Estimates.{estimate_full, estimate_room}
use Rattle.semi.specs.Line.{AtLeast, CodesDiffer, Lawful, Rising, Small, added, between, blank, entering, entry_of, first_group, holds, others, passes, placed, raised, replaced, rest, start, total, value, without}
use Rattle.std.specs.List.{refill}
use Rattle.semi.specs.declared.entry.Entry.{Entry}
use Rattle.flow.proofs.Codes.{same_refl, same_sym}
use Rattle.flow.specs.Codes.{same}
use Rattle.flow.specs.declared.code.Code.{Code}
use Rattle.std.proofs.lemmas.List.{append-nil, drop_all, length-append, length-drop, length-take-le, set_split, take_at, take_rest}
use Rattle.std.proofs.lemmas.Bool.{and_from, and_left, and_right, cases_Bool, cases_lt, cond-false, cond-true, eq-eqb, eqb-false, eqb-true, le-leb, le-ltb, ne_eqb}
use Rattle.std.proofs.lemmas.Bool.Decides.{nat_tests}

-- the steps as equations
module _ (n s : ℕ) (line : List Entry) (k : Code) (w : ℕ) where
  pub added_stays : holds k line ≡ true → (raised s w k (start n s line k)).group ≡ (start n s line k).group → added n s line k w ≡ replaced (raised s w k (start n s line k)) line
  added_stays h q = cond-true _ _ _ (and_from _ _ h (eq-eqb _ _ q))

  pub added_moves : holds k line ≡ true → ((raised s w k (start n s line k)).group ≡ (start n s line k).group → ⊥) → added n s line k w ≡ placed (raised s w k (start n s line k)) (without k line)
  added_moves h q = cond-false _ _ _ (and_right (holds k line) _ (ne_eqb _ _ q)) ∙ ap (placed (raised s w k (start n s line k))) (cond-true _ _ _ h)

  pub others_held : holds k line ≡ true → others n line k ≡ without k line
  others_held h = cond-true _ _ _ h

pub between-same : (a : ℕ) (xs : List Entry) → between a a xs ≡ 0
between-same a [] = refl
between-same a (x ∷ xs) = grind (arith, nat_tests, between-same a xs)

-- a code that stands at a place
pub apart_at : (k : Code) (xs : List Entry) (i : ℕ) → holds k xs ≡ false → i < length xs → same k (get_or xs i blank).code ≡ false
apart_at k [] i h l = grind arith
apart_at k (x ∷ xs) zero h l = grind arith
apart_at k (x ∷ xs) (suc i) h l = apart_at k xs i (grind arith) (omega arith)

pub holds_at : (xs : List Entry) (i : ℕ) → i < length xs → holds (get_or xs i blank).code xs ≡ true
holds_at [] i l = grind arith
holds_at (x ∷ xs) zero l = grind (arith, same_refl)
holds_at (x ∷ xs) (suc i) l = grind (arith, holds_at xs i)

pub entry_of_at : (xs : List Entry) (i : ℕ) (d : Entry) → CodesDiffer xs → i < length xs → entry_of (get_or xs i blank).code xs d ≡ get_or xs i blank
entry_of_at [] i d a l = grind arith
entry_of_at (x ∷ xs) zero d a l = grind (arith, same_refl)
entry_of_at (x ∷ xs) (suc i) d a l =
    let q = apart_at x.code xs i a.0 (omega arith) in
    let z = same_sym (get_or xs i blank).code x.code in
    cond-false _ _ _ (z ∙ q) ∙ entry_of_at xs i d a.1 (omega arith)

pub without_at : (xs : List Entry) (i : ℕ) → CodesDiffer xs → i < length xs → without (get_or xs i blank).code xs ≡ take i xs ++ drop (suc i) xs
without_at [] i a l = grind arith
without_at (x ∷ xs) zero a l = cond-true _ _ _ (same_refl x.code)
without_at (x ∷ xs) (suc i) a l =
    let q = apart_at x.code xs i a.0 (omega arith) in
    let z = same_sym (get_or xs i blank).code x.code in
    cond-false _ _ _ (z ∙ q) ∙ ap {B = List Entry} (λ r. x ∷ r) (without_at xs i a.1 (omega arith))

pub replaced_at : (e : Entry) (xs : List Entry) (i : ℕ) → e.code ≡ (get_or xs i blank).code → CodesDiffer xs → i < length xs → replaced e xs ≡ set xs i e
replaced_at e [] i c a l = grind arith
replaced_at e (x ∷ xs) zero c a l =
    let q : same e.code x.code ≡ true = rw c (same_refl x.code) in
    cond-true _ _ _ q
replaced_at e (x ∷ xs) (suc i) c a l =
    let q = apart_at x.code xs i a.0 (omega arith) in
    let z : same e.code x.code ≡ false = rw c (same_sym (get_or xs i blank).code x.code ∙ q) in
    cond-false _ _ _ z ∙ ap {B = List Entry} (λ r. x ∷ r) (replaced_at e xs i c a.1 (omega arith))

-- what stands before a place
abbrev pub AtMost : ℕ → List Entry → Type 0
AtMost g [] = Unit {0}
AtMost g (e ∷ es) = (e.group ≤ g) × AtMost g es

pub at_least_at : (g : ℕ) (xs : List Entry) (i : ℕ) → AtLeast g xs → i < length xs → g ≤ (get_or xs i blank).group
at_least_at g [] i a l = grind arith
at_least_at g (x ∷ xs) zero a l = a.0
at_least_at g (x ∷ xs) (suc i) a l = at_least_at g xs i a.1 (omega arith)

pub before_at : (xs : List Entry) (i : ℕ) → Rising xs → i < length xs → AtMost (get_or xs i blank).group (take i xs)
before_at [] i r l = grind arith
before_at (x ∷ xs) zero r l = tt
before_at (x ∷ xs) (suc i) r l = (at_least_at x.group xs i r.0 (omega arith), before_at xs i r.1 (omega arith))

pub placed_behind : (e : Entry) (g : ℕ) (xs ys : List Entry) → g ≤ e.group → AtMost g xs → placed e (xs ++ ys) ≡ xs ++ placed e ys
placed_behind e g [] ys l a = refl
placed_behind e g (x ∷ xs) ys l a =
    let q : x.group ≤ e.group = omega arith in
    cond-true _ _ _ (le-leb _ _ q) ∙ ap {B = List Entry} (λ r. x ∷ r) (placed_behind e g xs ys l a.1)

pub between_behind : (a b : ℕ) (xs ys : List Entry) → AtMost a xs → between a b (xs ++ ys) ≡ between a b ys
between_behind a b [] ys h = refl
between_behind a b (x ∷ xs) ys h = cond-false _ _ _ (and_left _ _ (le-ltb _ _ h.0)) ∙ between_behind a b xs ys h.1

-- an add to the code at a place
module _ (n s w : ℕ) (line : List Entry) (i : ℕ) (di : CodesDiffer line) (l : i < length line) where
  pub start_at : start n s line (get_or line i blank).code ≡ get_or line i blank
  start_at = entry_of_at line i _ di l

  pub stays_at : (raised s w (get_or line i blank).code (get_or line i blank)).group ≡ (get_or line i blank).group →
      added n s line (get_or line i blank).code w ≡ set line i (raised s w (get_or line i blank).code (get_or line i blank))
  stays_at q =
      let k = (get_or line i blank).code in
      let e = start_at in
      let a = added_stays n s line k w (holds_at line i l) (rw e q) in
      a ∙ replaced_at (raised s w k (start n s line k)) line i refl di l ∙ ap (λ (x : Entry). set line i (raised s w k x)) e

  passes_at : passes n s line (get_or line i blank).code w ≡ between (get_or line i blank).group (raised s w (get_or line i blank).code (get_or line i blank)).group (take i line ++ drop (suc i) line)
  passes_at =
      let k = (get_or line i blank).code in
      ap (λ (x : Entry). between x.group (raised s w k x).group (others n line k)) start_at ∙
      ap (between (get_or line i blank).group (raised s w k (get_or line i blank)).group) (others_held n s line k w (holds_at line i l) ∙ without_at line i di l)

  module _ (r : Rising line) where
    pub moves_at : ((raised s w (get_or line i blank).code (get_or line i blank)).group ≡ (get_or line i blank).group → ⊥) →
        added n s line (get_or line i blank).code w ≡ take i line ++ placed (raised s w (get_or line i blank).code (get_or line i blank)) (drop (i + 1) line)
    moves_at q =
        let k = (get_or line i blank).code in
        let e = start_at in
        let new = raised s w k (get_or line i blank) in
        let a = added_moves n s line k w (holds_at line i l) (rw e q) in
        rw add-one (a ∙ ap (λ (x : Entry). placed (raised s w k x) (without k line)) e ∙ ap (placed new) (without_at line i di l) ∙
        placed_behind new (get_or line i blank).group (take i line) (drop (suc i) line) (omega arith) (before_at line i r l))

    pub moves_passes : passes n s line (get_or line i blank).code w ≡ between (get_or line i blank).group (raised s w (get_or line i blank).code (get_or line i blank)).group (drop (i + 1) line)
    moves_passes = rw add-one (passes_at ∙ between_behind (get_or line i blank).group _ (take i line) (drop (suc i) line) (before_at line i r l))

pub at_least_zero : (xs : List Entry) → AtLeast 0 xs
at_least_zero [] = tt
at_least_zero (x ∷ xs) = (omega arith, at_least_zero xs)

pub small_at : (s : ℕ) (xs : List Entry) (i : ℕ) → Small s xs → i < length xs → (get_or xs i blank).remainder < s
small_at s [] i m l = grind arith
small_at s (x ∷ xs) zero m l = m.0
small_at s (x ∷ xs) (suc i) m l = small_at s xs i m.1 (omega arith)

pub group_bound : (s b : ℕ) (xs : List Entry) (i : ℕ) → 0 < s → i < length xs → total s xs ≤ b → (get_or xs i blank).group ≤ b
group_bound s b [] i p l h = grind arith
group_bound s b (x ∷ xs) zero p l h = omega (arith, mul-le-mul_right x.group p, one-mul x.group)
group_bound s b (x ∷ xs) (suc i) p l h = group_bound s b xs i p (omega arith) (omega arith)

pub value-start : (n s t v : ℕ) (line : List Entry) (k : Code) → 0 < n → 0 < s → Lawful n s t v line → value s (start n s line k) ≤ total s line
value-start n s t v line k some step l =
    elim (cases_Bool (holds k line)) [
      | inl h ↦ omega (arith, total-without s k line (entering n s line k) h, small-start n s line k step l.small)
      | inr h ↦ elim (cases_lt (length line) n) [
        | inl q ↦ omega (arith, estimate_room n s line k h q)
        | inr q ↦ omega (arith, estimate_full n s line k h q, (rest_parts s line (omega arith)).0)
      ]
    ]

-- the part of a line from a place
pub rest-drop : (xs : List Entry) (i : ℕ) → rest (drop i xs) ≡ drop (i + 1) xs
rest-drop [] zero = refl
rest-drop [] (suc i) = rw add-one refl
rest-drop (x ∷ xs) zero = refl
rest-drop (x ∷ xs) (suc i) = let e : drop (suc i + 1) (x ∷ xs) ≡ drop (i + 1) xs = rw (add-one, add-one) refl in rest-drop xs i ∙ sym e

pub first_group-drop : (xs : List Entry) (i : ℕ) → first_group (drop i xs) ≡ (get_or xs i blank).group
first_group-drop [] zero = refl
first_group-drop [] (suc i) = refl
first_group-drop (x ∷ xs) zero = refl
first_group-drop (x ∷ xs) (suc i) = first_group-drop xs i

pub rising_drop : (xs : List Entry) (i : ℕ) → Rising xs → Rising (drop i xs)
rising_drop [] zero r = tt
rising_drop [] (suc i) r = tt
rising_drop (x ∷ xs) zero r = r
rising_drop (x ∷ xs) (suc i) r = rising_drop xs i r.1

-- the entries after a loan of all of them
pub lent : (xs ys : List Entry) → length ys ≡ length xs → refill (length xs) xs ys ≡ ys
lent xs ys e = take_at ys (drop (length ys) xs) (length xs) e

-- an add of a line ys with r passes
pub record Adds (n s w : ℕ) (xs : List Entry) (k : Code) (ys : List Entry) (r : ℕ) : Type 0 where
  pub line : ys ≡ added n s xs k w
  pub passes : r ≡ passes n s xs k w

-- an add to the code at a place, as `regroup` does it: later is the line from there
module _ (n s w : ℕ) (xs : List Entry) (at : ℕ) (o : CodesDiffer xs) (rising : Rising xs) (l : at < length xs) (new : Entry) (e : new ≡ raised s w (get_or xs at blank).code (get_or xs at blank)) where
  group_is : (raised s w (get_or xs at blank).code (get_or xs at blank)).group ≡ new.group
  group_is = ap (λ (x : Entry). x.group) (sym e)

  regrouped : (g : ℕ) → g ≡ (get_or xs at blank).group → take at xs ++ cond (eqb new.group g) (new ∷ drop (at + 1) xs) (placed new (drop (at + 1) xs)) ≡ added n s xs (get_or xs at blank).code w
  regrouped g z = elim (cases_Bool (eqb new.group g)) [
    | inl q ↦ let put : take at xs ++ new ∷ drop (at + 1) xs ≡ set xs at new = rw add-one (sym (set_split xs at new l)) in
        ap (λ (ys : List Entry). take at xs ++ ys) (cond-true _ _ _ q) ∙ put ∙ ap (set xs at) e ∙ sym (stays_at n s w xs at o l (group_is ∙ eqb-true _ _ q ∙ z))
    | inr q ↦ ap (λ (ys : List Entry). take at xs ++ ys) (cond-false _ _ _ q) ∙ ap (λ (x : Entry). take at xs ++ placed x (drop (at + 1) xs)) e ∙
        sym (moves_at n s w xs at o l rising (λ h. eqb-false _ _ q (sym group_is ∙ h ∙ sym z)))
  ]

  pub grown : (ds later : List Entry) → ds ≡ xs → later ≡ take (length ds - at) (drop at ds) → (part : List Entry) (r : ℕ) → length part ≡ length later →
      part ≡ cond (eqb new.group (first_group later)) (new ∷ rest later) (placed new (rest later)) → r ≡ between (first_group later) new.group (rest later) →
      Adds n s w xs (get_or xs at blank).code (refill (length xs) xs (take at ds ++ (part ++ drop (length ds - at) (drop at ds)))) r
  grown ds later d z part r long p count =
      let front : take at ds ≡ take at xs = ap (take at) d in
      let later_is : later ≡ drop at xs = z ∙ take_rest ds at ∙ ap (drop at) d in
      let none : drop (length ds - at) (drop at ds) ≡ [] = drop_all (length ds - at) (drop at ds) (omega (arith, length-drop at ds)) in
      let whole : take at ds ++ (part ++ drop (length ds - at) (drop at ds)) ≡ take at xs ++ part =
      ap (λ (ys : List Entry). ys ++ (part ++ drop (length ds - at) (drop at ds))) front ∙ ap (λ (ys : List Entry). take at xs ++ (part ++ ys)) none ∙ ap (λ (ys : List Entry). take at xs ++ ys) (append-nil part) in
      let size : length (take at xs ++ part) ≡ length xs = omega (arith, length-append (take at xs) part, length-take-le at xs (omega arith), long, ap length later_is, length-drop at xs) in
      let behind : rest later ≡ drop (at + 1) xs = ap rest later_is ∙ rest-drop xs at in
      let first : first_group later ≡ (get_or xs at blank).group = ap first_group later_is ∙ first_group-drop xs at in
      record {
        line = ap (refill (length xs) xs) whole ∙ lent xs (take at xs ++ part) size ∙
            ap (λ (ys : List Entry). take at xs ++ ys) (p ∙ ap (λ (ys : List Entry). cond (eqb new.group (first_group later)) (new ∷ ys) (placed new ys)) behind) ∙ regrouped (first_group later) first;
        passes = count ∙ ap (λ (g : ℕ). between g new.group (rest later)) first ∙ ap (between (get_or xs at blank).group new.group) behind ∙
            ap (λ (b : ℕ). between (get_or xs at blank).group b (drop (at + 1) xs)) (sym group_is) ∙ sym (moves_passes n s w xs at o l rising);
      }

-- an add of an absent code, as `seat` does it
module _ (n s w : ℕ) (xs : List Entry) (k : Code) (absent : holds k xs ≡ false) (from : Entry) (f : from ≡ entering n s xs k) (new : Entry) (e : new ≡ raised s w from.code from) where
  from_is : from ≡ start n s xs k
  from_is = f ∙ sym (entry_of_absent k xs (entering n s xs k) absent)

  new_is : new ≡ raised s w k (start n s xs k)
  new_is = let code : from.code ≡ k = ap (λ (x : Entry). x.code) from_is ∙ code_start n s xs k in e ∙ ap (λ (j : Code). raised s w j from) code ∙ ap (raised s w k) from_is

  others_is : cond (ltb (length xs) n) xs (rest xs) ≡ others n xs k
  others_is = sym (cond-false _ _ _ absent)

  counted : cond (ltb (length xs) n) (between 0 new.group xs) (between (first_group xs) new.group (rest xs)) ≡ between from.group new.group (cond (ltb (length xs) n) xs (rest xs))
  counted = elim (cases_Bool (ltb (length xs) n)) [
    | inl q ↦ let g : from.group ≡ 0 = ap (λ (x : Entry). x.group) (f ∙ cond-true _ _ _ q) in
        cond-true _ _ _ q ∙ ap (λ (a : ℕ). between a new.group xs) (sym g) ∙ ap (between from.group new.group) (sym (cond-true _ _ _ q))
    | inr q ↦ let g : from.group ≡ first_group xs = ap (λ (x : Entry). x.group) (f ∙ cond-false _ _ _ q) in
        cond-false _ _ _ q ∙ ap (λ (a : ℕ). between a new.group (rest xs)) (sym g) ∙ ap (between from.group new.group) (sym (cond-false _ _ _ q))
  ]

  pub entered : (ys : List Entry) (r : ℕ) → ys ≡ placed new (cond (ltb (length xs) n) xs (rest xs)) →
      r ≡ cond (ltb (length xs) n) (between 0 new.group xs) (between (first_group xs) new.group (rest xs)) → Adds n s w xs k ys r
  entered ys r line count = record {
    line = line ∙ ap (placed new) others_is ∙ ap (λ (x : Entry). placed x (others n xs k)) new_is ∙
        sym (cond-false _ (replaced (raised s w k (start n s xs k)) xs) (placed (raised s w k (start n s xs k)) (others n xs k)) (and_left _ _ absent));
    passes = count ∙ counted ∙ ap (between from.group new.group) others_is ∙ ap (λ (x : Entry). between x.group new.group (others n xs k)) from_is ∙
        ap (λ (x : Entry). between (start n s xs k).group x.group (others n xs k)) new_is;
  }
