-- Lists, flow by flow.
use Rattle.std.proofs.Common.{◌≡◌, ℕ, zero, suc, ◌+◌, ◌*◌, ◌≤◌, Bool, true, false, cond, leb, List, [], ◌∷◌, ◌++◌, length, take, drop, set, add-one, length-append, Some, None, Option, sym, refl, ap, ◌∙◌, subst, append-nil, arith, take_all, ltb, min}
use lib.Seq.{take-append-le}
use Rattle.std.specs.Bool.{then_some}
use Rattle.std.specs.Option.{option_to_list}
use Rattle.std.proofs.lemmas.List.{take-append-drop, length-take}
use Rattle.std.proofs.lemmas.Bool.{ltb-false}
use Rattle.std.proofs.lemmas.Bool.Decides.{nat_tests}
use Rattle.flow.specs.Answers.{Answer, answered, refused}
use Rattle.flow.specs.Limits.{least_scratch, most_marks}
use Rattle.flow.specs.Meanings.{Meaning}
use Rattle.flow.specs.declared.code.Code.{Code}
use Rattle.frame.specs.declared.plan.Plan.{Plan}
use Rattle.frame.specs.declared.marks.Mark.{Mark}
use Rattle.frame.specs.Marked.{listed}
use Rattle.frame.specs.Marking.{flows}
use Rattle.frame.specs.Plans.{unit_of, level_judged}
use Rattle.meter.specs.declared.record.Record.{Record}
use Rattle.meter.specs.Ledgers.{Ledger}
use Rattle.meter.specs.Guarantees.{ListsUnder}
use Rattle.meter.specs.States.{State, estimate_in, listing, list_in, list_for, list_answer, count_of}
use Rattle.meter.specs.declared.meter.Window.{Window}
use Rattle.meter.specs.Meters.{windowed, state_in}
use Rattle.meter.specs.Holding.{Kept, Holds}
use Rattle.meter.proofs.Answering.{lists, list_few}

listing-append : (est : Code → ℕ) (level : ℕ) (xs ys : List Code) → listing est level (xs ++ ys) ≡ listing est level xs ++ listing est level ys
listing-append est level [] ys = refl
listing-append est level (x ∷ xs) ys = by (leb level (est x)) (listing-append est level xs ys)
  where
    by : (b : Bool) → listing est level (xs ++ ys) ≡ listing est level xs ++ listing est level ys →
        cond b (record { code = x; estimate = est x } ∷ listing est level (xs ++ ys)) (listing est level (xs ++ ys)) ≡ cond b (record { code = x; estimate = est x } ∷ listing est level xs) (listing est level xs) ++ listing est level ys
    by true e = ap (λ (rs : List Record). record { code = x; estimate = est x } ∷ rs) e
    by false e = e

-- the records of some flows, and that of a flow that may follow
module _ (est : Code → ℕ) (level : ℕ) (ks js : List Code) (o : Option Code) (next : js ≡ ks ++ option_to_list o) where
  more : listing est level js ≡ listing est level ks ++ listing est level (option_to_list o)
  more = ap (listing est level) next ∙ listing-append est level ks (option_to_list o)

  pub list_old : (r : Option Record) → o ≡ None → r ≡ None → listing est level js ≡ listing est level ks ++ option_to_list r
  list_old r none r-is = more ∙ ap (λ (x : Option Code). listing est level ks ++ listing est level (option_to_list x)) none ∙ ap (λ (x : Option Record). listing est level ks ++ option_to_list x) (sym r-is)

  pub list_next : (k : Code) (e : ℕ) (r : Option Record) → o ≡ Some k → e ≡ est k → r ≡ then_some (leb level e) (record { code = k; estimate = e }) → listing est level js ≡ listing est level ks ++ option_to_list r
  list_next k e r is e-is r-is =
      more ∙ ap (λ (x : Option Code). listing est level ks ++ listing est level (option_to_list x)) is ∙
      ap (λ (x : ℕ). listing est level ks ++ cond {A = List Record} (leb level x) (record { code = k; estimate = x } ∷ []) []) (sym e-is) ∙
      ap (λ (rs : List Record). listing est level ks ++ rs) (told (leb level e) ∙ ap option_to_list (sym r-is))
    where
      told : (b : Bool) → cond {A = List Record} b (record { code = k; estimate = e } ∷ []) [] ≡ option_to_list (then_some b (record { code = k; estimate = e }))
      told true = refl
      told false = refl

-- one record more at the front of a table, if that reaches so far
set_front : (front entry : List Record) (r : Record) → set (take (length entry) front ++ drop (length front) entry) (length front) r ≡ take (length entry) (front ++ r ∷ []) ++ drop (suc (length front)) entry
set_front [] [] r = refl
set_front [] (e ∷ es) r = ap (λ (xs : List Record). r ∷ (xs ++ es)) (sym (take_nil (length es)))
  where
    take_nil : (n : ℕ) → take {A = Record} n [] ≡ []
    take_nil zero = refl
    take_nil (suc n) = refl
set_front (f ∷ fs) [] r = refl
set_front (f ∷ fs) (e ∷ es) r = ap (λ (xs : List Record). f ∷ xs) (set_front fs es r)

-- one turn of the writing of a list: the records so far stand at the front of the table
module _ (front next entry table : List Record) (n : ℕ) (n-is : n ≡ length front) (table_is : table ≡ take (length entry) front ++ drop n entry) where
  pub write_some : (r : Record) (k : ℕ) (new : List Record) → next ≡ front ++ r ∷ [] → k ≡ n + 1 → new ≡ set table n r → (k ≡ length next) × (new ≡ take (length entry) next ++ drop k entry)
  write_some r k new more k-is new-is = (
    omega (arith, ap length more, length-append front (r ∷ [])),
    new-is ∙ ap (λ (t : List Record). set t n r) table_is ∙
        ap (λ i. set (take (length entry) front ++ drop i entry) i r) n-is ∙ set_front front entry r ∙
        (λ i. take (length entry) (sym more i) ++ drop (sym (k-is ∙ add-one n ∙ ap suc n-is) i) entry),
  )

  pub write_none : (k : ℕ) (new : List Record) → next ≡ front ++ [] → k ≡ n → new ≡ table → (k ≡ length next) × (new ≡ take (length entry) next ++ drop k entry)
  write_none k new same k-is new-is =
      let stays = same ∙ append-nil front in
      (k-is ∙ n-is ∙ ap length (sym stays), new-is ∙ table_is ∙ (λ i. take (length entry) (sym stays i) ++ drop (sym k-is i) entry))

-- the records of all flows
pub list_all : {C : Type 0} (m : Meaning C) (c : C) (w : Window) (level n : ℕ) → length (listed w.marks) ≤ n → listing (estimate_in m (windowed m c w) w.layout.plan) level (flows (take n (listed w.marks))) ≡ list_in m (windowed m c w) w.layout.plan level
list_all m c w level n past =
    ap (λ (ms : List Mark). listing (estimate_in m (windowed m c w) w.layout.plan) level (flows ms)) (take_all n (listed w.marks) past ∙ sym (take-append-drop w.marks.previous (listed w.marks)))

-- a level that a plan takes is three units or more
pub level_high : (p : Plan) (level : ℕ) → ◌≡◌ {A = Answer (Unit {0})} (answered tt) (level_judged p level) → 3 * unit_of p ≤ level
level_high p level = by (ltb level (3 * unit_of p)) refl
  where
    by : (b : Bool) → ltb level (3 * unit_of p) ≡ b → ◌≡◌ {A = Answer (Unit {0})} (answered tt) (cond b (refused 11) (answered tt)) → 3 * unit_of p ≤ level
    by true e h = cc
    by false e h = ltb-false level (3 * unit_of p) e

module _ {C : Type 0} (m : Meaning C) (s : State m.Model) (p : Plan) (level : ℕ) where
  -- a list that was written keeps the guarantee
  pub list_right : s.plan ≡ Some p → 3 * unit_of p ≤ level → (l : Ledger) → Holds m s l → ListsUnder l.plan l.roll level (list_in m s p level)
  list_right is high l h =
      let by' : l.plan ≡ Some p = sym h.plan_is ∙ is in
      let kept = subst (λ (o : Option Plan). Kept m o s l) by' h.kept in
      subst (λ (o : Option Plan). ListsUnder o l.roll level (list_in m s p level)) (sym by') (lists m s p kept.0 l.roll kept.1 level high)

pub taken-front : (rs table : List Record) (n : ℕ) → n ≡ length rs → take n (rs ++ table) ≡ rs
taken-front rs table n e =
    let le : n ≤ length rs = omega arith in
    take-append-le n rs table le ∙ take_all n rs (omega arith)

-- all marks find room
pub marks_within : {C : Type 0} (m : Meaning C) (c : C) (o : Option Window) → length ((state_in m c o).older ++ (state_in m c o).newer) ≤ most_marks
marks_within m c None = omega arith
marks_within m c (Some w) = omega (arith, ap length (take-append-drop w.marks.previous w.marks.marks.items), w.marks.few)

-- areas that are longer than every list needs change no answer
list_capped : {C : Type 0} (m : Meaning C) (s : State m.Model) (o : Option Plan) (level scratch table x y : ℕ) → x ≡ min scratch least_scratch → y ≡ min table most_marks →
    length (s.older ++ s.newer) ≤ most_marks → list_for m o s level x y ≡ list_for m o s level scratch table
list_capped m s None level scratch table x y x-is y-is few = refl
list_capped m s (Some p) level scratch table x y x-is y-is few =
    let short : length (list_in m s p level) ≤ most_marks = omega (arith, list_few m s p level, few) in
    λ i. cond (ltb level (3 * unit_of p)) (refused 11) (cond (capped scratch least_scratch x least_scratch x-is (omega arith) i) (refused 12) (cond (capped table most_marks y (length (list_in m s p level)) y-is short i) (refused 13) (answered (list_in m s p level))))
  where
    capped : (a top x n : ℕ) → x ≡ min a top → n ≤ top → ltb x n ≡ ltb a n
    capped a top x n is le = grind (arith, nat_tests)

-- a list is refused as the count of its records is
refused_by : (a : Answer (List Record)) (n : ℕ) → refused n ≡ count_of a → refused n ≡ a
refused_by (answered rs) n e = cc
refused_by (refused k) n e = cc

-- a list that is lent parts of such areas is refused as with the areas
pub refused_capped : {C : Type 0} (m : Meaning C) (s : State m.Model) (level scratch table n x y : ℕ) (bytes : List ℕ) (records : List Record) → x ≡ min scratch least_scratch → y ≡ min table most_marks →
    length bytes ≡ least_scratch → length records ≡ most_marks → length (s.older ++ s.newer) ≤ most_marks →
    refused n ≡ count_of (list_answer m s level (length (take x bytes)) (length (take y records))) → refused n ≡ list_answer m s level scratch table
refused_capped m s level scratch table n x y bytes records x-is y-is long full few e =
    let a : length (take x bytes) ≡ min scratch least_scratch = grind (arith, length-take x bytes) in
    let b : length (take y records) ≡ min table most_marks = grind (arith, length-take y records) in
    refused_by (list_answer m s level scratch table) n (e ∙ ap count_of (list_capped m s s.plan level scratch table (length (take x bytes)) (length (take y records)) a b few))
