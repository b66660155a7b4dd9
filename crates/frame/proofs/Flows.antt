-- The flows that have a mark: each once.
use Rattle.std.proofs.Common.{◌≡◌, ℕ, suc, ◌+◌, ◌*◌, ◌<◌, ◌≤◌, Bool, true, false, cond, not, ◌||◌, ltb, List, [], ◌∷◌, ◌++◌, length, get_or, take, reverse, Option, sym, refl, ap, ◌∙◌, ⊎_elim, one-mul, zero-mul, arith}
use Rattle.std.specs.Bool.{then_some}
use Rattle.std.specs.Option.{option_to_list}
use Rattle.std.specs.List.{AllByRecursion, list_any}
use Rattle.std.proofs.lemmas.List.{reverse-append, take_more, get_or_default}
use Rattle.std.proofs.lemmas.List.Folds.{list_any-append}
use Rattle.std.proofs.lemmas.Bool.{cases_Bool}
use Rattle.std.proofs.lemmas.Bool.Decides.{nat_tests}
use Rattle.flow.specs.declared.code.Code.{Code}
use Rattle.flow.specs.Codes.{same}
use Rattle.flow.specs.Meanings.{Distinct, sum_of}
use Rattle.flow.proofs.Codes.{same_true, same_from, same_sym}
use Rattle.frame.specs.declared.marks.Mark.{Mark}
use Rattle.frame.specs.Marking.{marks_of, without, times, flows}
use Rattle.frame.proofs.Counting.{marks_more}

without-append : (k : Code) (xs ys : List Code) → without k (xs ++ ys) ≡ without k xs ++ without k ys
without-append k [] ys = refl
without-append k (x ∷ xs) ys = by (same x k) (without-append k xs ys)
  where
    by : (b : Bool) → without k (xs ++ ys) ≡ without k xs ++ without k ys → cond b (without k (xs ++ ys)) (x ∷ without k (xs ++ ys)) ≡ cond b (without k xs) (x ∷ without k xs) ++ without k ys
    by true e = e
    by false e = ap (λ (zs : List Code). x ∷ zs) e

-- one mark more
pub flows-push : (m : Mark) (ms : List Mark) → flows (ms ++ m ∷ []) ≡ flows ms ++ cond (ltb 0 (marks_of m.code ms)) [] (m.code ∷ [])
flows-push m [] = refl
flows-push m (x ∷ xs) =
    ap (λ (cs : List Code). x.code ∷ without x.code cs) (flows-push m xs) ∙
    ap (λ (cs : List Code). x.code ∷ cs) (without-append x.code (flows xs) (cond (ltb 0 (marks_of m.code xs)) [] (m.code ∷ []))) ∙
    ap (λ (cs : List Code). x.code ∷ (without x.code (flows xs) ++ cs)) (by (ltb 0 (marks_of m.code xs)) refl (same m.code x.code) refl)
  where
    more : marks_of m.code (x ∷ xs) ≡ cond (same x.code m.code) 1 0 + marks_of m.code xs
    more = marks_more m.code x xs

    swap : same x.code m.code ≡ same m.code x.code
    swap = same_sym x.code m.code

    has : (b : Bool) → ltb 0 (marks_of m.code (x ∷ xs)) ≡ b → cond b [] (m.code ∷ []) ≡ cond (ltb 0 (marks_of m.code (x ∷ xs))) [] (m.code ∷ [])
    has b e = ap (λ (v : Bool). cond v [] (m.code ∷ [])) (sym e)

    by : (b : Bool) → ltb 0 (marks_of m.code xs) ≡ b → (s : Bool) → same m.code x.code ≡ s → without x.code (cond b [] (m.code ∷ [])) ≡ cond (ltb 0 (marks_of m.code (x ∷ xs))) [] (m.code ∷ [])
    by true e s f = has true (let g = more in grind (arith, nat_tests))
    by false e true f = ap (λ (v : Bool). cond v [] (m.code ∷ [])) f ∙ has true (let g = more in let h = swap in grind (arith, nat_tests))
    by false e false f = ap (λ (v : Bool). cond v [] (m.code ∷ [])) f ∙ has false (let g = more in let h = swap in grind (arith, nat_tests))

times-without : (j k : Code) (cs : List Code) → times k (without j cs) ≡ cond (same j k) 0 (times k cs)
times-without j k [] = by (same j k)
  where
    by : (b : Bool) → ◌≡◌ {A = ℕ} 0 (cond b 0 0)
    by true = refl
    by false = refl
times-without j k (c ∷ cs) = by (same c j) refl (times-without j k cs)
  where
    by : (b : Bool) → same c j ≡ b → times k (without j cs) ≡ cond (same j k) 0 (times k cs) → times k (cond b (without j cs) (c ∷ without j cs)) ≡ cond (same j k) 0 (cond (same c k) 1 0 + times k cs)
    by true e ih = let s = ap (λ (x : Code). same x k) (same_true c j e) in grind (arith, nat_tests)
    by false e ih = ⊎_elim (λ s. let u = ap (same c) (same_true j k s) in grind (arith, nat_tests)) (λ s. grind (arith, nat_tests)) (cases_Bool (same j k))

-- a flow stands among them once if it has a mark, and else not at all
pub flows_once : (k : Code) (ms : List Mark) → times k (flows ms) ≡ cond (ltb 0 (marks_of k ms)) 1 0
flows_once k [] = refl
flows_once k (m ∷ ms) = let ih = flows_once k ms in let w = times-without m.code k (flows ms) in let more = marks_more k m ms in grind (arith, nat_tests)

every_without : (P : Code → Type 0) (k : Code) (cs : List Code) → AllByRecursion P cs → AllByRecursion P (without k cs)
every_without P k [] h = tt
every_without P k (c ∷ cs) h = by (same c k) (every_without P k cs h.1)
  where
    by : (b : Bool) → AllByRecursion P (without k cs) → AllByRecursion P (cond b (without k cs) (c ∷ without k cs))
    by true rest = rest
    by false rest = (h.0, rest)

without_apart : (k : Code) (cs : List Code) → AllByRecursion (λ c. k ≡ c → ⊥) (without k cs)
without_apart k [] = tt
without_apart k (c ∷ cs) = by (same c k) refl (without_apart k cs)
  where
    by : (b : Bool) → same c k ≡ b → AllByRecursion (λ x. k ≡ x → ⊥) (without k cs) → AllByRecursion (λ x. k ≡ x → ⊥) (cond b (without k cs) (c ∷ without k cs))
    by true e rest = rest
    by false e rest = ((λ h. let s = same_from c k (sym h) in grind (arith, nat_tests)), rest)

distinct_without : (k : Code) (cs : List Code) → Distinct cs → Distinct (without k cs)
distinct_without k [] d = tt
distinct_without k (c ∷ cs) d = by (same c k) (distinct_without k cs d.1)
  where
    by : (b : Bool) → Distinct (without k cs) → Distinct (cond b (without k cs) (c ∷ without k cs))
    by true rest = rest
    by false rest = (every_without (λ y. c ≡ y → ⊥) k cs d.0, rest)

pub flows_distinct : (ms : List Mark) → Distinct (flows ms)
flows_distinct [] = tt
flows_distinct (m ∷ ms) = (without_apart m.code (flows ms), distinct_without m.code (flows ms) (flows_distinct ms))

-- what holds of every flow with a mark holds of each of them
pub flows_every : (P : Code → Type 0) (ms : List Mark) → ((k : Code) → 1 ≤ marks_of k ms → P k) → AllByRecursion P (flows ms)
flows_every P [] f = tt
flows_every P (m ∷ ms) f =
    let own = marks_more m.code m ms in
    let is = same_from m.code m.code refl in
    (f m.code (grind (arith, nat_tests)), every_without P m.code (flows ms) (flows_every P ms (λ k h. f k (omega (arith, marks_more k m ms)))))

length_without : (k : Code) (cs : List Code) → length (without k cs) ≤ length cs
length_without k [] = omega arith
length_without k (c ∷ cs) = by (same c k) (length_without k cs)
  where
    by : (b : Bool) → length (without k cs) ≤ length cs → length (cond b (without k cs) (c ∷ without k cs)) ≤ suc (length cs)
    by true ih = omega arith
    by false ih = omega arith

pub flows_few : (ms : List Mark) → length (flows ms) ≤ length ms
flows_few [] = omega arith
flows_few (m ∷ ms) = omega (arith, length_without m.code (flows ms), flows_few ms)

sum_without : (f : Code → ℕ) (k : Code) (cs : List Code) → sum_of f (without k cs) + times k cs * f k ≡ sum_of f cs
sum_without f k [] = omega (arith, zero-mul (f k))
sum_without f k (c ∷ cs) = by (same c k) refl (sum_without f k cs)
  where
    by : (b : Bool) → same c k ≡ b → sum_of f (without k cs) + times k cs * f k ≡ sum_of f cs → sum_of f (cond b (without k cs) (c ∷ without k cs)) + (cond b 1 0 + times k cs) * f k ≡ f c + sum_of f cs
    by true e ih = omega (arith, ap f (same_true c k e), one_more (times k cs) (f k))
      where
        one_more : (n x : ℕ) → (1 + n) * x ≡ x + n * x
        one_more n x = omega (arith, one-mul x)
    by false e ih = omega (arith, ap (λ n. n * f k) (zero_more (times k cs)))
      where
        zero_more : (n : ℕ) → 0 + n ≡ n
        zero_more n = omega arith

sum_more : (m : Mark) (ms : List Mark) (cs : List Code) → sum_of (λ c. marks_of c (m ∷ ms)) cs ≡ sum_of (λ c. marks_of c ms) cs + times m.code cs
sum_more m ms [] = omega arith
sum_more m ms (c ∷ cs) = omega (arith, sum_more m ms cs, marks_more c m ms, ap {B = ℕ} (λ (b : Bool). cond b 1 0) (same_sym m.code c))

-- the marks of all flows are all marks
pub flows_sum : (ms : List Mark) → sum_of (λ c. marks_of c ms) (flows ms) ≡ length ms
flows_sum [] = refl
flows_sum (m ∷ ms) =
    let f : Code → ℕ = λ c. marks_of c ms in
    let n = marks_of m.code ms in
    let one = flows_once m.code (m ∷ ms) in
    let here : 0 < marks_of m.code (m ∷ ms) = let own = marks_more m.code m ms in let is = same_from m.code m.code refl in grind (arith, nat_tests) in
    let once : times m.code (flows (m ∷ ms)) ≡ 1 = grind (arith, nat_tests) in
    let rest = sum_without f m.code (flows ms) in
    let own = marked (times m.code (flows ms)) n (flows_once m.code ms) in
    omega (arith, sum_more m ms (flows (m ∷ ms)), rest, own, flows_sum ms)
  where
    marked : (t n : ℕ) → t ≡ cond (ltb 0 n) 1 0 → t * n ≡ n
    marked t n e = ⊎_elim
        (λ b. let one : t ≡ 1 = grind (arith, nat_tests) in ap (λ x. x * n) one ∙ one-mul n)
        (λ b. let zero : n ≡ 0 = grind (arith, nat_tests) in let none : t ≡ 0 = grind (arith, nat_tests) in ap (λ x. x * n) none ∙ zero-mul n ∙ sym zero)
        (cases_Bool (ltb 0 n))

-- a search from the back finds what one from the front finds
pub any_reverse : (p : Mark → Bool) (ms : List Mark) → list_any p (reverse ms) ≡ list_any p ms
any_reverse p [] = refl
any_reverse p (m ∷ ms) =
    ap (list_any p) (reverse-append (m ∷ []) ms) ∙ list_any-append p (reverse ms) (m ∷ []) ∙ ap (λ (b : Bool). b || list_any p (m ∷ [])) (any_reverse p ms) ∙ last (list_any p ms) (p m)
  where
    last : (a b : Bool) → (a || (b || false)) ≡ (b || a)
    last true true = refl
    last true false = refl
    last false true = refl
    last false false = refl

-- whether a code has a mark
has_mark : (k : Code) (ms : List Mark) → list_any (λ m. same m.code k) ms ≡ ltb 0 (marks_of k ms)
has_mark k [] = refl
has_mark k (m ∷ ms) = let ih = has_mark k ms in let more = marks_more k m ms in grind (arith, nat_tests)

-- whether a code is among others
has_code : (k : Code) (cs : List Code) → list_any (λ c. same c k) cs ≡ ltb 0 (times k cs)
has_code k [] = refl
has_code k (c ∷ cs) = let ih = has_code k cs in grind (arith, nat_tests)

-- whether a code is among the flows that have a mark
has_flow : (k : Code) (ms : List Mark) → list_any (λ c. same c k) (flows ms) ≡ ltb 0 (marks_of k ms)
has_flow k ms = let once = flows_once k ms in let has = has_code k (flows ms) in grind (arith, nat_tests)

-- the flows with those of one mark more
flows_more : (ms : List Mark) (p : ℕ) (x : Mark) (seen : Bool) → p < length ms → x ≡ get_or ms p x → seen ≡ ltb 0 (marks_of x.code (take p ms)) → flows (take (p + 1) ms) ≡ flows (take p ms) ++ cond seen [] (x.code ∷ [])
flows_more ms p x seen within here seen-is =
    ap flows (take_more ms p x within ∙ ap (λ (m : Mark). take p ms ++ m ∷ []) (sym here)) ∙ flows-push x (take p ms) ∙
    ap (λ (b : Bool). flows (take p ms) ++ cond b [] (x.code ∷ [])) (sym seen-is)

-- the flows so far, with the code of the mark at a place unless it is among them
pub flows_seen : (ms : List Mark) (p : ℕ) (d : Mark) (cs : List Code) (seen : Bool) → cs ≡ flows (take p ms) → p < length ms → seen ≡ list_any (λ c. same c (get_or ms p d).code) cs → cs ++ cond seen [] ((get_or ms p d).code ∷ []) ≡ flows (take (p + 1) ms)
flows_seen ms p d cs seen so_far within seen-is =
    let x = get_or ms p d in
    let is : seen ≡ ltb 0 (marks_of x.code (take p ms)) = seen-is ∙ ap (list_any (λ c. same c x.code)) so_far ∙ has_flow x.code (take p ms) in
    ap (λ (ks : List Code). ks ++ cond seen [] (x.code ∷ [])) so_far ∙ sym (flows_more ms p x seen within (get_or_default ms p d x within) is)

-- the mark x at a place names its flow, unless one before it was seen to be of that flow
pub flow_next : (ms : List Mark) (p : ℕ) (x : Mark) (seen : Bool) (o : Option Code) → p < length ms → x ≡ get_or ms p x → seen ≡ list_any (λ m. same m.code x.code) (take p ms) → o ≡ then_some (not seen) x.code →
    flows (take (p + 1) ms) ≡ flows (take p ms) ++ option_to_list o
flow_next ms p x seen o within here seen-is o-is =
    flows_more ms p x seen within here (seen-is ∙ has_mark x.code (take p ms)) ∙ ap (λ (cs : List Code). flows (take p ms) ++ cs) (told seen ∙ ap option_to_list (sym o-is))
  where
    told : (b : Bool) → cond b [] (x.code ∷ []) ≡ option_to_list (then_some (not b) x.code)
    told true = refl
    told false = refl
