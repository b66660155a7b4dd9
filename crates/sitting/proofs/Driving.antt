-- Turn after turn: what was done, and what is left to do.
use Rattle.std.proofs.Common.{◌≡◌, ℕ, List, [], ◌∷◌, ◌++◌, length, take, drop, Option, Result, Ok, Err, refl, ap, sym, ◌∙◌, subst, append_assoc, append-nil, suc}
use Rattle.std.proofs.Math.Seq.{take-append_seam}
use Rattle.flow.specs.Answers.{Answer, answered, refused, answer_map, told}
use Rattle.flow.specs.Meanings.{Meaning}
use Rattle.flow.specs.Refusals.{number}
use Rattle.flow.specs.declared.code.Code.{Code}
use Rattle.flow.specs.declared.refusal.Refusal.{Refusal}
use Rattle.meter.specs.declared.day.Areas.{Areas}
use Rattle.meter.specs.declared.record.Record.{Record}
use Rattle.meter.specs.Holding.{Holds}
use Rattle.meter.specs.Ledgers.{Ledger}
use Rattle.meter.specs.States.{State, unplanned}
use Rattle.sitting.specs.declared.sitting.Sitting.{Sitting}
use Rattle.sitting.specs.Courses.{Course, begun}
use Rattle.sitting.specs.Turns.{outcome_text, Turn, next_turn, course_left, text_left, table_left, scratch_left, Follows}
use Rattle.sitting.specs.Sittings.{course_of, lent}
use Rattle.sitting.specs.Tapes.{most_turns, lines_text, last_text, outcomes_of, ended, left_by, Drives, turns_from, turns, tape_turns}

-- what a command printed: a turn was taken, or none
told_answered : {A : Type 0} (f : A → ℕ) (a : Answer A) (n : ℕ) → answered n ≡ answer_map f a → (x : A) × (a ≡ answered x) × (n ≡ f x)
told_answered f (answered x) n e = (x, refl, cc)
told_answered f (refused k) n e = cc

told_refused : {A : Type 0} (f : A → ℕ) (a : Answer A) (n : ℕ) → refused n ≡ answer_map f a → a ≡ refused n
told_refused f (answered x) n e = cc
told_refused f (refused k) n e = cc

-- how far a sitting has come: its course, its lines so far, and what each area holds
pub record Stand (M : Type 0) : Type 0 where
  pub course : Course M
  pub lines : List ℕ
  pub text : List ℕ
  pub scratch : List ℕ
  pub table : List Record

abbrev pub stand : {K C : Type 0} (m : Meaning C) → Sitting K C → (lines text scratch : List ℕ) → List Record → Stand (State m.Model)
stand m s lines text scratch table = record { course = course_of m s; lines = lines; text = text; scratch = scratch; table = table }

module _ {M : Type 0} where
  abbrev by_turn : Turn M → Stand M → Stand M
  by_turn t x = record {
    course = t.after;
    lines = x.lines ++ outcome_text t.outcome;
    text = text_left (answered t) x.text;
    scratch = scratch_left (answered t) x.scratch;
    table = table_left (answered t) x.table;
  }

  abbrev pub by_turns : List (Turn M) → Stand M → Stand M
  by_turns [] x = x
  by_turns (t ∷ ts) x = by_turns ts (by_turn t x)

  -- the lines of turns stand behind those before, and any other part is what the turns leave of it
  lines_by : (ts : List (Turn M)) (x : Stand M) → (by_turns ts x).lines ≡ x.lines ++ lines_text (outcomes_of ts)
  lines_by [] x = sym (append-nil x.lines)
  lines_by (t ∷ ts) x = lines_by ts (by_turn t x) ∙ append_assoc x.lines (outcome_text t.outcome) (lines_text (outcomes_of ts))

  part_by : {A : Type 0} (part : Stand M → A) (leaves : Answer (Turn M) → A → A) → ((t : Turn M) (x : Stand M) → part (by_turn t x) ≡ leaves (answered t) (part x)) →
      (ts : List (Turn M)) (x : Stand M) → part (by_turns ts x) ≡ left_by leaves ts (part x)
  part_by part leaves one [] x = refl
  part_by part leaves one (t ∷ ts) x = part_by part leaves one ts (by_turn t x) ∙ ap (left_by leaves ts) (one t x)

  pub drives : (ts : List (Turn M)) (x y : Stand M) → x.lines ≡ [] → y ≡ by_turns ts x →
      Drives ts x.course y.course y.lines x.text y.text x.scratch y.scratch x.table y.table
  drives ts x y none is =
      subst (λ (z : Stand M). Drives ts x.course z.course z.lines x.text z.text x.scratch z.scratch x.table z.table) (sym is)
      (record {
        lines_is = lines_by ts x ∙ ap (λ (lines : List ℕ). lines ++ lines_text (outcomes_of ts)) none;
        course_is = part_by (λ (z : Stand M). z.course) course_left (λ t z. refl) ts x;
        text_is = part_by (λ (z : Stand M). z.text) text_left (λ t z. refl) ts x;
        scratch_is = part_by (λ (z : Stand M). z.scratch) scratch_left (λ t z. refl) ts x;
        table_is = part_by (λ (z : Stand M). z.table) table_left (λ t z. refl) ts x;
      })

  -- a command said and left what its turn does
  abbrev pub Left : Answer (Turn M) → Answer ℕ → Stand M → Stand M → Type 0
  Left a said x y = Follows a said x.course y.course x.text y.text x.scratch y.scratch x.table y.table

  none_taken : (a : Answer (Turn M)) (said : Answer ℕ) (n : ℕ) (x y : Stand M) → a ≡ refused n → Left a said x y → y.lines ≡ x.lines → y ≡ x
  none_taken a said n x y e left same =
      let l = subst (λ (b : Answer (Turn M)). Left b said x y) e left in
      λ i. record { course = l.course_is i; lines = same i; text = l.text_is i; scratch = l.scratch_is i; table = l.table_is i }

  one_taken : (a : Answer (Turn M)) (said : Answer ℕ) (t : Turn M) (x y : Stand M) → a ≡ answered t → Left a said x y → y.lines ≡ x.lines ++ outcome_text t.outcome → y ≡ by_turn t x
  one_taken a said t x y e left more =
      let l = subst (λ (b : Answer (Turn M)). Left b said x y) e left in
      λ i. record { course = l.course_is i; lines = more i; text = l.text_is i; scratch = l.scratch_is i; table = l.table_is i }

  -- the line of a turn stands at the front of the text that it leaves
  front_outcome : (a : Answer (Turn M)) (said : Answer ℕ) (t : Turn M) (x y : Stand M) → a ≡ answered t → Left a said x y → take (length (outcome_text t.outcome)) y.text ≡ outcome_text t.outcome
  front_outcome a said t x y e left =
      let l = subst (λ (b : Answer (Turn M)). Left b said x y) e left in
      ap (take (length (outcome_text t.outcome))) l.text_is ∙ take-append_seam (outcome_text t.outcome) (drop (length (outcome_text t.outcome)) x.text)

module _ {C : Type 0} (m : Meaning C) (spelled : List ℕ → Option Code) (key_bytes key_kind counter_kind : ℕ) (tape : List ℕ) (first : Stand (State m.Model)) where
  abbrev left : ℕ → Course (State m.Model) → List (Turn (State m.Model))
  left n s = turns spelled (lent first.scratch first.table) key_bytes key_kind counter_kind tape (length first.text) m n s

  -- a sitting on its way, that may take so many turns more: they lead where all turns lead from the first
  pub record OnItsWay (n : ℕ) (now : Stand (State m.Model)) : Type 0 where
    pub ledger : Ledger
    pub holds : Holds m now.course.meter ledger
    pub rest_is : by_turns (left n now.course) now ≡ by_turns (left most_turns first.course) first

  pub way_ends : (n : ℕ) (now : Stand (State m.Model)) → n ≡ 0 → OnItsWay n now → now ≡ by_turns (left most_turns first.course) first
  unfolding turns
  way_ends n now none w = subst (λ (k : ℕ). by_turns (left k now.course) now ≡ by_turns (left most_turns first.course) first) none w.rest_is

  -- what a command said and left, by the next turn
  module _ (k n : ℕ) (k_is : k ≡ suc n) (now later : Stand (State m.Model)) (w : OnItsWay k now)
      (text_is : length now.text ≡ length first.text) (scratch_is : length now.scratch ≡ length first.scratch) (table_is : length now.table ≡ length first.table) where
    abbrev next : Answer (Turn (State m.Model))
    next = next_turn m spelled key_bytes key_kind counter_kind now.course tape (length now.text) (lent now.scratch now.table)

    rest_from : (a : Answer (Turn (State m.Model))) → next ≡ a → by_turns (turns_from (left n) a) now ≡ by_turns (left most_turns first.course) first
    unfolding turns
    rest_from a is =
        let at_first : next_turn m spelled key_bytes key_kind counter_kind now.course tape (length first.text) (lent first.scratch first.table) ≡ next =
        λ i. next_turn m spelled key_bytes key_kind counter_kind now.course tape (sym text_is i) (record { scratch = sym scratch_is i; table = sym table_is i }) in
        subst (λ (b : Answer (Turn (State m.Model))). by_turns (turns_from (left n) b) now ≡ by_turns (left most_turns first.course) first) (at_first ∙ is)
        (subst (λ (j : ℕ). by_turns (left j now.course) now ≡ by_turns (left most_turns first.course) first) k_is w.rest_is)

    module _ (r : Result ℕ Refusal) (leaves : Left next (told r) now later) where
      pub way_over : (e : Refusal) → r ≡ Err e → later.lines ≡ now.lines → later ≡ by_turns (left most_turns first.course) first
      way_over e is same =
          let none = told_refused (λ t. length (outcome_text t.outcome)) next (number e) (sym (ap told is) ∙ leaves.answer_is) in
          none_taken next (told r) (number e) now later none leaves same ∙ rest_from (refused (number e)) none

      pub way_goes_on : (bytes : ℕ) → r ≡ Ok bytes → later.lines ≡ now.lines ++ take bytes later.text → (l : Ledger) → Holds m later.course.meter l → OnItsWay n later
      way_goes_on bytes is lines_is l h =
          let (t, taken, bytes_is) = told_answered (λ (x : Turn (State m.Model)). length (outcome_text x.outcome)) next bytes (sym (ap told is) ∙ leaves.answer_is) in
          let front = ap (λ (b : ℕ). take b later.text) bytes_is ∙ front_outcome next (told r) t now later taken leaves in
          let one = one_taken next (told r) t now later taken leaves (lines_is ∙ ap (λ (x : List ℕ). now.lines ++ x) front) in
          record {
            ledger = l;
            holds = h;
            rest_is = ap (λ (x : Stand (State m.Model)). by_turns (left n x.course) x) one ∙ rest_from (answered t) taken;
          }

-- turns that begin on the course of a new sitting are those of the whole tape
pub whole_tape : {C : Type 0} (m : Meaning C) (spelled : List ℕ → Option Code) (areas : Areas) (key_bytes key_kind counter_kind : ℕ) (tape : List ℕ) (room : ℕ) (x : m.Model)
    {first last : Course (State m.Model)} {lines text text' scratch scratch' : List ℕ} {table table' : List Record} → first ≡ begun (unplanned x) →
    Drives (turns spelled areas key_bytes key_kind counter_kind tape room m most_turns first) first last lines text text' scratch scratch' table table' →
    Drives (tape_turns spelled areas key_bytes key_kind counter_kind tape room m x) (begun (unplanned x)) last lines text text' scratch scratch' table table'
whole_tape m spelled areas key_bytes key_kind counter_kind tape room x {first} {last} {lines} {text} {text'} {scratch} {scratch'} {table} {table'} is d =
    subst (λ (s : Course (State m.Model)). Drives (turns spelled areas key_bytes key_kind counter_kind tape room m most_turns s) s last lines text text' scratch scratch' table table') is d

-- the last line behind the others
pub lines_ended : {M : Type 0} {ts : List (Turn M)} {first last : Course M} {lines text text' scratch scratch' : List ℕ} {table table' : List Record} →
    Drives ts first last lines text text' scratch scratch' table table' → (whole end : List ℕ) → whole ≡ lines ++ end → end ≡ last_text last → whole ≡ lines_text (outcomes_of ts) ++ last_text (ended first ts)
lines_ended d whole end is end_is = is ∙ (λ i. d.lines_is i ++ (end_is ∙ ap last_text d.course_is) i)
