-- When a turn is taken, and what it tells and leaves then.
use Rattle.std.proofs.Common.{◌≡◌, ℕ, ◌≤◌, false, List, Option, refl, ap, sym, ◌∙◌, subst, ltb, arith}
use Rattle.std.proofs.lemmas.Bool.{cond-false}
use Rattle.std.proofs.lemmas.Bool.Decides.{nat_tests}
use Rattle.flow.specs.Answers.{Answer, answered}
use Rattle.flow.specs.Limits.{least_text}
use Rattle.flow.specs.Meanings.{Meaning}
use Rattle.flow.specs.declared.code.Code.{Code}
use Rattle.meter.specs.declared.day.Areas.{Areas}
use Rattle.meter.specs.declared.record.Record.{Record}
use Rattle.meter.specs.States.{State}
use Rattle.tape.specs.Readings.{Found, next_command}
use Rattle.sitting.specs.declared.ending.Ending.{Ending}
use Rattle.sitting.specs.declared.stage.Stage.{Stage}
use Rattle.sitting.specs.declared.stage.Stage.TheVariants as stage
use Rattle.sitting.specs.Courses.{Course}
use Rattle.sitting.specs.Turns.{Turn, unless_done, turned, next_turn, Follows}

not_done : {A : Type 0} (s : Stage) (a : A) → ((e : Ending) → s ≡ stage.Done e → ⊥) → unless_done s a ≡ answered a
not_done stage.Unplanned a going = refl
not_done (stage.Planned s) a going = refl
not_done (stage.Done e) a going = absurd (going e refl)

-- where the text area is long enough and the sitting is not done, what stands on the tape decides
pub turn_taken : {C : Type 0} (m : Meaning C) (spelled : List ℕ → Option Code) (key_bytes key_kind counter_kind : ℕ)
    (s : Course (State m.Model)) (tape : List ℕ) (text : ℕ) (areas : Areas) (place : ℕ) (f : Found) →
    place ≡ s.place → f ≡ next_command key_bytes key_kind counter_kind place tape → least_text ≤ text → ((e : Ending) → s.stage ≡ stage.Done e → ⊥) →
    next_turn m spelled key_bytes key_kind counter_kind s tape text areas ≡ answered (turned m spelled s areas f)
turn_taken m spelled key_bytes key_kind counter_kind s tape text areas place f at is room going =
    let enough : ltb text least_text ≡ false = grind (arith, nat_tests) in
    let found : next_command key_bytes key_kind counter_kind s.place tape ≡ f = ap (λ (p : ℕ). next_command key_bytes key_kind counter_kind p tape) (sym at) ∙ sym is in
    cond-false (ltb text least_text) _ _ enough ∙ not_done s.stage _ going ∙ ap (λ (x : Found). answered (turned m spelled s areas x)) found

-- a call that follows a turn that was taken follows the next turn
pub follows_next : {M : Type 0} {a : Answer (Turn M)} {t : Turn M} {said : Answer ℕ} {s s' : Course M} {text text' scratch scratch' : List ℕ} {table table' : List Record} →
    a ≡ answered t → Follows (answered t) said s s' text text' scratch scratch' table table' → Follows a said s s' text text' scratch scratch' table table'
follows_next {M} {a} {t} {said} {s} {s'} {text} {text'} {scratch} {scratch'} {table} {table'} e f =
    subst (λ (b : Answer (Turn M)). Follows b said s s' text text' scratch scratch' table table') (sym e) f
