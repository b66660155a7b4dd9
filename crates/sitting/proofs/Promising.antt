-- The guarantee over a whole tape, from what each turn keeps.
use Rattle.std.proofs.Common.{◌≡◌, ℕ, ◌+◌, ◌<◌, ◌≤◌, ◌⊎◌, Bool, true, false, cond, ltb, List, ◌∷◌, ◌++◌, length, take, Option, refl, ap, sym, ◌∙◌, subst, inl, inr, zero-add, arith, zero, suc}
use Rattle.std.proofs.Math.Seq.{take-append_seam}
use Rattle.flow.specs.Answers.{Answer, answered, refused, answer_map}
use Rattle.flow.specs.Limits.{least_text, most_tape}
use Rattle.flow.specs.Meanings.{Meaning, Opens, Flushes, Adds, Heavy}
use Rattle.flow.specs.declared.code.Code.{Code}
use Rattle.meter.specs.declared.day.Areas.{Areas}
use Rattle.meter.specs.declared.record.Record.{Record}
use Rattle.meter.specs.Holding.{Holds}
use Rattle.meter.specs.Ledgers.{Ledger, fresh, level_verdict}
use Rattle.meter.specs.Sequences.{call_said}
use Rattle.meter.specs.States.{State, unplanned}
use Rattle.meter.proofs.Dailies.{call_right, call_holds}
use Rattle.meter.proofs.Holdings.{new_holds}
use Rattle.tape.specs.declared.command.Command.{Command}
use Rattle.tape.specs.Readings.{Found, found, stopped, next_command}
use Rattle.tape.proofs.Ahead.{ahead}
use Rattle.sitting.specs.declared.reply.Reply.TheVariants as reply
use Rattle.sitting.specs.declared.stage.Stage.{Stage}
use Rattle.sitting.specs.declared.stage.Stage.TheVariants as stage
use Rattle.sitting.specs.Courses.{Course, begun, Ask, calls, sets, closes, asked}
use Rattle.sitting.specs.Lines.{last_line}
use Rattle.sitting.specs.Turns.{outcome_text, Turn, unless_done, answer_of, meter_after, turned, next_turn, course_left, Follows}
use Rattle.frame.specs.declared.plan.Plan.{Plan}
use Rattle.sitting.specs.Markings.{ledger_after, with_ledger, ledger_at, AnswerRight, is_over, OutcomeRight, after_outcome, weights_taken, ledger_left, PrintsRight, Outcomes, Marked}
use Rattle.sitting.specs.Tapes.{most_turns, lines_text, ending_of, outcomes_of, turns_from, turns, ended, tape_turns, tape_text}
use Rattle.sitting.proofs.Tallying.{Tallied, none_tallied, more_tallied, turn_tallied}

module _ {C : Type 0} (m : Meaning C) (opens : Opens m) (flushes : Flushes m) (adds : Adds m) (heavy : Heavy m) where
  answer_right : (s : State m.Model) (l : Ledger) (c : Command (List ℕ)) (q : Answer Ask) → Holds m s l → AnswerRight l c q (answer_of m s c q)
  answer_right s l c (answered (calls q)) h = (call_said (λ k. k) m s q, call_right m opens flushes adds heavy (λ k. k) s l q h, refl)
  answer_right s l c (answered (sets x)) h = ap (λ (o : Option Plan). answer_map (λ y. reply.LevelSet x) (level_verdict o x)) h.plan_is
  answer_right s l c (answered closes) h = refl
  answer_right s l c (refused n) h = refl

  asked_holds : (s : State m.Model) (l : Ledger) (q : Answer Ask) → Holds m s l → Holds m (meter_after m s q) (ledger_after l q)
  asked_holds s l (answered (calls q)) h = call_holds m opens flushes adds heavy (λ k. k) s l q h
  asked_holds s l (answered (sets x)) h = h
  asked_holds s l (answered closes) h = h
  asked_holds s l (refused n) h = h

  module _ (spelled : List ℕ → Option Code) (areas : Areas) where
    turn_holds : (s : Course (State m.Model)) (l : Ledger) (f : Found) → Holds m s.meter l → Holds m (turned m spelled s areas f).after.meter (ledger_at spelled areas l s.stage f)
    turn_holds s l (found offset c end) h = asked_holds s.meter l (asked spelled areas s.stage c) h
    turn_holds s l (stopped n offset) h = h

    outcome_right : (s : Course (State m.Model)) (l : Ledger) (f : Found) → Holds m s.meter l → OutcomeRight spelled areas (with_ledger s l) f (turned m spelled s areas f).outcome
    outcome_right s l (found offset c end) h = (refl, answer_right s.meter l c (asked spelled areas s.stage c) h)
    outcome_right s l (stopped n offset) h = refl

    outcome_after : (s : Course (State m.Model)) (l : Ledger) (f : Found) →
        with_ledger (turned m spelled s areas f).after (ledger_at spelled areas l s.stage f) ≡ after_outcome spelled areas (with_ledger s l) f (turned m spelled s areas f).outcome
    outcome_after s l (found offset c end) = refl
    outcome_after s l (stopped n offset) = refl

    module _ (key_bytes key_kind counter_kind : ℕ) (tape : List ℕ) (text : ℕ) where
      abbrev here : Course (State m.Model) → Found
      here s = next_command key_bytes key_kind counter_kind s.place tape

      abbrev next : Course (State m.Model) → Answer (Turn (State m.Model))
      next s = next_turn m spelled key_bytes key_kind counter_kind s tape text areas

      -- a sitting is over, and then no turn is taken, or it goes on
      goes_on : (s : Course (State m.Model)) →
          ((is_over text s.stage ≡ true) × ((n : ℕ) × (next s ≡ refused n))) ⊎
          ((is_over text s.stage ≡ false) × (next s ≡ answered (turned m spelled s areas (here s))))
      goes_on s = by s.stage (ltb text least_text) refl (turned m spelled s areas (here s))
        where
          by : (g : Stage) (b : Bool) → ltb text least_text ≡ b → (t : Turn (State m.Model)) →
              ((is_over text g ≡ true) × ((n : ℕ) × (cond b (refused 18) (unless_done g t) ≡ refused n))) ⊎
              ((is_over text g ≡ false) × (cond b (refused 18) (unless_done g t) ≡ answered t))
          by stage.Unplanned true e t = inl (e, (18, refl))
          by stage.Unplanned false e t = inr (e, refl)
          by (stage.Planned s) true e t = inl (e, (18, refl))
          by (stage.Planned s) false e t = inr (e, refl)
          by (stage.Done x) true e t = inl (refl, (18, refl))
          by (stage.Done x) false e t = inl (refl, (17, refl))

      -- whatever stands on the tape, the meter after the next turn is what the ledger after it says
      pub next_holds : (s later : Course (State m.Model)) (l : Ledger) → later ≡ course_left (next s) s → Holds m s.meter l →
          Holds m later.meter (ledger_left spelled areas key_bytes key_kind counter_kind tape s (next s) l)
      next_holds s later l is h =
          subst (λ (c : Course (State m.Model)). Holds m c.meter (ledger_left spelled areas key_bytes key_kind counter_kind tape s (next s) l)) (sym is)
          (elim (goes_on s) [
            | inl (over, (n, e)) ↦ subst Held (sym e) h
            | inr (on, e) ↦ subst Held (sym e) (turn_holds s l (here s) h)
          ])
        where
          Held : Answer (Turn (State m.Model)) → Type 0
          Held a = Holds m (course_left a s).meter (ledger_left spelled areas key_bytes key_kind counter_kind tape s a l)

      -- a turn that was printed in front of the text is right
      pub prints_right : (s : Course (State m.Model)) (l : Ledger) (place : ℕ) (f : Found) → place ≡ s.place → f ≡ next_command key_bytes key_kind counter_kind place tape →
          {n : ℕ} {s' : Course (State m.Model)} {before now scratch scratch' : List ℕ} {table table' : List Record} →
          Follows (answered (turned m spelled s areas f)) (answered n) s s' before now scratch scratch' table table' → Holds m s.meter l →
          PrintsRight spelled areas key_bytes key_kind counter_kind tape (with_ledger s l) (take n now)
      prints_right s l place f same is {n} {s'} {before} {now} follows h =
          let t = (turned m spelled s areas f).outcome in
          let bytes : n ≡ length (outcome_text t) = let e = follows.answer_is in cc in (
            t,
            subst (λ (x : Found). OutcomeRight spelled areas (with_ledger s l) x t) (is ∙ ap (λ (x : ℕ). next_command key_bytes key_kind counter_kind x tape) same) (outcome_right s l f h),
            ap (λ (k : ℕ). take k now) bytes ∙ ap (take (length (outcome_text t))) follows.text_is ∙ take-append_seam (outcome_text t) _,
          )

      -- so many turns are enough
      Enough : ℕ → Course (State m.Model) → Type 0
      Enough n s = (is_over text s.stage ≡ true) ⊎ (((s.place ≤ most_tape) × (most_tape < s.place + n)) ⊎ ((s.place ≡ 0) × (most_tape < 2 + n)))

      still_enough : (n : ℕ) (s : Course (State m.Model)) (f : Found) → here s ≡ f → Enough (suc n) s → is_over text s.stage ≡ false → Enough n (turned m spelled s areas f).after
      unfolding Enough
      still_enough n s (found offset c end) is (inl over) on = cc
      still_enough n s (found offset c end) is (inr room) on =
          let h = ahead key_bytes key_kind counter_kind s.place tape offset c end is in
          elim room [
            | inl r ↦ inr (inl (h.1, omega (arith, h.0, r.1)))
            | inr r ↦ inr (inl (h.1, omega (arith, h.2 r.0, r.1)))
          ]
      still_enough n s (stopped k offset) is room on = inl refl

      abbrev the_turns : ℕ → Course (State m.Model) → List (Turn (State m.Model))
      the_turns n s = turns spelled areas key_bytes key_kind counter_kind tape text m n s

      -- turns from a course on print what is right under a ledger
      Prints : Course (State m.Model) → Ledger → List (Turn (State m.Model)) → Type 0
      Prints s l ts = (e : Ledger) × Outcomes spelled areas key_bytes key_kind counter_kind tape text (with_ledger s l) (outcomes_of ts) (with_ledger (ended s ts) e)

      prints_more : (s : Course (State m.Model)) (l : Ledger) (ts : List (Turn (State m.Model))) → Holds m s.meter l → is_over text s.stage ≡ false →
          Prints (turned m spelled s areas (here s)).after (ledger_at spelled areas l s.stage (here s)) ts → Prints s l (turned m spelled s areas (here s) ∷ ts)
      unfolding Prints
      prints_more s l ts h on (e, rest) =
          let last = with_ledger (ended (turned m spelled s areas (here s)).after ts) e in
          let more = subst (λ (c : Course Ledger). Outcomes spelled areas key_bytes key_kind counter_kind tape text c (outcomes_of ts) last) (outcome_after s l (here s)) rest in
          (e, (on, outcome_right s l (here s) h, more))

      outcomes : (n : ℕ) (s : Course (State m.Model)) (l : Ledger) → Holds m s.meter l → Enough n s → Prints s l (the_turns n s)
      unfolding Prints Enough turns
      outcomes zero s l h (inl over) = (l, (over, refl))
      outcomes zero s l h (inr (inl r)) = absurd (omega (arith, r.0, r.1))
      outcomes zero s l h (inr (inr r)) = absurd (omega (arith, r.1))
      outcomes (suc n) s l h room = elim (goes_on s) [
        | inl (over, (k, e)) ↦ subst (λ (a : Answer (Turn (State m.Model))). Prints s l (turns_from (the_turns n) a)) (sym e) (l, (over, refl))
        | inr (on, e) ↦ subst (λ (a : Answer (Turn (State m.Model))). Prints s l (turns_from (the_turns n) a)) (sym e)
            (prints_more s l (the_turns n (turned m spelled s areas (here s)).after) h on
            (outcomes n (turned m spelled s areas (here s)).after (ledger_at spelled areas l s.stage (here s)) (turn_holds s l (here s) h) (still_enough n s (here s) refl room on)))
      ]

      AllTallied : Course (State m.Model) → List (Turn (State m.Model)) → Type 0
      AllTallied s ts = let last = ended s ts in Tallied s.packets s.volume (weights_taken key_bytes tape (outcomes_of ts)) last.packets last.volume

      all_tallied : (n : ℕ) (s : Course (State m.Model)) → AllTallied s (the_turns n s)
      unfolding AllTallied turns
      all_tallied zero s = none_tallied s.packets s.volume
      all_tallied (suc n) s = elim (goes_on s) [
        | inl (over, (k, e)) ↦ subst (λ (a : Answer (Turn (State m.Model))). AllTallied s (turns_from (the_turns n) a)) (sym e) (none_tallied s.packets s.volume)
        | inr (on, e) ↦ subst (λ (a : Answer (Turn (State m.Model))). AllTallied s (turns_from (the_turns n) a)) (sym e)
            (more_tallied _ _ (turn_tallied m spelled areas key_bytes key_kind counter_kind tape s (here s) refl) (all_tallied n (turned m spelled s areas (here s)).after))
      ]

      -- the whole guarantee
      pub marked : (x : m.Model) → Marked spelled areas key_bytes key_kind counter_kind tape text (m.greatest x) (tape_text spelled areas key_bytes key_kind counter_kind tape text m x)
      unfolding Prints Enough AllTallied
      marked x =
          let r = outcomes most_turns (begun (unplanned x)) (fresh (m.greatest x)) (new_holds m x) (inr (inr (refl, omega arith))) in
          let ts = tape_turns spelled areas key_bytes key_kind counter_kind tape text m x in
          let last = ended (begun (unplanned x)) ts in
          let sums = all_tallied most_turns (begun (unplanned x)) in (
            outcomes_of ts,
            with_ledger last r.0,
            r.1,
            λ i. lines_text (outcomes_of ts) ++ last_line (ending_of last.stage) ((sums.packets_are ∙ zero-add _) i) ((sums.volume_is ∙ zero-add _) i),
          )
