-- What the calls keep of a meter's state under a plan.
use Rattle.std.proofs.Common.{◌≡◌, ℕ, suc, ◌+◌, ◌-◌, ◌*◌, ◌/◌, ◌<◌, ◌≤◌, Bool, true, false, cond, eqb, ltb, ◌⊎◌, List, [], ◌∷◌, ◌++◌, length, sym, refl, ap, ◌∙◌, subst, inl, inr, ⊎_elim, arith}
use Rattle.std.specs.List.{AllByRecursion}
use Rattle.std.proofs.lemmas.Bool.{cases_Bool}
use Rattle.std.proofs.lemmas.Bool.Decides.{nat_tests}
use Rattle.flow.specs.Answers.{answered}
use Rattle.flow.specs.Limits.{most_weight, most_packets}
use Rattle.flow.specs.Meanings.{Meaning, Fresh, Flushes, Grown, Adds, Heavy, Rises, bound, add_answer}
use Rattle.flow.specs.declared.code.Code.{Code}
use Rattle.frame.specs.declared.plan.Plan.{Plan}
use Rattle.frame.specs.declared.marks.Mark.{Mark}
use Rattle.frame.specs.Plans.{Fair, block_of, unit_of, wrapped}
use Rattle.frame.specs.Rolls.{Packet, total}
use Rattle.frame.specs.Marking.{marks_of, dropped, marked}
use Rattle.frame.specs.Windows.{Consistent, Moves}
use Rattle.frame.proofs.Budgets.{total_le, budget}
use Rattle.frame.proofs.Fewness.{fewer}
use Rattle.frame.proofs.Frames.{first_frame, older_gone, next_frame, same_frame}
use Rattle.frame.proofs.Packets.{packet_keeps}
use Rattle.meter.specs.States.{State, flushed_frame, begun, left, counted}
use Rattle.meter.specs.Holding.{Tracks}

module _ {C : Type 0} (m : Meaning C) (p : Plan) where
  -- what a frame's packets have spent of its budget
  spent : (x : m.Model) (present behind : List Packet) → Fair p → m.step x ≡ p.step → m.packets x ≡ length present → m.volume x ≡ total present → length present ≤ p.window → AllByRecursion (λ y. y.weight ≤ p.most) (present ++ behind) → bound m x < p.places * unit_of p
  spent x present behind fair s t v fits light =
      subst (λ (b : ℕ). b < p.places * unit_of p) (λ i. sym v i + sym t i * (sym s i - 1)) (budget p fair (length present) (total present) fits (total_le p.most present behind light))

  few_at : (x : m.Model) → Heavy m → m.sound x → m.places x ≡ p.places → bound m x < p.places * unit_of p → (ms : List Mark) → ((k : Code) → marks_of k ms ≡ m.estimate x k / unit_of p) → length ms < p.places
  few_at x heavy ok n less ms whole =
      fewer p.places (bound m x) (unit_of p) (m.estimate x) ms less (λ cs. heavy x ok (unit_of p) cs (subst (λ (i : ℕ). bound m x < i * unit_of p) (sym n) less)) whole

  -- an empty window, under a counter just opened or flushed
  pub first : (s : State m.Model) (g : ℕ) → Fair p → Fresh m p.places p.step g s.counter → s.older ≡ [] → s.newer ≡ [] → Tracks m p 0 s []
  first s g fair fresh o n = record {
    present = [];
    behind = [];
    roll_is = refl;
    filled_is = refl;
    is_sound = fresh.is_sound;
    places_is = fresh.places_is;
    step_is = fresh.step_is;
    packets_is = fresh.packets_is;
    volume_is = fresh.volume_is;
    window = subst (λ (a : List Mark × List Mark). Consistent p [] [] a.0 a.1 (m.estimate s.counter)) (λ i. (sym o i, sym n i)) (first_frame fair fair.stands fresh.estimates_are);
  }

  module _ (s : State m.Model) (roll : List Packet) (n : ℕ) (t : Tracks m p n s roll) where
    abbrev win : Consistent p t.present t.behind s.older s.newer (m.estimate s.counter)
    win = t.window

    pub tracks_fair : Fair p
    tracks_fair = win.fair

    pub newer_few : Heavy m → length s.newer < p.places
    newer_few heavy =
        few_at s.counter heavy t.is_sound t.places_is (spent s.counter t.present t.behind win.fair t.step_is t.packets_is t.volume_is win.fits win.light) s.newer win.whole

    pub marks_few : Heavy m → length s.older + length s.newer ≤ 2 * (p.places - 1)
    marks_few heavy = omega (arith, win.few, newer_few heavy)

    -- the counter is flushed
    pub turned : Flushes m → Heavy m → (n ≡ 0) ⊎ (n ≡ p.window) → Tracks m p 0 (flushed_frame m s) roll
    turned flushes heavy ends =
        let fresh = flushes s.counter t.is_sound in record {
          present = [];
          behind = t.present ++ t.behind;
          roll_is = t.roll_is;
          filled_is = refl;
          is_sound = fresh.is_sound;
          places_is = fresh.places_is ∙ t.places_is;
          step_is = fresh.step_is ∙ t.step_is;
          packets_is = fresh.packets_is;
          volume_is = fresh.volume_is;
          window = ⊎_elim
              (λ none. same_frame t.present win (sym t.filled_is ∙ none) fresh.estimates_are)
              (λ all. let full = sym t.filled_is ∙ all in
              subst (λ (ms : List Mark). Consistent p [] (t.present ++ t.behind) ms [] (m.estimate (m.flushed s.counter))) (sym (ap (λ (ms : List Mark). ms ++ s.newer) (older_gone win full))) (next_frame win full (newer_few heavy) fresh.estimates_are))
              ends;
        }

    -- the frame that a packet finds
    pub begun_tracks : Flushes m → Heavy m → s.offset ≡ wrapped p n → Tracks m p (begun m s).offset (begun m s) roll × ((begun m s).offset < p.window)
    begun_tracks flushes heavy at = by (eqb s.offset 0) refl
      where
        ends : s.offset ≡ 0 → (n ≡ 0) ⊎ (n ≡ p.window)
        ends zero = let le : n ≤ p.window = omega (arith, win.fits, t.filled_is) in ⊎_elim (λ b. inl (grind (arith, nat_tests))) (λ b. inr (grind (arith, nat_tests))) (cases_Bool (ltb n p.window))

        by : (b : Bool) → eqb s.offset 0 ≡ b → Tracks m p (cond b (flushed_frame m s) s).offset (cond b (flushed_frame m s) s) roll × ((cond b (flushed_frame m s) s).offset < p.window)
        by true e =
            let zero : s.offset ≡ 0 = grind (arith, nat_tests) in
            (subst (λ (i : ℕ). Tracks m p i (flushed_frame m s) roll) (sym zero) (turned flushes heavy (ends zero)), omega (arith, win.fair.wide))
        by false e =
            let same : s.offset ≡ n = grind (arith, nat_tests) in
            let less : s.offset < p.window = grind (arith, nat_tests) in
            (subst (λ (i : ℕ). Tracks m p i s roll) (sym same) t, less)

  -- one packet within a frame
  module _ (s : State m.Model) (roll : List Packet) (t : Tracks m p s.offset s roll) (room : s.offset < p.window) (k : Code) (w : ℕ) (some : 1 ≤ w) (light : w ≤ p.most) where
    pub add_taken : add_answer m s.counter k w ≡ answered (m.passes s.counter k w)
    add_taken =
        let fair = t.window.fair in
        let few : m.packets s.counter < most_packets = omega (arith, t.packets_is, t.filled_is, fair.narrow) in
        let weighs : w ≤ most_weight = omega (arith, fair.light) in
        grind (arith, nat_tests)

    module _ (adds : Adds m) (heavy : Heavy m) where
      abbrev packet : Packet
      packet = record { code = k; weight = w }

      grown : Grown m s.counter k w (m.added s.counter k w)
      grown = (adds s.counter k w t.is_sound add_taken).0

      pub few_passes : m.passes s.counter k w ≤ p.places
      few_passes = omega (arith, (adds s.counter k w t.is_sound add_taken).1, t.places_is)

      fits : suc (length t.present) ≤ p.window
      fits = omega (arith, t.filled_is)

      packets : m.packets (m.added s.counter k w) ≡ suc (length t.present)
      packets = omega (arith, grown.packets_is, t.packets_is)

      volume : m.volume (m.added s.counter k w) ≡ w + total t.present
      volume = omega (arith, grown.volume_is, t.volume_is)

      less : bound m (m.added s.counter k w) < p.places * unit_of p
      less = spent (m.added s.counter k w) (packet ∷ t.present) t.behind t.window.fair (grown.step_is ∙ t.step_is) packets volume fits (light, t.window.light)

      moves : Moves p.places (bound m (m.added s.counter k w)) (unit_of p) k w (m.estimate s.counter) (m.estimate (m.added s.counter k w))
      moves = record {
        own = grown.own;
        other = λ j ne. subst (λ (n : ℕ). Rises n (bound m (m.added s.counter k w)) (m.estimate s.counter j) (m.estimate (m.added s.counter k w) j)) t.places_is (grown.others j ne);
        budget = less;
      }

      pub counted_tracks : Tracks m p (s.offset + 1) (counted m p (left m p s) k w) (packet ∷ roll)
      counted_tracks = record {
        present = packet ∷ t.present;
        behind = t.behind;
        roll_is = ap (λ (xs : List Packet). packet ∷ xs) t.roll_is;
        filled_is = omega (arith, t.filled_is);
        is_sound = grown.is_sound;
        places_is = grown.places_is ∙ t.places_is;
        step_is = grown.step_is ∙ t.step_is;
        packets_is = packets;
        volume_is = volume;
        window = subst (λ (i : ℕ). Consistent p (packet ∷ t.present) t.behind (dropped (block_of p) i s.older) (marked (unit_of p) (m.estimate s.counter k) w (record { code = k; offset = i }) s.newer) (m.estimate (m.added s.counter k w))) (sym t.filled_is) (packet_keeps t.window moves light fits);
      }
