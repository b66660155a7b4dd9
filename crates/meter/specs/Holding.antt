-- When a meter's state is what a ledger says. Assumes nothing.
--   Room     the counter takes a packet, and there is space for its mark
--   Tracks   under a plan, n packets into the present frame: the counter and the marks fit the roll
--   Kept     a state fits a ledger, by its plan
--   Holds    a state is what a ledger says
use Rattle.std.specs.Prelude.{◌≡◌, ℕ, ◌+◌, ◌≤◌, List, [], ◌++◌, length, Some, None, Option}
use Rattle.flow.specs.Answers.{answered}
use Rattle.flow.specs.Limits.{most_marks}
use Rattle.flow.specs.Meanings.{Meaning, add_answer}
use Rattle.flow.specs.declared.code.Code.{Code}
use Rattle.frame.specs.declared.plan.Plan.{Plan}
use Rattle.frame.specs.Plans.{wrapped}
use Rattle.frame.specs.Rolls.{Packet, total}
use Rattle.frame.specs.Windows.{Consistent}
use Rattle.meter.specs.Ledgers.{Ledger}
use Rattle.meter.specs.States.{State, counted}

module _ {C : Type 0} (m : Meaning C) where
  pub record Room (p : Plan) (s : State m.Model) (k : Code) (w : ℕ) : Type 0 where
    pub is_sound : m.sound s.counter
    pub add_taken : add_answer m s.counter k w ≡ answered (m.passes s.counter k w)
    pub fits : length s.older + length (counted m p s k w).newer ≤ most_marks

  pub record Tracks (p : Plan) (n : ℕ) (s : State m.Model) (roll : List Packet) : Type 0 where
    -- the packets of the present frame, and those behind it
    pub present : List Packet
    pub behind : List Packet
    pub roll_is : roll ≡ present ++ behind
    pub filled_is : n ≡ length present
    pub is_sound : m.sound s.counter
    pub places_is : m.places s.counter ≡ p.places
    pub step_is : m.step s.counter ≡ p.step
    pub packets_is : m.packets s.counter ≡ length present
    pub volume_is : m.volume s.counter ≡ total present
    pub window : Consistent p present behind s.older s.newer (m.estimate s.counter)

  abbrev pub Kept : Option Plan → State m.Model → Ledger → Type 0
  Kept None s l = (m.greatest s.counter ≡ l.greatest) × (s.older ≡ []) × (s.newer ≡ [])
  Kept (Some p) s l = (n : ℕ) × Tracks p n s l.roll × (s.offset ≡ wrapped p n)

  pub record Holds (s : State m.Model) (l : Ledger) : Type 0 where
    pub plan_is : s.plan ≡ l.plan
    pub kept : Kept l.plan s l
