-- What a frame counter means, and what every kind of counter shows. Assumes nothing.
--   sum_of        the sum of a function over a list
--   Distinct      no two elements of a list are equal
--   Rises         an estimate stays, or rises to some r with n r within a limit
--   Meaning       a kind of counter: its models, what a model tells, and what the calls do to it
--   bound         V + t (s - 1)
--   open_answer   what an open with n and s answers
--   open_leaves   the model after an open
--   add_answer    what an add of a code and a weight answers
--   add_leaves    the model after an add
--   Fresh         places, step and greatest step as named, and all else 0
--   Opens         every open that is not refused leaves a fresh model with its n and s
--   Flushes       every flush leaves a fresh model with the same places and step
--   Grown         what an add does to packets, volume and estimates
--   Adds          every add that is not refused does so
--   Heavy         the law: estimates of different codes that are each so large that n of them pass the bound sum to at most the bound
--   Steps         the greatest step is from 1 to the most that a kind may allow
use Rattle.std.specs.Prelude.{◌≡◌, ℕ, ◌+◌, ◌-◌, ◌*◌, ◌<◌, ◌≤◌, ◌⊎◌, List, [], ◌∷◌, ◌≢◌}
use Rattle.std.specs.List.{AllByRecursion}
use Rattle.flow.specs.declared.code.Code.{Code}
use Rattle.flow.specs.Answers.{Answer, answered, after}
use Rattle.flow.specs.Limits.{most_step}
use Rattle.flow.specs.Openings.{opening}
use Rattle.flow.specs.Tallies.{admitted}

abbrev pub sum_of : {A : Type 0} → (A → ℕ) → List A → ℕ
sum_of f [] = 0
sum_of f (x ∷ xs) = f x + sum_of f xs

abbrev pub Distinct : {A : Type 0} → List A → Type 0
Distinct [] = Unit {0}
Distinct (x ∷ xs) = AllByRecursion (λ y. x ≢ y) xs × Distinct xs

abbrev pub Rises : ℕ → ℕ → ℕ → ℕ → Type 0
Rises n limit old new = (new ≡ old) ⊎ ((old ≤ new) × (n * new ≤ limit))

pub record Meaning (C : Type 0) : Type 1 where
  -- what of a counter its answers depend on, now and later
  pub Model : Type 0
  pub model : C → Model
  -- what the kind keeps of every counter that calls lead to from a new one
  pub sound : Model → Type 0
  -- what a model tells
  pub places : Model → ℕ
  pub step : Model → ℕ
  pub greatest : Model → ℕ
  pub packets : Model → ℕ
  pub volume : Model → ℕ
  pub estimate : Model → Code → ℕ
  -- the implementer's choice: the model after an open, a flush and an add, and the passes of an add
  pub opened : Model → ℕ → ℕ → Model
  pub flushed : Model → Model
  pub added : Model → Code → ℕ → Model
  pub passes : Model → Code → ℕ → ℕ

module _ {C : Type 0} (m : Meaning C) where
  abbrev pub bound : m.Model → ℕ
  bound x = m.volume x + m.packets x * (m.step x - 1)

  abbrev pub open_answer : m.Model → ℕ → ℕ → Answer (Unit {0})
  open_answer x n s = opening (m.greatest x) n s

  abbrev pub open_leaves : m.Model → ℕ → ℕ → m.Model
  open_leaves x n s = after (open_answer x n s) x (m.opened x n s)

  abbrev pub add_answer : m.Model → Code → ℕ → Answer ℕ
  add_answer x k w = admitted (m.packets x) w (m.passes x k w)

  abbrev pub add_leaves : m.Model → Code → ℕ → m.Model
  add_leaves x k w = after (add_answer x k w) x (m.added x k w)

  pub record Fresh (n s g : ℕ) (y : m.Model) : Type 0 where
    pub is_sound : m.sound y
    pub places_is : m.places y ≡ n
    pub step_is : m.step y ≡ s
    pub greatest_is : m.greatest y ≡ g
    pub packets_is : m.packets y ≡ 0
    pub volume_is : m.volume y ≡ 0
    pub estimates_are : (k : Code) → m.estimate y k ≡ 0

  abbrev pub Opens : Type 0
  Opens = (x : m.Model) (n s : ℕ) → open_answer x n s ≡ answered tt → Fresh n s (m.greatest x) (m.opened x n s)

  abbrev pub Flushes : Type 0
  Flushes = (x : m.Model) → m.sound x → Fresh (m.places x) (m.step x) (m.greatest x) (m.flushed x)

  pub record Grown (x : m.Model) (k : Code) (w : ℕ) (y : m.Model) : Type 0 where
    pub is_sound : m.sound y
    pub places_is : m.places y ≡ m.places x
    pub step_is : m.step y ≡ m.step x
    pub greatest_is : m.greatest y ≡ m.greatest x
    pub packets_is : m.packets y ≡ m.packets x + 1
    pub volume_is : m.volume y ≡ m.volume x + w
    pub own : m.estimate y k ≡ m.estimate x k + w
    pub others : (j : Code) → (j ≢ k) → Rises (m.places x) (bound y) (m.estimate x j) (m.estimate y j)

  abbrev pub Adds : Type 0
  Adds = (x : m.Model) (k : Code) (w : ℕ) → m.sound x → add_answer x k w ≡ answered (m.passes x k w) →
      Grown x k w (m.added x k w) × (m.passes x k w ≤ m.places x)

  abbrev pub Heavy : Type 0
  Heavy = (x : m.Model) → m.sound x → (l : ℕ) (codes : List Code) → bound x < m.places x * l → Distinct codes →
      AllByRecursion (λ k. l ≤ m.estimate x k) codes → sum_of (m.estimate x) codes ≤ bound x

  abbrev pub Steps : Type 0
  Steps = (x : m.Model) → (1 ≤ m.greatest x) × (m.greatest x ≤ most_step)
