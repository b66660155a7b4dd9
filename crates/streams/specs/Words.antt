-- The words of a command line. Assumes nothing.
--   KindGiven      the kind that the words behind the numbers give: the semi-ordered where there is none
--   NumbersGiven   the eight numbers that words give: the plan's, and the packets, the flows and the seed
--   Given          the arguments that words give: eight numbers, and a kind where there is a ninth
--   ArgumentsRead  what words are read as: the arguments that they give, or none where they give none
use Rattle.std.specs.Prelude.{◌≡◌, ℕ, List, [], ◌∷◌, Some, None, Option}
use Rattle.text.specs.Reading.{Writes}
use Rattle.inputs.specs.Kinds.{kind_text}
use Rattle.inputs.specs.declared.kind.CounterKind.{CounterKind}
use Rattle.inputs.specs.declared.kind.CounterKind.TheVariants.{SemiOrdered}
use Rattle.streams.specs.declared.arguments.Arguments.{Arguments}

abbrev pub KindGiven : List (List ℕ) → CounterKind → Type 0
KindGiven [] k = k ≡ SemiOrdered
KindGiven (word ∷ []) k = word ≡ kind_text k
KindGiven (word ∷ more ∷ words) k = ⊥

pub record NumbersGiven (places step most window blocks packets flows seed : List ℕ) (a : Arguments) : Type 0 where
  pub places_are : Writes 32 places a.plan.places
  pub step_is : Writes 32 step a.plan.step
  pub most_is : Writes 32 most a.plan.most
  pub window_is : Writes 32 window a.plan.window
  pub blocks_are : Writes 32 blocks a.plan.blocks
  pub packets_are : Writes 64 packets a.packets
  pub flows_are : Writes 64 flows a.flows
  pub seed_is : Writes 64 seed a.seed

abbrev pub Given : List (List ℕ) → Arguments → Type 0
Given (places ∷ step ∷ most ∷ window ∷ blocks ∷ packets ∷ flows ∷ seed ∷ words) a =
    NumbersGiven places step most window blocks packets flows seed a × KindGiven words a.kind
Given words a = ⊥

abbrev pub ArgumentsRead : List (List ℕ) → Option Arguments → Type 0
ArgumentsRead words (Some a) = Given words a
ArgumentsRead words None = (a : Arguments) → Given words a → ⊥
