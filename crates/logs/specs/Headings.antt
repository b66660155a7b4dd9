-- The heading of a log. Assumes nothing.
--   behind         what follows the first so many words of a line
--   nth            the word that comes next, empty where there is none
--   value_at       the number that it writes, or the greatest of 32 bits where it is larger
--   keys_text      the name of a kind of key
--   KeysRead       the kind of key that a word names
--   Numbers        a line begins with five whole numbers
--   plan_of        the plan that they are: places, step, greatest weight, window and blocks
--   PlanRead       what a line is read as where it may begin with a plan: the plan and what follows it
--   Complete       a line has a kind of counter, a plan and a level, and no more
--   AsksRead       what a line asks for: a counter, a plan and a level; nothing where it is not complete
--   HeadingRead    what a line is read as where it may be a heading: the kind of key that it begins with, and what the rest asks for; none where it begins with no kind
use Rattle.std.specs.Prelude.{◌≡◌, ℕ, zero, suc, List, [], Some, None, codes, Option}
use Rattle.std.specs.Borrow.{Bor}
use Rattle.std.specs.Str.Parse.{digits_value, IsNumeral}
use Rattle.text.specs.Reading.{word_of, after_word, first, capped}
use Rattle.frame.specs.declared.plan.Plan.{Plan}
use Rattle.logs.specs.declared.heading.KeyKind.{KeyKind}
use Rattle.logs.specs.declared.heading.KeyKind.TheVariants.{Prefix, Account}
use Rattle.inputs.specs.Kinds.{Named, KindRead}
use Rattle.logs.specs.declared.heading.Asks.{Asks}
use Rattle.logs.specs.declared.heading.Heading.{Heading}

abbrev pub behind : ℕ → List ℕ → List ℕ
behind zero line = line
behind (suc k) line = behind k (after_word line)

abbrev pub nth : ℕ → List ℕ → List ℕ
nth k line = word_of (behind k line)

abbrev pub value_at : ℕ → List ℕ → ℕ
value_at k line = capped 32 (digits_value 10 (nth k line))

abbrev pub keys_text : KeyKind → List ℕ
keys_text Prefix = codes "prefix"
keys_text Account = codes "account"

abbrev pub KeysRead : List ℕ → Option KeyKind → Type 0
KeysRead word o = Named keys_text word o

pub record Numbers (line : List ℕ) : Type 0 where
  pub places : IsNumeral 10 (nth 0 line)
  pub step : IsNumeral 10 (nth 1 line)
  pub most : IsNumeral 10 (nth 2 line)
  pub window : IsNumeral 10 (nth 3 line)
  pub blocks : IsNumeral 10 (nth 4 line)

abbrev pub plan_of : List ℕ → Plan
plan_of line = record {
  places = value_at 0 line;
  step = value_at 1 line;
  most = value_at 2 line;
  window = value_at 3 line;
  blocks = value_at 4 line;
}

abbrev pub PlanRead : List ℕ → Option (Plan × Bor (List ℕ)) → Type 0
PlanRead line (Some p) = Numbers line × (p.0 ≡ plan_of line) × (p.1.now ≡ behind 5 line)
PlanRead line None = Numbers line → ⊥

pub record Complete (line : List ℕ) : Type 0 where
  pub counter : KindRead (nth 0 line) None → ⊥
  pub numbers : Numbers (behind 1 line)
  pub level : IsNumeral 10 (nth 6 line)
  pub ends : nth 7 line ≡ []

abbrev pub AsksRead : List ℕ → Option Asks → Type 0
AsksRead line (Some a) = Complete line × KindRead (nth 0 line) (Some a.counter) × (a.plan ≡ plan_of (behind 1 line)) × (a.level ≡ capped 64 (digits_value 10 (nth 6 line)))
AsksRead line None = Complete line → ⊥

abbrev pub HeadingRead : List ℕ → Option Heading → Type 0
HeadingRead line (Some h) = KeysRead (first line) (Some h.keys) × AsksRead (after_word line) h.asks
HeadingRead line None = KeysRead (first line) None
