-- The lines of an input. Assumes nothing.
--   IsName        a word that names a flow: one to ten digits
--   PacketRead    what a packet line is read as: its packet, or the first thing that is wrong with it
--   Sized         a line of two whole numbers and no more
--   SizesRead     the two numbers of such a line
--   HeadingRead   what a line is read as where it may be a heading: the kind that it begins with, and the sizes behind it; none where it begins with no kind
--   reason        why a line is no packet, or has no sizes behind its kind, in words
use Rattle.std.specs.Prelude.{◌≡◌, ℕ, ◌≤◌, List, [], length, Some, None, Ok, Err, codes, Option, Result, ◌≢◌}
use Rattle.std.specs.Str.Parse.{digits_value, IsNumeral}
use Rattle.text.specs.Reading.{after_word, first, second, third, capped}
use Rattle.inputs.specs.Kinds.{KindRead}
use Rattle.workings.specs.declared.line.Sizes.{Sizes}
use Rattle.workings.specs.declared.line.Heading.{Heading}
use Rattle.workings.specs.declared.line.Packet.{Packet}
use Rattle.workings.specs.declared.line.Unread.{Unread}
use Rattle.workings.specs.declared.line.Unread.TheVariants.{Name, Weight, More, Heading as Headed}

abbrev pub IsName : List ℕ → Type 0
IsName word = IsNumeral 10 word × (length word ≤ 10)

abbrev pub PacketRead : List ℕ → Result Packet Unread → Type 0
PacketRead line (Ok p) =
    IsName (first line) × IsNumeral 10 (second line) × (third line ≡ []) ×
    (p ≡ record { code = record { high = 0; low = digits_value 10 (first line) }; weight = capped 32 (digits_value 10 (second line)) })
PacketRead line (Err Name) = IsName (first line) → ⊥
PacketRead line (Err Weight) = IsName (first line) × (IsNumeral 10 (second line) → ⊥)
PacketRead line (Err Headed) = ⊥
PacketRead line (Err More) = IsName (first line) × IsNumeral 10 (second line) × (third line ≢ [])

abbrev pub Sized : List ℕ → Type 0
Sized line = IsNumeral 10 (first line) × IsNumeral 10 (second line) × (third line ≡ [])

abbrev pub SizesRead : List ℕ → Option Sizes → Type 0
SizesRead line (Some s) = Sized line × (s.places ≡ capped 32 (digits_value 10 (first line))) × (s.step ≡ capped 32 (digits_value 10 (second line)))
SizesRead line None = Sized line → ⊥

abbrev pub HeadingRead : List ℕ → Option Heading → Type 0
HeadingRead line (Some h) = KindRead (first line) (Some h.kind) × SizesRead (after_word line) h.sizes
HeadingRead line None = KindRead (first line) None

abbrev pub reason : Unread → List ℕ
reason Headed = codes "a heading is a kind of counter, its places and its step"
reason Name = codes "a flow name is one to ten digits"
reason Weight = codes "a weight is a whole number behind the flow name"
reason More = codes "a line is a flow name and a weight, and no more"
