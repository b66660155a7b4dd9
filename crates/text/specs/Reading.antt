-- Lines and words of a text, as lists of bytes. Assumes nothing.
--   is_space     a space, a tab or a carriage return
--   in_line      any byte but a newline
--   in_word      any byte but a space
--   Tells        each answer to a byte is that of the test
--   front        how many elements in front pass a test
--   line_of      the first line, without its newline
--   after_line   what follows the first newline
--   TakesLine    what a step over the lines gives: the first line and what follows it, or nothing at the end
--   unspaced     the text without the spaces in front
--   word_of      the first word, empty where there is none
--   after_word   what follows the first word
--   first        the first word of a line, empty where there is none
--   second       the second
--   third        the third
--   capped       a number, or the greatest of so many bits where it is larger
--   Writes       a word of digits writes a number, or the greatest of so many bits where it is larger
use Rattle.std.specs.Prelude.{◌≡◌, ◌≢◌, ℕ, ◌+◌, ◌-◌, ◌^◌, min, Bool, not, ◌||◌, List, [], take, drop, Option, Some, None, ◌==◌}
use Rattle.std.specs.List.{prefix_len}
use Rattle.std.specs.Str.Parse.{digits_value, IsNumeral}

abbrev pub is_space : ℕ → Bool
is_space b = b == 32 || (b == 9 || b == 13)

abbrev pub in_line : ℕ → Bool
in_line b = not (b == 10)

abbrev pub in_word : ℕ → Bool
in_word b = not (is_space b)

abbrev pub Tells : (ℕ → Bool → Type 0) → (ℕ → Bool) → Type 0
Tells answers test = (b : ℕ) (r : Bool) → answers b r → r ≡ test b

abbrev pub front : (ℕ → Bool) → List ℕ → ℕ
front p bs = prefix_len p bs

abbrev pub line_of : List ℕ → List ℕ
line_of bs = take (front in_line bs) bs

abbrev pub after_line : List ℕ → List ℕ
after_line bs = drop (front in_line bs + 1) bs

abbrev pub TakesLine : List ℕ → Option (List ℕ) → List ℕ → Type 0
TakesLine text None rest = (text ≡ []) × (rest ≡ [])
TakesLine text (Some line) rest = (text ≢ []) × (line ≡ line_of text) × (rest ≡ after_line text)

abbrev pub unspaced : List ℕ → List ℕ
unspaced bs = drop (front is_space bs) bs

abbrev pub word_of : List ℕ → List ℕ
word_of bs = take (front in_word (unspaced bs)) (unspaced bs)

abbrev pub after_word : List ℕ → List ℕ
after_word bs = drop (front in_word (unspaced bs)) (unspaced bs)

abbrev pub first : List ℕ → List ℕ
first line = word_of line

abbrev pub second : List ℕ → List ℕ
second line = word_of (after_word line)

abbrev pub third : List ℕ → List ℕ
third line = word_of (after_word (after_word line))

abbrev pub capped : ℕ → ℕ → ℕ
capped bits n = min n (2 ^ bits - 1)

abbrev pub Writes : ℕ → List ℕ → ℕ → Type 0
Writes bits word n = IsNumeral 10 word × (n ≡ capped bits (digits_value 10 word))
