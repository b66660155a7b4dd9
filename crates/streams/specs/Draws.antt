-- The numbers of the generator splitmix64. Assumes nothing.
--   rise           what the state rises by at each draw
--   next_state     the state after a draw
--   state_after    the state after so many draws from a seed
--   folded         a number with its high bits folded down by so many places, times a multiplier
--   twice_folded   a state folded by 30 places and then by 27, each with its multiplier
--   drawn          the number drawn at a state
use Rattle.std.specs.Prelude.{ℕ, ◌+◌, ◌*◌, ◌/◌, ◌%◌, ◌^◌, bit_xor}

abbrev pub rise : ℕ
rise = 0x9E3779B97F4A7C15

abbrev pub next_state : ℕ → ℕ
next_state state = (state + rise) % 2 ^ 64

abbrev pub state_after : ℕ → ℕ → ℕ
state_after seed draws = (seed + draws * rise) % 2 ^ 64

abbrev pub folded : ℕ → ℕ → ℕ → ℕ
folded number places multiplier = bit_xor number (number / 2 ^ places) * multiplier % 2 ^ 64

abbrev pub twice_folded : ℕ → ℕ
twice_folded state = folded (folded state 30 0xBF58476D1CE4E5B9) 27 0x94D049BB133111EB

abbrev pub drawn : ℕ → ℕ
drawn state = bit_xor (twice_folded state) (twice_folded state / 2 ^ 31)
