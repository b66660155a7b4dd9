-- The keys that tape bytes spell, by their codes. Assumes nothing.
--   be16, be32, be64   the number in two, four and eight bytes from a place on, the most significant byte first
--   prefix_spelled     four bytes of an address and one of a length, the bits of the address beyond the length zero
--   is_digit           the test whether a byte is an ASCII digit
--   all_digits         the test whether all bytes are
--   account_spelled    ten ASCII digits
use Rattle.std.specs.Prelude.{ℕ, Bool, true, ◌+◌, ◌-◌, ◌*◌, ◌%◌, ◌^◌, ◌&&◌, cond, List, [], ◌∷◌, length, Some, None, Option, slice_index, ◌==◌, nat_le}
use Rattle.std.specs.Str.Parse.{digits_value}
use Rattle.flow.specs.declared.code.Code.{Code}

abbrev pub be16 : List ℕ → ℕ → ℕ
be16 bytes at = slice_index bytes at * 256 + slice_index bytes (at + 1)

abbrev pub be32 : List ℕ → ℕ → ℕ
be32 bytes at = be16 bytes at * 65536 + be16 bytes (at + 2)

abbrev pub be64 : List ℕ → ℕ → ℕ
be64 bytes at = be32 bytes at * 4294967296 + be32 bytes (at + 4)

abbrev pub prefix_spelled : List ℕ → Option Code
prefix_spelled bytes =
    cond (length bytes == 5 && (nat_le (slice_index bytes 4) 32 && be32 bytes 0 % 2 ^ (32 - slice_index bytes 4) == 0))
    (Some (record { high = slice_index bytes 4; low = be32 bytes 0 })) None

abbrev pub is_digit : ℕ → Bool
is_digit c = nat_le 48 c && nat_le c 57

abbrev pub all_digits : List ℕ → Bool
all_digits [] = true
all_digits (c ∷ cs) = is_digit c && all_digits cs

abbrev pub account_spelled : List ℕ → Option Code
account_spelled bytes = cond (length bytes == 10 && all_digits bytes) (Some (record { high = 0; low = digits_value 10 bytes })) None
