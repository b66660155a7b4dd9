-- Worked tapes with the lines that are due for them, reckoned by hand. Assumes nothing.
--   digit         the value of a hexadecimal digit
--   octets        the bytes that pairs of digits write
--   tape_of       the bytes that digits write, whatever spaces stand between them
--   Gives         the lines of a tape, by the rules of its kinds, are these: with a text area, a scratch and a table of such lengths
--   MarkedAs      so are those of the tape that digits write, with areas that suffice for every tape
--   Worked        worked tapes: the sample, every command, the standing level and trial lists, plans of each fault, what cannot be read, short areas and long tapes
use Rattle.std.specs.Prelude.{◌≡◌, ℕ, ◌+◌, ◌-◌, ◌*◌, cond, List, [], ◌∷◌, filter, replicate, codes, nat_lt}
use Rattle.sitting.specs.Tapes.{tape_text}
use Rattle.mark.specs.Kinds.{key_kind, counter_kind, over_kinds}

abbrev pub digit : ℕ → ℕ
digit c = cond (nat_lt c 65) (c - 48) (c - 55)

abbrev pub octets : List ℕ → List ℕ
octets (high ∷ low ∷ rest) = (digit high * 16 + digit low) ∷ octets rest
octets _ = []

abbrev pub tape_of : List ℕ → List ℕ
tape_of digits = octets (filter (λ c. nat_lt 32 c) digits)

abbrev pub Gives : ℕ → ℕ → ℕ → List ℕ → List ℕ → Type 0
Gives text scratch table tape lines =
    over_kinds (key_kind tape) (counter_kind tape) (λ spelled key_bytes k c C m x. tape_text spelled (record { scratch = scratch; table = table }) key_bytes k c tape text m x) ≡ lines

abbrev pub MarkedAs : List ℕ → List ℕ → Type 0
MarkedAs digits lines = Gives 40960 510 510 (tape_of digits) lines

-- most tapes have the plan of 3 places, step 1, greatest weight 10, and a window of 4 packets in 2 blocks, so that the unit is 20
pub record Worked : Type 0 where
  pub sample : MarkedAs
      (codes "0101 010003000000010000000A000000040002 020A000000080000000A 020A000000080000000A 030A00000008 06000000000000003C 04 020A000000080000000B 08")
      (codes "open\ntook 0\ntook 0\nest 60\nlevel 60\nlist 1\nflow 8 167772160 60\nno 10 55\nclosed 2 20\n")
  -- over accounts and a shared-deduction counter
  pub accounts : MarkedAs
      (codes "0202 010003000000010000000A000000040002 02303030303030303034320000000A 02303030303030303034320000000A 0330303030303030303432 06000000000000003C 04 02303030303030303034320000000B 08")
      (codes "open\ntook 0\ntook 0\nest 60\nlevel 60\nlist 1\nflow 0 42 60\nno 10 70\nclosed 2 20\n")
  -- every command, in each state
  pub commands : MarkedAs
      (codes "0101 020A000000080000000A 030A00000008 04 05 06000000000000003C 07000000000000003C 08 010003000000010000000A000000040002 010003000000010000000A000000040002 020A000000080000000A 030A00000008 04 05 06000000000000003C 07000000000000003C 08 020A000000080000000A")
      (codes "no 17 2\nno 17 12\nno 17 18\nno 17 19\nno 17 20\nno 17 29\nno 17 38\nopen\nno 17 56\ntook 0\nest 50\nlist 0\nrestart\nlevel 60\ntrial 60 0\nclosed 1 10\n")
  -- 4 places and 6 packets in 3 blocks: an estimate of 79 is below the level behind the plan, and one of 80 reaches it
  pub levels : MarkedAs
      (codes "0101 010004000000010000000A000000060003 020A000000080000000A 020A000000080000000A 020A000000080000000A 020A0000000800000009 04 07000000000000003C 04 020A0000000800000001 04 07000000000000003B 05 020A000000080000000A 08")
      (codes "open\ntook 0\ntook 0\ntook 0\ntook 0\nlist 0\ntrial 60 1\nflow 8 167772160 79\nlist 0\ntook 0\nlist 1\nflow 8 167772160 80\nno 11 81\nrestart\ntook 0\nclosed 6 50\n")
  -- 12 packets in 3 blocks make the unit 40: now 159 is below that level, and 160 reaches it
  pub greater_levels : MarkedAs
      (codes "0101 010004000000010000000A0000000C0003 020A000000080000000A 020A000000080000000A 020A000000080000000A 020A000000080000000A 020A000000080000000A 020A000000080000000A 020A000000080000000A 020A0000000800000009 030A00000008 04 020A0000000800000001 04 08")
      (codes "open\ntook 0\ntook 0\ntook 0\ntook 0\ntook 0\ntook 0\ntook 0\ntook 0\nest 159\nlist 0\ntook 0\nlist 1\nflow 8 167772160 160\nclosed 9 80\n")
  -- each number of a plan
  pub plans : MarkedAs
      (codes "0101 0100000000000000000000000000000000 0100030000000000000000000000000000 0100030000000100000000000000000000 010003000000010000000A000000000000 010003000000060000000A000000040000 010003000000060000000A000000040002 08")
      (codes "no 1 2\nno 2 19\nno 5 36\nno 6 53\nno 7 70\nno 8 87\nno 17 104\nno 16 105\nbroken 0 0\n")
  -- no key, no weight
  pub packets : MarkedAs
      (codes "0101 010003000000010000000A000000040002 020A0000010800000000 020A0000000800000000 020A000000080000000A 09 08")
      (codes "open\nno 14 19\nno 9 29\ntook 0\nno 15 49\nbroken 1 10\n")
  -- an empty tape, and kinds that are missing or unknown
  pub no_kinds : MarkedAs (codes "") (codes "no 16 0\nbroken 0 0\n")
  pub no_counter : MarkedAs (codes "02") (codes "no 16 1\nbroken 0 0\n")
  pub key_unknown : MarkedAs (codes "0303 08") (codes "no 15 0\nbroken 0 0\n")
  pub counter_unknown : MarkedAs (codes "0203 08") (codes "no 15 1\nbroken 0 0\n")
  -- operands cut off
  pub plan_cut : MarkedAs (codes "0101 010003000000010000000A0000000400") (codes "no 16 2\nbroken 0 0\n")
  -- areas of a byte or a record less than is asked for
  pub short_text : Gives 40959 510 510 (tape_of (codes "0101 010003000000010000000A000000040002 08")) (codes "broken 0 0\n")
  pub short_areas : Gives 40960 509 510
      (tape_of (codes "0101 010003000000010000000A000000040002 020A000000080000000A 04 07000000000000003B 08"))
      (codes "open\ntook 0\nno 12 29\nno 11 30\nclosed 1 10\n")
  pub short_table : Gives 40960 510 0
      (tape_of (codes "0101 010003000000010000000A000000040002 020A000000080000000A 020A000000080000000A 04 07000000000000003C 08"))
      (codes "open\ntook 0\ntook 0\nlist 0\nno 13 40\nclosed 2 20\n")
  -- a tape of 65,536 bytes is read, and one of a byte more is not
  pub longest : Gives 40960 510 510 (1 ∷ 1 ∷ replicate 65534 0) (codes "no 15 2\nbroken 0 0\n")
  pub too_long : Gives 40960 510 510 (1 ∷ 1 ∷ replicate 65535 0) (codes "no 19 0\nbroken 0 0\n")
