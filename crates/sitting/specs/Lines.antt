-- The lines that are printed for a tape, as bytes. Assumes nothing.
--   longest_flow_line     the bytes that the line of a flow takes at most: a word of four, three numbers of twenty digits behind a space each, and the newline
--   longest_last_line     the bytes that a last line has room for
--   most_weight_written   the greatest weight that the bytes of a packet write
--   spaced                a number behind a space
--   line                  a line: a word, some numbers behind a space each, and the newline that ends it
--   reply_map             a reply with other records
--   ListStands            a list has at most 510 records, which stand in a table of so many
--   flow_line             the line of a listed flow: high, low and estimate
--   flow_lines            the lines of a list's flows
--   reply_lines           the lines of a reply
--   refusal_line          the line of a refused command: the number, and the offset of its first byte
--   ending_word           the word of a last line
--   last_line             the last line of a sitting: the packets accepted, and their volume
--   pasted                a text with some bytes at a place
--   over                  a text with some bytes at its front
use Rattle.std.specs.Prelude.{ℕ, ◌+◌, ◌-◌, ◌^◌, ◌≤◌, List, [], ◌∷◌, ◌++◌, length, take, drop, flat_map, codes}
use Rattle.std.specs.Fmt.{decimal}
use Rattle.flow.specs.Limits.{most_marks}
use Rattle.meter.specs.declared.record.Record.{Record}
use Rattle.tape.specs.Commands.{weight_bytes}
use Rattle.sitting.specs.declared.reply.Reply.{Reply}
use Rattle.sitting.specs.declared.reply.Reply.TheVariants as reply
use Rattle.sitting.specs.declared.ending.Ending.{Ending}
use Rattle.sitting.specs.declared.ending.Ending.TheVariants as ending

abbrev pub longest_flow_line : ℕ
longest_flow_line = 68

abbrev pub longest_last_line : ℕ
longest_last_line = 32

abbrev pub most_weight_written : ℕ
most_weight_written = 256 ^ weight_bytes - 1

abbrev pub spaced : ℕ → List ℕ
spaced n = codes " " ++ decimal n

abbrev pub line : List ℕ → List ℕ → List ℕ
line word numbers = word ++ flat_map spaced numbers ++ codes "\n"

abbrev pub reply_map : {A B : Type 0} → (A → B) → Reply A → Reply B
reply_map f reply.Opened = reply.Opened
reply_map f (reply.Took x) = reply.Took x
reply_map f (reply.Estimated e) = reply.Estimated e
reply_map f (reply.Listed a) = reply.Listed (f a)
reply_map f reply.Restarted = reply.Restarted
reply_map f (reply.LevelSet h) = reply.LevelSet h
reply_map f (reply.Tried h a) = reply.Tried h (f a)
reply_map f reply.Closed = reply.Closed

abbrev pub ListStands : Reply ℕ → ℕ → Type 0
ListStands (reply.Listed n) places = (n ≤ most_marks) × (n ≤ places)
ListStands (reply.Tried h n) places = (n ≤ most_marks) × (n ≤ places)
ListStands _ places = Unit {0}

abbrev pub flow_line : Record → List ℕ
flow_line r = line (codes "flow") (r.code.high ∷ r.code.low ∷ r.estimate ∷ [])

abbrev pub flow_lines : List Record → List ℕ
flow_lines rs = flat_map flow_line rs

abbrev pub reply_lines : Reply (List Record) → List ℕ
reply_lines reply.Opened = line (codes "open") []
reply_lines (reply.Took x) = line (codes "took") (x ∷ [])
reply_lines (reply.Estimated e) = line (codes "est") (e ∷ [])
reply_lines (reply.Listed rs) = line (codes "list") (length rs ∷ []) ++ flow_lines rs
reply_lines reply.Restarted = line (codes "restart") []
reply_lines (reply.LevelSet h) = line (codes "level") (h ∷ [])
reply_lines (reply.Tried h rs) = line (codes "trial") (h ∷ length rs ∷ []) ++ flow_lines rs
reply_lines reply.Closed = []

abbrev pub refusal_line : ℕ → ℕ → List ℕ
refusal_line n offset = line (codes "no") (n ∷ offset ∷ [])

abbrev pub ending_word : Ending → List ℕ
ending_word ending.Closed = codes "closed"
ending_word ending.Broken = codes "broken"

abbrev pub last_line : Ending → ℕ → ℕ → List ℕ
last_line e packets volume = line (ending_word e) (packets ∷ volume ∷ [])

abbrev pub pasted : List ℕ → ℕ → List ℕ → List ℕ
pasted text at bytes = take at text ++ (bytes ++ drop (at + length bytes) text)

abbrev pub over : List ℕ → List ℕ → List ℕ
over bytes text = bytes ++ drop (length bytes) text
