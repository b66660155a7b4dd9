-- Each number stands behind the word and the numbers before it.
use Rattle.std.proofs.Common.{◌≡◌, ℕ, ◌+◌, ◌<◌, ◌≤◌, List, ◌++◌, length, get_or, take, ap, ◌∙◌, arith, append_assoc, append-nil, length-append}
use Rattle.std.proofs.lemmas.List.{take_all}
use Rattle.std.proofs.lemmas.List.Folds.{length-flat_map-take}
use Rattle.std.specs.Fmt.{decimal}
use Rattle.std.specs.List.{flat_map}
use Rattle.std.specs.Prelude.{codes}
use Rattle.sitting.specs.Lines.{line, spaced, pasted}
use Rattle.sitting.proofs.Pasting.{Written, written_more, joined_more}
use Rattle.sitting.proofs.lines.paste_line.Goals as goal

room_for : (at size : ℕ) (word numbers : List ℕ) (i : ℕ) → i < length numbers → at + length (line word numbers) ≤ size →
    at + length (word ++ flat_map spaced (take i numbers)) + 1 + length (decimal (get_or numbers i 0)) ≤ size
room_for at size word numbers i low room =
    let some : length (flat_map spaced (take i numbers)) + length (spaced (get_or numbers i 0)) ≤ length (flat_map spaced numbers) = length-flat_map-take spaced numbers i 0 low in
    simp length-append (omega (arith, simp length-append at some, simp length-append at room))

-- a line stands once its newline is pasted
written_last : {xs text next : List ℕ} {end far : ℕ} (at : ℕ) (word numbers : List ℕ) (i : ℕ) → length numbers ≤ i → at + length (line word numbers) ≤ length xs →
    Written xs at (word ++ flat_map spaced (take i numbers)) text end → next ≡ pasted text end (codes "\n") → far ≡ end + 1 → Written xs at (line word numbers) next far
written_last at word numbers i last room w e f =
    let whole : take i numbers ≡ numbers = take_all i numbers last in
    written_more (codes "\n") (rw whole at w) e f (simp length-append (omega (arith, simp length-append at room)))

pub loop-number-init : goal.loop-number-init
loop-number-init c = record { bytes_stand = rw append-nil c.paste-end.ensures.text; end_is = rw append-nil c.paste-end.ensures.end }

pub paste-end-requires-in-loop-number : goal.paste-end-requires-in-loop-number
paste-end-requires-in-loop-number c =
    omega (arith, room_for c.args.at (length c.args.text.now) c.args.word.now c.args.numbers.now c.loop-number.number-index (omega arith) c.requires)

pub paste-end-requires-in-loop-number-2 : goal.paste-end-requires-in-loop-number-2
paste-end-requires-in-loop-number-2 c =
    omega (arith, room_for c.args.at (length c.args.text.now) c.args.word.now c.args.numbers.now c.loop-number.number-index (omega arith) c.requires, ap length (c.as_bytes.ensures.value ∙ c.format.ensures.text))

pub loop-number-preserved : goal.loop-number-preserved
loop-number-preserved c =
    let word = c.args.word.now in
    let numbers = c.args.numbers.now in
    let i = c.loop-number.number-index in
    let low : i < length numbers = omega arith in
    let room = room_for c.args.at (length c.args.text.now) word numbers i low c.requires in
    let digits : c.as_bytes.result.now ≡ decimal (get_or numbers i 0) = c.as_bytes.ensures.value ∙ c.format.ensures.text in
    let space = written_more (codes " ") c.loop-number.invariant c.paste-end-in-loop-number.ensures.text c.paste-end-in-loop-number.ensures.end (omega arith) in
    let number =
    written_more (decimal (get_or numbers i 0)) space
    (rw (← digits) c.paste-end-in-loop-number-2.ensures.text)
    (rw (← digits) c.paste-end-in-loop-number-2.ensures.end)
    (simp length-append (omega (arith, simp length-append at room))) in
    rw (← joined_more spaced word numbers i 0 low, ← append_assoc) number

pub returns : goal.returns
returns c =
    let whole = written_last c.args.at c.args.word.now c.args.numbers.now c.loop-number.number-index (omega arith) c.requires c.loop-number.invariant c.paste.ensures.text c.paste.ensures.end in
    record { text = whole.bytes_stand; end = whole.end_is }
