-- How answers are printed.
use Rattle.std.proofs.Common.{◌≡◌, ℕ, List, length, take, drop, Result, Ok, Err, refl, ap, sym, ◌∙◌}
use Rattle.std.proofs.Math.Seq.{take-append_seam}
use Rattle.flow.specs.Answers.{Answer, answered, refused, told}
use Rattle.flow.specs.Refusals.{number}
use Rattle.flow.specs.declared.refusal.Refusal.{Refusal}
use Rattle.meter.specs.declared.record.Record.{Record}
use Rattle.sitting.specs.declared.reply.Reply.{Reply}
use Rattle.sitting.specs.declared.reply.Reply.TheVariants as reply
use Rattle.tape.specs.Commands.{command_map}
use Rattle.tape.specs.declared.command.Command.{Command}
use Rattle.tape.specs.declared.command.Command.TheVariants as command
use Rattle.sitting.specs.Courses.{accepted}
use Rattle.sitting.specs.Lines.{reply_map, reply_lines, refusal_line}
use Rattle.sitting.specs.Sittings.{with_count}
use Rattle.sitting.specs.Turns.{answer_text, table_after}

-- the records of a reply are read from the front of the table
records_read : (r : Reply (List Record)) (table : List Record) → reply_map (λ n. take n (table_after (answered r) table)) (reply_map length r) ≡ r
records_read reply.Opened table = refl
records_read (reply.Took x) table = refl
records_read (reply.Estimated e) table = refl
records_read (reply.Listed rs) table = ap reply.Listed (take-append_seam rs (drop (length rs) table))
records_read reply.Restarted table = refl
records_read (reply.LevelSet h) table = refl
records_read (reply.Tried h rs) table = ap (reply.Tried h) (take-append_seam rs (drop (length rs) table))
records_read reply.Closed table = refl

-- what is printed for an answer that is known but for its records
pub reply_read : (a : Answer (Reply (List Record))) (x : Result (Reply ℕ) Refusal) (r : Reply ℕ) (offset : ℕ) (table later : List Record) →
    x ≡ Ok r → told x ≡ with_count a → later ≡ table_after a table → reply_lines (reply_map (λ n. take n later) r) ≡ answer_text offset a
reply_read (answered y) x r offset table later is e table_is =
    let same : r ≡ reply_map length y = let k = sym (ap told is) ∙ e in cc in
    (λ i. reply_lines (reply_map (λ n. take n (table_is i)) (same i))) ∙ ap reply_lines (records_read y table)
reply_read (refused n) x r offset table later is e table_is = let k = sym (ap told is) ∙ e in cc

pub refusal_read : (a : Answer (Reply (List Record))) (x : Result (Reply ℕ) Refusal) (n : Refusal) (offset : ℕ) →
    x ≡ Err n → told x ≡ with_count a → refusal_line (number n) offset ≡ answer_text offset a
refusal_read (answered y) x n offset is e = let k = sym (ap told is) ∙ e in cc
refusal_read (refused k) x n offset is e =
    let same : number n ≡ k = let q = sym (ap told is) ∙ e in cc in
    ap (λ (j : ℕ). refusal_line j offset) same

-- the weight that is accepted is one, whatever form key and records have
pub accepted_read : {A B : Type 0} (f : A → B) (c : Command A) (a : Answer (Reply (List Record))) → accepted c (with_count a) ≡ accepted (command_map f c) a
accepted_read f c (refused n) = refl
accepted_read f (command.Plan q) (answered r) = refl
accepted_read f (command.Packet key w) (answered r) = refl
accepted_read f (command.Estimate key) (answered r) = refl
accepted_read f command.List (answered r) = refl
accepted_read f command.Restart (answered r) = refl
accepted_read f (command.Level h) (answered r) = refl
accepted_read f (command.Trial h) (answered r) = refl
accepted_read f command.Close (answered r) = refl
