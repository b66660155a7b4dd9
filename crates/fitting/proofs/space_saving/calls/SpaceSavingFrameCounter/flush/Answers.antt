use Rattle.std.proofs.Common.{◌≡◌, List, length, drop, replicate, sym, ap, ◌∙◌, rules, arith}
use Rattle.std.specs.List.{refill}
use Rattle.std.proofs.lemmas.List.{take_at, length-replicate}
use Rattle.fitting.specs.declared.entry.Entry.{Entry}
use Rattle.fitting.specs.Entries.{vacant}
use Rattle.fitting.proofs.Steps.{vacated}
use Rattle.fitting.proofs.space_saving.calls.SpaceSavingFrameCounter.flush.Goals as goal

-- the entries that a fill of all of them leaves
filled : (now before after : List Entry) → now ≡ before → after ≡ replicate (length now) vacant → refill (length before) before after ≡ replicate (length before) vacant
filled now before after was e =
    let all = e ∙ ap (λ (es : List Entry). replicate (length es) vacant) was in
    take_at after (drop (length after) before) (length before) (ap length all ∙ length-replicate (length before) vacant) ∙ all

pub invariant_of-self : goal.invariant_of-self
invariant_of-self c =
    let x = c.args.self.now in
    let e = vacated _ _ (filled _ x.entries.items _ c.as_mut_slice.ensures.value (c.fill.ensures.after (λ _ e. search rules))) in
    record { some = omega (arith, e.0, x.some); distinct = e.1; whole = c.new-self.ensures.volume ∙ sym e.2 }

pub returns : goal.returns
returns c =
    let x = c.args.self.now in
    let vacant_all = filled _ x.entries.items _ c.as_mut_slice.ensures.value (c.fill.ensures.after (λ _ e. search rules)) in
    record { state = λ i. record { packets = c.new-self.ensures.packets i; entries = vacant_all i } }
