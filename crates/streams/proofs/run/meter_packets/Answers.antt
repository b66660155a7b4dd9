use Rattle.std.proofs.Common.{◌≡◌, ℕ, suc, ◌+◌, ◌-◌, ◌<◌, Bool, true, false, cond, Some, refl, sym, ap, ◌∙◌, arith}
use Rattle.flow.specs.Answers.{Answer, answered, refused, told, after}
use Rattle.flow.specs.Meanings.{Meaning}
use Rattle.flow.specs.Refusals.{number}
use Rattle.meter.specs.Meters.{state_of}
use Rattle.meter.specs.States.{State, packet_answer, packet_leaves, taken}
use Rattle.streams.specs.Streams.{packet_at}
use Rattle.streams.specs.declared.run.Totals.{Totals}
use Rattle.streams.specs.declared.stream.Packet.{Packet}
use Rattle.streams.specs.declared.stream.Stream.{Stream}
use Rattle.streams.specs.Runs.{code_of, counted, going, offer_answer, offer_leaves, run_from}
use Rattle.streams.proofs.run.meter_packets.Goals as goal

module _ {C : Type 0} (m : Meaning C) (stream : Stream) where
  -- the run takes a packet: it goes on, or it ends
  takes : (packets i : ℕ) (s : State m.Model) (t : Totals) (p : Packet) (a : Answer ℕ) → i < packets → p ≡ packet_at stream i → a ≡ offer_answer m s p →
      run_from m stream (packets - i) i s t ≡ going a s t (λ passes. run_from m stream (packets - (i + 1)) (i + 1) (offer_leaves m s p) (counted t passes))
  takes packets i s t p a below p-is a-is =
      let left : packets - i ≡ suc (packets - (i + 1)) = omega (arith, below) in
      ap (λ (n : ℕ). run_from m stream n i s t) left ∙
      (λ j. going (sym (a-is ∙ ap (offer_answer m s) p-is) j) s t (λ passes. run_from m stream (packets - (i + 1)) (i + 1) (offer_leaves m s (sym p-is j)) (counted t passes)))

  -- a refused packet leaves the state as it was
  unmoved : (s : State m.Model) (p : Packet) (r : ℕ) → offer_answer m s p ≡ refused r → offer_leaves m s p ≡ s
  unmoved s p r e = by _ e
    where
      by : (b : Bool) → cond b (packet_answer m s (code_of p.flow) p.weight) (refused 14) ≡ refused r → cond b (packet_leaves m s (code_of p.flow) p.weight) s ≡ s
      by true h = ap (λ (a : Answer ℕ). after a s (taken m s.plan s (code_of p.flow) p.weight)) h
      by false h = refl

pub loop-index-init : goal.loop-index-init
loop-index-init g c y h =
    let m = g.C.FrameCounter.meaning in
    let all : c.args.packets - 0 ≡ c.args.packets = omega arith in
    ((y, h), λ j. run_from m c.args.stream.now (all j) 0 (state_of m c.args.meter.now) (c.none-totals.ensures j))

pub returns-in-Err : goal.returns-in-Err
returns-in-Err g c y h =
    let m = g.C.FrameCounter.meaning in
    let s = state_of m c.loop-index.meter in
    let t = c.loop-index.totals in
    let p = c.packet.result in
    let inv = c.loop-index.invariant y h in
    let r = number c.in-Err.refusal in
    let answer : refused r ≡ offer_answer m s p = ap told (sym c.in-Err.is) ∙ c.offer.ensures.answer inv.0.0 inv.0.1 in
    ap (λ (z : State m.Model). record { state = z; totals = t; refusal = Some r }) (c.offer.ensures.state inv.0.0 inv.0.1 ∙ unmoved m c.args.stream.now s p r (sym answer)) ∙
    sym (takes m c.args.stream.now c.args.packets c.loop-index.index s t p (refused r) c.loop-index-test.true c.packet.ensures answer) ∙
    inv.1

pub loop-index-preserved : goal.loop-index-preserved
loop-index-preserved g c y h =
    let m = g.C.FrameCounter.meaning in
    let stream = c.args.stream.now in
    let i = c.loop-index.index in
    let s = state_of m c.loop-index.meter in
    let inv = c.loop-index.invariant y h in
    let answer : answered c.in-Ok.passes ≡ offer_answer m s c.packet.result = ap told (sym c.in-Ok.is) ∙ c.offer.ensures.answer inv.0.0 inv.0.1 in (
      c.offer.ensures.holds inv.0.0 inv.0.1,
      ((λ j. run_from m stream (c.args.packets - (i + 1)) (i + 1) (c.offer.ensures.state inv.0.0 inv.0.1 j) (c.with-totals.ensures j)) ∙
          sym (takes m stream c.args.packets i s c.loop-index.totals c.packet.result _ c.loop-index-test.true c.packet.ensures answer) ∙
          inv.1),
    )

pub returns : goal.returns
returns g c y h =
    let m = g.C.FrameCounter.meaning in
    let i = c.loop-index.index in
    let s = state_of m c.loop-index.meter in
    let t = c.loop-index.totals in
    let done : 0 ≡ c.args.packets - i = omega (arith, c.loop-index-test.false) in
    ap (λ (n : ℕ). run_from m c.args.stream.now n i s t) done ∙ (c.loop-index.invariant y h).1
