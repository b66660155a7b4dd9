use Rattle.std.proofs.Common.{List, ℕ, Bor, map, take}
use Rattle.logs.specs.Logs.{LinesRead}
use Rattle.logs.proofs.log.Log.read.Given as goal

-- the lines so far were read
abbrev pub invariant-loop-line : goal.invariant-loop-line
invariant-loop-line g l =
    LinesRead (λ k. g.K.WrittenKey.text (g.K.FlowKey.coded k)) l.fn.asks (map (λ (x : Bor (List ℕ)). x.now) (take l.line-index l.lines)) l.log.calls.items l.log.notes.items
