use Rattle.std.proofs.Common.{◌≡◌, ℕ, ◌<◌, ◌≤◌, true, leb, get_or, drop}
use Rattle.semi.proofs.Turns.{Counted}
use Rattle.semi.specs.Line.{between, blank}
use Rattle.semi.proofs.line.climb.Given as goal

abbrev pub invariant-loop-entries : goal.invariant-loop-entries
invariant-loop-entries l = record {
  few : l.passes ≤ l.entries;
  behind : (k : ℕ) → k < l.entries → leb (get_or l.later k blank).group l.to ≡ true;
  sofar : Counted l.to (between l.from l.to l.later) l.last l.passes (drop l.entries l.later);
}
