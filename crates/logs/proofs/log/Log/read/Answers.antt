use Rattle.std.proofs.Common.{◌≡◌, ℕ, ◌+◌, ◌<◌, List, [], ◌∷◌, ◌++◌, Bor, Option, length, map, get_or, take, sym, ap, ◌∙◌, subst, arith, take_all}
use Rattle.std.proofs.lemmas.List.{take_more, map-append}
use Rattle.meter.specs.declared.day.Call.{Call}
use Rattle.meter.specs.declared.day.Call.TheVariants as call
use Rattle.meter.specs.declared.day.Areas.{Areas}
use Rattle.meter.specs.Tables.{ample}
use Rattle.logs.specs.declared.heading.Asks.{Asks}
use Rattle.logs.specs.declared.log.Note.{Note}
use Rattle.logs.specs.Logs.{level_of, planned, LineTaken, LinesRead, none, more}
use Rattle.logs.proofs.log.Log.read.Goals as goal

abbrev text : Bor (List ℕ) → List ℕ
text x = x.now

module _ {K : Type 0} (text_of : K → List ℕ) (asks : Option Asks) where
  -- before any line
  start : (cs : List (Call K)) (ns : List Note) → cs ≡ planned asks → ns ≡ [] → LinesRead text_of asks [] cs ns
  start cs ns h k = subst (λ (x : List (Call K)). LinesRead text_of asks [] x ns) (sym h) (subst (λ (x : List Note). LinesRead text_of asks [] (planned asks) x) (sym k) none)

  -- one line more
  step : (ls : List (Bor (List ℕ))) (i level : ℕ) (d : Bor (List ℕ)) (cs ds : List (Call K)) (ns ms : List Note) → i < length ls → level ≡ level_of asks →
      LinesRead text_of asks (map text (take i ls)) cs ns → LineTaken text_of level (get_or ls i d).now cs ns ds ms → LinesRead text_of asks (map text (take (i + 1) ls)) ds ms
  step ls i level d cs ds ns ms h k r t =
      let e : map text (take (i + 1) ls) ≡ map text (take i ls) ++ (get_or ls i d).now ∷ [] = ap (map text) (take_more ls i d h) ∙ map-append text (take i ls) (get_or ls i d ∷ []) in
      subst (λ (x : List (List ℕ)). LinesRead text_of asks x ds ms) (sym e)
      (more (map text (take i ls)) (get_or ls i d).now cs ds ns ms r (subst (λ (l : ℕ). LineTaken text_of l (get_or ls i d).now cs ns ds ms) k t))

-- one call more, at the same level and with the same areas
ends : {K : Type 0} (xs cs : List (Call K)) (l m : ℕ) (a : Areas) → xs ≡ cs ++ call.List l a ∷ [] → l ≡ m → a ≡ ample → xs ≡ cs ++ call.List m ample ∷ []
ends xs cs l m a h e f = h ∙ (λ i. cs ++ call.List (e i) (f i) ∷ [])

pub loop-line-init : goal.loop-line-init
loop-line-init g c =
    start (λ k. g.K.WrittenKey.text (g.K.FlowKey.coded k)) c.args.asks c.in_ok-log.log.calls.items c.in_ok-log.log.notes.items c.in_ok-log.ensures.0 c.in_ok-log.ensures.1

pub loop-line-preserved : goal.loop-line-preserved
loop-line-preserved g c =
    step (λ k. g.K.WrittenKey.text (g.K.FlowKey.coded k)) c.args.asks c.args.lines.now c.loop-line.line-index c.level_of-level.result _
    c.loop-line.log.calls.items c.take_line.new.self.calls.items c.loop-line.log.notes.items c.take_line.new.self.notes.items (omega arith) c.level_of-level.ensures c.loop-line.invariant c.in_ok-take_line.ensures

pub returns : goal.returns
returns g c =
    let t = λ (k : g.row.K.Denot). g.K.WrittenKey.text (g.K.FlowKey.coded k) in
    let cs = c.loop-line.log.calls.items in (
      cs,
      subst (λ (x : List (Bor (List ℕ))). LinesRead t c.args.asks (map text x) cs c.loop-line.log.notes.items) (take_all c.loop-line.line-index c.args.lines.now (omega arith)) c.loop-line.invariant,
      ends c.push.new.self.items cs c.level_of-level.result (level_of c.args.asks) c.ample.result c.in_ok-push.ensures.items c.level_of-level.ensures c.ample.ensures,
    )
