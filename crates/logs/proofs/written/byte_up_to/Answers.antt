use Rattle.std.proofs.Common.{◌≡◌, ℕ, ◌+◌, ◌-◌, List, ◌∷◌, ◌++◌, Option, MatchOption, Bor, length, take, drop, sym, ap, ◌∙◌, subst, arith, take_all, length-drop}
use Rattle.std.specs.Fmt.{decimal}
use Rattle.logs.specs.Texts.{WritesInFront}
use Rattle.logs.proofs.Texts.{found, cut_at}
use Rattle.logs.proofs.written.byte_up_to.Goals as goal

-- what the function promises of a text
abbrev Answers : List ℕ → ℕ → Option (ℕ × Bor (List ℕ)) → Type 0
Answers text end o = MatchOption o ((n : ℕ) (rest : List ℕ) → WritesInFront text end n rest → ⊥) (λ p. WritesInFront text end p.0 p.1.now)

pub returns-in_err-at : goal.returns-in_err-at
returns-in_err-at c =
    subst (Answers c.args.text.now c.args.end) (sym c.from_residual.ensures)
    (λ n rest w. let f = found n c.args.end rest c.args.text.now c.requires w in let g = c.in_err-at.ensures in cc (f.0, g))

pub returns-in_err-front : goal.returns-in_err-front
returns-in_err-front c =
    subst (Answers c.args.text.now c.args.end) (sym c.from_residual-in_err-front.ensures)
    (λ n rest w. let f = found n c.args.end rest c.args.text.now c.requires w in let g = c.in_ok-at.ensures in
    let k : c.in_ok-at.at ≡ length (decimal n) = cc (f.0, g) in
    c.in_err-front.ensures n (w.0, ap (λ (i : ℕ). take i c.args.text.now) k ∙ f.1))

pub returns : goal.returns
returns c =
    let t = c.args.text.now in
    let i = c.in_ok-at.at in
    let rest : take (length t - (i + 1)) (drop (i + 1) t) ≡ drop (i + 1) t = take_all (length t - (i + 1)) (drop (i + 1) t) (omega (arith, length-drop (i + 1) t)) in (
      c.in_ok-front.ensures.0,
      cut_at c.args.end t i (sym c.in_ok-at.ensures) ∙ ap (λ (l : List ℕ). l ++ c.args.end ∷ drop (i + 1) t) c.in_ok-front.ensures.1
          ∙ ap (λ (l : List ℕ). decimal c.in_ok-front.front ++ c.args.end ∷ l) (sym rest),
    )
