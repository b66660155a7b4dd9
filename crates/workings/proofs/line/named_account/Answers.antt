use Rattle.std.proofs.Common.{◌≡◌, ℕ, ◌^◌, ◌<◌, ◌≤◌, true, cond, ltb, Bool, List, length, Option, Result, Ok, Err, MatchOption, sym, ap, ◌∙◌, subst, arith, lit<}
use Rattle.std.specs.Result.{result_ok}
use Rattle.std.proofs.lemmas.Bool.{lt-ltb}
use Rattle.flow.specs.Answers.{answered, refused, told, answer_map}
use Rattle.flow.specs.declared.account.Account.{Account}
use Rattle.flow.specs.declared.refusal.Refusal.{Refusal}
use Rattle.workings.specs.Lines.{IsName}
use native.Mathlib.Nat.{pow-le-pow_right}
use Rattle.std.specs.Str.Parse.{digits_value, AllDigits}
use Rattle.std.proofs.lemmas.Int.Digits.{digits_value-lt}
use Rattle.workings.proofs.line.named_account.Goals as goal

-- ten digits write a number below 10 ^ 10
ten_digits : (word : List ℕ) → AllDigits 10 word → length word ≤ 10 → digits_value 10 word < 10 ^ 10
ten_digits word d l = let p : 10 ^ length word ≤ 10 ^ 10 = pow-le-pow_right (lit< tt) l in omega (arith, digits_value-lt 10 word d, p)

-- what is answered with the number is the account of it
account_of : (r : Result Account Refusal) (n : ℕ) (Named : Type 0) → Named → answer_map (λ (k : Account). k.number) (told r) ≡ answered n →
    MatchOption (result_ok r) (Named → ⊥) (λ a. Named × (a.number ≡ n))
account_of (Ok a) n Named named h = (named, cc h)
account_of (Err e) n Named named h = absurd (cc h)

pub returns : goal.returns
returns c =
    let word = c.args.word.now in
    let named : IsName word = (c.in_ok-number.ensures.0, c.if-word-gt-NAME_DIGITS.false) in
    let small = ten_digits word named.0.1 named.1 in
    let e : c.in_ok-number.field-0 ≡ digits_value 10 word = omega (arith, c.in_ok-number.ensures.1, small) in
    let below : ltb c.in_ok-number.field-0 (10 ^ 10) ≡ true = lt-ltb _ _ (omega (arith, e, small)) in
    let made = c.new.ensures ∙ ap (λ (b : Bool). cond b (answered c.in_ok-number.field-0) (refused 14)) below in
    subst (λ (o : Option Account). MatchOption o (IsName word → ⊥) (λ a. IsName word × (a.number ≡ digits_value 10 word))) (sym c.ok.ensures.value)
    (account_of c.new.result (digits_value 10 word) (IsName word) named (made ∙ ap (λ (m : ℕ). answered m) e))
