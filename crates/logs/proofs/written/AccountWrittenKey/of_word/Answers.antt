use Rattle.std.proofs.Common.{◌≡◌, false, true, ◌&&◌, eqb, ℕ, List, length, Result, Ok, Err, sym, ap, ◌∙◌, subst, arith}
use Rattle.std.proofs.lemmas.Bool.Decides.{nat_tests}
use Rattle.std.specs.Str.Parse.{AllDigits}
use Rattle.flow.specs.declared.account.Account.{Account}
use Rattle.flow.specs.declared.code.Code.{Code}
use Rattle.flow.specs.declared.refusal.Refusal.{Refusal}
use Rattle.flow.specs.Answers.{told, answer_map}
use Rattle.flow.specs.Keys.{read_answer}
use Rattle.flow.specs.Spellings.{all_digits, account_spelled}
use Rattle.flow.proofs.Digits.{all_told}
use Rattle.logs.specs.Texts.{account_text, ReadFrom}
use Rattle.logs.specs.Laws.{ten_digits_of}
use Rattle.logs.proofs.Accounts.{same_digits, all_shown}
use Rattle.logs.proofs.Spelled.{read_passed, read_failed}
use Rattle.logs.proofs.written.AccountWrittenKey.of_word.Goals as goal

abbrev coded : Account → Code
coded k = record { high = 0; low = k.number }

-- what spells an account on a tape is its written form
read_as_written : (word : List ℕ) (r : Result Account Refusal) → answer_map coded (told r) ≡ read_answer (account_spelled word) → ReadFrom (λ k. account_text (coded k)) word r
read_as_written word (Ok k) h =
    let p = read_passed _ _ (coded k) h in
    let t = ten_digits_of k.number k.short in
    let ten : length word ≡ 10 = grind (arith, nat_tests, p.0) in
    let all : all_digits word ≡ true = grind (arith, nat_tests, p.0) in
    same_digits (account_text (coded k)) word (t.0 ∙ sym ten) t.1 (all_shown word all) (t.2 ∙ ap (λ (c : Code). c.low) p.1)
read_as_written word (Err e) h =
    let p = read_failed _ _ _ h in (
      p.0,
      λ k w.
          let t = subst (λ (l : List ℕ). (length l ≡ 10) × AllDigits 10 l) w (let t = ten_digits_of k.number k.short in (t.0, t.1)) in
          let not : (eqb (length word) 10 && all_digits word) ≡ false = p.1 in
          absurd (grind (arith, nat_tests, not, t.0, all_told word t.1)),
    )

pub returns : goal.returns
returns c = read_as_written c.args.word.now c.read.result c.read.ensures
