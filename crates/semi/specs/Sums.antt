-- The estimates of different codes that are large sum to little.
use Rattle.std.specs.Prelude.{◌≡◌, ℕ, ◌+◌, ◌-◌, ◌*◌, ◌<◌, ◌≤◌, true, List, [], ◌∷◌, length}
use Rattle.std.proofs.Common.{ap, inl, inr, arith, mul_comm, mul-le-mul_left}
use Rattle.semi.specs.Entries.{entry_of_held, entry_of-without, holds-without_other, small_of, small-without, total-without}
use Rattle.semi.specs.Estimates.{estimate_full, estimate_room, full_bound}
use Rattle.semi.specs.Line.{Lawful, Small, blank, entry_of, estimate, holds, total, value, without}
use Rattle.semi.specs.declared.entry.Entry.{Entry}
use Rattle.flow.proofs.Sums.{Holding, Shown, sum_held}
use Rattle.flow.specs.Meanings.{Distinct, sum_of}
use Rattle.flow.specs.declared.code.Code.{Code}
use Rattle.std.proofs.lemmas.Bool.{cases_Bool, cases_lt}
use Rattle.std.specs.List.{AllByRecursion}

-- a line with small remainders holds the codes of its entries, each worth its entry's value
abbrev pub holding : (s : ℕ) → Holding ((line : List Entry) × Small s line)
holding s = record {
  holds = λ k x. holds k x.0;
  worth = λ k x. value s (entry_of k x.0 blank);
  whole = λ x. total s x.0;
  without = λ k x. (without k x.0, small-without s k x.0 x.1);
  taken = λ k x h. omega (arith, total-without s k x.0 blank h, small_of s k x.0 blank x.1 h);
  holds_other = λ j k x b. holds-without_other j k x.0 b;
  worth_other = λ j k x b. ap (value s) (entry_of-without j k x.0 blank b);
}

-- codes whose estimates are at least m, where n times m is past the bound, are all held
all_held : (n s t v m : ℕ) (line : List Entry) (ks : List Code) → 0 < n → (l : Lawful n s t v line) → v + t * (s - 1) < n * m →
    AllByRecursion (λ k. m ≤ estimate n s line k) ks → AllByRecursion (Shown (holding s) (estimate n s line) (line, l.small)) ks
all_held n s t v m line [] some l q e = tt
all_held n s t v m line (k ∷ ks) some l q e =
    let held : holds k line ≡ true = elim (cases_Bool (holds k line)) [
      | inl y ↦ y
      | inr y ↦ absurd (elim (cases_lt (length line) n) [
        | inl r ↦ omega (arith, estimate_room n s line k y r, e.0, mul-le-mul_left n e.0, ap (λ (x : ℕ). n * x) (estimate_room n s line k y r), mul_comm n 0)
        | inr r ↦ omega (arith, mul-le-mul_left n e.0, ap (λ (x : ℕ). n * x) (estimate_full n s line k y r), full_bound n s t v line l r)
      ])
    ] in
    ((held, ap (value s) (entry_of_held k line _ blank held)), all_held n s t v m line ks some l q e.1)

-- the law of a counter
pub large_sum : (n s t v m : ℕ) (line : List Entry) (ks : List Code) → 0 < n → 0 < s → Lawful n s t v line → v + t * (s - 1) < n * m →
    Distinct ks → AllByRecursion (λ k. m ≤ estimate n s line k) ks → sum_of (estimate n s line) ks ≤ v + t * (s - 1)
large_sum n s t v m line ks some step l q a e =
    omega (arith, sum_held (holding s) (estimate n s line) (line, l.small) ks a (all_held n s t v m line ks some l q e), l.sum)
