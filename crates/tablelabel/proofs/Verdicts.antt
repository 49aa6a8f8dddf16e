-- What the answer of the checks with the label tells.
use Prim.Native.Nat.{ℕ}
use mathlib.Core.Path.{◌≡◌, refl}
use Rattle.message.proofs.Exact.{by_test, differ}
use Rattle.label.specs.Label.{Label}
use Rattle.table.specs.Answer.{Answer, answer, refused}
use Rattle.table.specs.Table.{Table, wrong_size, not_rising, judge_table}
use Rattle.table.specs.Private.{Passed}

module _ (T : Table) (label : Label) where
  pub labelled-passed : {told : Label} → answer told ≡ judge_table T (answer label) → Passed T × (told ≡ label)
  labelled-passed {told} h =
      by_test (wrong_size T)
      (λ e. let g = rw e at h in differ (cc))
      (λ e. by_test (not_rising T)
      (λ f. let g = rw (e, f) at h in differ (cc))
      (λ f. ((e, f), let z : ◌≡◌ {A = Answer Label} (answer told) (answer label) = rw (e, f) at h in cc)))

  pub labelled-refused : {A : Type 0} (next : Answer A) (k : ℕ) → refused k ≡ judge_table T (answer label) → refused k ≡ judge_table T next
  labelled-refused next k h =
      by_test (wrong_size T)
      (λ e. let g : k ≡ 1 = let z = rw e at h in cc in rw (g, e) refl)
      (λ e. by_test (not_rising T)
      (λ f. let g : k ≡ 2 = let z = rw (e, f) at h in cc in rw (g, e, f) refl)
      (λ f. let g = rw (e, f) at h in differ (cc)))
