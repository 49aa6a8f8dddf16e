-- The number of a refusal, from what a check answers.
use mathlib.Core.Path.{◌≡◌, refl, ap, ◌∙◌}
use Prim.Native.Nat.{ℕ}
use Rattle.table.specs.Answer.{Answer, answer, refused, verdict_of}
use Rattle.capi.specs.Calls.{number_in}

verdict-number : {B : Type 0} (a : Answer B) → number_in (verdict_of a) ≡ number_in a
verdict-number (answer b) = refl
verdict-number (refused k) = refl

pub number-told : {B : Type 0} (a : Answer B) (n : ℕ) (checked : Answer (Unit {0})) → n ≡ number_in checked → checked ≡ verdict_of a → n ≡ number_in a
number-told a n checked p q = p ∙ ap number_in q ∙ verdict-number a
