-- A prefix kept with zeros behind it.
use Rattle.std.proofs.Common.{◌≡◌, List, ℕ, length, take, refl, sym, ◌∙◌, arith}
use lib.Seq.{take_all, take_at}
use Rattle.message.specs.Code.{bound_of, length_of}
use Rattle.message.specs.declared.Bound.{Bound}
use Rattle.reader.specs.Answers.{padded}

-- the zeros do not count
pub kept : (b : Bound) (p r : List ℕ) → length p ≡ length_of b → r ≡ padded p → bound_of b r ≡ bound_of b p
unfolding padded
kept Bound.Infinity p r l e = refl
kept (Bound.At t len) p r l e =
    let same : take len r ≡ take len p = rw e (take_at p _ len l) ∙ sym (take_all len p (omega arith)) in
    rw same refl
