-- `removal::bits::count_bits` meets its contract. The invariant: the sum counts the ones before the place.
use Rattle.std.proofs.Common.{◌≡◌, ◌∙◌, ◌<◌, sym, eqb, length, take, arith}
use Rattle.std.proofs.lemmas.List.Sums.{count_by_more_yes, count_by_more_no}
use borrow.Author.Tests.{eq-eqb, ne_eqb}
use Rattle.marks.proofs.Marking.{ones-count_by}
use Rattle.removal.specs.Removing.{bits_in}
use Rattle.removal.proofs.Bitwise.{bits_in_length}
use Rattle.removal.proofs.bits.count_bits.Goals as goal
use Rattle.removal.proofs.bits.count_bits.Goals.{then-bit-eq1, else-bit-eq1}

pub loop-k-preserved : goal.loop-k-preserved
loop-k-preserved c =
    let l = c.loop-k in
    let bits = bits_in c.args.marks.now in
    let inside : l.k < length (bits_in c.args.marks.now) = omega (arith, c.requires, bits_in_length c.args.marks.now) in
    elim c.if-bit-eq1.branch [
      | then-bit-eq1 w ↦
          let e = count_by_more_yes (λ x. eqb x 1) bits l.k 0 inside (eq-eqb _ _ (sym c.bit.ensures ∙ w.if-bit-eq1.true)) in
          let s = w.sum-is in
          (omega arith, omega arith)
      | else-bit-eq1 w ↦
          let e = count_by_more_no (λ x. eqb x 1) bits l.k 0 inside (ne_eqb _ _ (λ z. w.if-bit-eq1.false (c.bit.ensures ∙ z))) in
          let s = w.sum-is in
          (omega arith, omega arith)
    ]

pub returns : goal.returns
returns c =
    let l = c.loop-k in
    let all : l.k ≡ c.args.count = omega arith in
    (rw all at l.invariant.1) ∙ sym (ones-count_by (take c.args.count (bits_in c.args.marks.now)))
