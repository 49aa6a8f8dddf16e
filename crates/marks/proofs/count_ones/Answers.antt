-- `marks::count_ones` meets its contract.
use Rattle.std.proofs.Common.{◌∙◌, ℕ, sym, cond, eqb, rules, tests, arith}
use Rattle.std.proofs.lemmas.Iterator.{YieldsList-from_slice, YieldsList-from_map}
use Rattle.std.proofs.lemmas.Iterator.Consumers.{sum_by_from_yields_List, fits_by_from_yields_list}
use Rattle.std.proofs.lemmas.List.Sums.{count_by-le-length}
use Rattle.marks.proofs.Marking.{ones-count_by}
use Rattle.marks.proofs.count_ones.Goals as goal

pub sum-requires-clause-fits : goal.sum-requires-clause-fits
sum-requires-clause-fits c =
    let m = c.args.marks.now in
    let one : ℕ → ℕ = λ x. cond (eqb x 1) 1 0 in
    fits_by_from_yields_list one m c.map.result _ (YieldsList-from_map _ one (YieldsList-from_slice m cc) c.map.ensures.closure (λ x r q k. search (rules, tests)))
    (omega (arith, count_by-le-length (λ x. eqb x 1) m))

pub returns : goal.returns
returns c =
    let m = c.args.marks.now in
    let one : ℕ → ℕ = λ x. cond (eqb x 1) 1 0 in
    sum_by_from_yields_List one m c.map.result c.sum.result c.sum.ensures.ran
    (YieldsList-from_map _ one (YieldsList-from_slice m cc) c.map.ensures.closure (λ x r q k. search (rules, tests)))
    ∙ sym (ones-count_by m)
