-- `room::count_not_found` meets its contract.
use Rattle.std.proofs.Common.{ℕ, List, take, cond, eqb, rules, tests, arith}
use Rattle.std.proofs.lemmas.Iterator.{YieldsList-from_slice, YieldsList-from_map}
use Rattle.std.proofs.lemmas.Iterator.Consumers.{sum_by_from_yields_List, fits_by_from_yields_list}
use Rattle.std.proofs.lemmas.List.Sums.{count_by-le-length}
use lib.Seq.{length-take-le}
use Rattle.room.proofs.count_not_found.Goals as goal

pub sum-requires-clause-fits : goal.sum-requires-clause-fits
sum-requires-clause-fits c =
    let m : List ℕ = take c.args.n c.args.found.now in
    let one : ℕ → ℕ = λ x. cond (eqb x 0) 1 0 in
    fits_by_from_yields_list one m c.map.result _ (YieldsList-from_map _ one (YieldsList-from_slice m cc) c.map.ensures.closure (λ x r q k. search (rules, tests)))
    (omega (arith, count_by-le-length (λ x. eqb x 0) m, length-take-le c.args.n c.args.found.now c.requires))

pub returns : goal.returns
returns c =
    let m : List ℕ = take c.args.n c.args.found.now in
    let one : ℕ → ℕ = λ x. cond (eqb x 0) 1 0 in
    sum_by_from_yields_List one m c.map.result c.sum.result c.sum.ensures.ran
    (YieldsList-from_map _ one (YieldsList-from_slice m cc) c.map.ensures.closure (λ x r q k. search (rules, tests)))
