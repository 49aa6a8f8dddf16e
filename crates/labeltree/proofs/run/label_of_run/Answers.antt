-- `labeltree::run::label_of_run` meets its contract.
use mathlib.Core.Path.{◌≡◌}
use Prim.Native.Nat.{ℕ, ◌+◌, ◌/◌}
use lib.ListN.{length}
use native.Mathlib.Omega.{arith}
use Rattle.std.proofs.lemmas.Bool.Decides.{nat_tests}
use Rattle.tree.specs.Tree.{depth_of, cut_to}
use Rattle.tree.proofs.Halves.{reach_whole}
use Rattle.tree.proofs.Calls.{size_wrong, size_right, run_refuses, run-answers, run-size}
use Rattle.labeltree.specs.Code.{found_in}
use Rattle.labeltree.proofs.run.label_of_run.Goals as goal

pub returns-then-not-has_size : goal.returns-then-not-has_size
returns-then-not-has_size c =
    let a = c.args in
    let d = c.depth_of-depth in
    run_refuses a.tree.now a.from a.to (size_wrong (depth_of (length a.tree.now / 80 + 1)) (length a.tree.now) d.result.places d.ensures.1 _ c.has_size.ensures c.if-not-has_size.true)

pub visit_half-requires : goal.visit_half-requires
visit_half-requires c =
    let levels : ℕ = depth_of (length c.args.tree.now / 80 + 1) in
    let d = c.depth_of-depth in
    let n = length c.args.tree.now in
    let right = size_right levels n d.result.places d.ensures.1 _ c.has_size.ensures c.if-not-has_size.false in
    rw (d.ensures.0, d.ensures.1) (reach_whole n levels (run-size c.args.tree.now c.args.from c.args.to right))

pub returns : goal.returns
returns c =
    let a = c.args in
    let d = c.depth_of-depth in
    let right = size_right (depth_of (length a.tree.now / 80 + 1)) (length a.tree.now) d.result.places d.ensures.1 _ c.has_size.ensures c.if-not-has_size.false in
    let end : c.min-end.result ≡ cut_to d.result.places a.to = grind (arith, nat_tests) in
    run-answers a.tree.now a.from a.to (found_in c.visit_half.result) d.result.levels d.result.places c.min-end.result right d.ensures.0 d.ensures.1 end c.visit_half.ensures
