-- `needed::batch::flush` meets its contract.
use Prim.Native.Nat.{◌≤◌}
use mathlib.Core.Path.{ap, ◌∙◌}
use mathlib.Core.List.{flatten}
use native.Mathlib.Omega.{arith}
use lib.ListN.{length}
use Rattle.ends.specs.Lists.{overwrite}
use Rattle.index.proofs.Heaps.{pointing_kept}
use Rattle.needed.proofs.Buffers.{ids_sorted}
use Rattle.needed.proofs.Batching.{flushed}
use Rattle.needed.proofs.batch.flush.Goals as goal

pub distinct-once-requires : goal.distinct-once-requires
distinct-once-requires c =
    let b = c.requires.0 in
    let long = b.long in
    let wide = b.wide in
    let t = c.sort in
    (omega arith, pointing_kept c.args.m.now c.args.pos.now t.new.pos c.args.batch.count t.ensures.0 b.points, t.ensures.1, omega arith, t.ensures.2)

pub merge-requires : goal.merge-requires
merge-requires c =
    let a = c.args in
    let b = c.requires.0 in
    let n = a.batch.count in
    let once = c.distinct-once in
    let fresh = c.drop_known-fresh in
    let few : once.result ≤ n = once.ensures.0.few in
    let fewer : fresh.result ≤ once.result = fresh.ensures.upper_bound.0 in
    let long : n ≤ length a.pos.now = b.long in
    let wide : length a.pos.now ≤ length a.words.now = b.wide in
    let f = flushed a.m.now a.needed.now a.pos.now c.sort.new.pos once.new.pos fresh.new.pos a.batch.size n once.result fresh.result (λ k. omega (arith, c.type_inv.m k))
    (ids_sorted a.batch.size a.needed.now (λ k. omega (arith, c.slice_known-1.given k)) b.fits b.rises) b.long b.points c.sort.ensures.0 once.ensures.0 (omega arith) (omega arith) fresh.ensures.result_after in
    let counts = f.counts in
    let room = c.requires.1 in
    (omega arith, omega arith, fresh.ensures.upper_bound.2, fresh.ensures.upper_bound.1, f.rises, f.lacking, b.rises, omega arith)

pub overflow_add-result : goal.overflow_add-result
overflow_add-result c =
    let a = c.args in
    let b = c.requires.0 in
    let n = a.batch.count in
    let once = c.distinct-once in
    let fresh = c.drop_known-fresh in
    let few : once.result ≤ n = once.ensures.0.few in
    let fewer : fresh.result ≤ once.result = fresh.ensures.upper_bound.0 in
    let long : n ≤ length a.pos.now = b.long in
    let wide : length a.pos.now ≤ length a.words.now = b.wide in
    let f = flushed a.m.now a.needed.now a.pos.now c.sort.new.pos once.new.pos fresh.new.pos a.batch.size n once.result fresh.result (λ k. omega (arith, c.type_inv.m k))
    (ids_sorted a.batch.size a.needed.now (λ k. omega (arith, c.slice_known-1.given k)) b.fits b.rises) b.long b.points c.sort.ensures.0 once.ensures.0 (omega arith) (omega arith) fresh.ensures.result_after in
    let counts = f.counts in
    let room = c.requires.1 in
    omega (arith, c.well_formed.0)

pub returns : goal.returns
returns c =
    let a = c.args in
    let b = c.requires.0 in
    let n = a.batch.count in
    let once = c.distinct-once in
    let fresh = c.drop_known-fresh in
    let few : once.result ≤ n = once.ensures.0.few in
    let fewer : fresh.result ≤ once.result = fresh.ensures.upper_bound.0 in
    let long : n ≤ length a.pos.now = b.long in
    let wide : length a.pos.now ≤ length a.words.now = b.wide in
    let f = flushed a.m.now a.needed.now a.pos.now c.sort.new.pos once.new.pos fresh.new.pos a.batch.size n once.result fresh.result (λ k. omega (arith, c.type_inv.m k))
    (ids_sorted a.batch.size a.needed.now (λ k. omega (arith, c.slice_known-1.given k)) b.fits b.rises) b.long b.points c.sort.ensures.0 once.ensures.0 (omega arith) (omega arith) fresh.ensures.result_after in
    (f.counts, c.merge.ensures ∙ ap (λ l. overwrite (flatten l) a.needed.now) f.means)
