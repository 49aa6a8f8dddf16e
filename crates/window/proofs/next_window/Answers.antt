-- `window::next_window` meets its contract.
use Prim.Native.Nat.{◌≤◌}
use native.Mathlib.Omega.{arith}
use Rattle.table.specs.Code.{lent}
use Rattle.walk.specs.Walking.{starts}
use Rattle.index.proofs.Heaps.{pointing_kept}
use Rattle.walk.specs.Adding.{added_from}
use Rattle.window.specs.Windows.{limits}
use Rattle.window.proofs.Selecting.{window_made}
use Rattle.window.proofs.next_window.Goals as goal

pub distinct-distinct-requires : goal.distinct-distinct-requires
distinct-distinct-requires c =
    let g = c.gather-count in
    let s = c.sort in
    let few : g.result ≤ 11008 = g.ensures.few in
    (omega arith, pointing_kept c.args.m.now g.new.pos s.new.pos g.result s.ensures.0 g.ensures.points, s.ensures.1, omega arith, s.ensures.2)

pub returns : goal.returns
returns c =
    let a = c.args in
    let g = c.gather-count in
    let s = c.sort in
    let d = c.distinct-distinct in
    (window_made a.m.now (added_from (lent a.times.now a.own.now) a.m.now starts) (limits a.interval a.m.now) g.new.words g.new.pos g.result g.ensures s.new.pos s.ensures.0 d.new.pos d.result d.ensures.0, d.ensures.1)
