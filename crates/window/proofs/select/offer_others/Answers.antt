-- `window::select::offer_others` meets its contract.
use Prim.Native.Nat.{ℕ, ◌-◌, ◌*◌}
use mathlib.Core.List.{List}
use lib.ListN.{drop}
use Rattle.message.specs.Code.{ids_in}
use Rattle.window.proofs.Selecting.{picked_none, found-told}
use Rattle.window.proofs.select.offer_others.Goals as goal

pub returns-then-count-eq0 : goal.returns-then-count-eq0
returns-then-count-eq0 c =
    let owns : List (List ℕ) = ids_in (c.args.span.hi - c.args.span.lo) (drop (c.args.span.lo * 32) c.args.own.now) in
    let a = c.args in
    (c.requires.6, λ all rest g. rw (picked_none (owns) a.m.now a.picks.now a.count rest c.if-count-eq0.true) at g)

pub returns : goal.returns
returns c =
    let owns : List (List ℕ) = ids_in (c.args.span.hi - c.args.span.lo) (drop (c.args.span.lo * 32) c.args.own.now) in
    let a = c.args in
    let o = c.offer_picked in
    let e = c.contains_each in (
      o.ensures.0,
      λ all rest g. o.ensures.1 (owns) all rest
          (found-told a.own.now a.m.now a.ids.now a.picks.now (a.span.lo * 32) (a.span.hi - a.span.lo) a.count e.new.found c.requires.2 e.ensures) g,
    )
