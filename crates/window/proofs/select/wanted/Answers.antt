-- `window::select::wanted` meets its contract.
use mathlib.Core.Path.{◌≡◌, sym, ◌∙◌}
use mathlib.Core.Bool.{true}
use lib.Dec.{leb, ltb}
use lib.ListN.{drop}
use borrow.Author.Tests.{le-ltb}
use Rattle.message.specs.Bound.{big_endian}
use Rattle.idlist.specs.Positions.{key_at}
use Rattle.window.specs.Windows.{limits}
use Rattle.window.proofs.select.wanted.Goals as goal
use Rattle.window.proofs.select.wanted.Goals.{then-stays, else-stays}

pub returns-else-n-lt11008 : goal.returns-else-n-lt11008
unfolding key_at
returns-else-n-lt11008 c =
    let f = limits c.args.interval c.args.m.now in
    let x = big_endian 32 (drop c.args.p c.args.m.now) in
    elim c.if-stays.branch [
      | then-stays w ↦
          let within : ltb x f.to ≡ true = sym c.stays.ensures ∙ w.if-stays.true in
          let above : leb f.from x ≡ true = sym w.reaches.ensures ∙ (sym w.value-is ∙ c.if-reaches.true) in
          rw (within, above, le-ltb _ _ c.if-n-lt11008.false) c.comes_before.ensures
      | else-stays w ↦ cc
    ]
