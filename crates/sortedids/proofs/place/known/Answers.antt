-- `sortedids::place::known` meets its contract.
use mathlib.Core.Path.{sym, ◌∙◌}
use lib.ListN.{take}
use borrow.Author.Tests.{le-ltb}
use Rattle.sortedids.proofs.Places.{id-there, id-nowhere}
use Rattle.sortedids.proofs.place.known.Goals as goal

pub returns-then-place-size : goal.returns-then-place-size
returns-then-place-size c =
    let a = c.args in
    c.stands_at.ensures ∙ sym (id-there (take 32 a.id.now) a.list.now a.size a.place c.requires.2 c.requires.4 c.if-place-size.true)

pub returns-else-place-size : goal.returns-else-place-size
returns-else-place-size c =
    let a = c.args in
    le-ltb _ _ c.if-place-size.false ∙ sym (id-nowhere (take 32 a.id.now) a.list.now a.size a.place c.requires.2 c.requires.4 c.if-place-size.false)
