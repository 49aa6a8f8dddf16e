-- `window::select::offer_unless` meets its contract.
use borrow.Author.Tests.{eq-eqb, ne_eqb}
use Rattle.window.specs.Windows.{limits}
use Rattle.window.proofs.Selecting.{id_unwanted, id-taken, inside-taken}
use Rattle.window.proofs.select.offer_unless.Goals as goal
use Rattle.window.proofs.select.offer_unless.Goals.{else-found-eq0-via-then-found-eq0+else-wanted, else-found-eq0-via-else-found-eq0}

pub returns-then-wanted : goal.returns-then-wanted
returns-then-wanted c =
    let a = c.args in
    let o = c.offer in
    (o.ensures.placed, λ all rest g. id-taken a.m.now all a.p rest (limits a.interval a.m.now) a.words.now a.pos.now a.n c.requires.4 (rw (eq-eqb a.found 0 c.if-found-eq0.true) at g) c.wanted.result c.wanted.ensures c.if-wanted.true o.new.words o.new.pos o.result o.ensures, inside-taken a.m.now a.p (limits a.interval a.m.now) a.pos.now a.n c.wanted.result c.wanted.ensures c.if-wanted.true o.new.words o.new.pos o.result o.ensures)

pub returns-else-found-eq0 : goal.returns-else-found-eq0
returns-else-found-eq0 c =
    let a = c.args in
    elim c.else-found-eq0.branch [
      | else-found-eq0-via-then-found-eq0+else-wanted w ↦
          (c.requires.4, λ all rest g. id_unwanted a.m.now all a.p rest (limits a.interval a.m.now) a.words.now a.pos.now a.n c.requires.4 (rw (eq-eqb a.found 0 w.if-found-eq0.true) at g) w.wanted.result w.wanted.ensures w.if-wanted.false, λ h. h)
      | else-found-eq0-via-else-found-eq0 w ↦ (c.requires.4, λ all rest g. rw (ne_eqb a.found 0 w.if-found-eq0.false) at g, λ h. h)
    ]
