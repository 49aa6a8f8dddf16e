-- `index::lookup::Index::meet` meets its contract. The invariant: the first j ids of the list are searched.
use Prim.Native.Nat.{◌-◌, ◌*◌}
use native.Mathlib.Omega.{arith}
use lib.ListN.{drop, get_or}
use Rattle.message.specs.Bound.{big_endian}
use Rattle.message.proofs.Order.{Small, small-drop}
use Rattle.reader.proofs.Listing.{part-from}
use Rattle.index.specs.Filter.{Outside}
use Rattle.index.specs.Lookup.{Hit, number_of}
use Rattle.index.proofs.Directory.{outside_lacks}
use Rattle.index.proofs.Meeting.{met_next, met_past}
use Rattle.index.proofs.lookup.Index.meet.Goals as goal
use Rattle.index.proofs.lookup.Index.meet.Goals.{then-lies_inside, else-lies_inside}

pub loop-j-preserved : goal.loop-j-preserved
loop-j-preserved c =
    let list = c.args.list.now in
    let self = c.args.self.now in
    let l = c.loop-j in
    let small : Small list = λ k. omega (arith, c.type_inv.list k) in
    elim c.if-lies_inside.branch [
      | then-lies_inside w ↦
          let hit : Hit self.ids.now self.pos.now self.n (number_of list l.j) l.found w.hit-hint.new.found = rw (part-from list (l.j * 32)) at w.hit-hint.ensures in
          rw w.found-is (met_next list l.j self.ids.now self.words.now self.pos.now l.found _ self.n self.sound l.invariant hit)
      | else-lies_inside w ↦
          let out : Outside (get_or self.words.now 0 0) (get_or self.words.now (self.n - 1) 0) (big_endian 8 (drop (l.j * 32) list)) = rw c.word.ensures at (c.lies_inside.ensures w.if-lies_inside.false) in
          rw w.found-is (met_past list l.j self.ids.now self.words.now self.pos.now l.found self.n self.sound (outside_lacks self.sound (drop (l.j * 32) list) (small-drop (l.j * 32) list small) out) l.invariant)
    ]
