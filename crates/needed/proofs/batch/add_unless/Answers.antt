-- `needed::batch::add_unless` meets its contract.
use mathlib.Core.Path.{◌≡◌, refl}
use mathlib.Core.List.{[], ◌∷◌}
use native.Mathlib.Omega.{arith}
use lib.ListN.{length, take, drop}
use borrow.Author.Tests.{eq-eqb}
use Rattle.needed.specs.Batches.{meant, unless}
use Rattle.needed.proofs.Batching.{same-batch, room_now, adding_starts, adding_puts, adding_ends}
use Rattle.needed.proofs.batch.add_unless.Goals as goal

pub returns-then-found-ne0 : goal.returns-then-found-ne0
returns-then-found-ne0 c =
    let a = c.args in
    same-batch a.m.now a.needed.now a.words.now a.pos.now a.batch a.found (take 32 (drop a.p a.m.now)) c.requires.0 c.if-found-ne0.true

pub make_room-room-requires : goal.make_room-room-requires
make_room-room-requires c =
    let a = c.args in
    (c.requires.0, c.requires.1, room_now (meant a.m.now a.needed.now a.pos.now a.batch) (unless a.found (take 32 (drop a.p a.m.now))) (length a.needed.now) c.requires.3)

pub returns : goal.returns
returns c =
    let a = c.args in
    let m = a.m.now in
    let r = c.make_room-room in
    let t = c.put in
    let d = take 32 (drop a.p m) in
    let e : a.found ≡ 0 = c.if-found-ne0.false in
    let start = adding_starts m a.needed.now a.words.now a.pos.now a.batch (d ∷ []) c.requires.0 in
    let more = adding_puts m a.needed.now a.batch _ [] a.p (λ k. omega (arith, c.type_inv.m k)) c.requires.2 tt
    a.needed.now a.words.now a.pos.now a.batch (λ k. omega (arith, c.slice_known-1.given k)) start
    r.new.needed r.new.words r.new.pos r.result (λ k. omega (arith, c.type_inv.needed k)) r.ensures.0 r.ensures.1
    t.new.words t.new.pos t.result t.ensures.0 t.ensures.1 t.ensures.2 t.ensures.3 in
    rw (eq-eqb a.found 0 e) (adding_ends m a.needed.now a.batch _ [] r.new.needed t.new.words t.new.pos t.result refl more)
