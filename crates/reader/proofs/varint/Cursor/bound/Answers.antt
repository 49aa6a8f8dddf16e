use Rattle.std.proofs.Common.{drop}
use Rattle.message.specs.Code.{bound_of}
use Rattle.message.proofs.Forms.{key_is}
use Rattle.reader.proofs.ReadingBounds.{whole_prefix, compared}
use Rattle.reader.proofs.varint.Cursor.bound.Goals as goal

pub returns-then-not-below : goal.returns-then-not-below
returns-then-not-below c =
    let a = c.args in
    let u = c.in_ok-read.read.value in
    let x = c.in_ok-read.ensures in
    let k = key_is u.bound u.prefix.now _ _ c.time.ensures (whole_prefix u.bound u.prefix.now x.1.0) in
    let o = compared a.lower a.beside.now _ c.time-last.ensures _ c.prefix.ensures (bound_of u.bound u.prefix.now) (drop c.in_ok-read.read.next.at a.m.now) c.below.ensures k x.0 in
    (rw c.if-not-below.true at o, tt)

pub returns : goal.returns
returns c =
    let a = c.args in
    let u = c.in_ok-read.read.value in
    let x = c.in_ok-read.ensures in
    let k = key_is u.bound u.prefix.now _ _ c.time.ensures (whole_prefix u.bound u.prefix.now x.1.0) in
    let o = compared a.lower a.beside.now _ c.time-last.ensures _ c.prefix.ensures (bound_of u.bound u.prefix.now) (drop c.in_ok-read.read.next.at a.m.now) c.below.ensures k x.0 in
    (rw c.if-not-below.false at o, x.1)
