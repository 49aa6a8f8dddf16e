-- `index::lookup::by_index` meets its contract. The invariant: what the first `done` ids of the list hold is noted.
use Prim.Native.Nat.{ℕ, ◌+◌, ◌*◌, ◌<◌}
use mathlib.Core.Path.{◌≡◌, ◌∙◌}
use native.Mathlib.Omega.{arith}
use lib.ListN.{length, get_or, get_or-append}
use lib.Seq.{length-take-le}
use borrow.Author.Rules.{rules}
use Rattle.std.proofs.Common.{min}
use Rattle.reader.proofs.Listing.{part-from}
use Rattle.index.proofs.Finding.{none-noted, more-noted}
use Rattle.index.proofs.lookup.by_index.Goals as goal

pub loop-done-init : goal.loop-done-init
loop-done-init c =
    let a = c.args in
    let zero : (i : ℕ) → i < a.n → get_or c.fill.new.self i 0 ≡ 0 = search rules in
    let long : length c.fill.new.self ≡ a.n = c.fill.ensures.len ∙ length-take-le a.n a.found.now c.requires.2 in
    let none : min 0 a.count ≡ 0 = omega arith in
    rw none (λ i h. none-noted a.list.now a.ids.now i _ (get_or-append c.fill.new.self _ 0 i (omega arith) ∙ zero i h))

pub loop-done-preserved : goal.loop-done-preserved
loop-done-preserved c =
    let a = c.args in
    let l = c.loop-done in
    let part = c.min-part.result in
    let before : min l.done a.count ≡ l.done = omega arith in
    let after : min (l.done + length a.words.now) a.count ≡ l.done + part = omega (arith, c.min-part.ensures) in
    let noted = rw before at l.invariant in
    let e = rw (part-from a.list.now (l.done * 32)) at c.note.ensures in
    rw after (λ i h. more-noted a.list.now a.ids.now l.done part i (get_or l.found i 0) _ (noted i h) (e i h))

pub returns : goal.returns
returns c =
    let all : min c.loop-done.done c.args.count ≡ c.args.count = omega arith in
    rw all at c.loop-done.invariant

pub returns-2 : goal.returns-2
returns-2 c =
    let a = c.args in
    let l = c.loop-done in
    let part = c.min-part.result in
    let before : min l.done a.count ≡ l.done = omega arith in
    let after : l.done + part ≡ a.count = omega (arith, c.min-part.ensures) in
    let noted = rw before at l.invariant in
    let e = rw (part-from a.list.now (l.done * 32)) at c.note.ensures in
    rw (← after) (λ i h. more-noted a.list.now a.ids.now l.done part i (get_or l.found i 0) _ (noted i h) (e i h))
