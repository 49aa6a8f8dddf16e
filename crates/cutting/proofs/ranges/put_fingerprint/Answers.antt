-- `cutting::ranges::put_fingerprint` meets its contract.
use mathlib.Core.Path.{◌≡◌, refl, ◌∙◌}
use native.Mathlib.Omega.{arith}
use lib.ListN.{length}
use borrow.Author.Rules.{rules}
use Rattle.writer.specs.Handover.{writes, buffer_of}
use Rattle.table.specs.Code.{lent}
use Rattle.table.specs.Table.{Table, items}
use Rattle.cutting.specs.Cutting.{fingerprint_of}
use Rattle.table.proofs.Items.{right_size}
use Rattle.cutting.proofs.Parts.{run_of, run-print, print-length, hands-print}
use Rattle.cutting.proofs.ranges.put_fingerprint.Goals as goal

pub overflow_mul-at : goal.overflow_mul-at
overflow_mul-at c =
    let r = right_size (lent c.args.times.now c.args.own.now) c.requires.0.0 in
    omega arith

pub overflow_mul-end : goal.overflow_mul-end
overflow_mul-end c =
    let r = right_size (lent c.args.times.now c.args.own.now) c.requires.0.0 in
    omega arith

pub slice_bounds-fingerprint_bytes-end : goal.slice_bounds-fingerprint_bytes-end
slice_bounds-fingerprint_bytes-end c =
    let r = right_size (lent c.args.times.now c.args.own.now) c.requires.0.0 in
    search rules

pub returns : goal.returns
returns c =
    let table : Table = lent c.args.times.now c.args.own.now in
    let a = c.args in
    let made = c.fingerprint_bytes-source in
    let own = run_of (items (table)) a.at a.end in
    let whole : length made.result ≡ 16 = search rules in
    let put = c.put in
    hands-print (writes a.pass) a.upper.bound a.upper.prefix made.result (fingerprint_of own) whole (print-length own)
    (λ e. made.ensures e ∙ run-print (table) c.requires.0 a.at a.end c.requires.1 c.requires.2 _ refl)
    a.writer.now (buffer_of a.pass a.out.now) put.new.self (buffer_of a.pass put.new.out) put.result c.requires.3 put.ensures.verdict_value put.ensures.writer_after put.ensures.out_after
