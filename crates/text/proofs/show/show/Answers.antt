use Rattle.std.proofs.Common.{[], ap, ◌∙◌, sym, refl, arith}
use Rattle.message.specs.Message.{read_message}
use Rattle.message.specs.Code.{number_of}
use Rattle.reader.proofs.Stepping.{message-read}
use Rattle.text.specs.Text.{refusal_line, put}
use Rattle.text.proofs.Showing.{bytes_of, no_room, not-long, printed-refused, shows_all}
use Rattle.text.proofs.show.show.Goals as goal

pub returns-then-out-lt-ROOM : goal.returns-then-out-lt-ROOM
unfolding put
returns-then-out-lt-ROOM c =
    let out = c.args.out.now in
    let m = c.args.m.now in
    let z = shows_all out m out [] 0 (bytes_of m c.type_inv.m) (no_room out m c.if-out-lt-ROOM.true) refl refl in
    record { value = z.0; out_after = z.1.0; prefix_len = z.1.1 }

pub put_ranges-requires : goal.put_ranges-requires
put_ranges-requires c =
    (omega arith, c.if-out-lt-ROOM.false, message-read c.args.m.now _ c.in-Ok.ensures)

pub returns-in-Err : goal.returns-in-Err
returns-in-Err c =
    let out = c.args.out.now in
    let m = c.args.m.now in
    let p = c.put_refusal in
    let text =
    not-long out m c.if-out-lt-ROOM.false (omega arith)
    ∙ printed-refused (read_message m) (number_of c.in-Err.refusal) c.in-Err.ensures
    ∙ ap refusal_line (sym c.number.ensures) in
    let z = shows_all out m p.new.out _ p.result (bytes_of m c.type_inv.m) text p.ensures.value.0 p.ensures.out_after in
    record { value = z.0; out_after = z.1.0; prefix_len = z.1.1 }

pub returns-in-Ok : goal.returns-in-Ok
returns-in-Ok c =
    let out = c.args.out.now in
    let m = c.args.m.now in
    let p = c.put_ranges in
    let text = not-long out m c.if-out-lt-ROOM.false (omega arith) in
    let z = shows_all out m p.new.out _ p.result (bytes_of m c.type_inv.m) text p.ensures.value p.ensures.out_after in
    record { value = z.0; out_after = z.1.0; prefix_len = z.1.1 }
