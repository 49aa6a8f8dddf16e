-- `label::Label::fingerprint` meets its contract: the sum and the count are laid behind one another in the array.
use Rattle.std.proofs.Common.{◌≡◌, ◌≤◌, replicate, sym, refl, arith, length-take-le, w64, Fits, rules, length}
use borrow.Rule.Slice.PartMut.{put_mid}
use Rattle.message.specs.Varint.{spell_varint}
use Rattle.label.specs.Label.{hashed}
use Rattle.label.specs.Code.{label_in}
use Rattle.label.proofs.Hashing.{varint_fits, hashed_length, hashed_is, fingerprint_is}
use Rattle.label.proofs.Label.fingerprint.Goals as goal
use Rattle.label.proofs.Label.fingerprint.Goals.{After-width-end, After-write_varint}

short : (c : After-width-end) → length (spell_varint c.args.self.count) ≤ 10
short c = let count : Fits w64 c.args.self.count = search rules in varint_fits c.args.self.count count.fits

long : (c : After-write_varint) → length (spell_varint c.args.self.count) ≤ 10 → length (put_mid 32 10 c.write_words.new.out c.write_varint.new.out) ≡ 42
long c small = hashed_length _ (spell_varint c.args.self.count) (replicate 42 0) _ _ refl small c.write_words.ensures c.write_varint.ensures.out_after

pub overflow_add-end : goal.overflow_add-end
overflow_add-end c = omega (arith, c.width-end.ensures, short c)

pub slice_bounds-bytes-end-2 : goal.slice_bounds-bytes-end-2
slice_bounds-bytes-end-2 c =
    let at = goal.at.slice_bounds-bytes-end-2 c in
    let small = short at.After-width-end in
    let all = long at.After-write_varint small in
    omega arith

pub slice_bounds-digest-end : goal.slice_bounds-digest-end
slice_bounds-digest-end c =
    let at = goal.at.slice_bounds-digest-end c in
    let small = short at.After-width-end in
    let all = long at.After-write_varint small in
    sym (length-take-le _ _ (omega arith))

pub returns : goal.returns
unfolding hashed label_in
returns c =
    let small = short (goal.at.returns c).After-width-end in
    let bytes = hashed_is _ (spell_varint c.args.self.count) (replicate 42 0) c.write_words.new.out c.write_varint.new.out
    refl small c.write_words.ensures c.write_varint.ensures.out_after _ (omega (arith, c.width-end.ensures)) in
    fingerprint_is (label_in c.args.self) _ _ _ bytes c.digest-hash.ensures c.copy_from_slice.ensures.after
