-- "then time code judged, length read and judged, prefix read, bound compared, mode, payload. The first fault met counts": a bound that is
-- not above its lower bound is refused with 9 before the mode is read, whatever bytes follow it.
use Prim.Native.Nat.{ℕ, suc, ◌+◌, ◌-◌, ◌^◌, ◌≤◌}
use mathlib.Core.Path.{◌≡◌}
use mathlib.Core.List.{List, [], ◌++◌, append_assoc}
use native.Mathlib.Omega.{arith}
use borrow.Author.Tests.{le-ltb, le-leb}
use Rattle.message.specs.Reader.{refused}
use Rattle.message.specs.Bound.{Bound, infinity, finite, time, key, read_coded, read_bound, spell_prefix, spell_bound}
use Rattle.message.specs.Message.{read_range}
use Rattle.message.specs.WellFormed.{LawfulBound}
use Rattle.message.proofs.Varints.{exact_varint}
use Rattle.message.proofs.Bounds.{exact_prefix}

pub not-above : (lower u : Bound) (rest : List ℕ) → LawfulBound u → time lower ≤ time u → key u ≤ key lower → read_range lower (spell_bound lower u ++ rest) ≡ refused 9
unfolding read_range read_bound read_coded spell_bound
not-above lower infinity rest h t l =
    rw (append_assoc, exact_varint.reads 0 (spell_prefix [] ++ rest) (omega arith), (exact_prefix 0 (omega arith)).reads [] rest (omega arith, tt), le-ltb (key lower) (key infinity) l)
not-above lower (finite t p) rest h e l =
    let same : time lower + (t - time lower) ≡ t = omega arith in
    rw (
      append_assoc,
      exact_varint.reads (suc (t - time lower)) (spell_prefix p ++ rest) (omega arith),
      same,
      le-leb t (2 ^ 64 - 2) h.0,
      (exact_prefix 32 (omega arith)).reads p rest (h.1, h.2),
      le-ltb (key lower) (key (finite t p)) l,
    )
