-- A listed id as a part of the message.
use Prim.Native.Nat.{ℕ, zero, suc, ◌+◌, ◌*◌, ◌-◌, ◌<◌}
use mathlib.Core.Path.{◌≡◌, refl, sym, ap, ◌∙◌}
use mathlib.Core.List.{List, []}
use native.Mathlib.Omega.{arith}
use lib.ListN.{length, take, drop, get_or, length-drop}
use lib.Seq.{drop-drop, take_all}
use Rattle.message.specs.Code.{ids_in}

pub part-from : (m : List ℕ) (n : ℕ) → take (length m - n) (drop n m) ≡ drop n m
part-from m n = take_all (length m - n) (drop n m) (rw (length-drop n m) (omega arith))

-- The first 32 bytes of the part are the id that was read.
pub listed_is : (count i at : ℕ) (m : List ℕ) → i < count → take 32 (drop (at + i * 32) m) ≡ get_or (ids_in count (drop at m)) i []
unfolding ids_in
listed_is zero i at m h = absurd (omega arith)
listed_is (suc n) zero at m h = let e : at + 0 * 32 ≡ at = omega arith in rw e refl
listed_is (suc n) (suc i) at m h =
    let e : at + suc i * 32 ≡ at + 32 + i * 32 = omega arith in
    rw e (listed_is n i (at + 32) m (omega arith) ∙ ap (λ (l : List ℕ). get_or (ids_in n l) i []) (sym (drop-drop 32 at m)))
