-- A label as the code reads and stores it: in a part of 40 bytes.
use mathlib.Core.Path.{◌≡◌, sym, ap, ap₂, ◌∙◌}
use mathlib.Core.List.{List, [], ◌++◌, append-nil}
use Prim.Native.Nat.{ℕ, ◌+◌, ◌-◌, ◌*◌, ◌≤◌}
use native.Mathlib.Omega.{arith}
use lib.ListN.{length, take, drop, length-drop, drop_of_length-le}
use lib.Seq.{drop-drop, length-take-le}
use borrow.Author.Tests.{le-ltb}
use Rattle.label.specs.Label.{Label, spell_label}
use Rattle.label.specs.Code.{label_from, label_into}
use Rattle.tree.specs.Tree.{label_at, put_label}
use Rattle.tree.proofs.Bytes.{chunk, chunk_at}

module _ (tree : List ℕ) (i : ℕ) (h : 40 * i + 40 ≤ length tree) where
  -- the part as it is lent
  abbrev part : List ℕ
  part = take (40 * i + 40 - 40 * i) (drop (40 * i) tree)

  part_is : part ≡ chunk tree i
  part_is = let e : 40 * i + 40 - 40 * i ≡ 40 = omega arith in ap (λ (n : ℕ). take n (drop (40 * i) tree)) e

  part_length : length (chunk tree i) ≡ 40
  part_length = length-take-le 40 (drop (40 * i) tree) (omega (arith, length-drop (40 * i) tree))

  pub read_is : (l : Label) → l ≡ label_from part → l ≡ label_at tree i
  read_is l e = e ∙ ap label_from part_is ∙ rw (le-ltb (length (chunk tree i)) 40 (omega (arith, part_length))) (sym (chunk_at tree i))

  pub put_is : (l : Label) (last : List ℕ) → last ≡ label_into l part → take (40 * i) tree ++ (last ++ drop (40 * i + 40 - 40 * i) (drop (40 * i) tree)) ≡ put_label i l tree
  unfolding put_label
  put_is l last e =
      let size : 40 * i + 40 - 40 * i ≡ 40 = omega arith in
      let none : drop 40 (chunk tree i) ≡ [] = drop_of_length-le (chunk tree i) {i = 40} (omega (arith, part_length)) in
      let stored : last ≡ spell_label l = e ∙ ap (label_into l) part_is ∙ rw (le-ltb (length (chunk tree i)) 40 (omega (arith, part_length)), none) (append-nil (spell_label l)) in
      ap₂ (λ (x y : List ℕ). take (40 * i) tree ++ (x ++ y)) stored (ap (λ (n : ℕ). drop n (drop (40 * i) tree)) size ∙ drop-drop 40 (40 * i) tree)
