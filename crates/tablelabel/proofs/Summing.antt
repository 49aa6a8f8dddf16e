-- The label of a table, summed id by id.
use mathlib.Core.Path.{◌≡◌, sym, ap, ◌∙◌}
use mathlib.Core.List.{List}
use Prim.Native.Nat.{ℕ, ◌+◌, ◌-◌, ◌*◌, ◌/◌, ◌^◌, ◌≤◌, ◌<◌}
use native.Mathlib.Omega.{arith}
use native.Mathlib.Nat.{mul-div_cancel}
use lib.ListN.{length, take, drop, length-take, length-drop}
use lib.Seq.{length-take-le, take_all}
use Rattle.message.specs.Code.{ids_in}
use Rattle.table.specs.Table.{Table, items, ids_of}
use Rattle.table.proofs.Ids.{ids-part}
use Rattle.table.proofs.Items.{ids_all}
use Rattle.label.specs.Label.{Label, add, label_of}
use Rattle.label.specs.Code.{whole_ids}
use Rattle.label.proofs.Ids.{whole-one, label-more}

-- the first n ids of a byte string that holds as many
first-ids : (n : ℕ) (l : List ℕ) → n * 32 ≤ length l → whole_ids (take (n * 32) l) ≡ ids_in n l
unfolding whole_ids
first-ids n l h = rw (length-take-le (n * 32) l h, mul-div_cancel n {n = 32} (omega arith)) (ids-part n l)

-- a turn of the loop: the label of id n is added
pub label_turn : (n : ℕ) (l : List ℕ) (a b r : Label) → n + 1 < 2 ^ 64 → (n + 1) * 32 ≤ length l → a ≡ label_of (whole_ids (take (n * 32) l))
    → b ≡ label_of (whole_ids (take 32 (take (length l - n * 32) (drop (n * 32) l)))) → r ≡ add a b → r ≡ label_of (whole_ids (take ((n + 1) * 32) l))
label_turn n l a b r h k ea eb er =
    let part : List ℕ = take (length l - n * 32) (drop (n * 32) l) in
    let long : 32 ≤ length part = simp (length-take, length-drop) (omega arith) in
    label-more n l a b r h k (ea ∙ ap label_of (first-ids n l (omega arith))) (eb ∙ ap label_of (sym (whole-one part long))) er ∙ ap label_of (sym (first-ids (n + 1) l k))

-- where the table has no more than n items, the first n ids are all
pub all_summed : (T : Table) (n : ℕ) → length T.ids ≡ 32 * length T.times → length T.times ≤ n → whole_ids (take (n * 32) T.ids) ≡ ids_of (items T)
unfolding whole_ids
all_summed T n e h =
    let count : length T.ids / 32 ≡ length T.times = omega arith in
    rw (take_all (n * 32) T.ids (omega arith), count) (sym (ids_all T))
