-- SPEC 11, "Trees of labels".
use Rattle.std.specs.Prelude.{Bool, not, cond, ◌&&◌, ◌||◌, List, [], ◌∷◌, ◌++◌, map, ℕ, zero, suc, ◌+◌, ◌-◌, ◌*◌, ◌/◌, ◌^◌, leb, eqb, length, take, drop, replicate}
use Rattle.table.specs.Answer.{Answer, answer, refused, refuse_if}
use Rattle.table.specs.Table.{Item, Table, items, ids_of, wrong_size, not_rising, judge_table}
use Rattle.label.specs.Label.{Label, empty, add, label_of, spell_label, read_label}

-- ---- the bytes

-- SPEC 11.1: "2^k, the smallest power of two not below the number of items": k is the first of 0, 1, 2, .. with n ≤ 2 ^ k. That no smaller one will do is
-- `SmallestPower`.
unfoldable pub depth_from : ℕ → ℕ → ℕ → ℕ
depth_from n zero k = k
depth_from n (suc more) k = cond (leb n (2 ^ k)) k (depth_from n more (k + 1))

unfoldable pub depth_of : ℕ → ℕ
depth_of n = depth_from n n 0

-- SPEC 11.1: "The item places are filled with empty labels up to 2^k"
unfoldable pub places : ℕ → List (List ℕ) → List Label
places k ids = map (λ id. label_of (id ∷ [])) ids ++ replicate (2 ^ k - length ids) empty

-- SPEC 11.1: "each label is the sum of the labels of its two halves"
unfoldable pub sums : List Label → List Label
sums [] = []
sums (l ∷ []) = []
sums (l ∷ m ∷ ls) = add l m ∷ sums ls

-- SPEC 11.2: "The whole lies first, then level by level from the left." The last level are the 2 ^ k places.
unfoldable pub levels : ℕ → List Label → List Label
levels zero ls = ls
levels (suc k) ls = levels k (sums ls) ++ ls

unfoldable pub spell_labels : List Label → List ℕ
spell_labels [] = []
spell_labels (l ∷ ls) = spell_label l ++ spell_labels ls

-- the tree over the items with these ids
unfoldable pub tree_over : ℕ → List (List ℕ) → List ℕ
tree_over k ids = spell_labels (levels k (places k ids))

-- SPEC 7.13: "the tree is not 40 × (2^(k+1) - 1) bytes"
unfoldable pub wrong_tree : ℕ → List ℕ → Bool
wrong_tree k tree = not (eqb (length tree) (40 * (2 ^ (k + 1) - 1)))

-- ---- labels as they are stored: the whole is number 0, and the halves of number i are the numbers 2 × i + 1 and 2 × i + 2

unfoldable pub label_at : List ℕ → ℕ → Label
label_at tree i = read_label (drop (40 * i) tree)

-- the tree with another label there
unfoldable pub put_label : ℕ → Label → List ℕ → List ℕ
put_label i l tree = take (40 * i) tree ++ (spell_label l ++ drop (40 * i + 40) tree)

-- SPEC 11.4: ".. afresh from its two halves": label i
unfoldable pub renew : ℕ → List ℕ → List ℕ
renew i tree = put_label i (add (label_at tree (2 * i + 1)) (label_at tree (2 * i + 2))) tree

-- each of the h labels above label i, the lowest first
unfoldable pub renew_above : ℕ → ℕ → List ℕ → List ℕ
renew_above zero i tree = tree
renew_above (suc h) i tree = renew_above h ((i - 1) / 2) (renew ((i - 1) / 2) tree)

-- ---- build and append: the tree afterwards, or a refusal

-- n, and k for a table
abbrev pub count : Table → ℕ
count T = length T.times

abbrev pub depth_for : Table → ℕ
depth_for T = depth_of (count T)

-- SPEC 11.3: "Build makes the lent bytes the tree over a table." Of the bytes before, only their number counts.
unfoldable pub build : Table → List ℕ → Answer (List ℕ)
build T tree = judge_table T
    (refuse_if 13 (wrong_tree (depth_for T) tree)
    (answer (tree_over (depth_for T) (ids_of (items T)))))

-- the item that a time and the bytes of an id make
abbrev pub item : ℕ → List ℕ → Item
item time id = record { time = time; id = id }

-- SPEC 11.4: "the table with one more item"
abbrev pub grown : Table → Item → Table
grown T i = record { times = T.times ++ i.time ∷ []; ids = T.ids ++ i.id }

-- SPEC 7.13: "an append finds no place free"
unfoldable pub none_free : ℕ → ℕ → Bool
none_free k n = leb (2 ^ k) n

-- SPEC 11.4: "It stores the label of the item at the first free place": place n, where the n items before it end, is label 2 ^ k - 1 + n.
unfoldable pub appended : ℕ → ℕ → List ℕ → List ℕ → List ℕ
appended k n id tree = renew_above k (2 ^ k - 1 + n) (put_label (2 ^ k - 1 + n) (label_of (id ∷ [])) tree)

-- SPEC 11.5: "An appended id that has not 32 bytes meets 1. An appended item that is not above the last, or has the time 2^64 - 1, meets 2." The order of
-- the table before it is judged together with the item.
unfoldable pub append : Table → Item → List ℕ → Answer (List ℕ)
append T i tree =
    refuse_if 1 (wrong_size T || not (eqb (length i.id) 32))
    (refuse_if 2 (not_rising (grown T i))
    (refuse_if 13 (wrong_tree (depth_for T) tree || none_free (depth_for T) (count T))
    (answer (appended (depth_for T) (count T) i.id tree))))

-- ---- the label of a run of places, "from one to below another" (SPEC 11.6)

-- SPEC 11.7: "The result carries how many labels were visited"
pub record Found : Type 0 where
  pub label : Label
  pub visited : ℕ

-- both halves of a label were visited
abbrev pub both : Found → Found → Found
both left right = record { label = add left.label right.label; visited = 1 + left.visited + right.visited }

-- no place of the `size` places from `first` on is in the run; every one is
abbrev pub outside : ℕ → ℕ → ℕ → ℕ → Bool
outside from to first size = leb to from || (leb to first || leb (first + size) from)

abbrev pub inside : ℕ → ℕ → ℕ → ℕ → Bool
inside from to first size = leb from first && leb (first + size) to

-- SPEC 11.7: "a half wholly inside or outside the run counts one and is not opened, any other counts one and both its halves are visited": label i, of the
-- 2 ^ h places from `first` on. One place is inside or outside.
-- SPEC 11.9: "A tree that is not from build and appends answers by its stored labels, counts added modulo 2^64": whatever the bytes are, `add` adds them.
unfoldable pub visit : List ℕ → ℕ → ℕ → ℕ → ℕ → ℕ → Found
visit tree from to zero i first =
    cond (outside from to first 1) (record { label = empty; visited = 1 }) (record { label = label_at tree i; visited = 1 })
visit tree from to (suc h) i first =
    cond (outside from to first (2 ^ suc h)) (record { label = empty; visited = 1 })
    (cond (inside from to first (2 ^ suc h)) (record { label = label_at tree i; visited = 1 })
    (both (visit tree from to h (2 * i + 1) first) (visit tree from to h (2 * i + 2) (first + 2 ^ h))))

-- SPEC 11.6: "A run is cut to the places that exist"
abbrev pub cut_to : ℕ → ℕ → ℕ
cut_to places to = cond (leb to places) to places

-- SPEC 11.6: "any k for which it has the right number of bytes is accepted". That this is that k: `DepthTold`.
unfoldable pub depth_in : List ℕ → ℕ
depth_in tree = depth_of (length tree / 80 + 1)

-- SPEC 11.7: "the whole first and ruled like a half"
unfoldable pub label_of_run : List ℕ → ℕ → ℕ → Answer Found
label_of_run tree from to = refuse_if 13 (wrong_tree (depth_in tree) tree) (answer (visit tree from (cut_to (2 ^ depth_in tree) to) (depth_in tree) 0 0))

-- SPEC 8.3: "A refusal returns its number alone": beside it stand the empty label and 0.
abbrev pub or_nothing : Answer Found → Found
or_nothing (answer f) = f
or_nothing (refused k) = record { label = empty; visited = 0 }
