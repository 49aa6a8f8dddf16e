-- A tree that came from a build and appends tells the labels summed item by item: `runs_told`.
use mathlib.Core.Path.{◌≡◌, refl, sym, ap, ◌∙◌, subst}
use mathlib.Core.Bool.{Bool, true, false, not, ◌||◌}
use mathlib.Core.List.{List, [], ◌∷◌, ◌++◌}
use Prim.Native.Nat.{ℕ, ◌+◌, ◌-◌, ◌*◌, ◌^◌, ◌≤◌, ◌<◌}
use native.Mathlib.Omega.{arith}
use lib.Dec.{leb, eqb}
use lib.ListN.{length, take, drop, length-append, length-drop}
use lib.Seq.{take_all}
use borrow.Author.Tests.{eq-eqb, eqb-true, not-false, leb-false}
use Rattle.message.specs.Code.{ids_in}
use Rattle.message.proofs.Exact.{by_test, differ}
use Rattle.message.proofs.Forms.{ids-count}
use Rattle.table.specs.Answer.{Answer, answer, refuse_if}
use Rattle.table.specs.Table.{Item, Table, items, ids_of, within, wrong_size, not_rising}
use Rattle.table.specs.Private.{Passed, place_of}
use Rattle.table.proofs.Tests.{or_false}
use Rattle.table.proofs.Items.{right_size, map-take, map-drop, ids_all}
use Rattle.table.proofs.Checks.{size_holds}
use Rattle.table.proofs.Places.{within_is}
use Rattle.message.specs.Bound.{Bound}
use Rattle.label.specs.Label.{label_of}
use Rattle.tree.specs.Tree.{Found, depth_of, depth_in, tree_over, wrong_tree, none_free, build, append, grown, appended, cut_to, visit, label_of_run}
use Rattle.tree.specs.Kept as K
use Rattle.tree.specs.Kept.{Kept, RunsTold, VisitsFew, EmptyRuns, KeptBytes, SmallestPower, DepthTold}
use Rattle.tree.proofs.Levels.{Sound, over-sound, over-spelled}
use Rattle.tree.proofs.Depth.{depth_enough, depth_least, depth_grows, depth_told, powers}
use Rattle.tree.proofs.Visits.{few, empty-run, visit-outside}
use Rattle.tree.proofs.Runs.{run-label}
use Rattle.tree.proofs.Appends.{Spelled, append-sound, append-spelled, same_bytes}
use Rattle.tree.proofs.Rising.{grown-ids, grown-count}

-- what an answer tells of a check before it
unrefused : {A : Type 0} (k : ℕ) (wrong : Bool) (next : Answer A) (x : A) → refuse_if k wrong next ≡ answer x → (wrong ≡ false) × (next ≡ answer x)
unrefused k true next x e = differ (cc)
unrefused k false next x e = (refl, e)

-- ---- the size of a tree

module _ (k : ℕ) (tree : List ℕ) where
  right_tree : wrong_tree k tree ≡ false → length tree ≡ 40 * (2 ^ (k + 1) - 1)
  unfolding wrong_tree
  right_tree e = eqb-true (length tree) (40 * (2 ^ (k + 1) - 1)) (not-false (eqb (length tree) (40 * (2 ^ (k + 1) - 1))) e)

  tree_right : length tree ≡ 40 * (2 ^ (k + 1) - 1) → wrong_tree k tree ≡ false
  unfolding wrong_tree
  tree_right e = rw (eq-eqb (length tree) (40 * (2 ^ (k + 1) - 1)) e) refl

-- ---- a table with one more item

module _ (T : Table) (i : Item) (n : length T.ids ≡ 32 * length T.times) (m : length i.id ≡ 32) where
  grown_all : ids_of (items (grown T i)) ≡ ids_of (items T) ++ i.id ∷ []
  grown_all =
      ids_all (grown T i) ∙ ap (λ (x : ℕ). ids_in x (T.ids ++ i.id)) (grown-count T i n m) ∙ grown-ids T i n m
      ∙ ap (λ (x : List (List ℕ)). x ++ i.id ∷ []) (sym (ids_all T))

  grown-times : length (grown T i).times ≡ length T.times + 1
  grown-times = length-append T.times (i.time ∷ [])

  grown-size : length T.times < 1048576 → wrong_size (grown T i) ≡ false
  grown-size h = size_holds (grown T i) (omega (arith, grown-times)) (omega (arith, grown-times, length-append T.ids i.id))

items-count : (T : Table) → length (ids_of (items T)) ≡ length T.times
items-count T = ap length (ids_all T) ∙ ids-count (length T.times) T.ids

-- ---- what a tree keeps

abbrev Holds : Table → List ℕ → Type 0
Holds T tree = Passed T × (Sound (depth_of (length T.times)) (ids_of (items T)) tree × Spelled tree)

built-holds : (T : Table) (old tree : List ℕ) → build T old ≡ answer tree → Holds T tree
unfolding build
built-holds T old tree e =
    let k : ℕ = depth_of (length T.times) in
    let ids : List (List ℕ) = ids_of (items T) in
    let one = unrefused 1 (wrong_size T) _ tree e in
    let two = unrefused 2 (not_rising T) _ tree one.1 in
    let last = unrefused 13 (wrong_tree k old) _ tree two.1 in
    let same : tree_over k ids ≡ tree = let z = last.1 in cc in
    let h : length ids ≤ 2 ^ k = omega (arith, depth_enough (length T.times), items-count T) in
    ((one.0, two.0), subst (λ (t : List ℕ). Sound k ids t × Spelled t) same (over-sound k ids h, over-spelled k ids h))

appended-holds : (T : Table) (i : Item) (tree after : List ℕ) → Holds T tree → append T i tree ≡ answer after → Holds (grown T i) after
unfolding append none_free
appended-holds T i tree after s e =
    let n : ℕ = length T.times in
    let k : ℕ = depth_of n in
    let ids : List (List ℕ) = ids_of (items T) in
    let one = unrefused 1 (wrong_size T || not (eqb (length i.id) 32)) _ after e in
    let two = unrefused 2 (not_rising (grown T i)) _ after one.1 in
    let last = unrefused 13 (wrong_tree k tree || leb (2 ^ k) n) _ after two.1 in
    let same : appended k n i.id tree ≡ after = let z = last.1 in cc in
    let sized = right_size T s.0.0 in
    let whole : length i.id ≡ 32 = eqb-true (length i.id) 32 (not-false (eqb (length i.id) 32) (or_false (wrong_size T) (not (eqb (length i.id) 32)) one.0).1) in
    let free : n < 2 ^ k = leb-false (2 ^ k) n (or_false (wrong_tree k tree) (leb (2 ^ k) n) last.0).1 in
    let small : n < 1048576 = omega (arith, powers {i = k} {j = 20} (depth_least n 20 sized.1)) in
    let depth : k ≡ depth_of (length (grown T i).times) = sym (ap depth_of (grown-times T i sized.0 whole) ∙ depth_grows n free) in
    let count = items-count T in
    let kept : Sound k (ids ++ i.id ∷ []) (appended k (length ids) i.id tree) = append-sound k ids i.id tree (omega arith) s.1.0 in
    let spelled : Spelled (appended k (length ids) i.id tree) = append-spelled k (length ids) i.id tree (omega arith) s.1.0.size s.1.1 in
    let there : appended k (length ids) i.id tree ≡ after = ap (λ (x : ℕ). appended k x i.id tree) count ∙ same in
    let sound : Sound (depth_of (length (grown T i).times)) (ids_of (items (grown T i))) after =
    subst (λ (j : ℕ). Sound j (ids_of (items (grown T i))) after) depth
    (subst (λ (l : List (List ℕ)). Sound k l after) (sym (grown_all T i sized.0 whole))
    (subst (λ (t : List ℕ). Sound k (ids ++ i.id ∷ []) t) there kept)) in
    ((grown-size T i sized.0 whole small, two.0), (sound, subst (λ (t : List ℕ). Spelled t) there spelled))

kept-holds : {T : Table} {tree : List ℕ} → Kept T tree → Holds T tree
kept-holds (K.built {T} {tree} old e) = built-holds T old tree e
kept-holds (K.appended {T} {tree} {after} i s e) = appended-holds T i tree after (kept-holds s) e

-- ---- what it tells

-- of any tree
pub visits_few : VisitsFew
unfolding label_of_run
visits_few tree from to f e =
    let k : ℕ = depth_in tree in
    let end : ℕ = cut_to (2 ^ k) to in
    let told = unrefused 13 (wrong_tree k tree) _ f e in
    let same : visit tree from end k 0 0 ≡ f = let z = told.1 in cc in
    omega (arith, few tree from end k 0 0, ap (λ (x : Found). x.visited) same)

pub depth_read : DepthTold
depth_read k tree e = depth_told k tree (right_tree k tree e)

pub smallest_power : (n : ℕ) → SmallestPower n
smallest_power n = record { enough = depth_enough n; least = depth_least n }

cut_below : (n to : ℕ) → cut_to n to ≤ to
cut_below n to = by_test (leb to n) (λ e. rw e (omega arith)) (λ e. rw e (omega (arith, leb-false to n e)))

pub empty_runs_lem : EmptyRuns
unfolding label_of_run
empty_runs_lem k tree e from to h =
    let end : ℕ = cut_to (2 ^ k) to in
    let outside = empty-run from end 0 (2 ^ k) (omega (arith, cut_below (2 ^ k) to)) in
    rw (depth_read k tree e, e) (ap answer (visit-outside tree from end k 0 0 outside))

kept-size : {T : Table} {tree : List ℕ} → Kept T tree → length tree ≡ 40 * (2 ^ (depth_of (length T.times) + 1) - 1)
kept-size s = (kept-holds s).1.0.size

-- no more than n items are there to be taken
taken-cut : {A : Type 0} (n from to : ℕ) (l : List A) → length l ≤ n → take (cut_to n to - from) (drop from l) ≡ take (to - from) (drop from l)
taken-cut n from to l h =
    by_test (leb to n) (λ e. rw e refl)
    (λ e. let g = leb-false to n e in
    rw e (take_all (n - from) (drop from l) (omega (arith, length-drop from l)) ∙ sym (take_all (to - from) (drop from l) (omega (arith, length-drop from l)))))

kept_label : (T : Table) (tree : List ℕ) → Kept T tree → (from to : ℕ)
    → (visit tree from (cut_to (2 ^ depth_of (length T.times)) to) (depth_of (length T.times)) 0 0).label ≡ label_of (ids_of (take (to - from) (drop from (items T))))
kept_label T tree s from to =
    let k : ℕ = depth_of (length T.times) in
    let ids : List (List ℕ) = ids_of (items T) in
    let holds = kept-holds s in
    let count = items-count T in
    let sized = right_size T holds.0.0 in
    let enough = depth_enough (length T.times) in
    let run : ids_of (take (to - from) (drop from (items T))) ≡ take (to - from) (drop from ids) =
    map-take (λ (i : Item). i.id) (to - from) (drop from (items T)) ∙ ap (take (to - from)) (map-drop (λ (i : Item). i.id) from (items T)) in
    run-label k ids tree holds.1.0 (omega arith) from (cut_to (2 ^ k) to) (omega arith) ∙ ap label_of (taken-cut (2 ^ k) from to ids (omega arith) ∙ sym run)

pub runs_told : RunsTold
unfolding label_of_run
runs_told T tree s from to =
    let k : ℕ = depth_of (length T.times) in
    let end : ℕ = cut_to (2 ^ k) to in
    let found : Found = visit tree from end k 0 0 in
    let label = kept_label T tree s from to in
    record {
      visited = found.visited;
      told = rw (depth_told k tree (kept-size s), tree_right k tree (kept-size s)) (λ j. answer (record { label = label j; visited = found.visited }));
      few = omega (arith, few tree from end k 0 0);
    }

-- the items of the range from x to y: the run from the place of x to that of y
pub range-told : (T : Table) (tree : List ℕ) (s : Kept T tree) (x y : Bound)
    → label_of_run tree (place_of x (items T)) (place_of y (items T))
    ≡ answer (record { label = label_of (ids_of (within x y (items T))); visited = (runs_told T tree s (place_of x (items T)) (place_of y (items T))).visited })
range-told T tree s x y =
    let told = runs_told T tree s (place_of x (items T)) (place_of y (items T)) in
    told.told ∙ ap (λ (is : List Item). answer (record { label = label_of (ids_of is); visited = told.visited })) (sym (within_is T (kept-holds s).0 x y))

-- the bytes are those that a build from the whole table gives
pub kept-bytes : KeptBytes
unfolding build
kept-bytes T tree s =
    let k : ℕ = depth_of (length T.times) in
    let ids : List (List ℕ) = ids_of (items T) in
    let holds = kept-holds s in
    let h : length ids ≤ 2 ^ k = omega (arith, depth_enough (length T.times), items-count T) in
    let same : tree_over k ids ≡ tree = same_bytes k ids (tree_over k ids) tree (over-sound k ids h) holds.1.0 (over-spelled k ids h) holds.1.1 in
    rw (holds.0.0, holds.0.1, tree_right k tree (kept-size s)) (ap answer same)
