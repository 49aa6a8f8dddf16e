-- SPEC 11.8: what a tree is kept for.
use Rattle.std.specs.Prelude.{false, ◌≡◌, List, ℕ, ◌+◌, ◌-◌, ◌*◌, ◌^◌, ◌≤◌, take, drop}
use Rattle.table.specs.Answer.{answer}
use Rattle.table.specs.Table.{Item, Table, items, ids_of}
use Rattle.label.specs.Label.{empty, label_of}
use Rattle.tree.specs.Tree.{Found, depth_of, depth_for, depth_in, wrong_tree, build, append, grown, label_of_run}

-- SPEC 11.8: "every tree that came from a build and appends", and the table that it then belongs to
pub data Kept : Table → List ℕ → Type 0 where
  built : {T : Table} {tree : List ℕ} (old : List ℕ) → build T old ≡ answer tree → Kept T tree
  appended : {T : Table} {tree after : List ℕ} (i : Item) → Kept T tree → append T i tree ≡ answer after → Kept (grown T i) after

-- "the label of a run equals the one summed item by item" (SPEC 11.8), of the items at the places of the run, and the labels visited are
-- "at most 4 × (k + 1)" (SPEC 11.8)
pub record Told (T : Table) (tree : List ℕ) (from to : ℕ) : Type 0 where
  pub visited : ℕ
  pub told : label_of_run tree from to ≡ answer (record { label = label_of (ids_of (take (to - from) (drop from (items T)))); visited = visited })
  pub few : visited ≤ 4 * (depth_for T + 1)

abbrev pub RunsTold : Type 0
RunsTold = (T : Table) (tree : List ℕ) → Kept T tree → (from to : ℕ) → Told T tree from to

-- SPEC 11.8: "The labels visited are at most 4 × (k + 1), for any tree."
abbrev pub VisitsFew : Type 0
VisitsFew = (tree : List ℕ) (from to : ℕ) (f : Found) → label_of_run tree from to ≡ answer f → f.visited ≤ 4 * (depth_in tree + 1)

-- SPEC 11.6: "an empty or reversed run has the empty label", of any tree; SPEC 11.7: "the whole is outside and counts one"
abbrev pub EmptyRuns : Type 0
EmptyRuns = (k : ℕ) (tree : List ℕ) → wrong_tree k tree ≡ false → (from to : ℕ) → to ≤ from → label_of_run tree from to ≡ answer (record { label = empty; visited = 1 })

-- SPEC 11.8: "A tree that was appended to has the very bytes that a build from the whole table gives."
abbrev pub KeptBytes : Type 0
KeptBytes = (T : Table) (tree : List ℕ) → Kept T tree → build T tree ≡ answer tree

-- SPEC 11.1: "2^k, the smallest power of two not below the number of items"
pub record SmallestPower (n : ℕ) : Type 0 where
  pub enough : n ≤ 2 ^ depth_of n
  pub least : (k : ℕ) → n ≤ 2 ^ k → depth_of n ≤ k

-- SPEC 11.6: "any k for which it has the right number of bytes is accepted"
abbrev pub DepthTold : Type 0
DepthTold = (k : ℕ) (tree : List ℕ) → wrong_tree k tree ≡ false → depth_in tree ≡ k
