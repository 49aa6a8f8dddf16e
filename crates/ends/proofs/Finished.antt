-- What finished sessions report: exactly what only one end has (`theirs_exact`, `ours_exact`), so that two of them mirror each other (`mirrored`, `whoever_opens`).
use Prim.Native.Nat.{ℕ}
use mathlib.Core.Path.{◌≡◌, refl, sym}
use mathlib.Core.Bool.{true}
use mathlib.Core.List.Memᴰ
use mathlib.Core.List.{List, [], ◌∷◌, ◌++◌, Memᴰ}
use mathlib.Core.Logic.{◌↔◌, ⊎_elim}
use Rattle.table.specs.Table.{Item, Table, items, ids_of}
use Rattle.ends.specs.Demand.{Place, Only, ReportsTheirs, ReportsOurs, Reported, OneTime}
use Rattle.ends.specs.Finished.{end, NoneCollides, WhoeverOpens}
use Rattle.ends.proofs.Demand.{reported-after}

-- the item with an id of the table
with_id : (is : List Item) (d : List ℕ) → Memᴰ d (ids_of is) → (i : Item) × Memᴰ i is × (i.id ≡ d)
with_id [] d m = elim m [ ]
with_id (i ∷ is) d m =
    ⊎_elim (λ e. (i, Memᴰ.head refl, sym e)) (λ n. let w = with_id is d n in (w.0, Memᴰ.tail w.1, w.2)) (Memᴰ.cases_cons m)

-- What a finished session reports is exactly what only one end has.
module _ (A B : Table) (p : Place) (here : Reported A B p) (done : p.session.done ≡ true) (none : NoneCollides A B p) where
  pub theirs_exact : (d : List ℕ) → ReportsTheirs p d ↔ Only B A d
  theirs_exact d = (
    here.theirs_so d,
    λ only. let w = with_id (items B) d only.0 in
        rw w.2 at (⊎_elim (λ x. x) (λ k. absurd (none w.0 k)) (here.theirs_all done w.0 w.1 (rw w.2 only))),
  )

  pub ours_exact : (d : List ℕ) → ReportsOurs A p d ↔ Only A B d
  ours_exact d = (
    here.ours_so d,
    λ only. let w = with_id (items A) d only.0 in
        rw w.2 at (⊎_elim (λ x. x) (λ k. absurd (none w.0 k)) (here.ours_all done w.0 w.1 (rw w.2 only))),
  )

-- whatever calls and replies led to the two places
pub mirrored : (A B : Table) (p z : Place) → Reported A B p → Reported B A z → p.session.done ≡ true → z.session.done ≡ true
    → NoneCollides A B p → NoneCollides B A z
    → (i : List ℕ) → (ReportsOurs A p i ↔ ReportsTheirs z i) × (ReportsTheirs p i ↔ ReportsOurs B z i)
mirrored A B p z here there done-p done-z none-p none-z i =
    let ours = ours_exact A B p here done-p none-p i in
    let theirs = theirs_exact A B p here done-p none-p i in
    let their-ours = ours_exact B A z there done-z none-z i in
    let their-theirs = theirs_exact B A z there done-z none-z i in
    ((λ r. their-theirs.1 (ours.0 r), λ r. ours.1 (their-theirs.0 r)), (λ r. their-ours.1 (theirs.0 r), λ r. theirs.1 (their-ours.0 r)))

one_time_swap : (is js : List Item) → OneTime (is ++ js) → OneTime (js ++ is)
one_time_swap is js once i j hi hj e = once i j (swap i hi) (swap j hj) e
  where
    swap : (i : Item) → Memᴰ i (js ++ is) → Memᴰ i (is ++ js)
    swap i m = ⊎_elim (λ n. Memᴰ.append_right is n) (λ n. Memᴰ.append_left js n) (Memᴰ.append_cases js m)

-- "Whoever opens"
pub whoever_opens : WhoeverOpens
whoever_opens A B a b c d bytes-A bytes-B once s z none-s none-z i =
    let p = end A B a b s in
    let q = end B A c d z in
    let here = reported-after A B a b bytes-A bytes-B once s.lent s.size s.opens s.takes s.handed in
    let there = reported-after B A c d bytes-B bytes-A (one_time_swap (items A) (items B) once) z.lent z.size z.opens z.takes z.handed in
    mirrored A B p q here there s.done z.done none-s none-z i
