-- What the theory claims of a session is so of the place that agrees with it. The condition on ids is the theory's, too: `one_time`.
use Prim.Native.Nat.{ℕ, zero, suc, ◌<◌}
use mathlib.Core.Path.{◌≡◌, refl, sym, ap, ◌∙◌}
use mathlib.Core.Bool.{Bool, true, false}
use mathlib.Core.List.Memᴰ
use mathlib.Core.List.{List, [], ◌∷◌, ◌++◌, map, flatten, append-nil, Memᴰ}
use mathlib.Core.Logic.{◌⊎◌, inl, inr, ⊎_elim}
use native.Mathlib.Omega.{arith}
use lib.ListN.{length, get_or}
use Rattle.message.specs.Bound.{Bound, big_endian, key, start}
use Rattle.message.specs.Message as M
use Rattle.message.specs.Message.{Payload, Range, range}
use Rattle.message.specs.WellFormed.{All, Sized}
use Rattle.message.specs.Code.{ids_in}
use Rattle.theory.specs.Table.{has, between}
use Rattle.theory.specs.Message as T
use Rattle.theory.specs.Message.{Stands, here, there}
use Rattle.theory.specs.Protocol as theory
use Rattle.theory.specs.Run.{Session}
use Rattle.theory.specs.Demand as claim
use Rattle.theory.proofs.Tests.{by_test, clash}
use Rattle.theory.proofs.Messages.{fingerprint≢skip, fingerprint≢ids}
use Rattle.table.specs.Table.{Item, key_of, Table, items, within, ids_of}
use Rattle.table.proofs.Items.{items-length}
use Rattle.cutting.specs.Cutting.{fingerprint_of}
use Rattle.cutting.proofs.Numbers.{Whole, key-id}
use Rattle.cutting.proofs.Projection.{ids-back, protocol, payload, project, key-start, within_keys}
use Rattle.limit.proofs.Parts.{OwnItems, ids_whole, own-print}
use Rattle.ends.specs.Calls.{each_range}
use Rattle.ends.specs.Demand.{Place, Only, ReportsTheirs, ReportsOurs, Fingerprinted, Compared, Colliding, Reported, OneTime}
use Rattle.ends.proofs.Tables.{keys_of}
use Rattle.ends.proofs.Reports.{bit, numbers, marks_of, number_alone}
use Rattle.ends.proofs.Lists.{all_mem, paired_back, mem_has, has_mem, ids_flatten}
use Rattle.ends.proofs.Relations.{Means, means-reads}
use Rattle.ends.proofs.Simulation.{Agrees}

-- ---- ids and their numbers

number_mem : (d : List ℕ) (l : List (List ℕ)) → Sized 32 d → All (Sized 32) l → has (big_endian 32 d) (numbers l) ≡ true → Memᴰ d l
number_mem d l hd hl e =
    let w = has_mem (big_endian 32) (big_endian 32 d) l e in
    rw (number_alone d w.0 hd (all_mem (Sized 32) hl w.1) w.2) w.1

id-number : (i : Item) → Whole i → protocol.id_of (key_of i) ≡ big_endian 32 i.id
unfolding protocol
id-number i h = key-id i h

same_key : (i j : Item) → i.time ≡ j.time → i.id ≡ j.id → key_of i ≡ key_of j
unfolding key_of
same_key i j t d = rw (t, d)

-- ---- tables

module _ (T : Table) (k : OwnItems (items T)) where
  table-ids : theory.ids_of protocol (keys_of T) ≡ numbers (ids_of (items T))
  unfolding protocol
  table-ids = ids-back (items T) k.whole

  has-id : (d : List ℕ) → Memᴰ d (ids_of (items T)) → has (big_endian 32 d) (theory.ids_of protocol (keys_of T)) ≡ true
  has-id d m = rw table-ids (mem_has (big_endian 32) m)

  id_mem : (d : List ℕ) → Sized 32 d → has (big_endian 32 d) (theory.ids_of protocol (keys_of T)) ≡ true → Memᴰ d (ids_of (items T))
  id_mem d h e = number_mem d (ids_of (items T)) h (ids_whole (items T) k.whole) (rw table-ids at e)

module _ (X Y : Table) (kX : OwnItems (items X)) (kY : OwnItems (items Y)) where
  only-bytes : (d : List ℕ) → Sized 32 d → claim.Only protocol (keys_of X) (keys_of Y) (big_endian 32 d) → Only X Y d
  only-bytes d h o = (id_mem X kX d h o.has_it, λ m. clash (has-id Y kY d m) o.has_not)

  only_keys : (i : Item) → Whole i → Only X Y i.id → claim.Only protocol (keys_of X) (keys_of Y) (protocol.id_of (key_of i))
  only_keys i h o =
      rw (id-number i h) (record {
        has_it = has-id X kX i.id o.0;
        has_not = by_test (has (big_endian 32 i.id) (theory.ids_of protocol (keys_of Y))) (λ e. absurd (o.1 (id_mem Y kY i.id h e))) (λ e. e);
      })

-- ---- marks

bit_one : (b : Bool) → bit b ≡ 1 → b ≡ true
bit_one true e = refl
bit_one false e = absurd (omega arith)

-- the item whose mark is 1, and the mark of an item
marked-item : (f : ℕ → Bool) (is : List Item) (j : ℕ) → j < length is → get_or (marks_of f is) j 0 ≡ 1
    → (i : Item) × Memᴰ i is × (get_or (ids_of is) j [] ≡ i.id) × (f (key_of i) ≡ true)
marked-item f [] j lt e = absurd (omega arith)
marked-item f (i ∷ is) zero lt e = (i, Memᴰ.head refl, refl, bit_one (f (key_of i)) e)
marked-item f (i ∷ is) (suc j) lt e = let w = marked-item f is j (omega arith) e in (w.0, Memᴰ.tail w.1, w.2, w.3)

item-mark : (f : ℕ → Bool) (is : List Item) (i : Item) → Memᴰ i is → f (key_of i) ≡ true
    → (j : ℕ) × (j < length is) × (get_or (ids_of is) j [] ≡ i.id) × (get_or (marks_of f is) j 0 ≡ 1)
item-mark f [] i m h = elim m [ ]
item-mark f (z ∷ is) i m h =
    ⊎_elim (λ e. (0, omega arith, ap (λ (z : Item). z.id) (sym e), ap (λ (z : Item). bit (f (key_of z))) (sym e) ∙ ap bit h))
    (λ n. let w = item-mark f is i n h in (suc w.0, let l = w.1 in omega arith, w.2, w.3))
    (Memᴰ.cases_cons m)

-- ---- a range with a fingerprint in the theory's message is one in the bytes

-- two bounds with these keys, of which P holds
record Bounds (x y : ℕ) (P : Bound → Bound → Type 0) : Type 0 where
  lower : Bound
  upper : Bound
  low : key lower ≡ x
  high : key upper ≡ y
  holds : P lower upper

bounds-map : {x y : ℕ} {P Q : Bound → Bound → Type 0} → ((lower upper : Bound) → P lower upper → Q lower upper) → Bounds x y P → Bounds x y Q
bounds-map f w = record { lower = w.lower; upper = w.upper; low = w.low; high = w.high; holds = f w.lower w.upper w.holds }

-- the range from lower to upper stands with the fingerprint f in rs, the first lower bound being l
abbrev StandsWith : Bound → List Range → List ℕ → Bound → Bound → Type 0
StandsWith l rs f lower upper = Memᴰ {A = Bound × Bound × Payload} (lower, upper, M.fingerprint f) (each_range (λ x y p. (x, y, p)) l rs)

stands_cases : {l u x y : ℕ} {o p : T.Payload (List ℕ)} {m : T.Message (List ℕ)} → Stands l (T.range u o ∷ m) x y p → ((l ≡ x) × (u ≡ y) × (o ≡ p)) ⊎ Stands u m x y p
stands_cases here = inl (refl, refl, refl)
stands_cases (there st) = inr st

further : (l u : Bound) (p : Payload) (rs : List Range) {x y : ℕ} {f : List ℕ} → Bounds x y (StandsWith u rs f) → Bounds x y (StandsWith l (range u p ∷ rs) f)
unfolding each_range
further l u p rs w = bounds-map (λ lower upper m. Memᴰ.tail m) w

stands_bounds : (l : Bound) (rs : List Range) {x y : ℕ} {f : List ℕ} → Stands (key l) (project rs) x y (T.fingerprint f) → Bounds x y (StandsWith l rs f)
unfolding each_range project payload
stands_bounds l [] st = elim st [ ]
stands_bounds l (range u M.skip ∷ rs) st =
    ⊎_elim (λ e. absurd (fingerprint≢skip (sym e.2))) (λ z. further l u M.skip rs (stands_bounds u rs z)) (stands_cases st)
stands_bounds l (range u (M.ids is) ∷ rs) st =
    ⊎_elim (λ e. absurd (fingerprint≢ids (sym e.2))) (λ z. further l u (M.ids is) rs (stands_bounds u rs z)) (stands_cases st)
stands_bounds l (range u (M.fingerprint g) ∷ rs) {f = f} st =
    ⊎_elim
    (λ e. let z : g ≡ f = cc e.2 in record { lower = l; upper = u; low = e.0; high = e.1; holds = Memᴰ.head (rw z) })
    (λ z. further l u (M.fingerprint g) rs (stands_bounds u rs z)) (stands_cases st)

module _ (A B : Table) (k_a : OwnItems (items A)) (k_b : OwnItems (items B)) where
  -- ---- the two tables together

  pub one_time : OneTime (items A ++ items B) → theory.OneTime protocol (keys_of A) (keys_of B)
  one_time once j k hj hk e =
      let x = has_mem key_of j (items A) hj in
      let y = has_mem key_of k (items B) hk in
      let wx = all_mem Whole k_a.whole x.1 in
      let wy = all_mem Whole k_b.whole y.1 in
      let n = sym (id-number x.0 wx) ∙ ap protocol.id_of (sym x.2) ∙ e ∙ ap protocol.id_of y.2 ∙ id-number y.0 wy in
      let d = number_alone x.0.id y.0.id wx wy n in
      let t = once x.0 y.0 (Memᴰ.append_left (items B) x.1) (Memᴰ.append_right (items A) y.1) d in
      x.2 ∙ same_key x.0 y.0 t d ∙ sym y.2

  module _ (x y : Bound) {lower upper : ℕ} (low : key x ≡ lower) (high : key y ≡ upper) where
    fingerprints_equal : theory.fingerprint_in protocol (keys_of A) lower upper ≡ theory.fingerprint_in protocol (keys_of B) lower upper
        → fingerprint_of (within x y (items A)) ≡ fingerprint_of (within x y (items B))
    fingerprints_equal e = sym (own-print (items A) k_a x y) ∙ rw (low, high) e ∙ own-print (items B) k_b x y

    items-equal : within x y (items A) ≡ within x y (items B) → between (keys_of A) lower upper ≡ between (keys_of B) lower upper
    items-equal e = rw (← low, ← high) (sym (within_keys x y (items A)) ∙ ap (map key_of) e ∙ within_keys x y (items B))

  module _ (p : Place) (s : Session (List ℕ)) (g : Agrees A p s) where
    needed-ids : ids_in p.session.needed p.needed ≡ g.ids
    needed-ids = rw (g.count, g.list, ← append-nil (flatten g.ids)) (ids_flatten g.ids [] g.sized)

    -- ---- the reports are true

    theirs_so : claim.Sound protocol (keys_of A) (keys_of B) s → (d : List ℕ) → ReportsTheirs p d → Only B A d
    theirs_so sound d m =
        let m' : Memᴰ d g.ids = rw needed-ids at m in
        only-bytes B A k_b k_a d (all_mem (Sized 32) g.sized m')
        (sound.theirs (big_endian 32 d) (sym (g.needed (big_endian 32 d)) ∙ mem_has (big_endian 32) m'))

    ours_so : claim.Sound protocol (keys_of A) (keys_of B) s → (d : List ℕ) → ReportsOurs A p d → Only A B d
    ours_so sound d o =
        let w = marked-item s.marked (items A) o.index (let z = o.own in omega (arith, items-length A)) (rw g.marks at o.mark) in
        let i = w.0 in
        let h = all_mem Whole k_a.whole w.1 in
        let is : d ≡ i.id = sym o.its ∙ w.2 in
        rw is (only-bytes A B k_a k_b i.id h (rw (id-number i h) at (sound.ours (key_of i) w.3).1))

    -- ---- colliding ranges

    fingerprinted : {m : List ℕ} {N : T.Message (List ℕ)} {x y : ℕ} {f : List ℕ} → Means m N → Stands 0 N x y (T.fingerprint f) → Bounds x y (Fingerprinted m)
    fingerprinted {x = x} {y = y} {f = f} w st =
        let st' : Stands (key start) (project w.ranges) x y (T.fingerprint f) = rw (key-start, ← w.projected) st in
        bounds-map (λ lower upper m. record { ranges = w.ranges; bytes = f; says = means-reads w; stands = m }) (stands_bounds start w.ranges st')

    compared : {x y : ℕ} → claim.Compared s x y → Bounds x y (Compared p)
    compared c =
        let w = paired_back g.handed c.handed in
        ⊎_elim
        (λ st. bounds-map (λ lower upper z. record { query = w.0.0; reply = w.0.1; handed = w.1; stands = inl z }) (fingerprinted w.2.0 st))
        (λ st. bounds-map (λ lower upper z. record { query = w.0.0; reply = w.0.1; handed = w.1; stands = inr z }) (fingerprinted w.2.1 st))
        c.stands

    collides : (i : Item) → claim.Colliding protocol (keys_of A) (keys_of B) s (key_of i) → Colliding A B p i
    collides i c =
        let w = compared c.compared in
        record {
          lower = w.lower;
          upper = w.upper;
          compared = w.holds;
          above = rw w.low c.above;
          below = rw w.high c.below;
          equal = fingerprints_equal w.lower w.upper w.low w.high c.equal;
          different = λ e. c.different (items-equal w.lower w.upper w.low w.high e);
        }

    -- ---- the reports are complete

    theirs_all : claim.Complete protocol (keys_of A) (keys_of B) s → (i : Item) → Memᴰ i (items B) → Only B A i.id
        → ReportsTheirs p i.id ⊎ Colliding A B p i
    theirs_all complete i m o =
        let h = all_mem Whole k_b.whole m in
        ⊎_elim
        (λ e. inl (rw needed-ids (number_mem i.id g.ids h g.sized (g.needed (big_endian 32 i.id) ∙ rw (id-number i h) at e))))
        (λ c. inr (collides i c))
        (complete.theirs (key_of i) (mem_has key_of m) (only_keys B A k_b k_a i h o))

    ours_all : claim.Complete protocol (keys_of A) (keys_of B) s → (i : Item) → Memᴰ i (items A) → Only A B i.id
        → ReportsOurs A p i.id ⊎ Colliding A B p i
    ours_all complete i m o =
        ⊎_elim
        (λ e. let w = item-mark s.marked (items A) i m e in
        inl (record { index = w.0; own = let z = w.1 in omega (arith, items-length A); its = w.2; mark = rw g.marks w.3 }))
        (λ c. inr (collides i c))
        (complete.ours (key_of i) (mem_has key_of m) (only_keys A B k_a k_b i (all_mem Whole k_a.whole m) o))

    -- ---- together

    pub reported : claim.Sound protocol (keys_of A) (keys_of B) s → (s.done ≡ true → claim.Complete protocol (keys_of A) (keys_of B) s) → Reported A B p
    reported sound complete = record {
      theirs_so = theirs_so sound;
      ours_so = ours_so sound;
      theirs_all = λ e. theirs_all (complete (sym g.done ∙ e));
      ours_all = λ e. ours_all (complete (sym g.done ∙ e));
    }
