-- The ranges of a message that meet a range, and what holds at its places.
use Prim.Native.Nat.{ℕ, ◌≤◌, ◌<◌}
use mathlib.Core.Path.{◌≡◌, refl}
use mathlib.Core.Bool.{Bool, true}
use mathlib.Core.List.{List, [], ◌∷◌}
use native.Mathlib.Omega.{arith}
use lib.Dec.{ltb}
use lib.ListN.{length}
use borrow.Author.Tests.{ltb-true, ltb-false, lt-ltb}
use mathlib.Core.List.{flatten}
use Rattle.message.specs.Bound.{Bound, infinity, key, start}
use Rattle.message.specs.Message.{Payload, Range, range}
use Rattle.message.specs.Meaning.{payload_at}
use Rattle.message.specs.WellFormed.{Rising}
use Rattle.theory.proofs.Tests.{by_test, and_intro, and_left, and_right}
use Rattle.table.specs.Lists.{every}
use Rattle.ends.specs.Calls.{each_range}
use Rattle.judge.specs.Approved.{Inside}
use Rattle.judge.specs.Judge.{whole, meets, meeting}
use Rattle.judge.proofs.Places.{Sits, here, there, at_place, sits_above, place_at, sits_up, sits_top}

-- every range passes a test
pub range-passes : (test : Bound → Bound → Payload → Bool) (a : Bound) (rs : List Range) {x y : Bound} {p : Payload}
    → every (λ b. b) (each_range test a rs) ≡ true → Sits a rs x y p → test x y p ≡ true
unfolding every each_range
range-passes test a [] e s = elim s [ ]
range-passes test a (range u o ∷ rs) e here = and_left (test a u o) _ e
range-passes test a (range u o ∷ rs) e (there s) = range-passes test u rs (and_right (test a u o) _ e) s

pub all_pass : (test : Bound → Bound → Payload → Bool) (a : Bound) (rs : List Range)
    → ((x y : Bound) (p : Payload) → Sits a rs x y p → test x y p ≡ true) → every (λ b. b) (each_range test a rs) ≡ true
unfolding every each_range
all_pass test a [] h = refl
all_pass test a (range u o ∷ rs) h = and_intro (h a u o here) (all_pass test u rs (λ x y p s. h x y p (there s)))

-- ---- two ranges that meet

pub meets_intro : (x y a b : Bound) → key x < key b → key a < key y → meets x y a b ≡ true
unfolding meets
meets_intro x y a b h k = and_intro (lt-ltb (key x) (key b) h) (lt-ltb (key a) (key y) k)

pub meets-one : (x y a b : Bound) → meets x y a b ≡ true → key x < key b
unfolding meets
meets-one x y a b e = ltb-true (key x) (key b) (and_left (ltb (key x) (key b)) (ltb (key a) (key y)) e)

pub meets-other : (x y a b : Bound) → meets x y a b ≡ true → key a < key y
unfolding meets
meets-other x y a b e = ltb-true (key a) (key y) (and_right (ltb (key x) (key b)) (ltb (key a) (key y)) e)

-- the greater of the two lower bounds is a place of both
pub common : (x y a b : Bound) → key x < key y → key a < key b → meets x y a b ≡ true → (k : ℕ) × Inside x y k × Inside a b k
common x y a b h g e =
    let m = meets-one x y a b e in
    let n = meets-other x y a b e in
    by_test (ltb (key x) (key a))
    (λ t. let l = ltb-true (key x) (key a) t in (key a, record { above = omega arith; below = n }, record { above = omega arith; below = g }))
    (λ t. let l = ltb-false (key x) (key a) t in (key x, record { above = omega arith; below = h }, record { above = l; below = m }))

-- ---- all that meet a range

module _ (x y : Bound) where
  module _ (test : Payload → Bool) where
    pub met-passes : (a : Bound) (rs : List Range) {c d : Bound} {p : Payload} → every test (meeting x y a rs) ≡ true → Sits a rs c d p → meets x y c d ≡ true → test p ≡ true
    unfolding meeting each_range flatten every
    met-passes a [] e s m = elim s [ ]
    met-passes a (range u p ∷ rs) e here m = and_left (test p) _ (rw m at e)
    met-passes a (range u o ∷ rs) e (there s) m =
        by_test (meets x y a u) (λ t. met-passes u rs (and_right (test o) _ (rw t at e)) s m) (λ t. met-passes u rs (rw t at e) s m)

    pub all_met : (a : Bound) (rs : List Range) → ((c d : Bound) (p : Payload) → Sits a rs c d p → meets x y c d ≡ true → test p ≡ true) → every test (meeting x y a rs) ≡ true
    unfolding meeting each_range flatten every
    all_met a [] h = refl
    all_met a (range u o ∷ rs) h =
        by_test (meets x y a u)
        (λ e. rw e (and_intro (h a u o here e) (all_met u rs (λ c d p s. h c d p (there s)))))
        (λ e. rw e (all_met u rs (λ c d p s. h c d p (there s))))

  -- ---- at least one, at least two

  pub record Met (a : Bound) (rs : List Range) : Type 0 where
    pub lower : Bound
    pub upper : Bound
    pub payload : Payload
    pub sits : Sits a rs lower upper payload
    pub meets : meets x y lower upper ≡ true

  pub one-met : (a : Bound) (rs : List Range) → 1 ≤ length (meeting x y a rs) → Met a rs
  unfolding meeting each_range flatten
  one-met a [] h = absurd (omega arith)
  one-met a (range u p ∷ rs) h =
      by_test (meets x y a u)
      (λ e. record { lower = a; upper = u; payload = p; sits = here; meets = e })
      (λ e. let w = one-met u rs (rw e at h) in record { lower = w.lower; upper = w.upper; payload = w.payload; sits = there w.sits; meets = w.meets })

  pub met-one : (a : Bound) (rs : List Range) {c d : Bound} {p : Payload} → Sits a rs c d p → meets x y c d ≡ true → 1 ≤ length (meeting x y a rs)
  unfolding meeting each_range flatten
  met-one a [] s m = elim s [ ]
  met-one a (range u p ∷ rs) here m = rw m (omega arith)
  met-one a (range u o ∷ rs) (there s) m = by_test (meets x y a u) (λ e. rw e (omega arith)) (λ e. rw e (met-one u rs s m))

  pub met-two : (a : Bound) (rs : List Range) {c d c' d' : Bound} {p p' : Payload} → Sits a rs c d p → Sits a rs c' d' p' → key d < key d'
      → meets x y c d ≡ true → meets x y c' d' ≡ true → 2 ≤ length (meeting x y a rs)
  unfolding meeting each_range flatten
  met-two a [] s s' l m m' = elim s [ ]
  met-two a (range u p ∷ rs) here here l m m' = absurd (omega arith)
  met-two a (range u p ∷ rs) here (there s') l m m' = rw m (let z = met-one u rs s' m' in omega arith)
  met-two a (range u p ∷ rs) (there s) here l m m' = rw m' (let z = met-one u rs s m in omega arith)
  met-two a (range u o ∷ rs) (there s) (there s') l m m' =
      by_test (meets x y a u) (λ e. rw e (let z = met-two u rs s s' l m m' in omega arith)) (λ e. rw e (met-two u rs s s' l m m'))

  -- the one before the other
  pub record Pair (a : Bound) (rs : List Range) : Type 0 where
    pub first : Met a rs
    pub second : Met a rs
    pub before : key first.upper ≤ key second.lower

  abbrev met-there : {a u : Bound} {o : Payload} {rs : List Range} → Met u rs → Met a (range u o ∷ rs)
  met-there w = record { lower = w.lower; upper = w.upper; payload = w.payload; sits = there w.sits; meets = w.meets }

  pub two-met : (a : Bound) (rs : List Range) → Rising a rs → 2 ≤ length (meeting x y a (whole rs)) → Pair a (whole rs)
  unfolding meeting each_range flatten whole
  two-met a [] h l = by_test (meets x y a infinity) (λ e. absurd (let z : 2 ≤ 1 = rw e at l in omega arith)) (λ e. absurd (let z : 2 ≤ 0 = rw e at l in omega arith))
  two-met a (range u p ∷ rs) h l =
      by_test (meets x y a u)
      (λ e. let w = one-met u (whole rs) (let z = rw e at l in omega arith) in
      record { first = record { lower = a; upper = u; payload = p; sits = here; meets = e }; second = met-there w; before = sits_above u rs h.3 w.sits })
      (λ e. let w = two-met u rs h.3 (rw e at l) in
      record { first = met-there w.first; second = met-there w.second; before = w.before })

-- ---- by places: the reply rs, and a range of the query from x to y

module _ (test : Payload → Bool) (rs : List Range) (x y : Bound) where
  pub passes_at : key y ≤ key infinity → every test (meeting x y start (whole rs)) ≡ true → (k : ℕ) → key start ≤ key x → Inside x y k → test (payload_at rs k) ≡ true
  passes_at top e k low i =
      let w = at_place start rs k (omega (arith, i.above)) (omega (arith, i.below)) in
      met-passes x y test start (whole rs) e w.sits (meets_intro x y w.x w.y (omega (arith, i.above, w.below)) (omega (arith, i.below, w.above)))

  pub at_passes : Rising start rs → key y ≤ key infinity → (key x < key infinity → key x < key y)
      → ((k : ℕ) → Inside x y k → test (payload_at rs k) ≡ true) → every test (meeting x y start (whole rs)) ≡ true
  at_passes h top up f = all_met x y test start (whole rs) (λ c d p s m.
      let one = meets-one x y c d m in
      let other = meets-other x y c d m in
      let w = common x y c d (up (omega (arith, sits_top start rs h s))) (sits_up start rs h s (omega arith)) m in
      rw (place_at start rs w.0 h s w.2.above w.2.below) at (f w.0 w.1))
