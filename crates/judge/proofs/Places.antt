-- Ranges that stand in a message, and the payload at each place.
use Prim.Native.Nat.{ℕ, ◌≤◌, ◌<◌}
use mathlib.Core.Path.{◌≡◌, refl, ap}
use mathlib.Core.List.{List, [], ◌∷◌, Memᴰ}
use native.Mathlib.Omega.{arith}
use lib.Dec.{ltb}
use borrow.Author.Tests.{ltb-true, ltb-false, le-ltb, lt-ltb}
use Rattle.message.specs.Bound.{Bound, infinity, finite, key}
use Rattle.message.specs.Message.{Payload, skip, Range, range}
use Rattle.message.specs.Meaning.{payload_at}
use Rattle.message.specs.WellFormed.{LawfulBound, Rising}
use Rattle.message.proofs.Bounds.{below-infinity}
use Rattle.theory.proofs.Tests.{by_test}
use Rattle.ends.specs.Calls.{each_range}
use Rattle.judge.specs.Judge.{whole}

-- in a message whose first lower bound is a, the range from x to y stands with the payload p
pub data Sits : Bound → List Range → Bound → Bound → Payload → Type 0 where
  here : {a u : Bound} {p : Payload} {rs : List Range} → Sits a (range u p ∷ rs) a u p
  there : {a u x y : Bound} {o p : Payload} {rs : List Range} → Sits u rs x y p → Sits a (range u o ∷ rs) x y p

abbrev pub Triple : Type 0
Triple = Bound × Bound × Payload

abbrev pub triples : Bound → List Range → List Triple
triples a rs = each_range (λ x y p. (x, y, p)) a rs

pub sits : (a : Bound) (rs : List Range) {x y : Bound} {p : Payload} → Memᴰ {A = Triple} (x, y, p) (triples a rs) → Sits a rs x y p
unfolding each_range
sits a [] m = elim m [ ]
sits a (range u o ∷ rs) {x} {y} {p} (Memᴰ.head e) =
    let e₁ : x ≡ a = ap (λ (t : Triple). t.0) e in
    let e₂ : y ≡ u = ap (λ (t : Triple). t.1) e in
    let e₃ : p ≡ o = ap (λ (t : Triple). t.2) e in
    rw (e₁, e₂, e₃) here
sits a (range u o ∷ rs) (Memᴰ.tail m) = there (sits u rs m)

pub stands : (a : Bound) (rs : List Range) {x y : Bound} {p : Payload} → Sits a rs x y p → Memᴰ {A = Triple} (x, y, p) (triples a rs)
unfolding each_range
stands a [] s = elim s [ ]
stands a (range u o ∷ rs) here = Memᴰ.head refl
stands a (range u o ∷ rs) (there s) = Memᴰ.tail (stands u rs s)

pub bound_top : (u : Bound) → LawfulBound u → key u ≤ key infinity
bound_top infinity h = omega arith
bound_top (finite t p) h = omega (arith, below-infinity t p h)

-- ---- with the skip behind the last bound

pub sits_whole : (a : Bound) (rs : List Range) {x y : Bound} {p : Payload} → Sits a rs x y p → Sits a (whole rs) x y p
unfolding whole
sits_whole a [] s = elim s [ ]
sits_whole a (range u o ∷ rs) here = here
sits_whole a (range u o ∷ rs) (there s) = there (sits_whole u rs s)

pub whole_sits : (a : Bound) (rs : List Range) {x y : Bound} {p : Payload} → Sits a (whole rs) x y p → (p ≡ skip → ⊥) → Sits a rs x y p
unfolding whole
whole_sits a [] here n = absurd (n refl)
whole_sits a [] (there s) n = elim s [ ]
whole_sits a (range u o ∷ rs) here n = here
whole_sits a (range u o ∷ rs) (there s) n = there (whole_sits u rs s n)

-- every place lies in a range
pub record At (a : Bound) (rs : List Range) (k : ℕ) (p : Payload) : Type 0 where
  pub x : Bound
  pub y : Bound
  pub sits : Sits a (whole rs) x y p
  pub above : key x ≤ k
  pub below : k < key y

further : {a u : Bound} {o p : Payload} {rs : List Range} {k : ℕ} → At u rs k p → At a (range u o ∷ rs) k p
unfolding whole
further w = record { x = w.x; y = w.y; sits = there w.sits; above = w.above; below = w.below }

pub at_place : (a : Bound) (rs : List Range) (k : ℕ) → key a ≤ k → k < key infinity → At a rs k (payload_at rs k)
unfolding whole payload_at
at_place a [] k h top = record { x = a; y = infinity; sits = here; above = h; below = top }
at_place a (range u p ∷ rs) k h top =
    by_test (ltb k (key u))
    (λ e. rw e (record { x = a; y = u; sits = here; above = h; below = ltb-true k (key u) e }))
    (λ e. rw e (further (at_place u rs k (ltb-false k (key u) e) top)))

pub sits_above : (a : Bound) (rs : List Range) {x y : Bound} {p : Payload} → Rising a rs → Sits a (whole rs) x y p → key a ≤ key x
unfolding whole
sits_above a [] h here = omega arith
sits_above a [] h (there s) = elim s [ ]
sits_above a (range u o ∷ rs) h here = omega arith
sits_above a (range u o ∷ rs) h (there s) = let b = h.0 in omega (arith, sits_above u rs h.3 s)

-- the payload of a range is that at each of its places
pub place_at : (a : Bound) (rs : List Range) {x y : Bound} {p : Payload} (k : ℕ) → Rising a rs → Sits a (whole rs) x y p → key x ≤ k → k < key y → payload_at rs k ≡ p
unfolding whole payload_at
place_at a [] k h here l u = refl
place_at a [] k h (there s) l u = elim s [ ]
place_at a (range v o ∷ rs) k h here l u = rw (lt-ltb k (key v) u)
place_at a (range v o ∷ rs) k h (there s) l u = rw (le-ltb k (key v) (omega (arith, sits_above v rs h.3 s))) (place_at v rs k h.3 s l u)

pub sits_up : (a : Bound) (rs : List Range) {x y : Bound} {p : Payload} → Rising a rs → Sits a (whole rs) x y p → key x < key infinity → key x < key y
unfolding whole
sits_up a [] h here l = l
sits_up a [] h (there s) l = elim s [ ]
sits_up a (range u o ∷ rs) h here l = h.0
sits_up a (range u o ∷ rs) h (there s) l = sits_up u rs h.3 s l

pub sits_top : (a : Bound) (rs : List Range) {x y : Bound} {p : Payload} → Rising a rs → Sits a (whole rs) x y p → key y ≤ key infinity
unfolding whole
sits_top a [] h here = omega arith
sits_top a [] h (there s) = elim s [ ]
sits_top a (range u o ∷ rs) h here = bound_top u h.1
sits_top a (range u o ∷ rs) h (there s) = sits_top u rs h.3 s
