-- SPEC 15.3 to 15.7: which replies of a responder with a given table are approved, by places.
use Rattle.std.specs.Prelude.{ℕ, ◌≤◌, ◌<◌, ◌≡◌, ◌⊎◌, ◌↔◌}
use mathlib.Core.List.{List, Memᴰ}
use Rattle.message.specs.Bound.{Bound, infinity, key, start}
use Rattle.message.specs.Message.{Payload, skip, fingerprint, ids, Range}
use Rattle.message.specs.Meaning.{payload_at}
use Rattle.table.specs.Table.{Item, within, ids_of}
use Rattle.cutting.specs.Cutting.{fingerprint_of}
use Rattle.ends.specs.Calls.{each_range}

-- SPEC 15.7: "A place is a time and an id, whether or not an item stands there". As a number it is its key, below that of infinity; a range from x to y with x
-- below y holds at least the place of its lower bound.

-- the place k lies in the range from x to y
pub record Inside (x y : Bound) (k : ℕ) : Type 0 where
  pub above : key x ≤ k
  pub below : k < key y

-- the range from x to y stands in the message rs with the payload p
abbrev pub Stands : List Range → Bound → Bound → Payload → Type 0
Stands rs x y p = Memᴰ {A = Bound × Bound × Payload} (x, y, p) (each_range (λ x y p. (x, y, p)) start rs)

-- at the place k the message rs has ids
abbrev pub IdsAt : List Range → ℕ → Type 0
IdsAt rs k = (l : List (List ℕ)) × (payload_at rs k ≡ ids l)

-- a range of the message rs, up to u, meets the range from x to y: "ranges meet if a place lies in both" (SPEC 15.7)
pub record Meets (rs : List Range) (x y u : Bound) : Type 0 where
  pub lower : Bound
  pub payload : Payload
  pub stands : Stands rs lower u payload
  pub place : ℕ
  pub here : Inside lower u place
  pub there : Inside x y place

-- "at least two ranges that meet it" (SPEC 15.4), the one before the other
pub record TwoMeet (rs : List Range) (x y : Bound) : Type 0 where
  pub first : Bound
  pub second : Bound
  pub before : key first < key second
  pub one : Meets rs x y first
  pub other : Meets rs x y second

-- T are the items of the responder's table.
module _ (T : List Item) where
  -- the fingerprint f of the range from x to y "equals the table's" (SPEC 15.3)
  abbrev pub Equal : Bound → Bound → List ℕ → Type 0
  Equal x y f = f ≡ fingerprint_of (within x y T)

  pub record Approved (query reply : List Range) : Type 0 where
    -- SPEC 15.3: "Wherever the query skips, or its fingerprint equals the table's, the reply skips."
    pub skips : (k : ℕ) → k < key infinity → payload_at query k ≡ skip → payload_at reply k ≡ skip
    pub equal : (x y : Bound) (f : List ℕ) → Stands query x y (fingerprint f) → Equal x y f
        → (k : ℕ) → Inside x y k → payload_at reply k ≡ skip
    -- SPEC 15.4: "Inside any other fingerprint range the reply skips nowhere, and either has ids throughout or has at least two ranges that meet it."
    pub nowhere : (x y : Bound) (f : List ℕ) → Stands query x y (fingerprint f) → (Equal x y f → ⊥)
        → (k : ℕ) → Inside x y k → payload_at reply k ≡ skip → ⊥
    pub divided : (x y : Bound) (f : List ℕ) → Stands query x y (fingerprint f) → (Equal x y f → ⊥)
        → ((k : ℕ) → Inside x y k → IdsAt reply k) ⊎ TwoMeet reply x y
    -- SPEC 15.5: "Each fingerprint in the reply is the table's, and each ids range lists exactly the table's ids there."
    pub prints : (x y : Bound) (f : List ℕ) → Stands reply x y (fingerprint f) → Equal x y f
    pub lists : (x y : Bound) (l : List (List ℕ)) → Stands reply x y (ids l)
        → (d : List ℕ) → Memᴰ d l ↔ Memᴰ d (ids_of (within x y T))
    -- SPEC 15.6: "Where the query has ids, the reply has ids."
    pub listed : (k : ℕ) → k < key infinity → IdsAt query k → IdsAt reply k
