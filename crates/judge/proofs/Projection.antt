-- The ranges of a message, and those of the theory's message that it is.
use Prim.Native.Nat.{ℕ}
use mathlib.Core.Path.{◌≡◌, refl}
use mathlib.Core.List.{List, [], ◌∷◌, map}
use lib.Dec.{ltb}
use Rattle.message.specs.Bound.{Bound, big_endian, key}
use Rattle.message.specs.Message.{Payload, skip, fingerprint, ids, Range, range}
use Rattle.message.specs.Meaning.{payload_at}
use Rattle.message.proofs.Exact.{differ}
use Rattle.theory.specs.Message as T
use Rattle.theory.proofs.Tests.{by_test}
use Rattle.cutting.proofs.Projection.{payload, project}
use Rattle.judge.proofs.Places.{Sits, here, there}

-- the range that a range of the theory's message is
pub record Source (a : Bound) (rs : List Range) (x y : ℕ) (p : T.Payload (List ℕ)) : Type 0 where
  pub lower : Bound
  pub upper : Bound
  pub load : Payload
  pub sits : Sits a rs lower upper load
  pub from : x ≡ key lower
  pub to : y ≡ key upper
  pub what : p ≡ payload load

source-there : {a u : Bound} {o : Payload} {rs : List Range} {x y : ℕ} {p : T.Payload (List ℕ)} → Source u rs x y p → Source a (range u o ∷ rs) x y p
source-there w = record { lower = w.lower; upper = w.upper; load = w.load; sits = there w.sits; from = w.from; to = w.to; what = w.what }

pub source : (a : Bound) (rs : List Range) {x y : ℕ} {p : T.Payload (List ℕ)} → T.Stands (key a) (project rs) x y p → Source a rs x y p
unfolding project
source a [] st = elim st [ ]
source a (range u o ∷ rs) T.here = record { lower = a; upper = u; load = o; sits = here; from = refl; to = refl; what = refl }
source a (range u o ∷ rs) (T.there st) = source-there (source u rs st)

pub stands_project : (a : Bound) (rs : List Range) {x y : Bound} {p : Payload} → Sits a rs x y p → T.Stands (key a) (project rs) (key x) (key y) (payload p)
unfolding project
stands_project a [] s = elim s [ ]
stands_project a (range u o ∷ rs) here = T.here
stands_project a (range u o ∷ rs) (there s) = T.there (stands_project u rs s)

pub payload_project : (rs : List Range) (k : ℕ) → T.payload_at (project rs) k ≡ payload (payload_at rs k)
unfolding project payload payload_at T.payload_at
payload_project [] k = refl
payload_project (range u p ∷ rs) k = by_test (ltb k (key u)) (λ e. rw e) (λ e. rw e (payload_project rs k))

-- each payload is known by what it is in the theory
pub skip-back : (p : Payload) → payload p ≡ T.skip → p ≡ skip
unfolding payload
skip-back skip e = refl
skip-back (fingerprint f) e = differ (cc)
skip-back (ids l) e = differ (cc)

pub print-back : (p : Payload) (f : List ℕ) → T.fingerprint f ≡ payload p → p ≡ fingerprint f
unfolding payload
print-back skip f e = differ (cc)
print-back (fingerprint g) f e = cc
print-back (ids l) f e = differ (cc)

pub list_back : (p : Payload) (l : List ℕ) → T.ids l ≡ payload p → (ds : List (List ℕ)) × (p ≡ ids ds) × (l ≡ map (big_endian 32) ds)
unfolding payload
list_back skip l e = differ (cc)
list_back (fingerprint g) l e = differ (cc)
list_back (ids ds) l e = (ds, refl, cc)
