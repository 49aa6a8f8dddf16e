-- Of a message in the theory: what makes it shorter keeps it lawful. T is the table of the end that sends it.
use mathlib.Core.Path.{◌≡◌, refl, sym}
use mathlib.Core.List.{List, [], ◌∷◌}
use Prim.Native.Nat.{ℕ, ◌<◌}
use lib.Dec.{ltb}
use borrow.Author.Tests.{lt-ltb}
use Rattle.theory.specs.Table.{has}
use Rattle.theory.specs.Message.{Payload, skip, fingerprint, ids, range, Message, Stands, here, there, payload_at}
use Rattle.theory.specs.Protocol.{Protocol, ids_in, fingerprint_in}
use Rattle.theory.specs.Lawful.{OwnFingerprints, LawfulReply, LawfulNext, LawfulOpening}
use Rattle.theory.proofs.Tests.{by_test}
use Rattle.theory.proofs.Messages.{fingerprint≢skip, ids≢skip, fingerprint≢ids}

module _ {F : Type 0} (P : Protocol F) (T : List ℕ) where
  -- From the lower bound l on, the message s is m, or a run of its ranges from the start, perhaps one list of all own ids behind it, and the own fingerprint
  -- of what is left up to infinity.
  pub data Shortens : ℕ → Message F → Message F → Type 0 where
    whole : {l : ℕ} {m : Message F} → Shortens l m m
    keeps : {l u : ℕ} {p : Payload F} {m s : Message F} → Shortens u m s → Shortens l (range u p ∷ m) (range u p ∷ s)
    lists : {l u : ℕ} {m : Message F} → Shortens l m (range u (ids (ids_in P T l u)) ∷ range P.infinity (fingerprint (fingerprint_in P T u P.infinity)) ∷ [])
    closes : {l : ℕ} {m : Message F} → Shortens l m (range P.infinity (fingerprint (fingerprint_in P T l P.infinity)) ∷ [])

  -- what stands in it stood there before, or is the end's own
  data Origin (l : ℕ) (m : Message F) (x y : ℕ) (p : Payload F) : Type 0 where
    stood : Stands l m x y p → Origin l m x y p
    own_ids : p ≡ ids (ids_in P T x y) → Origin l m x y p
    own_print : p ≡ fingerprint (fingerprint_in P T x y) → Origin l m x y p

  further : {l u x y : ℕ} {o p : Payload F} {m : Message F} → Origin u m x y p → Origin l (range u o ∷ m) x y p
  further (stood st) = stood (there st)
  further (own_ids e) = own_ids e
  further (own_print e) = own_print e

  stands_from : {l x y : ℕ} {p : Payload F} {m s : Message F} → Shortens l m s → Stands l s x y p → Origin l m x y p
  stands_from whole st = stood st
  stands_from (keeps w) here = stood here
  stands_from (keeps w) (there st) = further (stands_from w st)
  stands_from lists here = own_ids refl
  stands_from lists (there here) = own_print refl
  stands_from lists (there (there st)) = elim st [ ]
  stands_from closes here = own_print refl
  stands_from closes (there st) = elim st [ ]

  -- it skips only where m does
  skips_less : {l : ℕ} {m s : Message F} (k : ℕ) → k < P.infinity → Shortens l m s → payload_at s k ≡ skip → payload_at m k ≡ skip
  unfolding payload_at
  skips_less k h whole e = e
  skips_less k h (keeps {u = u} w) e = by_test (ltb k u) (λ t. rw t (rw t at e)) (λ t. rw t (skips_less k h w (rw t at e)))
  skips_less k h (lists {u = u}) e =
      by_test (ltb k u) (λ t. absurd (ids≢skip (rw t at e))) (λ t. absurd (fingerprint≢skip (rw (t, lt-ltb k P.infinity h) at e)))
  skips_less k h closes e = absurd (fingerprint≢skip (rw (lt-ltb k P.infinity h) at e))

  module _ {m s : Message F} (w : Shortens 0 m s) where
    shorter_own : OwnFingerprints P T m → OwnFingerprints P T s
    shorter_own h x y f st = by (stands_from w st)
      where
        by : Origin 0 m x y (fingerprint f) → f ≡ fingerprint_in P T x y
        by (stood t) = h x y f t
        by (own_ids e) = absurd (fingerprint≢ids e)
        by (own_print e) = cc

    shorter_lists : ((x y : ℕ) (l : List ℕ) → Stands 0 m x y (ids l) → (i : ℕ) → has i l ≡ has i (ids_in P T x y))
        → (x y : ℕ) (l : List ℕ) → Stands 0 s x y (ids l) → (i : ℕ) → has i l ≡ has i (ids_in P T x y)
    shorter_lists h x y l st i = by (stands_from w st)
      where
        by : Origin 0 m x y (ids l) → has i l ≡ has i (ids_in P T x y)
        by (stood t) = h x y l t i
        by (own_ids e) = let z : l ≡ ids_in P T x y = cc in rw z refl
        by (own_print e) = absurd (fingerprint≢ids (sym e))

    -- A reply, a next query and a first query that are lawful are so when they are made shorter.
    pub shorter_reply : {q : Message F} → LawfulReply P T q m → LawfulReply P T q s
    shorter_reply h = record { lists = shorter_lists h.lists; own = shorter_own h.own; skips = λ k lt e. h.skips k lt (skips_less k lt w e) }

    pub shorter_next : {r : Message F} → LawfulNext P T r m → LawfulNext P T r s
    shorter_next h = record { own = shorter_own h.own; skips = λ k lt e. h.skips k lt (skips_less k lt w e) }

    pub shorter_opening : LawfulOpening P T m → LawfulOpening P T s
    shorter_opening h = record { own = shorter_own h.own; skips = λ k lt e. h.skips k lt (skips_less k lt w e) }
