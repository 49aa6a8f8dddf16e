-- An approved reply is a lawful reply of the theory. So what the theory shows of every list of takes holds with any mix of approved replies.
use Prim.Native.Nat.{ℕ, ◌<◌}
use mathlib.Core.Path.{◌≡◌, refl, sym, ap, ap₂, ◌∙◌}
use mathlib.Core.List.{List, map, Memᴰ}
use mathlib.Core.Logic.{◌⊎◌, inl, inr, ⊎_elim, ◌↔◌}
use native.Mathlib.Omega.{arith}
use Rattle.message.specs.Bound.{Bound, infinity, big_endian, key, start}
use Rattle.message.specs.Message.{Payload, skip, fingerprint, ids, Range}
use Rattle.message.specs.Meaning.{payload_at}
use Rattle.message.proofs.Exact.{differ}
use Rattle.theory.specs.Table.{has}
use Rattle.theory.specs.Message as theory
use Rattle.theory.specs.Protocol.{ids_in, fingerprint_in}
use Rattle.theory.specs.Lawful.{EqualAt, LawfulReply}
use Rattle.theory.proofs.Tests.{by_test, clash}
use Rattle.table.specs.Table.{Item, key_of, within, ids_of}
use Rattle.cutting.specs.Cutting.{fingerprint_of}
use Rattle.cutting.proofs.Projection.{protocol, payload, project, key-start, within_keys, within-whole, ids-back}
use Rattle.limit.proofs.Parts.{OwnItems, own-print}
use Rattle.ends.specs.Lists.{same}
use Rattle.ends.proofs.Lists.{mem_has, has_mem}
use Rattle.ends.proofs.Tables.{same_true}
use Rattle.ends.proofs.Reports.{same_refl}
use Rattle.judge.specs.Approved.{Approved}
use Rattle.judge.proofs.Places.{stands, whole_sits, At, at_place}
use Rattle.judge.proofs.Projection.{Source, source, stands_project, payload_project, skip-back, print-back, list_back}

-- ---- the same ids, the same numbers

pub same_numbers : (f : List ℕ → ℕ) (l own : List (List ℕ)) → ((d : List ℕ) → Memᴰ d l ↔ Memᴰ d own) → (i : ℕ) → has i (map f l) ≡ has i (map f own)
same_numbers f l own h i =
    by_test (has i (map f l))
    (λ e. e ∙ sym (let w = has_mem f i l e in rw w.2 (mem_has f ((h w.0).0 w.1))))
    (λ e. by_test (has i (map f own))
    (λ d. clash (let w = has_mem f i own d in rw w.2 (mem_has f ((h w.0).1 w.1))) e)
    (λ d. e ∙ sym d))

-- ---- the items of a table

module _ (T : List Item) (o : OwnItems T) where
  pub own_numbers : (x y : Bound) → ids_in protocol (map key_of T) (key x) (key y) ≡ map (big_endian 32) (ids_of (within x y T))
  unfolding protocol
  own_numbers x y = rw (← within_keys x y T) (ids-back (within x y T) (within-whole x y T o.whole))

  module _ (q r : List Range) (h : Approved T q r) where
    -- ---- what stands in the reply

    from_start : {rs : List Range} {x y : ℕ} {p : theory.Payload (List ℕ)} → theory.Stands 0 (project rs) x y p → Source start rs x y p
    from_start {rs} st = source start rs (rw key-start st)

    lists_so : (x y : ℕ) (l : List ℕ) → theory.Stands 0 (project r) x y (theory.ids l) → (i : ℕ) → has i l ≡ has i (ids_in protocol (map key_of T) x y)
    lists_so x y l st i =
        let w = from_start st in
        let z = list_back w.load l w.what in
        let m = stands start r (rw z.1 at w.sits) in
        ap (has i) z.2
        ∙ same_numbers (big_endian 32) z.0 (ids_of (within w.lower w.upper T)) (h.lists w.lower w.upper z.0 m) i
        ∙ ap (has i) (sym (own_numbers w.lower w.upper))
        ∙ ap₂ (λ (x y : ℕ). has i (ids_in protocol (map key_of T) x y)) (sym w.from) (sym w.to)

    prints_so : (x y : ℕ) (f : List ℕ) → theory.Stands 0 (project r) x y (theory.fingerprint f) → f ≡ fingerprint_in protocol (map key_of T) x y
    prints_so x y f st =
        let w = from_start st in
        let m = stands start r (rw (print-back w.load f w.what) at w.sits) in
        h.prints w.lower w.upper f m
        ∙ sym (own-print T o w.lower w.upper)
        ∙ ap₂ (λ (x y : ℕ). fingerprint_in protocol (map key_of T) x y) (sym w.from) (sym w.to)

    -- ---- where the reply skips

    -- the query's payload p at the place k
    skips_so : (k : ℕ) → k < key infinity → payload_at r k ≡ skip → (p : Payload) → payload_at q k ≡ p → At start q k p → (p ≡ skip) ⊎ EqualAt protocol (map key_of T) (project q) k
    unfolding payload
    skips_so k lt e skip d w = inl refl
    skips_so k lt e (fingerprint f) d w =
        let s = whole_sits start q w.sits (λ z. differ (cc)) in
        by_test (same f (fingerprint_of (within w.x w.y T)))
        (λ t. let same-print : f ≡ fingerprint_in protocol (map key_of T) (key w.x) (key w.y) =
        same_true f (fingerprint_of (within w.x w.y T)) t ∙ sym (own-print T o w.x w.y) in
        inr (key w.x, key w.y, record { stands = rw (← same-print, ← key-start) (stands_project start q s); above = w.above; below = w.below }))
        (λ t. absurd (h.nowhere w.x w.y f (stands start q s)
        (λ z. clash (ap (λ (g : List ℕ). same g (fingerprint_of (within w.x w.y T))) z ∙ same_refl (fingerprint_of (within w.x w.y T))) t)
        k (record { above = w.above; below = w.below }) e))
    skips_so k lt e (ids l) d w = let z = h.listed k lt (l, d) in differ (let y = z.1 in cc)

    pub approved-lawful : LawfulReply protocol (map key_of T) (project q) (project r)
    unfolding protocol payload
    approved-lawful = record {
      lists = lists_so;
      own = prints_so;
      skips = λ k lt e.
          let none = skip-back (payload_at r k) (sym (payload_project r k) ∙ e) in
          ⊎_elim (λ z. inl (payload_project q k ∙ ap payload z)) inr (skips_so k lt none (payload_at q k) refl (at_place start q k (rw key-start (omega arith)) lt));
    }
