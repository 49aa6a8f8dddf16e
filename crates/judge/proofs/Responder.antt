-- Every answer of our responder is approved, for every cut.
use Prim.Native.Nat.{ℕ, ◌≤◌, ◌<◌}
use mathlib.Core.Path.{◌≡◌, refl, sym, ap, ◌∙◌}
use mathlib.Core.Bool.{true, false}
use mathlib.Core.List.{List, [], ◌∷◌, map, Memᴰ}
use mathlib.Core.Logic.{◌⊎◌, inl, inr, ⊎_elim, ◌↔◌}
use native.Mathlib.Omega.{arith}
use Rattle.message.specs.Bound.{Bound, big_endian, key, start}
use Rattle.message.specs.Message.{Payload, skip, fingerprint, ids, Range, range}
use Rattle.message.specs.Meaning.{payload_at, tidy}
use Rattle.message.specs.WellFormed.{All, Sized, LawfulPayload, Rising, WellFormed}
use Rattle.message.proofs.Exact.{differ}
use Rattle.message.proofs.Messages.{message-back}
use Rattle.message.proofs.Meaning.{tidy-rises, meaning}
use Rattle.theory.specs.Table.{has}
use Rattle.theory.specs.Message as M
use Rattle.theory.specs.Protocol.{fingerprint_in}
use Rattle.theory.specs.Rounds.{Cut}
use Rattle.theory.specs.Lawful.{LawfulReply}
use Rattle.theory.specs.Ends as ends
use Rattle.theory.proofs.Tests.{by_test}
use Rattle.theory.proofs.Messages.{Rises}
use Rattle.theory.proofs.Ends.{answer-lawful}
use Rattle.table.specs.Table.{key_of, Table, items, within, ids_of}
use Rattle.cutting.specs.Cutting.{fingerprint_of}
use Rattle.cutting.proofs.Projection.{protocol, payload, project, key-start, within-whole}
use Rattle.ends.specs.Lists.{same}
use Rattle.limit.specs.Limit.{unlimited}
use Rattle.limit.proofs.Parts.{ids_whole, own-print}
use Rattle.limit.proofs.Sizes.{unlimited-whole}
use Rattle.ends.specs.Responder.{reply, other_version}
use Rattle.ends.proofs.Lists.{all_mem, mem_has, has_mem}
use Rattle.ends.proofs.Tables.{Kept, kept, end_of, proper, same_true}
use Rattle.ends.proofs.Ranges.{rising_projects}
use Rattle.ends.proofs.Messages.{reply_well}
use Rattle.ends.proofs.Projection.{reply_projects}
use Rattle.ends.proofs.Reports.{number_alone, same_refl}
use Rattle.ends.proofs.Calls.{unrefused-answer}
use Rattle.judge.specs.Approved.{Stands, Inside, IdsAt, Meets, TwoMeet, Equal, Approved}
use Rattle.judge.specs.Judge.{judged}
use Rattle.judge.specs.Responder.{ResponderApproved}
use Rattle.judge.proofs.Places.{Sits, here, there, sits, stands, whole_sits, At, at_place}
use Rattle.judge.proofs.Exact.{approves_exact}
use Rattle.judge.proofs.Projection.{Source, source, stands_project, payload_project, skip-back, list_back}
use Rattle.judge.proofs.Lawful.{own_numbers}
use Rattle.judge.proofs.Answering.{answer-skip, answer-ids, answer-equal, answer_covers, Halves, answer-divides}

-- the payload of a range that a message carries
sits_lawful : (a : Bound) (rs : List Range) {x y : Bound} {p : Payload} → Rising a rs → Sits a rs x y p → LawfulPayload p
sits_lawful a [] h s = elim s [ ]
sits_lawful a (range u o ∷ rs) h here = h.2
sits_lawful a (range u o ∷ rs) h (there s) = sits_lawful u rs h.3 s

-- lists of ids with the same numbers have the same ids
same_members : (l own : List (List ℕ)) → All (Sized 32) l → All (Sized 32) own → ((i : ℕ) → has i (map (big_endian 32) l) ≡ has i (map (big_endian 32) own))
    → {d : List ℕ} → Memᴰ d l → Memᴰ d own
same_members l own hl ho e {d} m =
    let w = has_mem (big_endian 32) (big_endian 32 d) own (sym (e (big_endian 32 d)) ∙ mem_has (big_endian 32) m) in
    rw (number_alone d w.0 (all_mem (Sized 32) hl m) (all_mem (Sized 32) ho w.1) w.2) w.1

module _ (T : Table) (c : Cut) (k : Kept T c) (q : List Range) (wq : WellFormed q) where
  abbrev r : List Range
  r = tidy (reply c (items T) q)

  abbrev A : M.Message (List ℕ)
  A = ends.answer protocol (end_of T c) (project q)

  is_answer : project r ≡ A
  is_answer = reply_projects T c k q

  wr : WellFormed r
  wr = tidy-rises start (reply c (items T) q) (reply_well T c k q wq)

  up : Rises 0 (project q)
  up = rw key-start at (rising_projects start q wq)

  at_answer : (j : ℕ) → payload (payload_at r j) ≡ M.payload_at A j
  at_answer j = sym (payload_project r j) ∙ ap (λ (m : M.Message (List ℕ)). M.payload_at m j) is_answer

  answer-skips : (j : ℕ) → M.payload_at A j ≡ M.skip → payload_at r j ≡ skip
  answer-skips j e = skip-back (payload_at r j) (at_answer j ∙ e)

  answer-lists : (j : ℕ) {l : List ℕ} → M.payload_at A j ≡ M.ids l → IdsAt r j
  answer-lists j {l} e = let w = list_back (payload_at r j) l (sym (at_answer j ∙ e)) in (w.0, w.1)

  asked : {x y : Bound} {p : Payload} → Sits start q x y p → M.Stands 0 (project q) (key x) (key y) (payload p)
  asked s = rw key-start at (stands_project start q s)

  given : {x y : Bound} {p : Payload} → Sits start r x y p → M.Stands 0 A (key x) (key y) (payload p)
  given s = rw (key-start, is_answer) at (stands_project start r s)

  asked-print : {x y : Bound} {f : List ℕ} → Stands q x y (fingerprint f) → M.Stands 0 (project q) (key x) (key y) (M.fingerprint f)
  unfolding payload
  asked-print m = asked (sits start q m)

  lawful : LawfulReply protocol (map key_of (items T)) (project q) A
  lawful = answer-lawful protocol (end_of T c) (proper T c k) (project q) up

  own : (x y : Bound) → fingerprint_in protocol (map key_of (items T)) (key x) (key y) ≡ fingerprint_of (within x y (items T))
  own = own-print (items T) k.own

  -- ---- fingerprints of the query

  equals : (x y : Bound) (f : List ℕ) → Equal (items T) x y f → ends.equals_own protocol (end_of T c) (key x) (key y) f ≡ true
  unfolding ends.equals_own
  equals x y f e = rw (own x y, e) (same_refl (fingerprint_of (within x y (items T))))

  differs : (x y : Bound) (f : List ℕ) → (Equal (items T) x y f → ⊥) → ends.equals_own protocol (end_of T c) (key x) (key y) f ≡ false
  unfolding ends.equals_own
  differs x y f n =
      rw (own x y) (by_test (same f (fingerprint_of (within x y (items T)))) (λ t. absurd (n (same_true f (fingerprint_of (within x y (items T))) t))) (λ t. t))

  module _ {x y : Bound} {f : List ℕ} (m : Stands q x y (fingerprint f)) (n : Equal (items T) x y f → ⊥) where
    meets_at : {lo end : ℕ} {g : List ℕ} (w : Source start r lo end (M.fingerprint g)) → key x ≤ lo → lo < end → end ≤ key y → Meets r x y w.upper
    meets_at {lo} {end} w a b d =
        let from = w.from in
        let to = w.to in
        record {
          lower = w.lower;
          payload = w.load;
          stands = stands start r w.sits;
          place = lo;
          here = record { above = omega arith; below = omega arith };
          there = record { above = a; below = omega arith };
        }

    two : Halves protocol (end_of T c) (proper T c k) k.parts (project q) up (asked-print m) (differs x y f n) → TwoMeet r x y
    two h =
        let w : Source start r (key x) h.mid (M.fingerprint h.one) = source start r (rw (key-start, is_answer) h.first) in
        let v : Source start r h.mid h.end (M.fingerprint h.two) = source start r (rw (key-start, is_answer) h.second) in
        let i = h.low in
        let j = h.middle in
        let u = h.high in
        record {
          first = w.upper;
          second = v.upper;
          before = omega (arith, w.to, v.to);
          one = meets_at w (omega arith) i (omega arith);
          other = meets_at v (omega arith) j u;
        }

    divides : ((j : ℕ) → Inside x y j → IdsAt r j) ⊎ TwoMeet r x y
    divides =
        ⊎_elim (λ h. inl (λ j i. answer-lists j (h j i.above i.below))) (λ h. inr (two h))
        (answer-divides protocol (end_of T c) (proper T c k) k.parts (project q) up (asked-print m) (differs x y f n))

  -- ---- what stands in the reply

  print_so : (x y : Bound) (f : List ℕ) → Sits start r x y (fingerprint f) → Equal (items T) x y f
  unfolding payload
  print_so x y f s = lawful.own (key x) (key y) f (given s) ∙ own x y

  list_numbers : (x y : Bound) (l : List (List ℕ)) → Sits start r x y (ids l) → (i : ℕ) → has i (map (big_endian 32) l) ≡ has i (map (big_endian 32) (ids_of (within x y (items T))))
  unfolding payload
  list_numbers x y l s i = lawful.lists (key x) (key y) (map (big_endian 32) l) (given s) i ∙ ap (has i) (own_numbers (items T) k.own x y)

  list_so : (x y : Bound) (l : List (List ℕ)) → Sits start r x y (ids l) → (d : List ℕ) → Memᴰ d l ↔ Memᴰ d (ids_of (within x y (items T)))
  list_so x y l s d =
      let hl = (sits_lawful start r wr s).1 in
      let ho = ids_whole (within x y (items T)) (within-whole x y (items T) k.own.whole) in
      let e = list_numbers x y l s in (
        λ m. same_members l (ids_of (within x y (items T))) hl ho e m,
        λ m. same_members (ids_of (within x y (items T))) l ho hl (λ i. sym (e i)) m,
      )

  listed_at : (j : ℕ) (p : Payload) (l : List (List ℕ)) → p ≡ ids l → At start q j p → IdsAt r j
  unfolding payload
  listed_at j p l d w =
      let s = whole_sits start q (rw d at w.sits) (λ z. differ (cc)) in
      answer-lists j (answer-ids protocol (end_of T c) (proper T c k) k.parts (project q) up j (asked s) w.above w.below)

  pub answer-approved : Approved (items T) q r
  unfolding payload
  answer-approved = record {
    skips = λ j h e. answer-skips j (answer-skip protocol (end_of T c) (proper T c k) k.parts (project q) up j (payload_project q j ∙ ap payload e));
    equal = λ x y f m e j i.
        answer-skips j (answer-equal protocol (end_of T c) (proper T c k) k.parts (project q) up (asked-print m) j (equals x y f e) i.above i.below);
    nowhere = λ x y f m n j i e.
        answer_covers protocol (end_of T c) (proper T c k) k.parts (project q) up (asked-print m) (differs x y f n) j i.above i.below (sym (at_answer j) ∙ ap payload e);
    divided = λ x y f m n. divides m n;
    prints = λ x y f m. print_so x y f (sits start r m);
    lists = λ x y l m. list_so x y l (sits start r m);
    listed = λ j h w. listed_at j (payload_at q j) w.0 w.1 (at_place start q j (rw key-start (omega arith)) h);
  }

-- Every answer of our responder without a byte limit gets a yes, to a query that begins with 61.
pub responder_approved : ResponderApproved
unfolding judged other_version
responder_approved T c rest out n bt bq e =
    let query : List ℕ = 0x61 ∷ rest in
    let w = unrefused-answer unlimited T c query out n refl e in
    let k = kept T c bt w.checks.size w.checks.order w.checks.limits in
    let wq = (message-back query w.ranges w.rest bq w.says).0 in
    let m = meaning (reply c (items T) w.ranges) (reply_well T c k w.ranges wq) in
    rw (
      w.checks.size,
      w.checks.order,
      w.says,
      w.wrote,
      unlimited-whole (items T) (reply c (items T) w.ranges),
      m.0,
      (approves_exact (items T) w.ranges (tidy (reply c (items T) w.ranges)) wq m.1).1 (answer-approved T c k w.ranges wq),
    )
