-- Marks window by window, and how many have room.
use Prim.Native.Nat.{ℕ, ◌+◌, ◌-◌, ◌*◌, ◌/◌, ◌≤◌, ◌<◌, min}
use mathlib.Core.Path.{◌≡◌, refl, sym, ap, ◌∙◌}
use mathlib.Core.Bool.{true, cond}
use mathlib.Core.List.{List, ◌++◌, map-append}
use native.Mathlib.Omega.{arith}
use lib.ListN.{length, take, drop, length-append, take-append-drop}
use lib.Seq.{length-take-le, take-append-add, take_at}
use Rattle.message.specs.Code.{ids_in}
use Rattle.writer.proofs.Laying.{rest, joined, rest_is, rest-length, joined_is}
use Rattle.table.specs.Lists.{rising}
use Rattle.ends.specs.Lists.{some, same}
use Rattle.ends.proofs.Lists.{ids-parts}
use Rattle.ends.proofs.Reports.{numbers}
use Rattle.removal.specs.Removing.{bits_in, named, present}
use Rattle.removal.proofs.Bitwise.{bits_in_length, bits_in_append}
use Rattle.removal.proofs.Surveying.{surveyed_none, found-next}

-- ---- the bits of bytes behind one another

pub joined_length : (n : ℕ) (out last : List ℕ) → n ≤ length out → length last ≡ length (rest n out) → length (joined n out last) ≡ length out
joined_length n out last h e = rw (joined_is n out last) (omega (arith, length-append (take n out) last, length-take-le n out h, rest-length n out))

-- bits in the bytes before a part, and in the part
bits-joined : (marks last : List ℕ) (lo n : ℕ) → lo ≡ lo / 8 * 8 → lo ≤ length marks * 8
    → take (lo + n) (bits_in (joined (lo / 8) marks last)) ≡ take lo (bits_in marks) ++ take n (bits_in last)
bits-joined marks last lo n e h =
    let front : List ℕ = bits_in (take (lo / 8) marks) in
    let long : length front ≡ lo = bits_in_length (take (lo / 8) marks) ∙ rw (length-take-le (lo / 8) marks (omega arith)) (sym e) in
    let before : take lo (bits_in marks) ≡ front =
    ap (λ (l : List ℕ). take lo (bits_in l)) (sym (take-append-drop (lo / 8) marks))
    ∙ ap (take lo) (bits_in_append (take (lo / 8) marks) (drop (lo / 8) marks))
    ∙ take_at front (bits_in (drop (lo / 8) marks)) lo long in
    ap (λ (l : List ℕ). take (lo + n) (bits_in l)) (joined_is (lo / 8) marks last)
    ∙ ap (take (lo + n)) (bits_in_append (take (lo / 8) marks) last)
    ∙ ap (λ (k : ℕ). take (k + n) (front ++ bits_in last)) (sym long)
    ∙ take-append-add front (bits_in last) n
    ∙ ap (λ (l : List ℕ). l ++ take n (bits_in last)) (sym before)

-- ---- ids marked window by window

named-next : (us : List (List ℕ)) (list : List ℕ) (lo n : ℕ) → named us (ids_in (lo + n) list) ≡ named us (ids_in lo list) ++ named us (ids_in n (drop (lo * 32) list))
unfolding named
named-next us list lo n = rw (ids-parts lo n list) (map-append (λ d. cond (some (same d) us) 1 0) (ids_in lo list) (ids_in n (drop (lo * 32) list)))

-- the first lo of `count` ids of the list are passed, which are whole bytes of marks as long as some are left
pub record Marking (us : List (List ℕ)) (list : List ℕ) (count : ℕ) (marks : List ℕ) (found lo : ℕ) : Type 0 where
  pub few : lo ≤ count
  pub whole : lo < count → lo ≡ lo / 8 * 8
  pub marked : take lo (bits_in marks) ≡ named us (ids_in lo list)
  pub in_list : found ≡ length (present us (ids_in lo list))

module _ (us : List (List ℕ)) (list : List ℕ) (count : ℕ) (marks : List ℕ) where
  pub marking_starts : Marking us list count marks 0 0
  unfolding named ids_in
  marking_starts = record { few = omega arith; whole = λ h. refl; marked = refl; in_list = (surveyed_none us list).in_list }

  module _ (found lo : ℕ) (s : Marking us list count marks found lo) (more : lo < count) (rises : rising (numbers (ids_in count list)) ≡ true) (room : count ≤ length marks * 8) where
    pub marking_goes : (n hints : ℕ) → n ≡ min (count - lo) (hints * 8) → (r : ℕ) (last : List ℕ)
        → r ≡ length (present us (ids_in n (rest (lo * 32) list))) → take n (bits_in last) ≡ named us (ids_in n (rest (lo * 32) list))
        → Marking us list count (joined (lo / 8) marks last) (found + r) (lo + n)
    marking_goes n hints fits r last e f =
        let at8 = s.whole more in
        record {
          few = omega arith;
          whole = λ l. omega arith;
          marked = bits-joined marks last lo n at8 (omega arith) ∙ rw (s.marked, f, rest_is (lo * 32) list) (sym (named-next us list lo n));
          in_list = found-next us list count lo n rises (omega arith) found r s.in_list (rw (rest_is (lo * 32) list) at e);
        }
