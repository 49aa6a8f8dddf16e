-- What is sent can be carried by a message, and reads back as these ranges.
use Prim.Native.Nat.{ℕ, zero, suc, ◌-◌, ◌≤◌, ◌<◌}
use mathlib.Core.Path.{◌≡◌, refl}
use mathlib.Core.Bool.{false}
use mathlib.Core.List.{List, [], ◌∷◌, ◌++◌}
use native.Mathlib.Omega.{arith}
use lib.ListN.{length, take, drop, length-drop}
use Rattle.message.specs.Bound.{Bound, infinity, finite, key, start}
use Rattle.message.specs.Message.{skip, fingerprint, ids, Range, range, upper, spell_message}
use Rattle.message.specs.Meaning.{tidy, write_message}
use Rattle.message.specs.WellFormed.{LawfulBound, Rising, WellFormed}
use Rattle.message.proofs.Bounds.{below-infinity}
use Rattle.message.proofs.Messages.{message-there}
use Rattle.message.proofs.Meaning.{tidy-rises}
use Rattle.table.specs.Table.{Item, items, within}
use Rattle.limit.specs.Limit.{Limit, unlimited, bytes, below_least, run_end, closed, longest, first_ids, most_ids, cut_after, part_of, shortened, limited, sent_message}
use Rattle.limit.specs.Sent.{SentReads}
use Rattle.limit.proofs.Runs.{largest-most, fingerprint-sized}
use Rattle.limit.proofs.Sizes.{longest_short, least-room, by_limit}
use Rattle.limit.proofs.Parts.{OwnItems, own-items, cut-above, cut_below, cut-lawful, cut-listed}

-- ---- runs

pub end-append : (x : Bound) (a b : List Range) → run_end x (a ++ b) ≡ run_end (run_end x a) b
unfolding run_end
end-append x [] b = refl
end-append x (r ∷ a) b = end-append (upper r) a b

rising-append : (x : Bound) (a b : List Range) → Rising x a → Rising (run_end x a) b → Rising x (a ++ b)
unfolding run_end
rising-append x [] b h g = g
rising-append x (range u p ∷ a) b h g = (h.0, h.1, h.2, rising-append u a b h.3 g)

rising-cut : (k : ℕ) (x : Bound) (rs : List Range) → Rising x rs → Rising x (take k rs) × Rising (run_end x (take k rs)) (drop k rs)
unfolding run_end
rising-cut zero x rs h = (tt, h)
rising-cut (suc k) x [] h = (tt, tt)
rising-cut (suc k) x (range u p ∷ rs) h = let r = rising-cut k u rs h.3 in ((h.0, h.1, h.2, r.0), r.1)

-- a bound that is followed by another is not infinity
not-above : (u : Bound) → LawfulBound u → key u ≤ key infinity
not-above infinity h = omega arith
not-above (finite t p) h = omega (arith, below-infinity t p h)

pub followed : (x : Bound) (rs : List Range) → 0 < length rs → Rising x rs → key x < key infinity
followed x [] l h = absurd (omega arith)
followed x (range u p ∷ rs) l h = omega (arith, h.0, not-above u h.1)

-- ---- what is kept of the first range that does not fit

pub data Part (T : List Item) (run rest : List Range) : List Range → Type 0 where
  nothing : Part T run rest []
  first : (y : Bound) (l : List (List ℕ)) (rs : List Range) (k : ℕ) → rest ≡ range y (ids l) ∷ rs → suc k < length (within (run_end start run) y T)
      → Part T run rest (first_ids (within (run_end start run) y T) (suc k) ∷ [])

pub part_is : (n : ℕ) (T : List Item) (run rest : List Range) → Part T run rest (part_of n T run rest)
unfolding part_of most_ids
part_is n T run [] = nothing
part_is n T run (range y skip ∷ rs) = nothing
part_is n T run (range y (fingerprint f) ∷ rs) = nothing
part_is n T run (range y (ids l) ∷ rs) = by (most_ids n T run own) (largest-most _ (length own - 1))
  where
    own : List Item
    own = within (run_end start run) y T

    by : (k : ℕ) → k ≤ length own - 1 → Part T run (range y (ids l) ∷ rs) (cut_after k own)
    by zero h = nothing
    by (suc k) h = first y l rs k refl (omega arith)

module _ (T : List Item) (o : OwnItems T) where
  -- behind the run it rises, and ends below infinity
  part-rises : (run rest part : List Range) → 0 < length rest → Rising (run_end start run) rest → Part T run rest part
      → Rising (run_end start run) part × (key (run_end (run_end start run) part) < key infinity)
  unfolding run_end first_ids
  part-rises run rest part l h nothing = (tt, followed (run_end start run) rest l h)
  part-rises run rest part l h (first y ds rs k e more) =
      let x = run_end start run in
      let r : Rising x (range y (ids ds) ∷ rs) = rw e at h in (
        (cut-above T o x y k more, cut-lawful T o x y k more, cut-listed T o x y k more, tt),
        omega (arith, cut_below T o x y k more, not-above y r.1),
      )

  closed-rises : (run : List Range) → WellFormed run → key (run_end start run) < key infinity → WellFormed (closed T run)
  unfolding closed
  closed-rises run h l = rising-append start run _ h (l, tt, fingerprint-sized (within (run_end start run) infinity T), tt)

  pub shortened_well : (n : ℕ) (rs : List Range) → 20 ≤ n → n < length (spell_message rs) → WellFormed rs → WellFormed (shortened n T rs)
  unfolding shortened
  shortened_well n rs room h w =
      let k = longest n T rs in
      let run = take k rs in
      let c = rising-cut k start rs w in
      let some : 0 < length (drop k rs) = omega (arith, length-drop k rs, longest_short n T room rs h) in
      let p = part-rises run (drop k rs) (part_of n T run (drop k rs)) some c.1 (part_is n T run (drop k rs)) in
      closed-rises (run ++ part_of n T run (drop k rs)) (rising-append start run (part_of n T run (drop k rs)) c.0 p.0)
      (rw (end-append start run (part_of n T run (drop k rs))) p.1)

  pub limited_well : (limit : Limit) (rs : List Range) → below_least limit ≡ false → WellFormed rs → WellFormed (limited limit T rs)
  unfolding limited write_message
  limited_well unlimited rs e w = tidy-rises start rs w
  limited_well (bytes n) rs e w =
      by_limit WellFormed n T rs
      (λ h. tidy-rises start rs w)
      (λ h. shortened_well n (tidy rs) (omega (arith, least-room n e)) h (tidy-rises start rs w))

-- What is sent reads back as these ranges.
pub sent-reads : SentReads
unfolding sent_message
sent-reads A by size order limit rs e w = message-there (limited limit (items A) rs) (limited_well (items A) (own-items A by (size, order)) limit rs e w)
