-- What is sent has at most so many bytes as the limit says; the longest run is not all of a message that exceeds.
use Prim.Native.Nat.{ℕ, zero, suc, ◌+◌, ◌-◌, ◌≤◌, ◌<◌}
use mathlib.Core.Path.{◌≡◌, refl, sym, ap, ◌∙◌}
use mathlib.Core.Bool.{Bool, true, false}
use mathlib.Core.List.{List, [], ◌∷◌, ◌++◌, append-nil}
use native.Mathlib.Omega.{arith}
use lib.Dec.{leb, ltb}
use lib.ListN.{length, take, drop}
use lib.Seq.{take_all}
use borrow.Author.Tests.{leb-true, leb-false, le-leb, le-ltb, ltb-true, ltb-false}
use Rattle.message.specs.Message.{skip, fingerprint, ids, Range, range, spell_message}
use Rattle.message.specs.Meaning.{tidy, write_message}
use Rattle.message.proofs.Exact.{by_test}
use Rattle.table.specs.Table.{Item, within}
use Rattle.message.specs.Bound.{start}
use Rattle.limit.specs.Limit.{Limit, unlimited, bytes, below_least, exceeds, run_end, fits, longest, first_ids, most_ids, cut_after, part_of, shortened, limited, sent_message}
use Rattle.limit.specs.Sent.{SentFits, SentWhole, RunLongest, IdsMost}
use Rattle.limit.proofs.Runs.{largest-most, largest-passes, largest-least, size-first, fits-size}

-- to go by a number and keep the equation
pub by_zero : {C : Type 0} (n : ℕ) → (n ≡ 0 → C) → ((k : ℕ) → n ≡ suc k → C) → C
by_zero zero f g = f refl
by_zero (suc n) f g = g n refl

module _ (n : ℕ) (T : List Item) (room : 20 ≤ n) where
  -- nothing but the last range fits
  none-fits : fits n T [] ≡ true
  none-fits = fits-size n T [] ∙ rw size-first (le-leb 20 n room)

  -- ---- the longest run

  pub run_fits : (rs : List Range) → fits n T (take (longest n T rs) rs) ≡ true
  unfolding longest
  run_fits rs =
      by_zero (longest n T rs)
      (λ e. rw e none-fits)
      (λ k e. largest-passes (λ k. fits n T (take k rs)) (length rs) (let p : 0 < longest n T rs = omega (arith, e) in p))

  pub none_longer : (rs : List Range) (k : ℕ) → k ≤ length rs → fits n T (take k rs) ≡ true → k ≤ longest n T rs
  unfolding longest
  none_longer rs zero l e = omega arith
  none_longer rs (suc k) l e = largest-least (λ k. fits n T (take k rs)) (length rs) (suc k) (omega arith) l e

  -- ---- what is kept of the range behind it

  part-fits : (run rs : List Range) → fits n T run ≡ true → fits n T (run ++ part_of n T run rs) ≡ true
  unfolding part_of most_ids
  part-fits run [] h = rw (append-nil run) h
  part-fits run (range y skip ∷ rs) h = rw (append-nil run) h
  part-fits run (range y (fingerprint f) ∷ rs) h = rw (append-nil run) h
  part-fits run (range y (ids l) ∷ rs) h = by (most_ids n T run (within (run_end start run) y T)) refl
    where
      own : List Item
      own = within (run_end start run) y T

      by : (k : ℕ) → most_ids n T run own ≡ k → fits n T (run ++ cut_after k own) ≡ true
      by zero e = rw (append-nil run) h
      by (suc k) e = rw (← e) (largest-passes (λ k. fits n T (run ++ (first_ids own k ∷ []))) (length own - 1) (let p : 0 < most_ids n T run own = omega (arith, e) in p))

  -- the limit is kept
  pub shortened-fits : (rs : List Range) → length (spell_message (shortened n T rs)) ≤ n
  unfolding shortened fits
  shortened-fits rs = leb-true _ n (part-fits (take (longest n T rs) rs) (drop (longest n T rs) rs) (run_fits rs))

  -- a message that exceeds does not fit with one range more
  pub longest_short : (rs : List Range) → n < length (spell_message rs) → longest n T rs < length rs
  unfolding longest
  longest_short rs h = by (longest n T rs) (run_fits rs) (most rs)
    where
      most : (rs : List Range) → longest n T rs ≤ length rs
      most rs = largest-most (λ k. fits n T (take k rs)) (length rs)

      by : (k : ℕ) → fits n T (take k rs) ≡ true → k ≤ length rs → k < length rs
      by k e l =
          by_test (leb (length rs) k)
          (λ t.
          let all : take k rs ≡ rs = take_all k rs (leb-true (length rs) k t) in
          let size = leb-true (length (spell_message (take k rs)) + 19) n (sym (fits-size n T (take k rs)) ∙ e) in
          absurd (let same : length (spell_message (take k rs)) ≡ length (spell_message rs) = rw all refl in omega arith))
          (λ t. leb-false (length rs) k t)

-- ---- the message

pub least-room : (n : ℕ) → below_least (bytes n) ≡ false → 4096 ≤ n
unfolding below_least
least-room n e = ltb-false n 4096 e

-- to go by whether the message would exceed
pub by_limit : (P : List Range → Type 0) (n : ℕ) (T : List Item) (rs : List Range)
    → (length (write_message rs) ≤ n → P (tidy rs)) → (n < length (write_message rs) → P (shortened n T (tidy rs))) → P (limited (bytes n) T rs)
unfolding limited exceeds
by_limit P n T rs f g =
    by_test (ltb n (length (write_message rs)))
    (λ t. rw t (g (ltb-true n (length (write_message rs)) t)))
    (λ t. rw t (f (ltb-false n (length (write_message rs)) t)))

pub run-longest : RunLongest
run-longest n T rs e =
    let room : 20 ≤ n = omega (arith, least-room n e) in
    record { fitting = run_fits n T room rs; none_longer = none_longer n T room rs }

pub ids-most : IdsMost
unfolding most_ids
ids-most n T run own =
    let test : ℕ → Bool = λ k. fits n T (run ++ (first_ids own k ∷ [])) in
    record { fitting = largest-passes test (length own - 1); none_more = λ k some few e. largest-least test (length own - 1) k some (omega arith) e }

-- What is sent has at most so many bytes as the limit says.
pub sent-fits : SentFits
unfolding sent_message write_message
sent-fits n T rs e =
    by_limit (λ l. length (spell_message l) ≤ n) n T rs
    (λ h. h)
    (λ h. shortened-fits n T (omega (arith, least-room n e)) (tidy rs))

-- An end that was given no limit, or whose message does not exceed it, sends what it would send without one.
pub not_exceeded : (limit : Limit) (T : List Item) (rs : List Range) → exceeds limit (write_message rs) ≡ false → limited limit T rs ≡ tidy rs
unfolding limited
not_exceeded unlimited T rs e = refl
not_exceeded (bytes n) T rs e = rw e refl

pub sent-whole : SentWhole
unfolding sent_message write_message
sent-whole limit T rs e = ap spell_message (not_exceeded limit T rs e)

pub unlimited-whole : (T : List Item) (rs : List Range) → sent_message unlimited T rs ≡ write_message rs
unfolding exceeds
unlimited-whole T rs = sent-whole unlimited T rs refl

pub within-whole : (n : ℕ) (T : List Item) (rs : List Range) → length (write_message rs) ≤ n → sent_message (bytes n) T rs ≡ write_message rs
unfolding exceeds
within-whole n T rs l = sent-whole (bytes n) T rs (le-ltb n (length (write_message rs)) l)
