-- Payloads at a place of a message.
use Prim.Native.Nat.{ℕ, zero, suc, ◌+◌, ◌*◌, ◌-◌, ◌<◌, ◌≤◌}
use mathlib.Core.Path.{◌≡◌, refl}
use mathlib.Core.List.{List}
use native.Mathlib.Omega.{arith}
use native.Mathlib.Decide.{dec_le}
use lib.ListN.{length, drop}
use lib.Seq.{drop-drop}
use Rattle.message.specs.Reader.{Outcome, read, refused}
use Rattle.message.specs.Message.{Payload, read_ids, read_of_mode}
use Rattle.message.specs.Code.{ids_in}
use Rattle.reader.proofs.Steps.{onward, bytes-end, bytes_read}

-- ---- n ids at place i

pub ids-end : (n i : ℕ) (m : List ℕ) → length m - i < n * 32 → refused 7 ≡ read_ids n (drop i m)
unfolding read_ids
ids-end zero i m h = absurd (omega arith)
ids-end (suc n) i m h =
    elim (dec_le 32 (length m - i)) [
      | yes k ↦ rw (← bytes_read 32 i m k, ← ids-end n (i + 32) m (omega arith)) refl
      | no k ↦ onward _ (bytes-end 32 i m (omega arith)) refl
    ]

pub ids-read : (n i : ℕ) (m : List ℕ) → n * 32 ≤ length m - i → read (ids_in n (drop i m)) (drop (i + n * 32) m) ≡ read_ids n (drop i m)
unfolding read_ids ids_in
ids-read zero i m h = let e : i + 0 * 32 ≡ i = omega arith in rw e refl
ids-read (suc n) i m h =
    let e : i + suc n * 32 ≡ i + 32 + n * 32 = omega arith in
    rw (← bytes_read 32 i m (omega arith), ← ids-read n (i + 32) m (omega arith), drop-drop 32 i m, e) refl

-- ---- modes

pub mode_is : (n mode : ℕ) (l : List ℕ) {o : Outcome Payload} → n ≡ mode → o ≡ read_of_mode mode l → o ≡ read_of_mode n l
mode_is n mode l z f = rw z f

-- 10: "A mode is above 2."
pub mode_other : (n : ℕ) (l : List ℕ) → 2 < n → refused 10 ≡ read_of_mode n l
unfolding read_of_mode
mode_other zero l h = absurd (omega arith)
mode_other (suc zero) l h = absurd (omega arith)
mode_other (suc (suc zero)) l h = absurd (omega arith)
mode_other (suc (suc (suc n))) l h = refl
