-- One reading after another, and plain bytes at a place of a message.
use Prim.Native.Nat.{ℕ, ◌+◌, ◌-◌, ◌<◌, ◌≤◌}
use mathlib.Core.Path.{◌≡◌, refl, ap, ◌∙◌}
use mathlib.Core.List.{List}
use native.Mathlib.Omega.{arith}
use lib.ListN.{length, take, drop, length-drop}
use lib.Seq.{drop-drop}
use borrow.Author.Tests.{le-leb, lt-leb}
use Rattle.message.specs.Reader.{Outcome, read, refused, Reader, after, read_bytes}

-- what the first reading came to is what the second begins with
pub onward : {A B : Type 0} {o p : Outcome A} {x : Outcome B} (f : A → Reader B) → o ≡ p → x ≡ after o f → x ≡ after p f
onward f e d = d ∙ ap (λ o. after o f) e

-- n bytes at place i
module _ (n i : ℕ) (m : List ℕ) where
  pub bytes-end : length m - i < n → refused 7 ≡ read_bytes n (drop i m)
  unfolding read_bytes
  bytes-end h = rw (lt-leb n (length (drop i m)) (rw (length-drop i m) (omega arith))) refl

  pub bytes_read : n ≤ length m - i → read (take n (drop i m)) (drop (i + n) m) ≡ read_bytes n (drop i m)
  unfolding read_bytes
  bytes_read h = rw (le-leb n (length (drop i m)) (rw (length-drop i m) (omega arith)), drop-drop n i m) refl
