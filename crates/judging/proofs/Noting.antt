-- The payloads of the ranges met so far, one more, and what comes of them.
use Prim.Native.Nat.{ℕ, suc, ◌+◌, ◌≤◌}
use mathlib.Core.Path.{◌≡◌, refl, sym, ap₂, ◌∙◌}
use mathlib.Core.Bool.{Bool, true, false, ◌&&◌, ◌||◌}
use mathlib.Core.List.{List, [], ◌∷◌}
use native.Mathlib.Omega.{arith}
use lib.Dec.{leb}
use lib.ListN.{length}
use Rattle.std.proofs.lemmas.Bool.Decides.{nat_tests}
use Rattle.std.proofs.Math.Bool.{and-true, and_assoc}
use Rattle.std.specs.Prelude.{min}
use Rattle.message.specs.Message.{Payload}
use Rattle.table.specs.Lists.{every}
use Rattle.judge.specs.Judge.{is_skip, is_ids, divides}
use Rattle.judging.specs.Private.{wants, allowed, roomy, concludes}
use Rattle.judging.specs.declared.merge.Asked.{Asked}
use Rattle.judging.specs.declared.merge.Sofar.{Sofar}

-- ---- tests

shuffle : (x y z w : Bool) → ((x && y) && (z && w)) ≡ (x && ((y && z) && w))
shuffle true true z w = refl
shuffle true false z w = refl
shuffle false y z w = refl

-- ---- how many

-- a count that stops at a largest number of 2 or more tells whether there are two
pub counted_on : (n top k : ℕ) → 2 ≤ top → leb 2 (min (n + 1) top + k) ≡ leb 2 (n + suc k)
counted_on n top k h = grind (arith, nat_tests)

-- ---- one more, and the end

roomy-more : (a : Asked) (l i all : Bool) (n n' : ℕ) → leb 2 n ≡ leb 2 n' → roomy a ((l && i) && all) n ≡ roomy a (l && (i && all)) n'
roomy-more Asked.Skip l i all n n' e = refl
roomy-more Asked.Division l i all n n' e = ap₂ (λ (x y : Bool). x || y) (and_assoc l i all) e
roomy-more Asked.Ids l i all n n' e = refl

roomy-end : (a : Asked) (l : Bool) (n : ℕ) → roomy a (l && true) (n + 0) ≡ roomy a l n
roomy-end Asked.Skip l n = refl
roomy-end Asked.Division l n = let z : n + 0 ≡ n = omega arith in rw (and-true l, z)
roomy-end Asked.Ids l n = refl

module _ (a : Asked) (s r : Sofar) where
  pub noted : (p : Payload) → r.fits ≡ (s.fits && allowed a p) → r.listed ≡ (s.listed && is_ids p) → ((k : ℕ) → leb 2 (r.met + k) ≡ leb 2 (s.met + suc k))
      → (ps : List Payload) → concludes a r ps ≡ concludes a s (p ∷ ps)
  unfolding concludes every
  noted p e d h ps =
      let room = roomy-more a s.listed (is_ids p) (every is_ids ps) (r.met + length ps) (s.met + suc (length ps)) (h (length ps)) in
      rw (e, d, room) (shuffle s.fits (allowed a p) (every (allowed a) ps) (roomy a (s.listed && (is_ids p && every is_ids ps)) (s.met + suc (length ps))))

module _ (a : Asked) (s : Sofar) where
  pub concluded : s.fits ≡ true → (r : Bool) → r ≡ roomy a s.listed s.met → r ≡ concludes a s []
  unfolding concludes every
  concluded f r e = rw f (e ∙ sym (roomy-end a s.listed s.met))

  pub not_concluded : s.fits ≡ false → false ≡ concludes a s []
  unfolding concludes
  not_concluded f = rw f refl

-- ---- nothing met

abbrev pub nothing : Sofar
nothing = record { fits = true; met = 0; listed = true }

pub wants_all : (a : Asked) (ps : List Payload) → wants a ps ≡ concludes a nothing ps
unfolding concludes divides
wants_all Asked.Skip ps = sym (and-true (every is_skip ps))
wants_all Asked.Division ps = let z : 0 + length ps ≡ length ps = omega arith in rw z
wants_all Asked.Ids ps = sym (and-true (every is_ids ps))
