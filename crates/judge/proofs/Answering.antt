-- What the theory's responder makes of each range of a query, by places.
use mathlib.Core.Path.{◌≡◌, refl, sym, ap, ◌∙◌}
use mathlib.Core.Bool.{true, false}
use mathlib.Core.List.{List, [], ◌∷◌}
use mathlib.Core.Logic.{◌⊎◌, inl, inr}
use Prim.Native.Nat.{ℕ, ◌*◌, ◌≤◌, ◌<◌, zero-le}
use native.Mathlib.Nat.{mul-le-mul_left}
use native.Mathlib.Omega.{arith}
use lib.Dec.{leb, ltb}
use borrow.Author.Tests.{leb-false, lt-ltb}
use Rattle.theory.specs.Table.{between}
use Rattle.theory.specs.Message.{Payload, skip, fingerprint, ids, Message, Stands, here, there, payload_at}
use Rattle.theory.specs.Protocol.{Protocol, ids_in}
use Rattle.theory.specs.Rounds.{count}
use Rattle.theory.specs.End.{End, Fit, Proper}
use Rattle.theory.specs.Cutting.{split, fingerprint_ranges, cut}
use Rattle.theory.specs.Ends.{each_range, equals_own, treat, answer}
use Rattle.theory.proofs.Tests.{by_test}
use Rattle.theory.proofs.Messages.{Rises, Spans, spans_rises, each_rises, tidy-payload, fingerprint≢skip}
use Rattle.theory.proofs.Cuts.{cut_spans, cut_stands, cut_covers}
use Rattle.judge.proofs.Along.{stands_up, made_at, made-stands, made-skip, tidy_keeps}

module _ {F : Type 0} (P : Protocol F) (E : End F) where
  abbrev T : List ℕ
  T = E.table

  -- ---- a cut into fingerprints has at least two

  -- two fingerprints stand in m, one behind the other, the first from x on
  pub record Two (x : ℕ) (m : Message F) : Type 0 where
    pub mid : ℕ
    pub end : ℕ
    pub one : F
    pub other : F
    pub first : Stands x m x mid (fingerprint one)
    pub second : Stands x m mid end (fingerprint other)

  two-parts : (ns l : List ℕ) (x y b c : ℕ) → 2 ≤ b → b < c → Fit b c ns c → Two x (fingerprint_ranges P E (split ns l) y)
  unfolding fingerprint_ranges split
  two-parts [] l x y b c h g fit = absurd (omega arith)
  two-parts (n ∷ []) l x y b c h g fit =
      absurd (let more : n * 2 ≤ n * b = mul-le-mul_left n h in let share = fit.1 in let rest = fit.3 in omega arith)
  two-parts (n ∷ j ∷ []) l x y b c h g fit = record { mid = _; end = _; one = _; other = _; first = here; second = there here }
  two-parts (n ∷ j ∷ i ∷ ns) l x y b c h g fit = record { mid = _; end = _; one = _; other = _; first = here; second = there here }

  module _ (proper : Proper P E) (parts : 2 ≤ E.limits.parts) where
    cut-two : (x y : ℕ) → leb (count T x y) E.limits.limit ≡ false → Two x (cut P E x y)
    unfolding cut
    cut-two x y e =
        let many = leb-false (count T x y) E.limits.limit e in
        rw e (two-parts (E.sizes E.limits.parts (count T x y)) (between T x y) x y E.limits.parts (count T x y) parts (omega (arith, proper.parts_listed))
        (proper.sizes_fit E.limits.parts (count T x y) proper.some_parts (omega (arith, proper.parts_listed))))

    cut-listed : (x y k : ℕ) → leb (count T x y) E.limits.limit ≡ true → k < y → payload_at (cut P E x y) k ≡ ids (ids_in P T x y)
    unfolding cut payload_at
    cut-listed x y k e h = rw (e, lt-ltb k y h)

    -- ---- the answer

    abbrev own_ids : ℕ → ℕ → Payload F
    own_ids x y = ids (ids_in P T x y)

    treated : ℕ → ℕ → Payload F → Message F
    treated = treat P E own_ids

    treated_spans : (x y : ℕ) (o : Payload F) → x < y → Spans x (treated x y o) y
    unfolding treat treated
    treated_spans x y skip h = (h, refl)
    treated_spans x y (fingerprint f) h = by_test (equals_own P E x y f) (λ e. rw e (h, refl)) (λ e. rw e (cut_spans P E proper x y h))
    treated_spans x y (ids l) h = (h, refl)

    module _ (q : Message F) (up : Rises 0 q) where
      answer_at_lem : (k : ℕ) → payload_at (answer P E q) k ≡ payload_at (each_range treated 0 q) k
      unfolding answer treated
      answer_at_lem k = tidy-payload 0 (each_range treated 0 q) k (each_rises treated treated_spans 0 q up)

      -- "skip gives skip"
      treated_skip : (x y k : ℕ) → payload_at (treated x y skip) k ≡ skip
      unfolding treated treat payload_at
      treated_skip x y k = by_test (ltb k y) (λ e. rw e) (λ e. rw e)

      pub answer-skip : (k : ℕ) → payload_at q k ≡ skip → payload_at (answer P E q) k ≡ skip
      answer-skip k e = answer_at_lem k ∙ made-skip treated treated_spans treated_skip 0 q k up zero-le e

      answer-inside : {x y : ℕ} {p : Payload F} (k : ℕ) → Stands 0 q x y p → x ≤ k → k < y → payload_at (answer P E q) k ≡ payload_at (treated x y p) k
      answer-inside k st a b = answer_at_lem k ∙ made_at treated treated_spans 0 q k up st a b

      -- "Ids give all of its own ids there."
      pub answer-ids : {x y : ℕ} {l : List ℕ} (k : ℕ) → Stands 0 q x y (ids l) → x ≤ k → k < y → payload_at (answer P E q) k ≡ ids (ids_in P T x y)
      unfolding treated treat payload_at
      answer-ids {y = y} k st a b = answer-inside k st a b ∙ rw (lt-ltb k y b)

      module _ {x y : ℕ} {f : F} (st : Stands 0 q x y (fingerprint f)) where
        -- "A fingerprint equal to its own gives skip."
        pub answer-equal : (k : ℕ) → equals_own P E x y f ≡ true → x ≤ k → k < y → payload_at (answer P E q) k ≡ skip
        unfolding treated treat payload_at
        answer-equal k e a b = answer-inside k st a b ∙ rw (e, lt-ltb k y b)

        module _ (other : equals_own P E x y f ≡ false) where
          is_cut : treated x y (fingerprint f) ≡ cut P E x y
          unfolding treated treat
          is_cut = rw other

          in_cut : (k : ℕ) → x ≤ k → k < y → payload_at (answer P E q) k ≡ payload_at (cut P E x y) k
          in_cut k a b = answer-inside k st a b ∙ ap (λ (m : Message F). payload_at m k) is_cut

          -- "Another fingerprint gives the cutting of that range."
          pub answer_covers : (k : ℕ) → x ≤ k → k < y → payload_at (answer P E q) k ≡ skip → ⊥
          answer_covers k a b e = cut_covers P E proper x y k a b (sym (in_cut k a b) ∙ e)

          print-stands : {lo end : ℕ} {g : F} → Stands x (cut P E x y) lo end (fingerprint g) → Stands 0 (answer P E q) lo end (fingerprint g)
          unfolding answer treated
          print-stands s = tidy_keeps 0 (each_range treated 0 q) fingerprint≢skip (made-stands treated treated_spans 0 q up st (rw is_cut s))

          -- two ranges of the answer, one behind the other, within the range from x to y
          pub record Halves : Type 0 where
            pub mid : ℕ
            pub end : ℕ
            pub one : F
            pub two : F
            pub first : Stands 0 (answer P E q) x mid (fingerprint one)
            pub second : Stands 0 (answer P E q) mid end (fingerprint two)
            pub low : x < mid
            pub middle : mid < end
            pub high : end ≤ y

          halves : Two x (cut P E x y) → Halves
          halves w =
              let rises = spans_rises x (cut P E x y) y (cut_spans P E proper x y (stands_up 0 q up st)) in
              record {
                mid = w.mid;
                end = w.end;
                one = w.one;
                two = w.other;
                first = print-stands w.first;
                second = print-stands w.second;
                low = stands_up x (cut P E x y) rises w.first;
                middle = stands_up x (cut P E x y) rises w.second;
                high = (cut_stands P E proper x y w.second).high;
              }

          pub answer-divides : ((k : ℕ) → x ≤ k → k < y → payload_at (answer P E q) k ≡ ids (ids_in P T x y)) ⊎ Halves
          answer-divides =
              by_test (leb (count T x y) E.limits.limit)
              (λ e. inl (λ k a b. in_cut k a b ∙ cut-listed x y k e b))
              (λ e. inr (halves (cut-two x y e)))
