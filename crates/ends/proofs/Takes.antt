-- The one theorem about lists of takes, whatever their kinds: if the opening, each reply and each take meet the relations of Relations.antt, reports are true and
-- complete at every place (`reported`), and a row of L + 1 takes whose messages are not cut short ends in done (`owed_at`). The list of takes becomes one of the
-- theory (`Reached`), step by step, and there the claim is `sound`, `complete` and `rounds`. What a take is handed passes check 4, and
-- the session has the opener's label (`standing`).
use Prim.Native.Nat.{ℕ, zero, suc, ◌≤◌}
use mathlib.Core.Path.{◌≡◌, refl, ap, ◌∙◌}
use mathlib.Core.Bool.{true, false}
use mathlib.Core.List.{List, [], ◌∷◌, ◌++◌, Memᴰ, Forall₂}
use native.Mathlib.Omega.{arith}
use lib.ListN.{length, get_or, replicate, length-map}
use Rattle.message.specs.Code.{ids_in}
use Rattle.theory.specs.Table.{Below}
use Rattle.theory.specs.Message.{Message}
use Rattle.theory.specs.Rounds.{Cut, Nested, Divided, DividedOpening, Narrowing}
use Rattle.theory.specs.Run as theory
use Rattle.theory.specs.Demand.{Enough}
use Rattle.theory.proofs.Tests.{clash}
use Rattle.theory.proofs.Soundness.{sound}
use Rattle.theory.proofs.Completeness.{complete}
use Rattle.theory.proofs.Rounds.{rounds}
use Rattle.table.specs.Answer.{answer, refused}
use Rattle.table.specs.Table.{key_of, Table, items}
use Rattle.table.proofs.Items.{items-length}
use Rattle.cutting.proofs.Projection.{protocol, project}
use Rattle.limit.proofs.Parts.{OwnItems}
use Rattle.ends.specs.Calls.{Result}
use Rattle.ends.specs.Opener.{Lent, table_label}
use Rattle.ends.specs.Demand.{Take, Place, Reported, OneTime}
use Rattle.ends.specs.Takes.{lent_at, Run, none, then_refused, then_taken, Row, Whole, Owed}
use Rattle.ends.proofs.Tables.{Kept, keys_of}
use Rattle.ends.proofs.Lists.{paired_member}
use Rattle.ends.proofs.Standing.{Standing, agrees_stands}
use Rattle.ends.proofs.Relations.{Means, means_alone, Begun, Replied, Took}
use Rattle.ends.proofs.Simulation.{Agrees, begun_agrees, after, refused_agrees, taken_agrees, took}
use Rattle.ends.proofs.Owed.{one_time}
use Rattle.ends.proofs.Owed as place

below-infinity : (T : Table) → OwnItems (items T) → Below protocol.infinity (keys_of T)
unfolding protocol
below-infinity T k = k.below

-- the theory's message for the bytes that stand first
first-means : (q : List ℕ) (qs : List (List ℕ)) (Q : Message (List ℕ)) (Qs : List (Message (List ℕ)))
    → Forall₂ Means (q ∷ qs) Qs → Means q Q → (old : List (Message (List ℕ))) × (Qs ≡ Q ∷ old)
first-means q qs Q [] h w = elim h [ ]
first-means q qs Q (Z ∷ Zs) (Forall₂.cons h t) w = (Zs, ap (λ (M : Message (List ℕ)). M ∷ Zs) (means_alone h w))

zeros : (n j : ℕ) → ◌≡◌ {A = ℕ} (get_or (replicate n 0) j 0) 0
zeros zero j = refl
zeros (suc n) zero = refl
zeros (suc n) (suc j) = zeros n j

no-ids : (n : ℕ) (bytes d : List ℕ) → n ≡ 0 → Memᴰ d (ids_in n bytes) → ⊥
unfolding ids_in
no-ids zero bytes d e m = elim m [ ]
no-ids (suc n) bytes d e m = omega arith

module _ {X : Type 0} (handed : X → Take) (call : X → Lent → Result Lent) (Allowed : X → Type 0) where
  -- where no message is ever cut short
  pub all_whole : {o p : Place} (n : ℕ) (ρ : Run handed call Allowed o p) → Row handed call Allowed n ρ → Whole handed call Allowed (Unit {0}) (λ x. Unit {0}) (λ x. Unit {0}) n ρ
  all_whole zero none h = tt
  all_whole (suc n) none h = h
  all_whole {o = o} zero (then_refused {p = p} ρ x k e) h = all_whole {o = o} {p = p} zero ρ tt
  all_whole {o = o} (suc n) (then_refused {p = p} ρ x k e) h = all_whole {o = o} {p = p} (suc n) ρ h
  all_whole zero (then_taken ρ x m e mem g) h = tt
  all_whole {o = o} (suc n) (then_taken {p = p} ρ x m e mem g) h = (all_whole {o = o} {p = p} n ρ h.1, tt, tt)

  -- a row of more takes has a row of fewer at its end
  pub row_fewer : {o p : Place} (m n : ℕ) (ρ : Run handed call Allowed o p) → m ≤ n → Row handed call Allowed n ρ → Row handed call Allowed m ρ
  row_fewer zero n ρ h row = tt
  row_fewer (suc m) zero ρ h row = absurd (omega arith)
  row_fewer (suc m) (suc n) none h row = row
  row_fewer {o = o} (suc m) (suc n) (then_refused {p = p} ρ x k e) h row = row_fewer {o = o} {p = p} (suc m) (suc n) ρ h row
  row_fewer {o = o} (suc m) (suc n) (then_taken {p = p} ρ x k e mem g) h row = (row.0, row_fewer {o = o} {p = p} m n ρ (omega arith) row.1)

module _ {X : Type 0} (handed : X → Take) (call : X → Lent → Result Lent) (Allowed : X → Type 0) (A B : Table) (a : Cut) where
  -- What is asked for true and complete reports: a refused take leaves all as it was; an unrefused take does what `Took` asks with the ranges that its reply
  -- says, where the session has the label of the opener's table; and what it is allowed to be handed is a lawful reply to its query.
  pub record Lawful : Type 0 where
    pub refuses : (x : X) (l : Lent) (k : ℕ) → (call x l).answer ≡ refused k → (call x l).lent ≡ l
    pub takes : (x : X) (l : Lent) (n : ℕ) → (call x l).answer ≡ answer n → l.session.label ≡ table_label A → Allowed x
        → {R : Message (List ℕ)} (w : Means (handed x).reply R)
        → Took A w.ranges l n (call x l).lent
    pub replies : (x : X) → Allowed x → {Q : Message (List ℕ)} → Means (handed x).query Q → Replied B Q (handed x).reply

  module _ (lawful : Lawful) (o : Place) (begun : Begun A o) (WholeFirst : Type 0) (WholeReply : X → Type 0) (WholeQuery : X → Type 0) where
    -- What is asked beyond that for the count of rounds, of messages that are not cut short: the first query is divided, each reply is nested in its query, and
    -- each next query divides what its reply left open.
    pub record Narrows : Type 0 where
      pub opens : WholeFirst → DividedOpening a (keys_of A) (project begun.query)
      pub replies : (x : X) (h : Allowed x) {Q : Message (List ℕ)} (w : Means (handed x).query Q) → WholeReply x → Nested Q (lawful.replies x h w).message
      pub takes : (x : X) (l : Lent) (n : ℕ) (e : (call x l).answer ≡ answer n) (s : l.session.label ≡ table_label A) (h : Allowed x)
          {R : Message (List ℕ)} (w : Means (handed x).reply R)
          → WholeQuery x → Divided a (keys_of A) (project w.ranges) (project (lawful.takes x l n e s h w).query)

    abbrev Takes : Place → Type 0
    Takes p = Run handed call Allowed o p

    abbrev InRow : {p : Place} → ℕ → Takes p → Type 0
    InRow n ρ = Row handed call Allowed n ρ

    abbrev AllWhole : {p : Place} → ℕ → Takes p → Type 0
    AllWhole n ρ = Whole handed call Allowed WholeFirst WholeReply WholeQuery n ρ

    abbrev first : Message (List ℕ)
    first = project begun.query

    abbrev TheoryRun : theory.Session (List ℕ) → Type 0
    TheoryRun s = theory.Run protocol (keys_of A) (keys_of B) first s

    -- the list of takes in the theory
    record Reached {p : Place} (ρ : Takes p) : Type 0 where
      session : theory.Session (List ℕ)
      agrees : Agrees A p session
      run : TheoryRun session
      row : (n : ℕ) → InRow n ρ → theory.Row protocol n run
      narrows : Narrows → (n : ℕ) → AllWhole n ρ → Narrowing a (keys_of A) n run

    module _ (k_a : Kept A a) where
      -- ---- at the opening

      abbrev nothing : Takes o
      nothing = none

      abbrev opened : TheoryRun (theory.opened first)
      opened = theory.start

      none_row : (n : ℕ) → InRow n nothing → theory.Row protocol n opened
      none_row zero h = tt
      none_row (suc n) h = h

      none_narrows : Narrows → (n : ℕ) → AllWhole n nothing → Narrowing a (keys_of A) n opened
      none_narrows w zero h = w.opens h
      none_narrows w (suc n) h = h

      reached_none : Reached nothing
      reached_none = record { session = theory.opened first; agrees = begun_agrees A a k_a o begun; run = opened; row = none_row; narrows = none_narrows }

      module _ {p : Place} (ρ : Takes p) (w : Reached ρ) (x : X) where
        abbrev l : Lent
        l = lent_at p (handed x)

        -- ---- after a refused take

        module _ (k : ℕ) (e : (call x l).answer ≡ refused k) where
          refused_row : (n : ℕ) → InRow n (then_refused ρ x k e) → theory.Row protocol n (theory.refused w.run)
          refused_row zero h = tt
          refused_row (suc n) h = w.row (suc n) h

          refused_narrows : Narrows → (n : ℕ) → AllWhole n (then_refused ρ x k e) → Narrowing a (keys_of A) n (theory.refused w.run)
          refused_narrows z zero h = w.narrows z zero h
          refused_narrows z (suc n) h = w.narrows z (suc n) h

          reached_refused : Reached (then_refused ρ x k e)
          reached_refused = record {
            session = w.session;
            agrees = refused_agrees A a k_a p w.session w.agrees (handed x) (call x l) k e (lawful.refuses x l k e);
            run = theory.refused w.run;
            row = refused_row;
            narrows = refused_narrows;
          }

        -- ---- after an unrefused one

        module _ (n : ℕ) (e : (call x l).answer ≡ answer n) (mem : Memᴰ (handed x).query p.sent) (h : Allowed x) where
          abbrev asked : (Q : Message (List ℕ)) × Memᴰ Q w.session.sent × Means (handed x).query Q
          asked = paired_member w.agrees.sent mem

          abbrev replied : Replied B asked.0 (handed x).reply
          replied = lawful.replies x h asked.2

          abbrev did : Took A replied.means.ranges l n (call x l).lent
          did = lawful.takes x l n e w.agrees.label h replied.means

          made : theory.Take protocol (keys_of A) (keys_of B) w.session asked.0 (project replied.means.ranges) (project did.query)
              (after A a k_a w.session asked.0 (project replied.means.ranges) (project did.query))
          made =
              took A a k_a p w.session w.agrees (handed x) (call x l) asked.2 replied.means n e did B asked.1
              (rw replied.means.projected at replied.lawful)

          taken_row : (i : ℕ) → InRow i (then_taken ρ x n e mem h) → theory.Row protocol i (theory.taken w.run made)
          taken_row zero z = tt
          taken_row (suc i) z = (first-means (handed x).query z.0.0 asked.0 w.session.sent (rw z.0.1 at w.agrees.sent) asked.2, w.row i z.1)

          taken_narrows : Narrows → (i : ℕ) → AllWhole i (then_taken ρ x n e mem h) → Narrowing a (keys_of A) i (theory.taken w.run made)
          taken_narrows z zero c = z.takes x l n e w.agrees.label h replied.means c
          taken_narrows z (suc i) c = (w.narrows z i c.0, rw replied.means.projected at (z.replies x h asked.2 c.1), z.takes x l n e w.agrees.label h replied.means c.2)

          reached_taken : Reached (then_taken ρ x n e mem h)
          reached_taken = record {
            session = after A a k_a w.session asked.0 (project replied.means.ranges) (project did.query);
            agrees = taken_agrees A a k_a p w.session w.agrees (handed x) (call x l) asked.2 replied.means n e did;
            run = theory.taken w.run made;
            row = taken_row;
            narrows = taken_narrows;
          }

      reached : {p : Place} (ρ : Takes p) → Reached ρ
      reached none = reached_none
      reached (then_refused ρ x k e) = reached_refused ρ (reached ρ) x k e
      reached (then_taken ρ x n e mem h) = reached_taken ρ (reached ρ) x n e mem h

      -- ---- what is claimed

      reported_at : OwnItems (items B) → OneTime (items A ++ items B) → {p : Place} → Takes p → Reported A B p
      reported_at k_b once {p} ρ =
          let w = reached ρ in
          let one = one_time A B k_a.own k_b once in
          place.reported A B k_a.own k_b p w.session w.agrees
          (sound protocol (keys_of A) (keys_of B) one w.run)
          (complete protocol (keys_of A) (keys_of B) (below-infinity A k_a.own) (below-infinity B k_b) begun.lawful w.run)

      pub row_ends : Narrows → (L : ℕ) → Enough a (length A.times) L → {p : Place} (ρ : Takes p) → InRow (suc L) ρ → AllWhole (suc L) ρ → p.session.done ≡ true
      row_ends z L enough ρ row whole =
          let w = reached ρ in
          w.agrees.done
          ∙ rounds a (let some = k_a.parts in omega arith) (keys_of A) L (rw (length-map (items A) key_of, items-length A) enough)
          w.run (w.narrows z (suc L) whole) (w.row (suc L) row)

  -- true and complete reports
  pub reported : Lawful → (o : Place) → Begun A o → Kept A a → OwnItems (items B) → OneTime (items A ++ items B)
      → {p : Place} → Run handed call Allowed o p → Reported A B p
  reported lawful o begun k_a k_b once ρ = reported_at lawful o begun (Unit {0}) (λ x. Unit {0}) (λ x. Unit {0}) k_a k_b once ρ

  -- and rows of L + 1
  module _ (F : Type 0) (R : X → Type 0) (Q : X → Type 0) where
    pub owed_at : (lawful : Lawful) (o : Place) (begun : Begun A o) → Kept A a → OwnItems (items B) → OneTime (items A ++ items B) → Narrows lawful o begun F R Q
        → (L : ℕ) → Enough a (length A.times) L → {p : Place} (ρ : Run handed call Allowed o p) → Owed handed call Allowed F R Q A B L ρ
    owed_at lawful o begun k_a k_b once z L enough ρ = record {
      reported = reported lawful o begun k_a k_b once ρ;
      ends = λ whole row. row_ends lawful o begun F R Q k_a z L enough ρ row whole;
    }

  -- what every place holds, whatever is reported
  pub standing : Lawful → (o : Place) → Begun A o → Kept A a → {p : Place} → Run handed call Allowed o p → Standing A p.session p.marks p.needed
  standing lawful o begun k_a ρ = agrees_stands A a k_a (reached lawful o begun (Unit {0}) (λ x. Unit {0}) (λ x. Unit {0}) k_a ρ).agrees

  -- ---- where no reply is allowed, as where the responder's table is refused: every take is refused

  module _ (never : (x : X) → Allowed x → ⊥) where
    pub no_row : {o p : Place} (n : ℕ) (ρ : Run handed call Allowed o p) → Row handed call Allowed (suc n) ρ → ⊥
    no_row n none h = h
    no_row n (then_refused ρ x k e) h = no_row n ρ h
    no_row n (then_taken ρ x k e mem g) h = never x g

    -- session, marks and needed list are as the opening left them
    record AsOpened (o p : Place) : Type 0 where
      session : p.session ≡ o.session
      marks : p.marks ≡ o.marks
      needed : p.needed ≡ []

    module _ (refuses : (x : X) (l : Lent) (k : ℕ) → (call x l).answer ≡ refused k → (call x l).lent ≡ l) (o : Place) (begun : Begun A o) where
      as_opened : {p : Place} → Run handed call Allowed o p → AsOpened o p
      as_opened none = record { session = refl; marks = refl; needed = begun.needed }
      as_opened (then_refused {p = p} ρ x k e) =
          let z = as_opened ρ in
          let left = refuses x (lent_at p (handed x)) k e in
          record {
            session = ap (λ (l : Lent). l.session) left ∙ z.session;
            marks = ap (λ (l : Lent). l.marks) left ∙ z.marks;
            needed = rw (left, z.session, begun.count) refl;
          }
      as_opened (then_taken ρ x n e mem h) = absurd (never x h)

      pub open_never : {p : Place} → Run handed call Allowed o p → p.session.done ≡ false
      open_never ρ = rw (as_opened ρ).session begun.going

      pub standing_never : (a : Cut) → Kept A a → {p : Place} → Run handed call Allowed o p → Standing A p.session p.marks p.needed
      standing_never a k_a ρ = let z = as_opened ρ in rw (z.session, z.marks, z.needed) (rw begun.needed at (agrees_stands A a k_a (begun_agrees A a k_a o begun)))

      pub reported_never : {p : Place} → Run handed call Allowed o p → Reported A B p
      reported_never {p} ρ =
          let z = as_opened ρ in
          let unmarked : p.marks ≡ replicate (length A.times) 0 = z.marks ∙ begun.marks in
          record {
            theirs_so = λ d m. absurd (no-ids p.session.needed p.needed d (rw z.session begun.count) m);
            ours_so = λ d w. absurd (let x = rw unmarked at w.mark in let y = zeros (length A.times) w.index in omega arith);
            theirs_all = λ e. clash e (open_never ρ);
            ours_all = λ e. clash e (open_never ρ);
          }

      pub owed_never : (F : Type 0) (R : X → Type 0) (Q : X → Type 0) (L : ℕ) {p : Place} (ρ : Run handed call Allowed o p) → Owed handed call Allowed F R Q A B L ρ
      owed_never F R Q L ρ = record { reported = reported_never ρ; ends = λ whole row. absurd (no_row L ρ row) }
