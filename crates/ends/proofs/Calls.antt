-- What an unrefused call went through, and what a refused take leaves.
use Prim.Native.Nat.{ℕ}
use mathlib.Core.Path.{◌≡◌, refl, sym, ap, ◌∙◌}
use mathlib.Core.Bool.{Bool, true, false, cond, ◌||◌}
use mathlib.Core.List.{List}
use lib.Dec.{ltb}
use lib.ListN.{length, take}
use Rattle.message.specs.Reader.{Outcome, read}
use Rattle.message.specs.Reader as Reader
use Rattle.message.specs.Message.{Range, read_message}
use Rattle.message.proofs.Exact.{by_test, differ}
use Rattle.theory.specs.Rounds.{Cut}
use Rattle.theory.proofs.Tests.{clash}
use Rattle.table.specs.Answer.{Answer, answer, refused, refuse_if}
use Rattle.table.specs.Table.{Table, items, wrong_size, not_rising, judge_table}
use Rattle.cutting.specs.Cutting.{outside_limits, judge_cut}
use Rattle.limit.specs.Limit.{Limit, below_least, judge_limit, sent_message}
use Rattle.ends.specs.Calls.{result, once_read, reading}
use Rattle.ends.specs.Responder.{reply, other_version, answered_within}
use Rattle.ends.specs.Opener.{Lent, needed_ids, capacity, wrong_buffers, wrong_contents, other_label, first_query, opening_leaves, begin, opened_within, next_query, skips_only, written, marks_after, needed_after, conclude, taken_within}
use Rattle.ends.proofs.Lists.{overwrite-front}
use Rattle.ends.proofs.Relations.{leaves}

-- to go by what a call answered and keep the equation
pub by_answer : {C : Type 0} (r : Answer ℕ) → ((n : ℕ) → r ≡ answer n → C) → ((k : ℕ) → r ≡ refused k → C) → C
by_answer (answer n) f g = f n refl
by_answer (refused k) f g = g k refl

-- ---- one check after another

pub passed : {X : Type 0} (k : ℕ) (wrong : Bool) (next : Answer X) {x : X} → refuse_if k wrong next ≡ answer x → (wrong ≡ false) × (next ≡ answer x)
passed k true next e = differ (cc)
passed k false next e = (refl, e)

-- a test that fails
not_so : {X : Type 0} (test : Bool) (this next : Answer X) {x : X} → test ≡ false → cond test this next ≡ answer x → next ≡ answer x
not_so true this next f e = clash refl f
not_so false this next f e = e

was_read : {X : Type 0} (o : Outcome (List Range)) (next : List Range → Answer X) {x : X} → once_read o next ≡ answer x
    → (rs : List Range) × (rest : List ℕ) × (o ≡ read rs rest) × (next rs ≡ answer x)
was_read (read rs rest) next e = (rs, rest, refl, e)
was_read (Reader.refused k) next e = differ (cc)

pub unrefused-result : {L : Type 0} (before : L) (r : Answer (ℕ × L)) (n : ℕ) → (result before r).answer ≡ answer n → r ≡ answer (n, (result before r).lent)
unrefused-result before (answer r) n e = let z : r.0 ≡ n = cc in rw (← z)
unrefused-result before (refused k) n e = differ (cc)

pub refused-result : {L : Type 0} (before : L) (r : Answer (ℕ × L)) (k : ℕ) → (result before r).answer ≡ refused k → (result before r).lent ≡ before
refused-result before (answer r) k e = differ (cc)
refused-result before (refused j) k e = refl

-- checks 1 to 3
pub record Checked (T : Table) (c : Cut) : Type 0 where
  pub size : wrong_size T ≡ false
  pub order : not_rising T ≡ false
  pub limits : outside_limits c ≡ false

pub by_checks : {C : Type 0} (T : Table) (c : Cut) → (Checked T c → C) → ((Checked T c → ⊥) → C) → C
by_checks T c f g =
    by_test (wrong_size T) (λ e. g (λ k. clash e k.size))
    (λ e₁. by_test (not_rising T) (λ e. g (λ k. clash e k.order))
    (λ e₂. by_test (outside_limits c) (λ e. g (λ k. clash e k.limits))
    (λ e₃. f (record { size = e₁; order = e₂; limits = e₃ }))))

checked : {X : Type 0} (T : Table) (c : Cut) (next : Answer X) {x : X} → judge_table T (judge_cut c next) ≡ answer x → Checked T c × (next ≡ answer x)
checked T c next e =
    let s = passed 1 (wrong_size T) _ e in
    let o = passed 2 (not_rising T) _ s.1 in
    let l = passed 3 (outside_limits c) next o.1 in
    (record { size = s.0; order = o.0; limits = l.0 }, l.1)

-- and 14
checked_within : {X : Type 0} (limit : Limit) (T : Table) (c : Cut) (next : Answer X) {x : X} → judge_table T (judge_cut c (judge_limit limit next)) ≡ answer x
    → Checked T c × (below_least limit ≡ false) × (next ≡ answer x)
checked_within limit T c next e =
    let w = checked T c _ e in
    let z = passed 14 (below_least limit) next w.1 in
    (w.0, z.0, z.1)

-- the two parts of what a call left
pub both : {L : Type 0} {n n' : ℕ} {l l' : L} → ◌≡◌ {A = Answer (ℕ × L)} (answer (n, l)) (answer (n', l')) → (n ≡ n') × (l' ≡ l)
both {L} {n} {n'} {l} {l'} e =
    let z : ◌≡◌ {A = ℕ × L} (n, l) (n', l') = cc in
    (ap (λ (y : ℕ × L). y.0) z, ap (λ (y : ℕ × L). y.1) (sym z))

-- ---- Answer

pub record Answered (limit : Limit) (T : Table) (c : Cut) (query out : List ℕ) (n : ℕ) : Type 0 where
  pub checks : Checked T c
  pub least : below_least limit ≡ false
  pub ranges : List Range
  pub rest : List ℕ
  pub says : read_message query ≡ read ranges rest
  pub wrote : take n (answered_within limit T c query out).lent ≡ sent_message limit (items T) (reply c (items T) ranges)

pub answer_checks : (limit : Limit) (T : Table) (c : Cut) (query out : List ℕ) (n : ℕ) → (answered_within limit T c query out).answer ≡ answer n → Checked T c
unfolding answered_within
answer_checks limit T c query out n e = (checked_within limit T c _ (unrefused-result out _ n e)).0

-- a query that offers no other version
pub unrefused-answer : (limit : Limit) (T : Table) (c : Cut) (query out : List ℕ) (n : ℕ) → other_version query ≡ false
    → (answered_within limit T c query out).answer ≡ answer n
    → Answered limit T c query out n
unfolding answered_within
unrefused-answer limit T c query out n own e =
    let w = checked_within limit T c _ (unrefused-result out _ n e) in
    let r = was_read (read_message query) _ (not_so (other_version query) _ _ own w.2) in
    let m = sent_message limit (items T) (reply c (items T) r.0) in
    let z = both (passed 12 (ltb (length out) (length m)) _ r.3).1 in
    record { checks = w.0; least = w.1; ranges = r.0; rest = r.1; says = r.2; wrote = ap (take n) z.1 ∙ overwrite-front m out n z.0 }

-- ---- Open

pub record Opened (limit : Limit) (T : Table) (c : Cut) (l : Lent) (n : ℕ) : Type 0 where
  pub checks : Checked T c
  pub least : below_least limit ≡ false
  pub size : length (sent_message limit (items T) (first_query c (items T))) ≡ n
  pub left : (opened_within limit T c l).lent ≡ opening_leaves T (sent_message limit (items T) (first_query c (items T))) l

pub unrefused-opening : (limit : Limit) (T : Table) (c : Cut) (l : Lent) (n : ℕ) → (opened_within limit T c l).answer ≡ answer n → Opened limit T c l n
unfolding opened_within begin
unrefused-opening limit T c l n e =
    let w = checked_within limit T c _ (unrefused-result l _ n e) in
    let u = passed 4 (wrong_buffers T l) _ w.2 in
    let z = both (passed 12 (ltb (length l.out) (length (sent_message limit (items T) (first_query c (items T))))) _ u.1).1 in
    record { checks = w.0; least = w.1; size = z.0; left = z.1 }

-- ---- Take

pub record Taken (limit : Limit) (T : Table) (c : Cut) (m : List ℕ) (l : Lent) (n : ℕ) : Type 0 where
  pub least : below_least limit ≡ false
  pub fits : (wrong_buffers T l || wrong_contents l) ≡ false
  pub label : other_label T l.session ≡ false
  pub going : l.session.done ≡ false
  pub ranges : List Range
  pub rest : List ℕ
  pub says : read_message m ≡ read ranges rest
  pub size : length (written limit (items T) (next_query c (items T) ranges)) ≡ n
  pub left : (taken_within limit T c m l).lent
      ≡ leaves T ranges (written limit (items T) (next_query c (items T) ranges)) (skips_only (next_query c (items T) ranges)) l

pub unrefused-take : (limit : Limit) (T : Table) (c : Cut) (m : List ℕ) (l : Lent) (n : ℕ) → (taken_within limit T c m l).answer ≡ answer n → Taken limit T c m l n
unfolding taken_within conclude
unrefused-take limit T c m l n e =
    let w = checked_within limit T c _ (unrefused-result l _ n e) in
    let u = passed 4 (wrong_buffers T l || wrong_contents l) _ w.2 in
    let o = passed 18 (other_label T l.session) _ u.1 in
    let v = passed 5 l.session.done _ o.1 in
    let r = was_read (read_message m) _ v.1 in
    let x = passed 11 (ltb (capacity l) (length (needed_after (items T) r.0 (needed_ids l)))) _ r.3 in
    let z = both (passed 12 (ltb (length l.out) (length (written limit (items T) (next_query c (items T) r.0)))) _ x.1).1 in
    record { least = w.1; fits = u.0; label = o.0; going = v.0; ranges = r.0; rest = r.1; says = r.2; size = z.0; left = z.1 }

pub refused-take : (limit : Limit) (T : Table) (c : Cut) (m : List ℕ) (l : Lent) (k : ℕ) → (taken_within limit T c m l).answer ≡ refused k
    → (taken_within limit T c m l).lent ≡ l
unfolding taken_within
refused-take limit T c m l k e =
    refused-result l
    (judge_table T (judge_cut c (judge_limit limit (refuse_if 4 (wrong_buffers T l || wrong_contents l) (refuse_if 18 (other_label T l.session) (refuse_if 5 l.session.done (reading m (λ rs.
    let query = next_query c (items T) rs in
    conclude (written limit (items T) query) (skips_only query) (marks_after (items T) rs l.marks) (needed_after (items T) rs (needed_ids l)) l)))))))) k e
