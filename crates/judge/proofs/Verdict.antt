-- What a yes says of the bytes: `judged_exactly`, and that the reply is then a lawful one to the theory, `judged-lawful`.
use Prim.Native.Nat.{ℕ}
use mathlib.Core.Path.{◌≡◌, refl, sym, ap, ◌∙◌}
use mathlib.Core.Bool.{Bool, true, false}
use mathlib.Core.List.{List, [], map}
use Rattle.message.specs.Reader.{Outcome, read, refused}
use Rattle.message.specs.Message.{Range, read_message}
use Rattle.message.specs.WellFormed.{Bytes, WellFormed}
use Rattle.message.proofs.Messages.{message-back}
use Rattle.theory.specs.Message.{Message}
use Rattle.theory.specs.Lawful.{LawfulReply}
use Rattle.theory.proofs.Tests.{clash}
use Rattle.table.specs.Answer.{Answer, answer}
use Rattle.table.specs.Table.{key_of, Table, items, wrong_size, not_rising}
use Rattle.cutting.proofs.Projection.{protocol, project}
use Rattle.limit.proofs.Parts.{own-items}
use Rattle.ends.proofs.Calls.{passed}
use Rattle.ends.proofs.Relations.{Means, means-reads}
use Rattle.judge.specs.Judge.{verdict, judged}
use Rattle.judge.specs.Exact.{Lawful, JudgedExactly}
use Rattle.judge.proofs.Exact.{approves_exact}
use Rattle.judge.proofs.Lawful.{approved-lawful}

-- what is read of a message is well formed, and all of it
abbrev pub ReadsWell : List ℕ → Type 0
ReadsWell m = (rs : List Range) (rest : List ℕ) → read_message m ≡ read rs rest → WellFormed rs × (rest ≡ [])

pub bytes_well : (m : List ℕ) → Bytes m → ReadsWell m
bytes_well m h rs rest e = let w = message-back m rs rest h e in (w.0, w.2)

-- messages that mean something to the theory
pub means_well : {m : List ℕ} {M : Message (List ℕ)} → Means m M → ReadsWell m
means_well w rs rest e =
    let z : ◌≡◌ {A = Outcome (List Range)} (read rs rest) (read w.ranges []) = sym e ∙ means-reads w in
    let same : rs ≡ w.ranges = cc in
    let whole : rest ≡ [] = cc in
    (rw same w.well, whole)

-- the checks of the table have passed, and the test
pub yes_checks : (T : Table) (query reply : List ℕ) → judged T query reply ≡ answer true
    → (wrong_size T ≡ false) × (not_rising T ≡ false) × (verdict (items T) (read_message query) (read_message reply) ≡ true)
unfolding judged
yes_checks T query reply e =
    let s = passed 1 (wrong_size T) _ e in
    let o = passed 2 (not_rising T) _ s.1 in
    let z : ◌≡◌ {A = Answer Bool} (answer (verdict (items T) (read_message query) (read_message reply))) (answer true) = o.1 in
    (s.0, o.0, (cc))

module _ (T : Table) (query reply : List ℕ) (hq : ReadsWell query) (hr : ReadsWell reply) where
  verdict-yes : (o p : Outcome (List Range)) → read_message query ≡ o → read_message reply ≡ p → verdict (items T) o p ≡ true
      → wrong_size T ≡ false → not_rising T ≡ false → Lawful T query reply
  verdict-yes (read q rest) (read r rest') e d v s o =
      let w = hq q rest e in
      let z = hr r rest' d in
      record {
        size = s;
        order = o;
        asked = q;
        given = r;
        query_says = e ∙ ap (read q) w.1;
        reply_says = d ∙ ap (read r) z.1;
        approved = (approves_exact (items T) q r w.0 z.0).0 v;
      }
  verdict-yes (read q rest) (refused k) e d v s o = clash v refl
  verdict-yes (refused k) p e d v s o = clash v refl

  pub yes-lawful : judged T query reply ≡ answer true → Lawful T query reply
  yes-lawful e =
      let w = yes_checks T query reply e in
      verdict-yes (read_message query) (read_message reply) refl refl w.2 w.0 w.1

  lawful-yes : Lawful T query reply → judged T query reply ≡ answer true
  unfolding judged
  lawful-yes w =
      let q = hq w.asked [] w.query_says in
      let r = hr w.given [] w.reply_says in
      rw (w.size, w.order, w.query_says, w.reply_says, (approves_exact (items T) w.asked w.given q.0 r.0).1 w.approved)

pub judged_exactly : JudgedExactly
judged_exactly T query reply bq br =
    let q = bytes_well query bq in
    let r = bytes_well reply br in
    (yes-lawful T query reply q r, lawful-yes T query reply q r)

-- Then the reply is a lawful one to the theory.
pub judged-lawful : (T : Table) (query reply : List ℕ) → Bytes T.ids → (w : Lawful T query reply)
    → LawfulReply protocol (map key_of (items T)) (project w.asked) (project w.given)
judged-lawful T query reply b w =
    approved-lawful (items T) (own-items T b (w.size, w.order)) w.asked w.given w.approved
