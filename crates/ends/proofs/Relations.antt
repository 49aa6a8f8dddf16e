-- What the theorem about lists of takes asks of an opening, of a reply and of an unrefused take, on the bytes. It asks it by the relations of the theory, so
-- that ends may cut as they like: `Begun`, `Replied` and `Took`.
use Prim.Native.Nat.{ℕ}
use mathlib.Core.Path.{◌≡◌, refl, sym, ap, ◌∙◌}
use mathlib.Core.Bool.{Bool, false, cond}
use mathlib.Core.List.{List, [], ◌∷◌}
use lib.ListN.{length, replicate}
use Rattle.message.specs.Reader.{Outcome, read}
use Rattle.message.specs.Message.{Range, read_message, spell_message}
use Rattle.message.specs.WellFormed.{Bytes, WellFormed}
use Rattle.message.proofs.Messages.{message-there, message-back}
use Rattle.theory.specs.Message.{Message}
use Rattle.theory.specs.Lawful.{LawfulReply, LawfulNext, LawfulOpening}
use Rattle.table.specs.Table.{Table, items}
use Rattle.cutting.proofs.Projection.{protocol, project}
use Rattle.ends.specs.Opener.{Lent, needed_ids, table_label, skips_only, marks_after, needed_after, take_leaves}
use Rattle.ends.specs.Demand.{Place}
use Rattle.ends.proofs.Tables.{keys_of}

-- ---- messages

-- the bytes m spell ranges that are M to the theory
pub record Means (m : List ℕ) (M : Message (List ℕ)) : Type 0 where
  pub ranges : List Range
  pub well : WellFormed ranges
  pub spelled : m ≡ spell_message ranges
  pub projected : M ≡ project ranges

pub means-reads : {m : List ℕ} {M : Message (List ℕ)} (w : Means m M) → read_message m ≡ read w.ranges []
means-reads w = ap read_message w.spelled ∙ message-there w.ranges w.well

pub means-ranges : {m : List ℕ} {M : Message (List ℕ)} (w : Means m M) {rs : List Range} {rest : List ℕ} → read_message m ≡ read rs rest → rs ≡ w.ranges
means-ranges w {rs} {rest} e = let z : ◌≡◌ {A = Outcome (List Range)} (read rs rest) (read w.ranges []) = sym e ∙ means-reads w in cc

-- bytes have one meaning
pub means_alone : {m : List ℕ} {M N : Message (List ℕ)} → Means m M → Means m N → M ≡ N
means_alone w z = w.projected ∙ ap project (means-ranges z (means-reads w)) ∙ sym z.projected

-- any bytes that are read without refusal
pub read-means : (m : List ℕ) (rs : List Range) (rest : List ℕ) → Bytes m → read_message m ≡ read rs rest → Means m (project rs)
read-means m rs rest h e = let w = message-back m rs rest h e in record { ranges = rs; well = w.0; spelled = w.1; projected = refl }

-- ---- the opening

-- "The list starts with what an unrefused opening left: session open, marks 0, needed list empty." A is the opener's table.
pub record Begun (A : Table) (o : Place) : Type 0 where
  -- the first query as it is spelled
  pub query : List Range
  pub well : WellFormed query
  pub lawful : LawfulOpening protocol (keys_of A) (project query)
  pub going : o.session.done ≡ false
  pub label : o.session.label ≡ table_label A
  pub marked : o.session.marked ≡ 0
  pub marks : o.marks ≡ replicate (length A.times) 0
  pub count : o.session.needed ≡ 0
  pub needed : o.needed ≡ []
  pub sent : o.sent ≡ spell_message query ∷ []
  pub handed : o.handed ≡ []

-- ---- a reply

-- r reads as a lawful reply to the query Q of a responder with the table B
pub record Replied (B : Table) (Q : Message (List ℕ)) (r : List ℕ) : Type 0 where
  pub message : Message (List ℕ)
  pub means : Means r message
  pub lawful : LawfulReply protocol (keys_of B) Q message

-- ---- a take

-- "If the next query would be skips only, the session is done and nothing is written; otherwise the query is written."
abbrev pub sent_of : List Range → List ℕ
sent_of query = cond (skips_only query) [] (spell_message query)

-- what an unrefused take leaves that read the ranges rs, by what it wrote, and done or not
abbrev pub leaves : Table → List Range → List ℕ → Bool → Lent → Lent
leaves A rs wrote done l = take_leaves wrote done (marks_after (items A) rs l.marks) (needed_after (items A) rs (needed_ids l)) l

-- An unrefused take of an opener with the table A, from what it was lent, l, to what it left, l': the session was open, the take read the ranges rs, came to any
-- lawful next query and wrote n bytes, and left marks, needed list and session as the text has them.
pub record Took (A : Table) (rs : List Range) (l : Lent) (n : ℕ) (l' : Lent) : Type 0 where
  pub going : l.session.done ≡ false
  -- the next query as it is spelled
  pub query : List Range
  pub well : WellFormed query
  pub lawful : LawfulNext protocol (keys_of A) (project rs) (project query)
  pub size : length (sent_of query) ≡ n
  pub left : l' ≡ leaves A rs (sent_of query) (skips_only query) l
