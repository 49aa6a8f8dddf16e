-- SPEC 6.10, 12.6, 14.3: what `Demand3` claims, of lists of takes in which each call of either end may be given a byte limit and may cut by either rule, and each take
-- may be handed another table than the opening was.
use Rattle.std.specs.Prelude.{◌≡◌, false, List, [], ◌++◌, ℕ, length, take}
use Rattle.message.specs.Reader.{read}
use Rattle.message.specs.Message.{Range, read_message}
use Rattle.message.specs.Meaning.{write_message}
use Rattle.message.specs.WellFormed.{Bytes}
use Rattle.theory.specs.Rounds.{OddItems, Cut}
use Rattle.table.specs.Answer.{answer}
use Rattle.table.specs.Table.{Table, items}
use Rattle.limit.specs.Limit.{Limit, unlimited, exceeds}
use Rattle.ends.specs.Calls.{Result}
use Rattle.ends.specs.Responder.{answered_within}
use Rattle.ends.specs.Opener.{Lent, table_label, first_query, opened_within, next_query, taken_within}
use Rattle.ends.specs.Demand.{Take, Place, behind_call, OneTime, Smallest}
use Rattle.ends.specs.Takes.{Run, Owed}

-- the cut c, save that the odd items go where o says
abbrev pub by : OddItems → Cut → Cut
by o c = record { parts = c.parts; limit = c.limit; odd = o }

-- what a take is handed, the opener's table at that time among it, its byte limit, and the rule that it cuts by
pub record AnyTake : Type 0 where
  pub handed : Take
  pub table : Table
  pub limit : Limit
  pub odd : OddItems

abbrev pub handed_to : AnyTake → Take
handed_to x = x.handed

-- what an opening with this limit left
abbrev pub opening_within : Limit → Table → Cut → Lent → Place
opening_within limit A a l = behind_call (opened_within limit A a l) [] []

-- A and B are the tables of opener and responder, A at the opening, and a and b their cuts. The rule of a is that of the opening; that of b plays no part, as each answer has its own.
module _ (A B : Table) (a b : Cut) where
  abbrev pub taking : AnyTake → Lent → Result Lent
  taking x l = taken_within x.limit x.table (by x.odd a) x.handed.reply l

  -- r is what an unrefused answer of the responder to q, with this limit and by this rule, wrote into some out buffer
  pub record AnswersWithin (limit : Limit) (o : OddItems) (q r : List ℕ) : Type 0 where
    pub out : List ℕ
    pub size : ℕ
    pub unrefused : (answered_within limit B (by o b) q out).answer ≡ answer size
    pub written : r ≡ take size (answered_within limit B (by o b) q out).lent

  -- the reply of the take is an unrefused answer of the responder, with some limit and by either rule, to its query
  abbrev pub Answered : AnyTake → Type 0
  Answered x = (limit : Limit) × (o : OddItems) × AnswersWithin limit o x.handed.query x.handed.reply

  -- SPEC 14.2: the table of the take is not one "changed to the same label": its label tells it from A
  abbrev pub LabelTells : AnyTake → Type 0
  LabelTells x = table_label x.table ≡ table_label A → x.table ≡ A

  -- what is asked of an unrefused take
  abbrev pub Promised : AnyTake → Type 0
  Promised x = LabelTells x × Answered x

  -- SPEC 12.6: not "cut short" are a reply that is the answer without a limit, and a query that would not exceed the limit of its call
  abbrev pub WholeReply : AnyTake → Type 0
  WholeReply x = (o : OddItems) × AnswersWithin unlimited o x.handed.query x.handed.reply

  abbrev pub WholeQuery : AnyTake → Type 0
  WholeQuery x =
      (rs : List Range) → read_message x.handed.reply ≡ read rs [] → exceeds x.limit (write_message (next_query (by x.odd a) (items A) rs)) ≡ false

  abbrev pub WholeFirst : Limit → Type 0
  WholeFirst limit = exceeds limit (write_message (first_query a (items A))) ≡ false

  -- the takes after an opening with this limit, up to a place
  abbrev pub Takes : Limit → Lent → Place → Type 0
  Takes limit lent p = Run handed_to taking Promised (opening_within limit A a lent) p

-- SPEC 12.6: "What a finished session reports is as true and complete as in 6.5, save the same colliding ranges, for any mix of limits at both ends. The count L + 1
-- of 6.6 is owed only where neither end met its limit: where no message of the row, and not the query that its first take answers, was cut short." Without that
-- last condition it would be false: an opening of at most t items that was cut short needs a second query, though L is 0.
-- SPEC 6.10: "Each call of either end may cut by 4.3 or by the former rule, in any mix: a session opened under the former rule is carried on under 4.3 without
-- reopening, late replies to its old queries included. 6.5 and 6.6 hold of the whole list of takes from the opening, and a row of 6.6 may reach across the change."
-- SPEC 14.3: "the opener's table may be another one at each take, as long as no unrefused take is handed a table that was changed to the same label". A take that is handed
-- a table of another label is refused, and nothing more is asked of it.
abbrev pub Demand3Mixed : Type 0
Demand3Mixed =
    (A B : Table) (a b : Cut) → Bytes A.ids → Bytes B.ids → OneTime (items A ++ items B)
    → (L : ℕ) → Smallest a (length A.times) L
    → (limit : Limit) (lent : Lent) (n : ℕ) → (opened_within limit A a lent).answer ≡ answer n
    → (p : Place) (takes : Takes A B a b limit lent p)
    → Owed handed_to (taking A B a b) (Promised A B a b) (WholeFirst A B a b limit) (WholeReply A B a b) (WholeQuery A B a b) A B L takes
