-- What the call comes to.
use Prim.Native.Nat.{ℕ}
use mathlib.Core.Path.{◌≡◌, refl, sym, ap, ◌∙◌}
use mathlib.Core.Bool.{Bool, true, false}
use mathlib.Core.List.{List, []}
use Rattle.std.specs.Prelude.{Result, Ok, Err}
use Rattle.std.specs.Result.{is_err}
use Rattle.std.proofs.Math.Bool.{and-true, and-false}
use Rattle.message.specs.declared.Refusal.{Refusal}
use Rattle.message.specs.Reader.{Outcome, read, refused}
use Rattle.message.specs.Bound.{start}
use Rattle.message.specs.Message.{Range, read_message}
use Rattle.message.specs.WellFormed.{Bytes}
use Rattle.message.proofs.Exact.{differ}
use Rattle.reader.specs.Answers.{message_read, counted}
use Rattle.table.specs.Table.{Item, Table, items, within}
use Rattle.reader.specs.Private.{ranges_at}
use Rattle.walk.specs.Walking.{starts, Walking}
use Rattle.reader.proofs.Stepping.{message-read}
use Rattle.walk.proofs.Steps.{walk_starts}
use Rattle.judge.specs.Judge.{whole, meeting, of_table, answers, every_range, approves, verdict}

-- ---- a message that cannot be read

module _ (T : List Item) where
  pub query_unread : (o p : Outcome (List Range)) (r : Result ℕ Refusal) → is_err r ≡ true → message_read r ≡ counted o → false ≡ verdict T o p
  query_unread o p (Ok n) f e = differ (cc)
  query_unread (read q rest) p (Err k) f e = differ (cc)
  query_unread (refused j) p (Err k) f e = refl

  pub reply_unread : (o p : Outcome (List Range)) (r : Result ℕ Refusal) → is_err r ≡ true → message_read r ≡ counted p → false ≡ verdict T o p
  reply_unread o p (Ok n) f e = differ (cc)
  reply_unread o (read r rest) (Err k) f e = differ (cc)
  reply_unread (read q rest) (refused j) (Err k) f e = refl
  reply_unread (refused i) (refused j) (Err k) f e = refl

-- ---- both can be read

pub record Reads (T : Table) (m : List ℕ) : Type 0 where
  pub walking : Walking T m starts
  pub says : read_message m ≡ read (ranges_at m starts.cursor) []

pub reads : (T : Table) (m : List ℕ) → Bytes m → (r : Result ℕ Refusal) → is_err r ≡ false → message_read r ≡ counted (read_message m) → Reads T m
reads T m by (Err k) f e = differ (cc)
reads T m by (Ok n) f e =
    let r = message-read m n e in
    let w = walk_starts T m r.0 by r.1 in
    record { walking = w.0; says = r.1 ∙ ap (λ (rs : List Range). read rs []) (sym w.1) }

module _ (T : Table) (query reply : List ℕ) (q : Reads T query) (r : Reads T reply) where
  abbrev said : List ℕ → List Range
  said m = ranges_at m starts.cursor

  -- the two tests on all ranges
  abbrev pub true_of : Bool
  true_of = every_range (λ x y p. of_table (within x y (items T)) p) (said reply)

  abbrev pub answered : Bool
  answered = every_range (λ x y p. answers (within x y (items T)) p (meeting x y start (whole (said reply)))) (whole (said query))

  pub says-no : answered ≡ false → false ≡ verdict (items T) (read_message query) (read_message reply)
  unfolding approves
  says-no e = rw (q.says, r.says, e) (sym (and-false true_of))

  pub says_so : answered ≡ true → (b : Bool) → b ≡ true_of → b ≡ verdict (items T) (read_message query) (read_message reply)
  unfolding approves
  says_so e b d = rw (q.says, r.says, e) (d ∙ sym (and-true true_of))
