-- All that `Demand3`, `Demand3Mixed` with takes handed other tables, `KnowsItsTable`, `WhoeverOpens` and `TrueAndComplete` ask for can be met, on bytes.
use mathlib.Core.Path.{◌≡◌, refl, sym, ap, ◌∙◌}
use mathlib.Core.Logic.{◌⊎◌, ◌↔◌, inl, inr, ⊎_elim}
use mathlib.Core.List.Memᴰ
use mathlib.Core.List.{List, [], ◌∷◌, ◌++◌, flatten, zip_with, Memᴰ}
use Prim.Native.Nat.{ℕ, ◌≤◌}
use native.Mathlib.Omega.{arith}
use lib.ListN.{replicate, get_or}
use Rattle.message.specs.Reader.{Outcome, read, read_bytes}
use Rattle.message.specs.Varint.{read_digits, read_varint, digits_before, spell_varint}
use Rattle.message.specs.Code.{ids_in}
use Rattle.message.specs.Bound.{Bound, infinity, start, big_endian, id_space, key, read_prefix, read_coded, read_bound, spell_prefix, spell_bound}
use Rattle.message.specs.Message.{Payload, fingerprint, ids, Range, range, read_ids, read_of_mode, read_payload, read_range, read_ranges, read_message, spell_payload, spell_range, spell_ranges, spell_message}
use Rattle.message.specs.Meaning.{is_skip, prepend, tidy, write_message}
use Rattle.theory.specs.Rounds.{to_last, Cut}
use Rattle.label.specs.Label.{little_endian, total, label_of, same_label}
use Rattle.table.specs.Answer.{Answer, answer, refused}
use Rattle.table.specs.Lists.{keep, every, rising}
use Rattle.table.specs.Table.{Item, Table, key_of, items, wrong_size, not_rising, within}
use Rattle.cutting.specs.Cutting.{outside_limits, cut}
use Rattle.limit.specs.Limit.{unlimited, below_least, limited, sent_message}
use Rattle.ends.specs.Lists.{some, same, overwrite}
use Rattle.ends.specs.Calls.{each_range}
use Rattle.ends.specs.Responder as responder
use Rattle.ends.specs.Responder.{treat, other_version, answered_within}
use Rattle.ends.specs.Opener.{Lent, wrong_buffers, wrong_contents, other_label, first_query, opening_leaves, begin, opened_within, next_query, written, unlisted, marks_after, unowned, insert, needed_after, take_leaves, conclude, taken_within}
use Rattle.ends.specs.Demand.{Take, Place, opening, Fingerprinted, ReportsOurs, ReportsTheirs, Reported, Answers, HandedAnswers, InRow, unrefused, Throughout, OneTime}
use Rattle.ends.specs.Converting.{converted}
use Rattle.ends.specs.Takes.{none, then_refused, then_taken}
use Rattle.ends.specs.Labelled.{Knows}
use Rattle.ends.specs.Finished.{end, NoneCollides}
use Rattle.ends.specs.Instance.{starting, ours, theirs, two, lent, query, reply, take₁, take₂, take₃, takes, Asked, AskedHere, Done, exchanged, more, handed_with, OtherTables, Conversions, takes_back, AskedBothHere, OwnAnswer, RunHere}
use Rattle.ends.proofs.Demand.{demand3}
use Rattle.ends.proofs.Mixed.{demand3_mixed}
use Rattle.ends.proofs.Labelled.{knows_its_table}
use Rattle.ends.proofs.Finished.{whoever_opens}
use Rattle.ends.proofs.Tables.{kept}
use Rattle.ends.proofs.Calls.{Checked, answer_checks}
use Rattle.ends.proofs.Own.{answer-replied}
use Rattle.ends.proofs.Replies.{LawfulReplies, true_and_complete}

-- the two ids differ
two-ids : {C : Type 0} → starting 0x01 ≡ starting 0x02 → C
two-ids e = let z : ◌≡◌ {A = ℕ} 1 2 = ap (λ (l : List ℕ). get_or l 0 0) e in absurd (omega arith)

abbrev Either : Item → Type 0
Either i = (i ≡ record { time = 5; id = starting 0x01 }) ⊎ Memᴰ i (record { time = 6; id = starting 0x02 } ∷ [])

one_time : OneTime (items ours ++ items theirs)
unfolding items ids_in zip_with
one_time i j mi mj e = by (Memᴰ.cases_cons mi) (Memᴰ.cases_cons mj)
  where
    id_of_lem : {i j : Item} → i ≡ j → i.id ≡ j.id
    id_of_lem = ap (λ (i : Item). i.id)

    time_of : {i j : Item} → i ≡ j → i.time ≡ j.time
    time_of = ap (λ (i : Item). i.time)

    by : Either i → Either j → i.time ≡ j.time
    by (inl p) (inl q) = time_of (p ∙ sym q)
    by (inl p) (inr q) = two-ids (sym (id_of_lem p) ∙ e ∙ id_of_lem (Memᴰ.eq_of_singleton q))
    by (inr p) (inl q) = two-ids (sym (id_of_lem q) ∙ sym e ∙ id_of_lem (Memᴰ.eq_of_singleton p))
    by (inr p) (inr q) = time_of (Memᴰ.eq_of_singleton p ∙ sym (Memᴰ.eq_of_singleton q))

pub not-both : {C : Type 0} {k n : ℕ} → ◌≡◌ {A = Answer ℕ} (refused k) (answer n) → C
not-both e = let z : ◌≡◌ {A = ℕ} 0 1 = cc in absurd (omega arith)

-- ---- no range with a fingerprint

-- a message of one range, with ids
abbrev pub Lists : List ℕ → Type 0
Lists m = (l : List (List ℕ)) × (read_message m ≡ read (range infinity (ids l) ∷ []) [])

no-fingerprint : {m : List ℕ} {x y : Bound} → Lists m → Fingerprinted m x y → ⊥
unfolding each_range
no-fingerprint {x = x} {y = y} h f =
    let z : ◌≡◌ {A = Outcome (List Range)} (read f.ranges []) (read (range infinity (ids h.0) ∷ []) []) = sym f.says ∙ h.1 in
    let one : f.ranges ≡ range infinity (ids h.0) ∷ [] = cc in
    let p : ◌≡◌ {A = Bound × Bound × Payload} (x, y, fingerprint f.bytes) (start, infinity, ids h.0) = Memᴰ.eq_of_singleton (rw one at f.stands) in
    let q : ◌≡◌ {A = Payload} (fingerprint f.bytes) (ids h.0) = ap (λ (w : Bound × Bound × Payload). w.2) p in
    let n : ◌≡◌ {A = ℕ} 0 1 = cc in omega arith

pub none_collides : (A B : Table) (p : Place) (q r : List ℕ) → p.handed ≡ (q, r) ∷ [] → Lists q → Lists r → NoneCollides A B p
none_collides A B p q r h lq lr i c =
    let k = c.compared in
    let e : ◌≡◌ {A = List ℕ × List ℕ} (k.query, k.reply) (q, r) = Memᴰ.eq_of_singleton (rw h at k.handed) in
    ⊎_elim
    (λ f. no-fingerprint lq (rw (ap (λ (w : List ℕ × List ℕ). w.0) e) at f)) (λ f. no-fingerprint lr (rw (ap (λ (w : List ℕ × List ℕ). w.1) e) at f))
    k.stands

-- ---- computed

-- what the takes meet, and that they are a row
record Met : Type 0 where
  asked : AskedHere
  row : InRow ours theirs two two (opening ours two lent) takes
  enough : 1 ≤ unrefused ours theirs two two (opening ours two lent) takes
  both : AskedBothHere
  mixed : RunHere
  others : OtherTables
  conversions : Conversions

met : Met
unfolding read_message read_ranges read_range read_bound read_coded read_prefix read_payload read_of_mode read_ids read_varint read_digits read_bytes key big_endian id_space write_message tidy prepend is_skip spell_message spell_ranges spell_range spell_bound spell_prefix spell_payload spell_varint digits_before flatten cut items ids_in zip_with keep every rising key_of wrong_size not_rising within outside_limits some same overwrite each_range treat responder.reply other_version answered_within wrong_buffers wrong_contents first_query opening_leaves begin opened_within next_query written unlisted marks_after unowned insert needed_after take_leaves conclude taken_within below_least limited sent_message other_label same_label label_of total little_endian converted
met =
    let answers : Answers ours theirs two two query reply = record { out = replicate 37 0; size = 37; unrefused = refl; written = refl } in
    let answers-back : Answers theirs ours two two reply query = record { out = replicate 37 0; size = 37; unrefused = refl; written = refl } in
    let sent-and-answered : Memᴰ query (query ∷ []) × Answers ours theirs two two query reply = (Memᴰ.head refl, answers) in
    let handed : HandedAnswers ours theirs two two (opening ours two lent) takes =
    (λ n e. not-both e, (λ n e. not-both e, (λ n e. sent-and-answered, tt))) in
    record {
      asked = record {
        ours_bytes = omega arith;
        theirs_bytes = omega arith;
        once = one_time;
        smallest = record { enough = omega arith; least = λ k h. omega arith };
        opens = refl;
        handed = handed;
      };
      row = (λ n e. not-both e, (λ n e. not-both e, (λ n e. ([], refl), tt)));
      enough = omega arith;
      both = (
        record {
          forth = record { lent = lent; size = 37; opens = refl; takes = takes; handed = handed; done = refl };
          back = record { lent = lent; size = 37; opens = refl; takes = takes_back; handed = (λ n e. (Memᴰ.head refl, answers-back), tt); done = refl };
          none_forth = none_collides ours theirs _ query reply refl (starting 0x01 ∷ [], refl) (starting 0x02 ∷ [], refl);
          none_back = none_collides theirs ours _ reply query refl (starting 0x02 ∷ [], refl) (starting 0x01 ∷ [], refl);
        },
        refl,
        refl,
      );
      mixed = (_, then_taken (then_refused (then_refused none take₁ 6 refl) take₂ 11 refl) take₃ 0 refl (Memᴰ.head refl) (two, answers), refl);
      others = record {
        exchanged_first = refl;
        more_first = refl;
        later_first = refl;
        same_first = refl;
        place = _;
        takes =
            then_refused
            (then_taken (then_refused (then_refused none (handed_with exchanged) 18 refl) (handed_with more) 4 refl) (handed_with ours) 0 refl (Memᴰ.head refl)
            (λ e. refl, (unlimited, to_last, record { out = replicate 37 0; size = 37; unrefused = refl; written = refl })))
            (handed_with exchanged) 18 refl;
        exchanged_then = refl;
        same_then = refl;
        labelled = refl;
      };
      conversions = record { done = refl; committed = refl; more = refl; unmarked = refl; changed = refl };
    }

pub asked : AskedHere
asked = met.asked

pub owed : {A B : Table} {a b : Cut} {L : ℕ} {lent : Lent} {n : ℕ} {takes : List Take} → Asked A B a b L lent n takes → Throughout A B a b L (opening A a lent) takes
owed {A} {B} {a} {b} {L} {lent} {n} {takes} h =
    demand3 A B a b h.ours_bytes h.theirs_bytes h.once L h.smallest lent n h.opens takes h.handed

pub done : Done
done = (owed asked).0.ends takes [] refl met.row met.enough

pub asked-both : AskedBothHere
asked-both = met.both

-- the same two ids either way, exchanged
pub both_report : (d : List ℕ)
    → let s = asked-both.0.forth in let z = asked-both.0.back in
    (ReportsOurs ours (end ours theirs two two s) d ↔ ReportsTheirs (end theirs ours two two z) d)
    × (ReportsTheirs (end ours theirs two two s) d ↔ ReportsOurs theirs (end theirs ours two two z) d)
both_report d =
    let b = asked-both.0 in
    whoever_opens ours theirs two two two two asked.ours_bytes asked.theirs_bytes asked.once b.forth b.back b.none_forth b.none_back d

-- ---- handed another table

pub other_tables : OtherTables
other_tables = met.others

pub all_converted : Conversions
all_converted = met.conversions

-- by the theorems, what is reported then is true and complete, and a conversion gives the session back
pub reported_then : Reported ours theirs other_tables.place
reported_then =
    (demand3_mixed ours theirs two two asked.ours_bytes asked.theirs_bytes asked.once 0 asked.smallest unlimited lent 37 asked.opens
    other_tables.place other_tables.takes).reported

pub knows : Knows ours theirs two two other_tables.place
knows = knows_its_table ours theirs two two asked.ours_bytes asked.theirs_bytes unlimited lent 37 asked.opens other_tables.place other_tables.takes

-- ---- replies of any kind

own-lawful : LawfulReplies OwnAnswer
own-lawful = record {
  sized = λ B q r h. (checks B q r h).size;
  rising = λ B q r h. (checks B q r h).order;
  replied = λ B q r by h w. let c = checks B q r h in
      answer-replied unlimited B h.0 (kept B h.0 by c.size c.order c.limits) q r h.1.out h.1.size h.1.unrefused h.1.written w;
}
  where
    checks : (B : Table) (q r : List ℕ) (h : OwnAnswer B q r) → Checked B h.0
    checks B q r h = answer_checks unlimited B h.0 q h.1.out h.1.size h.1.unrefused

pub run-here : RunHere
run-here = met.mixed

-- what is reported there is true and complete
pub reported-here : Reported ours theirs run-here.0
reported-here =
    true_and_complete OwnAnswer own-lawful ours theirs two asked.ours_bytes asked.theirs_bytes asked.once lent 37 asked.opens run-here.0 run-here.1
