-- The table of examples holds of the definitions, all rows together.
use mathlib.Core.Path.{◌≡◌, refl}
use mathlib.Core.Bool.{true, false}
use mathlib.Core.List.{List, [], ◌∷◌, ◌++◌, map, flatten, zip_with}
use Prim.Native.Nat.{ℕ, ◌-◌, ◌*◌}
use Rattle.message.specs.Reader.{read, refused, read_bytes}
use Rattle.message.specs.Varint.{read_digits, read_varint, digits_before, spell_varint}
use Rattle.message.specs.Code.{ids_in}
use Rattle.message.specs.Bound.{big_endian, id_space, key, read_prefix, read_coded, read_bound, spell_prefix, spell_bound}
use Rattle.message.specs.Message.{read_ids, read_of_mode, read_payload, read_range, read_ranges, read_message, spell_payload, spell_range, spell_ranges, spell_message}
use Rattle.message.specs.Meaning.{is_skip, prepend, tidy, write_message}
use lib.ListN.{length, take, replicate}
use Rattle.theory.specs.Standard.{sizes}
use Rattle.theory.specs.Cutting.{split}
use Rattle.table.specs.Answer.{answer}
use Rattle.table.specs.Answer as Answer
use Rattle.table.specs.Lists.{keep, every, rising}
use Rattle.table.specs.Table.{Item, Table, key_of, items, wrong_size, not_rising, within}
use Rattle.sha256.specs.Fips180.{digest}
use Rattle.label.specs.Label as L
use Rattle.label.specs.Label.{empty, same_label, little_endian, total, label_of, low_bytes, hashed, spell_label, read_label}
use Rattle.tree.specs.Tree.{depth_from, depth_of, places, sums, levels, spell_labels, tree_over, wrong_tree, label_at, put_label, renew, renew_above, build, grown, none_free, appended, append, Found, visit, depth_in, label_of_run}
use Rattle.cutting.specs.Cutting.{fingerprint_of, shared, shortest, outside_limits, inner_bound, fingerprint_ranges, cut}
use Rattle.limit.specs.Limit.{bytes, below_least, exceeds, largest, run_end, closed, fits, longest, first_ids, most_ids, part_of, shortened, limited, sent_message}
use Rattle.ends.specs.Lists.{some, same, overwrite}
use Rattle.ends.specs.Calls.{Result, each_range}
use Rattle.ends.specs.Responder.{compare, treat, reply, other_version, answered, answered_within}
use Rattle.ends.specs.Opener.{Lent, wrong_buffers, wrong_contents, table_label, other_label, first_query, opening_leaves, begin, opened, opened_within, next_query, written, unlisted, marks_after, unowned, insert, needed_after, take_leaves, conclude, taken, taken_within}
use Rattle.fold.specs.Fold as Fold
use Rattle.fold.specs.Fold.{cannot_hold, wrong_needed, same_item, not_due, judge_fold, enter, still_needed, laid, commit_leaves, inquired, committed}
use Rattle.examples.specs.Table.{Varint, varints, Refused, refusals, Message, messages, merged, Neighbours, neighbours, Division, divisions, item, Opening, openings, Answering, answers, refused_queries, one, two, Taking, takes, Labelled, labels, Tree, three, three_labels, trees, spelled, Depth, depths, Run, empty_runs, fourth, four_labels, four_runs, Limited, numbered, limits, too_small, Folding, own_two, first_folding, foldings, own_four, needed_one, id_bytes}

-- an out buffer of just the size that is needed, and marks that are to become 0
abbrev before_opening : Opening → Lent
before_opening e = record {
  session = record { marked = 0; needed = 0; done = false; label = empty };
  marks = replicate (length e.table.times) 0xEE;
  needed = [];
  out = replicate e.size 0xEE;
}

abbrev after_opening : Opening → Result Lent
after_opening e = record {
  answer = answer e.size;
  lent = record {
    session = record { marked = 0; needed = 0; done = false; label = table_label e.table };
    marks = replicate (length e.table.times) 0;
    needed = [];
    out = e.message;
  };
}

-- an out buffer of six bytes, one at least more than an answer has
abbrev out : List ℕ
out = replicate 6 0xEE

abbrev after_answer : Answering → Result (List ℕ)
after_answer e = record { answer = answer (length e.reply); lent = e.reply ++ replicate (6 - length e.reply) 0xEE }

-- nothing is written, so that no out buffer is needed
abbrev before_take : Taking → Lent
before_take e = record {
  session = record { marked = 0; needed = 0; done = false; label = table_label e.table };
  marks = replicate (length e.table.times) 0;
  needed = [];
  out = [];
}

abbrev after_take : Taking → Result Lent
after_take e = record {
  answer = answer 0;
  lent = record { session = record { marked = e.marked; needed = 0; done = true; label = table_label e.table }; marks = e.marks; needed = []; out = [] };
}

abbrev lent_tree : Tree → List ℕ
lent_tree e = replicate (40 * length e.labels) 0xEE

abbrev found : Run → Answer.Answer Found
found e = answer (record { label = e.label; visited = e.visited })

-- items at the front of buffers that have room for so many
abbrev table_of : List Item → ℕ → Table
table_of is room = record {
  times = map (λ (i : Item). i.time) is ++ replicate (room - length is) 0xEE;
  ids = id_bytes is ++ replicate (32 * (room - length is)) 0xEE;
}

abbrev before_fold : Folding → Fold.Lent
before_fold e = record { table = table_of own_two e.room; session = record { marked = 1; needed = 3; done = e.done; label = empty }; needed = e.needed }

abbrev batch_of : Folding → Table
batch_of e = table_of e.batch (length e.batch)

abbrev after_fold : Result Fold.Lent
after_fold = record {
  answer = answer 4;
  lent = record { table = table_of own_four 4; session = record { marked = 1; needed = 1; done = true; label = empty }; needed = needed_one };
}

pub table :
    (map (λ (e : Varint). spell_varint e.value) varints ≡ map (λ (e : Varint). e.bytes) varints)
    × (map (λ (e : Varint). read_varint e.bytes) varints ≡ map (λ (e : Varint). read e.value []) varints)
    × (map (λ (e : Refused). read_message e.bytes) refusals ≡ map (λ (e : Refused). refused e.number) refusals)
    × (map (λ (e : Message). read_message e.bytes) messages ≡ map (λ (e : Message). read e.ranges []) messages)
    × (map (λ (e : Message). spell_message e.ranges) messages ≡ map (λ (e : Message). e.bytes) messages)
    × (map (λ (e : Message). write_message e.ranges) merged ≡ map (λ (e : Message). e.bytes) merged)
    × (map (λ (e : Neighbours). shortest e.first e.second) neighbours ≡ map (λ (e : Neighbours). e.bound) neighbours)
    × (map (λ (e : Division). sizes e.odd e.parts e.items) divisions ≡ map (λ (e : Division). e.sizes) divisions)
    × (map (λ (e : Opening). opened e.table e.cut (before_opening e)) openings ≡ map after_opening openings)
    × (map (λ (e : Answering). answered e.table e.cut e.query out) answers ≡ map after_answer answers)
    × (map (λ (e : Refused). answered one two e.bytes out) refused_queries ≡ map (λ (e : Refused). record { answer = Answer.refused e.number; lent = out }) refused_queries)
    × (map (λ (e : Taking). taken e.table e.cut e.reply (before_take e)) takes ≡ map after_take takes)
    × (map (λ (e : Labelled). label_of e.ids) labels ≡ map (λ (e : Labelled). e.label) labels)
    × (map (λ (e : Labelled). hashed e.label) labels ≡ map (λ (e : Labelled). e.hashed) labels)
    × (map (λ (e : Tree). build e.table (lent_tree e)) trees ≡ map (λ (e : Tree). answer (spell_labels e.labels)) trees)
    × (map (λ (e : Tree). spell_labels e.labels) (take 1 trees) ≡ spelled ∷ [])
    × (map (λ (e : Depth). depth_of e.items) depths ≡ map (λ (e : Depth). e.k) depths)
    × (map (λ (e : Run). label_of_run (replicate 600 0) e.from e.to) empty_runs ≡ map found empty_runs)
    × (append three fourth (spell_labels three_labels) ≡ answer (spell_labels four_labels))
    × (map (λ (e : Run). label_of_run (spell_labels four_labels) e.from e.to) four_runs ≡ map found four_runs)
    × (append (grown three fourth) (item 9 0x05) (spell_labels four_labels) ≡ Answer.refused 13)
    × (map (λ (e : Limited). length (write_message e.ranges)) limits ≡ map (λ (e : Limited). e.whole) limits)
    × (map (λ (e : Limited). sent_message (bytes e.limit) e.items e.ranges) limits ≡ map (λ (e : Limited). e.message) limits)
    × (map (λ (e : Limited). length e.message) limits ≡ map (λ (e : Limited). e.size) limits)
    × (answered_within (bytes too_small) one two [] out ≡ record { answer = Answer.refused 14; lent = out })
    × (map (λ (e : Folding). inquired 2 (before_fold e) (batch_of e)) foldings ≡ map (λ (e : Folding). e.inquiry) foldings)
    × (committed 2 (before_fold first_folding) (batch_of first_folding) ≡ after_fold)
unfolding read_message read_ranges read_range read_bound read_coded read_prefix read_payload read_of_mode read_ids read_varint read_digits read_bytes key big_endian id_space write_message tidy prepend is_skip spell_message spell_ranges spell_range spell_bound spell_prefix spell_payload spell_varint digits_before flatten sizes split shared shortest inner_bound fingerprint_ranges cut items ids_in zip_with little_endian total label_of low_bytes hashed fingerprint_of L.fingerprint digest keep every rising key_of wrong_size not_rising within outside_limits some same overwrite each_range compare treat reply other_version answered_within wrong_buffers wrong_contents first_query opening_leaves begin opened_within next_query written unlisted marks_after unowned insert needed_after take_leaves conclude taken_within below_least exceeds largest run_end closed fits longest first_ids most_ids part_of shortened limited sent_message numbered spell_label read_label depth_from depth_of places sums levels spell_labels tree_over wrong_tree label_at put_label renew renew_above build none_free appended append visit depth_in label_of_run L.add cannot_hold wrong_needed same_item not_due judge_fold enter Fold.merged still_needed laid commit_leaves inquired committed other_label same_label
table = (refl, refl, refl, refl, refl, refl, refl, refl, refl, refl, refl, refl, refl, refl, refl, refl, refl, refl, refl, refl, refl, refl, refl, refl, refl, refl, refl)
