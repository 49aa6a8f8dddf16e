-- All that `UnionAfterCommits` asks for can be met, on bytes.
use mathlib.Core.Path.{refl, subst}
use mathlib.Core.List.Memᴰ
use mathlib.Core.List.{[], ◌∷◌, flatten, zip_with}
use mathlib.Core.Logic.{inl, inr, ⊎_elim}
use lib.ListN.{length, replicate}
use Rattle.message.specs.Reader.{read_bytes}
use Rattle.message.specs.Varint.{read_digits, read_varint, digits_before, spell_varint}
use Rattle.message.specs.Code.{ids_in}
use Rattle.message.specs.Bound.{big_endian, id_space, key, read_prefix, read_coded, read_bound, spell_prefix, spell_bound}
use Rattle.message.specs.Message.{read_ids, read_of_mode, read_payload, read_range, read_ranges, read_message, spell_payload, spell_range, spell_ranges, spell_message}
use Rattle.message.specs.Meaning.{is_skip, prepend, tidy, write_message}
use Rattle.theory.specs.Rounds.{to_last}
use Rattle.label.specs.Label.{little_endian, total, label_of, same_label}
use Rattle.table.specs.Lists.{keep, every, rising}
use Rattle.table.specs.Table.{key_of, items, wrong_size, not_rising, within}
use Rattle.cutting.specs.Cutting.{outside_limits, cut}
use Rattle.limit.specs.Limit.{unlimited, below_least, limited, sent_message}
use Rattle.ends.specs.Lists.{some, same, overwrite}
use Rattle.ends.specs.Calls.{each_range}
use Rattle.ends.specs.Responder as responder
use Rattle.ends.specs.Responder.{treat, other_version, answered_within}
use Rattle.ends.specs.Opener.{wrong_buffers, wrong_contents, other_label, first_query, opening_leaves, begin, opened_within, next_query, written, unlisted, marks_after, unowned, insert, needed_after, take_leaves, conclude, taken_within}
use Rattle.ends.specs.Takes.{none, then_taken}
use Rattle.ends.specs.Mixed.{AnswersWithin}
use Rattle.ends.specs.Instance.{starting, ours, theirs, two, lent, query, reply, handed_with}
use Rattle.ends.proofs.Instance as ends
use Rattle.ends.proofs.Instance.{not-both, none_collides}
use Rattle.fold.specs.Fold.{cannot_hold, wrong_needed, same_item, not_due, judge_fold, enter, merged, still_needed, laid, commit_leaves, committed}
use Rattle.fold.specs.Commits.{State}
use Rattle.fold.specs.Union.{Union}
use Rattle.fold.specs.Instance.{last, commits, AskedHere, DeliveredHere, ComesTo, IsUnion}
use Rattle.fold.proofs.Union.{union_after_commits}

-- what the commits meet, and what they come to
record Met : Type 0 where
  asked : AskedHere
  delivered : DeliveredHere
  comes_to : ComesTo

met : Met
unfolding read_message read_ranges read_range read_bound read_coded read_prefix read_payload read_of_mode read_ids read_varint read_digits read_bytes key big_endian id_space write_message tidy prepend is_skip spell_message spell_ranges spell_range spell_bound spell_prefix spell_payload spell_varint digits_before flatten cut items ids_in zip_with keep every rising key_of wrong_size not_rising within outside_limits some same overwrite each_range treat responder.reply other_version answered_within wrong_buffers wrong_contents first_query opening_leaves begin opened_within next_query written unlisted marks_after unowned insert needed_after take_leaves conclude taken_within below_least limited sent_message cannot_hold wrong_needed same_item not_due judge_fold enter merged still_needed laid commit_leaves committed other_label same_label label_of total little_endian
met =
    let answers : AnswersWithin ours theirs two two unlimited to_last query reply = record { out = replicate 37 0; size = 37; unrefused = refl; written = refl } in
    record {
      asked = record {
        ours_bytes = (ends.asked).ours_bytes;
        theirs_bytes = (ends.asked).theirs_bytes;
        once = (ends.asked).once;
        opens = refl;
        takes = then_taken none (handed_with ours) 0 refl (Memᴰ.head refl) (λ e. refl, (unlimited, to_last, answers));
        done = refl;
        none_collides = none_collides ours theirs last query reply refl (starting 0x01 ∷ [], refl) (starting 0x02 ∷ [], refl);
        as_held = (λ m e. not-both e, (λ m e i z. z, (λ m e. not-both e, tt)));
      };
      delivered = λ d z. ⊎_elim (λ e. inr (inl (2, refl, Memᴰ.head e))) (λ y. absurd (Memᴰ.not-nil y)) (Memᴰ.cases_cons z);
      comes_to = refl;
    }

pub asked : AskedHere
asked = met.asked

pub delivered : DeliveredHere
delivered = met.delivered

pub comes_to : ComesTo
comes_to = met.comes_to

-- by the theorem, and not computed
pub is_union : IsUnion
is_union =
    subst (λ (s : State). Union ours theirs s.table) comes_to
    (union_after_commits ours theirs two two unlimited lent (length query) last commits asked delivered).0
