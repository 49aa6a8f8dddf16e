-- A session on bytes in which a byte limit is met: 128 items against four. Ours has the list limit 128, so that L is 0: 128 × 2^0 is at least 128. The opening is cut
-- short, and one take after it is not enough: L + 1 is not owed there (SPEC 12.6). A second take comes to the end. One answer is by the former rule (SPEC 6.10).
use Rattle.std.specs.Prelude.{◌≡◌, true, false, List, [], ◌∷◌, ◌++◌, ℕ, zero, suc, ◌+◌, replicate}
use Rattle.message.specs.Meaning.{write_message}
use Rattle.theory.specs.Rounds.{to_last, Cut}
use Rattle.label.specs.Label.{empty}
use Rattle.table.specs.Table.{Table, items}
use Rattle.limit.specs.Limit.{Limit, unlimited, bytes, exceeds}
use Rattle.ends.specs.Opener.{Lent, first_query}
use Rattle.ends.specs.Demand.{Place}
use Rattle.ends.specs.Mixed.{AnyTake, opening_within}
use Rattle.ends.specs.Instance.{starting, two}
use Rattle.rounds.specs.Mixed.{after, Asked, InRow, AllWhole}

-- ---- the two ends

-- the id 01, i and zeros
abbrev pub id : ℕ → List ℕ
id i = 0x01 ∷ i ∷ replicate 30 0

-- n of them, from i on
unfoldable pub ids_from : ℕ → ℕ → List ℕ
ids_from i zero = []
ids_from i (suc n) = id i ++ ids_from (i + 1) n

-- Both have the item 01 05; theirs alone are 02, 03 and 04, all later.
abbrev pub ours : Table
ours = record { times = replicate 128 5; ids = ids_from 0 128 }

abbrev pub theirs : Table
theirs = record { times = 5 ∷ 7 ∷ 7 ∷ 7 ∷ []; ids = id 5 ++ (starting 0x02 ++ (starting 0x03 ++ starting 0x04)) }

abbrev pub long : Cut
long = record { parts = 2; limit = 128; odd = to_last }

abbrev pub lent : Lent
lent = record { session = record { marked = 0; needed = 0; done = false; label = empty }; marks = replicate 128 0xEE; needed = []; out = replicate 4096 0xEE }

-- ---- the messages

-- The whole range with all ids has 4,102 bytes. 127 ids are kept, up to 01 7F, and the fingerprint of the last item: 4,090 bytes.
abbrev pub query₁ : List ℕ
query₁ =
    0x61
    ∷ 0x06 ∷ 0x02 ∷ 0x01 ∷ 0x7F ∷ 0x02 ∷ 0x7F ∷ (ids_from 0 127
    ++ (0x00 ∷ 0x00 ∷ 0x01 ∷ 0x1C ∷ 0x73 ∷ 0x4A ∷ 0x0C ∷ 0xF1 ∷ 0x88 ∷ 0x26 ∷ 0xCC ∷ 0x4F ∷ 0x0B ∷ 0xA6 ∷ 0x47 ∷ 0x99 ∷ 0x5D ∷ 0xA3 ∷ 0xD5
    ∷ []))

-- The id 01 05, and behind 01 7F two parts: up to time 7 and the prefix 04 the fingerprint of 02 and 03, then that of 04. This answer was cut by the former rule.
abbrev pub reply₁ : List ℕ
reply₁ =
    0x61
    ∷ 0x06 ∷ 0x02 ∷ 0x01 ∷ 0x7F ∷ 0x02 ∷ 0x01 ∷ (id 5
    ++ (0x03 ∷ 0x01 ∷ 0x04 ∷ 0x01 ∷ 0xD2 ∷ 0x7C ∷ 0x48 ∷ 0x77 ∷ 0x95 ∷ 0x63 ∷ 0xAE ∷ 0x9B ∷ 0x8F ∷ 0x7B ∷ 0xFC ∷ 0x1B ∷ 0xA0 ∷ 0x54 ∷ 0x62 ∷ 0xC8
    ∷ 0x00 ∷ 0x00 ∷ 0x01 ∷ 0x1D ∷ 0x62 ∷ 0xD1 ∷ 0x52 ∷ 0x2A ∷ 0x9E ∷ 0xB2 ∷ 0x78 ∷ 0xE2 ∷ 0xC8 ∷ 0xE4 ∷ 0xC8 ∷ 0x56 ∷ 0x60 ∷ 0xE2 ∷ 0xAC
    ∷ []))

-- The ids of these two ranges: 01 7F, and none.
abbrev pub query₂ : List ℕ
query₂ = 0x61 ∷ 0x06 ∷ 0x02 ∷ 0x01 ∷ 0x7F ∷ 0x00 ∷ 0x03 ∷ 0x01 ∷ 0x04 ∷ 0x02 ∷ 0x01 ∷ (id 0x7F ++ (0x00 ∷ 0x00 ∷ 0x02 ∷ 0x00 ∷ []))

abbrev pub reply₂ : List ℕ
reply₂ =
    0x61 ∷ 0x06 ∷ 0x02 ∷ 0x01 ∷ 0x7F ∷ 0x00 ∷ 0x03 ∷ 0x01 ∷ 0x04 ∷ 0x02 ∷ 0x02 ∷ (starting 0x02 ++ (starting 0x03
    ++ (0x00 ∷ 0x00 ∷ 0x02 ∷ 0x01 ∷ starting 0x04)))

-- ---- the takes

abbrev pub limit : Limit
limit = bytes 4096

-- without a limit, and with one again
abbrev pub take₁ : AnyTake
take₁ = record { handed = record { query = query₁; reply = reply₁; out = replicate 47 0xDD; behind = [] }; table = ours; limit = unlimited; odd = to_last }

abbrev pub take₂ : AnyTake
take₂ = record { handed = record { query = query₂; reply = reply₂; out = []; behind = replicate 96 0xCC }; table = ours; limit = limit; odd = to_last }

abbrev pub place₁ : Place
place₁ = after ours theirs long two (opening_within limit ours long lent) take₁

abbrev pub place₂ : Place
place₂ = after ours theirs long two place₁ take₂

abbrev pub AskedUpTo : Place → Type 0
AskedUpTo p = Asked ours theirs long two 0 limit lent 4090 p

-- `Demand3Mixed` speaks of the first take. The opening was cut short, and the session is not done.
abbrev pub First : Type 0
First =
    (h : AskedUpTo place₁)
    × InRow ours theirs long two 0 limit h
    × (exceeds limit (write_message (first_query long (items ours))) ≡ true)
    × (place₁.session.done ≡ false)

-- It speaks of both, and the second is a row for which L + 1 is owed.
abbrev pub Second : Type 0
Second = (h : AskedUpTo place₂) × InRow ours theirs long two 0 limit h × AllWhole ours theirs long two 0 limit h

-- They come to this: all of ours but 01 05 are marked, 02, 03 and 04 are needed.
abbrev pub last : Place
last = record {
  session = record { marked = 127; needed = 3; done = true; label = record { sum = 2080896; count = 128 } };
  marks = replicate 5 1 ++ (0 ∷ replicate 122 1);
  needed = starting 0x02 ++ (starting 0x03 ++ starting 0x04);
  sent = query₂ ∷ query₁ ∷ [];
  handed = (query₂, reply₂) ∷ (query₁, reply₁) ∷ [];
}

abbrev pub ComesTo : Type 0
ComesTo = place₂ ≡ last
