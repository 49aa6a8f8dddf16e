-- A session on bytes of two rounds: three items against five, both ends with b = t = 2, so that L is 1: 2 × 2^1 is at least 3.
use Rattle.std.specs.Prelude.{◌≡◌, true, false, List, [], ◌∷◌, ◌++◌, ℕ, length, replicate}
use Rattle.label.specs.Label.{empty}
use Rattle.table.specs.Table.{Table}
use Rattle.ends.specs.Opener.{Lent}
use Rattle.ends.specs.Demand.{Take, Place, opening, run}
use Rattle.ends.specs.Instance.{Asked, starting, two}

-- Both have 02 and 03; ours alone is 01, theirs alone are 04, 05 and 06.
abbrev pub ours : Table
ours = record { times = 5 ∷ 5 ∷ 7 ∷ []; ids = starting 0x01 ++ (starting 0x02 ++ starting 0x03) }

abbrev pub theirs : Table
theirs = record {
  times = 4 ∷ 4 ∷ 4 ∷ 5 ∷ 7 ∷ [];
  ids = starting 0x04 ++ (starting 0x05 ++ (starting 0x06 ++ (starting 0x02 ++ starting 0x03)));
}

abbrev pub lent : Lent
lent = record { session = record { marked = 0; needed = 0; done = false; label = empty }; marks = replicate 3 0xEE; needed = []; out = replicate 40 0xEE }

-- Up to time 5 and the prefix 02 the fingerprint of 01, then that of 02 and 03.
abbrev pub query₁ : List ℕ
query₁ =
    0x61
    ∷ 0x06 ∷ 0x01 ∷ 0x02 ∷ 0x01 ∷ 0x2E ∷ 0x25 ∷ 0x50 ∷ 0x99 ∷ 0xD6 ∷ 0xD6 ∷ 0xBE ∷ 0xE3 ∷ 0x07 ∷ 0xC8 ∷ 0xE7 ∷ 0x07 ∷ 0x5A ∷ 0xCC ∷ 0x78 ∷ 0xF9
    ∷ 0x00 ∷ 0x00 ∷ 0x01 ∷ 0xD2 ∷ 0x7C ∷ 0x48 ∷ 0x77 ∷ 0x95 ∷ 0x63 ∷ 0xAE ∷ 0x9B ∷ 0x8F ∷ 0x7B ∷ 0xFC ∷ 0x1B ∷ 0xA0 ∷ 0x54 ∷ 0x62 ∷ 0xC8
    ∷ []

-- Up to time 4 and the prefix 05 the fingerprint of 04, then up to time 5 and the prefix 02 that of 05 and 06. Behind it all is equal.
abbrev pub reply₁ : List ℕ
reply₁ =
    0x61
    ∷ 0x05 ∷ 0x01 ∷ 0x05 ∷ 0x01 ∷ 0x1D ∷ 0x62 ∷ 0xD1 ∷ 0x52 ∷ 0x2A ∷ 0x9E ∷ 0xB2 ∷ 0x78 ∷ 0xE2 ∷ 0xC8 ∷ 0xE4 ∷ 0xC8 ∷ 0x56 ∷ 0x60 ∷ 0xE2 ∷ 0xAC
    ∷ 0x02 ∷ 0x01 ∷ 0x02 ∷ 0x01 ∷ 0x15 ∷ 0x58 ∷ 0x4E ∷ 0xD5 ∷ 0x4B ∷ 0x44 ∷ 0x97 ∷ 0xB5 ∷ 0xB6 ∷ 0xF4 ∷ 0xBB ∷ 0xCB ∷ 0x0A ∷ 0x2E ∷ 0x6D ∷ 0x24
    ∷ []

-- The ids of these two ranges: none, and 01.
abbrev pub query₂ : List ℕ
query₂ = 0x61 ∷ 0x05 ∷ 0x01 ∷ 0x05 ∷ 0x02 ∷ 0x00 ∷ 0x02 ∷ 0x01 ∷ 0x02 ∷ 0x02 ∷ 0x01 ∷ starting 0x01

abbrev pub reply₂ : List ℕ
reply₂ =
    0x61 ∷ 0x05 ∷ 0x01 ∷ 0x05 ∷ 0x02 ∷ 0x01 ∷ (starting 0x04 ++ (0x02 ∷ 0x01 ∷ 0x02 ∷ 0x02 ∷ 0x02 ∷ (starting 0x05 ++ starting 0x06)))

-- The first reply; any bytes, refused by 8; the first reply again, late; the second without room for its ids, refused by 11; and with room.
abbrev pub take₁ : Take
take₁ = record { query = query₁; reply = reply₁; out = replicate 100 0xDD; behind = [] }

abbrev pub take₂ : Take
take₂ = record { query = []; reply = 0x61 ∷ 0x80 ∷ []; out = []; behind = [] }

abbrev pub take₃ : Take
take₃ = record { query = query₁; reply = reply₁; out = replicate 90 0xDD; behind = replicate 32 0xCC }

abbrev pub take₄ : Take
take₄ = record { query = query₂; reply = reply₂; out = []; behind = replicate 64 0xCC }

abbrev pub take₅ : Take
take₅ = record { query = query₂; reply = reply₂; out = []; behind = replicate 128 0xCC }

abbrev pub takes : List Take
takes = take₁ ∷ take₂ ∷ take₃ ∷ take₄ ∷ take₅ ∷ []

-- `Demand3` speaks of them
abbrev pub AskedHere : Type 0
AskedHere = Asked ours theirs two two 1 lent (length query₁) takes

-- and they come to this: 01 is marked, 04, 05 and 06 are needed
abbrev pub last : Place
last = record {
  session = record { marked = 1; needed = 3; done = true; label = record { sum = 6; count = 3 } };
  marks = 1 ∷ 0 ∷ 0 ∷ [];
  needed = starting 0x04 ++ (starting 0x05 ++ starting 0x06);
  sent = query₂ ∷ query₂ ∷ query₁ ∷ [];
  handed = (query₂, reply₂) ∷ (query₁, reply₁) ∷ (query₁, reply₁) ∷ [];
}

abbrev pub ComesTo : Type 0
ComesTo = run ours theirs two two (opening ours two lent) takes ≡ last
