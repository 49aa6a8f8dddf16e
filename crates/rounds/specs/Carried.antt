-- A session on bytes that was opened by the former rule (SPEC 4.5) and is carried on by SPEC 4.3: five items against seven, both ends with b = t = 2, so that L is 2:
-- 2 × 2^2 is at least 5. A row of L + 1 takes reaches across the change. In a second list the reply to the first query comes again, late.
use Rattle.std.specs.Prelude.{◌≡◌, true, false, List, [], ◌∷◌, ◌++◌, ℕ, length, replicate}
use Rattle.message.specs.Meaning.{write_message}
use Rattle.theory.specs.Rounds.{to_first, to_last, Cut}
use Rattle.label.specs.Label.{empty}
use Rattle.table.specs.Table.{Table, items}
use Rattle.limit.specs.Limit.{unlimited}
use Rattle.ends.specs.Lists.{same}
use Rattle.ends.specs.Responder.{answered_within}
use Rattle.ends.specs.Opener.{Lent, first_query}
use Rattle.ends.specs.Demand.{Place}
use Rattle.ends.specs.Mixed.{by, AnyTake, opening_within}
use Rattle.ends.specs.Instance.{starting, two}
use Rattle.rounds.specs.Mixed.{after, Asked, InRow, AllWhole}

-- ---- the two ends

-- Both have 04 and 05; ours alone are 01, 02 and 03, theirs alone are 06 to 0A.
abbrev pub ours : Table
ours = record {
  times = 1 ∷ 2 ∷ 2 ∷ 4 ∷ 5 ∷ [];
  ids = starting 0x01 ++ (starting 0x02 ++ (starting 0x03 ++ (starting 0x04 ++ starting 0x05)));
}

abbrev pub theirs : Table
theirs = record {
  times = 1 ∷ 1 ∷ 1 ∷ 3 ∷ 3 ∷ 4 ∷ 5 ∷ [];
  ids = starting 0x06 ++ (starting 0x07 ++ (starting 0x08 ++ (starting 0x09 ++ (starting 0x0A ++ (starting 0x04 ++ starting 0x05)))));
}

-- the opener's cut at the opening
abbrev pub former : Cut
former = by to_first two

abbrev pub lent : Lent
lent = record { session = record { marked = 0; needed = 0; done = false; label = empty }; marks = replicate 5 0xEE; needed = []; out = replicate 40 0xEE }

-- ---- the messages

-- By the former rule, parts of 3 and 2: up to time 4 the fingerprint of 01, 02 and 03, then that of 04 and 05.
abbrev pub query₁ : List ℕ
query₁ =
    0x61
    ∷ 0x05 ∷ 0x00 ∷ 0x01 ∷ 0x2B ∷ 0xA6 ∷ 0x2C ∷ 0x87 ∷ 0xDD ∷ 0x9C ∷ 0xAF ∷ 0x05 ∷ 0x61 ∷ 0x67 ∷ 0x35 ∷ 0xC0 ∷ 0x78 ∷ 0xFF ∷ 0x06 ∷ 0xF1
    ∷ 0x00 ∷ 0x00 ∷ 0x01 ∷ 0xC4 ∷ 0xCE ∷ 0x35 ∷ 0x4D ∷ 0x4C ∷ 0x30 ∷ 0xE4 ∷ 0xF7 ∷ 0x9F ∷ 0x4B ∷ 0x96 ∷ 0x92 ∷ 0x25 ∷ 0x81 ∷ 0x60 ∷ 0xC6
    ∷ []

-- By the former rule, too: up to time 3 the fingerprint of 06, 07 and 08, then up to time 4 that of 09 and 0A. Behind it all is equal.
abbrev pub reply₁ : List ℕ
reply₁ =
    0x61
    ∷ 0x04 ∷ 0x00 ∷ 0x01 ∷ 0x4F ∷ 0x37 ∷ 0x24 ∷ 0x1C ∷ 0x04 ∷ 0x2C ∷ 0x01 ∷ 0x53 ∷ 0xBF ∷ 0xFE ∷ 0x23 ∷ 0x8C ∷ 0xE9 ∷ 0xC5 ∷ 0xCD ∷ 0x5B
    ∷ 0x02 ∷ 0x00 ∷ 0x01 ∷ 0x05 ∷ 0x78 ∷ 0xB8 ∷ 0x95 ∷ 0x36 ∷ 0xF3 ∷ 0x8A ∷ 0x07 ∷ 0x04 ∷ 0x59 ∷ 0x0F ∷ 0x17 ∷ 0x9F ∷ 0xD3 ∷ 0x47 ∷ 0xF5
    ∷ []

-- From here on by 4.3. Of 01, 02 and 03 parts of 1 and 2: up to time 2 the fingerprint of 01, then up to time 3 that of 02 and 03. Up to time 4 there is none.
abbrev pub query₂ : List ℕ
query₂ =
    0x61
    ∷ 0x03 ∷ 0x00 ∷ 0x01 ∷ 0x2E ∷ 0x25 ∷ 0x50 ∷ 0x99 ∷ 0xD6 ∷ 0xD6 ∷ 0xBE ∷ 0xE3 ∷ 0x07 ∷ 0xC8 ∷ 0xE7 ∷ 0x07 ∷ 0x5A ∷ 0xCC ∷ 0x78 ∷ 0xF9
    ∷ 0x02 ∷ 0x00 ∷ 0x01 ∷ 0xD2 ∷ 0x7C ∷ 0x48 ∷ 0x77 ∷ 0x95 ∷ 0x63 ∷ 0xAE ∷ 0x9B ∷ 0x8F ∷ 0x7B ∷ 0xFC ∷ 0x1B ∷ 0xA0 ∷ 0x54 ∷ 0x62 ∷ 0xC8
    ∷ 0x02 ∷ 0x00 ∷ 0x02 ∷ 0x00
    ∷ []

-- Of 06, 07 and 08 parts of 1 and 2: up to time 1 and the prefix 07 the fingerprint of 06, then up to time 2 that of 07 and 08. No ids up to time 3, and 09 and 0A.
abbrev pub reply₂ : List ℕ
reply₂ =
    0x61
    ∷ 0x02 ∷ 0x01 ∷ 0x07 ∷ 0x01 ∷ 0xE8 ∷ 0xB4 ∷ 0x4E ∷ 0xA0 ∷ 0x38 ∷ 0xEA ∷ 0x5F ∷ 0x32 ∷ 0x89 ∷ 0x74 ∷ 0xFC ∷ 0x9D ∷ 0xF5 ∷ 0x76 ∷ 0x8E ∷ 0x17
    ∷ 0x02 ∷ 0x00 ∷ 0x01 ∷ 0x2C ∷ 0x28 ∷ 0xDD ∷ 0x33 ∷ 0x6C ∷ 0x75 ∷ 0xCF ∷ 0xE7 ∷ 0xC0 ∷ 0x67 ∷ 0x4F ∷ 0xF2 ∷ 0x46 ∷ 0xA0 ∷ 0xB6 ∷ 0x8A
    ∷ 0x02 ∷ 0x00 ∷ 0x02 ∷ 0x00
    ∷ 0x02 ∷ 0x00 ∷ 0x02 ∷ 0x02 ∷ (starting 0x09 ++ starting 0x0A)

-- The ids of the two ranges with fingerprints: 01, and none.
abbrev pub query₃ : List ℕ
query₃ = 0x61 ∷ 0x02 ∷ 0x01 ∷ 0x07 ∷ 0x02 ∷ 0x01 ∷ (starting 0x01 ++ (0x02 ∷ 0x00 ∷ 0x02 ∷ 0x00 ∷ []))

abbrev pub reply₃ : List ℕ
reply₃ = 0x61 ∷ 0x02 ∷ 0x01 ∷ 0x07 ∷ 0x02 ∷ 0x01 ∷ (starting 0x06 ++ (0x02 ∷ 0x00 ∷ 0x02 ∷ 0x02 ∷ (starting 0x07 ++ starting 0x08)))

-- By 4.3 the first query and its reply would be others.
abbrev pub OnlyFormer : Type 0
OnlyFormer =
    (same (write_message (first_query two (items ours))) query₁ ≡ false)
    × (same (answered_within unlimited theirs two query₁ (replicate 40 0)).lent reply₁ ≡ false)

-- ---- the takes, all by 4.3

abbrev pub carried : List ℕ → List ℕ → List ℕ → List ℕ → AnyTake
carried query reply out behind = record { handed = record { query = query; reply = reply; out = out; behind = behind }; table = ours; limit = unlimited; odd = to_last }

abbrev pub take₁ : AnyTake
take₁ = carried query₁ reply₁ (replicate 43 0xDD) []

abbrev pub take₂ : AnyTake
take₂ = carried query₂ reply₂ (replicate 42 0xDD) (replicate 64 0xCC)

abbrev pub take₃ : AnyTake
take₃ = carried query₃ reply₃ [] (replicate 96 0xCC)

-- ---- three takes in a row

abbrev pub place₁ : Place
place₁ = after ours theirs former two (opening_within unlimited ours former lent) take₁

abbrev pub place₂ : Place
place₂ = after ours theirs former two place₁ take₂

abbrev pub place₃ : Place
place₃ = after ours theirs former two place₂ take₃

abbrev pub AskedUpTo : Place → Type 0
AskedUpTo p = Asked ours theirs former two 2 unlimited lent (length query₁) p

-- `Demand3Mixed` speaks of them, and they are a row for which L + 1 is owed. L takes are not enough.
abbrev pub AcrossTheChange : Type 0
AcrossTheChange =
    (h : AskedUpTo place₃)
    × InRow ours theirs former two 2 unlimited h
    × AllWhole ours theirs former two 2 unlimited h
    × (place₂.session.done ≡ false)

-- ---- the first reply comes again

abbrev pub late₁ : Place
late₁ = after ours theirs former two place₁ take₁

abbrev pub late₂ : Place
late₂ = after ours theirs former two late₁ take₂

abbrev pub late₃ : Place
late₃ = after ours theirs former two late₂ take₃

-- ---- what they come to

-- 01, 02 and 03 are marked, 06 to 0A are needed
abbrev pub last : List (List ℕ) → List (List ℕ × List ℕ) → Place
last sent handed = record {
  session = record { marked = 3; needed = 5; done = true; label = record { sum = 15; count = 5 } };
  marks = 1 ∷ 1 ∷ 1 ∷ 0 ∷ 0 ∷ [];
  needed = starting 0x06 ++ (starting 0x07 ++ (starting 0x08 ++ (starting 0x09 ++ starting 0x0A)));
  sent = sent;
  handed = handed;
}

abbrev pub ComesTo : Type 0
ComesTo = place₃ ≡ last (query₃ ∷ query₂ ∷ query₁ ∷ []) ((query₃, reply₃) ∷ (query₂, reply₂) ∷ (query₁, reply₁) ∷ [])

abbrev pub LateComesTo : Type 0
LateComesTo =
    late₃ ≡ last (query₃ ∷ query₂ ∷ query₂ ∷ query₁ ∷ []) ((query₃, reply₃) ∷ (query₂, reply₂) ∷ (query₁, reply₁) ∷ (query₁, reply₁) ∷ [])
