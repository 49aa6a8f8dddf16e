-- SPEC 10, "The program showmsg": the text of a message, as the program prints it. Text is a list of ASCII codes.
use Rattle.std.specs.Prelude.{ℕ, zero, suc, ◌≡◌, ◌+◌, ◌/◌, ◌%◌, ◌≤◌, cond, ltb, length, take, drop}
use mathlib.Core.List.{List, [], ◌∷◌, ◌++◌, map, flatten}
use Rattle.message.specs.Reader.{Outcome, read, refused}
use Rattle.message.specs.Bound.{Bound, infinity, finite, prefix}
use Rattle.message.specs.Message.{Payload, skip, fingerprint, ids, Range, range, read_message}
use Rattle.message.specs.WellFormed.{Bytes}

abbrev pub space : ℕ
space = 0x20

abbrev pub newline : ℕ
newline = 0x0A

abbrev pub dash : ℕ
dash = 0x2D

-- SPEC 10.1: "More give the line `too long`"
unfoldable pub too_long : List ℕ
too_long = 0x74 ∷ 0x6F ∷ 0x6F ∷ space ∷ 0x6C ∷ 0x6F ∷ 0x6E ∷ 0x67 ∷ newline ∷ []

-- 0 to 9, then a to f
abbrev pub digit : ℕ → ℕ
digit d = cond (ltb d 10) (0x30 + d) (0x57 + d)

-- the decimal digits of n, the fewest, f of them at most
unfoldable pub decimal_up_to : ℕ → ℕ → List ℕ
decimal_up_to zero n = []
decimal_up_to (suc f) n = cond (ltb n 10) (digit n ∷ []) (decimal_up_to f (n / 10) ++ (digit (n % 10) ∷ []))

-- twenty hold every value below 2^64
unfoldable pub decimal : ℕ → List ℕ
decimal = decimal_up_to 20

-- SPEC 10.2: "in lower-case hex"
unfoldable pub hex : List ℕ → List ℕ
hex [] = []
hex (b ∷ s) = digit (b / 16) ∷ digit (b % 16) ∷ hex s

-- SPEC 10.2: "the upper time or `inf`"
unfoldable pub time_field : Bound → List ℕ
time_field infinity = 0x69 ∷ 0x6E ∷ 0x66 ∷ []
time_field (finite t p) = decimal t

-- SPEC 10.2: "the prefix in lower-case hex or `-`"
unfoldable pub prefix_field : List ℕ → List ℕ
prefix_field [] = dash ∷ []
prefix_field (b ∷ p) = hex (b ∷ p)

-- SPEC 10.2: "`skip`, `fingerprint` or `ids`"
abbrev pub mode_field : Payload → List ℕ
mode_field skip = 0x73 ∷ 0x6B ∷ 0x69 ∷ 0x70 ∷ []
mode_field (fingerprint f) = 0x66 ∷ 0x69 ∷ 0x6E ∷ 0x67 ∷ 0x65 ∷ 0x72 ∷ 0x70 ∷ 0x72 ∷ 0x69 ∷ 0x6E ∷ 0x74 ∷ []
mode_field (ids l) = 0x69 ∷ 0x64 ∷ 0x73 ∷ []

-- SPEC 10.2: "then `-`, 32 hex digits or the count"
unfoldable pub payload_field : Payload → List ℕ
payload_field skip = dash ∷ []
payload_field (fingerprint f) = hex f
payload_field (ids l) = decimal (length l)

-- SPEC 10.2: "with one space between fields"
unfoldable pub line : Range → List ℕ
line (range u p) = time_field u ++ (space ∷ (prefix_field (prefix u) ++ (space ∷ (mode_field p ++ (space ∷ (payload_field p ++ (newline ∷ [])))))))

-- SPEC 10.3: "A refusal prints only the line `refused`, one space and its number."
unfoldable pub refusal_line : ℕ → List ℕ
refusal_line n = 0x72 ∷ 0x65 ∷ 0x66 ∷ 0x75 ∷ 0x73 ∷ 0x65 ∷ 0x64 ∷ space ∷ (decimal n ++ (newline ∷ []))

-- SPEC 10.2: "It prints a line for each written range"
unfoldable pub lines : List Range → List ℕ
lines rs = flatten (map line rs)

-- for a message that is not too long, by what reading it comes to
abbrev pub printed : Outcome (List Range) → List ℕ
printed (read rs rest) = lines rs
printed (refused k) = refusal_line k

-- All that is printed for these bytes. SPEC 10.1: "The program reads a message of at most 65,536 bytes": `too long` comes before any refusal.
unfoldable pub shown : List ℕ → List ℕ
shown m = cond (ltb 65536 (length m)) too_long (printed (read_message m))

-- ---- in a buffer

-- room for every text: no range has more than ten bytes of text for each of its own, and a skip of three bytes can have 30
abbrev pub room : ℕ
room = 655360

abbrev pub ShownFits : Type 0
ShownFits = (m : List ℕ) → Bytes m → length (shown m) ≤ room

-- what `show` writes at the start of `out`: nothing where `out` has less room
unfoldable pub shown_in : List ℕ → List ℕ → List ℕ
shown_in out m = cond (ltb (length out) room) [] (shown m)

-- a text written at the start of a buffer that has room for it
unfoldable pub put : List ℕ → List ℕ → List ℕ
put t out = t ++ drop (length t) out

-- `&out[..n]` is in bounds and has n bytes
abbrev pub IsPrefixLen : ℕ → List ℕ → Type 0
IsPrefixLen n out = (n ≤ length out) × (n ≡ length (take n out))
