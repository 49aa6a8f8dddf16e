-- For contracts of private functions alone.
use Rattle.std.specs.Prelude.{ℕ, ◌≡◌, List, [], ◌∷◌, ◌++◌}
use Rattle.message.specs.Reader.{read}
use Rattle.message.specs.Message.{Payload, Range, read_message}
use Rattle.text.specs.Text.{space, newline, mode_field, payload_field}

-- a field and the space behind it
unfoldable pub spaced : List ℕ → List ℕ
spaced t = t ++ (space ∷ [])

-- the last two fields and the end of the line
unfoldable pub payload_fields : Payload → List ℕ
payload_fields p = mode_field p ++ (space ∷ (payload_field p ++ (newline ∷ [])))

-- a message that can be read
abbrev pub Readable : List ℕ → Type 0
Readable m = (rs : List Range) × (read_message m ≡ read rs [])
