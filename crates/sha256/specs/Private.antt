-- What the contracts of the crate's private functions cite beside the standard. Assumes nothing.
use Rattle.std.specs.Prelude.{ℕ, ◌*◌, ◌/◌, List, length, drop, slice_index}
use Rattle.sha256.specs.Fips180.{Value, pad}

-- the code's eight words as a value of the standard
abbrev pub value_of : List ℕ → Value
value_of s =
    record { a = slice_index s 0; b = slice_index s 1; c = slice_index s 2; d = slice_index s 3; e = slice_index s 4; f = slice_index s 5; g = slice_index s 6; h = slice_index s 7 }

-- the padded message behind the whole blocks of m
unfoldable pub rest : List ℕ → List ℕ
rest m = drop (length m / 64 * 64) (pad m)
