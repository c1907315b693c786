-- Texts of bytes.
use Rattle.std.specs.Prelude.{ℕ, List, slice_index, slice_set}
use Rattle.names.specs.declared.name.Name.{Name}

-- the bytes of a name
abbrev pub text_of : Name → List ℕ
text_of x = x.text

-- a text with the bytes at two places exchanged
abbrev pub swapped : List ℕ → ℕ → ℕ → List ℕ
swapped t i j = slice_set (slice_set t i (slice_index t j)) j (slice_index t i)
