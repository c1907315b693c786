-- The check character.
-- weighted p t: the sum of place times value over the bytes of t, the first standing at place p.
-- check_char t: the character whose value is that sum, places counted from 1, modulo 29.
use Rattle.std.specs.Prelude.{ℕ, ◌+◌, ◌*◌, ◌%◌, List, [], ◌∷◌}
use Rattle.names.specs.Alphabet.{char_of, value_of}

abbrev pub weighted : ℕ → List ℕ → ℕ
weighted p [] = 0
weighted p (b ∷ bs) = p * value_of b + weighted (p + 1) bs

abbrev pub check_char : List ℕ → ℕ
check_char t = char_of (weighted 1 t % 29)
