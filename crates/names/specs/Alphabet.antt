-- The 29 characters and their values.
-- alphabet: the 29 characters, each at the place of its value, counted from 0.
-- char_of v: the character of value v.
-- value_in b: the value of byte b, if it is one of the 29.
-- value_of b: the same, 0 for any other byte.
-- is_of_29 b: whether b is one of the 29.
use Rattle.std.specs.Prelude.{ℕ, ◌+◌, Bool, cond, List, [], ◌∷◌, is_some, Some, None, codes, Option, ◌==◌, slice_index}
use Rattle.std.specs.Option.{unwrap_or}

abbrev pub alphabet : List ℕ
alphabet = codes "0123456789bcdfghjkmnpqrstvwxz"

abbrev pub char_of : ℕ → ℕ
char_of v = slice_index alphabet v

-- the place of b in the list, counted from n
abbrev pub place_from : ℕ → ℕ → List ℕ → Option ℕ
place_from n b [] = None
place_from n b (x ∷ xs) = cond (b == x) (Some n) (place_from (n + 1) b xs)

abbrev pub value_in : ℕ → Option ℕ
value_in b = place_from 0 b alphabet

abbrev pub value_of : ℕ → ℕ
value_of b = unwrap_or (value_in b) 0

abbrev pub is_of_29 : ℕ → Bool
is_of_29 b = is_some (value_in b)
