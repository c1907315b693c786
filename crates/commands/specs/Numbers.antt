-- number: the number that a word writes, of 1 to 13 digits and with no leading zero, 0 itself apart
-- count: how many names a mint is asked for, 1 to 100
-- delay: the seconds that a queue is asked for; `now` is 0
use Rattle.std.specs.Prelude.{ℕ, ◌+◌, ◌-◌, ◌*◌, Bool, cond, ◌&&◌, ◌||◌, List, [], ◌∷◌, length, Some, None, codes, Option, ◌==◌, nat_le, nat_lt, slice_index}
use Rattle.commands.specs.Words.{pick}

abbrev pub is_digit : ℕ → Bool
is_digit b = nat_le 48 b && nat_le b 57

-- the number that n and further digits write
abbrev pub digits_on : ℕ → List ℕ → Option ℕ
digits_on n [] = Some n
digits_on n (b ∷ bs) = cond (is_digit b) (digits_on (n * 10 + (b - 48)) bs) None

-- no word of 1 to 13 bytes, or one with a leading zero
abbrev pub misshapen : List ℕ → Bool
misshapen word = length word == 0 || (nat_lt 13 (length word) || (nat_lt 1 (length word) && slice_index word 0 == 48))

abbrev pub number : List ℕ → Option ℕ
number word = cond (misshapen word) None (digits_on 0 word)

abbrev pub from_1_to_100 : Option ℕ → Option ℕ
from_1_to_100 None = None
from_1_to_100 (Some n) = cond (nat_le 1 n && nat_le n 100) (Some n) None

abbrev pub count : List ℕ → Option ℕ
count word = from_1_to_100 (number word)

-- the words that stand for a delay and write no number
abbrev pub delays : List (List ℕ × ℕ)
delays = (codes "now", 0) ∷ []

abbrev pub or_else : Option ℕ → Option ℕ → Option ℕ
or_else (Some n) other = Some n
or_else None other = other

abbrev pub delay : List ℕ → Option ℕ
delay word = or_else (pick delays word) (number word)
