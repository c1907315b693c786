-- How a text is read as a name.
-- slots f: what stands at each place of a name: a byte of the prefix, a digit at d, any of the 29 at e, any of the 29 as the check character.
-- fits s b: whether byte b may stand in slot s.
-- counted s b n: the number read so far, n, with byte b in slot s behind it.
-- walked i n ss t: the bytes of t against the slots from place i on, with n read so far: the number, or the first byte that does not fit.
-- closes check t: the last byte of t is the check character of those before it, where there is one.
-- closed check t r: where the bytes gave a number, the check character is compared last.
-- reads f t: the number of the name t, or why t is no name: first its length, then its bytes from the left, then its check character.
use Rattle.std.specs.Prelude.{ℕ, ◌+◌, ◌-◌, ◌*◌, Bool, true, false, cond, List, [], ◌∷◌, ◌++◌, map, length, take, Ok, Err, Result, ◌==◌, slice_index}
use Rattle.names.specs.Alphabet.{value_of, is_of_29}
use Rattle.names.specs.Check.{check_char}
use Rattle.names.specs.Forms.{Form, digit}
use Rattle.names.specs.declared.fault.NameFault.{NameFault}
use Rattle.names.specs.declared.fault.NameFault.TheVariants.{Length, Byte, Check}
use Rattle.names.specs.declared.slot.Slot.{Slot}
use Rattle.names.specs.declared.slot.Slot.TheVariants.{Fixed, Digit, Letter, Closing}

abbrev pub position : ℕ → Slot
position m = cond (m == 100) Digit Letter

abbrev pub last_slot : Bool → List Slot
last_slot true = Closing ∷ []
last_slot false = []

abbrev pub slots : Form → List Slot
slots f = map Fixed f.prefix ++ (map position f.mask ++ last_slot f.check)

abbrev pub fits : Slot → ℕ → Bool
fits (Fixed p) b = b == p
fits Digit b = digit b
fits Letter b = is_of_29 b
fits Closing b = is_of_29 b

abbrev pub counted : Slot → ℕ → ℕ → ℕ
counted (Fixed p) b n = n
counted Digit b n = n * 10 + value_of b
counted Letter b n = n * 29 + value_of b
counted Closing b n = n

abbrev pub walked : ℕ → ℕ → List Slot → List ℕ → Result ℕ NameFault
walked i n [] t = Ok n
walked i n (s ∷ ss) [] = Ok n
walked i n (s ∷ ss) (b ∷ bs) = cond (fits s b) (walked (i + 1) (counted s b n) ss bs) (Err (Byte i))

abbrev pub closes : Bool → List ℕ → Bool
closes true t = check_char (take (length t - 1) t) == slice_index t (length t - 1)
closes false t = true

abbrev pub closed : Bool → List ℕ → Result ℕ NameFault → Result ℕ NameFault
closed check t (Ok n) = cond (closes check t) (Ok n) (Err (Check (length t - 1)))
closed check t (Err e) = Err e

abbrev pub reads : Form → List ℕ → Result ℕ NameFault
reads f t = cond (length t == length (slots f)) (closed f.check t (walked 0 0 (slots f) t)) (Err (Length (length t)))
