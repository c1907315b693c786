-- The names of a template, by number.
-- base m: how many characters a mask position takes: 10 at d, 29 at e.
-- total mask: how many numbers the positions count.
-- digits mask n: a character for each position, n in mixed base, the last position counting ones.
-- body f n: prefix and positions of name number n, without its check character.
-- ended check t: the text t, with its check character behind it where there is one.
-- with_parts prefix mask check: a form of these parts; its letter plays no part in names.
-- form_from p: the form of the parts that the code keeps.
-- name_of f n: name number n of a template; empty from the total on.
-- Example: under the prefix 13030/x with mask ded and a check character, the total is 2900 and name 299 is 13030/x109j.
use Rattle.std.specs.Prelude.{ℕ, ◌*◌, ◌/◌, ◌%◌, Bool, true, false, cond, List, [], ◌∷◌, ◌++◌, ◌==◌, nat_lt}
use Rattle.names.specs.Alphabet.{char_of}
use Rattle.names.specs.Check.{check_char}
use Rattle.names.specs.Forms.{Form}
use Rattle.names.specs.declared.parts.Parts.{Parts}

abbrev pub base : ℕ → ℕ
base m = cond (m == 100) 10 29

abbrev pub total : List ℕ → ℕ
total [] = 1
total (m ∷ ms) = base m * total ms

abbrev pub digits : List ℕ → ℕ → List ℕ
digits [] n = []
digits (m ∷ ms) n = char_of (n / total ms) ∷ digits ms (n % total ms)

abbrev pub with_parts : List ℕ → List ℕ → Bool → Form
with_parts prefix mask check = record { prefix = prefix; letter = 0; mask = mask; check = check }

abbrev pub form_from : Parts → Form
form_from p = with_parts p.prefix.now p.mask.now p.check

abbrev pub body : Form → ℕ → List ℕ
body f n = f.prefix ++ digits f.mask n

abbrev pub ended : Bool → List ℕ → List ℕ
ended true t = t ++ check_char t ∷ []
ended false t = t

abbrev pub name_of : Form → ℕ → List ℕ
name_of f n = cond (nat_lt n (total f.mask)) (ended f.check (body f n)) []
