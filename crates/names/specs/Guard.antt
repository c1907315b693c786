-- What names and readings promise each other.
-- Undo f: a name is read as its number, nothing else is read, no two numbers have one name.
-- Guard f: where names end in a check character, a name with one byte changed, or with two unequal bytes exchanged, is refused.
use Rattle.std.specs.Prelude.{◌≡◌, ℕ, ◌^◌, ◌<◌, ◌≤◌, true, false, List, [], length, is_ok, Ok, ◌≢◌, slice_index, slice_set}
use Rattle.names.specs.Forms.{Form}
use Rattle.names.specs.Naming.{total, name_of}
use Rattle.names.specs.Texts.{swapped}
use Rattle.names.specs.Validate.{reads}

pub record Undo (f : Form) : Type 0 where
  pub small : total f.mask ≤ 2 ^ 39
  -- below the total each number's name is read as that number; from it on the name is empty
  pub names : (n : ℕ) → n < total f.mask → reads f (name_of f n) ≡ Ok n
  pub nameless : (n : ℕ) → total f.mask ≤ n → name_of f n ≡ []
  pub short : (n : ℕ) → length (name_of f n) ≤ 28
  -- and nothing else is read as a number
  pub readings : (t : List ℕ) (n : ℕ) → reads f t ≡ Ok n → (n < total f.mask) × (t ≡ name_of f n)
  pub apart : (m n : ℕ) → m < total f.mask → n < total f.mask → name_of f m ≡ name_of f n → m ≡ n

pub record Guard (f : Form) : Type 0 where
  -- any byte, at any place, changed to any other
  pub changes : f.check ≡ true → (n i b : ℕ) → n < total f.mask → i < length (name_of f n) → (b ≢ slice_index (name_of f n) i) → is_ok (reads f (slice_set (name_of f n) i b)) ≡ false
  -- any two places, those of the prefix and of the check character too
  pub exchanges : f.check ≡ true → (n i j : ℕ) → n < total f.mask → i < length (name_of f n) → j < length (name_of f n) → (slice_index (name_of f n) i ≢ slice_index (name_of f n) j) → is_ok (reads f (swapped (name_of f n) i j)) ≡ false
