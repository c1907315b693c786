-- What a template is made of.
-- digit, order, place: the bytes of a NAAN, of the letter and of a mask
-- all_of: every byte is of one kind; are_positions: every byte is d or e
-- Form: a template by its parts; spelled: its text
-- Good: the lengths of a form's prefix and mask, and the bytes of its mask
use Rattle.std.specs.Prelude.{◌≡◌, ℕ, ◌≤◌, Bool, true, cond, ◌&&◌, ◌||◌, List, [], ◌∷◌, ◌++◌, length, ◌==◌, nat_le}

-- 0 to 9
abbrev pub digit : ℕ → Bool
digit b = nat_le 48 b && nat_le b 57

-- r or s
abbrev pub order : ℕ → Bool
order b = b == 114 || b == 115

-- d or e
abbrev pub place : ℕ → Bool
place b = b == 100 || b == 101

-- every byte of a text is of one kind
abbrev pub all_of : (ℕ → Bool) → List ℕ → Bool
all_of f [] = true
all_of f (b ∷ bs) = f b && all_of f bs

abbrev pub are_positions : List ℕ → Bool
are_positions mask = all_of place mask

-- prefix: the text before the dot; letter: r or s; mask: a byte d or e for each position; check: it ends in k
pub record Form : Type 0 where
  pub prefix : List ℕ
  pub letter : ℕ
  pub mask : List ℕ
  pub check : Bool

-- k, where the form has a check character
abbrev pub closing : Bool → List ℕ
closing check = cond check (107 ∷ []) []

abbrev pub spelled : Form → List ℕ
spelled f = f.prefix ++ (46 ∷ (f.letter ∷ (f.mask ++ closing f.check)))

pub record Good (f : Form) : Type 0 where
  pub prefix_some : 7 ≤ length f.prefix
  pub prefix_few : length f.prefix ≤ 19
  pub mask_some : 1 ≤ length f.mask
  pub mask_few : length f.mask ≤ 8
  pub mask_of : are_positions f.mask ≡ true
