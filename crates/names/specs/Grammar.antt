-- What a template is, written without the reader, and what a reading owes to it.
-- Grammatical: the parts of a form are those of a template; Is: a text is the template of a form; Begins: a text is the beginning of a template
-- Wrong: a byte is the first that no template has after the bytes before it; Unfinished: a text is the beginning of a template and no template
-- Within: where in a template the bytes before a fault end; Refused: what a refusal says of a text
-- Exact: an answer of a reading is the one that the grammar gives
use Rattle.std.specs.Prelude.{◌≡◌, ℕ, ◌+◌, ◌<◌, ◌≤◌, Bool, true, not, List, [], ◌∷◌, ◌++◌, length, take, Ok, Err, Result, ◌==◌}
use Rattle.names.specs.declared.fault.TemplateFault.{TemplateFault}
use Rattle.names.specs.declared.fault.TemplateFault.TheVariants.{Naan, Shoulder, Letter, Mask, Early}
use Rattle.names.specs.Alphabet.{is_of_29}
use Rattle.names.specs.Forms.{Form, spelled, digit, order, all_of, are_positions}

-- five digits, a slash and a shoulder of 1 to 13 of the 29 before the dot; r or s; a mask of 1 to 8 positions d or e
pub record Grammatical (f : Form) : Type 0 where
  pub naan : List ℕ
  pub shoulder : List ℕ
  pub prefix_is : f.prefix ≡ naan ++ (47 ∷ shoulder)
  pub naan_long : length naan ≡ 5
  pub naan_of : all_of digit naan ≡ true
  pub shoulder_some : 1 ≤ length shoulder
  pub shoulder_few : length shoulder ≤ 13
  pub shoulder_of : all_of is_of_29 shoulder ≡ true
  pub letter_is : order f.letter ≡ true
  pub mask_some : 1 ≤ length f.mask
  pub mask_few : length f.mask ≤ 8
  pub mask_of : are_positions f.mask ≡ true

abbrev pub Is : List ℕ → Form → Type 0
Is text f = (text ≡ spelled f) × Grammatical f

abbrev pub Begins : List ℕ → Type 0
Begins start = (rest : List ℕ) × (f : Form) × Is (start ++ rest) f

pub record Wrong (text : List ℕ) (at : ℕ) : Type 0 where
  pub inside : at < length text
  pub before : Begins (take at text)
  pub none : Begins (take (at + 1) text) → ⊥

pub record Unfinished (text : List ℕ) (at : ℕ) : Type 0 where
  pub length_is : at ≡ length text
  pub before : Begins text
  pub none : (f : Form) → Is text f → ⊥

abbrev pub no_dot : ℕ → Bool
no_dot b = not (b == 46)

-- among the first six bytes; later but before the dot; right after the dot; after the dot and the letter
abbrev pub Within : TemplateFault → List ℕ → Type 0
Within (Naan at) start = length start ≤ 5
Within (Shoulder at) start = (6 ≤ length start) × (all_of no_dot start ≡ true)
Within (Letter at) start = (front : List ℕ) × (start ≡ front ++ (46 ∷ []))
Within (Mask at) start = (front : List ℕ) × (letter : ℕ) × (mask : List ℕ) × (start ≡ front ++ (46 ∷ (letter ∷ mask)))
Within (Early at) start = Unit {0}

abbrev pub Refused : List ℕ → TemplateFault → Type 0
Refused text (Naan at) = Wrong text at × Within (Naan at) (take at text)
Refused text (Shoulder at) = Wrong text at × Within (Shoulder at) (take at text)
Refused text (Letter at) = Wrong text at × Within (Letter at) (take at text)
Refused text (Mask at) = Wrong text at × Within (Mask at) (take at text)
Refused text (Early at) = Unfinished text at

pub record Exact (text : List ℕ) (answer : Result Form TemplateFault) : Type 0 where
  pub sound : (f : Form) → answer ≡ Ok f → Is text f
  pub complete : (f : Form) → Is text f → answer ≡ Ok f
  pub first : (e : TemplateFault) → answer ≡ Err e → Refused text e
