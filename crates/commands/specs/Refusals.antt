-- Where a line is refused, written without the reader.
-- IsCommand, IsOpening: a line is a fair command, or a fair opening, typed out
-- Begins: some line that Is so begins with these words
-- Wrong: a word is the first that no line that Is so has after the words before it; Unfinished: the line's words begin one, and it is none
-- Refused: what a refusal says of a line
use Rattle.std.specs.Prelude.{◌≡◌, ℕ, ◌<◌, ◌≤◌, ◌⊎◌, List, [], ◌∷◌, ◌++◌, length, codes}
use Rattle.commands.specs.Forms.{Said}
use Rattle.commands.specs.Spelling.{with_spaces, Spelt, Fair, Worded}
use Rattle.commands.specs.Words.{Word, words, texts}
use Rattle.commands.specs.declared.fault.CommandFault.{CommandFault}
use Rattle.commands.specs.declared.fault.CommandFault.TheVariants.{Line}

abbrev pub IsCommand : List ℕ → Type 0
IsCommand line = (x : Said) × Spelt line x × Fair x

abbrev pub IsOpening : List ℕ → Type 0
IsOpening line = (template : List ℕ) × (line ≡ with_spaces (codes "template" ∷ template ∷ [])) × Worded template

abbrev pub Begins : (List ℕ → Type 0) → List (List ℕ) → Type 0
Begins Is first = (more : List (List ℕ)) × Is (with_spaces (first ++ more))

pub record Wrong (Is : List ℕ → Type 0) (line : List ℕ) (at : ℕ) : Type 0 where
  pub before : List Word
  pub word : Word
  pub after : List Word
  pub words_are : words 0 line ≡ before ++ (word ∷ after)
  pub place_is : at ≡ word.place
  pub begun : Begins Is (texts before)
  pub none : Begins Is (texts before ++ (word.text ∷ [])) → ⊥

pub record Unfinished (Is : List ℕ → Type 0) (line : List ℕ) (at : ℕ) : Type 0 where
  pub length_is : at ≡ length line
  pub begun : Begins Is (texts (words 0 line))
  pub none : Is line → ⊥

-- a line over 120 bytes is refused at 120; another at its first wrong word, or at its length
abbrev pub Refused : (List ℕ → Type 0) → List ℕ → CommandFault → Type 0
Refused Is line fault = (at : ℕ) × (fault ≡ Line at) × (((120 < length line) × (at ≡ 120)) ⊎ ((length line ≤ 120) × (Wrong Is line at ⊎ Unfinished Is line at)))
