-- with_spaces: texts, one space between two
-- typed: the line that a command is typed as
-- Spelt: a line is a command typed out; a queue of 0 seconds may be typed with `now`
-- Fair: the parts of a command are what its form takes
-- Reading, Opened: what a line that is read is, of an open and of a new session: so typed, with fair parts, on at most 120 bytes
use Rattle.std.specs.Prelude.{◌≡◌, ℕ, ◌^◌, ◌<◌, ◌≤◌, ◌⊎◌, List, [], ◌∷◌, ◌++◌, length, codes, decimal}
use Rattle.commands.specs.Forms.{Said, mint, hold_set, hold_release, queue, tick, bind_set, bind_purge, fetch, validate}
use Rattle.commands.specs.Words.{pick, elements}
use Rattle.texts.specs.Pieces.{upto}

-- a space before each text
abbrev pub spaces_before : List (List ℕ) → List ℕ
spaces_before [] = []
spaces_before (text ∷ texts) = 32 ∷ (text ++ spaces_before texts)

abbrev pub with_spaces : List (List ℕ) → List ℕ
with_spaces [] = []
with_spaces (text ∷ texts) = text ++ spaces_before texts

abbrev pub typed : Said → List ℕ
typed (mint n) = with_spaces (codes "mint" ∷ decimal n ∷ [])
typed (hold_set name) = with_spaces (codes "hold" ∷ codes "set" ∷ name ∷ [])
typed (hold_release name) = with_spaces (codes "hold" ∷ codes "release" ∷ name ∷ [])
typed (queue name seconds) = with_spaces (codes "queue" ∷ decimal seconds ∷ name ∷ [])
typed (tick second) = with_spaces (codes "tick" ∷ decimal second ∷ [])
typed (bind_set name word element text) = with_spaces (codes "bind" ∷ codes "set" ∷ name ∷ word ∷ text ∷ [])
typed (bind_purge name word element) = with_spaces (codes "bind" ∷ codes "purge" ∷ name ∷ word ∷ [])
typed (fetch name word element) = with_spaces (codes "fetch" ∷ name ∷ word ∷ [])
typed (validate name) = with_spaces (codes "validate" ∷ name ∷ [])

abbrev pub Spelt : List ℕ → Said → Type 0
Spelt line (mint n) = line ≡ typed (mint n)
Spelt line (hold_set name) = line ≡ typed (hold_set name)
Spelt line (hold_release name) = line ≡ typed (hold_release name)
Spelt line (queue name seconds) = (line ≡ typed (queue name seconds)) ⊎ ((seconds ≡ 0) × (line ≡ with_spaces (codes "queue" ∷ codes "now" ∷ name ∷ [])))
Spelt line (tick second) = line ≡ typed (tick second)
Spelt line (bind_set name word element text) = (line ≡ typed (bind_set name word element text)) × (element ≡ pick elements word)
Spelt line (bind_purge name word element) = (line ≡ typed (bind_purge name word element)) × (element ≡ pick elements word)
Spelt line (fetch name word element) = (line ≡ typed (fetch name word element)) × (element ≡ pick elements word)
Spelt line (validate name) = line ≡ typed (validate name)

-- a word is not empty and has no space in it
abbrev pub Worded : List ℕ → Type 0
Worded text = (0 < length text) × (upto 32 text ≡ text)

abbrev pub Fair : Said → Type 0
Fair (mint n) = (1 ≤ n) × (n ≤ 100)
Fair (hold_set name) = Worded name
Fair (hold_release name) = Worded name
Fair (queue name seconds) = Worded name × (seconds < 10 ^ 13)
Fair (tick second) = second < 10 ^ 13
Fair (bind_set name word element text) = Worded name × Worded word
Fair (bind_purge name word element) = Worded name × Worded word
Fair (fetch name word element) = Worded name × Worded word
Fair (validate name) = Worded name

pub record Reading (line : List ℕ) (x : Said) : Type 0 where
  pub spelt : Spelt line x
  pub fair : Fair x
  pub short : length line ≤ 120

pub record Opened (line template : List ℕ) : Type 0 where
  pub spelt : line ≡ with_spaces (codes "template" ∷ template ∷ [])
  pub fair : Worded template
  pub short : length line ≤ 120
