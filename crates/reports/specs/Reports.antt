-- Told: what a line of output tells
-- parts: the words of each line
-- line: a line's bytes: its words, one space between two, and byte 10 at the end
-- told: what the code's own value tells
use Rattle.std.specs.Prelude.{ℕ, List, [], ◌∷◌, ◌++◌, codes, decimal}
use Rattle.reports.specs.declared.Report.{Report}
use Rattle.reports.specs.declared.Report.TheVariants as report

pub data Told : Type 0 where
  template : List ℕ → ℕ → Told
  minted : List ℕ → Told
  clock : ℕ → Told
  held : List ℕ → Told
  released : List ℕ → Told
  queued : List ℕ → Told
  valid : List ℕ → Told
  bound : List ℕ → List ℕ → Told
  purged : List ℕ → List ℕ → Told
  fetched : List ℕ → List ℕ → List ℕ → Told
  refused : ℕ → ℕ → ℕ → Told
  tally : ℕ → ℕ → Told
  total : ℕ → Told

abbrev pub parts : Told → List (List ℕ)
parts (template text many) = codes "template" ∷ text ∷ decimal many ∷ []
parts (minted name) = codes "minted" ∷ name ∷ []
parts (clock second) = codes "clock" ∷ decimal second ∷ []
parts (held name) = codes "held" ∷ name ∷ []
parts (released name) = codes "released" ∷ name ∷ []
parts (queued name) = codes "queued" ∷ name ∷ []
parts (valid name) = codes "valid" ∷ name ∷ []
parts (bound name element) = codes "bound" ∷ name ∷ element ∷ []
parts (purged name element) = codes "purged" ∷ name ∷ element ∷ []
parts (fetched name element text) = codes "fetched" ∷ name ∷ element ∷ text ∷ []
parts (refused at number place) = codes "refused" ∷ decimal at ∷ decimal number ∷ decimal place ∷ []
parts (tally number many) = codes "tally" ∷ decimal number ∷ decimal many ∷ []
parts (total many) = codes "minted" ∷ decimal many ∷ []

-- what follows a word of a line
abbrev pub further : List (List ℕ) → List ℕ
further [] = 10 ∷ []
further (word ∷ words) = (32 ∷ word) ++ further words

abbrev pub spaced : List (List ℕ) → List ℕ
spaced [] = 10 ∷ []
spaced (word ∷ words) = word ++ further words

abbrev pub line : Told → List ℕ
line x = spaced (parts x)

abbrev pub told : Report → Told
told (report.Template text many) = template text.now many
told (report.Minted name) = minted name.now
told (report.Clock second) = clock second
told (report.Held name) = held name.now
told (report.Released name) = released name.now
told (report.Queued name) = queued name.now
told (report.Valid name) = valid name.now
told (report.Bound name element) = bound name.now element.now
told (report.Purged name element) = purged name.now element.now
told (report.Fetched name element text) = fetched name.now element.now text.now
told (report.Refused at refusal) = refused at refusal.number refusal.place
told (report.Tally number many) = tally number many
told (report.Total many) = total many
