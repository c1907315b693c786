-- Word: a word of a line, and the place where it begins, counted from 0
-- words: the words of a line; one space parts two words, so that an empty word stands before, after or between spaces that part no other
-- texts: their texts
-- pick: what a word stands for in a table of words, if it is one of them
-- heads, openings, turns, edits, elements: the words of the commands, and the element words
-- plain, all_plain: the bytes of a word, and of each of a table's words, are below 128
use Rattle.std.specs.Prelude.{ℕ, ◌+◌, Bool, true, cond, ◌&&◌, List, [], ◌∷◌, Some, None, codes, Option, ◌==◌, nat_lt}
use Rattle.commands.specs.declared.word.Edit.{Edit}
use Rattle.commands.specs.declared.word.Edit.TheVariants as edit
use Rattle.commands.specs.declared.word.Head.{Head}
use Rattle.commands.specs.declared.word.Head.TheVariants as head
use Rattle.commands.specs.declared.word.Opening.{Opening}
use Rattle.commands.specs.declared.word.Opening.TheVariants as opening
use Rattle.commands.specs.declared.word.Turn.{Turn}
use Rattle.commands.specs.declared.word.Turn.TheVariants as turn
use Rattle.std.specs.Str.{bytes_eq}
use Rattle.stores.specs.declared.text.Element.{Element}
use Rattle.stores.specs.declared.text.Element.TheVariants as element

pub record Word : Type 0 where
  pub place : ℕ
  pub text : List ℕ

-- a byte at a place, before the first of the words after it
abbrev pub onto : ℕ → ℕ → List Word → List Word
onto at b [] = []
onto at b (w ∷ ws) = record { place = at; text = b ∷ w.text } ∷ ws

-- the words of the bytes from a place on
abbrev pub words : ℕ → List ℕ → List Word
words at [] = record { place = at; text = [] } ∷ []
words at (b ∷ bs) = cond (b == 32) (record { place = at; text = [] } ∷ words (at + 1) bs) (onto at b (words (at + 1) bs))

abbrev pub texts : List Word → List (List ℕ)
texts [] = []
texts (w ∷ ws) = w.text ∷ texts ws

abbrev pub pick : {A : Type 0} → List (List ℕ × A) → List ℕ → Option A
pick [] word = None
pick (row ∷ rows) word = cond (bytes_eq word row.0) (Some row.1) (pick rows word)

abbrev pub heads : List (List ℕ × Head)
heads =
    (codes "mint", head.Mint) ∷
    (codes "hold", head.Hold) ∷
    (codes "queue", head.Queue) ∷
    (codes "tick", head.Tick) ∷
    (codes "bind", head.Bind) ∷
    (codes "fetch", head.Fetch) ∷
    (codes "validate", head.Validate) ∷
    []

-- the first word of an opening line
abbrev pub openings : List (List ℕ × Opening)
openings = (codes "template", opening.Template) ∷ []

-- after `hold`
abbrev pub turns : List (List ℕ × Turn)
turns = (codes "set", turn.Set) ∷ (codes "release", turn.Release) ∷ []

-- after `bind`
abbrev pub edits : List (List ℕ × Edit)
edits = (codes "set", edit.Set) ∷ (codes "purge", edit.Purge) ∷ []

abbrev pub elements : List (List ℕ × Element)
elements = (codes "who", element.Who) ∷ (codes "what", element.What) ∷ (codes "when", element.When) ∷ (codes "where", element.Where) ∷ []

abbrev pub plain : List ℕ → Bool
plain [] = true
plain (b ∷ bs) = nat_lt b 128 && plain bs

abbrev pub all_plain : {A : Type 0} → List (List ℕ × A) → Bool
all_plain [] = true
all_plain (row ∷ rows) = plain row.0 && all_plain rows
