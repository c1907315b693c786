-- A word that none of a table's words is stands for nothing, and so do bytes that are no text. Assumes nothing.
use Rattle.std.proofs.Common.{◌≡◌, ℕ, true, false, ltb, List, [], ◌∷◌, None, IsUtf8, IsAscii, sym, refl, subst}
use Rattle.commands.specs.Words.{pick, plain, all_plain}
use Rattle.std.proofs.lemmas.Str.Ascii.{IsAscii-nil, IsAscii-cons}
use Rattle.std.proofs.lemmas.Slice.Eq.{bytes_eq-Decides}
use Rattle.std.proofs.lemmas.Bool.{and_parts, false_from_ne_true, ltb-true}
use Rattle.std.proofs.lemmas.Str.{IsUtf8-from_ascii}
use Rattle.std.specs.Str.{bytes_eq}

-- the word is none of the table's
abbrev pub Absent : {A : Type 0} → List (List ℕ × A) → List ℕ → Type 0
Absent [] word = Unit {0}
Absent (row ∷ rows) word = (word ≡ row.0 → ⊥) × Absent rows word

differ : (xs ys : List ℕ) → (xs ≡ ys → ⊥) → bytes_eq xs ys ≡ false
differ xs ys n = false_from_ne_true (bytes_eq xs ys) (λ e. n ((bytes_eq-Decides xs ys).0 e))

pub absent : {A : Type 0} (rows : List (List ℕ × A)) (word : List ℕ) → Absent rows word → None ≡ pick rows word
absent [] word none = refl
absent (row ∷ rows) word none = rw (differ word row.0 none.0) (absent rows word none.1)

ascii : (bs : List ℕ) → plain bs ≡ true → IsAscii bs
ascii [] e = IsAscii-nil
ascii (b ∷ bs) e = let both = and_parts (ltb b 128) (plain bs) e in IsAscii-cons b bs (ltb-true b 128 both.0) (ascii bs both.1)

-- bytes that are no text are none of a table's words
pub no_text : {A : Type 0} (rows : List (List ℕ × A)) (word : List ℕ) → all_plain rows ≡ true → (IsUtf8 word → ⊥) → Absent rows word
no_text [] word e bad = tt
no_text (row ∷ rows) word e bad =
    let both = and_parts (plain row.0) (all_plain rows) e in
    ((λ same. bad (subst IsUtf8 (sym same) (IsUtf8-from_ascii row.0 (ascii row.0 both.0)))), no_text rows word both.1 bad)

pub garbled : {A : Type 0} (rows : List (List ℕ × A)) (word : List ℕ) → all_plain rows ≡ true → (IsUtf8 word → ⊥) → pick rows word ≡ None
garbled rows word e bad = sym (absent rows word (no_text rows word e bad))
