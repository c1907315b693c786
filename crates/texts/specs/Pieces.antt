-- upto: the bytes of a text before the first that is the mark
-- pieces: a text cut at each mark; the last piece may lack its mark, and a mark at the end opens no further piece
use Rattle.std.specs.Prelude.{ℕ, cond, List, [], ◌∷◌, ◌==◌}

abbrev pub upto : ℕ → List ℕ → List ℕ
upto mark [] = []
upto mark (b ∷ bs) = cond (b == mark) [] (b ∷ upto mark bs)

-- a byte before the first of some pieces
abbrev pub onto : ℕ → List (List ℕ) → List (List ℕ)
onto b [] = (b ∷ []) ∷ []
onto b (p ∷ ps) = (b ∷ p) ∷ ps

abbrev pub pieces : ℕ → List ℕ → List (List ℕ)
pieces mark [] = []
pieces mark (b ∷ bs) = cond (b == mark) ([] ∷ pieces mark bs) (onto b (pieces mark bs))
