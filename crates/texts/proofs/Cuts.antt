-- How a text's pieces begin. Assumes nothing.
use Rattle.std.proofs.Common.{◌≡◌, ℕ, suc, ◌+◌, ◌-◌, ◌<◌, ◌≤◌, true, false, cond, eqb, ltb, not, ◌==◌, Some, None, List, [], ◌∷◌, length, take, drop, sym, refl, ap, ◌∙◌, arith}
use Rattle.std.proofs.lemmas.List.{drop-drop, length-drop}
use Rattle.std.proofs.lemmas.List.Recursion.{is_position_or_len}
use Rattle.std.proofs.lemmas.List.Sums.{prefix_len-le-length}
use Rattle.std.proofs.lemmas.Bool.Decides.{nat_tests}
use Rattle.std.specs.List.{position, position_or_len}
use Rattle.std.specs.Option.{unwrap_or}
use Rattle.texts.specs.Pieces.{upto, onto, pieces}

-- one byte on
step : (m b : ℕ) (bs : List ℕ) → length (upto m (b ∷ bs)) ≡ cond (b == m) 0 (1 + length (upto m bs))
step m b bs = elim (b == m) as (λ v. length (cond v [] (b ∷ upto m bs)) ≡ cond v 0 (1 + length (upto m bs))) [ true ↦ refl | false ↦ omega arith ]

-- the piece ends at the first mark, or with the text
pub length-upto : (m : ℕ) (bs : List ℕ) → length (upto m bs) ≡ position_or_len (λ b. b == m) bs
length-upto m bs = is_position_or_len (λ l. length (upto m l)) (λ b. b == m) refl (λ b l. step m b l) bs

-- what `position` finds, or the length, is where the piece ends
found : (p n : ℕ) → p ≤ n → unwrap_or (cond (ltb p n) (Some p) None) n ≡ p
found p n h = grind (arith, nat_tests)

pub found_upto : (m : ℕ) (bs : List ℕ) → unwrap_or (position (λ b. b == m) bs) (length bs) ≡ length (upto m bs)
found_upto m bs = found (position_or_len (λ b. b == m) bs) (length bs) (prefix_len-le-length (λ b. not (b == m)) bs) ∙ sym (length-upto m bs)

-- the piece is the front of its length
pub take_upto : (m : ℕ) (bs : List ℕ) → take (length (upto m bs)) bs ≡ upto m bs
take_upto m [] = refl
take_upto m (b ∷ bs) =
    elim (eqb b m) as (λ v. take (length (cond v [] (b ∷ upto m bs))) (b ∷ bs) ≡ cond v [] (b ∷ upto m bs)) [
      | true ↦ refl
      | false ↦ ap (λ l. b ∷ l) (take_upto m bs)
    ]

-- a text that is not empty is its first piece, and the pieces of what follows the mark
pub first_piece : (m : ℕ) (bs : List ℕ) → 0 < length bs → pieces m bs ≡ upto m bs ∷ pieces m (drop (suc (length (upto m bs))) bs)
first_piece m [] h = absurd (omega arith)
first_piece m (b ∷ []) h =
    elim (eqb b m) as (λ v. cond v ([] ∷ []) (onto b []) ≡ cond v [] (b ∷ []) ∷ pieces m (drop (suc (length (cond v [] (b ∷ [])))) (b ∷ []))) [ true ↦ refl | false ↦ refl ]
first_piece m (b ∷ (a ∷ rest)) h =
    let ih = first_piece m (a ∷ rest) (omega arith) in
    elim (eqb b m) as (λ v. cond v ([] ∷ pieces m (a ∷ rest)) (onto b (pieces m (a ∷ rest))) ≡ cond v [] (b ∷ upto m (a ∷ rest)) ∷ pieces m (drop (suc (length (cond v [] (b ∷ upto m (a ∷ rest))))) (b ∷ (a ∷ rest)))) [
      | true ↦ refl
      | false ↦ ap (onto b) ih
    ]

-- the same from a place on, with the place where the piece ends
pub cut_at : (m : ℕ) (bs : List ℕ) (from r : ℕ) → r ≡ from + length (upto m (drop from bs)) → from < length bs
    → pieces m (drop from bs) ≡ take (r - from) (drop from bs) ∷ pieces m (drop (r + 1) bs)
cut_at m bs from r e h =
    let long : r - from ≡ length (upto m (drop from bs)) = omega arith in
    let some : 0 < length (drop from bs) = omega (arith, length-drop from bs) in
    let next : from + suc (length (upto m (drop from bs))) ≡ r + 1 = omega arith in
    let front : take (r - from) (drop from bs) ≡ upto m (drop from bs) = ap (λ k. take k (drop from bs)) long ∙ take_upto m (drop from bs) in
    let back : drop (suc (length (upto m (drop from bs)))) (drop from bs) ≡ drop (r + 1) bs = drop-drop (suc (length (upto m (drop from bs)))) from bs ∙ ap (λ k. drop k bs) next in
    first_piece m (drop from bs) some ∙ ap (λ l. l ∷ pieces m (drop (suc (length (upto m (drop from bs)))) (drop from bs))) (sym front) ∙ ap (λ l. take (r - from) (drop from bs) ∷ pieces m l) back

-- a text has no more pieces than bytes
length-onto : (b : ℕ) (ps : List (List ℕ)) (n : ℕ) → length ps ≤ n → length (onto b ps) ≤ n + 1
length-onto b [] n h = omega arith
length-onto b (p ∷ ps) n h = omega arith

pub pieces_few : (m : ℕ) (bs : List ℕ) → length (pieces m bs) ≤ length bs
pieces_few m [] = omega arith
pieces_few m (b ∷ bs) =
    let ih = pieces_few m bs in
    elim (b == m) as (λ v. length (cond v ([] ∷ pieces m bs) (onto b (pieces m bs))) ≤ length (b ∷ bs)) [
      | true ↦ omega (arith, ih)
      | false ↦ omega (arith, length-onto b (pieces m bs) (length bs) ih)
    ]
