-- The words from a place on: the first, and those after it. Assumes nothing.
use Rattle.std.proofs.Common.{◌≡◌, ℕ, suc, ◌+◌, ◌-◌, ◌<◌, ◌≤◌, true, false, cond, eqb, ltb, List, [], ◌∷◌, ◌++◌, length, take, drop, Ok, sym, refl, ap, ◌∙◌, append_assoc, length-append, arith}
use Rattle.commands.specs.Ahead.{on}
use Rattle.commands.specs.Forms.{next, wrong}
use Rattle.commands.specs.Words.{Word, words, onto}
use Rattle.std.proofs.lemmas.Bool.{le-leb, lt-leb, lt-ltb, eq-eqb, ne_eqb}
use Rattle.std.proofs.lemmas.Bool.Decides.{nat_tests}
use Rattle.std.proofs.lemmas.List.{drop_at, length-take-le, take-append-drop}
use Rattle.texts.proofs.Cuts.{take_upto}
use Rattle.texts.specs.Pieces.{upto}

-- the words after the first
abbrev pub after : ℕ → List ℕ → List Word
after at [] = []
after at (b ∷ bs) = cond (eqb b 32) (words (at + 1) bs) (after (at + 1) bs)

pub words_first : (at : ℕ) (bs : List ℕ) → words at bs ≡ record { place = at; text = upto 32 bs } ∷ after at bs
words_first at [] = refl
words_first at (b ∷ bs) =
    elim (eqb b 32) as (λ v. cond v (record { place = at; text = [] } ∷ words (at + 1) bs) (onto at b (words (at + 1) bs)) ≡ record { place = at; text = cond v [] (b ∷ upto 32 bs) } ∷ cond v (words (at + 1) bs) (after (at + 1) bs)) [
      | true ↦ refl
      | false ↦ ap (onto at b) (words_first (at + 1) bs)
    ]

-- they are the words after the first bytes and the space that ends them
pub after_first : (at : ℕ) (bs : List ℕ) → after at bs ≡ cond (ltb (length (upto 32 bs)) (length bs)) (words (at + suc (length (upto 32 bs))) (drop (suc (length (upto 32 bs))) bs)) []
after_first at [] = refl
after_first at (b ∷ bs) =
    elim (eqb b 32) as (λ v. cond v (words (at + 1) bs) (after (at + 1) bs) ≡ cond (ltb (length (cond v [] (b ∷ upto 32 bs))) (suc (length bs))) (words (at + suc (length (cond v [] (b ∷ upto 32 bs)))) (drop (length (cond v [] (b ∷ upto 32 bs))) bs)) []) [
      | true ↦ rw (lt-ltb 0 (suc (length bs)) (omega arith)) refl
      | false ↦
          let n = length (upto 32 bs) in
          let test : ltb n (length bs) ≡ ltb (suc n) (suc (length bs)) = grind (arith, nat_tests) in
          let far : at + 1 + suc n ≡ at + suc (suc n) = omega arith in
          after_first (at + 1) bs ∙ (λ i. cond (test i) (words (far i) (drop (suc n) bs)) [])
    ]

-- from past the line's end on there is no word
pub on_past : (line : List ℕ) (from : ℕ) → length line < from → on line from ≡ []
on_past line from h = ap (λ t. cond t (words from (drop from line)) []) (lt-leb from (length line) h)

on_front : (front bs : List ℕ) → on (front ++ bs) (length front) ≡ words (length front) bs
on_front front bs =
    rw (le-leb (length front) (length (front ++ bs)) (omega (arith, length-append front bs)), drop_at front bs (length front) refl)

after_on : (front bs : List ℕ) → after (length front) bs ≡ on (front ++ bs) (length front + length (upto 32 bs) + 1)
after_on front [] = sym (on_past (front ++ []) (length front + 0 + 1) (omega (arith, length-append front [])))
after_on front (b ∷ bs) =
    let longer = front ++ (b ∷ []) in
    let line = front ++ (b ∷ bs) in
    let n = length front in
    let far : length longer ≡ n + 1 = length-append front (b ∷ []) in
    let same : longer ++ bs ≡ line = append_assoc front (b ∷ []) bs in
    let here = rw (far, same) at (on_front longer bs) in
    let ih = rw (far, same) at (after_on longer bs) in
    elim (eqb b 32) as (λ v. cond v (words (n + 1) bs) (after (n + 1) bs) ≡ on line (n + length (cond v [] (b ∷ upto 32 bs)) + 1)) [
      | true ↦ sym here ∙ ap (on line) (omega arith)
      | false ↦ ih ∙ ap (on line) (omega arith)
    ]

-- a place in the line, or at its end, has a word: up to the next space, and then the words after that space
pub on_word : (line : List ℕ) (from : ℕ) → from ≤ length line → on line from ≡ record { place = from; text = upto 32 (drop from line) } ∷ on line (from + length (upto 32 (drop from line)) + 1)
on_word line from h =
    let front = take from line in
    let bs = drop from line in
    let size : length front ≡ from = length-take-le from line h in
    let all : front ++ bs ≡ line = take-append-drop from line in
    rw (size, all) at (on_front front bs ∙ words_first (length front) bs ∙ ap (λ ws. record { place = length front; text = upto 32 bs } ∷ ws) (after_on front bs))

-- the word that is asked for next is empty, or it is not
module _ (line : List ℕ) (from to : ℕ) (h : from ≤ length line) (e : to ≡ from + length (upto 32 (drop from line))) where
  pub empty_word : to ≡ from → wrong from ≡ next line (on line from)
  empty_word none =
      let test : eqb (length (upto 32 (drop from line))) 0 ≡ true = eq-eqb _ 0 (omega arith) in
      rw (on_word line from h, test)

  pub full_word : (to ≡ from → ⊥) → Ok (record { place = from; text = take (to - from) (drop from line) }, on line (to + 1)) ≡ next line (on line from)
  full_word some =
      let u = upto 32 (drop from line) in
      let test : eqb (length u) 0 ≡ false = ne_eqb _ 0 (λ z. some (omega arith)) in
      let size : to - from ≡ length u = omega arith in
      rw (on_word line from h, test, size, take_upto 32 (drop from line), e)
