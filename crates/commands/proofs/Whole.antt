-- A line's words, from any place on: with their spaces they are the line, where each begins the line goes on with it, and none has a space in it. Assumes nothing.
use Rattle.std.proofs.Common.{◌≡◌, ℕ, suc, ◌+◌, ◌-◌, ◌≤◌, Bool, true, false, cond, eqb, List, [], ◌∷◌, drop, sym, refl, ap, ◌∙◌, arith}
use Rattle.commands.specs.Spelling.{with_spaces}
use Rattle.commands.specs.Words.{Word, words, texts}
use Rattle.commands.proofs.Places.{words_first, after}
use Rattle.std.proofs.lemmas.Bool.{eqb-true}
use Rattle.texts.specs.Pieces.{upto}

-- the words of a byte and of the bytes after it, by whether the byte is a space
abbrev split : ℕ → ℕ → List ℕ → Bool → List Word
split at b bs v =
    cond v (record { place = at; text = [] } ∷ (record { place = at + 1; text = upto 32 bs } ∷ after (at + 1) bs)) (record { place = at; text = b ∷ upto 32 bs } ∷ after (at + 1) bs)

-- a line's words, with their spaces, are the line
pub whole : (at : ℕ) (bs : List ℕ) → with_spaces (texts (words at bs)) ≡ bs
whole at [] = refl
whole at (b ∷ bs) =
    let first = words_first (at + 1) bs in
    let ih = rw first at (whole (at + 1) bs) in
    rw first
    ((elim (eqb b 32) as (λ v. eqb b 32 ≡ v → with_spaces (texts (split at b bs v)) ≡ b ∷ bs) [
      | true ↦ λ e. (λ i. sym (eqb-true b 32 e) i ∷ ih i)
      | false ↦ λ e. ap (λ l. b ∷ l) ih
    ]) refl)

-- where each word begins, the line goes on with it and with the words after it
abbrev pub Along : ℕ → List ℕ → List Word → Type 0
Along at bs [] = Unit {0}
Along at bs (w ∷ ws) = (at ≤ w.place) × (drop (w.place - at) bs ≡ with_spaces (texts (w ∷ ws))) × Along at bs ws

along_more : (at b : ℕ) (bs : List ℕ) (ws : List Word) → Along (at + 1) bs ws → Along at (b ∷ bs) ws
along_more at b bs [] a = tt
along_more at b bs (w ∷ ws) a =
    let far : w.place - at ≡ suc (w.place - (at + 1)) = omega (arith, a.0) in
    (omega (arith, a.0), ap (λ k. drop k (b ∷ bs)) far ∙ a.1, along_more at b bs ws a.2)

pub along : (at : ℕ) (bs : List ℕ) → Along at bs (words at bs)
along at [] = let none : at - at ≡ 0 = omega arith in (omega arith, ap (λ k. drop k []) none, tt)
along at (b ∷ bs) =
    let first = words_first (at + 1) bs in
    let onward = rw first at (along_more at b bs (words (at + 1) bs) (along (at + 1) bs)) in
    let none : at - at ≡ 0 = omega arith in
    let here : drop (at - at) (b ∷ bs) ≡ b ∷ bs = ap (λ k. drop k (b ∷ bs)) none in
    rw first
    ((elim (eqb b 32) as (λ v. with_spaces (texts (split at b bs v)) ≡ b ∷ bs → Along at (b ∷ bs) (split at b bs v)) [
      | true ↦ λ e. (omega arith, here ∙ sym e, onward)
      | false ↦ λ e. (omega arith, here ∙ sym e, onward.2)
    ]) (rw first at (whole at (b ∷ bs))))

-- no word has a space in it
abbrev pub AllPlain : List (List ℕ) → Type 0
AllPlain [] = Unit {0}
AllPlain (t ∷ ts) = (upto 32 t ≡ t) × AllPlain ts

abbrev pub Plain : List Word → Type 0
Plain ws = AllPlain (texts ws)

pub plain_words : (at : ℕ) (bs : List ℕ) → Plain (words at bs)
plain_words at [] = (refl, tt)
plain_words at (b ∷ bs) =
    let first = words_first (at + 1) bs in
    let ih = rw first at (plain_words (at + 1) bs) in
    rw first
    ((elim (eqb b 32) as (λ v. eqb b 32 ≡ v → Plain (split at b bs v)) [
      | true ↦ λ e. (refl, ih)
      | false ↦ λ e. (rw (e, ih.0), ih.1)
    ]) refl)
