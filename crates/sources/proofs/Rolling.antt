-- What a draw and a look do in a roll. Assumes nothing.
use Rattle.std.proofs.Common.{◌≡◌, ℕ, ◌+◌, ◌<◌, ◌≤◌, cond, ◌||◌, eqb, List, [], ◌∷◌, ◌++◌, length, get_or, take, drop, refl, ap, ◌∙◌, arith}
use Rattle.std.proofs.lemmas.List.{drop_more, take_more}
use Rattle.std.proofs.lemmas.Bool.Decides.{nat_tests}
use Rattle.sources.specs.Lists.{count, has}
use Rattle.sources.specs.RollLaws.{count_split, none_has}
use Rattle.sources.specs.Rolls.{roll_standing}
use Rattle.sources.specs.declared.source.Stand.TheVariants.{Given}

has_append : (n : ℕ) (xs ys : List ℕ) → has n (xs ++ ys) ≡ (has n xs || has n ys)
has_append n [] ys = refl
has_append n (x ∷ xs) ys = let ih = has_append n xs ys in grind (arith, nat_tests)

-- where numbers stand after one draw more
pub roll_drawn : (xs : List ℕ) (i n : ℕ) → i < length xs → count n xs ≤ 1 → roll_standing (i + 1) xs n ≡ cond (eqb n (get_or xs i 0)) Given (roll_standing i xs n)
roll_drawn xs i n h once =
    let front = ap (has n) (take_more xs i 0 h) ∙ has_append n (take i xs) (get_or xs i 0 ∷ []) in
    let back = ap (has n) (drop_more xs i 0 h) in
    let here = ap (count n) (drop_more xs i 0 h) in
    let s = count_split n i xs in
    let none = none_has n (drop (i + 1) xs) in
    grind (arith, nat_tests)
