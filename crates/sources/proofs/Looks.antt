-- What looking through a list of numbers finds. Assumes nothing.
use Rattle.std.proofs.Common.{◌≡◌, ℕ, zero, suc, ◌+◌, ◌<◌, ◌≤◌, Bool, true, false, cond, ◌||◌, leb, nat_eq, List, [], ◌∷◌, ◌++◌, length, get_or, take, drop, Some, None, Option, MatchOption, refl, ◌∙◌, arith}
use Rattle.std.specs.List.{list_any}
use Rattle.std.proofs.lemmas.List.{at_drop_more, at_drop_all, take_more, length-take-le}
use Rattle.std.proofs.lemmas.Bool.{cond-true, cond-false}
use Rattle.std.proofs.lemmas.Bool.Decides.{nat_tests}
use Rattle.sources.specs.Lists.{has}
use Rattle.sources.specs.Rolls.{first_wrong}

-- what a slice's `contains` answers
pub has_any : (n : ℕ) (xs : List ℕ) → has n xs ≡ list_any (λ y. nat_eq y n) xs
has_any n [] = refl
has_any n (x ∷ xs) = let ih = has_any n xs in grind (arith, nat_tests)

-- the number at i is wrong
abbrev pub wrong : ℕ → List ℕ → ℕ → Bool
wrong t xs i = leb 4096 i || (leb t (get_or xs i 0) || has (get_or xs i 0) (take i xs))

wrong_more : (t : ℕ) (xs : List ℕ) (i : ℕ) → i < length xs
    → first_wrong t (take i xs) (drop i xs) ≡ cond (wrong t xs i) (Some i) (first_wrong t (take (i + 1) xs) (drop (i + 1) xs))
wrong_more t xs i h =
    let l : length (take i xs) ≡ i = length-take-le i xs (omega arith) in
    let m : take (i + 1) xs ≡ take i xs ++ (get_or xs i 0 ∷ []) = take_more xs i 0 h in
    at_drop_more (first_wrong t (take i xs)) xs i 0 h ∙ rw (l, ← m)

none_wrong : (t : ℕ) (xs : List ℕ) (m i : ℕ) → i + m ≡ length xs → ((k : ℕ) → k < length xs → wrong t xs k ≡ false) → first_wrong t (take i xs) (drop i xs) ≡ None
none_wrong t xs zero i e right = at_drop_all (first_wrong t (take i xs)) xs i (omega arith)
none_wrong t xs (suc m) i e right =
    let l : i < length xs = omega arith in
    wrong_more t xs i l ∙ cond-false _ _ _ (right i l) ∙ none_wrong t xs m (i + 1) (omega arith) right

some_wrong : (t : ℕ) (xs : List ℕ) (at m i : ℕ) → i + m ≡ at → at < length xs → wrong t xs at ≡ true → ((k : ℕ) → k < at → wrong t xs k ≡ false) → first_wrong t (take i xs) (drop i xs) ≡ Some at
some_wrong t xs at zero i e l bad right = let s : i ≡ at = omega arith in rw s (wrong_more t xs at l ∙ cond-true _ _ _ bad)
some_wrong t xs at (suc m) i e l bad right = wrong_more t xs i (omega arith) ∙ cond-false _ _ _ (right i (omega arith)) ∙ some_wrong t xs at m (i + 1) (omega arith) l bad right

-- the first index at which a number is wrong, if there is one
pub found_wrong : (t : ℕ) (xs : List ℕ) (r : Option ℕ)
    → MatchOption r ((k : ℕ) → 0 ≤ k → k < length xs → wrong t xs k ≡ false) (λ i. (0 ≤ i) × (i < length xs) × (wrong t xs i ≡ true) × ((k : ℕ) → 0 ≤ k → k < i → wrong t xs k ≡ false))
    → first_wrong t [] xs ≡ r
found_wrong t xs None right = none_wrong t xs (length xs) 0 (omega arith) (λ k l. right k (omega arith) l)
found_wrong t xs (Some i) at = some_wrong t xs i i 0 (omega arith) at.1 at.2 (λ k l. at.3 k (omega arith) l)
