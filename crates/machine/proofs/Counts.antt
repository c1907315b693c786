-- Counting in lists of numbers and of due numbers.
use Rattle.std.proofs.Common.{◌≡◌, ℕ, suc, pred, ◌+◌, ◌<◌, ◌≤◌, Bool, true, false, cond, ◌&&◌, eqb, ltb, ◌⊎◌, List, [], ◌∷◌, ◌++◌, length, refl, inr, arith}
use Rattle.std.proofs.lemmas.Bool.Decides.{nat_tests}
use Rattle.sources.specs.Lists.{count, has}
use Rattle.machine.specs.Machine.{front, back, added, without, numbers, by, later_than, placed, in_order}
use Rattle.machine.specs.Runs.{second_of, all_after}
use Rattle.machine.specs.declared.call.Due.{Due}

-- a list has what it counts
pub has_tells : (n : ℕ) (xs : List ℕ) → ((has n xs ≡ true) × (1 ≤ count n xs)) ⊎ ((has n xs ≡ false) × (count n xs ≡ 0))
has_tells n [] = inr (refl, refl)
has_tells n (x ∷ xs) = let ih = has_tells n xs in grind (arith, nat_tests)

pub count_append : (n : ℕ) (xs ys : List ℕ) → count n (xs ++ ys) ≡ count n xs + count n ys
count_append n [] ys = omega arith
count_append n (x ∷ xs) ys = let ih = count_append n xs ys in grind (arith, nat_tests)

pub count_numbers_append : (n : ℕ) (xs ys : List Due) → count n (numbers (xs ++ ys)) ≡ count n (numbers xs) + count n (numbers ys)
count_numbers_append n [] ys = omega arith
count_numbers_append n (x ∷ xs) ys = let ih = count_numbers_append n xs ys in grind (arith, nat_tests)

-- ---- numbers on hold

pub count_added : (n m : ℕ) (xs : List ℕ) → count n (added m xs) ≡ cond (eqb n m) (suc (count n xs)) (count n xs)
count_added n m [] = refl
count_added n m (x ∷ xs) = let ih = count_added n m xs in grind (arith, nat_tests)

pub count_without : (n m : ℕ) (xs : List ℕ) → count n (without m xs) ≡ cond (eqb n m) (pred (count n xs)) (count n xs)
count_without n m [] = grind (arith, nat_tests)
count_without n m (x ∷ xs) = let ih = count_without n m xs in grind (arith, nat_tests)

-- ---- a front that passes a test, and what is left

pub count_front : (p : ℕ → Bool) (n : ℕ) (xs : List ℕ) → count n (front p xs) + count n (back p xs) ≡ count n xs
count_front p n [] = refl
count_front p n (x ∷ xs) = let ih = count_front p n xs in grind (arith, nat_tests)

-- where nothing is left, all pass the test
pub all_front : (p : ℕ → Bool) (n : ℕ) (xs : List ℕ) → back p xs ≡ [] → has n xs ≡ true → p n ≡ true
all_front p n [] e h = grind arith
all_front p n (x ∷ xs) e h = let ih = all_front p n xs in grind (arith, nat_tests)

pub back_first : (p : ℕ → Bool) (m : ℕ) (ys xs : List ℕ) → back p xs ≡ m ∷ ys → p m ≡ false
back_first p m ys [] e = grind arith
back_first p m ys (x ∷ xs) e = let ih = back_first p m ys xs in grind (arith, nat_tests)

-- ---- due numbers

pub count_placed : (n : ℕ) (d : Due) (xs : List Due) → count n (numbers (placed d xs)) ≡ cond (eqb n d.number) (suc (count n (numbers xs))) (count n (numbers xs))
count_placed n d [] = refl
count_placed n d (x ∷ xs) = let ih = count_placed n d xs in grind (arith, nat_tests)

pub count_in_order : (n : ℕ) (xs : List Due) → count n (numbers (in_order xs)) ≡ count n (numbers xs)
count_in_order n [] = refl
count_in_order n (x ∷ xs) = let ih = count_in_order n xs in let p = count_placed n x (in_order xs) in grind (arith, nat_tests)

pub count_by : (n t : ℕ) (xs : List Due) → count n (numbers (by t xs)) + count n (numbers (later_than t xs)) ≡ count n (numbers xs)
count_by n t [] = refl
count_by n t (x ∷ xs) = let ih = count_by n t xs in grind (arith, nat_tests)

pub second_none : (xs : List Due) (n : ℕ) → has n (numbers xs) ≡ false → second_of xs n ≡ 0
second_none [] n h = refl
second_none (x ∷ xs) n h = let ih = second_none xs n in grind (arith, nat_tests)

pub second_after : (t : ℕ) (xs : List Due) (n : ℕ) → all_after t xs ≡ true → has n (numbers xs) ≡ true → t < second_of xs n
second_after t [] n a l = grind arith
second_after t (x ∷ xs) n a l = let ih = second_after t xs n in grind (arith, nat_tests)

-- what is due later, and the second of it
pub has_later : (t : ℕ) (xs : List Due) (n : ℕ) → count n (numbers xs) ≤ 1 → has n (numbers (later_than t xs)) ≡ (has n (numbers xs) && ltb t (second_of xs n))
has_later t [] n l = refl
has_later t (x ∷ xs) n l =
    let ih = has_later t xs n in
    let h = has_tells n (numbers xs) in
    let k = has_tells n (numbers (later_than t xs)) in
    let c = count_by n t xs in
    grind (arith, nat_tests)

pub second_later : (t : ℕ) (xs : List Due) (n : ℕ) → count n (numbers xs) ≤ 1 → has n (numbers (later_than t xs)) ≡ true → second_of (later_than t xs) n ≡ second_of xs n
second_later t [] n l h = refl
second_later t (x ∷ xs) n l h =
    let ih = second_later t xs n in
    let k = has_tells n (numbers (later_than t xs)) in
    let c = count_by n t xs in
    grind (arith, nat_tests)

pub second_append : (xs ys : List Due) (n : ℕ) → has n (numbers xs) ≡ true → second_of (xs ++ ys) n ≡ second_of xs n
second_append [] ys n h = grind arith
second_append (x ∷ xs) ys n h = let ih = second_append xs ys n in grind (arith, nat_tests)

pub second_at_end : (xs : List Due) (d : Due) → has d.number (numbers xs) ≡ false → second_of (xs ++ (d ∷ [])) d.number ≡ d.second
second_at_end [] d h = grind (arith, nat_tests)
second_at_end (x ∷ xs) d h = let ih = second_at_end xs d in grind (arith, nat_tests)

pub later_after : (t : ℕ) (xs : List Due) → all_after t (later_than t xs) ≡ true
later_after t [] = refl
later_after t (x ∷ xs) = let ih = later_after t xs in grind (arith, nat_tests)

pub after_append : (t : ℕ) (xs ys : List Due) → all_after t xs ≡ true → all_after t ys ≡ true → all_after t (xs ++ ys) ≡ true
after_append t [] ys a b = b
after_append t (x ∷ xs) ys a b = let ih = after_append t xs ys in grind (arith, nat_tests)

-- ---- lengths

pub length_added : (n : ℕ) (xs : List ℕ) → length (added n xs) ≡ suc (length xs)
length_added n [] = refl
length_added n (x ∷ xs) = let ih = length_added n xs in grind arith

pub length_placed : (d : Due) (xs : List Due) → length (placed d xs) ≡ suc (length xs)
length_placed d [] = refl
length_placed d (x ∷ xs) = let ih = length_placed d xs in grind arith

pub length_in_order : (xs : List Due) → length (in_order xs) ≡ length xs
length_in_order [] = refl
length_in_order (x ∷ xs) = let ih = length_in_order xs in let e = length_placed x (in_order xs) in omega arith

pub length_numbers : (xs : List Due) → length (numbers xs) ≡ length xs
length_numbers [] = refl
length_numbers (x ∷ xs) = let ih = length_numbers xs in omega arith

pub length_by : (t : ℕ) (xs : List Due) → length (by t xs) + length (later_than t xs) ≡ length xs
length_by t [] = refl
length_by t (x ∷ xs) = let ih = length_by t xs in grind arith

pub length_front : (p : ℕ → Bool) (xs : List ℕ) → length (front p xs) + length (back p xs) ≡ length xs
length_front p [] = refl
length_front p (x ∷ xs) = let ih = length_front p xs in grind arith
