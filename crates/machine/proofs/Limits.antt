-- How many numbers of a list stand outside another, and that a number which a mint passes does not stand aside already.
use Rattle.std.proofs.Common.{◌≡◌, ℕ, ◌+◌, ◌≤◌, cond, List, [], ◌∷◌, length, refl, arith}
use Rattle.std.proofs.lemmas.Bool.Decides.{nat_tests}
use Rattle.sources.specs.Lists.{count, has}
use Rattle.machine.specs.Machine.{Machine, outside}
use Rattle.machine.specs.Runs.{Sound, PassedOnce}
use Rattle.machine.proofs.Counts.{has_tells}

pub outside_none : (ys : List ℕ) → outside [] ys ≡ length ys
outside_none [] = refl
outside_none (y ∷ ys) = let ih = outside_none ys in omega arith

-- one number more in the other list takes its counts away, where it was not there yet
pub outside_fewer : (x : ℕ) (xs ys : List ℕ) → outside (x ∷ xs) ys + cond (has x xs) 0 (count x ys) ≡ outside xs ys
outside_fewer x xs [] = grind (arith, nat_tests)
outside_fewer x xs (y ∷ ys) = let ih = outside_fewer x xs ys in grind (arith, nat_tests)

-- different numbers are no more than those of another list and those outside it
pub fit_within : (xs ys : List ℕ) → ((n : ℕ) → count n ys ≤ 1) → length ys ≤ length xs + outside xs ys
fit_within [] ys once = let e = outside_none ys in omega arith
fit_within (x ∷ xs) ys once = let ih = fit_within xs ys once in let e = outside_fewer x xs ys in let q = once x in grind arith

-- a sound machine has at most 64 numbers aside, and at most 64 on hold
pub aside_fits : (m : Machine) → Sound m → length m.aside ≤ 64
aside_fits m i = let a = i.hold_places in omega arith

pub held_fits : (m : Machine) → Sound m → length m.held ≤ 64
held_fits m i = let a = i.hold_places in let b = fit_within m.aside m.held i.hold_once in omega arith

pub passed_once : PassedOnce
passed_once m i n h =
    let a = i.once n in
    let b = has_tells n m.aside in
    let c = has_tells n m.returned in
    let d = has_tells n m.source.ahead in
    grind arith
