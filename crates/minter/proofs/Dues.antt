-- Taking back what is due, one number after another. Assumes nothing.
use Rattle.std.proofs.Common.{◌≡◌, ℕ, true, false, leb, List, [], ◌∷◌, ◌++◌, length, Some, None, sym, refl, ap, ◌∙◌, ⊎_elim, append_assoc, arith}
use Rattle.std.proofs.lemmas.Bool.{cases_Bool}
use Rattle.sources.specs.Lists.{first, rest}
use Rattle.machine.specs.Machine.{numbers, by, later_than, in_order}
use Rattle.machine.specs.declared.call.Due.{Due}
use Rattle.machine.proofs.Counts.{length_numbers, length_in_order}

-- a list by its first number and the rest
pub first_some : (n : ℕ) (ys : List ℕ) → Some n ≡ first ys → ys ≡ n ∷ rest ys
first_some n [] e = let z : ◌≡◌ {A = ℕ} 0 1 = cc in absurd (omega arith)
first_some n (y ∷ ys) e = let z : n ≡ y = cc in ap (λ (x : ℕ). x ∷ ys) (sym z)

pub first_none : (ys : List ℕ) → None ≡ first ys → ys ≡ []
first_none [] e = refl
first_none (y ∷ ys) e = let z : ◌≡◌ {A = ℕ} 0 1 = cc in absurd (omega arith)

-- its first number may stand at the end of what comes before it
pub first_moved : (n : ℕ) (xs ys : List ℕ) → Some n ≡ first ys → (xs ++ (n ∷ [])) ++ rest ys ≡ xs ++ ys
first_moved n xs ys e = append_assoc xs (n ∷ []) (rest ys) ∙ ap (λ (zs : List ℕ). xs ++ zs) (sym (first_some n ys e))

later_all : (t : ℕ) (xs : List Due) → length (by t xs) ≡ 0 → later_than t xs ≡ xs
later_all t [] h = refl
later_all t (x ∷ xs) h =
    ⊎_elim
    (λ (b : leb x.second t ≡ true). absurd (let k = rw b at h in omega arith))
    (λ (b : leb x.second t ≡ false). let k = rw b at h in rw b (ap (λ (ys : List Due). x ∷ ys) (later_all t xs k)))
    (cases_Bool (leb x.second t))

-- where nothing is due, all is due later
pub none_due : (t : ℕ) (xs : List Due) → None ≡ first (numbers (in_order (by t xs))) → (numbers (in_order (by t xs)) ≡ []) × (later_than t xs ≡ xs)
none_due t xs e =
    let n = first_none _ e in
    let a = length_numbers (in_order (by t xs)) in
    let b = length_in_order (by t xs) in
    (n, later_all t xs (omega (arith, ap {B = ℕ} length n)))
