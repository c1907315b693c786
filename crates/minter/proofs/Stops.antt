-- As many held numbers are ahead as are left exactly where all that is ahead is held. Assumes nothing.
use Rattle.std.proofs.Common.{◌≡◌, ℕ, ◌+◌, Bool, false, cond, not, eqb, count_by, List, [], ◌∷◌, length, is_some, refl, ◌∙◌, arith}
use Rattle.std.proofs.lemmas.List.Recursion.{is_count_by}
use Rattle.std.proofs.lemmas.Bool.Decides.{nat_tests}
use Rattle.sources.specs.Lists.{has, first}
use Rattle.minter.specs.Finds.{Once}
use Rattle.machine.specs.Machine.{outside, back}
use Rattle.machine.proofs.Counts.{has_tells}
use Rattle.machine.proofs.Limits.{outside_none, outside_fewer}

-- how many of a list pass a test
abbrev pub passing : (ℕ → Bool) → List ℕ → ℕ
passing p [] = 0
passing p (x ∷ xs) = cond (p x) (1 + passing p xs) (passing p xs)

once_tail : (x : ℕ) (xs : List ℕ) → Once (x ∷ xs) → Once xs
once_tail x xs once n = let o = once n in grind (arith, nat_tests)

-- of a list, those that another has, and those outside it
pub shared : (held ahead : List ℕ) → Once held → Once ahead → passing (λ x. has x ahead) held + outside held ahead ≡ length ahead
shared [] ahead h a = let e = outside_none ahead in omega arith
shared (x ∷ held) ahead h a =
    let ih = shared held ahead (once_tail x held h) a in
    let o = h x in
    let t = has_tells x held in
    let f : has x held ≡ false = grind (arith, nat_tests) in
    let e = outside_fewer x held ahead in
    let k = has_tells x ahead in
    let i = a x in
    grind arith

back_outside : (held ahead : List ℕ) → eqb (outside held ahead) 0 ≡ not (is_some (first (back (λ x. has x held) ahead)))
back_outside held [] = refl
back_outside held (x ∷ ahead) = let ih = back_outside held ahead in grind (arith, nat_tests)

passing_same : (p q : ℕ → Bool) → ((x : ℕ) → p x ≡ q x) → (xs : List ℕ) → passing p xs ≡ passing q xs
passing_same p q same [] = refl
passing_same p q same (x ∷ xs) = let ih = passing_same p q same xs in let e = same x in grind arith

pub all_stopped : (p : ℕ → Bool) (held ahead : List ℕ) → ((x : ℕ) → p x ≡ has x ahead) → Once held → Once ahead
    → eqb (count_by p held) (length ahead) ≡ not (is_some (first (back (λ x. has x held) ahead)))
all_stopped p held ahead same h a =
    let s = passing_same p (λ x. has x ahead) same held in
    let n = is_count_by (passing p) p refl (λ _ _. refl) held in
    let e = shared held ahead h a in
    let b : eqb (count_by p held) (length ahead) ≡ eqb (outside held ahead) 0 = grind (arith, nat_tests) in
    b ∙ back_outside held ahead
