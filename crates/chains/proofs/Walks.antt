-- Walks along chains: one turn on any list of next indices, and the whole chain where it ends.
use Rattle.std.proofs.Common.{◌≡◌, ℕ, zero, suc, ◌+◌, ◌-◌, ◌<◌, ◌≤◌, Bool, false, cond, List, [], ◌∷◌, length, get_or, refl, ap, arith}
use Rattle.chains.specs.Chains.{run, seek, before, Ends}

pub run_zero : (f : ℕ) (ls : List ℕ) → run f ls 0 ≡ []
run_zero zero ls = refl
run_zero (suc f) ls = refl

-- one turn at a record x that stands after p
pub record Turn (n i : ℕ) (ls : List ℕ) (ms : List Bool) (p x : ℕ) : Type 0 where
  pub at : seek ms (run (n - i) ls x) ≡ cond (get_or ms x false) x (seek ms (run (n - (i + 1)) ls (get_or ls x 0)))
  pub before : before p ms (run (n - i) ls x) ≡ cond (get_or ms x false) p (before x ms (run (n - (i + 1)) ls (get_or ls x 0)))

pub turn : (n i : ℕ) (ls : List ℕ) (ms : List Bool) (p x : ℕ) → i < n → (x ≡ 0 → ⊥) → Turn n i ls ms p x
turn n i ls ms p zero l z = absurd (z refl)
turn n i ls ms p (suc j) l z =
    let e : n - i ≡ suc (n - (i + 1)) = omega arith in
    record { at = ap (λ (f : ℕ). seek ms (run f ls (suc j))) e; before = ap (λ (f : ℕ). before p ms (run f ls (suc j))) e }

pub length_run : (f : ℕ) (ls : List ℕ) (at : ℕ) → length (run f ls at) ≤ f
length_run zero ls at = omega arith
length_run (suc f) ls zero = omega arith
length_run (suc f) ls (suc j) = omega (arith, length_run f ls (get_or ls (suc j) 0))

-- a chain that ends is met whole
pub run_ends : (xs : List ℕ) (f : ℕ) (ls : List ℕ) (at : ℕ) → Ends ls at xs → length xs ≤ f → run f ls at ≡ xs
run_ends [] zero ls at e l = refl
run_ends [] (suc f) ls zero e l = refl
run_ends [] (suc f) ls (suc j) e l = absurd (omega arith)
run_ends (x ∷ xs) zero ls at e l = absurd (omega arith)
run_ends (x ∷ xs) (suc f) ls zero e l = absurd (omega (arith, e.0, e.1))
run_ends (x ∷ xs) (suc f) ls (suc j) e l = let t = run_ends xs f ls (get_or ls x 0) e.3 (omega arith) in grind (arith, e.0)

-- what a walk comes to lies in the list
pub seek_within : (ls : List ℕ) (ms : List Bool) (at : ℕ) (xs : List ℕ) → 0 < length ls → Ends ls at xs → seek ms xs < length ls
seek_within ls ms at [] l e = l
seek_within ls ms at (x ∷ xs) l e = grind (arith, e.2, seek_within ls ms (get_or ls x 0) xs l e.3)
