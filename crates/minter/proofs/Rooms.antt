-- What the register's lists keep when a number is held, released, set aside or minted. Assumes nothing.
use Rattle.std.proofs.Common.{◌≡◌, ℕ, ◌+◌, ◌<◌, ◌≤◌, true, false, not, ◌&&◌, leb, List, [], ◌∷◌, ◌++◌, length, refl, ap, ◌∙◌, subst, arith, length-append}
use Rattle.std.proofs.lemmas.List.{length_push}
use Rattle.std.proofs.lemmas.Bool.Decides.{nat_tests}
use Rattle.sources.specs.Lists.{has, rest}
use Rattle.minter.specs.Finds.{Once}
use Rattle.machine.specs.Machine.{added, without, outside, front, back}
use Rattle.machine.proofs.Counts.{has_tells, count_added, count_without, length_added, back_first}
use Rattle.machine.proofs.Draws.{front_back}
use Rattle.machine.proofs.Limits.{fit_within}
use Rattle.machine.proofs.Places.{outside_added, outside_without, outside_less, outside_one}

module _ (n : ℕ) (aside held : List ℕ) (once : Once held) (few : length aside + outside aside held ≤ 64) where
  pub added_once : has n held ≡ false → Once (added n held)
  added_once new k = let c = count_added k n held in let o = once k in let h = has_tells n held in grind (arith, nat_tests)

  pub added_few : (not (has n aside) && leb 64 (length aside + outside aside held)) ≡ false → length aside + outside aside (added n held) ≤ 64
  added_few room = let e = outside_added aside n held in grind (arith, nat_tests)

  pub held_room : has n held ≡ false → (not (has n aside) && leb 64 (length aside + outside aside held)) ≡ false → length held < 64
  held_room new room =
      let f = fit_within aside (added n held) (added_once new) in
      let a = added_few room in
      let l = length_added n held in
      omega arith

  pub without_once : Once (without n held)
  without_once k = let c = count_without k n held in let o = once k in grind (arith, nat_tests)

  pub without_few : length aside + outside aside (without n held) ≤ 64
  without_few = let e = outside_without aside n held in omega arith

-- a held number that comes aside takes no new place
module _ (n : ℕ) (aside held : List ℕ) (few : length aside + outside aside held ≤ 64) (out : has n aside ≡ false) (on : has n held ≡ true) where
  pub aside_room : length aside < 64
  aside_room = let o = outside_one aside n held out on in omega arith

  pub aside_few : length (aside ++ (n ∷ [])) + outside (aside ++ (n ∷ [])) held ≤ 64
  aside_few = let o = outside_one aside n held out on in let l = length_push aside n in omega arith

-- one that is not held may go from aside
pub taken_few : (aside held : List ℕ) → length aside + outside aside held ≤ 64
    → length (front (λ x. has x held) aside ++ rest (back (λ x. has x held) aside)) + outside (front (λ x. has x held) aside ++ rest (back (λ x. has x held) aside)) held ≤ 64
taken_few aside held few = at (back (λ x. has x held) aside) refl
  where
    at : (ys : List ℕ) → back (λ x. has x held) aside ≡ ys → length (front (λ x. has x held) aside ++ rest ys) + outside (front (λ x. has x held) aside ++ rest ys) held ≤ 64
    at [] e =
        let w : aside ≡ front (λ x. has x held) aside ++ [] = front_back (λ x. has x held) aside ∙ ap (λ (zs : List ℕ). front (λ x. has x held) aside ++ zs) e in
        subst (λ (zs : List ℕ). length zs + outside zs held ≤ 64) w few
    at (n ∷ ys) e =
        let w : aside ≡ front (λ x. has x held) aside ++ (n ∷ ys) = front_back (λ x. has x held) aside ∙ ap (λ (zs : List ℕ). front (λ x. has x held) aside ++ zs) e in
        let f = subst (λ (zs : List ℕ). length zs + outside zs held ≤ 64) w few in
        let o = outside_less (front (λ x. has x held) aside) ys n held (back_first (λ x. has x held) n ys aside e) in
        let a = length-append (front (λ x. has x held) aside) (n ∷ ys) in
        let b = length-append (front (λ x. has x held) aside) ys in
        omega arith
