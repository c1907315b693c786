-- Texts whose bytes are all of one kind, and two ways to say that a byte is one of the 29. Nothing is assumed.
use Rattle.std.proofs.Common.{◌≡◌, ℕ, zero, suc, ◌+◌, ◌<◌, Bool, true, false, cond, ◌&&◌, eqb, List, [], ◌∷◌, ◌++◌, is_some, Some, Option, sym, refl, ◌∙◌, subst, ⊎_elim, arith, rules}
use Rattle.std.proofs.lemmas.Bool.{and_parts, and_from, eqb-true, false≢true, cases_eq, cond-true}
use Rattle.names.specs.Alphabet.{alphabet, place_from, is_of_29}
use Rattle.names.specs.Forms.{all_of}
use Rattle.names.specs.Reader.{of_29}

pub all_push : (f : ℕ → Bool) (bs : List ℕ) (b : ℕ) → all_of f bs ≡ true → f b ≡ true → all_of f (bs ++ (b ∷ [])) ≡ true
all_push f [] b a h = and_from (f b) true h refl
all_push f (x ∷ bs) b a h =
    let of = and_parts (f x) (all_of f bs) a in
    and_from (f x) (all_of f (bs ++ (b ∷ []))) of.0 (all_push f bs b of.1 h)

-- bytes of one kind are of another
pub all_as : (f g : ℕ → Bool) (bs : List ℕ) → ((b : ℕ) → f b ≡ true → g b ≡ true) → all_of f bs ≡ true → all_of g bs ≡ true
all_as f g [] h a = refl
all_as f g (b ∷ bs) h a =
    let of = and_parts (f b) (all_of f bs) a in
    and_from (g b) (all_of g bs) (h b of.0) (all_as f g bs h of.1)

pub all_both : (f : ℕ → Bool) (xs ys : List ℕ) → all_of f xs ≡ true → all_of f ys ≡ true → all_of f (xs ++ ys) ≡ true
all_both f [] ys a b = b
all_both f (x ∷ xs) ys a b =
    let of = and_parts (f x) (all_of f xs) a in
    and_from (f x) (all_of f (xs ++ ys)) of.0 (all_both f xs ys of.1 b)

-- a byte with a place in a list is of the kind of the list's bytes
found_at : (t : Bool) (f : ℕ → Bool) (b x n : ℕ) (r : Option ℕ) → eqb b x ≡ t → f x ≡ true → (is_some r ≡ true → f b ≡ true)
    → is_some (cond t (Some n) r) ≡ true → f b ≡ true
found_at true f b x n r e h more is = subst (λ (v : ℕ). f v ≡ true) (sym (eqb-true b x e)) h
found_at false f b x n r e h more is = more is

found : (f : ℕ → Bool) (xs : List ℕ) (n b : ℕ) → all_of f xs ≡ true → is_some (place_from n b xs) ≡ true → f b ≡ true
found f [] n b a is = absurd (false≢true is)
found f (x ∷ xs) n b a is =
    let of = and_parts (f x) (all_of f xs) a in
    found_at (eqb b x) f b x n (place_from (n + 1) b xs) refl of.0 (found f xs (n + 1) b of.1) is

pub reader_29 : (b : ℕ) → is_of_29 b ≡ true → of_29 b ≡ true
reader_29 b e = found of_29 alphabet 0 b refl e

-- a test that holds of each number below n
below : ℕ → (ℕ → Bool) → Bool
below zero f = true
below (suc n) f = f n && below n f

from_below : (n : ℕ) (f : ℕ → Bool) → below n f ≡ true → (b : ℕ) → b < n → f b ≡ true
unfolding below
from_below zero f h b lt = absurd (omega arith)
from_below (suc n) f h b lt =
    let of = and_parts (f n) (below n f) h in
    ⊎_elim (λ (e : b ≡ n). subst (λ (v : ℕ). f v ≡ true) (sym e) of.0) (λ (ne : b ≡ n → ⊥). from_below n f of.1 b (omega (arith, ne))) (cases_eq b n)

agrees : ℕ → Bool
agrees b = cond (of_29 b) (is_of_29 b) true

agree : below 123 agrees ≡ true
unfolding below agrees
agree = refl

small_29 : (b : ℕ) → of_29 b ≡ true → b < 123
small_29 b e = search rules

pub grammar_29 : (b : ℕ) → of_29 b ≡ true → is_of_29 b ≡ true
unfolding agrees
grammar_29 b e = sym (cond-true (of_29 b) (is_of_29 b) true e) ∙ from_below 123 agrees agree b (small_29 b e)
