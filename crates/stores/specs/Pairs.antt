-- What a store means: pairs, one for a key at most, and a capacity.
use Rattle.std.specs.Prelude.{◌≡◌, ℕ, suc, ◌≤◌, Bool, true, false, cond, not, ◌&&◌, List, [], ◌∷◌, length, is_some, Some, None, Option, nat_le}

module _ {K V : Type 0} (alike : K → K → Bool) where
  -- the value of a key
  abbrev pub look : List (K × V) → K → Option V
  look [] q = None
  look (p ∷ ps) q = cond (alike p.0 q) (Some p.1) (look ps q)

  -- no two keys are the same
  abbrev pub Lone : List (K × V) → Type 0
  Lone [] = Unit {0}
  Lone (p ∷ ps) = (look ps p.0 ≡ None) × Lone ps

  -- what is found after k was set to w: at k that, elsewhere what was found before
  abbrev pub turned : (K → Option V) → K → Option V → K → Option V
  turned f k w q = cond (alike k q) w (f q)

  -- put refuses exactly when the key is new and the pairs are as many as the capacity
  abbrev pub full : List (K × V) → ℕ → K → Bool
  full ps c k = not (is_some (look ps k)) && nat_le c (length ps)

  -- what a store obeys
  pub record Kept (ps : List (K × V)) (c : ℕ) : Type 0 where
    pub lone : Lone ps
    pub room : length ps ≤ c

-- how many pairs there are after one was set, or dropped, at a key that had one or had none
abbrev pub more : Bool → ℕ → ℕ
more true n = n
more false n = suc n
