-- The laws of a key kind, as the lemmas take them.
use Rattle.std.proofs.Common.{◌≡◌, ℕ, ◌<◌, Bool, true, arith}

pub record Lawful {K : Type 0} (alike : K → K → Bool) (bucket : K → ℕ) : Type 0 where
  pub reflexive : (x : K) → alike x x ≡ true
  pub symmetric : (x y : K) → alike x y ≡ true → alike y x ≡ true
  pub transitive : (x y z : K) → alike x y ≡ true → alike y z ≡ true → alike x z ≡ true
  pub small : (x : K) → bucket x < 16
  pub shared : (x y : K) → alike x y ≡ true → bucket x ≡ bucket y

module _ {K : Type 0} (alike : K → K → Bool) (bucket : K → ℕ) (L : Lawful alike bucket) where
  -- what is the same as one of two same keys is the same as the other
  pub alike_eq : (k q y : K) → alike k q ≡ true → alike y k ≡ alike y q
  alike_eq k q y e = grind (arith, L.transitive, L.symmetric, e)
