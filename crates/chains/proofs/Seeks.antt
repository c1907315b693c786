-- The first marked record of a chain, and the record of a key.
use Rattle.std.proofs.Common.{◌≡◌, ℕ, zero, suc, ◌<◌, Bool, true, false, cond, List, [], ◌∷◌, length, get_or, set, is_some, Some, None, refl, arith, get_or-set_other, get_or-set_same}
use lib.ListN.{length-map}
use lib.Seq.{map-set}
use Rattle.std.proofs.lemmas.Bool.{cases_Bool}
use Rattle.std.proofs.lemmas.Option.{slice_get_cases}
use Rattle.chains.specs.Chains.{Ends, seek, before, has, chain}
use Rattle.chains.specs.Tables.{marks, held}
use Rattle.stores.proofs.Laws.{Lawful, alike_eq}
use Rattle.chains.proofs.Columns.{held_is}
use Rattle.chains.proofs.Moves.{without}

pub seek_has : (ms : List Bool) (xs : List ℕ) → (seek ms xs ≡ 0 → ⊥) → (has (seek ms xs) xs ≡ true) × (get_or ms (seek ms xs) false ≡ true)
seek_has ms [] n = absurd (n refl)
seek_has ms (x ∷ xs) n = grind (arith, seek_has ms xs)

pub seek_none : (ms : List Bool) (ls : List ℕ) (at : ℕ) (xs : List ℕ) (y : ℕ) → Ends ls at xs → seek ms xs ≡ 0 → has y xs ≡ true → get_or ms y false ≡ false
seek_none ms ls at [] y e s h = absurd cc
seek_none ms ls at (x ∷ xs) y e s h = grind (arith, e.1, seek_none ms ls (get_or ls x 0) xs y e.3)

pub seek_same : (ms ns : List Bool) (xs : List ℕ) → ((y : ℕ) → has y xs ≡ true → get_or ms y false ≡ get_or ns y false) → seek ms xs ≡ seek ns xs
seek_same ms ns [] f = refl
seek_same ms ns (x ∷ xs) f = grind (arith, f x, seek_same ms ns xs (λ y h. f y (grind arith)))

pub seek_nought : (ms : List Bool) (xs : List ℕ) → ((y : ℕ) → has y xs ≡ true → get_or ms y false ≡ false) → seek ms xs ≡ 0
seek_nought ms [] f = refl
seek_nought ms (x ∷ xs) f = grind (arith, f x, seek_nought ms xs (λ y h. f y (grind arith)))

pub seek_without : (ms : List Bool) (x : ℕ) (xs : List ℕ) → get_or ms x false ≡ false → seek ms (without x xs) ≡ seek ms xs
seek_without ms x [] m = refl
seek_without ms x (z ∷ zs) m = grind (arith, seek_without ms x zs m)

-- the record before the first marked one leads to it, and is the head or a record of the run
pub before_on : (ms : List Bool) (xs ls : List ℕ) (p : ℕ) → Ends ls (get_or ls p 0) xs → (seek ms xs ≡ 0 → ⊥) → (seek ms xs ≡ get_or ls (before p ms xs) 0) × (has (before p ms xs) (p ∷ xs) ≡ true)
before_on ms [] ls p e n = absurd (n refl)
before_on ms (x ∷ xs) ls p e n = grind (arith, e.0, before_on ms xs ls x e.3)

module _ {V : Type 0} (vs : List V) (x : ℕ) where
  pub held_some : 0 < x → x < length vs → is_some (held vs x) ≡ true
  held_some p h = grind (arith, held_is, slice_get_cases)

  pub held_set_same : (v : V) → 0 < x → x < length vs → held (set vs x v) x ≡ Some v
  held_set_same v p h = grind (arith, map-set, get_or-set_same, length-map)

  pub held_set_other : (v : V) (y : ℕ) → (y ≡ x → ⊥) → held (set vs x v) y ≡ held vs y
  held_set_other v y n = grind (arith, map-set, get_or-set_other)

module _ {K : Type 0} (alike : K → K → Bool) (bucket : K → ℕ) (L : Lawful alike bucket) where
  -- the record of k in a table of these next indices and keys
  abbrev pub at : List ℕ → List K → K → ℕ
  at ls ks k = seek (marks alike k ks) (chain ls (bucket k))

  pub marks_eq : (k q : K) (ks : List K) → alike k q ≡ true → marks alike k ks ≡ marks alike q ks
  marks_eq k q [] e = refl
  marks_eq k q (y ∷ ys) e = grind (arith, alike_eq alike bucket L k q y e, marks_eq k q ys e)

  pub marks_two : (k q : K) (ks : List K) (x : ℕ) → get_or (marks alike k ks) x false ≡ true → get_or (marks alike q ks) x false ≡ true → alike k q ≡ true
  marks_two k q [] x a b = absurd cc
  marks_two k q (y ∷ ys) zero a b = L.transitive k y q (L.symmetric y k a) b
  marks_two k q (y ∷ ys) (suc x) a b = marks_two k q ys x a b

  pub spot_eq : (ls : List ℕ) (ks : List K) (k q : K) → alike k q ≡ true → at ls ks q ≡ at ls ks k
  spot_eq ls ks k q e = let m = marks_eq k q ks e in let b = L.shared k q e in cc

  pub spot_other : (ls : List ℕ) (ks : List K) (k q : K) → (at ls ks k ≡ 0 → ⊥) → alike k q ≡ false → at ls ks q ≡ at ls ks k → ⊥
  spot_other ls ks k q n f e = grind (arith, (seek_has (marks alike k ks) (chain ls (bucket k)) n).1, seek_has (marks alike q ks) (chain ls (bucket q)), marks_two k q ks (at ls ks k))

  -- a key's value is set anew
  pub replaced : {V : Type 0} (ls : List ℕ) (ks : List K) (vs : List V) (k : K) (v : V) → (at ls ks k ≡ 0 → ⊥) → at ls ks k < length vs
      → (q : K) → held (set vs (at ls ks k) v) (at ls ks q) ≡ cond (alike k q) (Some v) (held vs (at ls ks q))
  replaced ls ks vs k v n h q = grind (arith, cases_Bool (alike k q), spot_eq ls ks k q, spot_other ls ks k q n, held_set_same vs (at ls ks k) v, held_set_other vs (at ls ks k) v (at ls ks q))

  pub absent : {V : Type 0} (ls : List ℕ) (ks : List K) (vs : List V) (k : K) → at ls ks k ≡ 0
      → (q : K) → held vs (at ls ks q) ≡ cond (alike k q) None (held vs (at ls ks q))
  absent ls ks vs k e q = grind (arith, cases_Bool (alike k q), spot_eq ls ks k q)
