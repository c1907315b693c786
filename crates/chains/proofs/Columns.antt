-- One record of a chain table read through its columns.
use Rattle.std.proofs.Common.{◌≡◌, ℕ, zero, suc, ◌<◌, ◌≤◌, Bool, false, List, [], ◌∷◌, map, length, get_or, Some, None, refl, arith}
use lib.ListN.{length-map}
use lib.Seq.{map-set, map-set_same}
use Rattle.std.specs.List.{slice_get}
use Rattle.std.proofs.lemmas.List.{get_or-map, get_or_past}
use Rattle.chains.specs.declared.node.Node.{Node}
use Rattle.chains.specs.Tables.{Table, table, held, marks}

-- what a write to one record leaves in each column
pub ruleset writes = (map-set, map-set_same)

module _ {K V : Type 0} (ns : List (Node K V)) (x : ℕ) (alike : K → K → Bool) (k : K) where
  pub mark_is : (d : Node K V) → x < length ns → d ≡ get_or ns x d → get_or (marks alike k (table ns).keys) x false ≡ alike d.key k
  mark_is d h e = grind (arith, get_or-map (λ y. alike y k) (table ns).keys x d.key false, get_or-map (λ n. n.key) ns x d d.key, length-map)

  pub mark_out : length ns ≤ x → get_or (marks alike k (table ns).keys) x false ≡ false
  mark_out h = get_or_past (marks alike k (table ns).keys) x false (rw (length-map, length-map) h)

some_at : {V : Type 0} (vs : List V) (x : ℕ) → get_or (map (λ v. Some v) vs) x None ≡ slice_get vs x
some_at [] x = refl
some_at (v ∷ vs) zero = refl
some_at (v ∷ vs) (suc x) = some_at vs x

pub held_is : {V : Type 0} (vs : List V) (x : ℕ) → (x ≡ 0 → ⊥) → held vs x ≡ slice_get vs x
held_is vs x p = grind (arith, some_at)

-- two tables with the same columns are the same
pub same_table : {K V : Type 0} (s t : Table K V) → s.links ≡ t.links → s.keys ≡ t.keys → s.values ≡ t.values → s ≡ t
same_table s t a b d = grind arith

-- the columns have all that the records have
pub same_nodes : {K V : Type 0} (ns ms : List (Node K V)) → table ns ≡ table ms → ns ≡ ms
same_nodes [] [] e = refl
same_nodes [] (m ∷ ms) e = grind arith
same_nodes (n ∷ ns) [] e = grind arith
same_nodes (n ∷ ns) (m ∷ ms) e = grind (arith, same_nodes ns ms (grind arith))
