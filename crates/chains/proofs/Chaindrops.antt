-- What drop leaves in a chain table is what a store's drop leaves.
use Rattle.std.proofs.Common.{◌≡◌, ℕ, suc, Bool, false, not, eqb, List, length, is_some, None, ap, ⊎_elim, arith, length-set}
use lib.ListN.{length-map}
use Rattle.std.proofs.lemmas.Bool.{cases_eq}
use Rattle.chains.specs.declared.node.Node.{Node}
use Rattle.chains.specs.Chains.{chain, link, unlink}
use Rattle.stores.specs.Pairs.{look, turned, more}
use Rattle.chains.specs.Tables.{Table, table, marks, spot, spot_before, drop_table, Sound, pairs, room}
use Rattle.chains.proofs.Columns.{same_nodes}
use Rattle.chains.proofs.Drops.{dropped, dropped_sound, dropped_count}
use Rattle.chains.proofs.Gathers.{look_pairs, length_pairs, spot_held}
use Rattle.stores.proofs.Laws.{Lawful}
use Rattle.chains.proofs.Moves.{Moved}
use Rattle.chains.proofs.Seeks.{absent, before_on}
use Rattle.chains.proofs.Shifts.{moved}

module _ {K V : Type 0} (alike : K → K → Bool) (bucket : K → ℕ) (t : Table K V) (k : K) where
  abbrev out : Table K V
  out = record { links = link (unlink t.links (spot_before alike bucket t k)) (spot alike bucket t k) 16; keys = t.keys; values = t.values }

  drop_size : length (drop_table alike bucket t k).links ≡ length t.links
  drop_size = grind (arith, length-set)

  out_moved : Lawful alike bucket → Sound alike bucket t → (spot alike bucket t k ≡ 0 → ⊥) → Moved t.links out.links (bucket k) 16 (spot alike bucket t k)
  out_moved L S n =
      let small = L.small k in
      let b = before_on (marks alike k t.keys) (chain t.links (bucket k)) t.links (bucket k) (S.linked.ends (bucket k) (omega (arith, small))) n in
      moved t.links (bucket k) (spot_before alike bucket t k) 16 (spot alike bucket t k) S.linked (omega (arith, small)) (omega arith) (λ e. omega (arith, small)) b.1 b.0 (omega arith)

module _ {K V : Type 0} (alike : K → K → Bool) (bucket : K → ℕ) (L : Lawful alike bucket) (ns ns' : List (Node K V)) (k : K) (r : Bool)
    (a : r ≡ not (eqb (spot alike bucket (table ns) k) 0)) (e : table ns' ≡ drop_table alike bucket (table ns) k) where
  abbrev t : Table K V
  t = table ns

  pub drop_room : room ns' ≡ room ns
  drop_room = omega (arith, length-map ns (λ n. n.next), length-map ns' (λ n. n.next), ap (λ (u : Table K V). length u.links) e, drop_size alike bucket t k)

  pub drop_refused : r ≡ false → ns' ≡ ns
  drop_refused f = same_nodes ns' ns (grind arith)

  module _ (S : Sound alike bucket (table ns)) where
    pub drop_answer : r ≡ is_some (look alike (pairs ns) k)
    drop_answer = grind (arith, spot_held alike bucket L ns S k, look_pairs alike bucket L ns S k)

    pub drop_stays : Sound alike bucket (table ns')
    drop_stays =
        ⊎_elim (λ (z : spot alike bucket t k ≡ 0). grind arith)
        (λ (z : spot alike bucket t k ≡ 0 → ⊥). grind (arith, dropped_sound alike bucket L t (out alike bucket t k).links k S z (out_moved alike bucket t k L S z)))
        (cases_eq (spot alike bucket t k) 0)

    pub drop_found : (q : K) → look alike (pairs ns') q ≡ turned alike (look alike (pairs ns)) k None q
    drop_found q =
        let l = look_pairs alike bucket L ns' drop_stays q in
        ⊎_elim (λ (z : spot alike bucket t k ≡ 0). grind (arith, l, absent alike bucket L t.links t.keys t.values k z q, look_pairs alike bucket L ns S q))
        (λ (z : spot alike bucket t k ≡ 0 → ⊥). grind (arith, l, dropped alike bucket L t (out alike bucket t k).links k S z (out_moved alike bucket t k L S z) q, look_pairs alike bucket L ns S q))
        (cases_eq (spot alike bucket t k) 0)

    pub drop_many : more r (length (pairs ns)) ≡ suc (length (pairs ns'))
    drop_many =
        ⊎_elim (λ (z : spot alike bucket t k ≡ 0). grind (arith, drop_refused))
        (λ (z : spot alike bucket t k ≡ 0 → ⊥).
        grind (arith, length_pairs alike bucket L ns S, length_pairs alike bucket L ns' drop_stays, dropped_count alike bucket L t (out alike bucket t k).links k S z (out_moved alike bucket t k L S z)))
        (cases_eq (spot alike bucket t k) 0)
