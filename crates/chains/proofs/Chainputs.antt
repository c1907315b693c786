-- What put leaves in a chain table is what a store's put leaves.
use Rattle.std.proofs.Common.{◌≡◌, ℕ, ◌<◌, Bool, true, false, cond, List, length, get_or, is_some, Some, refl, ap, ⊎_elim, arith, length-set}
use lib.ListN.{length-map}
use Rattle.std.proofs.lemmas.Bool.{cases_eq, cases_Bool}
use Rattle.chains.specs.declared.node.Node.{Node}
use Rattle.chains.specs.Chains.{chain, in_use, link, unlink}
use Rattle.stores.specs.Pairs.{look, turned, full, more}
use Rattle.chains.specs.Tables.{Table, table, marks, spot, found, free, set_value, take_free, put_table, Sound, pairs, room}
use Rattle.chains.proofs.Columns.{same_nodes}
use Rattle.chains.proofs.Gathers.{look_pairs, length_pairs, full_is}
use Rattle.stores.proofs.Laws.{Lawful}
use Rattle.chains.proofs.Puts.{put_new, put_sound, put_count}
use Rattle.chains.proofs.Seeks.{replaced, held_some}
use Rattle.chains.proofs.Shifts.{moved, free_inside}
use Rattle.chains.proofs.Walks.{seek_within}

put_size : {K V : Type 0} (alike : K → K → Bool) (bucket : K → ℕ) (t : Table K V) (k : K) (v : V) → length (put_table alike bucket t k v).links ≡ length t.links
put_size alike bucket t k v = grind (arith, length-set)

-- what a put must show of the table that it leaves
record Means {K V : Type 0} (alike : K → K → Bool) (bucket : K → ℕ) (t u : Table K V) (k : K) (v : V) : Type 0 where
  pub sound : Sound alike bucket u
  pub finds : (q : K) → found alike bucket u q ≡ cond (alike k q) (Some v) (found alike bucket t q)
  pub many : length (in_use u.links 16) ≡ more (is_some (found alike bucket t k)) (length (in_use t.links 16))

module _ {K V : Type 0} (alike : K → K → Bool) (bucket : K → ℕ) (L : Lawful alike bucket) (t : Table K V) (k : K) (v : V) (S : Sound alike bucket t) where
  set_means : (spot alike bucket t k ≡ 0 → ⊥) → Means alike bucket t (set_value t (spot alike bucket t k) v) k v
  set_means n =
      let within : spot alike bucket t k < length t.values =
      omega (arith, S.deep, seek_within t.links (marks alike k t.keys) (get_or t.links (bucket k) 0) (chain t.links (bucket k)) (omega (arith, S.linked.long)) (S.linked.ends (bucket k) (omega (arith, L.small k)))) in
      record {
        sound = record { linked = S.linked; wide = S.wide; deep = grind (arith, length-set, S.deep); homed = S.homed; lone = S.lone };
        finds = replaced alike bucket L t.links t.keys t.values k v n within;
        many = grind (arith, held_some t.values (spot alike bucket t k));
      }

  new_means : spot alike bucket t k ≡ 0 → (free t ≡ 0 → ⊥) → Means alike bucket t (take_free alike bucket t k v) k v
  new_means z n =
      let ls = t.links in
      let M = moved ls 16 16 (bucket k) (free t) S.linked (omega arith) (omega (arith, L.small k)) (λ e. omega (arith, L.small k)) (grind arith) refl (omega arith) in
      let h = (free_inside ls (free t) S.linked refl (omega arith)).0 in
      let ls' = link (unlink ls 16) (free t) (bucket k) in
      record {
        sound = put_sound alike bucket L t ls' k v (free t) S z M h;
        finds = put_new alike bucket L t ls' k v (free t) S z M h;
        many = grind (arith, put_count alike bucket L t ls' k v (free t) S z M h);
      }

module _ {K V : Type 0} (alike : K → K → Bool) (bucket : K → ℕ) (L : Lawful alike bucket) (ns ns' : List (Node K V)) (k : K) (v : V)
    (e : table ns' ≡ put_table alike bucket (table ns) k v) where
  pub put_room : room ns' ≡ room ns
  put_room = omega (arith, length-map ns (λ n. n.next), length-map ns' (λ n. n.next), ap (λ (u : Table K V). length u.links) e, put_size alike bucket (table ns) k v)

  module _ (S : Sound alike bucket (table ns)) where
    abbrev t : Table K V
    t = table ns

    pub put_refused : full alike (pairs ns) (room ns) k ≡ true → ns' ≡ ns
    put_refused f = same_nodes ns' ns (grind (arith, full_is alike bucket L ns S k))

    means : full alike (pairs ns) (room ns) k ≡ false → Means alike bucket t (table ns') k v
    means f =
        ⊎_elim (λ (z : spot alike bucket t k ≡ 0). ⊎_elim (λ (n : free t ≡ 0). absurd (grind (arith, full_is alike bucket L ns S k))) (λ (n : free t ≡ 0 → ⊥). grind (arith, new_means alike bucket L t k v S z n)) (cases_eq (free t) 0))
        (λ (n : spot alike bucket t k ≡ 0 → ⊥). grind (arith, set_means alike bucket L t k v S n))
        (cases_eq (spot alike bucket t k) 0)

    pub put_stays : Sound alike bucket (table ns')
    put_stays =
        ⊎_elim (λ (f : full alike (pairs ns) (room ns) k ≡ true). grind (arith, put_refused f))
        (λ (f : full alike (pairs ns) (room ns) k ≡ false). (means f).sound)
        (cases_Bool (full alike (pairs ns) (room ns) k))

    pub put_found : full alike (pairs ns) (room ns) k ≡ false → (q : K) → look alike (pairs ns') q ≡ turned alike (look alike (pairs ns)) k (Some v) q
    put_found f q = grind (arith, look_pairs alike bucket L ns' put_stays q, (means f).finds q, look_pairs alike bucket L ns S q)

    pub put_many : full alike (pairs ns) (room ns) k ≡ false → length (pairs ns') ≡ more (is_some (look alike (pairs ns) k)) (length (pairs ns))
    put_many f = grind (arith, length_pairs alike bucket L ns' put_stays, (means f).many, length_pairs alike bucket L ns S, look_pairs alike bucket L ns S k)
