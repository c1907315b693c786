-- A table whose free chain has every record past the heads is sound and has no pair.
use Rattle.std.proofs.Common.{◌≡◌, ℕ, zero, suc, ◌+◌, ◌-◌, ◌<◌, ◌≤◌, Bool, true, List, [], length, get_or, set, sym, refl, ap, ◌∙◌, ⊎_elim, arith}
use lib.ListN.{length-map}
use lib.Seq.{map-set}
use Rattle.std.proofs.lemmas.Bool.{cases_eq}
use Rattle.std.specs.List.{range_with_len, flat_map}
use Rattle.std.proofs.lemmas.List.{nil_from_length}
use Rattle.std.proofs.lemmas.List.Edits.{fill_by_more}
use Rattle.std.proofs.lemmas.List.FromFn.{length-range_with_len, fill_by_all}
use Rattle.chains.specs.declared.node.Node.{Node}
use Rattle.chains.specs.Chains.{run, Ends, has, chain, in_use, Linked, laid}
use Rattle.chains.specs.Tables.{table, fresh_table, Sound, pairs, pair_at}
use Rattle.chains.proofs.Columns.{same_table}
use Rattle.chains.proofs.Walks.{run_ends, run_zero}
use Rattle.chains.proofs.Shifts.{in_use_more, in_use_none}

module _ (ls : List ℕ) (L : (i : ℕ) → i < length ls → get_or ls i 0 ≡ laid (length ls) i) (long : 18 ≤ length ls) (short : length ls ≤ 65536) where
  climb : (m i : ℕ) → 17 ≤ i → i + suc m ≡ length ls → Ends ls i (range_with_len i (suc m))
  climb zero i l e = (refl, l, omega arith, grind (arith, L i))
  climb (suc m) i l e =
      let next : get_or ls i 0 ≡ i + 1 = grind (arith, L i) in
      (refl, l, omega arith, rw next (climb m (i + 1) (omega arith) (omega arith)))

  heads : (h : ℕ) → h < 16 → get_or ls h 0 ≡ 0
  heads h l = grind (arith, L h)

  bare : (h : ℕ) → h < 16 → chain ls h ≡ []
  bare h l = ap (run (length ls) ls) (heads h l) ∙ run_zero (length ls) ls

  first : get_or ls 16 0 ≡ 17
  first = grind (arith, L 16)

  abbrev free : List ℕ
  free = range_with_len 17 (suc (length ls - 18))

  free_ends : Ends ls (get_or ls 16 0) free
  free_ends = rw first (climb (length ls - 18) 17 (omega arith) (omega arith))

  free_is : chain ls 16 ≡ free
  free_is = run_ends free (length ls) ls (get_or ls 16 0) free_ends (omega (arith, length-range_with_len 17 (suc (length ls - 18))))

  pub nought : (h : ℕ) → h ≤ 16 → length (in_use ls h) ≡ 0
  nought zero l = in_use_none ls
  nought (suc h) l = omega (arith, nought h (omega arith), in_use_more ls h, ap length (bare h (omega arith)))

  free_count : length (chain ls 16) + 17 ≡ length ls
  free_count = omega (arith, ap length free_is, length-range_with_len 17 (suc (length ls - 18)))

  nowhere : (h x : ℕ) → h < 16 → has x (chain ls h) ≡ true → ⊥
  nowhere h x l t = grind (arith, bare h l)

  sixteen : (h x : ℕ) → h < 17 → has x (chain ls h) ≡ true → h ≡ 16
  sixteen h x l t = grind (arith, nowhere h x)

  pub fresh_linked : Linked ls
  fresh_linked = record {
    long = long;
    short = short;
    ends = λ h l.
        ⊎_elim (λ (e : h ≡ 16). rw (e, free_is) free_ends)
        (λ (n : h ≡ 16 → ⊥). let s : h < 16 = omega arith in rw (bare h s) (heads h s))
        (cases_eq h 16);
    apart = λ h i x l k s t. sixteen h x l s ∙ sym (sixteen i x k t);
    all = omega (arith, in_use_more ls 16, nought 16 (omega arith), free_count);
  }

  pub fresh_sound : {K V : Type 0} (alike : K → K → Bool) (bucket : K → ℕ) → ((x : K) → bucket x < 16) → (ks : List K) (vs : List V) → length ks ≡ length ls → length vs ≡ length ls
      → Sound alike bucket (record { links = ls; keys = ks; values = vs })
  fresh_sound alike bucket small ks vs w d = record {
    linked = fresh_linked;
    wide = w;
    deep = d;
    homed = λ h x l t. absurd (nowhere h x l t);
    lone = λ k x y t. absurd (nowhere (bucket k) x (small k) t);
  }

-- one more record laid out
pub laid_more : {K V : Type 0} (f : ℕ → ℕ) (ns : List (Node K V)) (i : ℕ) (m : Node K V) → i < length ns → m.next ≡ f i
    → ((k : ℕ) → k < i → get_or (table ns).links k 0 ≡ f k) → (k : ℕ) → k < i + 1 → get_or (table (set ns i m)).links k 0 ≡ f k
laid_more f ns i m h e L k l =
    ap (λ (zs : List ℕ). get_or zs k 0) (map-set (λ n. n.next) ns i m ∙ ap (set (table ns).links i) e) ∙ fill_by_more f (table ns).links i 0 (rw length-map h) L k l

-- what is left once every record was laid out
module _ {K V : Type 0} (alike : K → K → Bool) (bucket : K → ℕ) where
  pub record Formatted (old ns : List (Node K V)) : Type 0 where
    pub after : table ns ≡ fresh_table (table old)
    pub sound : Sound alike bucket (table ns)
    pub empty : pairs ns ≡ []

  pub formatted : ((x : K) → bucket x < 16) → (old ns : List (Node K V)) → length ns ≡ length old → 18 ≤ length old → length old ≤ 65536
      → ((k : ℕ) → k < length old → get_or (table ns).links k 0 ≡ laid (length old) k) → (table ns).keys ≡ (table old).keys → (table ns).values ≡ (table old).values
      → Formatted old ns
  formatted small old ns size long short L ks vs =
      let n = length (table old).links in
      let ls = (table ns).links in
      let m : n ≡ length old = length-map old (λ n. n.next) in
      let s : length ls ≡ length old = length-map ns (λ n. n.next) ∙ size in
      let L' : (k : ℕ) → k < length ls → get_or ls k 0 ≡ laid (length ls) k = λ k h. L k (omega arith) ∙ ap (λ (j : ℕ). laid j k) (sym s) in
      record {
        after = same_table (table ns) (fresh_table (table old)) (fill_by_all (laid n) ls n 0 (s ∙ sym m) (λ k h. L k (omega arith) ∙ ap (λ (j : ℕ). laid j k) (sym m))) ks vs;
        sound = fresh_sound ls L' (omega arith) (omega arith) alike bucket small (table ns).keys (table ns).values
            (length-map ns (λ n. n.key) ∙ sym (length-map ns (λ n. n.next))) (length-map ns (λ n. n.value) ∙ sym (length-map ns (λ n. n.next)));
        empty = ap (flat_map (pair_at ns)) (nil_from_length (in_use ls 16) (nought ls L' (omega arith) (omega arith) 16 (omega arith)));
      }
