-- A key's record moved to the free chain: what is found then, and that the table stays sound.
use Rattle.std.proofs.Common.{◌≡◌, ℕ, suc, ◌<◌, Bool, true, false, cond, List, length, get_or, None, sym, ap, ◌∙◌, arith}
use Rattle.std.proofs.lemmas.Bool.{cases_eq, cases_Bool}
use Rattle.chains.specs.Chains.{has, chain, in_use}
use Rattle.chains.specs.Tables.{Table, marks, held, Sound}
use Rattle.stores.proofs.Laws.{Lawful}
use Rattle.chains.proofs.Moves.{without, Moved, without_has, gone}
use Rattle.chains.proofs.Shifts.{in_use_more}
use Rattle.chains.proofs.Seeks.{seek_has, seek_nought, seek_without, at, marks_eq, marks_two}

-- the key k is taken out: its record is moved to the free chain
module _ {K V : Type 0} (alike : K → K → Bool) (bucket : K → ℕ) (L : Lawful alike bucket)
    (t : Table K V) (ls' : List ℕ) (k : K) (S : Sound alike bucket t) (n : at alike bucket L t.links t.keys k ≡ 0 → ⊥) (M : Moved t.links ls' (bucket k) 16 (at alike bucket L t.links t.keys k)) where
  abbrev ls : List ℕ
  ls = t.links

  abbrev ks : List K
  ks = t.keys

  abbrev out : ℕ
  out = at alike bucket L ls ks k

  -- the record that k had
  found_out : (has out (chain ls (bucket k)) ≡ true) × (get_or (marks alike k ks) out false ≡ true)
  found_out = seek_has (marks alike k ks) (chain ls (bucket k)) n

  other : (h : ℕ) → h < 16 → (h ≡ bucket k → ⊥) → chain ls' h ≡ chain ls h
  other h l m = M.others h (omega arith) m (λ (z : h ≡ 16). omega arith)

  subset : (h y : ℕ) → h < 16 → has y (chain ls' h) ≡ true → has y (chain ls h) ≡ true
  subset h y l t = grind (arith, cases_eq h (bucket k), M.from, other h l, without_has out y (chain ls (bucket k)))

  pub dropped_sound : Sound alike bucket (record { links = ls'; keys = ks; values = t.values })
  dropped_sound = record {
    linked = M.linked;
    wide = S.wide ∙ sym M.size;
    deep = S.deep ∙ sym M.size;
    homed = λ h y l t. S.homed h y l (subset h y l t);
    lone = λ q y z a b. S.lone q y z (subset (bucket q) y (L.small q) a) (subset (bucket q) z (L.small q) b);
  }

  pub dropped_spot : (q : K) → alike k q ≡ false → at alike bucket L ls' ks q ≡ at alike bucket L ls ks q
  dropped_spot q f =
      let unmarked : get_or (marks alike q ks) out false ≡ false = grind (arith, marks_two alike bucket L k q ks out, found_out.1) in
      grind (arith, cases_eq (bucket q) (bucket k), M.from, other (bucket q), L.small q, seek_without (marks alike q ks) out (chain ls (bucket k)) unmarked)

  pub dropped_gone : (q : K) → alike k q ≡ true → at alike bucket L ls' ks q ≡ 0
  dropped_gone q t =
      let ms = marks alike q ks in
      let e = L.shared k q t in
      let m : get_or ms out false ≡ true = grind (arith, found_out.1, marks_eq alike bucket L k q ks t) in
      let g = gone (chain ls (bucket k)) ls (get_or ls (bucket k) 0) out (S.linked.ends (bucket k) (omega (arith, L.small k))) in
      let none = seek_nought ms (without out (chain ls (bucket k))) (λ y h. grind (arith, without_has out y (chain ls (bucket k)), S.lone q y out, found_out.0, g)) in
      grind (arith, M.from, none)

  abbrev vs : List V
  vs = t.values

  pub dropped : (q : K) → held vs (at alike bucket L ls' ks q) ≡ cond (alike k q) None (held vs (at alike bucket L ls ks q))
  dropped q = grind (arith, cases_Bool (alike k q), dropped_gone q, dropped_spot q)

  pub dropped_count : length (in_use ls 16) ≡ suc (length (in_use ls' 16))
  dropped_count = omega (arith, M.size, ap length M.to, in_use_more ls 16, in_use_more ls' 16, M.linked.all, S.linked.all)
