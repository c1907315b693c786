-- A free record moved to the chain of a new key: what is found then, and that the table stays sound.
use Rattle.std.proofs.Common.{◌≡◌, ℕ, suc, ◌<◌, ◌≤◌, Bool, true, false, cond, ◌⊎◌, List, length, get_or, set, Some, sym, ◌∙◌, arith, length-set, get_or-set_other, get_or-set_same}
use lib.ListN.{length-map}
use lib.Seq.{map-set}
use Rattle.std.proofs.lemmas.Bool.{cases_eq, cases_Bool}
use Rattle.chains.specs.Chains.{seek, has, chain, in_use}
use Rattle.chains.specs.Tables.{Table, marks, held, Sound}
use Rattle.stores.proofs.Laws.{Lawful}
use Rattle.chains.proofs.Moves.{Moved, suffix}
use Rattle.chains.proofs.Shifts.{in_use_more}
use Rattle.chains.proofs.Seeks.{seek_has, seek_none, seek_same, held_set_same, held_set_other, at, marks_eq}

-- a new key: the record x of the free chain is moved to the front of the key's chain
module _ {K V : Type 0} (alike : K → K → Bool) (bucket : K → ℕ) (L : Lawful alike bucket)
    (t : Table K V) (ls' : List ℕ) (k : K) (v : V) (x : ℕ) (S : Sound alike bucket t) (none : at alike bucket L t.links t.keys k ≡ 0) (M : Moved t.links ls' 16 (bucket k) x) (hx : has x (chain t.links 16) ≡ true) where
  abbrev ls : List ℕ
  ls = t.links

  abbrev ks : List K
  ks = t.keys

  xin : (17 ≤ x) × (x < length ls)
  xin = let r = suffix (chain ls 16) ls (get_or ls 16 0) x hx (S.linked.ends 16 (omega arith)) in (r.1.1, r.1.2)

  xout : (h : ℕ) → h < 16 → has x (chain ls h) ≡ false
  xout h l = grind (arith, S.linked.apart h 16 x)

  apartx : (h y : ℕ) → h < 16 → has y (chain ls h) ≡ true → y ≡ x → ⊥
  apartx h y l t e = grind (arith, xout h)

  mark_here : (q : K) → get_or (marks alike q (set ks x k)) x false ≡ alike k q
  mark_here q = grind (arith, map-set, get_or-set_same, length-map, S.wide, xin.1)

  mark_there : (q : K) (y : ℕ) → (y ≡ x → ⊥) → get_or (marks alike q (set ks x k)) y false ≡ get_or (marks alike q ks) y false
  mark_there q y m = grind (arith, map-set, get_or-set_other)

  sought : (q : K) (h : ℕ) → h < 16 → seek (marks alike q (set ks x k)) (chain ls h) ≡ seek (marks alike q ks) (chain ls h)
  sought q h l = seek_same (marks alike q (set ks x k)) (marks alike q ks) (chain ls h) (λ y t. mark_there q y (apartx h y l t))

  seldom : (ms : List Bool) (h : ℕ) → h < 16 → seek ms (chain ls h) ≡ x → ⊥
  seldom ms h l e = apartx h (seek ms (chain ls h)) l (seek_has ms (chain ls h) (λ (z : seek ms (chain ls h) ≡ 0). omega (arith, xin.0))).0 e

  other_than : (h : ℕ) → h < 16 → (h ≡ bucket k → ⊥) → chain ls' h ≡ chain ls h
  other_than h l m = M.others h (omega arith) (λ (z : h ≡ 16). omega arith) m

  abbrev vs : List V
  vs = t.values

  -- the record that a key has then
  new_at : (q : K) → at alike bucket L ls' (set ks x k) q ≡ cond (alike k q) x (at alike bucket L ls ks q)
  new_at q = grind (arith, cases_eq (bucket q) (bucket k), M.to, other_than (bucket q), L.small q, L.shared k q, mark_here q, sought q (bucket q))

  pub put_new : (q : K) → held (set vs x v) (at alike bucket L ls' (set ks x k) q) ≡ cond (alike k q) (Some v) (held vs (at alike bucket L ls ks q))
  put_new q = grind (arith, new_at q, cases_Bool (alike k q), held_set_same vs x v, held_set_other vs x v (at alike bucket L ls ks q), seldom (marks alike q ks) (bucket q), L.small q, xin, S.deep)

  -- a record of a chain is the new one, in the chain of k, or was there before
  old_or_new : (h y : ℕ) → h < 16 → has y (chain ls' h) ≡ true → ((y ≡ x) × (h ≡ bucket k)) ⊎ ((y ≡ x → ⊥) × (has y (chain ls h) ≡ true))
  old_or_new h y l t = grind (arith, cases_eq h (bucket k), cases_eq y x, M.to, other_than h l, apartx h y l)

  -- no record but the new one has the key
  never : (q : K) (z : ℕ) → bucket q ≡ bucket k → alike k q ≡ true → has z (chain ls (bucket q)) ≡ true → get_or (marks alike q ks) z false ≡ true → ⊥
  never q z e t h m = grind (arith, marks_eq alike bucket L k q ks t, seek_none (marks alike k ks) ls (get_or ls (bucket k) 0) (chain ls (bucket k)) z (S.linked.ends (bucket k) (omega (arith, L.small k))) none)

  pub put_sound : Sound alike bucket (record { links = ls'; keys = set ks x k; values = set t.values x v })
  put_sound = record {
    linked = M.linked;
    wide = length-set ks x k ∙ S.wide ∙ sym M.size;
    deep = length-set t.values x v ∙ S.deep ∙ sym M.size;
    homed = λ h y l t. grind (arith, old_or_new h y l t, map-set, get_or-set_same, get_or-set_other, length-map, S.wide, xin.1, S.homed h y l);
    lone = λ q y z hy hz my mz.
        grind (arith, old_or_new (bucket q) y (L.small q) hy, old_or_new (bucket q) z (L.small q) hz, mark_here q, mark_there q y, mark_there q z, never q y, never q z, S.lone q y z);
  }

  pub put_count : length (in_use ls' 16) ≡ suc (length (in_use ls 16))
  put_count = omega (arith, M.size, M.less, in_use_more ls 16, in_use_more ls' 16, M.linked.all, S.linked.all)
