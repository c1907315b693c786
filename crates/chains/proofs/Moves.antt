-- Runs of records: who is in them, what a write leaves, and a record taken out of one.
use Rattle.std.proofs.Common.{◌≡◌, ◌≢◌, ℕ, ◌+◌, ◌<◌, ◌≤◌, true, false, cond, eqb, List, [], ◌∷◌, length, get_or, set, sym, refl, ap, ◌∙◌, subst, ⊎_elim, arith, length-set, get_or-set_other, get_or-set_same}
use Rattle.std.proofs.lemmas.Bool.{cases_eq, cases_Bool}
use Rattle.chains.specs.Chains.{Ends, has, chain, Linked}

-- xs but for its first x
abbrev pub without : ℕ → List ℕ → List ℕ
without x [] = []
without x (y ∷ ys) = cond (eqb x y) ys (y ∷ without x ys)

-- prev is the head p, or a record of its chain
abbrev pub On : List ℕ → ℕ → ℕ → Type 0
On ls p prev = has prev (p ∷ chain ls p) ≡ true

-- the record x of the chain p is at the front of the chain q now
pub record Moved (ls ls' : List ℕ) (p q x : ℕ) : Type 0 where
  pub size : length ls' ≡ length ls
  pub linked : Linked ls'
  pub from : chain ls' p ≡ without x (chain ls p)
  pub to : chain ls' q ≡ x ∷ chain ls q
  pub others : (h : ℕ) → h < 17 → (h ≡ p → ⊥) → (h ≡ q → ⊥) → chain ls' h ≡ chain ls h
  pub less : length (chain ls' p) + 1 ≡ length (chain ls p)

pub at_front : (x : ℕ) (xs zs : List ℕ) → xs ≡ x ∷ zs → has x xs ≡ true
at_front x xs zs e = rw e (grind arith)

-- a write outside a run leaves it
pub frame : (xs ls : List ℕ) (at i v : ℕ) → has i xs ≡ false → Ends ls at xs → Ends (set ls i v) at xs
frame [] ls at i v h e = e
frame (x ∷ xs) ls at i v h e =
    let n : x ≢ i = grind arith in
    let m : has i xs ≡ false = grind arith in
    (e.0, e.1, omega (arith, length-set ls i v, e.2), rw (get_or-set_other ls i x v 0 n) (frame xs ls (get_or ls x 0) i v m e.3))

pub unique : (xs ys ls : List ℕ) (at : ℕ) → Ends ls at xs → Ends ls at ys → xs ≡ ys
unique [] [] ls at e d = refl
unique [] (y ∷ ys) ls at e d = absurd (omega (arith, e, d.0, d.1))
unique (x ∷ xs) [] ls at e d = absurd (omega (arith, d, e.0, e.1))
unique (x ∷ xs) (y ∷ ys) ls at e d =
    let q : y ≡ x = sym d.0 ∙ e.0 in
    let t : xs ≡ ys = unique xs ys ls (get_or ls x 0) e.3 (subst (λ (z : ℕ). Ends ls (get_or ls z 0) ys) q d.3) in
    cc

pub suffix : (ys ls : List ℕ) (at y : ℕ) → has y ys ≡ true → Ends ls at ys → (zs : List ℕ) × Ends ls y (y ∷ zs) × (length zs < length ys)
suffix [] ls at y h e = absurd cc
suffix (x ∷ xs) ls at y h e =
    ⊎_elim (λ (q : y ≡ x). (xs, (refl, omega (arith, e.1), omega (arith, e.2), subst (λ (z : ℕ). Ends ls (get_or ls z 0) xs) (sym q) e.3), omega arith))
    (λ (q : y ≡ x → ⊥). let r = suffix xs ls (get_or ls x 0) y (grind arith) e.3 in (r.0, r.1, omega (arith, r.2)))
    (cases_eq y x)

pub fresh : (xs ls : List ℕ) (x : ℕ) → 17 ≤ x → x < length ls → Ends ls (get_or ls x 0) xs → has x xs ≡ false
fresh xs ls x a b e =
    ⊎_elim (λ (h : has x xs ≡ true).
    let r = suffix xs ls (get_or ls x 0) x h e in
    let q : (x ∷ r.0) ≡ (x ∷ xs) = unique (x ∷ r.0) (x ∷ xs) ls x r.1 (refl, a, b, e) in
    absurd (omega (arith, r.2, ap length q)))
    (λ (h : has x xs ≡ false). h)
    (cases_Bool (has x xs))

pub low : (xs ls : List ℕ) (at h : ℕ) → h < 17 → Ends ls at xs → has h xs ≡ false
low [] ls at h l e = refl
low (x ∷ xs) ls at h l e = grind (arith, low xs ls (get_or ls x 0) h l e.3)

-- what `without` keeps
pub without_has : (x y : ℕ) (xs : List ℕ) → has y (without x xs) ≡ true → has y xs ≡ true
without_has x y [] h = h
without_has x y (z ∷ zs) h = grind (arith, without_has x y zs)

-- a run has each record once
pub gone : (xs ls : List ℕ) (at x : ℕ) → Ends ls at xs → has x (without x xs) ≡ false
gone [] ls at x e = refl
gone (z ∷ zs) ls at x e = grind (arith, fresh zs ls z e.1 e.2 e.3, gone zs ls (get_or ls z 0) x e.3)

-- the record x after prev is taken out of a run
pub record Cut (ls : List ℕ) (at prev x : ℕ) (xs : List ℕ) : Type 0 where
  pub ends : Ends (set ls prev (get_or ls x 0)) at (without x xs)
  pub has : has x xs ≡ true
  pub less : length (without x xs) + 1 ≡ length xs

-- at the front: what is after a record or head i, whose next is x
pub front : (xs ls : List ℕ) (i x : ℕ) → 0 < x → x ≡ get_or ls i 0 → Ends ls (get_or ls i 0) xs → (zs : List ℕ) × (xs ≡ x ∷ zs) × (17 ≤ x) × (x < length ls) × Ends ls (get_or ls x 0) zs
front [] ls i x p n e = absurd (omega (arith, e))
front (y ∷ ys) ls i x p n e =
    let q : y ≡ x = sym e.0 ∙ sym n in
    (ys, ap (λ (z : ℕ). z ∷ ys) q, omega (arith, e.1), omega (arith, e.2), subst (λ (z : ℕ). Ends ls (get_or ls z 0) ys) q e.3)

pub cut : (xs ls : List ℕ) (at prev x : ℕ) → Ends ls at xs → has prev xs ≡ true → x ≡ get_or ls prev 0 → 0 < x → Cut ls at prev x xs
cut [] ls at prev x e h n p = absurd cc
cut (y ∷ ys) ls at prev x e h n p =
    let v = get_or ls x 0 in
    let out : has y ys ≡ false = fresh ys ls y e.1 e.2 e.3 in
    ⊎_elim
    (λ (q : prev ≡ y).
    let f = front ys ls y x p (grind arith) e.3 in
    let w : without x (y ∷ ys) ≡ y ∷ f.0 = grind (arith, f.1, out) in
    let next : get_or (set ls prev v) y 0 ≡ v = grind (arith, get_or-set_same) in
    let o : has prev f.0 ≡ false = grind (arith, f.1, out) in
    record {
      ends = rw w (e.0, e.1, omega (arith, length-set ls prev v, e.2), rw next (frame f.0 ls v prev v o f.4));
      has = grind (arith, at_front x ys f.0 f.1);
      less = omega (arith, ap length w, ap length f.1);
    })
    (λ (q : prev ≡ y → ⊥).
    let r = cut ys ls (get_or ls y 0) prev x e.3 (grind arith) n p in
    let w : without x (y ∷ ys) ≡ y ∷ without x ys = grind (arith, r.has, out) in
    let next : get_or (set ls prev v) y 0 ≡ get_or ls y 0 = grind (arith, get_or-set_other) in
    record {
      ends = rw w (e.0, e.1, omega (arith, length-set ls prev v, e.2), rw next r.ends);
      has = grind (arith, r.has);
      less = omega (arith, ap length w, r.less);
    })
    (cases_eq prev y)
