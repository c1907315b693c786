-- A record moved from one chain to the front of another leaves the chains linked.
use Rattle.std.proofs.Common.{◌≡◌, ◌≢◌, ℕ, zero, suc, ◌+◌, ◌<◌, ◌≤◌, true, false, ltb, ◌⊎◌, List, ◌∷◌, length, get_or, set, refl, ap, ◌∙◌, ⊎_elim, arith, length-append, length-set, get_or-set_other, get_or-set_same}
use Rattle.std.proofs.lemmas.Bool.{cases_eq}
use Rattle.chains.specs.Chains.{Ends, has, chain, in_use, Linked, unlink, link}
use Rattle.stores.proofs.Counts.{bit}
use Rattle.chains.proofs.Walks.{length_run, run_ends}
use Rattle.chains.proofs.Moves.{without, On, Moved, at_front, frame, suffix, low, without_has, gone, front, cut}

pub in_use_more : (ls : List ℕ) (h : ℕ) → length (in_use ls (suc h)) ≡ length (chain ls h) + length (in_use ls h)
unfolding in_use
in_use_more ls h = length-append (chain ls h) (in_use ls h)

pub in_use_none : (ls : List ℕ) → length (in_use ls 0) ≡ 0
unfolding in_use
in_use_none ls = refl

pub part : (ls : List ℕ) (n h : ℕ) → h < n → length (chain ls h) ≤ length (in_use ls n)
part ls zero h l = absurd (omega arith)
part ls (suc n) h l = ⊎_elim (λ (e : h ≡ n). grind (arith, in_use_more)) (λ (e : h ≡ n → ⊥). omega (arith, part ls n h (omega arith), in_use_more ls n)) (cases_eq h n)

sums : (ls ls' : List ℕ) (p q n : ℕ) → (p ≡ q → ⊥) → n ≤ 17
    → length (chain ls' p) + 1 ≡ length (chain ls p) → length (chain ls' q) ≡ length (chain ls q) + 1
    → ((h : ℕ) → h < 17 → (h ≡ p → ⊥) → (h ≡ q → ⊥) → chain ls' h ≡ chain ls h)
    → length (in_use ls' n) + bit (ltb p n) ≡ length (in_use ls n) + bit (ltb q n)
sums ls ls' p q zero ne l a b o = grind (arith, in_use_none)
sums ls ls' p q (suc n) ne l a b o = grind (arith, in_use_more ls n, in_use_more ls' n, sums ls ls' p q n ne (omega arith) a b o, o n)

module _ (ls : List ℕ) (p prev q x : ℕ) (L : Linked ls) (hp : p < 17) (hq : q < 17) (ne : p ≡ q → ⊥) (on : On ls p prev) (n : x ≡ get_or ls prev 0) (pos : 0 < x) where
  abbrev ls1 : List ℕ
  ls1 = set ls prev (get_or ls x 0)

  abbrev ls2 : List ℕ
  ls2 = set ls1 x (get_or ls q 0)

  abbrev ls3 : List ℕ
  ls3 = set ls2 q x

  record First : Type 0 where
    pub ends : Ends ls1 (get_or ls1 p 0) (without x (chain ls p))
    pub holds : has x (chain ls p) ≡ true
    pub less : length (without x (chain ls p)) + 1 ≡ length (chain ls p)
    pub prevs : (h : ℕ) → h < 17 → (h ≡ p → ⊥) → (has prev (chain ls h) ≡ false) × (h ≡ prev → ⊥)

  first : First
  first =
      ⊎_elim
      (λ (e : prev ≡ p).
      let f = front (chain ls p) ls p x pos (grind arith) (L.ends p hp) in
      let w : without x (chain ls p) ≡ f.0 = grind (arith, f.1) in
      let out : has prev f.0 ≡ false = low f.0 ls (get_or ls x 0) prev (omega arith) f.4 in
      let next : get_or ls1 p 0 ≡ get_or ls x 0 = grind (arith, get_or-set_same, L.long) in
      record {
        ends = rw (w, next) (frame f.0 ls (get_or ls x 0) prev (get_or ls x 0) out f.4);
        holds = at_front x (chain ls p) f.0 f.1;
        less = omega (arith, ap length w, ap length f.1);
        prevs = λ h l m. (low (chain ls h) ls (get_or ls h 0) prev (omega arith) (L.ends h l), λ (z : h ≡ prev). m (z ∙ e));
      })
      (λ (e : prev ≡ p → ⊥).
      let inside : has prev (chain ls p) ≡ true = grind (arith, on) in
      let r = cut (chain ls p) ls (get_or ls p 0) prev x (L.ends p hp) inside n pos in
      let next : get_or ls1 p 0 ≡ get_or ls p 0 = grind (arith, get_or-set_other) in
      record {
        ends = rw next r.ends;
        holds = r.has;
        less = r.less;
        prevs = λ h l m. (grind (arith, L.apart h p prev l hp), λ (z : h ≡ prev). grind (arith, low (chain ls p) ls (get_or ls p 0) h l (L.ends p hp)));
      })
      (cases_eq prev p)

  bounds : (17 ≤ x) × (x < length ls)
  bounds = let r = suffix (chain ls p) ls (get_or ls p 0) x first.holds (L.ends p hp) in (r.1.1, r.1.2)

  size : length ls3 ≡ length ls
  size = grind (arith, length-set)

  xs_out : (h : ℕ) → h < 17 → (h ≡ p → ⊥) → has x (chain ls h) ≡ false
  xs_out h l m = grind (arith, L.apart h p x l hp, first.holds)

  kept : (h : ℕ) → h < 17 → (h ≡ p → ⊥) → Ends ls3 (get_or ls h 0) (chain ls h)
  kept h l m =
      let c = chain ls h in
      let a = frame c ls (get_or ls h 0) prev (get_or ls x 0) (first.prevs h l m).0 (L.ends h l) in
      let b = frame c ls1 (get_or ls h 0) x (get_or ls q 0) (xs_out h l m) a in
      frame c ls2 (get_or ls h 0) q x (low c ls (get_or ls h 0) q hq (L.ends h l)) b

  at_p : Ends ls3 (get_or ls3 p 0) (without x (chain ls p))
  at_p =
      let w = without x (chain ls p) in
      let a = frame w ls1 (get_or ls1 p 0) x (get_or ls q 0) (gone (chain ls p) ls (get_or ls p 0) x (L.ends p hp)) first.ends in
      let b = frame w ls2 (get_or ls1 p 0) q x (low w ls1 (get_or ls1 p 0) q hq first.ends) a in
      let e : get_or ls3 p 0 ≡ get_or ls1 p 0 = grind (arith, get_or-set_other, bounds.0) in
      rw e b

  at_other : (h : ℕ) → h < 17 → (h ≡ p → ⊥) → (h ≡ q → ⊥) → Ends ls3 (get_or ls3 h 0) (chain ls h)
  at_other h l m k =
      let e : get_or ls3 h 0 ≡ get_or ls h 0 = grind (arith, get_or-set_other, bounds.0, first.prevs h l m) in
      rw e (kept h l m)

  at_q : Ends ls3 (get_or ls3 q 0) (x ∷ chain ls q)
  at_q =
      let m : q ≢ p = grind arith in
      let e : get_or ls3 x 0 ≡ get_or ls q 0 = grind (arith, get_or-set_other, get_or-set_same, length-set, bounds) in
      let f : get_or ls3 q 0 ≡ x = grind (arith, get_or-set_same, length-set, L.long) in
      (f, bounds.0, omega (arith, bounds.1, size), rw e (kept q hq m))

  long_of : (h : ℕ) → length (chain ls h) ≤ length ls
  long_of h = length_run (length ls) ls (get_or ls h 0)

  is_p : chain ls3 p ≡ without x (chain ls p)
  is_p = run_ends (without x (chain ls p)) (length ls3) ls3 (get_or ls3 p 0) at_p (omega (arith, long_of p, first.less, size))

  is_q : chain ls3 q ≡ x ∷ chain ls q
  is_q = run_ends (x ∷ chain ls q) (length ls3) ls3 (get_or ls3 q 0) at_q (omega (arith, part ls 17 q hq, L.all, size))

  is_other : (h : ℕ) → h < 17 → (h ≡ p → ⊥) → (h ≡ q → ⊥) → chain ls3 h ≡ chain ls h
  is_other h l m k = run_ends (chain ls h) (length ls3) ls3 (get_or ls3 h 0) (at_other h l m k) (omega (arith, long_of h, size))

  ends3 : (h : ℕ) → h < 17 → Ends ls3 (get_or ls3 h 0) (chain ls3 h)
  ends3 h l =
      ⊎_elim (λ (e : h ≡ p). rw (e, is_p) at_p)
      (λ (m : h ≡ p → ⊥). ⊎_elim (λ (e : h ≡ q). rw (e, is_q) at_q) (λ (k : h ≡ q → ⊥). rw (is_other h l m k) (at_other h l m k)) (cases_eq h q))
      (cases_eq h p)

  -- where a record of a chain was before
  Was : ℕ → ℕ → Type 0
  Was h y = ((y ≡ x) × (h ≡ q)) ⊎ ((y ≡ x → ⊥) × (has y (chain ls h) ≡ true))

  was : (h y : ℕ) → h < 17 → has y (chain ls3 h) ≡ true → Was h y
  unfolding Was
  was h y l t = grind (arith, cases_eq h p, cases_eq h q, is_p, is_q, is_other h l, without_has x y (chain ls p), gone (chain ls p) ls (get_or ls p 0) x (L.ends p hp), xs_out h l)

  apart3 : (h i y : ℕ) → h < 17 → i < 17 → has y (chain ls3 h) ≡ true → has y (chain ls3 i) ≡ true → h ≡ i
  unfolding Was
  apart3 h i y l k s t = grind (arith, was h y l s, was i y k t, L.apart h i y l k)

  moved3 : Moved ls ls3 p q x
  moved3 =
      let lp : length (chain ls3 p) + 1 ≡ length (chain ls p) = omega (arith, ap length is_p, first.less) in
      record {
        size = size;
        linked = record {
          long = omega (arith, size, L.long);
          short = omega (arith, size, L.short);
          ends = ends3;
          apart = apart3;
          all = grind (arith, sums ls ls3 p q 17 ne (omega arith) lp (ap length is_q ∙ omega arith) is_other, L.all, size);
        };
        from = is_p;
        to = is_q;
        others = is_other;
        less = lp;
      }

  abbrev after : List ℕ
  after = link (unlink ls prev) x q

  after_is : after ≡ ls3
  after_is = grind (arith, get_or-set_other, first.prevs q hq)

  pub moved : Moved ls after p q x
  moved = rw after_is moved3

pub next_has : (ls : List ℕ) (p prev x : ℕ) → Linked ls → p < 17 → On ls p prev → x ≡ get_or ls prev 0 → 0 < x → has x (chain ls p) ≡ true
next_has ls p prev x L hp on n pos =
    ⊎_elim (λ (e : prev ≡ p). let f = front (chain ls p) ls p x pos (grind arith) (L.ends p hp) in at_front x (chain ls p) f.0 f.1)
    (λ (e : prev ≡ p → ⊥). (cut (chain ls p) ls (get_or ls p 0) prev x (L.ends p hp) (grind (arith, on)) n pos).has)
    (cases_eq prev p)

pub free_inside : (ls : List ℕ) (x : ℕ) → Linked ls → x ≡ get_or ls 16 0 → 0 < x → (has x (chain ls 16) ≡ true) × (x < length ls)
free_inside ls x L n pos =
    let h = next_has ls 16 16 x L (omega arith) (grind arith) n pos in
    (h, (suffix (chain ls 16) ls (get_or ls 16 0) x h (L.ends 16 (omega arith))).1.2)
