-- The list of a generator holds each number to come once, whatever the chooser answers. Assumes nothing.
use Rattle.std.specs.Prelude.{◌≡◌, ℕ, zero, suc, ◌+◌, ◌-◌, ◌*◌, ◌/◌, ◌%◌, ◌<◌, ◌≤◌, Bool, true, false, cond, ◌&&◌, ltb, List, [], ◌∷◌, length, ◌≢◌, nat_le, nat_lt, slice_index, slice_index_or, slice_set, refl}
use Rattle.std.proofs.Common.{sym, ap, subst, ◌∙◌, ⊎_elim, arith, add-zero, zero-add}
use Rattle.std.proofs.Math.Nat.{sub_self, sub-zero}
use Rattle.std.proofs.lemmas.List.{get_or-set_same, get_or-set_other, length-set}
use Rattle.std.proofs.lemmas.Bool.{cases_Bool, cases_eq, cases_lt, cond-true, cond-false, ltb-true, ltb-false, lt-ltb, le-ltb, le-leb, lt-leb, eq-eqb, ne_eqb, and_left, and_right, and_from}
use Rattle.std.proofs.lemmas.Nat.{div-mul-add, mod-mul-add, div-add-mod', mod_below, div_below}
use Rattle.sources.specs.Lists.{count}
use Rattle.sources.specs.Subcounters.{covered, live_from, left_from, chosen, given, ahead_for, waits}

-- c is a live subcounter of those from b on
abbrev Good : ℕ → ℕ → ℕ → List ℕ → ℕ → Type 0
Good t sh b gs c = (b ≤ c) × (c < b + length gs) × (slice_index gs (c - b) < covered t sh c)

good_up : (t sh b g : ℕ) (gs : List ℕ) (c : ℕ) → Good t sh (b + 1) gs c → Good t sh b (g ∷ gs) c
good_up t sh b g gs c q =
    let e : c - b ≡ suc (c - (b + 1)) = omega (arith, q.0) in
    (omega (arith, q.0), omega (arith, q.1), subst (λ (i : ℕ). slice_index (g ∷ gs) i < covered t sh c) (sym e) q.2)

-- what stands at a place of the live ones
live_at : (t sh b k : ℕ) (gs : List ℕ) → k < length (live_from t sh b gs) → Good t sh b gs (slice_index (live_from t sh b gs) k)
live_at t sh b k [] h = absurd (omega arith)
live_at t sh b k (g ∷ gs) h = go (λ j l. live_at t sh (b + 1) j gs l) k (nat_lt g (covered t sh b)) refl h
  where
    go : ((j : ℕ) → j < length (live_from t sh (b + 1) gs) → Good t sh (b + 1) gs (slice_index (live_from t sh (b + 1) gs) j)) → (j : ℕ) (v : Bool) → nat_lt g (covered t sh b) ≡ v → j < length (cond v (b ∷ live_from t sh (b + 1) gs) (live_from t sh (b + 1) gs)) → Good t sh b (g ∷ gs) (slice_index (cond v (b ∷ live_from t sh (b + 1) gs) (live_from t sh (b + 1) gs)) j)
    go rec zero true e l = (omega arith, omega arith, subst (λ (i : ℕ). slice_index (g ∷ gs) i < covered t sh b) (sym (sub_self b)) (ltb-true g (covered t sh b) e))
    go rec (suc j) true e l = good_up t sh b g gs _ (rec j (omega arith))
    go rec j false e l = good_up t sh b g gs _ (rec j l)

pub live_some : (t sh b : ℕ) (gs : List ℕ) → 0 < left_from t sh b gs → 0 < length (live_from t sh b gs)
live_some t sh b [] h = absurd (omega arith)
live_some t sh b (g ∷ gs) h =
    ⊎_elim
    (λ (e : ltb g (covered t sh b) ≡ true). rw e (omega arith))
    (λ (e : ltb g (covered t sh b) ≡ false). rw e (live_some t sh (b + 1) gs (omega (arith, ltb-false g (covered t sh b) e))))
    (cases_Bool (nat_lt g (covered t sh b)))

left_set : (t sh b k : ℕ) (gs : List ℕ) → k < length gs → slice_index gs k < covered t sh (b + k) → left_from t sh b (slice_set gs k (slice_index gs k + 1)) + 1 ≡ left_from t sh b gs
left_set t sh b k [] l h = absurd (omega arith)
left_set t sh b zero (g ∷ gs) l h = let e : covered t sh (b + 0) ≡ covered t sh b = ap (covered t sh) (add-zero b) in let q : g < covered t sh b = subst (λ (v : ℕ). g < v) e h in omega arith
left_set t sh b (suc k) (g ∷ gs) l h =
    let e : b + suc k ≡ b + 1 + k = omega arith in
    let ih = left_set t sh (b + 1) k gs (omega arith) (subst (λ (v : ℕ). slice_index gs k < covered t sh v) e h) in
    omega arith

left_none : (t sh b k : ℕ) (gs : List ℕ) → left_from t sh b gs ≡ 0 → k < length gs → covered t sh (b + k) ≤ slice_index gs k
left_none t sh b k [] e l = absurd (omega arith)
left_none t sh b zero (g ∷ gs) e l = let q : covered t sh (b + 0) ≡ covered t sh b = ap (covered t sh) (add-zero b) in subst (λ (v : ℕ). v ≤ g) (sym q) (omega arith)
left_none t sh b (suc k) (g ∷ gs) e l =
    let q : b + suc k ≡ b + 1 + k = omega arith in
    subst (λ (v : ℕ). covered t sh v ≤ slice_index gs k) (sym q) (left_none t sh (b + 1) k gs (omega arith) (omega arith))

-- none waits where none is left
none_waits : (t sh n : ℕ) (gs : List ℕ) → 0 < sh → t ≤ length gs * sh → left_from t sh 0 gs ≡ 0 → waits t sh gs n ≡ false
none_waits t sh n gs p w e =
    ⊎_elim
    (λ (h : n < t).
    let c : n / sh < length gs = div_below n sh (length gs) p (omega arith) in
    let z : 0 + n / sh ≡ n / sh = zero-add (n / sh) in
    let full : covered t sh (n / sh) ≤ slice_index_or gs (n / sh) 0 = subst (λ (i : ℕ). covered t sh i ≤ slice_index gs (n / sh)) z (left_none t sh 0 (n / sh) gs e c) in
    let d = div-add-mod' n sh in
    let m = mod_below n sh p in
    and_right (nat_lt n t) _ (lt-leb (slice_index gs (n / sh)) (n % sh) (omega arith)))
    (λ (h : t ≤ n). and_left _ _ (le-ltb n t h))
    (cases_lt n t)

-- one number given
leb_next : (g r : ℕ) → (r ≢ g) → nat_le (g + 1) r ≡ nat_le g r
leb_next g r ne =
    ⊎_elim
    (λ (l : g < r). le-leb (g + 1) r (omega arith) ∙ sym (le-leb g r (omega arith)))
    (λ (l : r ≤ g). lt-leb (g + 1) r (omega arith) ∙ sym (lt-leb g r (omega arith)))
    (cases_lt g r)

module _ (t sh : ℕ) (p : 0 < sh) where
  -- the next number of a live subcounter
  module _ (c : ℕ) (gs : List ℕ) (inside : c < length gs) (live : slice_index_or gs c 0 < covered t sh c) where
    pub next_div : (c * sh + slice_index gs c) / sh ≡ c
    next_div = div-mul-add c sh (slice_index gs c) (omega arith)

    pub next_mod : (c * sh + slice_index gs c) % sh ≡ slice_index gs c
    next_mod = mod-mul-add c sh (slice_index gs c) (omega arith)

    pub next_below : c * sh + slice_index gs c < t
    next_below = omega arith

    pub waited : waits t sh gs (c * sh + slice_index gs c) ≡ true
    waited = and_from _ _ (lt-ltb _ t next_below) (rw (next_div, next_mod) (le-leb (slice_index gs c) (slice_index gs c) (omega arith)))

    pub gone : waits t sh (given gs c) (c * sh + slice_index gs c) ≡ false
    gone = and_right (nat_lt (c * sh + slice_index gs c) t) _ (rw (next_div, next_mod, get_or-set_same gs c (slice_index gs c + 1) 0 inside) (lt-leb (slice_index gs c + 1) (slice_index gs c) (omega arith)))

    pub others : (n : ℕ) → (n ≢ c * sh + slice_index gs c) → waits t sh (given gs c) n ≡ waits t sh gs n
    others n ne =
        ⊎_elim
        (λ (e : n / sh ≡ c).
        let d = div-add-mod' n sh in
        let d2 : c * sh + n % sh ≡ n = subst (λ (x : ℕ). x * sh + n % sh ≡ n) e d in
        let off : n % sh ≡ slice_index gs c → ⊥ = (λ q. ne (sym d2 ∙ ap (λ (r : ℕ). c * sh + r) q)) in
        ap (λ (b : Bool). nat_lt n t && b) (rw (e, get_or-set_same gs c (slice_index gs c + 1) 0 inside) (leb_next (slice_index gs c) (n % sh) off)))
        (λ (e : n / sh ≡ c → ⊥). ap (λ (g : ℕ). nat_lt n t && nat_le g (n % sh)) (get_or-set_other gs c (n / sh) (slice_index gs c + 1) 0 e))
        (cases_eq (n / sh) c)

pub few_live : (t sh b : ℕ) (gs : List ℕ) → length (live_from t sh b gs) ≤ length gs
few_live t sh b [] = omega arith
few_live t sh b (g ∷ gs) =
    let ih = few_live t sh (b + 1) gs in
    elim (nat_lt g (covered t sh b)) as (λ v. length (cond v (b ∷ live_from t sh (b + 1) gs) (live_from t sh (b + 1) gs)) ≤ suc (length gs)) [ true ↦ omega arith | false ↦ omega arith ]

-- the chosen subcounter is live, and what it gives is one less left
pub record Chosen (t sh : ℕ) (gs : List ℕ) (c : ℕ) : Type 0 where
  pub inside : c < length gs
  pub live : slice_index_or gs c 0 < covered t sh c
  pub left : left_from t sh 0 (given gs c) + 1 ≡ left_from t sh 0 gs

pub live_chosen : (t sh k : ℕ) (gs : List ℕ) → k < length (live_from t sh 0 gs) → Chosen t sh gs (slice_index (live_from t sh 0 gs) k)
live_chosen t sh k gs h =
    let good = live_at t sh 0 k gs h in
    let c : ℕ = slice_index_or (live_from t sh 0 gs) k 0 in
    let inside : c < length gs = omega (arith, good.1) in
    let live : slice_index_or gs c 0 < covered t sh c = subst (λ (i : ℕ). slice_index gs i < covered t sh c) (sub-zero c) good.2 in
    let z : 0 + c ≡ c = zero-add c in
    record { inside = inside; live = live; left = left_set t sh 0 c gs inside (subst (λ (i : ℕ). slice_index gs c < covered t sh i) (sym z) live) }

-- each number to come stands once in the list, for m subcounters and any chooser whose index is below the count of live ones
pub counted : (t sh : ℕ) → 0 < sh → (m : ℕ) (pick : ℕ → ℕ → ℕ) → ((d l : ℕ) → 1 ≤ l → l ≤ m → pick d l < l)
    → (n f d : ℕ) (gs : List ℕ) → length gs ≡ m → t ≤ m * sh → left_from t sh 0 gs ≡ f → count n (ahead_for t sh pick f d gs) ≡ cond (waits t sh gs n) 1 0
counted t sh p m pick ok n zero d gs long w e = sym (cond-false _ _ _ (none_waits t sh n gs p (subst (λ (i : ℕ). t ≤ i * sh) (sym long) w) e))
counted t sh p m pick ok n (suc f) d gs long w e =
    let some : 0 < length (live_from t sh 0 gs) = live_some t sh 0 gs (omega arith) in
    let few = few_live t sh 0 gs in
    let c : ℕ = chosen t sh pick d gs in
    let q = live_chosen t sh (pick d (length (live_from t sh 0 gs))) gs (ok d (length (live_from t sh 0 gs)) some (omega arith)) in
    let ih = counted t sh p m pick ok n f (d + 1) (given gs c) (length-set gs c (slice_index gs c + 1) ∙ long) w (omega (arith, q.left)) in
    ⊎_elim
    (λ (s : n ≡ c * sh + slice_index gs c).
    let none : count n (ahead_for t sh pick f (d + 1) (given gs c)) ≡ 0 = ih ∙ cond-false _ _ _ (ap (waits t sh (given gs c)) s ∙ gone t sh p c gs q.inside q.live) in
    let here : waits t sh gs n ≡ true = ap (waits t sh gs) s ∙ waited t sh p c gs q.inside q.live in
    cond-true _ _ _ (eq-eqb n _ s) ∙ ap suc none ∙ sym (cond-true _ _ _ here))
    (λ (s : n ≡ c * sh + slice_index gs c → ⊥).
    cond-false _ _ _ (ne_eqb n _ s) ∙ ih ∙ ap (λ (b : Bool). cond b 1 0) (others t sh p c gs q.inside q.live n s))
    (cases_eq n (c * sh + slice_index gs c))
