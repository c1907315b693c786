-- What giving one number does to the live subcounters, and what a new generator has. Assumes nothing.
use Rattle.std.proofs.Common.{◌≡◌, ℕ, zero, suc, ◌+◌, ◌-◌, ◌*◌, ◌<◌, ◌≤◌, min, true, false, cond, eqb, ltb, List, [], ◌∷◌, length, get_or, set, replicate, sym, refl, ap, ◌∙◌, subst, ⊎_elim, suc-mul, add-mul, one-mul, arith}
use Rattle.std.proofs.lemmas.Bool.{cases_lt, cond-true, cond-false, lt-ltb, le-ltb, eq-eqb, ne_eqb}
use Rattle.std.proofs.lemmas.Nat.{mul-le}
use Rattle.std.proofs.lemmas.Grind.{div_ceil_times}
use Rattle.std.specs.Int.{div_ceil}
use Rattle.sources.specs.Maps.{run, lacks}
use Rattle.sources.specs.Subcounters.{share_of, covered, live_from, left_from}

lacks_before : (t sh b x : ℕ) (gs : List ℕ) → x < b → lacks x (live_from t sh b gs) ≡ live_from t sh b gs
lacks_before t sh b x [] h = refl
lacks_before t sh b x (g ∷ gs) h =
    let ih = lacks_before t sh (b + 1) x gs (omega arith) in
    let f : eqb x b ≡ false = ne_eqb x b (omega arith) in
    elim (ltb g (covered t sh b)) as (λ v. lacks x (cond v (b ∷ live_from t sh (b + 1) gs) (live_from t sh (b + 1) gs)) ≡ cond v (b ∷ live_from t sh (b + 1) gs) (live_from t sh (b + 1) gs)) [
      | true ↦ cond-false _ _ _ f ∙ ap (λ (l : List ℕ). b ∷ l) ih
      | false ↦ ih
    ]

-- a subcounter that has numbers left stays live
pub live_kept : (t sh b k c : ℕ) (gs : List ℕ) → b + k ≡ c → k < length gs → get_or gs k 0 + 1 < covered t sh c → live_from t sh b (set gs k (get_or gs k 0 + 1)) ≡ live_from t sh b gs
live_kept t sh b k c [] e l h = absurd (omega arith)
live_kept t sh b zero c (g ∷ gs) e l h =
    let z : c ≡ b = omega arith in
    let q : g + 1 < covered t sh b = subst (λ (i : ℕ). g + 1 < covered t sh i) z h in
    cond-true _ _ _ (lt-ltb (g + 1) (covered t sh b) q) ∙ sym (cond-true _ _ _ (lt-ltb g (covered t sh b) (omega arith)))
live_kept t sh b (suc k) c (g ∷ gs) e l h =
    let ih = live_kept t sh (b + 1) k c gs (omega arith) (omega arith) h in
    ap (λ (l : List ℕ). cond (ltb g (covered t sh b)) (b ∷ l) l) ih

-- a subcounter that gave its last number is live no more
pub live_spent : (t sh b k c v : ℕ) (gs : List ℕ) → b + k ≡ c → k < length gs → get_or gs k 0 < covered t sh c → covered t sh c ≤ v → live_from t sh b (set gs k v) ≡ lacks c (live_from t sh b gs)
live_spent t sh b k c v [] e l h s = absurd (omega arith)
live_spent t sh b zero c v (g ∷ gs) e l h s =
    let z : c ≡ b = omega arith in
    let q : g < covered t sh b = subst (λ (i : ℕ). g < covered t sh i) z h in
    let r : covered t sh b ≤ v = subst (λ (i : ℕ). covered t sh i ≤ v) z s in
    cond-false _ _ _ (le-ltb v (covered t sh b) r)
    ∙ sym (ap (lacks c) (cond-true _ _ _ (lt-ltb g (covered t sh b) q)) ∙ cond-true _ _ _ (eq-eqb c b z) ∙ lacks_before t sh (b + 1) c gs (omega arith))
live_spent t sh b (suc k) c v (g ∷ gs) e l h s =
    let ih = live_spent t sh (b + 1) k c v gs (omega arith) (omega arith) h s in
    let f : eqb c b ≡ false = ne_eqb c b (omega arith) in
    elim (ltb g (covered t sh b)) as (λ w. cond w (b ∷ live_from t sh (b + 1) (set gs k v)) (live_from t sh (b + 1) (set gs k v)) ≡ lacks c (cond w (b ∷ live_from t sh (b + 1) gs) (live_from t sh (b + 1) gs))) [
      | true ↦ ap (λ (l : List ℕ). b ∷ l) ih ∙ sym (cond-false _ _ _ f)
      | false ↦ ih
    ]

-- ---- new subcounters

-- which of them have a number
module _ (t sh : ℕ) (p : 0 < sh) where
  reaches : (b : ℕ) → b < div_ceil t sh → b * sh < t
  reaches b h =
      let d = div_ceil_times t sh p in
      let m : (b + 1) * sh ≤ div_ceil t sh * sh = mul-le (b + 1) sh (div_ceil t sh) sh (omega arith) (omega arith) in
      let q : (b + 1) * sh ≡ b * sh + sh = add-mul b 1 sh ∙ ap (λ (x : ℕ). b * sh + x) (one-mul sh) in
      omega arith

  passes : (b : ℕ) → div_ceil t sh ≤ b → t ≤ b * sh
  passes b h =
      let d = div_ceil_times t sh p in
      let m : div_ceil t sh * sh ≤ b * sh = mul-le (div_ceil t sh) sh b sh h (omega arith) in
      omega arith

pub live_new : (t sh : ℕ) → 0 < sh → (b k : ℕ) → live_from t sh b (replicate k 0) ≡ run b (min k (div_ceil t sh - b))
unfolding run
live_new t sh p b zero = let e : min 0 (div_ceil t sh - b) ≡ 0 = omega arith in sym (ap (run b) e)
live_new t sh p b (suc k) =
    let ih = live_new t sh p (b + 1) k in
    ⊎_elim
    (λ (h : b < div_ceil t sh).
    let q = reaches t sh p b h in
    let e : min (suc k) (div_ceil t sh - b) ≡ suc (min k (div_ceil t sh - (b + 1))) = omega arith in
    cond-true _ _ _ (lt-ltb 0 (covered t sh b) (omega arith)) ∙ ap (λ (l : List ℕ). b ∷ l) ih ∙ sym (ap (run b) e))
    (λ (h : div_ceil t sh ≤ b).
    let q = passes t sh p b h in
    let e : min (suc k) (div_ceil t sh - b) ≡ 0 = omega arith in
    let e2 : min k (div_ceil t sh - (b + 1)) ≡ 0 = omega arith in
    cond-false _ _ _ (le-ltb 0 (covered t sh b) (omega arith)) ∙ ih ∙ ap (run (b + 1)) e2 ∙ sym (ap (run b) e))
    (cases_lt b (div_ceil t sh))

left_new : (t sh b k : ℕ) → left_from t sh b (replicate k 0) ≡ min (k * sh) (t - b * sh)
left_new t sh b zero = omega arith
left_new t sh b (suc k) =
    let ih = left_new t sh (b + 1) k in
    let m : suc k * sh ≡ k * sh + sh = suc-mul k sh in
    let q : (b + 1) * sh ≡ b * sh + sh = add-mul b 1 sh ∙ ap (λ (x : ℕ). b * sh + x) (one-mul sh) in
    omega arith

pub left_all : (t : ℕ) → left_from t (share_of t) 0 (replicate 293 0) ≡ t
left_all t = left_new t (share_of t) 0 293 ∙ omega arith

-- at most 293 of them
pub live_few : (t : ℕ) → div_ceil t (share_of t) ≤ 293
live_few t =
    ⊎_elim
    (λ (h : 293 < div_ceil t (share_of t)). absurd (let q = reaches t (share_of t) (omega arith) 293 h in omega arith))
    (λ (h : div_ceil t (share_of t) ≤ 293). h)
    (cases_lt 293 (div_ceil t (share_of t)))

pub live_all : (t : ℕ) → live_from t (share_of t) 0 (replicate 293 0) ≡ run 0 (div_ceil t (share_of t))
live_all t =
    let few = live_few t in
    let e : min 293 (div_ceil t (share_of t) - 0) ≡ div_ceil t (share_of t) = omega arith in
    live_new t (share_of t) (omega arith) 0 293 ∙ ap (run 0) e
