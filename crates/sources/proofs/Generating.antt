-- What a draw does to the meaning of a generator, and what a new one means. Assumes nothing.
use Rattle.std.proofs.Common.{◌≡◌, ℕ, zero, suc, ◌+◌, ◌*◌, ◌/◌, ◌%◌, ◌<◌, ◌≤◌, Bool, true, false, cond, ◌&&◌, eqb, ltb, leb, List, [], ◌∷◌, length, get_or, replicate, sym, refl, ap, ◌∙◌, subst, ap₂, ⊎_elim, arith}
use Rattle.std.proofs.lemmas.List.{get_or-replicate, get_or_past, length-replicate}
use Rattle.std.proofs.lemmas.Bool.{cases_eq, cases_lt, cond-true, cond-false, lt-ltb, le-leb, eq-eqb, ne_eqb}
use Rattle.names.specs.declared.template.Template.{Template}
use Rattle.sources.specs.ListLaws.{has_bit}
use Rattle.sources.specs.Lists.{count, has}
use Rattle.sources.specs.Named.{stock_of}
use Rattle.sources.specs.Stock.{drawn, is_given}
use Rattle.sources.specs.SubcounterLaws.{Chosen, live_chosen, live_some, counted, gone, others, next_below}
use Rattle.sources.specs.Subcounters.{share_of, live_from, left_from, given, ahead_for, gen_ahead, none_given, new_ahead, waits, standing}
use Rattle.sources.specs.declared.source.Stand.TheVariants.{Ahead, Given, Foreign}
use Rattle.sources.proofs.Stocks.{drawn_first}

pub length_ahead : (t sh : ℕ) (pick : ℕ → ℕ → ℕ) (f d : ℕ) (gs : List ℕ) → length (ahead_for t sh pick f d gs) ≡ f
length_ahead t sh pick zero d gs = refl
length_ahead t sh pick (suc f) d gs = ap suc (length_ahead t sh pick f (d + 1) _)

-- with no live subcounter the list is empty
pub none_ahead : (t sh : ℕ) (pick : ℕ → ℕ → ℕ) (d : ℕ) (gs : List ℕ) → length (live_from t sh 0 gs) ≡ 0 → gen_ahead t sh pick d gs ≡ []
none_ahead t sh pick d gs h = ap (λ (f : ℕ). ahead_for t sh pick f d gs) none
  where
    none : left_from t sh 0 gs ≡ 0
    none = ⊎_elim (λ (e : left_from t sh 0 gs ≡ 0). e) (λ (ne : left_from t sh 0 gs ≡ 0 → ⊥). absurd (omega (arith, live_some t sh 0 gs (omega arith)))) (cases_eq (left_from t sh 0 gs) 0)

-- ---- a draw at the index that the chooser picks

module _ (t sh : ℕ) (p : 0 < sh) (pick : ℕ → ℕ → ℕ) (d : ℕ) (gs : List ℕ) (live index c : ℕ)
    (counted-live : live ≡ length (live_from t sh 0 gs)) (picked : index ≡ pick d live) (inside : index < live) (found : c ≡ get_or (live_from t sh 0 gs) index 0) where
  chosen_here : Chosen t sh gs c
  chosen_here = subst (λ (i : ℕ). Chosen t sh gs i) (sym found) (live_chosen t sh index gs (omega arith))

  pub cons_ahead : gen_ahead t sh pick d gs ≡ (c * sh + get_or gs c 0) ∷ gen_ahead t sh pick (d + 1) (given gs c)
  cons_ahead =
      let same : get_or (live_from t sh 0 gs) (pick d (length (live_from t sh 0 gs))) 0 ≡ c = sym (found ∙ ap (λ (i : ℕ). get_or (live_from t sh 0 gs) i 0) (picked ∙ ap (pick d) counted-live)) in
      let left = chosen_here.left in
      let e : left_from t sh 0 gs ≡ suc (left_from t sh 0 (given gs c)) = omega arith in
      ap (λ (f : ℕ). ahead_for t sh pick f d gs) e ∙ ap (λ (i : ℕ). (i * sh + get_or gs i 0) ∷ ahead_for t sh pick (left_from t sh 0 (given gs c)) (d + 1) (given gs i)) same

  pub stands_drawn : (n : ℕ) → standing t sh (given gs c) n ≡ cond (eqb n (c * sh + get_or gs c 0)) Given (standing t sh gs n)
  stands_drawn n =
      let i = chosen_here.inside in
      let l = chosen_here.live in
      ⊎_elim
      (λ (e : n ≡ c * sh + get_or gs c 0).
      let a : waits t sh (given gs c) n ≡ false = ap (waits t sh (given gs c)) e ∙ gone t sh p c gs i l in
      let b : ltb n t ≡ true = ap (λ (x : ℕ). ltb x t) e ∙ lt-ltb _ t (next_below t sh p c gs i l) in
      cond-false _ _ _ a ∙ cond-true _ _ _ b ∙ sym (cond-true _ _ _ (eq-eqb n (c * sh + get_or gs c 0) e)))
      (λ (e : n ≡ c * sh + get_or gs c 0 → ⊥).
      ap (λ (b : Bool). cond b Ahead (cond (ltb n t) Given Foreign)) (others t sh p c gs i l n e)
      ∙ sym (cond-false _ _ _ (ne_eqb n (c * sh + get_or gs c 0) e)))
      (cases_eq n (c * sh + get_or gs c 0))

  pub drawn_one : (tpl : Template) → stock_of tpl (gen_ahead t sh pick (d + 1) (given gs c)) (standing t sh (given gs c)) ≡ drawn (stock_of tpl (gen_ahead t sh pick d gs) (standing t sh gs))
  drawn_one tpl = drawn_first tpl (c * sh + get_or gs c 0) (gen_ahead t sh pick d gs) (gen_ahead t sh pick (d + 1) (given gs c)) (standing t sh gs) (standing t sh (given gs c)) cons_ahead stands_drawn

-- the meaning is one of total, share, draws and counts
pub same_ahead : (pick : ℕ → ℕ → ℕ) (t t' sh sh' d d' : ℕ) (gs gs' : List ℕ) → t' ≡ t → sh' ≡ sh → d' ≡ d → gs' ≡ gs → gen_ahead t' sh' pick d' gs' ≡ gen_ahead t sh pick d gs
same_ahead pick t t' sh sh' d d' gs gs' e1 e2 e3 e4 = rw (e1, e2, e3, e4)

pub same_standing : (t t' sh sh' : ℕ) (gs gs' : List ℕ) → t' ≡ t → sh' ≡ sh → gs' ≡ gs → standing t' sh' gs' ≡ standing t sh gs
same_standing t t' sh sh' gs gs' e1 e2 e3 = ap₂ (λ (x y : ℕ). standing x y gs') e1 e2 ∙ ap (standing t sh) e3

-- ---- a new generator

none_long : length none_given ≡ 293
unfolding none_given
none_long = length-replicate {A = ℕ} 293 0

none_at : (i : ℕ) → get_or none_given i 0 ≡ 0
unfolding none_given
none_at i = zeros 293 i
  where
    zeros : (m i : ℕ) → get_or {A = ℕ} (replicate m 0) i 0 ≡ 0
    zeros m i = ⊎_elim (λ (h : i < m). get_or-replicate {A = ℕ} m i 0 0 h) (λ (h : m ≤ i). get_or_past {X = ℕ} (replicate m 0) i 0 (omega (arith, length-replicate {A = ℕ} m 0))) (cases_lt i m)

new_waits : (t sh n : ℕ) → waits t sh none_given n ≡ ltb n t
new_waits t sh n =
    ap (λ (g : ℕ). ltb n t && leb g (n % sh)) (none_at (n / sh)) ∙ and_one (ltb n t) (n % sh)
  where
    and_one : (b : Bool) (r : ℕ) → (b && leb 0 r) ≡ b
    and_one true r = le-leb 0 r (omega arith)
    and_one false r = refl

module _ (t : ℕ) (pick : ℕ → ℕ → ℕ) (ok : (d l : ℕ) → 1 ≤ l → l ≤ 293 → pick d l < l) where
  pub new_counted : (n : ℕ) → count n (new_ahead t pick) ≡ cond (ltb n t) 1 0
  new_counted n =
      counted t (share_of t) (omega arith) 293 pick ok n _ 0 none_given none_long (omega arith) refl ∙ ap (λ (b : Bool). cond b 1 0) (new_waits t (share_of t) n)

  pub new_standing : (n : ℕ) → standing t (share_of t) none_given n ≡ cond (has n (new_ahead t pick)) Ahead Foreign
  new_standing n =
      ap (λ (b : Bool). cond b Ahead (cond (ltb n t) Given Foreign)) (new_waits t (share_of t) n)
      ∙ (elim (ltb n t) as (λ v. cond v Ahead (cond v Given Foreign) ≡ cond v Ahead Foreign) [ true ↦ refl | false ↦ refl ])
      ∙ sym (ap (λ (b : Bool). cond b Ahead Foreign) (has_bit n (new_ahead t pick) (ltb n t) (new_counted n)))

  pub new_fresh : (n : ℕ) → is_given (standing t (share_of t) none_given n) ≡ false
  new_fresh n = ap is_given (new_standing n) ∙ (elim (has n (new_ahead t pick)) as (λ v. is_given (cond v Ahead Foreign) ≡ false) [ true ↦ refl | false ↦ refl ])
