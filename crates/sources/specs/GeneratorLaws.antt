-- A generator is a lawful source, whatever its chooser. Assumes nothing.
use Rattle.std.specs.Prelude.{◌≡◌, ℕ, ◌<◌, ◌≤◌, true, false, cond, ltb, List, nat_lt, refl}
use Rattle.std.proofs.Common.{sym, subst, ◌∙◌, ⊎_elim, arith}
use Rattle.std.proofs.lemmas.Bool.{cases_Bool, ltb-true, both_ways}
use Rattle.sources.specs.Generators.{gen_stock}
use Rattle.sources.specs.ListLaws.{has_bit, bit_once}
use Rattle.sources.specs.Lists.{count}
use Rattle.sources.specs.NamedLaws.{named_lawful}
use Rattle.sources.specs.Stock.{Lawful, is_ahead, is_foreign}
use Rattle.sources.specs.SubcounterLaws.{counted}
use Rattle.sources.specs.Subcounters.{waits, standing}
use Rattle.sources.specs.declared.generator.Generator.{Generator}
use Rattle.sources.specs.declared.source.Stand.TheVariants.{Ahead, Given, Foreign}

stands_ahead : (t sh n : ℕ) (gs : List ℕ) → is_ahead (standing t sh gs n) ≡ waits t sh gs n
stands_ahead t sh n gs =
    elim (waits t sh gs n) as (λ v. is_ahead (cond v Ahead (cond (nat_lt n t) Given Foreign)) ≡ v) [
      | true ↦ refl
      | false ↦ elim (nat_lt n t) as (λ w. is_ahead (cond w Given Foreign) ≡ false) [ true ↦ refl | false ↦ refl ]
    ]

stands_below : (t sh n : ℕ) (gs : List ℕ) → is_foreign (standing t sh gs n) ≡ false → n < t
stands_below t sh n gs h =
    ⊎_elim
    (λ (p : ltb n t ≡ true). ltb-true n t p)
    (λ (p : ltb n t ≡ false). let f : is_foreign (standing t sh gs n) ≡ true = rw p in absurd (both_ways _ h f))
    (cases_Bool (nat_lt n t))

pub gen_counted : {C : Type 0} (pick : C → ℕ → ℕ → ℕ) → ((s : C) (draw live : ℕ) → 1 ≤ live → live ≤ 293 → pick s draw live < live) → (s : Generator C) (n : ℕ)
    → count n (gen_stock pick s).ahead ≡ cond (waits s.subcounters.total s.subcounters.share s.subcounters.counts n) 1 0
gen_counted pick under s n =
    let u = s.subcounters in
    let k = u.shared in
    counted u.total u.share (omega arith) 293 (pick s.chooser) (under s.chooser) n _ u.draws u.counts u.long (omega arith) refl

pub gen_lawful : {C : Type 0} (pick : C → ℕ → ℕ → ℕ) → ((s : C) (draw live : ℕ) → 1 ≤ live → live ≤ 293 → pick s draw live < live) → (s : Generator C) → Lawful (gen_stock pick s)
gen_lawful pick under s =
    let u = s.subcounters in
    named_lawful s.template _ _
    (λ n. bit_once n _ _ (gen_counted pick under s n))
    (λ n. stands_ahead u.total u.share n u.counts ∙ sym (has_bit n _ _ (gen_counted pick under s n)))
    (λ n h. subst (λ (t : ℕ). n < t) s.whole (stands_below u.total u.share n u.counts h))
