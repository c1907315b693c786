-- What each call, once its checks are passed, makes of what waits, is on hold and has a text, number by number.
use Rattle.std.proofs.Common.{◌≡◌, ℕ, suc, ◌+◌, ◌≤◌, Bool, true, false, cond, not, ◌&&◌, eqb, ◌⊎◌, List, [], ◌∷◌, ◌++◌, is_some, Option, refl, arith}
use Rattle.std.proofs.lemmas.Bool.{or_parts}
use Rattle.std.proofs.lemmas.Bool.Decides.{nat_tests}
use Rattle.sources.specs.Lists.{count, has}
use Rattle.stores.specs.Texts.{same_element, same_key}
use Rattle.stores.specs.declared.text.Element.{Element}
use Rattle.stores.specs.declared.text.Element.TheVariants.{Who, What, When, Where}
use Rattle.machine.specs.Machine.{Machine, holds, added, without, numbers, by, in_order, waiting, key, text_under, text_bound, queued_in, ticked_to, bound_in}
use Rattle.machine.specs.Runs.{second_of}
use Rattle.machine.proofs.Counts.{has_tells, count_append, count_numbers_append, count_added, count_without, count_in_order, count_by, second_append, second_at_end}

-- how often a number stands in the four lists together
abbrev pub total : Machine → ℕ → ℕ
total m n = count n m.aside + (count n m.returned + (count n m.source.ahead + count n (numbers m.delayed)))

pub waits_tells : (m : Machine) (n : ℕ) → ((waiting m n ≡ true) × (1 ≤ total m n)) ⊎ ((waiting m n ≡ false) × (total m n ≡ 0))
waits_tells m n =
    let a = has_tells n m.aside in
    let b = has_tells n m.returned in
    let c = has_tells n m.source.ahead in
    let d = has_tells n (numbers m.delayed) in
    grind arith

-- ---- hold and release

pub hold_holds : (m : Machine) (n x : ℕ) → has x (added n m.held) ≡ cond (eqb x n) true (holds m x)
hold_holds m n x =
    let c = count_added x n m.held in
    let a = has_tells x (added n m.held) in
    let b = has_tells x m.held in
    grind (arith, nat_tests)

pub release_holds : (m : Machine) (n x : ℕ) → count x m.held ≤ 1 → has x (without n m.held) ≡ cond (eqb x n) false (holds m x)
release_holds m n x once =
    let c = count_without x n m.held in
    let a = has_tells x (without n m.held) in
    let b = has_tells x m.held in
    grind (arith, nat_tests)

-- ---- queue and tick

pub queue_total : (m : Machine) (n d x : ℕ) → total (queued_in m n d) x ≡ cond (eqb x n) (suc (total m x)) (total m x)
queue_total m n d x = at (eqb d 0)
  where
    at : (b : Bool) → count x m.aside + (count x (cond b (m.returned ++ (n ∷ [])) m.returned) + (count x m.source.ahead + count x (numbers (cond b m.delayed (m.delayed ++ (record { number = n; second = m.clock + d } ∷ [])))))) ≡ cond (eqb x n) (suc (total m x)) (total m x)
    at true = let a = count_append x m.returned (n ∷ []) in grind (arith, nat_tests)
    at false = let a = count_numbers_append x m.delayed (record { number = n; second = m.clock + d } ∷ []) in grind (arith, nat_tests)

pub queue_waits : (m : Machine) (n d x : ℕ) → waiting (queued_in m n d) x ≡ cond (eqb x n) true (waiting m x)
queue_waits m n d x =
    let t = queue_total m n d x in
    let a = waits_tells m x in
    let b = waits_tells (queued_in m n d) x in
    grind (arith, nat_tests)

-- what is not delayed yet is delayed from then on, unless the delay is 0
pub queue_delayed : (m : Machine) (n d : ℕ) → has n (numbers m.delayed) ≡ false → (x : ℕ) → has x (numbers (queued_in m n d).delayed) ≡ cond (eqb x n) (not (eqb d 0)) (has x (numbers m.delayed))
queue_delayed m n d out x = at (eqb d 0)
  where
    at : (b : Bool) → has x (numbers (cond b m.delayed (m.delayed ++ (record { number = n; second = m.clock + d } ∷ [])))) ≡ cond (eqb x n) (not b) (has x (numbers m.delayed))
    at true = grind (arith, nat_tests)
    at false =
        let a = count_numbers_append x m.delayed (record { number = n; second = m.clock + d } ∷ []) in
        let b = has_tells x (numbers m.delayed) in
        let c = has_tells x (numbers (m.delayed ++ (record { number = n; second = m.clock + d } ∷ []))) in
        grind (arith, nat_tests)

pub queue_second : (m : Machine) (n d : ℕ) → has n (numbers m.delayed) ≡ false → (x : ℕ) → has x (numbers (queued_in m n d).delayed) ≡ true
    → second_of (queued_in m n d).delayed x ≡ cond (eqb x n) (m.clock + d) (second_of m.delayed x)
queue_second m n d out x there = at (eqb d 0) there (queue_delayed m n d out x)
  where
    at : (b : Bool) → has x (numbers (cond b m.delayed (m.delayed ++ (record { number = n; second = m.clock + d } ∷ [])))) ≡ true
        → has x (numbers (cond b m.delayed (m.delayed ++ (record { number = n; second = m.clock + d } ∷ [])))) ≡ cond (eqb x n) (not b) (has x (numbers m.delayed))
        → second_of (cond b m.delayed (m.delayed ++ (record { number = n; second = m.clock + d } ∷ []))) x ≡ cond (eqb x n) (m.clock + d) (second_of m.delayed x)
    at true t e = grind (arith, nat_tests)
    at false t e =
        let a = second_append m.delayed (record { number = n; second = m.clock + d } ∷ []) x in
        let b = second_at_end m.delayed (record { number = n; second = m.clock + d }) out in
        grind (arith, nat_tests)

pub tick_total : (m : Machine) (t x : ℕ) → total (ticked_to m t) x ≡ total m x
tick_total m t x =
    let a = count_append x m.returned (numbers (in_order (by t m.delayed))) in
    let b = count_in_order x (by t m.delayed) in
    let c = count_by x t m.delayed in
    omega arith

pub tick_waits : (m : Machine) (t x : ℕ) → waiting (ticked_to m t) x ≡ waiting m x
tick_waits m t x =
    let e = tick_total m t x in
    let a = waits_tells m x in
    let b = waits_tells (ticked_to m t) x in
    grind arith

-- ---- mint

-- the number n left the lists, and no other did
abbrev pub Gone : Machine → ℕ → Machine → Type 0
Gone m n m' = (x : ℕ) → cond (eqb x n) (suc (total m' x)) (total m' x) ≡ total m x

pub mint_waits : (m m' : Machine) (n : ℕ) → Gone m n m' → ((x : ℕ) → total m x ≤ 1) → (x : ℕ) → waiting m' x ≡ cond (eqb x n) false (waiting m x)
mint_waits m m' n gone once x =
    let e = gone x in
    let o = once x in
    let a = waits_tells m x in
    let b = waits_tells m' x in
    grind (arith, nat_tests)

-- ---- texts

pub bound_under : (m : Machine) (n : ℕ) (f : Element) (w : Option (List ℕ)) (k x : ℕ) (e : Element)
    → text_under (bound_in m n f w k) x e ≡ cond (eqb x n && same_element e f) (is_some w) (text_under m x e)
bound_under m n f w k x e = at (same_key (key n f) (key x e)) (eqb x n && same_element e f) (grind (arith, nat_tests))
  where
    at : (a b : Bool) → a ≡ b → is_some (cond a w (m.texts (key x e))) ≡ cond b (is_some w) (is_some (m.texts (key x e)))
    at true true q = refl
    at false false q = refl
    at true false q = grind arith
    at false true q = grind arith

pub none_bound : (m : Machine) (n : ℕ) → text_bound m n ≡ false → (e : Element) → text_under m n e ≡ false
none_bound m n h Who = (or_parts (text_under m n Who) _ h).0
none_bound m n h What = (or_parts (text_under m n What) _ (or_parts (text_under m n Who) _ h).1).0
none_bound m n h When = (or_parts (text_under m n When) _ (or_parts (text_under m n What) _ (or_parts (text_under m n Who) _ h).1).1).0
none_bound m n h Where = (or_parts (text_under m n When) _ (or_parts (text_under m n What) _ (or_parts (text_under m n Who) _ h).1).1).1
