-- Every call keeps a machine sound, and with it the limits of 64 and 64.
use Rattle.std.proofs.Common.{◌≡◌, ℕ, ◌+◌, ◌≤◌, Bool, true, false, cond, not, ◌&&◌, eqb, leb, List, [], ◌∷◌, ◌++◌, length, Some, None, Option, sym, refl, ap, ◌∙◌, subst, arith, length-append}
use Rattle.std.proofs.lemmas.Bool.Decides.{nat_tests}
use Rattle.sources.specs.Lists.{count, has}
use Rattle.sources.specs.Stock.{Stock, Lawful, is_foreign}
use Rattle.stores.specs.declared.text.Element.{Element}
use Rattle.machine.specs.Machine.{Machine, Outcome, with_lists, with_held, holds, places, added, without, outside, numbers, by, in_order, waiting, text_under, queued_in, ticked_to, bound_in, hold_checks, release_checks, queue_checks, tick_checks, bind_checks, text_checks, front, back, mint_from, step}
use Rattle.machine.specs.Runs.{Sound, all_after}
use Rattle.machine.specs.Calls.{Asked, Mint, Hold, Release, Queue, Tick, Bind, Purge}
use Rattle.machine.proofs.Checks.{tried_so, on_name_so, on_element_so}
use Rattle.machine.proofs.Counts.{has_tells, count_append, count_added, count_without, count_front, all_front, back_first, later_after, after_append, length_in_order, length_numbers, length_by, length_front}
use Rattle.machine.proofs.Draws.{front_back, minted_stock, minted_lawful, minted_ahead, minted_foreign}
use Rattle.machine.proofs.Effects.{waits_tells, queue_total, queue_waits, tick_total, tick_waits, Gone, mint_waits, bound_under, none_bound}
use Rattle.machine.proofs.Places.{has_append, outside_added, outside_without, outside_less, passed_fit, front_passes}

module _ (m : Machine) (i : Sound m) where
  hold_keeps : (n : ℕ) → holds m n ≡ false → (not (has n m.aside) && leb 64 (places m)) ≡ false → Sound (with_held m (added n m.held))
  hold_keeps n out room = record {
    lawful = i.lawful;
    once = i.once;
    ours = i.ours;
    textless = i.textless;
    to_come = i.to_come;
    queue_places = i.queue_places;
    hold_once = λ x. let a = count_added x n m.held in let b = i.hold_once x in let c = has_tells n m.held in grind (arith, nat_tests);
    hold_places = let a = outside_added m.aside n m.held in let b = i.hold_places in grind (arith, nat_tests);
  }

  release_keeps : (n : ℕ) → Sound (with_held m (without n m.held))
  release_keeps n = record {
    lawful = i.lawful;
    once = i.once;
    ours = i.ours;
    textless = i.textless;
    to_come = i.to_come;
    queue_places = i.queue_places;
    hold_once = λ x. let a = count_without x n m.held in let b = i.hold_once x in grind (arith, nat_tests);
    hold_places = let a = outside_without m.aside n m.held in let b = i.hold_places in omega arith;
  }

  queue_comes : (n d : ℕ) → all_after m.clock (queued_in m n d).delayed ≡ true
  queue_comes n d = at (eqb d 0) refl
    where
      at : (b : Bool) → eqb d 0 ≡ b → all_after m.clock (cond b m.delayed (m.delayed ++ (record { number = n; second = m.clock + d } ∷ []))) ≡ true
      at true e = i.to_come
      at false e = after_append m.clock m.delayed (record { number = n; second = m.clock + d } ∷ []) i.to_come (grind (arith, nat_tests))

  queue_fits : (n d : ℕ) → leb 64 (length m.returned + length m.delayed) ≡ false → length (queued_in m n d).returned + length (queued_in m n d).delayed ≤ 64
  queue_fits n d room = at (eqb d 0)
    where
      at : (b : Bool) → length (cond b (m.returned ++ (n ∷ [])) m.returned) + length (cond b m.delayed (m.delayed ++ (record { number = n; second = m.clock + d } ∷ []))) ≤ 64
      at true = let a = length-append m.returned (n ∷ []) in grind (arith, nat_tests)
      at false = let a = length-append m.delayed (record { number = n; second = m.clock + d } ∷ []) in grind (arith, nat_tests)

  queue_keeps : (n d : ℕ) → is_foreign (m.source.stands n) ≡ false → waiting m n ≡ false → ((e : Element) → text_under m n e ≡ false) → leb 64 (length m.returned + length m.delayed) ≡ false → Sound (queued_in m n d)
  queue_keeps n d own out unbound room = record {
    lawful = i.lawful;
    hold_once = i.hold_once;
    hold_places = i.hold_places;
    once = λ x. let a = queue_total m n d x in let b = waits_tells m n in let c = i.once x in grind (arith, nat_tests);
    ours = λ x w. let a = queue_waits m n d x in let b = i.ours x in grind (arith, nat_tests);
    textless = λ x e w. let a = queue_waits m n d x in let b = i.textless x e in let c = unbound e in grind (arith, nat_tests);
    to_come = queue_comes n d;
    queue_places = queue_fits n d room;
  }

  tick_keeps : (t : ℕ) → Sound (ticked_to m t)
  tick_keeps t = record {
    lawful = i.lawful;
    hold_once = i.hold_once;
    hold_places = i.hold_places;
    once = λ x. let a = tick_total m t x in let b = i.once x in omega arith;
    ours = λ x w. i.ours x (sym (tick_waits m t x) ∙ w);
    textless = λ x e w. i.textless x e (sym (tick_waits m t x) ∙ w);
    to_come = later_after t m.delayed;
    queue_places =
        let a = length-append m.returned (numbers (in_order (by t m.delayed))) in
        let b = length_numbers (in_order (by t m.delayed)) in
        let c = length_in_order (by t m.delayed) in
        let e = length_by t m.delayed in
        let f = i.queue_places in
        omega arith;
  }

  text_keeps : (n : ℕ) (f : Element) (w : Option (List ℕ)) (k : ℕ) → waiting m n ≡ false → Sound (bound_in m n f w k)
  text_keeps n f w k out = record {
    lawful = i.lawful;
    once = i.once;
    ours = i.ours;
    to_come = i.to_come;
    hold_once = i.hold_once;
    hold_places = i.hold_places;
    queue_places = i.queue_places;
    textless = λ x e h. let a = bound_under m n f w k x e in let b = i.textless x e h in grind (arith, nat_tests);
  }

  purge_keeps : (n : ℕ) (f : Element) (k : ℕ) → Sound (bound_in m n f None k)
  purge_keeps n f k = record {
    lawful = i.lawful;
    once = i.once;
    ours = i.ours;
    to_come = i.to_come;
    hold_once = i.hold_once;
    hold_places = i.hold_places;
    queue_places = i.queue_places;
    textless = λ x e h. let a = bound_under m n f None k x e in let b = i.textless x e h in grind (arith, nat_tests);
  }

  -- a mint from any of the lists
  mint_keeps : (n : ℕ) (s : Stock) (xs ys : List ℕ) → Gone m n (with_lists m s xs ys) → Lawful s → ((x : ℕ) → is_foreign (s.stands x) ≡ is_foreign (m.source.stands x))
      → length xs + outside xs m.held ≤ places m → length ys ≤ length m.returned → Sound (with_lists m s xs ys)
  mint_keeps n s xs ys gone lawful same few fewer = record {
    lawful = lawful;
    to_come = i.to_come;
    hold_once = i.hold_once;
    once = λ x. let a = gone x in let b = i.once x in grind (arith, nat_tests);
    ours = λ x w. same x ∙ i.ours x (waited x w);
    textless = λ x e w. i.textless x e (waited x w);
    hold_places = let b = i.hold_places in omega arith;
    queue_places = let b = i.queue_places in omega arith;
  }
    where
      waited : (x : ℕ) → waiting (with_lists m s xs ys) x ≡ true → waiting m x ≡ true
      waited x w = let a = mint_waits m (with_lists m s xs ys) n gone i.once x in grind (arith, nat_tests)

  -- the number left where it stood; what was passed came aside
  pub gone_aside : (n : ℕ) (xs : List ℕ) → back (holds m) m.aside ≡ n ∷ xs → Gone m n (with_lists m m.source (front (holds m) m.aside ++ xs) m.returned)
  gone_aside n xs e x =
      let a = count_append x (front (holds m) m.aside) xs in
      let b = count_front (holds m) x m.aside in
      let c = ap (count x) e in
      grind (arith, nat_tests)

  pub gone_returned : (n : ℕ) (ys : List ℕ) → back (holds m) m.returned ≡ n ∷ ys → Gone m n (with_lists m m.source (m.aside ++ front (holds m) m.returned) ys)
  gone_returned n ys e x =
      let a = count_append x m.aside (front (holds m) m.returned) in
      let b = count_front (holds m) x m.returned in
      let c = ap (count x) e in
      grind (arith, nat_tests)

  pub gone_ahead : (n : ℕ) (zs : List ℕ) → back (holds m) m.source.ahead ≡ n ∷ zs
      → Gone m n (with_lists m (minted_stock (holds m) m.source i.lawful) (m.aside ++ (m.returned ++ front (holds m) m.source.ahead)) [])
  gone_ahead n zs e x =
      let a = count_append x m.aside (m.returned ++ front (holds m) m.source.ahead) in
      let b = count_append x m.returned (front (holds m) m.source.ahead) in
      let c = count_front (holds m) x m.source.ahead in
      let d = ap (count x) e in
      let f = ap (count x) (minted_ahead (holds m) m.source i.lawful n zs e) in
      grind (arith, nat_tests)

  -- the limit of aside and held
  fit_aside : (n : ℕ) (xs : List ℕ) → back (holds m) m.aside ≡ n ∷ xs → length (front (holds m) m.aside ++ xs) + outside (front (holds m) m.aside ++ xs) m.held ≤ places m
  fit_aside n xs e =
      let whole : m.aside ≡ front (holds m) m.aside ++ (n ∷ xs) = front_back (holds m) m.aside ∙ ap (λ (zs : List ℕ). front (holds m) m.aside ++ zs) e in
      let a = outside_less (front (holds m) m.aside) xs n m.held (back_first (holds m) n xs m.aside e) in
      let b = ap (λ (zs : List ℕ). outside zs m.held) whole in
      let c = ap {B = ℕ} length whole in
      let d = length-append (front (holds m) m.aside) xs in
      let f = length-append (front (holds m) m.aside) (n ∷ xs) in
      omega arith

  fit_passed : (ps : List ℕ) → ((x : ℕ) → has x ps ≡ true → holds m x ≡ true) → ((x : ℕ) → count x m.aside + count x ps ≤ 1) → length (m.aside ++ ps) + outside (m.aside ++ ps) m.held ≤ places m
  fit_passed ps in-hold once = let a = passed_fit ps m.aside m.held in-hold once in let b = length-append m.aside ps in omega arith

  fit_returned : length (m.aside ++ front (holds m) m.returned) + outside (m.aside ++ front (holds m) m.returned) m.held ≤ places m
  fit_returned = fit_passed (front (holds m) m.returned) (λ x. front_passes (holds m) x m.returned) (λ x. let a = i.once x in let b = count_front (holds m) x m.returned in omega arith)

  fit_ahead : back (holds m) m.returned ≡ []
      → length (m.aside ++ (m.returned ++ front (holds m) m.source.ahead)) + outside (m.aside ++ (m.returned ++ front (holds m) m.source.ahead)) m.held ≤ places m
  fit_ahead e =
      fit_passed (m.returned ++ front (holds m) m.source.ahead)
      (λ x h. let a = has_append x m.returned (front (holds m) m.source.ahead) in let b = all_front (holds m) x m.returned e in let c = front_passes (holds m) x m.source.ahead in grind (arith, nat_tests))
      (λ x. let a = i.once x in let b = count_append x m.returned (front (holds m) m.source.ahead) in let c = count_front (holds m) x m.source.ahead in omega arith)

  mint_sound : (xs ys zs : List ℕ) → back (holds m) m.aside ≡ xs → back (holds m) m.returned ≡ ys → back (holds m) m.source.ahead ≡ zs → Sound (mint_from m xs ys zs).0
  mint_sound (n ∷ xs) ys zs a b c = mint_keeps n m.source _ _ (gone_aside n xs a) i.lawful (λ x. refl) (fit_aside n xs a) (omega arith)
  mint_sound [] (n ∷ ys) zs a b c =
      mint_keeps n m.source _ _ (gone_returned n ys b) i.lawful (λ x. refl) fit_returned (let e = length_front (holds m) m.returned in let f = ap {B = ℕ} length b in omega arith)
  mint_sound [] [] (n ∷ zs) a b c =
      mint_keeps n (minted_stock (holds m) m.source i.lawful) _ _ (gone_ahead n zs c) (minted_lawful (holds m) m.source i.lawful) (minted_foreign (holds m) m.source i.lawful) (fit_ahead b) (omega arith)
  mint_sound [] [] [] a b c = i

  abbrev Stays : Outcome → Type 0
  Stays o = Sound o.0

  pub step_sound : (c : Asked) → Sound (step m c).0
  step_sound Mint = mint_sound _ _ _ refl refl refl
  step_sound (Hold t) = on_name_so Stays m (λ f. i) t _ (λ n r own. tried_so Stays m (λ f. i) (hold_checks m n) _ (λ p. hold_keeps n p.0 p.1.0))
  step_sound (Release t) = on_name_so Stays m (λ f. i) t _ (λ n r own. tried_so Stays m (λ f. i) (release_checks m n) _ (λ p. release_keeps n))
  step_sound (Queue t d) =
      on_name_so Stays m (λ f. i) t _ (λ n r own. tried_so Stays m (λ f. i) (queue_checks m n d) _ (λ p. queue_keeps n d own p.1.0 (none_bound m n p.1.1.1.0) p.1.1.1.1.0))
  step_sound (Tick s) = tried_so Stays m (λ f. i) (tick_checks m s) _ (λ p. tick_keeps s)
  step_sound (Bind t e w) =
      on_name_so Stays m (λ f. i) t _ (λ n r own. on_element_so Stays m (λ f. i) e _ (λ f q. tried_so Stays m (λ f. i) (bind_checks m n f w) _ (λ p. text_keeps n f (Some w) _ p.1.0)))
  step_sound (Purge t e) =
      on_name_so Stays m (λ f. i) t _ (λ n r own. on_element_so Stays m (λ f. i) e _ (λ f q. tried_so Stays m (λ f. i) (text_checks m n f) _ (λ p. purge_keeps n f _)))

-- what a call leaves is sound
pub kept_by : (c : Asked) (m m' : Machine) → m' ≡ (step m c).0 → Sound m → Sound m'
kept_by c m m' e sound = subst Sound (sym e) (step_sound m sound c)
