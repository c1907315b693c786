-- What the steps of a mint come to. Assumes nothing.
use Rattle.std.proofs.Common.{◌≡◌, ℕ, suc, ◌+◌, ◌-◌, ◌<◌, ◌≤◌, true, false, not, List, [], ◌∷◌, ◌++◌, length, get_or, take, drop, is_some, Some, Ok, Option, sym, refl, ap, ◌∙◌, ap₂, ⊎_elim, append_assoc, arith}
use Rattle.std.specs.List.{remove}
use Rattle.std.proofs.lemmas.List.{append-nil, take_all, drop_all}
use Rattle.std.proofs.lemmas.Bool.{cases_Bool, cond-true, cond-false, and_from, not_from_false, false≢true}
use Rattle.std.proofs.lemmas.Bool.Decides.{nat_tests}
use Rattle.sources.specs.Lists.{count, has, first, rest}
use Rattle.sources.specs.Stock.{drawn}
use Rattle.machine.specs.Machine.{Machine, Outcome, with_lists, holds, front, back, drawn_over, mint, mint_from}
use Rattle.minter.specs.Passes.{put_last, set_aside, aside_put, passed, drawn_free, returned_taken}
use Rattle.machine.specs.Runs.{Sound}
use Rattle.machine.proofs.Counts.{has_tells, count_append, count_front, all_front}
use Rattle.minter.proofs.Dues.{first_some}
use Rattle.machine.proofs.Places.{front_passes}

-- the first number of a list, and what is left
pub head_removed : (xs ys : List ℕ) (n : ℕ) → 0 < length xs → n ≡ get_or xs 0 n → ys ≡ remove xs 0 → xs ≡ n ∷ ys
head_removed [] ys n h e r = absurd (omega arith)
head_removed (x ∷ xs) ys n h e r = ap₂ {C = List ℕ} (λ a b. a ∷ b) (sym e) (sym r)

pub pass_more : (m : Machine) (n : ℕ) (rs : List ℕ) (k : ℕ) → m.returned ≡ n ∷ rs → 0 < k → passed (aside_put (with_lists m m.source m.aside rs) n) (k - 1) ≡ passed m k
pass_more m n rs k e pos =
    let f : List ℕ → ℕ → Machine = λ xs j. with_lists m m.source (set_aside m.held m.aside (take j xs)) (drop j xs) in
    let z : suc (k - 1) ≡ k = omega arith in
    ap₂ f (sym e) z

-- ---- numbers that come aside

-- a held number that is not aside comes to its end
put_there : (held aside : List ℕ) (n : ℕ) → has n held ≡ true → count n aside ≡ 0 → put_last held aside n ≡ aside ++ (n ∷ [])
put_there held aside n on out =
    let t = has_tells n aside in
    let f : has n aside ≡ false = grind arith in
    cond-true _ _ _ (and_from _ _ on (not_from_false _ f))

-- no number stands twice in two lists together
abbrev Apart : List ℕ → List ℕ → Type 0
Apart xs ys = (n : ℕ) → count n xs + count n ys ≤ 1

apart_head : (x : ℕ) (xs ys : List ℕ) → Apart ys (x ∷ xs) → count x ys ≡ 0
apart_head x xs ys apart = let o = apart x in grind (arith, nat_tests)

apart_more : (x : ℕ) (xs ys : List ℕ) → Apart ys (x ∷ xs) → Apart (ys ++ (x ∷ [])) xs
apart_more x xs ys apart n = let o = apart n in let a = count_append n ys (x ∷ []) in grind (arith, nat_tests)

set_aside_all : (held aside xs : List ℕ) → ((n : ℕ) → has n xs ≡ true → has n held ≡ true) → Apart aside xs → set_aside held aside xs ≡ aside ++ xs
set_aside_all held aside [] on apart = sym (append-nil aside)
set_aside_all held aside (x ∷ xs) on apart =
    let p = put_there held aside x (on x (grind (arith, nat_tests))) (apart_head x xs aside apart) in
    ap (λ (ys : List ℕ). set_aside held ys xs) p
    ∙ set_aside_all held (aside ++ (x ∷ [])) xs (λ n h. on n (grind (arith, nat_tests))) (apart_more x xs aside apart)
    ∙ append_assoc aside (x ∷ []) xs

-- draws up to the first number that is not held
draws_so : (xs : List ℕ) (m : Machine) (n : ℕ) (zs : List ℕ) → back (holds m) xs ≡ n ∷ zs → Apart m.aside xs
    → drawn_free xs m ≡ (with_lists m (drawn (drawn_over (front (holds m) xs) m.source)) (m.aside ++ front (holds m) xs) m.returned, Some n)
draws_so [] m n zs e apart = let z : ◌≡◌ {A = ℕ} 0 1 = cc in absurd (omega arith)
draws_so (x ∷ xs) m n zs e apart =
    ⊎_elim
    (λ (b : holds m x ≡ true).
    let m' : Machine = with_lists m (drawn m.source) (m.aside ++ (x ∷ [])) m.returned in
    let p = put_there m.held m.aside x b (apart_head x xs m.aside apart) in
    let e' : back (holds m) xs ≡ n ∷ zs = sym (cond-true _ _ _ b) ∙ e in
    let ih = draws_so xs m' n zs e' (apart_more x xs m.aside apart) in
    let step : drawn_free (x ∷ xs) m ≡ drawn_free xs m' =
    cond-true _ _ _ b ∙ ap (λ (ys : List ℕ). drawn_free xs (with_lists m (drawn m.source) ys m.returned)) p in
    let f : front (holds m) (x ∷ xs) ≡ x ∷ front (holds m) xs = cond-true _ _ _ b in
    step ∙ ih ∙ sym (ap {B = Machine × Option ℕ} (λ (ys : List ℕ). (with_lists m (drawn (drawn_over ys m.source)) (m.aside ++ ys) m.returned, Some n)) f
    ∙ ap {B = Machine × Option ℕ} (λ (ys : List ℕ). (with_lists m (drawn (drawn_over (x ∷ front (holds m) xs) m.source)) ys m.returned, Some n)) (sym (append_assoc m.aside (x ∷ []) (front (holds m) xs)))))
    (λ (b : holds m x ≡ false).
    let e' : x ∷ xs ≡ n ∷ zs = sym (cond-false _ _ _ b) ∙ e in
    let same : x ≡ n = cc in
    let f : front (holds m) (x ∷ xs) ≡ [] = cond-false _ _ _ b in
    cond-false _ _ _ b ∙ sym (ap {B = Machine × Option ℕ} (λ (ys : List ℕ). (with_lists m (drawn (drawn_over ys m.source)) (m.aside ++ ys) m.returned, Some n)) f
    ∙ ap₂ {C = Machine × Option ℕ} (λ (ys : List ℕ) (k : ℕ). (with_lists m (drawn m.source) ys m.returned, Some k)) (append-nil m.aside) (sym same)))
    (cases_Bool (holds m x))

-- ---- the whole

module _ (m : Machine) (sound : Sound m) (none : back (holds m) m.aside ≡ []) where
  pub mint_returned : (n : ℕ) → Some n ≡ first (back (holds m) m.returned) → mint m ≡ (returned_taken m, Ok n)
  mint_returned n some =
      let rs = rest (back (holds m) m.returned) in
      let e : back (holds m) m.returned ≡ n ∷ rs = first_some n (back (holds m) m.returned) some in
      let on : (k : ℕ) → has k (front (holds m) m.returned) ≡ true → has k m.held ≡ true = λ k h. front_passes (holds m) k m.returned h in
      let apart : Apart m.aside (front (holds m) m.returned) = λ k. let o = sound.once k in let c = count_front (holds m) k m.returned in omega arith in
      let s = set_aside_all m.held m.aside (front (holds m) m.returned) on apart in
      ap₂ {C = Outcome} (λ (xs ys : List ℕ). mint_from m xs ys (back (holds m) m.source.ahead)) none e
      ∙ ap {B = Outcome} (λ (ys : List ℕ). (with_lists m m.source ys rs, Ok n)) (sym s)

  module _ (none-returned : back (holds m) m.returned ≡ []) where
    all_passed : passed m (length m.returned) ≡ with_lists m m.source (m.aside ++ m.returned) []
    all_passed =
        let on : (k : ℕ) → has k m.returned ≡ true → has k m.held ≡ true = λ k h. all_front (holds m) k m.returned none-returned h in
        let apart : Apart m.aside m.returned = λ k. let o = sound.once k in omega arith in
        let s = set_aside_all m.held m.aside m.returned on apart in
        let t = take_all (length m.returned) m.returned (omega arith) in
        let d = drop_all (length m.returned) m.returned (omega arith) in
        ap₂ {C = Machine} (λ (xs ys : List ℕ). with_lists m m.source xs ys) (ap (set_aside m.held m.aside) t ∙ s) d

    module _ (n : ℕ) (zs : List ℕ) (some : back (holds m) m.source.ahead ≡ n ∷ zs) where
      minted : mint m ≡ (with_lists m (drawn (drawn_over (front (holds m) m.source.ahead) m.source)) (m.aside ++ (m.returned ++ front (holds m) m.source.ahead)) [], Ok n)
      minted =
          ap {B = Outcome} (λ (xs : List ℕ). mint_from m xs (back (holds m) m.returned) (back (holds m) m.source.ahead)) none
          ∙ ap {B = Outcome} (λ (ys : List ℕ). mint_from m [] ys (back (holds m) m.source.ahead)) none-returned
          ∙ ap {B = Outcome} (λ (xs : List ℕ). mint_from m [] [] xs) some

      pub minted_number : (mint m).1 ≡ Ok n
      minted_number = ap (λ (o : Outcome). o.1) minted

      -- what the draws give, once all of returned came aside
      pub drawn_as_minted : drawn_free m.source.ahead (passed m (length m.returned)) ≡ ((mint m).0, Some n)
      drawn_as_minted =
          let m' : Machine = with_lists m m.source (m.aside ++ m.returned) [] in
          let apart : Apart m'.aside m.source.ahead = λ k. let o = sound.once k in let a = count_append k m.aside m.returned in omega arith in
          let f = front (holds m) m.source.ahead in
          ap (drawn_free m.source.ahead) all_passed ∙ draws_so m.source.ahead m' n zs some apart
          ∙ ap {B = Machine × Option ℕ} (λ (xs : List ℕ). (with_lists m (drawn (drawn_over f m.source)) xs [], Some n)) (append_assoc m.aside m.returned f)
          ∙ ap {B = Machine × Option ℕ} (λ (o : Outcome). (o.0, Some n)) (sym minted)

-- a number is left where not none is
pub some_left : (ys : List ℕ) → false ≡ not (is_some (first ys)) → (n : ℕ) × ((zs : List ℕ) × (ys ≡ n ∷ zs))
some_left [] e = absurd (false≢true e)
some_left (y ∷ ys) e = (y, (ys, refl))
