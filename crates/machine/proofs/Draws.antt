-- A draw keeps the laws of sources, the naming and whose numbers are the source's; so do several.
use Rattle.std.proofs.Common.{◌≡◌, ℕ, ◌≤◌, Bool, true, false, cond, ◌||◌, eqb, List, [], ◌∷◌, ◌++◌, sym, refl, ap, ◌∙◌, arith}
use Rattle.std.proofs.lemmas.Bool.Decides.{nat_tests}
use Rattle.sources.specs.Lists.{count, has, first, rest}
use Rattle.sources.specs.Stock.{Stock, Lawful, drawn, moved, is_ahead, is_foreign}
use Rattle.sources.specs.declared.source.Stand.{Stand}
use Rattle.sources.specs.declared.source.Stand.TheVariants.{Ahead, Given, Foreign}
use Rattle.machine.specs.Machine.{front, back, drawn_over}
use Rattle.machine.proofs.Counts.{has_tells}

pub ahead_not_foreign : (a : Stand) → is_ahead a ≡ true → is_foreign a ≡ false
ahead_not_foreign Ahead e = refl
ahead_not_foreign Given e = refl
ahead_not_foreign Foreign e = sym e

-- the lists and stands of a source, apart from its naming
module _ (f : ℕ → Stand) where
  foreign_moved : (xs : List ℕ) → ((n : ℕ) → is_ahead (f n) ≡ has n xs) → (n : ℕ) → is_foreign (moved (first xs) f n) ≡ is_foreign (f n)
  foreign_moved [] listed n = refl
  foreign_moved (x ∷ xs) listed n = at (eqb n x) refl
    where
      at : (b : Bool) → eqb n x ≡ b → is_foreign (cond b Given (f n)) ≡ is_foreign (f n)
      at true e = sym (ahead_not_foreign (f n) (listed n ∙ ap (λ (b : Bool). b || has n xs) e))
      at false e = refl

  listed_moved : (xs : List ℕ) → ((n : ℕ) → count n xs ≤ 1) → ((n : ℕ) → is_ahead (f n) ≡ has n xs) → (n : ℕ) → is_ahead (moved (first xs) f n) ≡ has n (rest xs)
  listed_moved [] once listed n = listed n
  listed_moved (x ∷ xs) once listed n = at (eqb n x) refl
    where
      at : (b : Bool) → eqb n x ≡ b → is_ahead (cond b Given (f n)) ≡ has n xs
      at true e = let o = once n in let h = has_tells n xs in grind (arith, nat_tests)
      at false e = listed n ∙ ap (λ (b : Bool). b || has n xs) e

count_rest : (n : ℕ) (xs : List ℕ) → count n (rest xs) ≤ count n xs
count_rest n [] = omega arith
count_rest n (x ∷ xs) = grind (arith, nat_tests)

pub foreign_drawn : (s : Stock) → Lawful s → (n : ℕ) → is_foreign ((drawn s).stands n) ≡ is_foreign (s.stands n)
foreign_drawn s l n = foreign_moved s.stands s.ahead l.listed n

pub lawful_drawn : (s : Stock) → Lawful s → Lawful (drawn s)
lawful_drawn s l = record {
  once = λ n. let a = l.once n in let b = count_rest n s.ahead in omega arith;
  listed = listed_moved s.stands s.ahead l.once l.listed;
  within = λ n h. l.within n (sym (foreign_drawn s l n) ∙ h);
  small = l.small;
  names = l.names;
  nameless = l.nameless;
  short = l.short;
  readings = l.readings;
  changes = l.changes;
  exchanges = l.exchanges;
}

-- ---- several draws

pub lawful_over : (xs : List ℕ) (s : Stock) → Lawful s → Lawful (drawn_over xs s)
lawful_over [] s l = l
lawful_over (x ∷ xs) s l = lawful_over xs (drawn s) (lawful_drawn s l)

pub foreign_over : (xs : List ℕ) (s : Stock) → Lawful s → (n : ℕ) → is_foreign ((drawn_over xs s).stands n) ≡ is_foreign (s.stands n)
foreign_over [] s l n = refl
foreign_over (x ∷ xs) s l n = foreign_over xs (drawn s) (lawful_drawn s l) n ∙ foreign_drawn s l n

pub ahead_over : (xs ys : List ℕ) (s : Stock) → s.ahead ≡ xs ++ ys → (drawn_over xs s).ahead ≡ ys
ahead_over [] ys s e = e
ahead_over (x ∷ xs) ys s e = ahead_over xs ys (drawn s) (ap rest e)

pub reads_over : (xs : List ℕ) (s : Stock) → (drawn_over xs s).reads ≡ s.reads
reads_over [] s = refl
reads_over (x ∷ xs) s = reads_over xs (drawn s)

pub named_over : (xs : List ℕ) (s : Stock) → (drawn_over xs s).named ≡ s.named
named_over [] s = refl
named_over (x ∷ xs) s = named_over xs (drawn s)

pub front_back : (p : ℕ → Bool) (xs : List ℕ) → xs ≡ front p xs ++ back p xs
front_back p [] = refl
front_back p (x ∷ xs) = at (p x) (front_back p xs)
  where
    at : (b : Bool) → xs ≡ front p xs ++ back p xs → x ∷ xs ≡ cond b (x ∷ front p xs) [] ++ cond b (back p xs) (x ∷ xs)
    at true e = ap (λ (ys : List ℕ). x ∷ ys) e
    at false e = refl

-- the draws of a mint: what a test passes, and one more
module _ (p : ℕ → Bool) (s : Stock) (l : Lawful s) where
  abbrev pub minted_stock : Stock
  minted_stock = drawn (drawn_over (front p s.ahead) s)

  pub minted_lawful : Lawful minted_stock
  minted_lawful = lawful_drawn _ (lawful_over (front p s.ahead) s l)

  pub minted_ahead : (n : ℕ) (ys : List ℕ) → back p s.ahead ≡ n ∷ ys → minted_stock.ahead ≡ ys
  minted_ahead n ys e = ap rest (ahead_over (front p s.ahead) (back p s.ahead) s (front_back p s.ahead) ∙ e)

  pub minted_foreign : (n : ℕ) → is_foreign (minted_stock.stands n) ≡ is_foreign (s.stands n)
  minted_foreign n = foreign_drawn _ (lawful_over (front p s.ahead) s l) n ∙ foreign_over (front p s.ahead) s l n

  pub minted_reads : minted_stock.reads ≡ s.reads
  minted_reads = reads_over (front p s.ahead) s

  pub minted_named : minted_stock.named ≡ s.named
  minted_named = named_over (front p s.ahead) s
