-- Two names that are read are the same exactly if their numbers are, so what changes at one number changes at its name.
use Rattle.std.proofs.Common.{◌≡◌, ℕ, Bool, true, false, cond, ◌&&◌, eqb, Ok, Err, Result, sym, refl, ap, ◌∙◌, arith}
use Rattle.std.proofs.lemmas.Slice.Eq.{bytes_eq-Decides}
use Rattle.std.proofs.lemmas.Bool.Decides.{nat_tests}
use Rattle.std.specs.Str.{bytes_eq}
use Rattle.names.specs.declared.fault.NameFault.{NameFault}
use Rattle.sources.specs.Stock.{Stock, Lawful}
use Rattle.machine.specs.Names.{Name, read_as}

module _ {X : Type 0} where
  pub read_ok : (f : ℕ → X) (d : X) (r : Result ℕ NameFault) (n : ℕ) → r ≡ Ok n → read_as f d r ≡ f n
  read_ok f d r n e = ap (read_as f d) e

module _ (s : Stock) (l : Lawful s) (u : Name) (k : ℕ) (named : s.reads u ≡ Ok k) where
  pub alike : (t : Name) (n : ℕ) → s.reads t ≡ Ok n → bytes_eq t u ≡ eqb n k
  alike t n r = at (bytes_eq t u) (bytes_eq-Decides t u).0 (bytes_eq-Decides t u).1
    where
      at : (b : Bool) → (b ≡ true → t ≡ u) → (t ≡ u → b ≡ true) → b ≡ eqb n k
      at true same back =
          let e = ap s.reads (same refl) in
          let q : n ≡ k = cc in
          grind (arith, nat_tests)
      at false same back =
          let e : n ≡ k → t ≡ u = λ q. (l.readings t n r).1 ∙ ap s.named q ∙ sym (l.readings u k named).1 in
          let f : n ≡ k → false ≡ true = λ q. back (e q) in
          grind (arith, nat_tests)

  unlike : (t : Name) (f : NameFault) → s.reads t ≡ Err f → bytes_eq t u ≡ false
  unlike t f r = at (bytes_eq t u) (bytes_eq-Decides t u).0
    where
      at : (b : Bool) → (b ≡ true → t ≡ u) → b ≡ false
      at true same = let e = ap s.reads (same refl) in let z : ◌≡◌ {A = ℕ} 0 1 = cc in absurd (omega arith)
      at false same = refl

  -- what is x at the number k, and as it was at any other
  module _ {X : Type 0} (f f' : ℕ → X) (x d : X) where
    pub turned_at : ((n : ℕ) → f' n ≡ cond (eqb n k) x (f n)) → (t : Name) → cond (bytes_eq t u) x (read_as f d (s.reads t)) ≡ read_as f' d (s.reads t)
    turned_at change t = at (s.reads t) refl
      where
        at : (r : Result ℕ NameFault) → s.reads t ≡ r → cond (bytes_eq t u) x (read_as f d r) ≡ read_as f' d r
        at (Ok n) e = ap (λ (b : Bool). cond b x (f n)) (alike t n e) ∙ sym (change n)
        at (Err g) e = ap (λ (b : Bool). cond b x d) (unlike t g e)

    -- at the number k, if b
    pub turned_if : (b : Bool) → ((n : ℕ) → f' n ≡ cond (eqb n k && b) x (f n)) → (t : Name) → cond (bytes_eq t u && b) x (read_as f d (s.reads t)) ≡ read_as f' d (s.reads t)
    turned_if b change t = at (s.reads t) refl
      where
        at : (r : Result ℕ NameFault) → s.reads t ≡ r → cond (bytes_eq t u && b) x (read_as f d r) ≡ read_as f' d r
        at (Ok n) e = ap (λ (a : Bool). cond (a && b) x (f n)) (alike t n e) ∙ sym (change n)
        at (Err g) e = ap (λ (a : Bool). cond (a && b) x d) (unlike t g e)
