-- What a draw does to the meaning of a source that is named by a template. Assumes nothing.
use Rattle.std.proofs.Common.{◌≡◌, ℕ, cond, eqb, List, [], ◌∷◌, Option, sym, ap, ◌∙◌, ap₂}
use mathlib.Core.Path.{fun_ext}
use Rattle.names.specs.declared.template.Template.{Template}
use Rattle.sources.specs.Lists.{first, rest}
use Rattle.sources.specs.Named.{stock_of}
use Rattle.sources.specs.Stock.{drawn, moved}
use Rattle.sources.specs.declared.source.Stand.{Stand}
use Rattle.sources.specs.declared.source.Stand.TheVariants.{Given}

-- from an empty list nothing changes
pub drawn_none : (t : Template) (xs : List ℕ) (f : ℕ → Stand) → xs ≡ [] → stock_of t xs f ≡ drawn (stock_of t xs f)
drawn_none t xs f e = rw e

-- else the first number is given
pub drawn_first : (t : Template) (x : ℕ) (xs xs' : List ℕ) (f f' : ℕ → Stand) → xs ≡ x ∷ xs' → ((n : ℕ) → f' n ≡ cond (eqb n x) Given (f n)) → stock_of t xs' f' ≡ drawn (stock_of t xs f)
drawn_first t x xs xs' f f' e h =
    ap₂ (λ (ys : List ℕ) (g : ℕ → Stand). stock_of t ys g) (sym (ap rest e)) (fun_ext (λ n. h n ∙ sym (ap (λ (o : Option ℕ). moved o f n) (ap first e))))
