-- The four elements, asked one after another. Assumes nothing.
use Rattle.std.proofs.Common.{◌≡◌, true, false, ◌||◌, [], ◌∷◌, refl, ◌∙◌, rules, tests}
use Rattle.std.proofs.lemmas.Iterator.{YieldsList-from_slice}
use Rattle.std.proofs.lemmas.Iterator.Search.{any_from_yields_List}
use Rattle.stores.specs.declared.text.Element.TheVariants.{Who, What, When, Where}
use Rattle.machine.specs.Machine.{text_under}
use Rattle.minter.specs.Meaning.{meaning}
use Rattle.minter.proofs.register.Register.has_text.Goals as goal

pub returns : goal.returns
returns g c = λ sound.
    let m = meaning g.S.Source.stock g.T.Store.pairs g.T.Store.capacity c.args.self.now in
    any_from_yields_List (text_under m c.args.n) _ _ _ c.any.ensures.ran (YieldsList-from_slice (Who ∷ (What ∷ (When ∷ (Where ∷ [])))) cc) (λ x b q k. search (rules, tests))
    ∙ (elim (text_under m c.args.n Where) as (λ b. (text_under m c.args.n Who || (text_under m c.args.n What || (text_under m c.args.n When || (b || false)))) ≡ (text_under m c.args.n Who || (text_under m c.args.n What || (text_under m c.args.n When || b)))) [ true ↦ refl | false ↦ refl ])
