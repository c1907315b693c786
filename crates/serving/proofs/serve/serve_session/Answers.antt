use Rattle.std.proofs.Common.{List, ℕ, ◌++◌, sym, ap, ◌∙◌, subst, ap₂}
use Rattle.names.specs.Templates.{form}
use Rattle.sessions.specs.Opening.{NewDesk, new_desk}
use Rattle.texts.proofs.Fill.{puts_join}
use Rattle.texts.specs.Output.{Puts}
use Rattle.texts.specs.Pieces.{pieces}
use Rattle.serving.specs.Serving.{awaited, open_desk, open_text, by_form}
use Rattle.serving.proofs.serve.serve_session.Goals as goal

pub returns-in-Ok-clause-text : goal.returns-in-Ok-clause-text
returns-in-Ok-clause-text g c =
    let a = awaited (new_desk g.U.Store.pairs g.U.Store.capacity c.args.tallies.now 0) (pieces 10 c.args.input.now) in
    let found = c.in-Ok.ensures.found in
    let f = form c.in-Ok.entered.template in
    let told = ap₂ (λ (x : NewDesk) (ls : List (List ℕ)). a.text ++ open_text (open_desk x f) ls) (sym found.desk) (sym found.rest) ∙ ap (by_form a) (sym found.form) in
    subst (λ (t : List ℕ). Puts c.args.out.now t c.serve_open.new.out) told (puts_join found.text c.serve_open.ensures.text)
