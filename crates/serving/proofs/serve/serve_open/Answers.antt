use Rattle.std.proofs.Common.{◌≡◌, ℕ, ◌-◌, List, ◌++◌, length, is_ok, Result, sym, ap, ◌∙◌, subst, ap₂, arith}
use Rattle.machine.specs.Machine.{fresh}
use Rattle.names.specs.Templates.{form}
use Rattle.sessions.specs.Ends.{closing, Closes}
use Rattle.sessions.specs.Frames.{Desk, desk}
use Rattle.sessions.specs.Opening.{new_desk}
use Rattle.sessions.specs.Tallies.{tallies_in}
use Rattle.sessions.specs.declared.end.StillOpen.{StillOpen}
use Rattle.sessions.specs.declared.session.EndedSession.{EndedSession}
use Rattle.sources.specs.ChoiceLaws.{by_letter_under}
use Rattle.sources.specs.Choices.{by_letter}
use Rattle.sources.specs.GeneratorLaws.{gen_lawful}
use Rattle.sources.specs.Generators.{gen_stock}
use Rattle.sources.specs.Lists.{count}
use Rattle.sources.specs.Named.{new_stock, total_of}
use Rattle.sources.specs.Stock.{Stock, Lawful}
use Rattle.sources.specs.Subcounters.{new_ahead}
use Rattle.sources.specs.declared.chooser.ByLetter.{ByLetter}
use Rattle.texts.proofs.Fill.{puts_join}
use Rattle.texts.specs.Output.{Puts}
use Rattle.serving.proofs.Answering.{put_whole}
use Rattle.serving.proofs.Rules.{ruled}
use Rattle.serving.specs.Serving.{lines_text, lines_desk, open_desk, open_text, source_of}
use Rattle.serving.proofs.serve.serve_open.Goals as goal

pub returns : goal.returns
returns g c =
    let p = c.args.entered.template in
    let f = form p in
    let d = new_desk g.U.Store.pairs g.U.Store.capacity c.args.tallies.now c.args.entered.session.lines in
    let ls = c.args.lines in
    let at = desk (gen_stock by_letter) g.T.Store.pairs g.T.Store.capacity g.U.Store.pairs g.U.Store.capacity in
    let source : gen_stock by_letter c.new-source.result ≡ source_of f =
    c.new-source.ensures.made ∙ ap (λ (b : ByLetter). new_stock p (new_ahead (total_of p) (by_letter b))) c.of.ensures in
    let machine = c.open-register.ensures.fresh c.requires.empty ∙ ap₂ (λ (s : Stock) (n : ℕ). fresh s n) source c.requires.places in
    let begun = at c.open-register.result c.args.tallies.now c.args.entered.session in
    let same : begun ≡ open_desk d f = λ j. record { machine = machine j; tallies = d.tallies; lines = d.lines; minted = c.requires.fresh j } in
    let heard = c.answer_lines-session.ensures in
    let now = c.answer_lines-session.new.out in
    let tallied = tallies_in (g.U.Store.pairs c.answer_lines-session.new.tallies) (g.U.Store.capacity c.answer_lines-session.new.tallies) in
    let closed = subst (λ (r : Result EndedSession StillOpen). Closes (length now.bytes.now - now.fill) tallied c.answer_lines-session.result now c.end.new.out r) c.unwrap.ensures (c.end.ensures.closes heard.tallies) in
    let few = c.end.ensures.brief heard.tallies (ap is_ok c.unwrap.ensures) in
    let told : lines_text begun ls ++ closing (lines_desk begun ls).tallies (lines_desk begun ls).minted ≡ open_text (open_desk d f) ls = ap (λ (x : Desk). open_text x ls) same in
    record {
      text = subst (λ (t : List ℕ). Puts c.args.out.now t c.end.new.out) (ap (λ (x : Desk). lines_text begun ls ++ closing x.tallies x.minted) heard.desk ∙ told) (puts_join heard.text closed.2);
      whole = let put = put_whole closed.2 (omega (arith, heard.room, few)) in omega (arith, heard.room, few, put.0, put.1);
      ruled = ruled d p ls (subst Lawful source (gen_lawful by_letter (λ s draw live some few. by_letter_under s draw live some) c.new-source.result))
          (λ n. ap (λ (s : Stock). count n s.ahead) (sym source) ∙ c.new-source.ensures.each n);
    }
