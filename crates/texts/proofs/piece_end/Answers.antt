-- Where the piece ends is what `position` found, or the length, from the place on.
use Rattle.std.proofs.Common.{◌≡◌, ◌==◌, ◌+◌, ◌-◌, length, drop, ap, ◌∙◌, arith, rules, tests, take_all, length-drop}
use Rattle.std.proofs.lemmas.Iterator.{YieldsList-from_slice}
use Rattle.std.proofs.lemmas.Iterator.Search.{position_from_yields_List}
use Rattle.std.specs.Option.{unwrap_or}
use Rattle.texts.specs.Pieces.{upto}
use Rattle.texts.proofs.Cuts.{cut_at, found_upto}
use Rattle.texts.proofs.piece_end.Goals as goal

ends : (c : goal.After-unwrap_or) → c.args.from + c.unwrap_or.result ≡ c.args.from + length (upto c.args.mark (drop c.args.from c.args.text.now))
ends c =
    let seen = position_from_yields_List (λ b. b == c.args.mark) _ _ c.position.result c.position.ensures.ran (YieldsList-from_slice c.in-Some.rest.now cc) (λ x b q k. search (rules, tests)) in
    let rest : c.in-Some.rest.now ≡ drop c.args.from c.args.text.now = c.in-Some.ensures.lookup.0.2 ∙ take_all (length c.args.text.now - c.args.from) (drop c.args.from c.args.text.now) (omega (arith, length-drop c.args.from c.args.text.now)) in
    ap (λ n. c.args.from + n) (c.unwrap_or.ensures ∙ ap (λ r. unwrap_or r (length c.in-Some.rest.now)) seen ∙ found_upto c.args.mark c.in-Some.rest.now ∙ ap (λ l. length (upto c.args.mark l)) rest)

pub returns-in-Some-clause-value : goal.returns-in-Some-clause-value
returns-in-Some-clause-value c = ends c

pub returns-in-Some-clause-cut : goal.returns-in-Some-clause-cut
returns-in-Some-clause-cut c = λ h. cut_at c.args.mark c.args.text.now c.args.from (c.args.from + c.unwrap_or.result) (ends c) h
