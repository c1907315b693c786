use Rattle.std.proofs.Common.{◌∷◌, ◌++◌, [], ap, ◌∙◌, arith}
use Rattle.std.proofs.lemmas.List.{length_push, take_all}
use Rattle.names.specs.Check.{check_char}
use Rattle.names.proofs.naming.closed.Goals as goal

pub returns : goal.returns
returns c =
    let t = c.args.text in
    let k = c.check_character.result in
    c.push.ensures ∙ (take_all 28 (t ++ k ∷ []) (omega (arith, length_push t k)) ∙ ap (λ z. t ++ z ∷ []) (c.check_character.ensures ∙ ap check_char c.as_slice.ensures.bytes))
