use Rattle.std.proofs.Common.{ℕ, [], ◌∷◌, ◌++◌, List, ap, ◌∙◌, append_assoc, arith, subst, take_all}
use Rattle.texts.specs.Output.{Puts}
use Rattle.texts.proofs.Fill.{puts_join}
use Rattle.reports.proofs.Fields.{spaced_fields, fields_more, fields_end}
use Rattle.reports.proofs.put_line.Goals as goal

pub loop-field-preserved : goal.loop-field-preserved
loop-field-preserved c =
    subst (λ (s : List ℕ). Puts c.args.out.now s c.put_field.new.out) (fields_more c.args.head.now c.args.fields.now c.loop-field.field-index _ (omega arith)) (puts_join c.loop-field.invariant (puts_join c.put-in-loop-field.ensures c.put_field.ensures))

pub returns : goal.returns
returns c =
    let whole = take_all c.loop-field.field-index c.args.fields.now (omega arith) in
    subst (λ (s : List ℕ). Puts c.args.out.now s c.put-2.new.self)
    (append_assoc c.args.head.now _ (10 ∷ []) ∙ ap (λ l. c.args.head.now ++ (spaced_fields l ++ (10 ∷ []))) whole ∙ ap (λ l. c.args.head.now ++ l) (fields_end c.args.fields.now))
    (puts_join c.loop-field.invariant c.put-2.ensures)
