use Rattle.std.proofs.Common.{◌≡◌, ◌-◌, length, Ok, Err, sym, ap, ◌∙◌}
use Rattle.std.proofs.lemmas.Result.{err_from_is_err_and}
use Rattle.std.proofs.lemmas.Bool.{cond-true}
use Rattle.names.specs.Validate.{closes, closed, reads}
use Rattle.names.specs.Naming.{with_parts}
use Rattle.names.specs.declared.fault.NameFault.TheVariants.{Check}
use Rattle.names.proofs.Slots.{reads_whole}
use Rattle.names.proofs.parts.Parts.validate.Goals as goal

pub returns-in_err-number : goal.returns-in_err-number
returns-in_err-number c =
    let t = c.args.text.now in
    let e = c.in_err-number.field-0.0 in
    let out = err_from_is_err_and c.from_residual.result c.from_residual.ensures.1 in
    let whole : reads (with_parts c.args.self.now.prefix.now c.args.self.now.mask.now c.args.self.now.check) t ≡ Err e =
    reads_whole c.args.self.now.prefix.now c.args.self.now.mask.now c.args.self.now.check t (Err e) (c.if-len-name_len.false ∙ c.name_len.ensures.slots) (sym c.in_err-number.ensures) in
    out.1 ∙ (ap Err out.2 ∙ sym whole)

pub returns-then-closes : goal.returns-then-closes
returns-then-closes c =
    let t = c.args.text.now in
    let n = c.in_ok-number.number in
    let whole : reads (with_parts c.args.self.now.prefix.now c.args.self.now.mask.now c.args.self.now.check) t ≡ closed c.args.self.now.check t (Ok n) =
    reads_whole c.args.self.now.prefix.now c.args.self.now.mask.now c.args.self.now.check t (Ok n) (c.if-len-name_len.false ∙ c.name_len.ensures.slots) (sym c.in_ok-number.ensures) in
    sym (whole ∙ cond-true (closes c.args.self.now.check t) (Ok n) (Err (Check (length t - 1))) (sym c.if-closes.ensures))
