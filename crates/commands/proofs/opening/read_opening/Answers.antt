use Rattle.std.proofs.Common.{◌≡◌, ℕ, List, [], ◌∷◌, codes, IfOk, IfErr, Ok, Err, Result, sym, ◌∙◌, Bor, rules}
use Rattle.std.proofs.lemmas.Result.{IfOk-weaker}
use Rattle.commands.specs.Forms.{opens, template_read}
use Rattle.commands.specs.Refusals.{IsOpening, Refused}
use Rattle.commands.specs.Spelling.{Opened, with_spaces}
use Rattle.commands.specs.declared.fault.CommandFault.{CommandFault}
use Rattle.commands.proofs.Fairness.{opened}
use Rattle.commands.proofs.Refusals.{opens_refused}
use Rattle.commands.proofs.Typing.{spelt_opens}
use Rattle.commands.proofs.opening.read_opening.Goals as goal

so_read : (line : List ℕ) (r : Result (Bor (List ℕ)) CommandFault) → template_read r ≡ opens line → IfOk r (λ x. Opened line x.now)
so_read line (Ok x) e = opened line x.now (sym e)
so_read line (Err fault) e = tt

so_refused : (line : List ℕ) (r : Result (Bor (List ℕ)) CommandFault) → template_read r ≡ opens line → IfErr r (λ fault. Refused IsOpening line fault)
so_refused line (Ok x) e = tt
so_refused line (Err fault) e = opens_refused line fault (sym e)

pub returns : goal.returns
returns c =
    let line = c.args.line.now in
    let r = c.and_then.result in
    let read : template_read r ≡ opens line = search rules in
    let so = so_read line r read in
    record {
      value = read;
      spelt = IfOk-weaker r (λ x. Opened line x.now) (λ x. line ≡ with_spaces (codes "template" ∷ x.now ∷ [])) (λ x h. h.spelt) so;
      accepted = λ x fair spelt short. read ∙ spelt_opens line x (record { spelt = spelt; fair = fair; short = short });
      reading = so;
      first = so_refused line r read;
    }
