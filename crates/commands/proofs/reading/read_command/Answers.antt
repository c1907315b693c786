use Rattle.std.proofs.Common.{◌≡◌, ℕ, List, IfOk, IfErr, Ok, Err, Result, sym, ◌∙◌, arith}
use Rattle.std.proofs.lemmas.Grind.{common_steps}
use Rattle.std.proofs.lemmas.Result.{IfOk-weaker}
use Rattle.commands.specs.Forms.{reads, said, said_read}
use Rattle.commands.specs.Refusals.{IsCommand, Refused}
use Rattle.commands.specs.Spelling.{Reading, Spelt}
use Rattle.commands.specs.declared.command.Command.{Command}
use Rattle.commands.specs.declared.fault.CommandFault.{CommandFault}
use Rattle.commands.proofs.Fairness.{reading}
use Rattle.commands.proofs.Refusals.{reads_refused}
use Rattle.commands.proofs.Typing.{spelt_reads}
use Rattle.commands.proofs.reading.read_command.Goals as goal

so_read : (line : List ℕ) (r : Result Command CommandFault) → said_read r ≡ reads line → IfOk r (λ x. Reading line (said x))
so_read line (Ok x) e = reading line (said x) (sym e)
so_read line (Err fault) e = tt

so_refused : (line : List ℕ) (r : Result Command CommandFault) → said_read r ≡ reads line → IfErr r (λ fault. Refused IsCommand line fault)
so_refused line (Ok x) e = tt
so_refused line (Err fault) e = reads_refused line fault (sym e)

pub returns : goal.returns
returns c =
    let line = c.args.line.now in
    let r = c.and_then.result in
    let read : said_read r ≡ reads line = grind (arith, common_steps) in
    let so = so_read line r read in
    record {
      value = read;
      spelt = IfOk-weaker r (λ x. Reading line (said x)) (λ x. Spelt line (said x)) (λ x h. h.spelt) so;
      accepted = λ x fair spelt short. read ∙ spelt_reads line x (record { spelt = spelt; fair = fair; short = short });
      reading = so;
      first = so_refused line r read;
    }
