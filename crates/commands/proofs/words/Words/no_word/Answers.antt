use Rattle.std.proofs.Common.{sym, ap, arith}
use Rattle.commands.specs.Forms.{last}
use Rattle.commands.proofs.Places.{on_word}
use Rattle.commands.proofs.words.Words.no_word.Goals as goal

pub returns-then-self : goal.returns-then-self
returns-then-self c = sym (ap last (on_word c.args.self.now.line.now c.args.self.now.from (omega arith)))
