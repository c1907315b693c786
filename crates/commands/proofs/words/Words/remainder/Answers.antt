use Rattle.std.proofs.Common.{◌≡◌, ℕ, List, length, drop, Some, None, Ok, Option, Bor, sym, ap, ◌∙◌, inl, inr, arith}
use Rattle.commands.specs.Ahead.{on, left}
use Rattle.commands.specs.Forms.{rest}
use Rattle.commands.specs.declared.fault.CommandFault.TheVariants.{Line}
use Rattle.commands.proofs.Places.{on_past, on_word}
use Rattle.std.specs.List.{PartBy}
use Rattle.std.specs.Option.{ok_or}
use Rattle.std.proofs.lemmas.List.{length-drop, take_all}
use Rattle.commands.proofs.words.Words.remainder.Goals as goal

left_over : (line : List ℕ) (from : ℕ) (r : Option (Bor (List ℕ))) → PartBy (λ x. x.now) line from (length line) r → left (ok_or r (Line (length line))) ≡ rest line (on line from)
left_over line from None p =
    elim p.0 [
      | inl past ↦ sym (ap (rest line) (on_past line from past))
      | inr past ↦ absurd (omega arith)
    ]
left_over line from (Some x) p =
    ap Ok (p.0.2 ∙ take_all _ (drop from line) (omega (arith, length-drop from line))) ∙ sym (ap (rest line) (on_word line from p.0.0))

pub returns : goal.returns
returns c = rw c.ok_or.ensures.value (left_over c.args.self.line.now c.args.self.from c.get.result c.get.ensures.lookup)
