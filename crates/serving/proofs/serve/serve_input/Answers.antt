use Rattle.std.proofs.Common.{◌≡◌, ℕ, ◌-◌, ◌≤◌, Bool, false, cond, ltb, List, length, sym, ap, ◌∙◌, subst, arith}
use Rattle.logs.specs.Logs as logs
use Rattle.sessions.specs.Opening.{NewDesk}
use Rattle.sessions.specs.Tallies.{tallies_in}
use Rattle.std.proofs.lemmas.Bool.Decides.{nat_tests}
use Rattle.stores.specs.Tallies.{same_tally}
use Rattle.texts.specs.Output.{Puts}
use Rattle.texts.specs.Pieces.{pieces}
use Rattle.serving.specs.Serving.{session_text, unread, too_long, report}
use Rattle.serving.proofs.serve.serve_input.Goals as goal

report_short : (input : List ℕ) → length input ≤ 32768 → session_text unread (pieces 10 input) ≡ report input
report_short input h = let e : ltb 32768 (length input) ≡ false = grind (arith, nat_tests) in ap (λ (b : Bool). cond b too_long (session_text unread (pieces 10 input))) (sym e)

pub returns-clause-text : goal.returns-clause-text
returns-clause-text c =
    let input = c.args.input.now in
    let many : length c.as_mut_slice.result.now ≡ 64 = c.as_mut_slice.ensures.len ∙ c.args.memory.log in
    let places : length c.over-tallies.result.entries.now - 1 ≡ 63 = ap (λ n. n - 1) (ap length c.over-tallies.ensures.entries ∙ many) in
    let same : record { tallies = tallies_in (logs.pairs same_tally (logs.book c.over-tallies.result.entries.now c.over-tallies.result.fill)) (length c.over-tallies.result.entries.now - 1); lines = 0 } ≡ unread =
    λ j. record { tallies = tallies_in (c.over-tallies.ensures.empty j) (places j); lines = 0 } in
    subst (λ (t : List ℕ). Puts c.args.out.now t c.serve_session.new.out) (ap (λ (d : NewDesk). session_text d (pieces 10 input)) same ∙ report_short input c.if-input-gt-LONGEST.false) c.serve_session.ensures.text
