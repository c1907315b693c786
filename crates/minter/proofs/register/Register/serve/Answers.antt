use Rattle.std.proofs.Common.{◌≡◌, ℕ, is_ok, Ok, Err, Result, sym, refl, ap, ◌∙◌}
use Rattle.machine.specs.Calls.{Asked, Mint, Hold, Release, Queue, Tick, Bind, Purge, asked}
use Rattle.machine.specs.History.{accepted}
use Rattle.machine.specs.Machine.{answer, said}
use Rattle.machine.specs.declared.fault.RegisterFault.{RegisterFault}
use Rattle.machine.proofs.Keeps.{kept_by}
use Rattle.minter.specs.Meaning.{meaning}
use Rattle.machine.proofs.Outcomes.{stepped, step_answer}
use Rattle.minter.proofs.register.Register.serve.Goals as goal

-- an answer accepts exactly where the outcome has no fault
accepts : (c : Asked) (r : Result ℕ RegisterFault) → accepted (said (answer c) r) ≡ is_ok r
accepts c (Err e) = refl
accepts Mint (Ok n) = refl
accepts (Hold t) (Ok n) = refl
accepts (Release t) (Ok n) = refl
accepts (Queue t d) (Ok n) = refl
accepts (Tick s) (Ok n) = refl
accepts (Bind t e w) (Ok n) = refl
accepts (Purge t e) (Ok n) = refl

pub returns : goal.returns
returns g c =
    let came = c.outcome-outcome.ensures in
    let call = asked c.args.call.now in
    let m = meaning g.S.Source.stock g.T.Store.pairs g.T.Store.capacity c.args.self.now in
    record {
      after = λ s k. came.after s k ∙ sym (stepped m call);
      answer = λ s k. c.answer.ensures ∙ ap (said (answer call)) (came.answer s k) ∙ sym (step_answer m call);
      refusal = λ s k no. came.refusal s k (sym (accepts call c.outcome-outcome.result) ∙ ap accepted (sym c.answer.ensures) ∙ no);
      store = came.store;
      sound = λ s k. kept_by call _ _ (came.after s k ∙ sym (stepped m call)) s;
    }
