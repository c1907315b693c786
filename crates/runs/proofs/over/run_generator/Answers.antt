use Rattle.std.proofs.Common.{◌≡◌, ◌++◌, take, drop, sym, ap, ◌∙◌, subst}
use Rattle.sources.specs.Generators.{gen_stock}
use Rattle.sources.specs.Lists.{count}
use Rattle.sources.specs.Named.{total_of}
use Rattle.sources.specs.Stock.{Stock}
use Rattle.sources.specs.Subcounters.{new_ahead}
use Rattle.machine.specs.Calls.{asks}
use Rattle.machine.specs.History.{told}
use Rattle.machine.specs.Law.{Law, new}
use Rattle.machine.specs.Machine.{answers, final, fresh}
use Rattle.minter.specs.Meaning.{meaning}
use Rattle.runs.proofs.Covering.{whole}
use Rattle.runs.proofs.over.run_generator.Goals as goal

pub returns : goal.returns
returns g c =
    let made = c.new-source.ensures.made in
    let ran = c.run_in.ensures in
    let cap = g.T.Store.capacity c.args.texts in
    let calls = asks (take c.run_in.result.1 c.args.calls.now) in
    record {
      served = ran.served;
      answers = λ k e. subst (λ (z : Stock). c.run_in.new.out ≡ answers (fresh z cap) calls ++ drop c.run_in.result.1 c.args.out.now) made (ran.answers k e);
      after = λ k e. subst (λ (z : Stock). (meaning (gen_stock g.C.Chooser.pick) g.T.Store.pairs g.T.Store.capacity c.run_in.result.0 ≡ final (fresh z cap) calls) × g.T.Store.sound c.run_in.result.0.texts) made (ran.after k e);
      law = λ k e. subst (λ (z : Stock). Law z (new z) (told z.named calls c.run_in.new.out)) made (ran.law k e);
      whole = whole c.args.template (new_ahead (total_of c.args.template) (g.C.Chooser.pick c.args.chooser)) (λ n. ap (λ (z : Stock). count n z.ahead) (sym made) ∙ c.new-source.ensures.each n);
    }
