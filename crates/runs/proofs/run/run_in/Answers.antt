use Rattle.std.proofs.Common.{◌≡◌, ◌<◌, ◌≤◌, ◌++◌, length, take, drop, sym, ap, ◌∙◌, subst, arith, length-set}
use Rattle.std.proofs.lemmas.List.{length-take-le}
use Rattle.machine.specs.Calls.{asks}
use Rattle.machine.specs.History.{told}
use Rattle.machine.specs.Law.{Law, new}
use Rattle.machine.specs.Machine.{Machine, final, answers, fresh}
use Rattle.minter.specs.Meaning.{meaning}
use Rattle.machine.specs.Runs.{Sound}
use Rattle.runs.proofs.Going.{writes_on, past_stays, ends_after, ends_written, told_more}
use Rattle.machine.proofs.Runs.{from_new, fresh_sound, first_turns, same_naming}
use Rattle.runs.proofs.run.run_in.Goals as goal

pub loop-i-preserved : goal.loop-i-preserved
loop-i-preserved g c =
    let fits : c.min-served.result ≤ length c.args.calls.now = omega (arith, c.min-served.ensures) in
    let long = length-take-le c.min-served.result c.args.calls.now fits in
    let here : c.loop-i.i < c.min-served.result = omega (arith, c.loop-i-test.true) in
    let room : c.min-served.result ≤ length c.loop-i.out = omega (arith, c.min-served.ensures, c.loop-i.invariant.0) in (
      length-set c.loop-i.out c.loop-i.i c.serve.result ∙ c.loop-i.invariant.0,
      past_stays (g.T.Store.sound c.loop-i.reg.texts) (g.T.Store.sound c.serve.new.self.texts) (meaning g.S.Source.stock g.T.Store.pairs g.T.Store.capacity c.open-reg.result) (meaning g.S.Source.stock g.T.Store.pairs g.T.Store.capacity c.loop-i.reg) (meaning g.S.Source.stock g.T.Store.pairs g.T.Store.capacity c.serve.new.self) c.args.calls.now c.min-served.result c.loop-i.i c.args.out.now c.loop-i.out c.serve.result here fits room c.loop-i.invariant.1,
      λ s k. let going = c.loop-i.invariant.2 s k in
          writes_on _ _ _ _ _ c.args.calls.now c.min-served.result c.loop-i.i c.args.out.now c.loop-i.out c.serve.result here fits room
          (c.serve.ensures.after going.sound going.store)
          (c.serve.ensures.answer going.sound going.store)
          (c.serve.ensures.store going.store)
          going,
    )

pub returns : goal.returns
returns g c =
    let s = g.S.Source.stock c.args.source in
    let cap = g.T.Store.capacity c.args.texts in
    let calls = asks (take c.min-served.result c.args.calls.now) in
    let lawful = g.S.Source.lawful c.args.source in
    let opened = c.open-reg.ensures in
    let fits : c.min-served.result ≤ length c.args.calls.now = omega (arith, c.min-served.ensures) in
    let long = length-take-le c.min-served.result c.args.calls.now fits in
    let end : c.loop-i.i ≡ c.min-served.result = omega (arith, c.loop-i.auto.i-end, c.loop-i-test.false) in
    let at-start = λ (k : g.T.Store.sound c.args.texts) (e : g.T.Store.pairs c.args.texts ≡ _).
    c.loop-i.invariant.2 (subst Sound (sym (opened.fresh e)) (fresh_sound s cap lawful)) (subst (λ t. g.T.Store.sound t) (sym opened.parts.1) k) in
    let written = λ (k : g.T.Store.sound c.args.texts) (e : g.T.Store.pairs c.args.texts ≡ _).
    ends_written _ _ _ c.args.calls.now c.min-served.result c.loop-i.i c.args.out.now c.loop-i.out end fits (at-start k e) c.loop-i.invariant.1
    ∙ ap (λ (m : Machine). answers m calls ++ drop c.min-served.result c.args.out.now) (opened.fresh e) in
    let ended = λ (k : g.T.Store.sound c.args.texts) (e : g.T.Store.pairs c.args.texts ≡ _).
    ends_after _ _ _ c.args.calls.now c.min-served.result c.loop-i.i c.args.out.now c.loop-i.out end fits (at-start k e)
    ∙ ap (λ (m : Machine). final m calls) (opened.fresh e) in
    let naming = same_naming (fresh s cap) calls (fresh_sound s cap lawful) in
    record {
      served = c.min-served.ensures;
      answers = written;
      after = λ k e. (ended k e, (at-start k e).store);
      law = λ k e. subst (λ h. Law s (new s) h) (sym (ap (told s.named calls) (written k e) ∙ told_more s.named _ (fresh s cap) calls (drop c.min-served.result c.args.out.now))) (from_new s cap calls lawful);
      first = first_turns s;
      naming = λ k e. (ap (λ (m : Machine). m.source.reads) (ended k e) ∙ naming.0, ap (λ (m : Machine). m.source.named) (ended k e) ∙ naming.1);
    }
