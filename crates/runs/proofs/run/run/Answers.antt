use Rattle.std.proofs.Common.{◌≡◌, List, sym, ap, ◌∙◌, subst, rules}
use Rattle.machine.specs.Calls.{asks}
use Rattle.machine.specs.History.{told}
use Rattle.machine.specs.Law.{Law, new}
use Rattle.machine.specs.Machine.{Machine, final, answers, fresh}
use Rattle.machine.specs.Runs.{Sound}
use Rattle.machine.specs.declared.call.Answer.{Answer}
use Rattle.runs.proofs.Going.{goes_on, all_after, all_answers}
use Rattle.machine.proofs.Runs.{from_new, fresh_sound, first_turns, same_naming}
use Rattle.runs.proofs.run.run.Goals as goal

pub loop-call-preserved : goal.loop-call-preserved
loop-call-preserved g c = (
  search rules,
  search rules,
  λ s k. let going = c.loop-call.invariant.2 s k in
      goes_on _ _ _ _ _ c.args.calls.now c.loop-call.call-index _ _ c.serve.result c.loop-call-test.true
      (c.serve.ensures.after going.sound going.store)
      (c.serve.ensures.answer going.sound going.store)
      (c.serve.ensures.store going.store)
      c.push_reserved.ensures.items
      going,
)

pub returns : goal.returns
returns g c =
    let s = g.S.Source.stock c.args.source in
    let cap = g.T.Store.capacity c.args.texts in
    let calls = c.args.calls.now in
    let lawful = g.S.Source.lawful c.args.source in
    let opened = c.open-reg.ensures in
    let at-start = λ (k : g.T.Store.sound c.args.texts) (e : g.T.Store.pairs c.args.texts ≡ _).
    c.loop-call.invariant.2 (subst Sound (sym (opened.fresh e)) (fresh_sound s cap lawful)) (subst (λ t. g.T.Store.sound t) (sym opened.parts.1) k) in
    let told-answers = λ (k : g.T.Store.sound c.args.texts) (e : g.T.Store.pairs c.args.texts ≡ _).
    all_answers _ _ _ calls c.loop-call.call-index _ c.loop-call-test.false (at-start k e) ∙ ap (λ (m : Machine). answers m (asks calls)) (opened.fresh e) in
    let ended = λ (k : g.T.Store.sound c.args.texts) (e : g.T.Store.pairs c.args.texts ≡ _).
    all_after _ _ _ calls c.loop-call.call-index _ c.loop-call-test.false (at-start k e) ∙ ap (λ (m : Machine). final m (asks calls)) (opened.fresh e) in
    let naming = same_naming (fresh s cap) (asks calls) (fresh_sound s cap lawful) in
    record {
      answers = told-answers;
      after = λ k e. (ended k e, (at-start k e).store);
      law = λ k e. subst (λ (as' : List Answer). Law s (new s) (told s.named (asks calls) as')) (sym (told-answers k e)) (from_new s cap (asks calls) lawful);
      first = first_turns s;
      naming = λ k e. (ap (λ (m : Machine). m.source.reads) (ended k e) ∙ naming.0, ap (λ (m : Machine). m.source.named) (ended k e) ∙ naming.1);
    }
