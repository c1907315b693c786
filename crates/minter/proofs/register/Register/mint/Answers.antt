-- What the steps of a mint come to. Assumes nothing.
use Rattle.std.proofs.Common.{◌≡◌, ℕ, [], length, is_ok, Some, Ok, Option, sym, refl, ap, ◌∙◌, subst, rules}
use Rattle.std.proofs.lemmas.Bool.{true≢false}
use Rattle.std.specs.Option.{ok_or}
use Rattle.machine.specs.declared.fault.RegisterFault.TheVariants.{AllStopped}
use Rattle.machine.specs.Calls.{Mint}
use Rattle.machine.specs.Machine.{Machine, Outcome, holds, back, mint}
use Rattle.machine.specs.Runs.{Sound}
use Rattle.machine.proofs.Keeps.{kept_by}
use Rattle.minter.specs.Meaning.{meaning, over}
use Rattle.minter.specs.Passes.{passed, drawn_free}
use Rattle.minter.proofs.Dues.{first_none}
use Rattle.minter.proofs.Mints.{mint_returned, some_left, drawn_as_minted, minted_number}
use Rattle.minter.proofs.register.Register.mint.Goals as goal

pub returns-in-Some-clause-sound : goal.returns-in-Some-clause-sound
returns-in-Some-clause-sound g c =
    let before = meaning g.S.Source.stock g.T.Store.pairs g.T.Store.capacity c.args.self.now in
    λ s. kept_by Mint _ _ (let after = c.in-Some.ensures.after refl before in search rules) s

pub returns-in-Some-take_returned : goal.returns-in-Some-take_returned
returns-in-Some-take_returned g c =
    let before : Machine = meaning g.S.Source.stock g.T.Store.pairs g.T.Store.capacity c.args.self.now in
    let m : Machine = over before c.take_aside.new.self in
    let none = c.in_default.ensures in
    let took = c.in-Some-take_returned.ensures in
    let same : m ≡ before = ap (over before) (none.refusal refl) in
    let empty : back (holds m) m.aside ≡ [] = subst (λ (x : Machine). back (holds x) x.aside ≡ []) (sym same) (first_none _ none.answer) in
    let whole : (sound : Sound before) → mint m ≡ _ = λ sound. mint_returned m (subst Sound (sym same) sound) empty c.in-Some-take_returned.n took.answer in
    let after : Sound before → over before c.take_returned.new.self ≡ (mint before).0 = λ sound.
    took.after refl before ∙ sym (ap (λ (o : Outcome). o.0) (whole sound)) ∙ ap (λ (x : Machine). (mint x).0) same in
    record {
      after = after;
      answer = λ sound. sym (ap (λ (o : Outcome). o.1) (whole sound)) ∙ ap (λ (x : Machine). (mint x).1) same;
      refusal = λ sound e. absurd (true≢false e);
      texts = refl;
      sound = λ sound. kept_by Mint _ _ (after sound) sound;
    }

pub returns : goal.returns
returns g c =
    let mean = meaning g.S.Source.stock g.T.Store.pairs g.T.Store.capacity in
    let before : Machine = mean c.args.self.now in
    let m : Machine = over before c.take_returned.new.self in
    let none = c.in_default.ensures in
    let none-returned = c.in_default-take_returned.ensures in
    let same-returned : m ≡ over before c.take_aside.new.self = ap (over before) (none-returned.refusal refl) in
    let same : m ≡ before = same-returned ∙ ap (over before) (none.refusal refl) in
    let empty : back (holds m) m.aside ≡ [] = subst (λ (x : Machine). back (holds x) x.aside ≡ []) (sym same) (first_none _ none.answer) in
    let empty-returned : back (holds m) m.returned ≡ [] = subst (λ (x : Machine). back (holds x) x.returned ≡ []) (sym same-returned) (first_none _ none-returned.answer) in
    let left = some_left (back (holds m) m.source.ahead) c.if-all_ahead_held.ensures in
    let many : c.len-many.result ≡ length m.returned = c.len-many.ensures ∙ c.take_returned.new.self.returned.ok.0 in
    let drew : Sound before → drawn_free (over before c.pass_returned.new.self).source.ahead (over before c.pass_returned.new.self) ≡ ((mint m).0, Some left.0) = λ sound.
    ap (λ (x : Machine). drawn_free x.source.ahead x) (c.pass_returned.ensures.after before ∙ ap (passed m) many)
    ∙ drawn_as_minted m (subst Sound (sym same) sound) empty empty-returned left.0 left.1.0 left.1.1 in
    let said : Sound before → c.ok_or.result ≡ Ok left.0 = λ sound.
    c.ok_or.ensures.value ∙ ap (λ (o : Option ℕ). ok_or o AllStopped) (c.draw_free.ensures.answer ∙ ap (λ (o : Machine × Option ℕ). o.1) (drew sound)) in
    let after : Sound before → mean c.draw_free.new.self ≡ (mint before).0 = λ sound.
    c.draw_free.ensures.after ∙ ap (λ (o : Machine × Option ℕ). o.0) (drew sound) ∙ ap (λ (x : Machine). (mint x).0) same in
    record {
      after = after;
      answer = λ sound. said sound ∙ sym (minted_number m (subst Sound (sym same) sound) empty empty-returned left.0 left.1.0 left.1.1) ∙ ap (λ (x : Machine). (mint x).1) same;
      refusal = λ sound e. absurd (true≢false (sym (ap is_ok (said sound)) ∙ e));
      texts = c.draw_free.ensures.texts;
      sound = λ sound. kept_by Mint _ _ (after sound) sound;
    }
