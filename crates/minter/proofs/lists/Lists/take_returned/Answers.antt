-- The first number that is not held, out of returned; those before it come aside. Assumes nothing.
use Rattle.std.proofs.Common.{◌≡◌, ℕ, ◌<◌, not, List, ◌∷◌, length, position, None, vec_items, sym, ap, ◌∙◌, ap₂, arith, rules, length-drop}
use Rattle.std.proofs.lemmas.Bool.{true≢false}
use Rattle.sources.specs.Lists.{has, first, rest}
use Rattle.machine.specs.Machine.{Machine, with_lists, back}
use Rattle.minter.specs.Meaning.{over}
use Rattle.minter.specs.Passes.{set_aside}
use Rattle.minter.proofs.Found.{splits_None, splits_Some}
use Rattle.minter.proofs.Mints.{head_removed}
use Rattle.minter.proofs.lists.Lists.take_returned.Goals as goal

pub returns-in_err-at-clause-answer : goal.returns-in_err-at-clause-answer
returns-in_err-at-clause-answer c =
    let s = c.args.self.now in
    let none : c.from_residual.result ≡ None = search rules in
    none ∙ sym (ap first (splits_None (λ x. has x (vec_items s.held)) (vec_items s.returned) (sym (c.in_err-at.ensures ∙ ap₂ (λ (hs xs : List ℕ). position (λ x. not (has x hs)) xs) c.deref-2.ensures.value c.deref.ensures.value))))

pub returns : goal.returns
returns c =
    let s = c.args.self.now in
    let i = c.in_ok-at.at in
    let at = splits_Some (λ x. has x (vec_items s.held)) (vec_items s.returned) i (sym (c.in_ok-at.ensures ∙ ap₂ (λ (hs xs : List ℕ). position (λ x. not (has x hs)) xs) c.deref-2.ensures.value c.deref.ensures.value)) in
    let passed = c.pass_returned.ensures in
    let ys = vec_items c.remove.new.self in
    let d = length-drop i (vec_items s.returned) in
    let some : 0 < length (vec_items c.pass_returned.new.self.returned) = omega (arith, ap {B = ℕ} length passed.returned, at.0) in
    let b : back (λ x. has x (vec_items s.held)) (vec_items s.returned) ≡ c.remove.result ∷ ys =
    at.2 ∙ sym passed.returned ∙ head_removed (vec_items c.pass_returned.new.self.returned) ys c.remove.result some c.remove.ensures.value c.remove.ensures.items in
    record {
      answer = sym (ap first b);
      after = λ e m. ap (λ (x : Machine). with_lists x x.source x.aside ys) (passed.after m)
          ∙ ap₂ (λ (xs zs : List ℕ). with_lists (over m s) m.source (set_aside (vec_items s.held) (vec_items s.aside) xs) zs) (sym at.1) (sym (ap rest b));
      refusal = λ e. absurd (true≢false e);
    }
