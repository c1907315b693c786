-- The first number that is not held, out of aside. Assumes nothing.
use Rattle.std.proofs.Common.{◌≡◌, ℕ, ◌+◌, ◌≤◌, not, List, length, position, None, vec_items, sym, ap, ◌∙◌, subst, ap₂, rules}
use Rattle.std.proofs.lemmas.Bool.{true≢false}
use Rattle.sources.specs.Lists.{has, first}
use Rattle.machine.specs.Machine.{with_lists, outside}
use Rattle.minter.specs.Meaning.{over}
use Rattle.minter.proofs.Found.{splits_None, splits_Some, taken_at}
use Rattle.minter.proofs.Rooms.{taken_few}
use Rattle.minter.proofs.lists.Lists.take_aside.Goals as goal

pub returns-in_err-at-clause-answer : goal.returns-in_err-at-clause-answer
returns-in_err-at-clause-answer c =
    let s = c.args.self.now in
    let none : c.from_residual.result ≡ None = search rules in
    none ∙ sym (ap first (splits_None (λ x. has x (vec_items s.held)) (vec_items s.aside) (sym (c.in_err-at.ensures ∙ ap₂ (λ (hs xs : List ℕ). position (λ x. not (has x hs)) xs) c.deref-2.ensures.value c.deref.ensures.value))))

pub invariant_of-self-2-clause-hold_places : goal.invariant_of-self-2-clause-hold_places
invariant_of-self-2-clause-hold_places c =
    let s = c.args.self.now in
    let at = splits_Some (λ x. has x (vec_items s.held)) (vec_items s.aside) c.in_ok-at.at (sym (c.in_ok-at.ensures ∙ ap₂ (λ (hs xs : List ℕ). position (λ x. not (has x hs)) xs) c.deref-2.ensures.value c.deref.ensures.value)) in
    let taken = taken_at (λ x. has x (vec_items s.held)) (vec_items s.aside) c.in_ok-at.at (vec_items c.remove.new.self) c.remove.result at c.remove.ensures.value c.remove.ensures.items in
    subst (λ (xs : List ℕ). length xs + outside xs (vec_items s.held) ≤ 64) (sym taken.1) (taken_few (vec_items s.aside) (vec_items s.held) s.hold_places)

pub returns : goal.returns
returns c =
    let s = c.args.self.now in
    let at = splits_Some (λ x. has x (vec_items s.held)) (vec_items s.aside) c.in_ok-at.at (sym (c.in_ok-at.ensures ∙ ap₂ (λ (hs xs : List ℕ). position (λ x. not (has x hs)) xs) c.deref-2.ensures.value c.deref.ensures.value)) in
    let taken = taken_at (λ x. has x (vec_items s.held)) (vec_items s.aside) c.in_ok-at.at (vec_items c.remove.new.self) c.remove.result at c.remove.ensures.value c.remove.ensures.items in
    record {
      answer = taken.0;
      after = λ e m. ap (λ (xs : List ℕ). with_lists (over m s) m.source xs (vec_items s.returned)) taken.1;
      refusal = λ e. absurd (true≢false e);
    }
