-- One number more that is taken back. Assumes nothing.
use Rattle.std.proofs.Common.{◌≡◌, ℕ, List, ◌++◌, vec_items, sym, refl, ap, ◌∙◌, ap₂}
use Rattle.std.proofs.lemmas.List.{append-nil}
use Rattle.machine.specs.Machine.{numbers, by, in_order}
use Rattle.minter.proofs.Dues.{first_moved, none_due}
use Rattle.minter.proofs.lists.Lists.return_due.Goals as goal

pub loop-n-preserved : goal.loop-n-preserved
loop-n-preserved c =
    let s = c.loop-n.self in
    let took = c.in-Some.ensures in
    let so_far = c.loop-n.invariant in
    record {
      returned = ap₂ {C = List ℕ} (λ xs ys. xs ++ ys) c.push_reserved.ensures.items took.left ∙ first_moved c.in-Some.n (vec_items s.returned) (numbers (in_order (by c.args.until (vec_items s.delayed)))) took.answer ∙ so_far.returned;
      delayed = took.later ∙ so_far.delayed;
      aside = so_far.aside;
      held = so_far.held;
    }

pub returns : goal.returns
returns c =
    let s = c.loop-n.self in
    let took = c.in_default.ensures in
    let none = none_due c.args.until (vec_items s.delayed) took.answer in
    let same : vec_items c.take_soonest.new.dues ≡ vec_items s.delayed = ap (λ v. vec_items v) (took.same refl) in
    let so_far = c.loop-n.invariant in
    let e : vec_items s.returned ++ numbers (in_order (by c.args.until (vec_items s.delayed))) ≡ vec_items s.returned = ap (λ (xs : List ℕ). vec_items s.returned ++ xs) none.0 ∙ append-nil (vec_items s.returned) in
    record {
      returned = sym e ∙ so_far.returned;
      delayed = same ∙ sym none.1 ∙ so_far.delayed;
      others = (so_far.aside, so_far.held);
    }
