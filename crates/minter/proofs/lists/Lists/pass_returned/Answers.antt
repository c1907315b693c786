-- The numbers that came aside so far, and those of returned that are yet to. Assumes nothing.
use Rattle.std.proofs.Common.{◌≡◌, ℕ, ◌+◌, ◌-◌, ◌<◌, List, ◌∷◌, length, drop, vec_items, sym, ap, ◌∙◌, ap₂, arith, length-drop}
use Rattle.std.specs.List.{remove}
use Rattle.std.proofs.lemmas.List.{drop-drop}
use Rattle.minter.specs.Meaning.{over}
use Rattle.minter.specs.Passes.{passed}
use Rattle.minter.proofs.Mints.{pass_more, head_removed}
use Rattle.minter.proofs.lists.Lists.pass_returned.Goals as goal

pub loop-preserved : goal.loop-preserved
loop-preserved c =
    let l = c.loop.self.returned.ok.0 in
    let j = c.args.self.now.returned.ok.0 in
    let d = length-drop c.loop.counter (vec_items c.args.self.now.returned) in
    let ys = vec_items c.remove-next.new.self in
    let k = c.args.many - c.loop.counter in
    let some : 0 < length (vec_items c.loop.self.returned) = omega (arith, ap {B = ℕ} length c.loop.invariant.1, c.requires) in
    let e : vec_items c.loop.self.returned ≡ c.remove-next.result ∷ ys = head_removed (vec_items c.loop.self.returned) ys c.remove-next.result some c.remove-next.ensures.value c.remove-next.ensures.items in
    let less : c.args.many - (c.loop.counter + 1) ≡ k - 1 = omega arith in
    let pos : 0 < k = omega (arith, c.loop-test.true) in (
      λ m. ap₂ passed (c.set_aside.ensures.after m) less ∙ pass_more (over m c.loop.self) c.remove-next.result ys k e pos ∙ c.loop.invariant.0 m,
      ap (λ v. vec_items v) c.set_aside.ensures.returned ∙ c.remove-next.ensures.items ∙ ap (λ (xs : List ℕ). remove xs 0) c.loop.invariant.1 ∙ drop-drop 1 c.loop.counter (vec_items c.args.self.now.returned),
    )

pub returns : goal.returns
returns c =
    let z : c.args.many - c.loop.counter ≡ 0 = omega arith in
    let n : c.loop.counter ≡ c.args.many = omega arith in
    record {
      after = λ m. ap (passed (over m c.loop.self)) (sym z) ∙ c.loop.invariant.0 m;
      returned = c.loop.invariant.1 ∙ ap (λ j. drop j (vec_items c.args.self.now.returned)) n;
    }
