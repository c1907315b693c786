use Rattle.std.proofs.Common.{◌≡◌, ℕ, ◌+◌, ◌<◌, Bool, true, cond, List, [], ◌++◌, length, sym, ap, ◌∙◌, arith}
use Rattle.std.proofs.lemmas.List.{length-append, length_push}
use Rattle.std.proofs.lemmas.Bool.{lt-ltb}
use Rattle.names.specs.Check.{check_char}
use Rattle.names.specs.Naming.{total, digits, ended, with_parts, name_of}
use Rattle.names.proofs.Numbers.{length_digits}
use Rattle.names.proofs.parts.Parts.name.Goals as goal

named : (p m : List ℕ) (check : Bool) (n : ℕ) → n < total m → name_of (with_parts p m check) n ≡ ended check (p ++ digits m n)
named p m check n h = ap (λ (b : Bool). cond b (ended check (p ++ digits m n)) []) (lt-ltb n (total m) h)

long : (p m : List ℕ) (n : ℕ) → length (p ++ digits m n) ≡ length p + length m
long p m n = length-append p (digits m n) ∙ ap (λ k. length p + k) (length_digits m n)

pub closed-requires : goal.closed-requires
closed-requires c = omega (arith, ap length c.in-Some.ensures.1, long c.args.self.now.prefix.now c.args.self.now.mask.now c.args.n)

pub of-requires-then-self : goal.of-requires-then-self
of-requires-then-self c =
    let t = c.in-Some.body in
    omega (arith, ap length c.in-Some.ensures.1, long c.args.self.now.prefix.now c.args.self.now.mask.now c.args.n, ap length c.closed.ensures, length_push t (check_char t))

pub of-requires-else-self : goal.of-requires-else-self
of-requires-else-self c = omega (arith, ap length c.in-Some.ensures.1, long c.args.self.now.prefix.now c.args.self.now.mask.now c.args.n)

pub returns-then-self : goal.returns-then-self
returns-then-self c =
    let p = c.args.self.now.prefix.now in
    let m = c.args.self.now.mask.now in
    c.of-then-self.ensures ∙ (c.closed.ensures ∙ (ap (ended true) c.in-Some.ensures.1 ∙ (ap (λ b. ended b (p ++ digits m c.args.n)) (sym c.if-self.true) ∙ sym (named p m c.args.self.now.check c.args.n c.in-Some.ensures.0))))

pub returns-else-self : goal.returns-else-self
returns-else-self c =
    let p = c.args.self.now.prefix.now in
    let m = c.args.self.now.mask.now in
    c.of-else-self.ensures ∙ (c.in-Some.ensures.1 ∙ (ap (λ b. ended b (p ++ digits m c.args.n)) (sym c.if-self.false) ∙ sym (named p m c.args.self.now.check c.args.n c.in-Some.ensures.0)))
