-- One step of a walk over a text, and its end. Nothing is assumed.
use Rattle.std.proofs.Common.{◌≡◌, ℕ, ◌+◌, ◌<◌, ◌≤◌, List, length, get_or, drop, Result, sym, ap, ◌∙◌, arith}
use Rattle.std.proofs.lemmas.List.{at_drop_more, at_drop_all}
use Rattle.names.specs.declared.fault.TemplateFault.{TemplateFault}
use Rattle.names.specs.declared.template.parts.Reader.{Reader}
use Rattle.names.specs.declared.template.parts.Shape.{Shape}
use Rattle.names.specs.Reader.{next, after, walk, finish}

pub one_on : (s : Reader) (i : ℕ) (bs : List ℕ) (r : Result Reader TemplateFault) → i < length bs → r ≡ next s (get_or bs i 0) i
    → walk s i (drop i bs) ≡ after r (λ t. walk t (i + 1) (drop (i + 1) bs))
one_on s i bs r h e =
    at_drop_more (walk s i) bs i 0 h ∙ ap (λ x. after x (λ t. walk t (i + 1) (drop (i + 1) bs))) (sym e)

pub ended : (s : Reader) (i : ℕ) (bs : List ℕ) (r : Result Shape TemplateFault) → i ≤ length bs → length bs ≤ i → r ≡ finish s (length bs)
    → r ≡ walk s i (drop i bs)
ended s i bs r lo hi e =
    let same : length bs ≡ i = omega arith in
    e ∙ ap (finish s) same ∙ sym (at_drop_all (walk s i) bs i hi)
