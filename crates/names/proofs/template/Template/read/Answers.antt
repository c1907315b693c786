use Rattle.std.proofs.Common.{◌≡◌, ℕ, List, length, take, Ok, sym, ap, ◌∙◌, rules}
use Rattle.std.proofs.lemmas.List.{take_all}
use Rattle.names.specs.declared.template.parts.Shape.{Shape}
use Rattle.names.specs.Reader.{read_shape, form_of, formed, read_template}
use Rattle.names.specs.Templates.{told}
use Rattle.names.proofs.Templates.{sizes, exact_told, reads_made}
use Rattle.names.proofs.template.Template.read.Goals as goal

pub returns-in_err-shape : goal.returns-in_err-shape
returns-in_err-shape c =
    let a : told c.from_residual.result ≡ read_template c.args.text.now = search rules in
    record { answer = a; exact = exact_told c.args.text.now _ a }

-- a text that is a template has at most 30 bytes, so all of it is kept
whole : (text : List ℕ) (t : Shape) → read_shape text ≡ Ok t → take 30 text ≡ text
whole text t e = take_all 30 text (sizes text t e).few

pub invariant_of-result : goal.invariant_of-result
invariant_of-result c =
    let e = sym c.in_ok-shape.ensures in
    let same = c.front-kept.ensures ∙ whole c.args.text.now c.in_ok-shape.shape e in
    let s = sizes c.args.text.now c.in_ok-shape.shape e in
    let reads = reads_made (read_shape c.front-kept.result) c.in_ok-shape.shape (ap read_shape same ∙ e) in
    record { reads = reads; shoulder_few = s.shoulder_few; mask_some = s.mask_some; mask_few = s.mask_few; sum = ap length same ∙ s.sum }

pub returns : goal.returns
returns c =
    let same = c.front-kept.ensures ∙ whole c.args.text.now c.in_ok-shape.shape (sym c.in_ok-shape.ensures) in
    let a = ap (λ l. Ok (form_of l c.in_ok-shape.shape)) same ∙ ap (formed c.args.text.now) c.in_ok-shape.ensures in
    record { answer = a; exact = exact_told c.args.text.now _ a }
