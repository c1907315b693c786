-- What a template's ghost facts give, and what gives them. Nothing is assumed.
use Rattle.std.proofs.Common.{◌≡◌, ℕ, ◌+◌, ◌-◌, ◌≤◌, Bool, true, false, cond, not, ◌&&◌, eqb, List, ◌∷◌, ◌++◌, length, get_or, take, drop, Ok, Err, Result, sym, refl, ap, ◌∙◌, subst, arith}
use Rattle.std.proofs.lemmas.List.{length-append, take-take, get_or-take, drop-take}
use Rattle.std.proofs.lemmas.Bool.{eqb-true, eq-eqb, and_parts, and_from}
use Rattle.names.specs.declared.fault.TemplateFault.{TemplateFault}
use Rattle.names.specs.declared.template.parts.Shape.{Shape}
use Rattle.names.specs.declared.template.Template.{Template}
use Rattle.names.specs.Forms.{Form, spelled, closing, Good}
use Rattle.names.specs.Reader.{read_shape, reads_as, form_of, read_template}
use Rattle.names.specs.Grammar.{Grammatical, Is, Exact}
use Rattle.names.specs.Templates.{form}
use Rattle.names.proofs.Goes.{shape_in}
use Rattle.names.proofs.Exactly.{read_complete, prefix_long, complete_is, good_from, exact}

same_bool : (a b : Bool) → cond a b (not b) ≡ true → a ≡ b
same_bool true true e = refl
same_bool true false e = sym e
same_bool false true e = e
same_bool false false e = refl

bool_same : (a : Bool) → cond a a (not a) ≡ true
bool_same true = refl
bool_same false = refl

pub reads_true : (r : Result Shape TemplateFault) (s : Shape) → reads_as r s ≡ true → r ≡ Ok s
reads_true (Ok u) s e =
    let x = and_parts (eqb u.shoulder s.shoulder) _ e in
    let y = and_parts (eqb u.mask s.mask) _ x.1 in
    let p = eqb-true u.shoulder s.shoulder x.0 in
    let q = eqb-true u.mask s.mask y.0 in
    let k = same_bool u.check s.check y.1 in
    (λ j. Ok (record { shoulder = p j; mask = q j; check = k j }))
reads_true (Err f) s e = absurd (let z : ◌≡◌ {A = ℕ} 0 1 = cc in omega arith)

pub reads_made : (r : Result Shape TemplateFault) (s : Shape) → r ≡ Ok s → reads_as r s ≡ true
reads_made r s e =
    ap (λ x. reads_as x s) e
    ∙ and_from (eqb s.shoulder s.shoulder) (eqb s.mask s.mask && cond s.check s.check (not s.check))
    (eq-eqb s.shoulder s.shoulder refl)
    (and_from (eqb s.mask s.mask) (cond s.check s.check (not s.check)) (eq-eqb s.mask s.mask refl) (bool_same s.check))

-- the lengths that a reading gives
pub record Sizes (text : List ℕ) (t : Shape) : Type 0 where
  pub sum : length text ≡ 8 + t.shoulder + t.mask + cond t.check 1 0
  pub few : length text ≤ 30
  pub shoulder_few : t.shoulder ≤ 13
  pub mask_some : 1 ≤ t.mask
  pub mask_few : t.mask ≤ 8

closing_long : (x : Bool) → (length (closing x) ≡ cond x 1 0) × (length (closing x) ≤ 1)
closing_long true = (refl, omega arith)
closing_long false = (refl, omega arith)

sizes_in : (f : Form) (g : Grammatical f) → Sizes (spelled f) (shape_in f g)
sizes_in f g =
    let c = closing_long f.check in
    let long : length (spelled f) ≡ 8 + length g.shoulder + length f.mask + length (closing f.check) =
    omega (arith, length-append f.prefix (46 ∷ (f.letter ∷ (f.mask ++ closing f.check))), length-append f.mask (closing f.check), prefix_long f g) in
    record {
      sum = omega (arith, long, c.0);
      few = omega (arith, long, c.1, g.shoulder_few, g.mask_few);
      shoulder_few = g.shoulder_few;
      mask_some = g.mask_some;
      mask_few = g.mask_few;
    }

pub sizes : (text : List ℕ) (t : Shape) → read_shape text ≡ Ok t → Sizes text t
sizes text t e =
    let c = read_complete text t e in
    let P : List ℕ → Type 0 = λ l. Sizes l t in
    subst P (sym c.is) (subst (Sizes (spelled c.form)) c.shape_is (sizes_in c.form c.good))

-- the parts stand in the bytes up to the length
pub form_taken : (len : ℕ) (text : List ℕ) (t : Shape) → 8 + t.shoulder + t.mask ≤ len → form_of (take len text) t ≡ form_of text t
form_taken len text t h =
    let sh = t.shoulder in
    let n = 8 + sh in
    let past : n + (len - n) ≡ len = omega arith in
    let front : take (6 + sh) (take len text) ≡ take (6 + sh) text = take-take (6 + sh) len text (omega arith) in
    let letter : get_or (take len text) (7 + sh) 0 ≡ get_or text (7 + sh) 0 = get_or-take len text (7 + sh) 0 (omega arith) in
    let mask : take t.mask (drop n (take len text)) ≡ take t.mask (drop n text) =
    ap (λ k. take t.mask (drop n (take k text))) (sym past)
    ∙ ap (take t.mask) (drop-take n (len - n) text)
    ∙ take-take t.mask (len - n) (drop n text) (omega arith) in
    (λ j. record { prefix = front j; letter = letter j; mask = mask j; check = t.check })

-- a template's own text is that of its form
pub form_own : (t : Template) → Is t.text (form t)
form_own t =
    complete_is t.text t.shape (read_complete t.text t.shape (reads_true (read_shape t.text) t.shape t.reads))

pub grammatical : (t : Template) → Grammatical (form t)
grammatical t = (form_own t).1

pub good : (t : Template) → Good (form t)
good t = good_from (form t) (grammatical t)

-- what a reading owes, for any answer that equals the definition's
pub exact_told : (text : List ℕ) (r : Result Form TemplateFault) → r ≡ read_template text → Exact text r
exact_told text r e = subst (Exact text) (sym e) (exact text)
