-- The reader reads exactly the grammar, and refuses at the first wrong byte. Nothing is assumed.
use Rattle.std.proofs.Common.{◌≡◌, ℕ, ◌+◌, ◌≤◌, Bool, true, false, cond, ◌&&◌, eqb, ltb, List, [], ◌∷◌, ◌++◌, length, get_or, take, drop, Ok, Err, Result, sym, refl, ap, ◌∙◌, subst, append_assoc, append-nil, arith, rules}
use Rattle.std.proofs.lemmas.List.{length-append, length_push, take_at, drop_at, get_or_at}
use Rattle.std.proofs.lemmas.Bool.{ltb-true}
use Rattle.names.specs.declared.fault.TemplateFault.{TemplateFault}
use Rattle.names.specs.declared.fault.TemplateFault.TheVariants.{Naan, Shoulder, Letter, Mask, Early}
use Rattle.names.specs.declared.template.parts.Part.{Part}
use Rattle.names.specs.declared.template.parts.Part.TheVariants as part
use Rattle.names.specs.declared.template.parts.Reader.{Reader}
use Rattle.names.specs.declared.template.parts.Shape.{Shape}
use Rattle.names.specs.Forms.{Form, spelled, closing, digit, order, place, all_of, Good}
use Rattle.names.specs.Reader.{of_29, reader, next, next_in, finish_in, after, walk, read_shape, form_of, formed, read_template}
use Rattle.names.specs.Grammar.{Grammatical, Is, Begins, Wrong, Within, Refused, Exact, no_dot}
use Rattle.names.proofs.Bytes.{all_as, all_both}
use Rattle.names.proofs.Goes.{shape, shape_in, goes}
use Rattle.names.proofs.Seen.{Front, Masked, Seen, Made, After, seen_on, form_seen, grammatical, open_is, shut_is, begins}

-- after the bytes bs the reader is s, whatever follows
abbrev Reached : Reader → List ℕ → Type 0
Reached s bs = Seen s.part s.count s.shoulder bs × ((ys : List ℕ) → read_shape (bs ++ ys) ≡ walk s (length bs) ys)

reached_on : (s u : Reader) (b : ℕ) (bs : List ℕ) → Reached s bs → next s b (length bs) ≡ Ok u → Reached u (bs ++ (b ∷ []))
reached_on s u b bs x e = (
  subst (λ (r : Result Reader TemplateFault). Made r (After bs b)) e (seen_on s.part s.count s.shoulder b (length bs) bs x.0),
  λ ys. ap read_shape (append_assoc bs (b ∷ []) ys) ∙ x.1 (b ∷ ys) ∙ ap (λ r. after r (λ t. walk t (length bs + 1) ys)) e
      ∙ ap (λ n. walk u n ys) (sym (length_push bs b)),
)

clash : {X : Type 0} (t : Shape) (e : TemplateFault) (r : Result Shape TemplateFault) → r ≡ Ok t → r ≡ Err e → X
clash t e r a b = absurd (let z : ◌≡◌ {A = ℕ} 0 1 = cc in omega arith)

-- a byte that is refused begins no template
no_more : (s : Reader) (b : ℕ) (bs : List ℕ) (e : TemplateFault) → Reached s bs → next s b (length bs) ≡ Err e → Begins (bs ++ (b ∷ [])) → ⊥
no_more s b bs e x r w =
    let zs = w.0 in
    let text = (bs ++ (b ∷ [])) ++ zs in
    let good : read_shape text ≡ Ok (shape_in w.1 w.2.1) = ap read_shape w.2.0 ∙ goes w.1 w.2.1 in
    let bad : read_shape text ≡ Err e =
    ap read_shape (append_assoc bs (b ∷ []) zs) ∙ x.1 (b ∷ zs) ∙ ap (λ t. after t (λ v. walk v (length bs + 1) zs)) r in
    clash (shape_in w.1 w.2.1) e (read_shape text) good bad

wrong : (s : Reader) (b : ℕ) (bs rest : List ℕ) (e : TemplateFault) → Reached s bs → next s b (length bs) ≡ Err e → Wrong (bs ++ (b ∷ rest)) (length bs)
wrong s b bs rest e x r =
    let long : length (bs ++ (b ∷ [])) ≡ length bs + 1 = length_push bs b in
    let more : take (length bs + 1) (bs ++ (b ∷ rest)) ≡ bs ++ (b ∷ []) =
    ap (take (length bs + 1)) (sym (append_assoc bs (b ∷ []) rest)) ∙ take_at (bs ++ (b ∷ [])) rest (length bs + 1) long in
    record {
      inside = omega (arith, length-append bs (b ∷ rest));
      before = subst Begins (sym (take_at bs (b ∷ rest) (length bs) refl)) (begins s.part s.count s.shoulder bs x.0);
      none = λ w. no_more s b bs e x r (subst Begins more w);
    }

digit_no_dot : (b : ℕ) → digit b ≡ true → no_dot b ≡ true
digit_no_dot b e = search rules

of_29_no_dot : (b : ℕ) → of_29 b ≡ true → no_dot b ≡ true
of_29_no_dot b e = search rules

front_no_dot : (n : ℕ) (bs : List ℕ) → Front n bs → all_of no_dot bs ≡ true
front_no_dot n bs x =
    subst (λ (l : List ℕ). all_of no_dot l ≡ true) (sym x.whole)
    (all_both no_dot x.naan (47 ∷ x.shoulder) (all_as digit no_dot x.naan digit_no_dot x.naan_of)
    (all_as of_29 no_dot x.shoulder of_29_no_dot x.of))

front_long : (n : ℕ) (bs : List ℕ) → Front n bs → length bs ≡ 6 + n
front_long n bs x = omega (arith, ap length x.whole, length-append x.naan (47 ∷ x.shoulder), x.naan_long, x.long)

-- why a step refuses: the part's own fault
abbrev own : Part → ℕ → TemplateFault
own part.Naan at = Naan at
own part.Slash at = Naan at
own part.Shoulder at = Shoulder at
own part.Letter at = Letter at
own part.Mask at = Mask at
own part.Closed at = Mask at

only : (x : Bool) (a : Reader) (k e : TemplateFault) → cond x (Ok a) (Err k) ≡ Err e → k ≡ e
only true a k e h = absurd (let z : ◌≡◌ {A = ℕ} 0 1 = cc in omega arith)
only false a k e h = cc

only_both : (x y : Bool) (a b : Reader) (k e : TemplateFault) → cond x (Ok a) (cond y (Ok b) (Err k)) ≡ Err e → k ≡ e
only_both true y a b k e h = absurd (let z : ◌≡◌ {A = ℕ} 0 1 = cc in omega arith)
only_both false y a b k e h = only y b k e h

own_fault : (q : Part) (n sh b at : ℕ) (e : TemplateFault) → next_in q n sh b at ≡ Err e → own q at ≡ e
own_fault part.Naan n sh b at e h = only (digit b) (cond (ltb n 4) (reader part.Naan (n + 1) sh) (reader part.Slash 0 sh)) (Naan at) e h
own_fault part.Slash n sh b at e h = only (eqb b 47) (reader part.Shoulder 0 sh) (Naan at) e h
own_fault part.Shoulder n sh b at e h =
    only_both (of_29 b && ltb n 13) (eqb b 46 && ltb 0 n) (reader part.Shoulder (n + 1) sh) (reader part.Letter 0 n) (Shoulder at) e h
own_fault part.Letter n sh b at e h = only (order b) (reader part.Mask 0 sh) (Letter at) e h
own_fault part.Mask n sh b at e h =
    only_both (place b && ltb n 8) (eqb b 107 && ltb 0 n) (reader part.Mask (n + 1) sh) (reader part.Closed n sh) (Mask at) e h
own_fault part.Closed n sh b at e h = cc

within : (q : Part) (n sh at : ℕ) (bs : List ℕ) → Seen q n sh bs → Within (own q at) bs
within part.Naan n sh at bs s = omega (arith, s.0, s.1)
within part.Slash n sh at bs s = omega (arith, s.0)
within part.Shoulder n sh at bs s = (omega (arith, front_long n bs s), front_no_dot n bs s)
within part.Letter n sh at bs s = (s.front, s.whole)
within part.Mask n sh at bs s = (s.front, s.letter, s.mask, s.whole)
within part.Closed n sh at bs s =
    let m = s.masked in
    (m.front, m.letter, m.mask ++ (107 ∷ []), s.whole ∙ ap (λ l. l ++ (107 ∷ [])) m.whole ∙ append_assoc m.front (46 ∷ (m.letter ∷ m.mask)) (107 ∷ []))

refused_own : (q : Part) (at : ℕ) (text : List ℕ) → Wrong text at → Within (own q at) (take at text) → Refused text (own q at)
refused_own part.Naan at text w i = (w, i)
refused_own part.Slash at text w i = (w, i)
refused_own part.Shoulder at text w i = (w, i)
refused_own part.Letter at text w i = (w, i)
refused_own part.Mask at text w i = (w, i)
refused_own part.Closed at text w i = (w, i)

refused : (s : Reader) (b : ℕ) (bs rest : List ℕ) (e : TemplateFault) → Reached s bs → next s b (length bs) ≡ Err e → Refused (bs ++ (b ∷ rest)) e
refused s b bs rest e x r =
    let at = length bs in
    let text = bs ++ (b ∷ rest) in
    subst (Refused text) (own_fault s.part s.count s.shoulder b at e r)
    (refused_own s.part at text (wrong s b bs rest e x r)
    (subst (Within (own s.part at)) (sym (take_at bs (b ∷ rest) at refl)) (within s.part s.count s.shoulder at bs x.0)))

-- what the text is that is read with this shape
pub record Complete (text : List ℕ) (t : Shape) : Type 0 where
  pub form : Form
  pub is : text ≡ spelled form
  pub good : Grammatical form
  pub shape_is : shape_in form good ≡ t

abbrev Outcome : List ℕ → Result Shape TemplateFault → Type 0
Outcome text (Ok t) = Complete text t
Outcome text (Err e) = Refused text e

tested : (x : Bool) (a t : Shape) (e : TemplateFault) → cond x (Ok a) (Err e) ≡ Ok t → (x ≡ true) × (a ≡ t)
tested true a t e w = (refl, cc)
tested false a t e w = clash t e (Err e) w refl

complete : (n sh : ℕ) (bs text : List ℕ) (x : Masked n sh bs) (check : Bool) (t : Shape) → 1 ≤ n → text ≡ spelled (form_seen n sh bs x check)
    → shape sh n check ≡ t → Complete text t
unfolding grammatical
complete n sh bs text x check t some e is = record {
  form = form_seen n sh bs x check;
  is = e;
  good = grammatical n sh bs x check some;
  shape_is = (λ j. shape (x.front_is.long j) (x.long j) check) ∙ is;
}

ended_ok : (q : Part) (n sh at : ℕ) (bs : List ℕ) (t : Shape) → Seen q n sh bs → finish_in q n sh at ≡ Ok t → Complete bs t
ended_ok part.Naan n sh at bs t s w = clash t (Early at) (Err (Early at)) w refl
ended_ok part.Slash n sh at bs t s w = clash t (Early at) (Err (Early at)) w refl
ended_ok part.Shoulder n sh at bs t s w = clash t (Early at) (Err (Early at)) w refl
ended_ok part.Letter n sh at bs t s w = clash t (Early at) (Err (Early at)) w refl
ended_ok part.Mask n sh at bs t s w =
    let x = tested (ltb 0 n) (shape sh n false) t (Early at) w in
    complete n sh bs bs s false t (ltb-true 0 n x.0) (open_is n sh bs s) x.1
ended_ok part.Closed n sh at bs t s w = complete n sh s.inner bs s.masked true t s.some (shut_is n sh bs s) cc

early : (q : Part) (n sh at : ℕ) (e : TemplateFault) → finish_in q n sh at ≡ Err e → Early at ≡ e
early part.Naan n sh at e w = cc
early part.Slash n sh at e w = cc
early part.Shoulder n sh at e w = cc
early part.Letter n sh at e w = cc
early part.Mask n sh at e w = search rules
early part.Closed n sh at e w = clash (shape sh n true) e (Ok (shape sh n true)) refl w

ended : (s : Reader) (bs : List ℕ) (r : Result Shape TemplateFault) → Reached s bs → walk s (length bs) [] ≡ r → Outcome bs r
ended s bs (Ok t) x w = ended_ok s.part s.count s.shoulder (length bs) bs t x.0 w
ended s bs (Err e) x w =
    let reads : read_shape bs ≡ Err e = ap read_shape (sym (append-nil bs)) ∙ x.1 [] ∙ w in
    subst (Refused bs) (early s.part s.count s.shoulder (length bs) e w)
    (record {
      length_is = refl;
      before = begins s.part s.count s.shoulder bs x.0;
      none = λ f is. clash (shape_in f is.1) e (read_shape bs) (ap read_shape is.0 ∙ goes f is.1) reads;
    })

judged_on : (s : Reader) (b : ℕ) (bs rest : List ℕ) (r : Result Shape TemplateFault) (v : Result Reader TemplateFault) → Reached s bs
    → next s b (length bs) ≡ v → after v (λ t. walk t (length bs + 1) rest) ≡ r
    → ((u : Reader) → Reached u (bs ++ (b ∷ [])) → walk u (length (bs ++ (b ∷ []))) rest ≡ r → Outcome ((bs ++ (b ∷ [])) ++ rest) r)
    → Outcome (bs ++ (b ∷ rest)) r
judged_on s b bs rest r (Ok u) x e w ih =
    subst (λ (text : List ℕ). Outcome text r) (append_assoc bs (b ∷ []) rest)
    (ih u (reached_on s u b bs x e) (ap (λ n. walk u n rest) (length_push bs b) ∙ w))
judged_on s b bs rest r (Err f) x e w ih = subst (Outcome (bs ++ (b ∷ rest))) w (refused s b bs rest f x e)

judged : (rest : List ℕ) (s : Reader) (bs : List ℕ) (r : Result Shape TemplateFault) → Reached s bs → walk s (length bs) rest ≡ r → Outcome (bs ++ rest) r
judged [] s bs r x w = subst (λ (text : List ℕ). Outcome text r) (sym (append-nil bs)) (ended s bs r x w)
judged (b ∷ rest) s bs r x w =
    judged_on s b bs rest r (next s b (length bs)) x refl w (λ u y v. judged rest u (bs ++ (b ∷ [])) r y v)

outcome : (text : List ℕ) (r : Result Shape TemplateFault) → read_shape text ≡ r → Outcome text r
outcome text r e = judged text (reader part.Naan 0 0) [] r ((refl, omega arith, refl), λ ys. refl) e

pub read_complete : (text : List ℕ) (t : Shape) → read_shape text ≡ Ok t → Complete text t
read_complete text t e = outcome text (Ok t) e

pub prefix_long : (f : Form) (g : Grammatical f) → length f.prefix ≡ 6 + length g.shoulder
prefix_long f g = omega (arith, ap length g.prefix_is, length-append g.naan (47 ∷ g.shoulder), g.naan_long)

-- the parts of a form's text are the form
form_is : (f : Form) (g : Grammatical f) → form_of (spelled f) (shape_in f g) ≡ f
form_is f g =
    let end = f.mask ++ closing f.check in
    let p = f.prefix in
    let sh = length g.shoulder in
    let long = prefix_long f g in
    let one : length (p ++ (46 ∷ [])) ≡ 7 + sh = omega (arith, length-append p (46 ∷ []), long) in
    let two : length (p ++ (46 ∷ (f.letter ∷ []))) ≡ 8 + sh = omega (arith, length-append p (46 ∷ (f.letter ∷ [])), long) in
    let front : take (6 + sh) (spelled f) ≡ p = take_at p (46 ∷ (f.letter ∷ end)) (6 + sh) long in
    let letter : get_or (spelled f) (7 + sh) 0 ≡ f.letter =
    ap (λ l. get_or l (7 + sh) 0) (sym (append_assoc p (46 ∷ []) (f.letter ∷ end))) ∙ get_or_at (p ++ (46 ∷ [])) f.letter end 0 (7 + sh) one in
    let mask : take (length f.mask) (drop (8 + sh) (spelled f)) ≡ f.mask =
    ap (λ l. take (length f.mask) (drop (8 + sh) l)) (sym (append_assoc p (46 ∷ (f.letter ∷ [])) end))
    ∙ ap (take (length f.mask)) (drop_at (p ++ (46 ∷ (f.letter ∷ []))) end (8 + sh) two)
    ∙ take_at f.mask (closing f.check) (length f.mask) refl in
    (λ j. record { prefix = front j; letter = letter j; mask = mask j; check = f.check })

pub complete_form : (text : List ℕ) (t : Shape) (c : Complete text t) → form_of text t ≡ c.form
complete_form text t c = (λ j. form_of (c.is j) (sym c.shape_is j)) ∙ form_is c.form c.good

pub complete_is : (text : List ℕ) (t : Shape) → Complete text t → Is text (form_of text t)
complete_is text t c =
    let P : Form → Type 0 = Is text in
    subst P (sym (complete_form text t c)) (c.is, c.good)

exact_at : (text : List ℕ) (r : Result Shape TemplateFault) → read_shape text ≡ r → Outcome text r → Exact text (formed text r)
exact_at text (Ok t) e o = record {
  sound = λ f h. let same : form_of text t ≡ f = cc in let P : Form → Type 0 = Is text in subst P same (complete_is text t o);
  complete = λ f is.
      let again : Ok (shape_in f is.1) ≡ Ok t = sym (ap read_shape is.0 ∙ goes f is.1) ∙ e in
      let same : shape_in f is.1 ≡ t = cc in
      ap Ok ((λ j. form_of (is.0 j) (sym same j)) ∙ form_is f is.1);
  first = λ f h. absurd (let z : ◌≡◌ {A = ℕ} 0 1 = cc in omega arith);
}
exact_at text (Err x) e o = record {
  sound = λ f h. absurd (let z : ◌≡◌ {A = ℕ} 0 1 = cc in omega arith);
  complete = λ f is. clash (shape_in f is.1) x (read_shape text) (ap read_shape is.0 ∙ goes f is.1) e;
  first = λ f h. let same : x ≡ f = cc in subst (Refused text) same o;
}

pub exact : (text : List ℕ) → Exact text (read_template text)
exact text = exact_at text (read_shape text) refl (outcome text (read_shape text) refl)

pub good_from : (f : Form) → Grammatical f → Good f
good_from f g =
    let long = prefix_long f g in
    record {
      prefix_some = omega (arith, long, g.shoulder_some);
      prefix_few = omega (arith, long, g.shoulder_few);
      mask_some = g.mask_some;
      mask_few = g.mask_few;
      mask_of = g.mask_of;
    }
