-- A line that is read is a fair command typed out. Assumes nothing.
use Rattle.std.proofs.Common.{◌≡◌, ℕ, ◌<◌, Bool, true, false, cond, eqb, List, [], ◌∷◌, ◌++◌, map, length, drop, Some, None, Ok, Err, ◌⊎◌, codes, Option, Result, sym, refl, ap, ◌∙◌, subst, inl, inr, append-nil, append_assoc, arith}
use Rattle.commands.specs.Forms.{Said, queue, bind_set, then, next, rest, known, then_word, then_known, done, held_by, bound_by, form, spoken, opening}
use Rattle.commands.specs.Numbers.{number, count, delay}
use Rattle.commands.specs.Spelling.{with_spaces, Spelt, Worded, Fair}
use Rattle.commands.specs.Words.{Word, words, texts, pick, heads, openings, turns, edits, elements}
use Rattle.commands.specs.declared.fault.CommandFault.{CommandFault}
use Rattle.commands.specs.declared.fault.CommandFault.TheVariants.{Line}
use Rattle.commands.specs.declared.word.Edit.{Edit}
use Rattle.commands.specs.declared.word.Edit.TheVariants as edit
use Rattle.commands.specs.declared.word.Head.{Head}
use Rattle.commands.specs.declared.word.Head.TheVariants as head
use Rattle.commands.specs.declared.word.Turn.{Turn}
use Rattle.commands.specs.declared.word.Turn.TheVariants as turn
use Rattle.commands.proofs.Numbers.{number_ok, range_ok, delay_ok}
use Rattle.commands.proofs.Whole.{whole, Along, along, Plain, plain_words}
use Rattle.std.proofs.lemmas.Bool.{eqb-false}
use Rattle.std.proofs.lemmas.Slice.Eq.{bytes_eq-Decides}
use Rattle.std.specs.Str.{bytes_eq}

-- what a part of a form gives where the whole is read
pub then_ok : {X Y : Type 0} (r : Result X CommandFault) (f : X → Result Y CommandFault) (y : Y) → then r f ≡ Ok y → (x : X) × (r ≡ Ok x) × (f x ≡ Ok y)
then_ok (Ok x) f y e = (x, refl, e)
then_ok (Err z) f y e = absurd (cc)

pub next_ok : (line : List ℕ) (ws : List Word) (p : Word × List Word) → next line ws ≡ Ok p → (ws ≡ p.0 ∷ p.1) × (0 < length p.0.text)
next_ok line [] p e = absurd (cc)
next_ok line (w ∷ ws) p e = go (eqb (length w.text) 0) refl e
  where
    go : (v : Bool) → eqb (length w.text) 0 ≡ v → cond v (Err (Line w.place)) (Ok (w, ws)) ≡ Ok p → (w ∷ ws ≡ p.0 ∷ p.1) × (0 < length p.0.text)
    go true s h = absurd (cc)
    go false s h =
        let same : (w, ws) ≡ p = cc in
        let some : 0 < length w.text = omega (arith, eqb-false (length w.text) 0 s) in
        (ap (λ q. q.0 ∷ q.1) same, subst (λ (q : Word × List Word). 0 < length q.0.text) same some)

pub done_ok : {X : Type 0} (ws : List Word) (x y : X) → done ws x ≡ Ok y → (ws ≡ []) × (x ≡ y)
done_ok [] x y e = (refl, cc)
done_ok (w ∷ ws) x y e = absurd (cc)

pub known_ok : {X : Type 0} (o : Option X) (w : Word) (x : X) → known o w ≡ Ok x → o ≡ Some x
known_ok None w x e = absurd (cc)
known_ok (Some z) w x e = cc

pub rest_ok : (line : List ℕ) (ws : List Word) (t : List ℕ) → rest line ws ≡ Ok t → (w : Word) × (more : List Word) × (ws ≡ w ∷ more) × (drop w.place line ≡ t)
rest_ok line [] t e = absurd (cc)
rest_ok line (w ∷ ws) t e = (w, ws, refl, cc)

pub word_ok : {X : Type 0} (line : List ℕ) (ws : List Word) (f : Word → List Word → Result X CommandFault) (y : X) → then_word line ws f ≡ Ok y
    → (w : Word) × (more : List Word) × (ws ≡ w ∷ more) × (f w more ≡ Ok y) × (0 < length w.text)
word_ok line ws f y e =
    let p = then_ok (next line ws) (λ p. f p.0 p.1) y e in
    let n = next_ok line ws p.0 p.1 in
    (p.0.0, p.0.1, n.0, p.2, n.1)

pub meant_ok : {W X : Type 0} (meaning : List ℕ → Option W) (line : List ℕ) (ws : List Word) (f : W → List Word → Result X CommandFault) (y : X) → then_known meaning line ws f ≡ Ok y
    → (w : Word) × (more : List Word) × (x : W) × (ws ≡ w ∷ more) × (meaning w.text ≡ Some x) × (f x more ≡ Ok y) × (0 < length w.text)
meant_ok meaning line ws f y e =
    let p = word_ok line ws (λ w ws. then (known (meaning w.text) w) (λ x. f x ws)) y e in
    let q = then_ok (known (meaning p.0.text) p.0) (λ x. f x p.1) y p.3 in
    (p.0, p.1, q.0, p.2, known_ok (meaning p.0.text) p.0 q.0 q.1, q.2, p.4)

-- the next of some words without a space in them
fair_on : {ws more : List Word} {w : Word} → ws ≡ w ∷ more → 0 < length w.text → Plain ws → Worded w.text × Plain more
fair_on e some p = let q = subst Plain e p in ((some, q.0), q.1)

-- a line's first texts, and the words after them
pub record At (line : List ℕ) (first : List (List ℕ)) (ws : List Word) : Type 0 where
  pub spelt : line ≡ with_spaces (first ++ texts ws)

at_on : {line : List ℕ} {first : List (List ℕ)} {ws more : List Word} {w : Word} → ws ≡ w ∷ more → At line first ws → At line (first ++ (w.text ∷ [])) more
at_on {line} {first} {ws} {more} {w} e a = record { spelt = (subst (At line first) e a).spelt ∙ ap with_spaces (sym (append_assoc first (w.text ∷ []) (texts more))) }

at_end : {line : List ℕ} {first : List (List ℕ)} {ws : List Word} → ws ≡ [] → At line first ws → line ≡ with_spaces first
at_end {line} {first} e a = (subst (At line first) e a).spelt ∙ ap with_spaces (append-nil first)

-- a word that stands for something in a table is one of its words, and so the name of that
abbrev pub Row : {A : Type 0} → List (List ℕ × A) → List ℕ → A → Type 0
Row [] t x = ⊥
Row (row ∷ rows) t x = ((t ≡ row.0) × (row.1 ≡ x)) ⊎ Row rows t x

pub picked : {A : Type 0} (rows : List (List ℕ × A)) (t : List ℕ) (x : A) → pick rows t ≡ Some x → Row rows t x
picked [] t x e = cc
picked (row ∷ rows) t x e = go (picked rows t x) (bytes_eq t row.0) refl e
  where
    go : (pick rows t ≡ Some x → Row rows t x) → (v : Bool) → bytes_eq t row.0 ≡ v → cond v (Some row.1) (pick rows t) ≡ Some x → Row (row ∷ rows) t x
    go later true s h = inl ((bytes_eq-Decides t row.0).0 s, cc)
    go later false s h = inr (later h)

named : {A : Type 0} (name : A → List ℕ) (rows : List (List ℕ × A)) (t : List ℕ) (x : A) → map (λ row. row.0) rows ≡ map (λ row. name row.1) rows → Row rows t x → t ≡ name x
named name [] t x n r = absurd r
named name (row ∷ rows) t x n (inl r) = let same : row.0 ≡ name row.1 = cc in r.0 ∙ same ∙ ap name r.1
named name (row ∷ rows) t x n (inr r) = named name rows t x (cc) r

abbrev pub head_name : Head → List ℕ
head_name head.Mint = codes "mint"
head_name head.Hold = codes "hold"
head_name head.Queue = codes "queue"
head_name head.Tick = codes "tick"
head_name head.Bind = codes "bind"
head_name head.Fetch = codes "fetch"
head_name head.Validate = codes "validate"

abbrev turn_name : Turn → List ℕ
turn_name turn.Set = codes "set"
turn_name turn.Release = codes "release"

abbrev edit_name : Edit → List ℕ
edit_name edit.Set = codes "set"
edit_name edit.Purge = codes "purge"

-- each form, with what it takes after its first word: of words without a space a fair command, and of the rest of a line the command that is typed out; the text of `bind` is found by its place
pub record Read (h : Head) (line : List ℕ) (ws : List Word) (c : Said) : Type 0 where
  pub fair : Plain ws → Fair c
  pub spelt : At line (head_name h ∷ []) ws → (h ≡ head.Bind → Along 0 line ws) → Spelt line c

held_fair : (t : Turn) (name : List ℕ) → Worded name → Fair (held_by t name)
held_fair turn.Set name w = w
held_fair turn.Release name w = w

held_spelt : (t : Turn) (line name : List ℕ) → line ≡ with_spaces (codes "hold" ∷ turn_name t ∷ name ∷ []) → Spelt line (held_by t name)
held_spelt turn.Set line name s = s
held_spelt turn.Release line name s = s

bound_fair : (kind : Edit) (line : List ℕ) (ws : List Word) (name word : List ℕ) (c : Said) → Worded name → Worded word → bound_by kind line ws name word ≡ Ok c → Fair c
bound_fair edit.Set line ws name word c w v e =
    let t = then_ok (rest line ws) _ c e in
    let said : bind_set name word (pick elements word) t.0 ≡ c = cc in
    subst Fair said (w, v)
bound_fair edit.Purge line ws name word c w v e = subst Fair (done_ok ws _ c e).1 (w, v)

bound_spelt : (kind : Edit) (line : List ℕ) (ws : List Word) (name word : List ℕ) (c : Said) → At line (codes "bind" ∷ edit_name kind ∷ name ∷ word ∷ []) ws → Along 0 line ws → bound_by kind line ws name word ≡ Ok c → Spelt line c
bound_spelt edit.Set line [] name word c a l e = absurd (cc)
bound_spelt edit.Set line (first ∷ more) name word c a l e =
    let text = drop first.place line in
    let all : with_spaces (texts (first ∷ more)) ≡ text ++ [] = sym l.1 ∙ ap (λ k. drop k line) (omega arith) ∙ sym (append-nil text) in
    let said : bind_set name word (pick elements word) text ≡ c = cc in
    subst (Spelt line) said (a.spelt ∙ ap (λ l. codes "bind set " ++ (name ++ (32 ∷ (word ++ (32 ∷ l))))) all, refl)
bound_spelt edit.Purge line ws name word c a l e = let d = done_ok ws _ c e in subst (Spelt line) d.1 (at_end d.0 a, refl)

pub form_read : (h : Head) (line : List ℕ) (ws : List Word) (c : Said) → form h line ws ≡ Ok c → Read h line ws c
form_read head.Mint line ws c e =
    let k = meant_ok count line ws _ c e in
    let d = done_ok k.1 _ c k.5 in
    let r = range_ok (number k.0.text) k.2 k.4 in
    let n = number_ok k.0.text k.2 r.0 in
    let spell : List ℕ → List ℕ = λ t. with_spaces (codes "mint" ∷ t ∷ []) in
    subst (Read head.Mint line ws) d.1 (record { fair = λ p. (r.1, r.2); spelt = λ a l. at_end d.0 (at_on k.3 a) ∙ ap spell n.0 })
form_read head.Hold line ws c e =
    let k = meant_ok (pick turns) line ws _ c e in
    let q = word_ok line k.1 _ c k.5 in
    let d = done_ok q.1 _ c q.3 in
    let t = named turn_name turns k.0.text k.2 refl (picked turns k.0.text k.2 k.4) in
    let spell : List ℕ → List ℕ = λ t. with_spaces (codes "hold" ∷ t ∷ q.0.text ∷ []) in
    subst (Read head.Hold line ws) d.1
    (record { fair = λ p. held_fair k.2 q.0.text (fair_on q.2 q.4 (fair_on k.3 k.6 p).1).0; spelt = λ a l. held_spelt k.2 line q.0.text (at_end d.0 (at_on q.2 (at_on k.3 a)) ∙ ap spell t) })
form_read head.Queue line ws c e =
    let k = meant_ok delay line ws _ c e in
    let q = word_ok line k.1 _ c k.5 in
    let d = done_ok q.1 _ c q.3 in
    let n = delay_ok k.0.text k.2 k.4 in
    let spell : List ℕ → List ℕ = λ t. with_spaces (codes "queue" ∷ t ∷ q.0.text ∷ []) in
    let spelt : At line (codes "queue" ∷ []) ws → Spelt line (queue q.0.text k.2) =
    λ a. let s = at_end d.0 (at_on q.2 (at_on k.3 a)) in elim n.0 [ inl t ↦ inl (s ∙ ap spell t) | inr z ↦ inr (z.0, s ∙ ap spell z.1) ] in
    subst (Read head.Queue line ws) d.1 (record { fair = λ p. ((fair_on q.2 q.4 (fair_on k.3 k.6 p).1).0, n.1); spelt = λ a l. spelt a })
form_read head.Tick line ws c e =
    let k = meant_ok number line ws _ c e in
    let d = done_ok k.1 _ c k.5 in
    let n = number_ok k.0.text k.2 k.4 in
    let spell : List ℕ → List ℕ = λ t. with_spaces (codes "tick" ∷ t ∷ []) in
    subst (Read head.Tick line ws) d.1 (record { fair = λ p. n.1; spelt = λ a l. at_end d.0 (at_on k.3 a) ∙ ap spell n.0 })
form_read head.Bind line ws c e =
    let k = meant_ok (pick edits) line ws _ c e in
    let q = word_ok line k.1 _ c k.5 in
    let r = word_ok line q.1 _ c q.3 in
    let t = named edit_name edits k.0.text k.2 refl (picked edits k.0.text k.2 k.4) in
    let all : ws ≡ k.0 ∷ q.0 ∷ r.0 ∷ r.1 = k.3 ∙ ap (λ v. k.0 ∷ v) (q.2 ∙ ap (λ v. q.0 ∷ v) r.2) in
    let at : At line (codes "bind" ∷ []) ws → At line (codes "bind" ∷ edit_name k.2 ∷ q.0.text ∷ r.0.text ∷ []) r.1 =
    λ a. subst (λ (t : List ℕ). At line (codes "bind" ∷ t ∷ q.0.text ∷ r.0.text ∷ []) r.1) t (at_on r.2 (at_on q.2 (at_on k.3 a))) in
    record {
      fair = λ p. let w = fair_on q.2 q.4 (fair_on k.3 k.6 p).1 in bound_fair k.2 line r.1 q.0.text r.0.text c w.0 (fair_on r.2 r.4 w.1).0 r.3;
      spelt = λ a l. bound_spelt k.2 line r.1 q.0.text r.0.text c (at a) (subst (Along 0 line) all (l refl)).2.2.2 r.3;
    }
form_read head.Fetch line ws c e =
    let q = word_ok line ws _ c e in
    let r = word_ok line q.1 _ c q.3 in
    let d = done_ok r.1 _ c r.3 in
    subst (Read head.Fetch line ws) d.1
    (record { fair = λ p. let w = fair_on q.2 q.4 p in (w.0, (fair_on r.2 r.4 w.1).0); spelt = λ a l. (at_end d.0 (at_on r.2 (at_on q.2 a)), refl) })
form_read head.Validate line ws c e =
    let q = word_ok line ws _ c e in
    let d = done_ok q.1 _ c q.3 in
    subst (Read head.Validate line ws) d.1 (record { fair = λ p. (fair_on q.2 q.4 p).0; spelt = λ a l. at_end d.0 (at_on q.2 a) })

-- by a line's first word
pub spoken_read : (line : List ℕ) (c : Said) → spoken line ≡ Ok c → Spelt line c × Fair c
spoken_read line c e =
    let k = meant_ok (pick heads) line (words 0 line) _ c e in
    let t = named head_name heads k.0.text k.2 refl (picked heads k.0.text k.2 k.4) in
    let f = form_read k.2 line k.1 c k.5 in
    let start : At line [] (words 0 line) = record { spelt = sym (whole 0 line) } in
    let at : At line (head_name k.2 ∷ []) k.1 = subst (λ (t : List ℕ). At line (t ∷ []) k.1) t (at_on k.3 start) in
    (f.spelt at (λ _. (subst (Along 0 line) k.3 (along 0 line)).2), f.fair (fair_on k.3 k.6 (plain_words 0 line)).1)

-- the opening line
pub opening_read : (line template : List ℕ) → opening line ≡ Ok template → (line ≡ with_spaces (codes "template" ∷ template ∷ [])) × Worded template
opening_read line template e =
    let k = meant_ok (pick openings) line (words 0 line) _ template e in
    let q = word_ok line k.1 _ template k.5 in
    let d = done_ok q.1 _ template q.3 in
    let t = named (λ _. codes "template") openings k.0.text k.2 refl (picked openings k.0.text k.2 k.4) in
    let start : At line [] (words 0 line) = record { spelt = sym (whole 0 line) } in
    (at_end d.0 (at_on q.2 (at_on k.3 start)) ∙ (λ i. with_spaces (t i ∷ d.1 i ∷ [])), subst Worded d.1 (fair_on q.2 q.4 (fair_on k.3 k.6 (plain_words 0 line)).1).0)
