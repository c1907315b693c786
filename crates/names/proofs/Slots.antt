-- What stands at each place of a name.
use Rattle.std.proofs.Common.{◌≡◌, ℕ, zero, suc, ◌+◌, ◌-◌, ◌*◌, ◌<◌, ◌≤◌, Bool, true, false, cond, eqb, List, [], ◌∷◌, ◌++◌, map, length, get_or, drop, Ok, Err, Result, sym, refl, ap, ◌∙◌, arith}
use Rattle.std.proofs.lemmas.List.{get_or_append_left, get_or-append_right, get_or-map, length-map, length-append, drop_more, append_assoc, append-nil}
use Rattle.std.proofs.lemmas.Bool.{cond-true, eq-eqb}
use Rattle.names.specs.Forms.{Form}
use Rattle.names.specs.Naming.{with_parts}
use Rattle.names.specs.Validate.{position, last_slot, slots, fits, counted, walked, closes, closed, reads}
use Rattle.names.specs.declared.fault.NameFault.{NameFault}
use Rattle.names.specs.declared.fault.NameFault.TheVariants.{Length, Byte, Check}
use Rattle.names.specs.declared.slot.Slot.{Slot}
use Rattle.names.specs.declared.slot.Slot.TheVariants.{Fixed, Digit, Letter, Closing}
use Rattle.names.proofs.Characters.{weight_small}

in_last_slot : (check : Bool) (i : ℕ) → get_or (last_slot check) i Closing ≡ Closing
in_last_slot true zero = refl
in_last_slot true (suc i) = refl
in_last_slot false i = refl

pub in_prefix : (p m : List ℕ) (check : Bool) (i : ℕ) → i < length p → get_or (slots (with_parts p m check)) i Closing ≡ Fixed (get_or p i 0)
in_prefix p m check i h =
    let long : length (map Fixed p) ≡ length p = length-map p Fixed in
    get_or_append_left (map Fixed p) (map position m ++ last_slot check) Closing i (omega arith) ∙ get_or-map Fixed p i 0 Closing h

past_prefix : (p m : List ℕ) (check : Bool) (i : ℕ) → length p ≤ i → get_or (slots (with_parts p m check)) i Closing ≡ get_or (map position m ++ last_slot check) (i - length p) Closing
past_prefix p m check i h = get_or-append_right (map Fixed p) (map position m ++ last_slot check) (length p) i Closing (length-map p Fixed) h

pub in_mask : (p m : List ℕ) (check : Bool) (i : ℕ) → length p ≤ i → i - length p < length m → get_or (slots (with_parts p m check)) i Closing ≡ position (get_or m (i - length p) 0)
in_mask p m check i from to =
    let long : length (map position m) ≡ length m = length-map m position in
    past_prefix p m check i from
    ∙ (get_or_append_left (map position m) (last_slot check) Closing (i - length p) (omega arith) ∙ get_or-map position m (i - length p) 0 Closing to)

pub past_mask : (p m : List ℕ) (check : Bool) (i : ℕ) → length p ≤ i → length m ≤ i - length p → get_or (slots (with_parts p m check)) i Closing ≡ Closing
past_mask p m check i from past =
    past_prefix p m check i from
    ∙ (get_or-append_right (map position m) (last_slot check) (length m) (i - length p) Closing (length-map m position) past ∙ in_last_slot check (i - length p - length m))

pub length_slots : (p m : List ℕ) (check : Bool) → length (slots (with_parts p m check)) ≡ length p + (length m + length (last_slot check))
length_slots p m check = simp (length-append, length-map)

-- the walk over a text, one byte on
pub walked_more : (i n : ℕ) (ss : List Slot) (t : List ℕ) → i < length ss → i < length t
    → walked i n (drop i ss) (drop i t)
    ≡ cond (fits (get_or ss i Closing) (get_or t i 0)) (walked (i + 1) (counted (get_or ss i Closing) (get_or t i 0) n) (drop (i + 1) ss) (drop (i + 1) t)) (Err (Byte i))
walked_more i n ss t h k =
    ap (λ xs. walked i n xs (drop i t)) (drop_more ss i Closing h)
    ∙ ap (λ bs. walked i n (get_or ss i Closing ∷ drop (i + 1) ss) bs) (drop_more t i 0 k)

-- where the text ends, the number stands
pub walked_end : (i n : ℕ) (ss : List Slot) → walked i n ss [] ≡ Ok n
walked_end i n [] = refl
walked_end i n (s ∷ ss) = refl

-- slots past the text play no part
pub walked_front : (i n : ℕ) (ss us : List Slot) (t : List ℕ) → length t ≤ length ss → walked i n (ss ++ us) t ≡ walked i n ss t
walked_front i n [] us [] h = walked_end i n us
walked_front i n [] us (b ∷ bs) h = absurd (omega arith)
walked_front i n (s ∷ ss) us [] h = refl
walked_front i n (s ∷ ss) us (b ∷ bs) h = ap (λ r. cond (fits s b) r (Err (Byte i))) (walked_front (i + 1) (counted s b n) ss us bs (omega arith))

-- one byte more multiplies the bound of the number by 29 at most
pub counted_small : (s : Slot) (b n k : ℕ) → n < k → counted s b n < k * 29
counted_small (Fixed p) b n k h = omega arith
counted_small Digit b n k h = let v = weight_small b in omega arith
counted_small Letter b n k h = let v = weight_small b in omega arith
counted_small Closing b n k h = omega arith

-- with a slot for a check character that the text does not have, the walk is the same
walked_whole : (p m : List ℕ) (check : Bool) (t : List ℕ) → length t ≡ length (slots (with_parts p m check)) → walked 0 0 (slots (with_parts p m true)) t ≡ walked 0 0 (slots (with_parts p m check)) t
walked_whole p m true t h = refl
walked_whole p m false t h =
    let ss = slots (with_parts p m false) in
    let one : ss ++ Closing ∷ [] ≡ slots (with_parts p m true) = append_assoc (map Fixed p) (map position m ++ []) (Closing ∷ []) ∙ ap (λ us. map Fixed p ++ (us ++ Closing ∷ [])) (append-nil (map position m)) in
    ap (λ us. walked 0 0 us t) (sym one) ∙ walked_front 0 0 ss (Closing ∷ []) t (omega arith)

-- a text of the right length is read by its bytes, then closed
pub reads_by : (f : Form) (t : List ℕ) (r : Result ℕ NameFault) → length t ≡ length (slots f) → walked 0 0 (slots f) t ≡ r → reads f t ≡ closed f.check t r
reads_by f t r h e =
    cond-true (eqb (length t) (length (slots f))) (closed f.check t (walked 0 0 (slots f) t)) (Err (Length (length t))) (eq-eqb (length t) (length (slots f)) h) ∙ ap (closed f.check t) e

pub reads_whole : (p m : List ℕ) (check : Bool) (t : List ℕ) (r : Result ℕ NameFault) → length t ≡ length (slots (with_parts p m check)) → walked 0 0 (slots (with_parts p m true)) t ≡ r
    → reads (with_parts p m check) t ≡ closed check t r
reads_whole p m check t r h e = reads_by (with_parts p m check) t r h (sym (walked_whole p m check t h) ∙ e)

-- and closed with its number, where its check character is right
pub reads_closed : (f : Form) (t : List ℕ) (n : ℕ) → length t ≡ length (slots f) → walked 0 0 (slots f) t ≡ Ok n → closes f.check t ≡ true → reads f t ≡ Ok n
reads_closed f t n h e k = reads_by f t (Ok n) h e ∙ cond-true (closes f.check t) (Ok n) (Err (Check (length t - 1))) k
