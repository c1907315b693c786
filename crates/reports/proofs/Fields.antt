-- The fields of a line, one after another. Assumes nothing.
use Rattle.std.proofs.Common.{◌≡◌, ℕ, ◌+◌, ◌<◌, List, [], ◌∷◌, ◌++◌, length, get_or, take, map, refl, sym, ap, ◌∙◌, append_assoc}
use Rattle.std.proofs.lemmas.List.{flat_map_more, take_more}
use Rattle.std.specs.List.{flat_map}
use Rattle.reports.specs.Fields.{field_text}
use Rattle.reports.specs.Reports.{further}
use Rattle.reports.specs.declared.Field.{Field}

-- some fields, with a space before each
abbrev pub spaced_fields : List Field → List ℕ
spaced_fields fields = flat_map (λ f. 32 ∷ field_text f) fields

-- one more field after a head and i fields
pub fields_more : (head : List ℕ) (fields : List Field) (i : ℕ) (d : Field) → i < length fields
    → (head ++ spaced_fields (take i fields)) ++ (32 ∷ field_text (get_or fields i d)) ≡ head ++ spaced_fields (take (i + 1) fields)
fields_more head fields i d h =
    flat_map_more (λ f. 32 ∷ field_text f) head (take i fields) (get_or fields i d) ∙ ap (λ l. head ++ spaced_fields l) (sym (take_more fields i d h))

-- all fields and the line's end
pub fields_end : (fields : List Field) → spaced_fields fields ++ (10 ∷ []) ≡ further (map field_text fields)
fields_end [] = refl
fields_end (f ∷ fields) = append_assoc (32 ∷ field_text f) (spaced_fields fields) (10 ∷ []) ∙ ap (λ l. (32 ∷ field_text f) ++ l) (fields_end fields)
