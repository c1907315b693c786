-- How a template's text is read, byte by byte from the left.
-- plain, of_29: the bytes of a shoulder; class_of: the class of a byte
-- next: the reader after one byte, or the refusal of that byte; finish: what is read where the text ends
-- walk: what a reader reads from the bytes that are left; read_shape: the lengths of the parts of a text; reads_as: whether a reading answers this shape
-- form_of: the parts of a text by their lengths; read_template: the template that a text is, or why it is none
use Rattle.std.specs.Prelude.{ℕ, ◌+◌, Bool, true, false, cond, not, ◌&&◌, ◌||◌, List, [], ◌∷◌, take, drop, Ok, Err, Result, ◌==◌, nat_lt, slice_index}
use Rattle.names.specs.declared.fault.TemplateFault.{TemplateFault}
use Rattle.names.specs.declared.fault.TemplateFault.TheVariants.{Naan, Shoulder, Letter, Mask, Early}
use Rattle.names.specs.declared.template.parts.Class.{Class}
use Rattle.names.specs.declared.template.parts.Class.TheVariants as class
use Rattle.names.specs.declared.template.parts.Part.{Part}
use Rattle.names.specs.declared.template.parts.Part.TheVariants as part
use Rattle.names.specs.declared.template.parts.Reader.{Reader}
use Rattle.names.specs.declared.template.parts.Shape.{Shape}
use Rattle.names.specs.Forms.{Form, digit, order, place}

-- b c f g h j m n p q t v w x z: the letters of the 29 that mean nothing else in a template
abbrev pub plain : ℕ → Bool
plain b =
    (b == 98) || b == 99 || b == 102 || b == 103 || b == 104 || b == 106 || b == 109 || b == 110
    || b == 112 || b == 113 || b == 116 || b == 118 || b == 119 || b == 120 || b == 122

-- one of 0123456789bcdfghjkmnpqrstvwxz: a digit, r, s, d, k or a plain letter
abbrev pub of_29 : ℕ → Bool
of_29 b = digit b || (order b || (b == 100 || (b == 107 || plain b)))

abbrev pub class_of : ℕ → Class
class_of b =
    cond (digit b) class.Digit (cond (b == 47) class.Slash (cond (b == 46) class.Dot (cond (order b) class.Order
    (cond (b == 100) class.Ten (cond (b == 101) class.All (cond (b == 107) class.Check (cond (plain b) class.Plain class.Other)))))))

-- a reader in a part, of which it has read n bytes, after a shoulder of so many
abbrev pub reader : Part → ℕ → ℕ → Reader
reader q n shoulder = record { part = q; count = n; shoulder = shoulder }

-- five digits, a slash, 1 to 13 of the 29, a dot, a letter, 1 to 8 places, perhaps a k; and nothing after it
abbrev pub next_in : Part → ℕ → ℕ → ℕ → ℕ → Result Reader TemplateFault
next_in part.Naan n sh b at =
    cond (digit b) (Ok (cond (nat_lt n 4) (reader part.Naan (n + 1) sh) (reader part.Slash 0 sh))) (Err (Naan at))
next_in part.Slash n sh b at = cond (b == 47) (Ok (reader part.Shoulder 0 sh)) (Err (Naan at))
next_in part.Shoulder n sh b at =
    cond (of_29 b && nat_lt n 13) (Ok (reader part.Shoulder (n + 1) sh))
    (cond (b == 46 && nat_lt 0 n) (Ok (reader part.Letter 0 n)) (Err (Shoulder at)))
next_in part.Letter n sh b at = cond (order b) (Ok (reader part.Mask 0 sh)) (Err (Letter at))
next_in part.Mask n sh b at =
    cond (place b && nat_lt n 8) (Ok (reader part.Mask (n + 1) sh))
    (cond (b == 107 && nat_lt 0 n) (Ok (reader part.Closed n sh)) (Err (Mask at)))
next_in part.Closed n sh b at = Err (Mask at)

-- the byte b stands at the place at
abbrev pub next : Reader → ℕ → ℕ → Result Reader TemplateFault
next s b at = next_in s.part s.count s.shoulder b at

abbrev pub finish_in : Part → ℕ → ℕ → ℕ → Result Shape TemplateFault
finish_in part.Naan n sh len = Err (Early len)
finish_in part.Slash n sh len = Err (Early len)
finish_in part.Shoulder n sh len = Err (Early len)
finish_in part.Letter n sh len = Err (Early len)
finish_in part.Mask n sh len = cond (nat_lt 0 n) (Ok (record { shoulder = sh; mask = n; check = false })) (Err (Early len))
finish_in part.Closed n sh len = Ok (record { shoulder = sh; mask = n; check = true })

abbrev pub finish : Reader → ℕ → Result Shape TemplateFault
finish s len = finish_in s.part s.count s.shoulder len

abbrev pub after : Result Reader TemplateFault → (Reader → Result Shape TemplateFault) → Result Shape TemplateFault
after (Ok s) go = go s
after (Err e) go = Err e

abbrev pub walk : Reader → ℕ → List ℕ → Result Shape TemplateFault
walk s at [] = finish s at
walk s at (b ∷ bs) = after (next s b at) (λ t. walk t (at + 1) bs)

abbrev pub read_shape : List ℕ → Result Shape TemplateFault
read_shape text = walk (reader part.Naan 0 0) 0 text

-- a reading answers this shape
abbrev pub reads_as : Result Shape TemplateFault → Shape → Bool
reads_as (Ok u) s = u.shoulder == s.shoulder && (u.mask == s.mask && cond u.check s.check (not s.check))
reads_as (Err e) s = false

-- the text before the dot, the letter after it, the mask after that
abbrev pub form_of : List ℕ → Shape → Form
form_of text s = record {
  prefix = take (6 + s.shoulder) text;
  letter = slice_index text (7 + s.shoulder);
  mask = take s.mask (drop (8 + s.shoulder) text);
  check = s.check;
}

abbrev pub formed : List ℕ → Result Shape TemplateFault → Result Form TemplateFault
formed text (Ok s) = Ok (form_of text s)
formed text (Err e) = Err e

abbrev pub read_template : List ℕ → Result Form TemplateFault
read_template text = formed text (read_shape text)
