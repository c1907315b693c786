-- Worked examples, computed from the definitions.
use Rattle.std.proofs.Common.{◌≡◌, true, [], Ok, Err, codes, refl}
use Rattle.names.specs.Check.{check_char}
use Rattle.names.specs.Forms.{Form}
use Rattle.names.specs.Naming.{total, with_parts, name_of}
use Rattle.names.specs.Validate.{reads}
use Rattle.names.specs.declared.fault.NameFault.TheVariants.{Length, Byte, Check}

-- published names end in their check character: q, 1, k, 5, w
published_q : check_char (codes "13030/xf93gt2") ≡ 113
published_q = refl

published_1 : check_char (codes "13030/f54x54g1") ≡ 49
published_1 = refl

published_k : check_char (codes "13030/tf5p30086") ≡ 107
published_k = refl

published_5 : check_char (codes "13960/t5z64fc5") ≡ 53
published_5 = refl

published_w : check_char (codes "13030/ft4w10060") ≡ 119
published_w = refl

-- three positions d, e and d behind 13030/x, with a check character
abbrev small : Form
small = with_parts (codes "13030/x") (codes "ded") true

small_total : total small.mask ≡ 2900
small_total = refl

small_name : name_of small 299 ≡ codes "13030/x109j"
small_name = refl

past_total : name_of small 2900 ≡ []
past_total = refl

read_back : reads small (codes "13030/x109j") ≡ Ok 299
read_back = refl

too_long : reads small (codes "13030/x109jj") ≡ Err (Length 12)
too_long = refl

letter_at_d : reads small (codes "13030/xb09j") ≡ Err (Byte 7)
letter_at_d = refl

wrong_prefix : reads small (codes "13031/x109j") ≡ Err (Byte 4)
wrong_prefix = refl

last_two_exchanged : reads small (codes "13030/x10j9") ≡ Err (Byte 9)
last_two_exchanged = refl

wrong_check : reads small (codes "13030/x1099") ≡ Err (Check 10)
wrong_check = refl
