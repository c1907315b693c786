-- The elements of a name that texts are bound under, by their index 1 to 4, and the keys of texts.
use Rattle.std.specs.Prelude.{ℕ, ◌+◌, ◌%◌, Bool, ◌&&◌, ◌==◌}
use Rattle.stores.specs.declared.text.Element.{Element}
use Rattle.stores.specs.declared.text.Element.TheVariants.{Who, What, When, Where}
use Rattle.stores.specs.declared.text.TextKey.{TextKey}

abbrev pub index : Element → ℕ
index Who = 1
index What = 2
index When = 3
index Where = 4

abbrev pub same_element : Element → Element → Bool
same_element a b = index a == index b

abbrev pub same_key : TextKey → TextKey → Bool
same_key a b = a.number == b.number && same_element a.element b.element

abbrev pub key_hash : TextKey → ℕ
key_hash a = (a.number + index a.element) % 16
