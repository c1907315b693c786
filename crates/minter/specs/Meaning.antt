-- What a register means: texts_in, the texts of a store's pairs; opened, the machine over a source and a store before the
-- first call; over, a machine with other lists; meaning, the machine that a register stands for; lacks_room, text_put and text_dropped, of parts of its calls.
use Rattle.std.specs.Prelude.{ℕ, pred, Bool, cond, not, ◌&&◌, List, [], length, Some, None, vec_items, Option, nat_le}
use Rattle.sources.specs.Stock.{Stock}
use Rattle.stores.specs.Pairs.{look, more}
use Rattle.stores.specs.Texts.{same_key}
use Rattle.stores.specs.declared.text.Element.{Element}
use Rattle.stores.specs.declared.text.TextKey.{TextKey}
use Rattle.machine.specs.Machine.{Machine, text_under, bound_in}
use Rattle.machine.specs.Texts.{bytes_of}
use Rattle.minter.specs.declared.lists.Lists.{Lists}
use Rattle.minter.specs.declared.register.Register.{Register}
use Rattle.machine.specs.declared.text.Text.{Text}
use Rattle.std.specs.Option.{option_map}

-- the bytes of the text under a key
abbrev pub texts_in : List (TextKey × Text) → TextKey → Option (List ℕ)
texts_in ps k = option_map bytes_of (look same_key ps k)

abbrev pub opened : Stock → List (TextKey × Text) → ℕ → Machine
opened s ps c = record { source = s; aside = []; returned = []; delayed = []; held = []; clock = 0; texts = texts_in ps; many = length ps; capacity = c }

-- a machine with the lists of a register in place of its own
abbrev pub over : Machine → Lists → Machine
over m l = record {
  source = m.source;
  aside = vec_items l.aside;
  returned = vec_items l.returned;
  delayed = vec_items l.delayed;
  held = vec_items l.held;
  clock = m.clock;
  texts = m.texts;
  many = m.many;
  capacity = m.capacity;
}

-- from what its source and its store mean
abbrev pub meaning : {S T : Type 0} → (S → Stock) → (T → List (TextKey × Text)) → (T → ℕ) → Register S T → Machine
meaning stock pairs capacity r = record {
  source = stock r.source;
  aside = vec_items r.lists.aside;
  returned = vec_items r.lists.returned;
  delayed = vec_items r.lists.delayed;
  held = vec_items r.lists.held;
  clock = r.clock;
  texts = texts_in (pairs r.texts);
  many = length (pairs r.texts);
  capacity = capacity r.texts;
}

-- the store is full, and has no text under n and f
abbrev pub lacks_room : Machine → ℕ → Element → Bool
lacks_room m n f = not (text_under m n f) && nat_le m.capacity m.many

-- after a text was put under n and f, where there is room
abbrev pub text_put : Machine → ℕ → Element → List ℕ → Machine
text_put m n f w = cond (lacks_room m n f) m (bound_in m n f (Some w) (more (text_under m n f) m.many))

-- after the text under n and f was removed, where there is one
abbrev pub text_dropped : Machine → ℕ → Element → Machine
text_dropped m n f = cond (text_under m n f) (bound_in m n f None (pred m.many)) m
