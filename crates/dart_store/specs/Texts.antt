-- Natives on texts, and on what has a text.
use Rattle.std.specs.Prelude.{ℕ, ℤ, pos, negsuc, List, ◌++◌, Option, Some, None, codes, length}
use Rattle.std.specs.Ordering.{nat_cmp}
use Rattle.std.specs.declared.cmp.Ordering.{Ordering}
use Rattle.std.specs.declared.cmp.Ordering.TheVariants.{Less, Equal, Greater}
use Rattle.std.specs.Cmp.Lexicographic.{slice_cmp}
use Rattle.store_lists.specs.Lists.{item_at}
use Rattle.store_lists.specs.Text.{Text, part}
use Rattle.dart_store.specs.Values.{number_in}
use Rattle.dart_store.specs.Store.{class_of, class_name}
use Rattle.dart_store.specs.Answers.{count, text}
use Rattle.dart_store.specs.declared.value.Value.{Value}
use Rattle.dart_store.specs.declared.value.Value.TheVariants as v
use Rattle.dart_store.specs.declared.store.Store.{Store}
use Rattle.dart_store.specs.declared.answers.Thrower.TheVariants.{Argument, Range}
use Rattle.dart_store.specs.declared.answers.Applied.{Applied}
use Rattle.dart_store.specs.declared.answers.Applied.TheVariants.{Gives, Throws}

-- `print` gives null
abbrev pub printing : Option Text → Applied
printing (Some a) = Gives v.Null
printing None = Throws Argument

-- the text of an object: that it is an instance of its class
abbrev pub object_text : Store → Option Value → Applied
object_text store (Some a) = text ((codes "Instance of '" ++ class_name store (class_of store a)) ++ codes "'")
object_text store None = Throws Argument

-- a, and behind it b
abbrev pub joined : (a b : Option Text) → Applied
joined (Some a) (Some b) = text (a ++ b)
joined _ _ = Throws Argument

abbrev pub units_in : Option Text → Applied
units_in (Some a) = count (length a)
units_in None = Throws Argument

abbrev pub unit_found : Option ℕ → Applied
unit_found (Some unit) = Gives (v.Int (pos unit))
unit_found None = Throws Range

-- the unit at an index in range
abbrev pub unit : Option Text → Option ℤ → Applied
unit (Some a) (Some b) = unit_found (item_at a b)
unit _ _ = Throws Argument

-- the end of a part: null stands for the length
abbrev pub end_of : Text → Option Value → Option ℤ
end_of a (Some v.Null) = Some (pos (length a))
end_of a c = number_in c

abbrev pub part_found : Option Text → Applied
part_found (Some units) = Gives (v.Text units)
part_found None = Throws Range

abbrev pub part_between : Text → (b c : Option ℤ) → Applied
part_between a (Some b) (Some c) = part_found (part a b c)
part_between a _ _ = Throws Argument

-- the units from b up to, and without, c, where 0 <= b <= c <= length
abbrev pub part_of : Option Text → Option ℤ → Option Value → Applied
part_of (Some a) b c = part_between a b (end_of a c)
part_of None b c = Throws Argument

abbrev pub sign_of : Ordering → ℤ
sign_of Less = negsuc 0
sign_of Equal = pos 0
sign_of Greater = pos 1

-- -1, 0 or 1, by the units
abbrev pub order : (a b : Option Text) → Applied
order (Some a) (Some b) = Gives (v.Int (sign_of (slice_cmp nat_cmp a b)))
order _ _ = Throws Argument
