-- Values: `===` on them, their words for `typeof`, and truth.
use Rattle.std.specs.Prelude.{◌==◌, Bool, true, false, Option, Some, None, codes}
use Rattle.std.specs.Ordering.{int_eq}
use Rattle.store_lists.specs.Text.{Text, same_text}
use Rattle.js_store.specs.declared.value.Value.{Value}
use Rattle.js_store.specs.declared.value.Value.TheVariants.{Undefined, Null, Bool as Truth, Number, Str, Object, Array, Map, Function, Host}

abbrev pub same_truth : Bool → Bool → Bool
same_truth true b = b
same_truth false true = false
same_truth false false = true

-- `===` (7.2.14): nothing is converted, texts are compared by their units, zero has no sign, and what has an address is
-- the same where the address is
abbrev pub same : Value → Value → Bool
same Undefined Undefined = true
same Null Null = true
same (Truth a) (Truth b) = same_truth a b
same (Number a) (Number b) = int_eq a b
same (Str a) (Str b) = same_text a b
same (Object a) (Object b) = a == b
same (Array a) (Array b) = a == b
same (Map a) (Map b) = a == b
same (Function a) (Function b) = a == b
same Host Host = true
same _ _ = false

-- the word of a value for `typeof` (13.5.3)
abbrev pub type_word : Value → Text
type_word Undefined = codes "undefined"
type_word Null = codes "object"
type_word (Truth a) = codes "boolean"
type_word (Number a) = codes "number"
type_word (Str a) = codes "string"
type_word (Object a) = codes "object"
type_word (Array a) = codes "object"
type_word (Map a) = codes "object"
type_word (Function a) = codes "function"
type_word Host = codes "object"

-- A test asks for a truth value, and nothing is converted to one.
abbrev pub truth_of : Value → Option Bool
truth_of (Truth a) = Some a
truth_of _ = None
