-- Values: `==` on them, and the numbers of their classes.
use Rattle.std.specs.Prelude.{ℕ, ℤ, ◌==◌, Bool, true, false, Option, Some, None}
use Rattle.std.specs.Ordering.{int_eq}
use Rattle.store_lists.specs.Text.{Text, same_text}
use Rattle.dart_store.specs.declared.value.Value.{Value}
use Rattle.dart_store.specs.declared.value.Value.TheVariants as v

abbrev pub same_truth : Bool → Bool → Bool
same_truth true b = b
same_truth false true = false
same_truth false false = true

-- `==`: by content on null, truth values, whole numbers and texts, and by identity on all else. Each kind of thing that
-- has an address has addresses of its own, and a static function is the one of its member.
abbrev pub same : Value → Value → Bool
same v.Null v.Null = true
same (v.Bool a) (v.Bool b) = same_truth a b
same (v.Int a) (v.Int b) = int_eq a b
same (v.Text a) (v.Text b) = same_text a b
same (v.Object a) (v.Object b) = a == b
same (v.List a) (v.List b) = a == b
same (v.Map a) (v.Map b) = a == b
same (v.Function a) (v.Function b) = a == b
same (v.Static a) (v.Static b) = a == b
same _ _ = false

-- ---- what a value is, where it is of the kind that is asked for

abbrev pub number_in : Option Value → Option ℤ
number_in (Some (v.Int a)) = Some a
number_in _ = None

abbrev pub text_in : Option Value → Option Text
text_in (Some (v.Text a)) = Some a
text_in _ = None

abbrev pub list_in : Option Value → Option ℕ
list_in (Some (v.List a)) = Some a
list_in _ = None

abbrev pub map_in : Option Value → Option ℕ
map_in (Some (v.Map a)) = Some a
map_in _ = None
