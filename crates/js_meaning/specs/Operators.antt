-- What operators give (13.7 to 13.11, 13.15.3). Nothing is converted, and zero has no sign.
use Rattle.std.specs.Prelude.{ℕ, ◌==◌, Bool, true, false, if◌then◌else◌, ◌++◌, length, nat_le, ℤ, pos, ◌+ℤ◌, ◌-ℤ◌, ◌*ℤ◌, nat_abs, int_div, int_rem}
use Rattle.std.specs.Ordering.{is_lt, is_gt, is_le, is_ge, int_cmp, int_eq, nat_cmp}
use Rattle.std.specs.Cmp.Lexicographic.{slice_cmp}
use Rattle.js_tree.specs.declared.words.JsOperator.{JsOperator}
use Rattle.js_tree.specs.declared.words.JsOperator.TheVariants as o
use Rattle.store_lists.specs.Text.{Text}
use Rattle.store_lists.specs.Limits.{greatest, is_length}
use Rattle.js_store.specs.Values.{same}
use Rattle.js_store.specs.declared.value.Value.{Value}
use Rattle.js_store.specs.declared.value.Value.TheVariants.{Bool as Truth, Number, Str}
use Rattle.js_meaning.specs.declared.state.Spot.{Spot}
use Rattle.js_meaning.specs.Prog.{Prog, ◌>>=◌, pure, left, stuck}

abbrev pub in_range : ℤ → Bool
in_range z = nat_le (nat_abs z) greatest

-- a number, unless it is farther than 2^53-1 from 0
unfoldable pub number : ℤ → Prog Value
number z = if in_range z then pure (Number z) else left

-- a string, unless it has more than 2^53-1 units
unfoldable pub string : Text → Prog Value
string t = if is_length (length t) then pure (Str t) else left

abbrev pub truth : Bool → Prog Value
truth b = pure (Truth b)

-- 6.1.6.1.5, only where it is exact
unfoldable pub divided : Spot → ℤ → ℤ → Prog Value
divided spot a b = if int_eq b (pos 0) then stuck spot else if int_eq (int_rem a b) (pos 0) then number (int_div a b) else stuck spot

-- 6.1.6.1.6: with the sign of the dividend
unfoldable pub remainder : Spot → ℤ → ℤ → Prog Value
remainder spot a b = if int_eq b (pos 0) then stuck spot else number (int_rem a b)

-- 6.1.6.1.4, 6.1.6.1.7, 6.1.6.1.8; 6.1.6.1.12 for the comparisons
unfoldable pub numbers : Spot → JsOperator → ℤ → ℤ → Prog Value
numbers spot o.Plus a b = number (a +ℤ b)
numbers spot o.Minus a b = number (a -ℤ b)
numbers spot o.Times a b = number (a *ℤ b)
numbers spot o.Divide a b = divided spot a b
numbers spot o.Remainder a b = remainder spot a b
numbers spot o.Equal a b = truth (int_eq a b)
numbers spot o.Less a b = truth (is_lt (int_cmp a b))
numbers spot o.Greater a b = truth (is_gt (int_cmp a b))
numbers spot o.LessEqual a b = truth (is_le (int_cmp a b))
numbers spot o.GreaterEqual a b = truth (is_ge (int_cmp a b))

-- strings are joined (13.15.3), and compared by their units (7.2.13)
unfoldable pub strings : Spot → JsOperator → Text → Text → Prog Value
strings spot o.Plus s t = string (s ++ t)
strings spot o.Less s t = truth (is_lt (slice_cmp nat_cmp s t))
strings spot o.Greater s t = truth (is_gt (slice_cmp nat_cmp s t))
strings spot o.LessEqual s t = truth (is_le (slice_cmp nat_cmp s t))
strings spot o.GreaterEqual s t = truth (is_ge (slice_cmp nat_cmp s t))
strings spot _ s t = stuck spot

abbrev pub on_two : Spot → JsOperator → Value → Value → Prog Value
on_two spot operator (Number a) (Number b) = numbers spot operator a b
on_two spot operator (Str s) (Str t) = strings spot operator s t
on_two spot operator _ _ = stuck spot

-- 13.11.1: `===` takes any two values
abbrev pub operate : Spot → JsOperator → Value → Value → Prog Value
operate spot o.Equal a b = truth (same a b)
operate spot operator a b = on_two spot operator a b

unfoldable pub operated : Spot → JsOperator → Value → Value → Prog Value
operated = operate
