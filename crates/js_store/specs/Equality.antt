-- `===` answers true of a value and another just where the two are equal; and what a value feeds to a hash.
use Rattle.std.specs.Prelude.{◌≡◌, Bool, true, false, ◌++◌}
use mathlib.Core.Path.{refl, sym, ap, subst}
use mathlib.Core.Bool.{true≢false}
use Rattle.std.specs.Bool.{Decides}
use Rattle.std.specs.Cmp.{IsEquivalence, decided, unsigned_Decides, signed_Decides, int_eq_equiv, nat_eq_equiv}
use Rattle.std.specs.Cmp.Lexicographic.{nat_list_eq_equiv, bytes_decides}
use Rattle.std.specs.Hash as fed
use Rattle.js_store.specs.Values.{same, same_truth}
use Rattle.js_store.specs.declared.value.Value.{Value}
use Rattle.js_store.specs.declared.value.Value.TheVariants.{Undefined, Null, Bool as Truth, Number, Str, Object, Array, Map, Function, Host}

truth_same : (a b : Bool) → same_truth a b ≡ true → a ≡ b
truth_same true true h = refl
truth_same true false h = absurd (true≢false (sym h))
truth_same false true h = absurd (true≢false (sym h))
truth_same false false h = refl

truth_itself : (a : Bool) → same_truth a a ≡ true
truth_itself true = refl
truth_itself false = refl

equal : (v w : Value) → same v w ≡ true → v ≡ w
equal Undefined Undefined h = refl
equal Null Null h = refl
equal (Truth a) (Truth b) h = ap Truth (truth_same a b h)
equal (Number a) (Number b) h = ap Number ((signed_Decides a b).0 h)
equal (Str a) (Str b) h = ap Str ((bytes_decides a b).0 h)
equal (Object a) (Object b) h = ap Object ((unsigned_Decides a b).0 h)
equal (Array a) (Array b) h = ap Array ((unsigned_Decides a b).0 h)
equal (Map a) (Map b) h = ap Map ((unsigned_Decides a b).0 h)
equal (Function a) (Function b) h = ap Function ((unsigned_Decides a b).0 h)
equal Host Host h = refl
equal _ _ h = absurd (true≢false (sym h))

itself : (v : Value) → same v v ≡ true
itself Undefined = refl
itself Null = refl
itself (Truth a) = truth_itself a
itself (Number a) = int_eq_equiv.refl a
itself (Str a) = nat_list_eq_equiv.refl a
itself (Object a) = nat_eq_equiv.refl a
itself (Array a) = nat_eq_equiv.refl a
itself (Map a) = nat_eq_equiv.refl a
itself (Function a) = nat_eq_equiv.refl a
itself Host = refl

pub same_decides : (v w : Value) → Decides (same v w) (v ≡ w)
same_decides v w = (equal v w, λ e. subst (λ u. same v u ≡ true) e (itself v))

pub same_laws : IsEquivalence same
same_laws = decided same same_decides

-- the number of its kind, and then what it holds
abbrev pub fed_value : Value → fed.HashWrites
fed_value Undefined = fed.u8 0
fed_value Null = fed.u8 1
fed_value (Truth a) = fed.u8 2 ++ fed.bool a
fed_value (Number a) = fed.u8 3 ++ fed.i64 a
fed_value (Str a) = fed.u8 4 ++ fed.slice fed.u16 a
fed_value (Object a) = fed.u8 5 ++ fed.usize a
fed_value (Array a) = fed.u8 6 ++ fed.usize a
fed_value (Map a) = fed.u8 7 ++ fed.usize a
fed_value (Function a) = fed.u8 8 ++ fed.usize a
fed_value Host = fed.u8 9

pub equal_fed : fed.Alike same fed_value
equal_fed = fed.same_Alike fed_value same_decides
