-- `==` answers true of a value and another just where the two are equal; and what a value feeds to a hash.
use Rattle.std.specs.Prelude.{◌≡◌, ℕ, ℤ, pos, Bool, true, false, List, ◌++◌}
use mathlib.Core.Path.{refl, sym, ap, subst}
use mathlib.Core.Bool.{true≢false}
use Rattle.std.specs.Bool.{Decides}
use Rattle.std.specs.Cmp.{IsEquivalence, decided, unsigned_Decides, signed_Decides, int_eq_equiv, nat_eq_equiv}
use Rattle.std.specs.Cmp.Lexicographic.{nat_list_eq_equiv, bytes_decides}
use Rattle.std.specs.Hash as fed
use Rattle.dart_store.specs.Values.{same, same_truth}
use Rattle.dart_store.specs.declared.value.Value.{Value}
use Rattle.dart_store.specs.declared.value.Value.TheVariants as v

truth_same : (a b : Bool) → same_truth a b ≡ true → a ≡ b
truth_same true true h = refl
truth_same true false h = absurd (true≢false (sym h))
truth_same false true h = absurd (true≢false (sym h))
truth_same false false h = refl

truth_itself : (a : Bool) → same_truth a a ≡ true
truth_itself true = refl
truth_itself false = refl

equal : (a b : Value) → same a b ≡ true → a ≡ b
equal v.Null v.Null h = refl
equal (v.Bool a) (v.Bool b) h = ap v.Bool (truth_same a b h)
equal (v.Int a) (v.Int b) h = ap v.Int ((signed_Decides a b).0 h)
equal (v.Text a) (v.Text b) h = ap v.Text ((bytes_decides a b).0 h)
equal (v.Object a) (v.Object b) h = ap v.Object ((unsigned_Decides a b).0 h)
equal (v.List a) (v.List b) h = ap v.List ((unsigned_Decides a b).0 h)
equal (v.Map a) (v.Map b) h = ap v.Map ((unsigned_Decides a b).0 h)
equal (v.Function a) (v.Function b) h = ap v.Function ((unsigned_Decides a b).0 h)
equal (v.Static a) (v.Static b) h = ap v.Static ((unsigned_Decides a b).0 h)
equal _ _ h = absurd (true≢false (sym h))

itself : (a : Value) → same a a ≡ true
itself v.Null = refl
itself (v.Bool a) = truth_itself a
itself (v.Int a) = int_eq_equiv.refl a
itself (v.Text a) = nat_list_eq_equiv.refl a
itself (v.Object a) = nat_eq_equiv.refl a
itself (v.List a) = nat_eq_equiv.refl a
itself (v.Map a) = nat_eq_equiv.refl a
itself (v.Function a) = nat_eq_equiv.refl a
itself (v.Static a) = nat_eq_equiv.refl a

pub same_decides : (a b : Value) → Decides (same a b) (a ≡ b)
same_decides a b = (equal a b, λ e. subst (λ c. same a c ≡ true) e (itself a))

pub same_laws : IsEquivalence same
same_laws = decided same same_decides

-- the number of its kind, and then what it holds
abbrev pub fed_value : Value → fed.HashWrites
fed_value v.Null = fed.u8 0
fed_value (v.Bool a) = fed.u8 1 ++ fed.bool a
fed_value (v.Int a) = fed.u8 2 ++ fed.i64 a
fed_value (v.Text a) = fed.u8 3 ++ fed.slice fed.u16 a
fed_value (v.Object a) = fed.u8 4 ++ fed.usize a
fed_value (v.List a) = fed.u8 5 ++ fed.usize a
fed_value (v.Map a) = fed.u8 6 ++ fed.usize a
fed_value (v.Function a) = fed.u8 7 ++ fed.usize a
fed_value (v.Static a) = fed.u8 8 ++ fed.u32 a

pub equal_fed : fed.Alike same fed_value
equal_fed = fed.same_Alike fed_value same_decides
