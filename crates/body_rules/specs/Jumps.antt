-- Jumps, and `this` and `super`.
use Rattle.std.specs.Prelude.{ℕ, Bool, true, false, not, ◌&&◌, Option, None}
use Rattle.std.specs.Bool.{then_some}
use Rattle.dart_sites.specs.declared.sites.Site.{Site}
use Rattle.dart_sites.specs.declared.sites.Site.TheVariants as x
use Rattle.dart_sites.specs.declared.surroundings.Within.{Within}
use Rattle.dart_sites.specs.declared.surroundings.Within.TheVariants as w
use Rattle.dart_sites.specs.declared.surroundings.Surroundings.{Surroundings}
use Rattle.dart_sites.specs.Surroundings.{has_this}

-- ---- `break` that no loop of its function is around

abbrev pub break_at : Surroundings → Site → Option ℕ
break_at s (x.Break at) = then_some (not s.in_loop) at.from
break_at s _ = None

-- ---- `continue` that no loop of its function is around

abbrev pub continue_at : Surroundings → Site → Option ℕ
continue_at s (x.Continue at) = then_some (not s.in_loop) at.from
continue_at s _ = None

-- ---- `this` outside of instance members and of the bodies of constructors

abbrev pub this_at : Surroundings → Site → Option ℕ
this_at s (x.This at) = then_some (not (has_this s)) at.from
this_at s _ = None

-- ---- `super` outside of them

abbrev pub super_at : Surroundings → Site → Option ℕ
super_at s (x.Super at) = then_some (not (has_this s)) at.from
super_at s _ = None

-- ---- a constructor that returns a value

abbrev pub is_constructor_body : Within → Bool
is_constructor_body (w.ConstructorBody f) = true
is_constructor_body _ = false

-- A function in it may.
abbrev pub return_at : Surroundings → Site → Option ℕ
return_at s (x.ReturnValue at) = then_some (is_constructor_body s.within && not s.in_function) at.from
return_at s _ = None

-- ---- `rethrow` that no catch clause of its function is around

abbrev pub rethrow_at : Surroundings → Site → Option ℕ
rethrow_at s (x.Rethrow at) = then_some (not s.in_catch) at.from
rethrow_at s _ = None
