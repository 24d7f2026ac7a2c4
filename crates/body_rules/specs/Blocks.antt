-- What scopes declare, and where it is named.
use Rattle.std.specs.Prelude.{ℕ, ◌-◌, Bool, false, if◌then◌else◌, nat_lt, List, length, slice_get, Option, Some, None, option_and_then}
use Rattle.std.specs.Bool.{then_some}
use Rattle.dart_grammar.specs.declared.trees.Name.{Name}
use Rattle.dart_sites.specs.declared.scopes.Found.{Found}
use Rattle.dart_sites.specs.declared.scopes.Local.{Local}
use Rattle.dart_sites.specs.declared.scopes.Scope.{Scope}
use Rattle.dart_sites.specs.declared.sites.Site.{Site}
use Rattle.dart_sites.specs.declared.sites.Site.TheVariants as x
use Rattle.dart_sites.specs.declared.surroundings.Surroundings.{Surroundings}
use Rattle.dart_sites.specs.Scopes.{declared, found}
use Rattle.library_scopes.specs.Uses.{is_dynamic}

-- ---- a name that its block or parameter list declares already

-- Of scopes the innermost stands last.
abbrev pub innermost : List Scope → Option Scope
innermost scopes = slice_get scopes (length scopes - 1)

-- The first one of that name stands before it.
abbrev pub is_second : Name → Option Local → Bool
is_second y None = false
is_second y (Some first) = nat_lt first.name.span.from y.span.from

abbrev pub doubled_name : Surroundings → Name → Option ℕ
doubled_name s y = then_some (is_second y (option_and_then (declared y.text) (innermost s.scopes))) y.span.from

abbrev pub doubled_at : Surroundings → Site → Option ℕ
doubled_at s (x.Local y) = doubled_name s y
doubled_at s _ = None

-- ---- a local that is named before its declaration ends

-- In a type test `dynamic` is no name.
abbrev pub tested : List Name → Option Name
tested names = if is_dynamic names then None else slice_get names 0

-- the name that is looked up in the scopes around; of names with dots between the first
abbrev pub looked_up : Site → Option Name
looked_up (x.Named y how) = Some y
looked_up (x.Made at names count) = slice_get names 0
looked_up (x.TypeTested names) = tested names
looked_up _ = None

-- The declaration of a local function ends with its name, so its body may name it.
abbrev pub is_before_end : Name → Option Found → Bool
is_before_end y None = false
is_before_end y (Some f) = nat_lt y.span.from f.local.ends

abbrev pub early_name : Surroundings → Name → Option ℕ
early_name s y = then_some (is_before_end y (found y.text s.scopes)) y.span.from

abbrev pub early_at : Surroundings → Site → Option ℕ
early_at s y = option_and_then (early_name s) (looked_up y)
