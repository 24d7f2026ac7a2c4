-- The rule of super calls: the superclass has a constructor that takes each.
use Rattle.std.specs.Prelude.{ℕ, Bool, not, if◌then◌else◌, List, [], ◌∷◌, slice_get, Option, Some, None, option_and_then, Contains}
use Rattle.std.specs.List.{flat_map}
use Rattle.dart_syntax.specs.declared.rules.Rule.TheVariants.{B11}
use Rattle.dart_syntax.specs.declared.rules.Refusal.{Refusal}
use Rattle.dart_grammar.specs.declared.declarations.Class.{Class}
use Rattle.dart_program.specs.First.{Broken}
use Rattle.dart_sites.specs.declared.surroundings.Owner.{Owner}
use Rattle.dart_sites.specs.declared.surroundings.Owner.TheVariants as o
use Rattle.library_scopes.specs.Rules.{refusal}
use Rattle.class_heads.specs.declared.written.WrittenClass.{WrittenClass}
use Rattle.class_heads.specs.Origins.{superclass_of}
use Rattle.class_heads.specs.Sources.{Sources, classes_in, written_in, class_number}
use Rattle.super_rules.specs.declared.calls.SuperCall.{SuperCall}
use Rattle.super_rules.specs.Calls.{calls}
use Rattle.super_rules.specs.Takers.{OwnBody, base_body, takes}

abbrev pub fault_if : Bool → ℕ → ℕ → List Refusal
fault_if is_broken file at = if is_broken then refusal B11 file at ∷ [] else []

-- a call in this file, where the superclass has these constructors
abbrev pub call_faults : ℕ → Option OwnBody → SuperCall → List Refusal
call_faults file above x = fault_if (not (takes file above x)) file x.at

-- Object alone has no superclass, and calls none.
abbrev pub body_faults : Sources → ℕ → Class → Option ℕ → List Refusal
body_faults p file c None = []
body_faults p file c (Some s) = flat_map (call_faults file (base_body p s)) (calls file c)

-- the superclass of a class that is written
abbrev pub superclass_at : Sources → WrittenClass → Option ℕ
superclass_at p w = option_and_then (superclass_of (classes_in p)) (class_number p w.number)

abbrev pub owner_faults : Sources → ℕ → Owner → Option ℕ → List Refusal
owner_faults p file (o.Class c) superclass = body_faults p file c superclass
owner_faults p file (o.Alias a) superclass = []

abbrev pub class_faults : Sources → WrittenClass → List Refusal
class_faults p w = owner_faults p w.file w.class (superclass_at p w)

unfoldable pub faults : Sources → List Refusal
faults p = flat_map (class_faults p) (written_in p)

unfoldable pub IsBroken : Sources → Broken
IsBroken p rule file at = Contains (faults p) (refusal rule file at)
