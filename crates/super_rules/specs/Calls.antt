-- The calls of constructors of the superclass that the constructors of a class make.
use Rattle.std.specs.Prelude.{ℕ, if◌then◌else◌, List, [], ◌∷◌, length, slice_get, Option, Some, None}
use Rattle.std.specs.List.{list_any, flat_map}
use Rattle.dart_grammar.specs.declared.trees.Name.{Name}
use Rattle.dart_grammar.specs.declared.declarations.Class.{Class}
use Rattle.dart_grammar.specs.declared.declarations.Constructor.{Constructor}
use Rattle.dart_grammar.specs.declared.declarations.Initialiser.{Initialiser}
use Rattle.dart_grammar.specs.declared.declarations.Initialiser.TheVariants as i
use Rattle.dart_grammar.specs.declared.declarations.Member.{Member}
use Rattle.dart_grammar.specs.declared.declarations.Member.TheVariants as m
use Rattle.body_rules.specs.Constructors.{is_super_call}
use Rattle.class_heads.specs.Rules.{is_constructor}
use Rattle.class_members.specs.Constructions.{lacks_implicit}
use Rattle.super_rules.specs.declared.calls.SuperCall.{SuperCall}

-- a constructor without a name has an empty one
abbrev pub name_text : Option Name → List ℕ
name_text None = []
name_text (Some y) = y.text

-- ---- calls that are written

abbrev pub written_by : Initialiser → List SuperCall
written_by (i.Super at y args) = record { at = at.from; name = name_text y; count = length args.items } ∷ []
written_by (i.Field at y a) = []

-- ---- calls that are not written: the constructor without a name is called without arguments

abbrev pub implied_at : Option Name → List SuperCall
implied_at None = []
implied_at (Some y) = record { at = y.span.from; name = []; count = 0 } ∷ []

abbrev pub calls_by : Constructor → List SuperCall
calls_by f = if list_any is_super_call f.initialisers then flat_map written_by f.initialisers else implied_at (slice_get f.names 0)

abbrev pub calls_in : Member → List SuperCall
calls_in (m.Constructor f) = calls_by f
calls_in _ = []

-- ---- all calls of a class in the file of that number, by its body

-- A class in which no constructor is written has one, but for some of the prelude.
abbrev pub implied_in : ℕ → Class → List SuperCall
implied_in file c = if lacks_implicit file c then [] else implied_at (Some c.name)

abbrev pub calls : ℕ → Class → List SuperCall
calls file c = if list_any is_constructor c.members then flat_map calls_in c.members else implied_in file c
