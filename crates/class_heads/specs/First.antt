-- The first rule of classes that is broken.
use Rattle.std.specs.Prelude.{List, Bool, Option, Some, None, map}
use Rattle.dart_syntax.specs.declared.rules.Refusal.{Refusal}
use Rattle.dart_program.specs.First.{IsFirst, BreaksNone}
use Rattle.class_heads.specs.declared.known.Known.{Known}
use Rattle.class_heads.specs.Sources.{Sources, classes_in, written_in, naming_in}
use Rattle.class_heads.specs.Rules.{IsBroken}
use Rattle.class_heads.specs.Faults.{node_facts}

abbrev pub IsFirstOrNone : Sources → Option Refusal → Type 0
IsFirstOrNone p None = BreaksNone (IsBroken p)
IsFirstOrNone p (Some x) = IsFirst (IsBroken p) x

-- what is known of a program, where these flags tell which classes stand above themselves
abbrev pub known_in : Sources → List Bool → Known
known_in p cycles = record { naming = naming_in p; classes = classes_in p; bodies = map (node_facts (written_in p)) (classes_in p); cycles = cycles }
