-- Programs whose libraries and classes break no rule.
use Rattle.std.specs.Prelude.{◌≡◌}
use Rattle.dart_program.specs.First.{IsFirst, BreaksNone}
use Rattle.library_scopes.specs.Libraries.{scopes_of}
use Rattle.library_scopes.specs.Rules as libraries
use Rattle.class_heads.specs.Sources.{Sources}
use Rattle.class_heads.specs.Rules as classes
use Rattle.class_hierarchy.specs.declared.building.ClassError.{ClassError}
use Rattle.class_hierarchy.specs.declared.building.ClassError.TheVariants as e

-- These scopes are those of the files, whose libraries break no rule.
pub record HasScopes (p : Sources) : Type 0 where
  pub scopes : p.scopes ≡ scopes_of p.files
  pub keeps : BreaksNone (libraries.IsBroken p.files)

-- Nor do the classes.
pub record IsResolved (p : Sources) : Type 0 where
  pub libraries : HasScopes p
  pub keeps : BreaksNone (classes.IsBroken p)

-- Why there is no hierarchy; memory may be wanting for any.
abbrev pub IsRefusalOf : Sources → ClassError → Type 0
IsRefusalOf p (e.Broken refusal) = IsFirst (classes.IsBroken p) refusal
IsRefusalOf p e.Memory = Unit {0}
