-- The first of what the rules of bodies find, each alone.
use Rattle.std.proofs.Common.{◌≡◌, ℕ, List, Option, subst}
use Rattle.dart_grammar.specs.declared.declarations.FileTree.{FileTree}
use Rattle.dart_syntax.specs.declared.rules.Refusal.{Refusal}
use Rattle.dart_program.specs.declared.files.SourceFile.{SourceFile}
use Rattle.dart_program.specs.First.{IsFirstOrNone, EitherOf}
use Rattle.dart_program.specs.Sooner.{first_of}
use Rattle.dart_program.proofs.Firsts.{first_of_either}
use Rattle.class_heads.specs.Sources.{Sources}
use Rattle.body_rules.specs.Rules as bodies
use Rattle.field_rules.specs.Rules as fields
use Rattle.super_rules.specs.Rules as supers
use Rattle.name_rules.specs.Rules as names
use Rattle.program_rules.specs.Files.{InFiles}
use Rattle.program_rules.specs.Bodies.{InFile, IsBroken}

pub in_file : (p : Sources) (n : ℕ) (file : FileTree) (a b c : Option Refusal)
    → IsFirstOrNone (bodies.IsBroken n file) a → IsFirstOrNone (fields.IsBroken n file) b → IsFirstOrNone (names.IsBroken p n file) c → IsFirstOrNone (InFile p n file) (first_of (first_of a b) c)
in_file p n file a b c f g h =
    first_of_either (EitherOf (bodies.IsBroken n file) (fields.IsBroken n file)) (names.IsBroken p n file) (first_of a b) c
    (first_of_either (bodies.IsBroken n file) (fields.IsBroken n file) a b f g)
    h

pub in_program : (p m : Sources) (files : List SourceFile) (found above : Option Refusal) → m ≡ p → files ≡ p.files
    → IsFirstOrNone (InFiles (InFile m) 0 files) found → IsFirstOrNone (supers.IsBroken p) above → IsFirstOrNone (IsBroken p) (first_of found above)
unfolding IsBroken
in_program p m files found above is same f g =
    first_of_either (InFiles (InFile p) 0 p.files) (supers.IsBroken p) found above
    (subst (λ xs. IsFirstOrNone (InFiles (InFile p) 0 xs) found) same (subst (λ q. IsFirstOrNone (InFiles (InFile q) 0 files) found) is f))
    g
