-- The first broken rule of a program: one search over all rules and places.
use Rattle.std.specs.Prelude.{◌≡◌, ◌<◌, ◌≤◌, ◌⊎◌, ℕ, List, Option, Some, None}
use Rattle.outside.specs.Outside.{Held}
use Rattle.dart_syntax.specs.declared.rules.Rule.{Rule}
use Rattle.dart_syntax.specs.declared.rules.Rule.TheVariants as r
use Rattle.dart_syntax.specs.declared.rules.Refusal.{Refusal}
use Rattle.dart_program.specs.declared.files.SourceFile.{SourceFile}
use Rattle.dart_program.specs.Loading.{IsRefused, IsLoadedFrom}

-- What breaks rules: the rule, the number of the file and the place in it at which it is broken. Each phase of the search
-- gives one of these.
abbrev pub Broken : Type 1
Broken = Rule → ℕ → ℕ → Type 0

-- The phases, in which rules are looked for one after another: files, libraries, classes, limits, bodies.
abbrev pub phase_of : Rule → ℕ
phase_of r.U1 = 0
phase_of r.N1 = 0
phase_of r.N2 = 0
phase_of r.N3 = 0
phase_of r.S1 = 0
phase_of r.S2 = 0
phase_of r.S3 = 0
phase_of r.S4 = 0
phase_of r.S5 = 0
phase_of r.S6 = 0
phase_of r.S7 = 0
phase_of r.G2 = 0
phase_of r.G1 = 0
phase_of r.L1 = 1
phase_of r.L2 = 1
phase_of r.L3 = 1
phase_of r.L4 = 1
phase_of r.C1 = 2
phase_of r.C2 = 2
phase_of r.C3 = 2
phase_of r.C4 = 2
phase_of r.C5 = 2
phase_of r.N4 = 3
phase_of r.N5 = 3
phase_of r.N6 = 3
phase_of r.N7 = 3
phase_of r.N8 = 3
phase_of _ = 4

-- the number of a rule in its phase
abbrev pub number_of : Rule → ℕ
number_of r.U1 = 1
number_of r.N1 = 2
number_of r.N2 = 3
number_of r.N3 = 4
number_of r.S1 = 5
number_of r.S2 = 6
number_of r.S3 = 7
number_of r.S4 = 8
number_of r.S5 = 9
number_of r.S6 = 10
number_of r.S7 = 11
number_of r.G2 = 12
number_of r.G1 = 13
number_of r.L1 = 1
number_of r.L2 = 2
number_of r.L3 = 3
number_of r.L4 = 4
number_of r.C1 = 1
number_of r.C2 = 2
number_of r.C3 = 3
number_of r.C4 = 4
number_of r.C5 = 5
number_of r.N4 = 4
number_of r.N5 = 5
number_of r.N6 = 6
number_of r.N7 = 7
number_of r.N8 = 8
number_of r.B1 = 1
number_of r.B2 = 2
number_of r.B3 = 3
number_of r.B4 = 4
number_of r.B5 = 5
number_of r.B6 = 6
number_of r.B7 = 7
number_of r.B8 = 8
number_of r.B9 = 9
number_of r.B10 = 10
number_of r.B11 = 11
number_of r.B12 = 12
number_of r.B13 = 13
number_of r.B14 = 14

-- One refusal comes before another, or is at the same rule and place: by phase, then by file, then by place, then by the
-- number of the rule. `by m n P`: m is below n, or they are equal and P says.
abbrev pub by : ℕ → ℕ → Type 0 → Type 0
by m n P = (m < n) ⊎ ((m ≡ n) × P)

abbrev pub ComesFirst : Refusal → Refusal → Type 0
ComesFirst x y = by (phase_of x.rule) (phase_of y.rule) (by x.file y.file (by x.at y.at (number_of x.rule ≤ number_of y.rule)))

-- the first of what is broken
pub record IsFirst (broken : Broken) (x : Refusal) : Type 0 where
  pub holds : broken x.rule x.file x.at
  pub first : (y : Refusal) → broken y.rule y.file y.at → ComesFirst x y

pub record BreaksNone (broken : Broken) : Type 0 where
  pub none : (y : Refusal) → broken y.rule y.file y.at → ⊥

-- the first of what is broken, and none exactly where nothing is
abbrev pub IsFirstOrNone : Broken → Option Refusal → Type 0
IsFirstOrNone broken None = BreaksNone broken
IsFirstOrNone broken (Some x) = IsFirst broken x

-- what is broken of one or of another
abbrev pub EitherOf : Broken → Broken → Broken
EitherOf one other rule file at = one rule file at ⊎ other rule file at

-- what breaks rules in a loaded program: one relation for each phase behind the files
pub record Phases : Type 1 where
  pub libraries : Broken
  pub classes : Broken
  pub limits : Broken
  pub bodies : Broken

-- a rule that any phase finds broken
pub data AnyOf (phases : Phases) (rule : Rule) (file at : ℕ) : Type 0 where
  in_libraries : phases.libraries rule file at → AnyOf phases rule file at
  in_classes : phases.classes rule file at → AnyOf phases rule file at
  in_limits : phases.limits rule file at → AnyOf phases rule file at
  in_bodies : phases.bodies rule file at → AnyOf phases rule file at

-- The first broken rule of what is held, beginning with the entry: while files are loaded, and else of the program.
pub data IsFirstBroken (phases : List SourceFile → Phases) (held : Held) (entry : List ℕ) (x : Refusal) : Type 0 where
  of_files : IsRefused held entry x → IsFirstBroken phases held entry x
  of_program : {program : List SourceFile} → IsLoadedFrom held entry program → IsFirst (AnyOf (phases program)) x → IsFirstBroken phases held entry x

-- a program in which no rule is broken
pub record IsValid (phases : List SourceFile → Phases) (held : Held) (entry : List ℕ) (program : List SourceFile) : Type 0 where
  pub loaded : IsLoadedFrom held entry program
  pub keeps : BreaksNone (AnyOf (phases program))
