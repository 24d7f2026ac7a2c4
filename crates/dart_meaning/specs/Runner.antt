-- What the runner answers, as its code finds it.
use Rattle.std.specs.Prelude.{ℕ, ◌-◌, ◌==◌, nat_lt, if◌then◌else◌, List, [], ◌∷◌, ◌++◌, Option, Some, None}
use Rattle.meanings.specs.Act.{Fin, Spent, Cut, Left, ResOf}
use Rattle.dart_meaning.specs.declared.program.Expression.{Expression}
use Rattle.dart_meaning.specs.declared.program.Statement.{Statement}
use Rattle.dart_meaning.specs.declared.program.Statement.TheVariants.{Print, Declare}
use Rattle.dart_meaning.specs.declared.run.Value.{Value}
use Rattle.dart_meaning.specs.declared.run.Value.TheVariants as values
use Rattle.dart_meaning.specs.declared.run.Turn.{Turn}
use Rattle.dart_meaning.specs.declared.run.Turn.TheVariants as turns
use Rattle.dart_meaning.specs.Meaning.{Datum, Whole, Letters, Store, First, Normal, expression_value, text_of}

-- the value that the runner keeps by a reference to a text of the program
abbrev pub datum_of : Value → Datum
datum_of (values.Whole z) = Whole z
datum_of (values.Letters units) = Letters units.now

-- a statement has ended, with the steps that are left; or it ended the run
abbrev pub turned : Store → List (List ℕ) → Turn → ResOf First
turned store texts (turns.Next left) = Fin Normal store left texts
turned store texts turns.Spends = Spent texts
turned store texts turns.Leaves = Cut Left texts

abbrev pub printed : Option Datum → Store → ℕ → List (List ℕ) → ResOf First
printed None store steps texts = Cut Left texts
printed (Some value) store steps texts = if steps == 2 then Spent texts else Fin Normal store (steps - 3) (texts ++ text_of value ∷ [])

abbrev pub print_turn : Expression → Store → ℕ → List (List ℕ) → ResOf First
print_turn value store steps texts = if nat_lt steps 2 then Spent texts else printed (expression_value store value) store steps texts

abbrev pub kept : Option Datum → Store → ℕ → List (List ℕ) → ResOf First
kept None store steps texts = Cut Left texts
kept (Some value) store steps texts = Fin Normal (store ++ value ∷ []) (steps - 2) texts

abbrev pub declare_turn : Expression → Store → ℕ → List (List ℕ) → ResOf First
declare_turn value store steps texts = if nat_lt steps 2 then Spent texts else kept (expression_value store value) store steps texts

-- what a statement comes to
abbrev pub turn : Statement → Store → ℕ → List (List ℕ) → ResOf First
turn (Print value) store steps texts = print_turn value store steps texts
turn (Declare name value) store steps texts = declare_turn value store steps texts
