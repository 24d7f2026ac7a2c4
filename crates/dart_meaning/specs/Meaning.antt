-- What a first program means: its nodes, what each does when it begins, and the run of each number of steps.
use Rattle.std.specs.Prelude.{ℕ, ℤ, pos, ◌+ℤ◌, ◌-ℤ◌, ◌*ℤ◌, nat_abs, nat_le, List, [], ◌∷◌, ◌++◌, Option, Some, None, slice_get, if◌then◌else◌}
use Rattle.std.specs.Fmt.{signed_decimal}
use Rattle.std.specs.Option.{option_map}
use Rattle.meanings.specs.Act.{Act, fin, quit, sub, Left, Lang}
use Rattle.meanings.specs.Runs.{run_of}
use Rattle.meanings.specs.Ends.{Done, Halted, ProgramRun}
use Rattle.dart_meaning.specs.declared.program.TheConstants.{MAX_NUMBER}
use Rattle.dart_meaning.specs.declared.program.Operand.{Operand}
use Rattle.dart_meaning.specs.declared.program.Operand.TheVariants.{Number, Variable}
use Rattle.dart_meaning.specs.declared.program.Product.{Product}
use Rattle.dart_meaning.specs.declared.program.Sign.{Sign}
use Rattle.dart_meaning.specs.declared.program.Sign.TheVariants.{Plus, Minus}
use Rattle.dart_meaning.specs.declared.program.Addend.{Addend}
use Rattle.dart_meaning.specs.declared.program.Sum.{Sum}
use Rattle.dart_meaning.specs.declared.program.Expression.{Expression as Expr}
use Rattle.dart_meaning.specs.declared.program.Expression.TheVariants as expressions
use Rattle.dart_meaning.specs.declared.program.Statement.{Statement as Stmt}
use Rattle.dart_meaning.specs.declared.program.Statement.TheVariants as statement
use Rattle.dart_meaning.specs.Program.{lone}

-- a value: a whole number, or a text as its units
pub data Datum : Type 0 where
  Whole : ℤ → Datum
  Letters : List ℕ → Datum

-- what begins as one step: the call of main, a statement, the expression of one, and the call of print
pub data Node : Type 0 where
  Main : List Stmt → Node
  Statement : Stmt → Node
  Expression : Expr → Node
  Print : List ℕ → Node

-- how a node completes: normally, or with a value
pub data Completion : Type 0 where
  Normal : Completion
  Value : Datum → Completion

-- the values of the names that are declared so far, in order
abbrev pub Store : Type 0
Store = List Datum

abbrev pub Acts : Type 0
Acts = Act Node Store Completion

-- Expressions. None stands for a number that leaves the range of whole numbers.

-- the number, unless it is farther than 2^53-1 from 0
abbrev pub in_range : ℤ → Option ℤ
in_range z = if nat_le (nat_abs z) MAX_NUMBER then Some z else None

-- the value of a number or a name, if it has one
abbrev pub operand_value : Store → Operand → Option Datum
operand_value store (Number n) = Some (Whole (pos n))
operand_value store (Variable k) = slice_get store k

-- What an operator takes. No operator of a well-formed program takes a text or a name without a value, so None here is
-- never reached.
abbrev pub number_in : Option Datum → Option ℤ
number_in (Some (Whole z)) = Some z
number_in (Some (Letters units)) = None
number_in None = None

infixl 10 ◌>>=◌
abbrev pub ◌>>=◌ : {A B : Type 0} → Option A → (A → Option B) → Option B
None >>= f = None
(Some x) >>= f = f x

-- the operands behind a first factor, grouped to the left
abbrev pub product_from : Store → ℤ → List Operand → Option ℤ
product_from store total [] = Some total
product_from store total (operand ∷ operands) = do
  factor ← number_in (operand_value store operand)
  next ← in_range (total *ℤ factor)
  product_from store next operands

abbrev pub product_value : Store → Product → Option ℤ
product_value store product = do
  first ← number_in (operand_value store product.first)
  product_from store first product.rest

abbrev pub signed : Sign → ℤ → ℤ → ℤ
signed Plus total value = total +ℤ value
signed Minus total value = total -ℤ value

-- the addends behind a first product, grouped to the left
abbrev pub sum_from : Store → ℤ → List Addend → Option ℤ
sum_from store total [] = Some total
sum_from store total (addend ∷ addends) = do
  value ← product_value store addend.product
  next ← in_range (signed addend.sign total value)
  sum_from store next addends

abbrev pub sum_value : Store → Sum → Option ℤ
sum_value store sum = do
  first ← product_value store sum.first
  sum_from store first sum.rest

-- a name alone has its value, which may be a text
abbrev pub lone_or_sum : Store → Sum → Option Operand → Option Datum
lone_or_sum store sum (Some operand) = operand_value store operand
lone_or_sum store sum None = option_map Whole (sum_value store sum)

abbrev pub expression_value : Store → Expr → Option Datum
expression_value store (expressions.Text text) = Some (Letters text)
expression_value store (expressions.Sum sum) = lone_or_sum store sum (lone sum)

-- The text of a value: of a number its decimal digits, with - in front where it is below 0.
abbrev pub text_of : Datum → List ℕ
text_of (Whole z) = signed_decimal z
text_of (Letters units) = units

-- An expression that leaves the range of whole numbers cuts the run short.
abbrev pub valued : Option Datum → Store → Acts
valued None store = quit Left
valued (Some value) store = fin (Value value) store

abbrev pub prints : Completion → Store → Acts
prints Normal store = fin Normal store
prints (Value value) store = sub (Print (text_of value)) store fin

abbrev pub declares : Completion → Store → Acts
declares Normal store = fin Normal store
declares (Value value) store = fin Normal (store ++ value ∷ [])

abbrev pub statement_acts : Stmt → Store → Acts
statement_acts (statement.Print value) store = sub (Expression value) store prints
statement_acts (statement.Declare name value) store = sub (Expression value) store declares

-- one statement after another
abbrev pub statements : List Stmt → Store → Acts
statements [] store = fin Normal store
statements (s ∷ program) store = sub (Statement s) store (λ _ store'. statements program store')

abbrev pub view : Node → Store → Acts
view (Main program) store = statements program []
view (Statement s) store = statement_acts s store
view (Expression value) store = valued (expression_value store value) store
view (Print text) store = fin Normal store

abbrev pub says : Node → Store → Option (List ℕ)
says (Main program) store = None
says (Statement s) store = None
says (Expression value) store = None
says (Print text) store = Some text

abbrev pub First : Lang (List ℕ)
First = record { Node = Node; Store = Store; Comp = Completion; view = view; says = says }

-- The run of each number of steps. Nothing is ever thrown, and no load is asked for, so the order of loads has no say.
abbrev pub dart : List Stmt → List ℕ → ℕ → ProgramRun
dart program order = run_of First (λ _. Done) Halted (sub (Main program) [] fin)
