-- What the reader answers, as its code finds it. The forms are those of the tokens from some place on.
use Rattle.std.specs.Prelude.{ℕ, zero, suc, Bool, true, false, not, if◌then◌else◌, nat_le, List, [], ◌∷◌, ◌++◌, length, Option, Some, None, codes}
use Rattle.std.specs.List.{list_all}
use Rattle.std.specs.Option.{option_map_or}
use Rattle.std.specs.Str.{bytes_eq}
use denote.Enum.Bare.{sameb}
use Rattle.dart_syntax.specs.contracts.words.Sign.{the_type as marks}
use Rattle.dart_syntax.specs.declared.words.Word.TheVariants as w
use Rattle.dart_syntax.specs.declared.words.Sign.{Sign as Mark}
use Rattle.dart_syntax.specs.declared.words.Sign.TheVariants as s
use Rattle.dart_syntax.specs.declared.tokens.Form.{Form}
use Rattle.dart_syntax.specs.declared.tokens.Form.TheVariants as f
use Rattle.dart_meaning.specs.declared.program.TheConstants.{MAX_NUMBER}
use Rattle.dart_meaning.specs.declared.program.Operand.{Operand}
use Rattle.dart_meaning.specs.declared.program.Operand.TheVariants.{Number, Variable}
use Rattle.dart_meaning.specs.declared.program.Product.{Product}
use Rattle.dart_meaning.specs.declared.program.Sign.{Sign}
use Rattle.dart_meaning.specs.declared.program.Sign.TheVariants.{Plus, Minus}
use Rattle.dart_meaning.specs.declared.program.Addend.{Addend}
use Rattle.dart_meaning.specs.declared.program.Sum.{Sum}
use Rattle.dart_meaning.specs.declared.program.Expression.{Expression}
use Rattle.dart_meaning.specs.declared.program.Expression.TheVariants as expressions
use Rattle.dart_meaning.specs.declared.program.Statement.{Statement}
use Rattle.dart_meaning.specs.declared.program.Statement.TheVariants.{Print, Declare}
use Rattle.dart_meaning.specs.Program.{Forms, is_plain, may_name}
use Rattle.dart_meaning.specs.Meaning.{◌>>=◌}
use Rattle.dart_meaning.specs.Scope.{Scope, no_names, find, declare}

-- ---- one token, and what is behind it

unfoldable pub same_mark : Mark → Mark → Bool
same_mark = sameb marks

abbrev pub is_sign : Mark → Form → Bool
is_sign x (f.Sign y) = same_mark y x
is_sign x _ = false

unfoldable pub sign : Mark → Forms → Option Forms
sign x [] = None
sign x (form ∷ fs) = if is_sign x form then Some fs else None

unfoldable pub plus_or_minus : Forms → Option (Sign × Forms)
plus_or_minus fs = option_map_or (λ rest. Some (Plus, rest)) (sign s.Plus fs) (do
  rest ← sign s.Minus fs
  Some (Minus, rest))

abbrev pub name_in : Form → Option (List ℕ)
name_in (f.Name text) = Some text
name_in _ = None

unfoldable pub name : Forms → Option (List ℕ × Forms)
name [] = None
name (form ∷ fs) = do
  text ← name_in form
  Some (text, fs)

-- this name
unfoldable pub named : List ℕ → Forms → Option Forms
named text fs = do
  n ← name fs
  if bytes_eq n.0 text then Some n.1 else None

abbrev pub is_var : Form → Bool
is_var (f.Word w.Var) = true
is_var _ = false

unfoldable pub var_word : Forms → Option Forms
var_word [] = None
var_word (form ∷ fs) = if is_var form then Some fs else None

abbrev pub begins_declaration : Forms → Bool
begins_declaration [] = false
begins_declaration (form ∷ fs) = is_var form

abbrev pub is_text_open : Form → Bool
is_text_open f.TextOpen = true
is_text_open _ = false

abbrev pub begins_text : Forms → Bool
begins_text [] = false
begins_text (form ∷ fs) = is_text_open form

unfoldable pub text_open : Forms → Option Forms
text_open [] = None
text_open (form ∷ fs) = if is_text_open form then Some fs else None

abbrev pub is_text_close : Form → Bool
is_text_close f.TextClose = true
is_text_close _ = false

unfoldable pub text_close : Forms → Option Forms
text_close [] = None
text_close (form ∷ fs) = if is_text_close form then Some fs else None

abbrev pub piece_in : Form → Option (List ℕ)
piece_in (f.Piece units) = Some units
piece_in _ = None

unfoldable pub piece : Forms → Option (List ℕ × Forms)
piece [] = None
piece (form ∷ fs) = do
  units ← piece_in form
  Some (units, fs)

-- ---- expressions

-- the units of a text between its quotes
unfoldable pub text : Forms → Option (List ℕ × Forms)
text fs = do
  inner ← text_open fs
  p ← piece inner
  rest ← text_close p.1
  if list_all is_plain p.0 then Some (p.0, rest) else None

-- an operand, whether it stands for a text, and what is behind it
abbrev pub Found : Type 0
Found = Operand × Bool × Forms

unfoldable pub variable_of : Scope → List ℕ → Option (Operand × Bool)
variable_of scope text = do
  v ← find text scope
  Some (Variable v.0, v.1)

unfoldable pub constant_of : ℕ → Option (Operand × Bool)
constant_of n = if nat_le n MAX_NUMBER then Some (Number n, false) else None

abbrev pub operand_of : Scope → Form → Option (Operand × Bool)
operand_of scope (f.Name text) = variable_of scope text
operand_of scope (f.Number n) = constant_of n
operand_of scope _ = None

unfoldable pub operand : Scope → Forms → Option Found
operand scope [] = None
operand scope (form ∷ fs) = do
  o ← operand_of scope form
  Some (o.0, o.1, fs)

-- an operand of an operator
unfoldable pub factor : Scope → Forms → Option (Operand × Forms)
factor scope fs = do
  o ← operand scope fs
  if o.1 then None else Some (o.0, o.2)

-- the operands behind those of a product, with so many turns at most
unfoldable pub factors : ℕ → Scope → List Operand → Forms → Option (List Operand × Forms)
factors zero scope done fs = Some (done, fs)
factors (suc turns) scope done fs = option_map_or (λ after. do
  o ← factor scope after
  factors turns scope (done ++ o.0 ∷ []) o.1) (sign s.Times fs) (Some (done, fs))

-- a product, behind its first operand
unfoldable pub product_behind : Scope → Operand → Forms → Option (Product × Forms)
product_behind scope first fs = do
  r ← factors (length fs) scope [] fs
  Some (record { first = first; rest = r.0 }, r.1)

unfoldable pub product : Scope → Forms → Option (Product × Forms)
product scope fs = do
  o ← factor scope fs
  product_behind scope o.0 o.1

unfoldable pub addends : ℕ → Scope → List Addend → Forms → Option (List Addend × Forms)
addends zero scope done fs = Some (done, fs)
addends (suc turns) scope done fs = option_map_or (λ (m : Sign × Forms). do
  p ← product scope m.1
  addends turns scope (done ++ (record { sign = m.0; product = p.0 }) ∷ []) p.1) (plus_or_minus fs) (Some (done, fs))

-- a sum of numbers, behind its first operand
unfoldable pub sum_behind : Scope → Operand → Forms → Option (Sum × Forms)
sum_behind scope first fs = do
  p ← product_behind scope first fs
  a ← addends (length p.1) scope [] p.1
  Some (record { first = p.0; rest = a.0 }, a.1)

abbrev pub alone : Operand → Sum
alone operand = record { first = record { first = operand; rest = [] }; rest = [] }

unfoldable pub sum : Scope → Forms → Option (Sum × Bool × Forms)
sum scope fs = do
  o ← operand scope fs
  if o.1 then Some (alone o.0, true, o.2) else (do
    r ← sum_behind scope o.0 o.2
    Some (r.0, false, r.1))

unfoldable pub text_expression : Forms → Option (Expression × Bool × Forms)
text_expression fs = do
  t ← text fs
  Some (expressions.Text t.0, true, t.1)

unfoldable pub sum_expression : Scope → Forms → Option (Expression × Bool × Forms)
sum_expression scope fs = do
  r ← sum scope fs
  Some (expressions.Sum r.0, r.1, r.2)

unfoldable pub expression : Scope → Forms → Option (Expression × Bool × Forms)
expression scope fs = if begins_text fs then text_expression fs else sum_expression scope fs

-- ---- statements

unfoldable pub print_opening : Forms → Option Forms
print_opening fs = do
  a ← named (codes "print") fs
  sign s.OpenParen a

unfoldable pub print_closing : Forms → Option Forms
print_closing fs = do
  a ← sign s.CloseParen fs
  sign s.Semicolon a

unfoldable pub print_statement : Scope → Forms → Option (Statement × Scope × Forms)
print_statement scope fs = do
  a ← print_opening fs
  value ← expression scope a
  rest ← print_closing value.2
  Some (Print value.0, scope, rest)

unfoldable pub declaration_opening : Forms → Option (List ℕ × Forms)
declaration_opening fs = do
  a ← var_word fs
  n ← name a
  if may_name n.0 then (do
    rest ← sign s.Assign n.1
    Some (n.0, rest)) else None

unfoldable pub declaration : Scope → Forms → Option (Statement × Scope × Forms)
declaration scope fs = do
  n ← declaration_opening fs
  value ← expression scope n.1
  rest ← sign s.Semicolon value.2
  after ← declare n.0 value.1 scope
  Some (Declare n.0 value.0, after, rest)

unfoldable pub statement : Scope → Forms → Option (Statement × Scope × Forms)
statement scope fs = if begins_declaration fs then declaration scope fs else print_statement scope fs

-- ---- programs

unfoldable pub opening : Forms → Option Forms
opening fs = do
  a ← named (codes "main") fs
  b ← sign s.OpenParen a
  c ← sign s.CloseParen b
  sign s.OpenBrace c

-- nothing is behind the last token
abbrev pub closed : List Statement → Forms → Option (List Statement)
closed program [] = Some program
closed program (form ∷ fs) = None

unfoldable pub statements : ℕ → Scope → List Statement → Forms → Option (List Statement)
statements zero scope done fs = None
statements (suc turns) scope done fs = option_map_or (λ rest. closed done rest) (sign s.CloseBrace fs) (do
  r ← statement scope fs
  statements turns r.1 (done ++ r.0 ∷ []) r.2)

unfoldable pub read : Forms → Option (List Statement)
read fs = do
  rest ← opening fs
  statements (length rest) no_names [] rest
