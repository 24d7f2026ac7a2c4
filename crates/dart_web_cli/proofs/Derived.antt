-- First programs are files of the grammar: their tokens have a tree.
use Rattle.std.proofs.Common.{◌≡◌, ℕ, Bool, false, not, ◌&&◌, if◌then◌else◌, List, [], ◌∷◌, ◌++◌, get_or, refl, sym, ap, ◌∙◌, subst}
use Rattle.std.specs.Prelude.{codes}
use Rattle.dart_syntax.specs.declared.words.Word.TheVariants as w
use Rattle.dart_syntax.specs.declared.words.Sign.{Sign as Mark}
use Rattle.dart_syntax.specs.declared.words.Sign.TheVariants as s
use Rattle.dart_syntax.specs.declared.tokens.Form.{Form}
use Rattle.dart_syntax.specs.declared.tokens.Form.TheVariants as f
use Rattle.dart_grammar.specs.declared.trees.Span.{Span}
use Rattle.dart_grammar.specs.declared.trees.Name.{Name}
use Rattle.dart_grammar.specs.declared.trees.Operator.{Operator as TreeOperator}
use Rattle.dart_grammar.specs.declared.trees.Operator.TheVariants as o
use Rattle.dart_grammar.specs.declared.trees.Interpolation.{Interpolation}
use Rattle.dart_grammar.specs.declared.trees.Selector.{Selector}
use Rattle.dart_grammar.specs.declared.trees.Selector.TheVariants as l
use Rattle.dart_grammar.specs.declared.trees.Expr.{Expr, out-roll-Expr}
use Rattle.dart_grammar.specs.declared.trees.Expr.TheVariants as e
use Rattle.dart_grammar.specs.declared.trees.Head.{Head, out-Head, out-roll-Head}
use Rattle.dart_grammar.specs.declared.trees.Head.TheVariants as h
use Rattle.dart_grammar.specs.declared.trees.Body.TheOpen.{Expr-F, Head-F}
use Rattle.dart_grammar.specs.declared.trees.Stmt.{Stmt}
use Rattle.dart_grammar.specs.declared.kinds.Kind.TheVariants.{Untyped, Expression as OfExpression}
use Rattle.dart_grammar.specs.declared.declarations.FileTree.{FileTree}
use Rattle.dart_grammar.specs.Marks.{Tokens, token, word, sign, ident, is_text_open, next, same_sign, same_word}
use Rattle.dart_grammar.specs.Shapes.{kind_of, opens_function, parameters_end, parameter_name_end, metadata_end}
use Rattle.dart_grammar.specs.Trees.{span, name_of, chain_of, joined, has_none, is_super, is_super_at, is_super_head}
use Rattle.dart_grammar.specs.Grammar as gr
use Rattle.dart_grammar.specs.Grammar.{start, IsExpr, IsLevel, IsOperated, IsStmt, AreStmts}
use Rattle.dart_grammar.specs.Declarations as g
use Rattle.dart_grammar.specs.Declarations.{path_end, kind_of as declaration_kind, IsFile}
use Rattle.dart_meaning.specs.declared.program.Operand.{Operand}
use Rattle.dart_meaning.specs.declared.program.Operand.TheVariants.{Number, Variable}
use Rattle.dart_meaning.specs.declared.program.Product.{Product}
use Rattle.dart_meaning.specs.declared.program.Sign.{Sign}
use Rattle.dart_meaning.specs.declared.program.Sign.TheVariants.{Plus, Minus}
use Rattle.dart_meaning.specs.declared.program.Addend.{Addend}
use Rattle.dart_meaning.specs.declared.program.Expression.{Expression}
use Rattle.dart_meaning.specs.declared.program.Expression.TheVariants as expressions
use Rattle.dart_meaning.specs.declared.program.Statement.{Statement}
use Rattle.dart_meaning.specs.declared.program.Statement.TheVariants.{Print, Declare}
use Rattle.dart_meaning.specs.Program.{Names, Forms, forms_of, operand_form, factors_forms, product_forms, mark_of, addends_forms, expression_forms, statements_forms}
use Rattle.dart_web_cli.specs.RefusalLaws.{FirstProgramsAreFiles}

-- ---- tokens by their forms

-- a token of this form, and what stands behind it
record Front (form : Form) (more : Forms) (ts : Tokens) : Type 0 where
  at : Span
  rest : Tokens
  is : ts ≡ token form at ∷ rest
  more_is : forms_of rest ≡ more

front : (form : Form) (more : Forms) (ts : Tokens) → forms_of ts ≡ form ∷ more → Front form more ts
front form more [] e = absurd (let no : [] ≡ form ∷ more = e in cc no)
front form more (t ∷ ts) e =
    let both : t.form ∷ forms_of ts ≡ form ∷ more = e in
    let same : t.form ≡ form = cc both in
    record { at = span t.from t.to; rest = ts; is = ap (λ (x : Form). record { form = x; from = t.from; to = t.to } ∷ ts) same; more_is = cc both }

next_is : (test : Form → Bool) (form : Form) (more : Forms) (ts : Tokens) → forms_of ts ≡ form ∷ more → next test ts ≡ test form
next_is test form more ts e = let x = front form more ts e in ap (next test) x.is

-- ---- what is no `super`

head_ordinary : (a : Head) (xs : List Selector) → is_super_head (out-Head a) ≡ false → is_super (e.Chained (chain_of a xs)) ≡ false
unfolding is_super
head_ordinary a xs never =
    ap is_super (sym (e.rolls-Chained (chain_of a xs))) ∙ ap is_super_at (out-roll-Expr (Expr-F.Chained (chain_of a xs))) ∙ ap (λ (b : Bool). b && has_none xs) never

named_ordinary : (x : Name) (xs : List Selector) → is_super (e.Chained (chain_of (h.Named x) xs)) ≡ false
named_ordinary x xs = head_ordinary (h.Named x) xs (ap (λ (y : Head). is_super_head (out-Head y)) (sym (h.rolls-Named x)) ∙ ap is_super_head (out-roll-Head (Head-F.Named x)))

number_ordinary : (p : Span) (n : ℕ) → is_super (e.Chained (chain_of (h.Number p n) [])) ≡ false
number_ordinary p n = head_ordinary (h.Number p n) [] (ap (λ (y : Head). is_super_head (out-Head y)) (sym (h.rolls-Number p n)) ∙ ap is_super_head (out-roll-Head (Head-F.Number p n)))

texts_ordinary : (p : Span) (us : List ℕ) (ps : List Interpolation) → is_super (e.Chained (chain_of (h.Texts p us ps) [])) ≡ false
texts_ordinary p us ps = head_ordinary (h.Texts p us ps) [] (ap (λ (y : Head). is_super_head (out-Head y)) (sym (h.rolls-Texts p us ps)) ∙ ap is_super_head (out-roll-Head (Head-F.Texts p us ps)))

operated_ordinary : (p : Span) (x : TreeOperator) (a d : Expr) → is_super (e.Operated p x a d) ≡ false
unfolding is_super
operated_ordinary p x a d = ap is_super (sym (e.rolls-Operated p x a d)) ∙ ap is_super_at (out-roll-Expr (Expr-F.Operated p x a d))

-- ---- operands, products and sums

-- The tokens begin with an expression of this level, and what follows has these forms.
record Begins (n : ℕ) (more : Forms) (ts : Tokens) : Type 0 where
  a : Expr
  rest : Tokens
  derived : IsLevel n ts a rest
  ordinary : is_super a ≡ false
  more_is : forms_of rest ≡ more

-- The tokens go on with operators behind an operand.
record GoesOn (n : ℕ) (a : Expr) (more : Forms) (ts : Tokens) : Type 0 where
  d : Expr
  rest : Tokens
  derived : IsOperated n a ts d rest
  ordinary : is_super d ≡ false
  more_is : forms_of rest ≡ more

operand_begins : (names : Names) (x : Operand) (more : Forms) (ts : Tokens) → forms_of ts ≡ operand_form names x ∷ more → Begins 1 more ts
operand_begins names (Number n) more ts is =
    let x = front (f.Number n) more ts is in
    subst (Begins 1 more) (sym x.is) (record { a = e.Chained (chain_of (h.Number x.at n) []); rest = x.rest; derived = gr.unary (gr.chained gr.number gr.no_selectors); ordinary = number_ordinary x.at n; more_is = x.more_is })
operand_begins names (Variable k) more ts is =
    let x = front (f.Name (get_or names k [])) more ts is in
    let name : Name = name_of (get_or names k []) x.at in
    subst (Begins 1 more) (sym x.is) (record { a = e.Chained (chain_of (h.Named name) []); rest = x.rest; derived = gr.unary (gr.chained gr.named gr.no_selectors); ordinary = named_ordinary name []; more_is = x.more_is })

factors_go_on : (names : Names) (factors : List Operand) (more : Forms) (a : Expr) (ts : Tokens) → is_super a ≡ false → forms_of ts ≡ factors_forms names factors more → GoesOn 1 a more ts
factors_go_on names [] more a ts ordinary is = record { d = a; rest = ts; derived = gr.no_operator; ordinary = ordinary; more_is = is }
factors_go_on names (factor ∷ factors) more a ts ordinary is =
    let x = front (f.Sign s.Times) (operand_form names factor ∷ factors_forms names factors more) ts is in
    let y = operand_begins names factor (factors_forms names factors more) x.rest x.more_is in
    let z = factors_go_on names factors more (e.Operated (joined a y.a) o.Times a y.a) y.rest (operated_ordinary (joined a y.a) o.Times a y.a) y.more_is in
    subst (GoesOn 1 a more) (sym x.is) (record { d = z.d; rest = z.rest; derived = gr.chain refl refl refl y.derived (ap not y.ordinary) z.derived; ordinary = z.ordinary; more_is = z.more_is })

product_begins : (names : Names) (first : Operand) (factors : List Operand) (more : Forms) (ts : Tokens) → forms_of ts ≡ operand_form names first ∷ factors_forms names factors more → Begins 2 more ts
product_begins names first factors more ts is =
    let x = operand_begins names first (factors_forms names factors more) ts is in
    let y = factors_go_on names factors more x.a x.rest x.ordinary x.more_is in
    record { a = y.d; rest = y.rest; derived = gr.level x.derived y.derived; ordinary = y.ordinary; more_is = y.more_is }

-- a sign and a product, where the addends behind them go on
addend_goes_on : (names : Names) (x : Sign) (product : Product) (addends : List Addend) (more : Forms) (a : Expr) (ts : Tokens) → is_super a ≡ false
    → ((d : Expr) (rest : Tokens) → is_super d ≡ false → forms_of rest ≡ addends_forms names addends more → GoesOn 2 d more rest)
    → forms_of ts ≡ f.Sign (mark_of x) ∷ product_forms names product (addends_forms names addends more) → GoesOn 2 a more ts
addend_goes_on names Plus product addends more a ts ordinary later is =
    let i = front (f.Sign s.Plus) (product_forms names product (addends_forms names addends more)) ts is in
    let j = product_begins names product.first product.rest (addends_forms names addends more) i.rest i.more_is in
    let k = later (e.Operated (joined a j.a) o.Plus a j.a) j.rest (operated_ordinary (joined a j.a) o.Plus a j.a) j.more_is in
    subst (GoesOn 2 a more) (sym i.is) (record { d = k.d; rest = k.rest; derived = gr.chain refl refl refl j.derived (ap not j.ordinary) k.derived; ordinary = k.ordinary; more_is = k.more_is })
addend_goes_on names Minus product addends more a ts ordinary later is =
    let i = front (f.Sign s.Minus) (product_forms names product (addends_forms names addends more)) ts is in
    let j = product_begins names product.first product.rest (addends_forms names addends more) i.rest i.more_is in
    let k = later (e.Operated (joined a j.a) o.Minus a j.a) j.rest (operated_ordinary (joined a j.a) o.Minus a j.a) j.more_is in
    subst (GoesOn 2 a more) (sym i.is) (record { d = k.d; rest = k.rest; derived = gr.chain refl refl refl j.derived (ap not j.ordinary) k.derived; ordinary = k.ordinary; more_is = k.more_is })

addends_go_on : (names : Names) (addends : List Addend) (more : Forms) (a : Expr) (ts : Tokens) → is_super a ≡ false → forms_of ts ≡ addends_forms names addends more → GoesOn 2 a more ts
addends_go_on names [] more a ts ordinary is = record { d = a; rest = ts; derived = gr.no_operator; ordinary = ordinary; more_is = is }
addends_go_on names (addend ∷ addends) more a ts ordinary is =
    addend_goes_on names addend.sign addend.product addends more a ts ordinary (λ d rest plain same. addends_go_on names addends more d rest plain same) is

-- ---- expressions

-- The tokens begin with an expression, and what follows has these forms.
record BeginsExpr (more : Forms) (ts : Tokens) : Type 0 where
  a : Expr
  rest : Tokens
  derived : IsExpr ts a rest
  more_is : forms_of rest ≡ more

sum_is_expr : {a : Expr} {ts rest : Tokens} → IsLevel 3 ts a rest → is_super a ≡ false → IsExpr ts a rest
sum_is_expr l ordinary = gr.plain (gr.no_choice (gr.level (gr.level (gr.level (gr.level l gr.no_operator) gr.no_operator) gr.no_operator) gr.no_operator) ordinary)

unary_is_expr : {a : Expr} {ts rest : Tokens} → IsLevel 1 ts a rest → is_super a ≡ false → IsExpr ts a rest
unary_is_expr l ordinary = sum_is_expr (gr.level (gr.level l gr.no_operator) gr.no_operator) ordinary

text_begins : (us : List ℕ) (x : Mark) (more : Forms) (ts : Tokens) → forms_of ts ≡ f.TextOpen ∷ f.Piece us ∷ f.TextClose ∷ f.Sign x ∷ more → BeginsExpr (f.Sign x ∷ more) ts
text_begins us x more ts is =
    let i = front f.TextOpen (f.Piece us ∷ f.TextClose ∷ f.Sign x ∷ more) ts is in
    let j = front (f.Piece us) (f.TextClose ∷ f.Sign x ∷ more) i.rest i.more_is in
    let k = front f.TextClose (f.Sign x ∷ more) j.rest j.more_is in
    let whole : ts ≡ token f.TextOpen i.at ∷ token (f.Piece us) j.at ∷ token f.TextClose k.at ∷ k.rest =
    i.is ∙ ap (λ (r : Tokens). token f.TextOpen i.at ∷ r) (j.is ∙ ap (λ (r : Tokens). token (f.Piece us) j.at ∷ r) k.is) in
    let no_more = next_is is_text_open (f.Sign x) more k.rest k.more_is in
    let at : Span = span i.at.from k.at.to in
    subst (BeginsExpr (f.Sign x ∷ more)) (sym whole) (record {
      a = e.Chained (chain_of (h.Texts at us []) []);
      rest = k.rest;
      derived = unary_is_expr (gr.unary (gr.chained (gr.texts (gr.last_text (gr.text gr.close) no_more)) gr.no_selectors)) (texts_ordinary at us []);
      more_is = k.more_is;
    })

expression_begins : (names : Names) (value : Expression) (x : Mark) (more : Forms) (ts : Tokens) → forms_of ts ≡ expression_forms names value (f.Sign x ∷ more) → BeginsExpr (f.Sign x ∷ more) ts
expression_begins names (expressions.Text text) x more ts is = text_begins text x more ts is
expression_begins names (expressions.Sum sum) x more ts is =
    let i = product_begins names sum.first.first sum.first.rest (addends_forms names sum.rest (f.Sign x ∷ more)) ts is in
    let j = addends_go_on names sum.rest (f.Sign x ∷ more) i.a i.rest i.ordinary i.more_is in
    record { a = j.d; rest = j.rest; derived = sum_is_expr (gr.level i.derived j.derived) j.ordinary; more_is = j.more_is }

-- ---- what is printed stands in no parameters

opens_number : (n : ℕ) (p : Span) (ts : Tokens) → opens_function (token (f.Number n) p ∷ ts) ≡ false
unfolding opens_function parameters_end parameter_name_end metadata_end same_sign same_word
opens_number n p ts = refl

opens_text : (p : Span) (ts : Tokens) → opens_function (token f.TextOpen p ∷ ts) ≡ false
unfolding opens_function parameters_end parameter_name_end metadata_end same_sign same_word
opens_text p ts = refl

opens_factors : (x : List ℕ) (p q : Span) (ts : Tokens) → opens_function (ident x p ∷ sign s.Times q ∷ ts) ≡ false
unfolding opens_function parameters_end parameter_name_end metadata_end same_sign same_word
opens_factors x p q ts = refl

opens_plus : (x : List ℕ) (p q : Span) (ts : Tokens) → opens_function (ident x p ∷ sign s.Plus q ∷ ts) ≡ false
unfolding opens_function parameters_end parameter_name_end metadata_end same_sign same_word
opens_plus x p q ts = refl

opens_minus : (x : List ℕ) (p q : Span) (ts : Tokens) → opens_function (ident x p ∷ sign s.Minus q ∷ ts) ≡ false
unfolding opens_function parameters_end parameter_name_end metadata_end same_sign same_word
opens_minus x p q ts = refl

opens_name : (x : List ℕ) (p q r : Span) (ts : Tokens) → opens_function (ident x p ∷ sign s.CloseParen q ∷ sign s.Semicolon r ∷ ts) ≡ false
unfolding opens_function parameters_end parameter_name_end metadata_end same_sign same_word
opens_name x p q r ts = refl

-- a name, and the token behind it
record Named (x : List ℕ) (form : Form) (more : Forms) (ts : Tokens) : Type 0 where
  p : Span
  q : Span
  rest : Tokens
  is : ts ≡ ident x p ∷ token form q ∷ rest
  more_is : forms_of rest ≡ more

named : (x : List ℕ) (form : Form) (more : Forms) (ts : Tokens) → forms_of ts ≡ f.Name x ∷ form ∷ more → Named x form more ts
named x form more ts is =
    let i = front (f.Name x) (form ∷ more) ts is in
    let j = front form more i.rest i.more_is in
    record { p = i.at; q = j.at; rest = j.rest; is = i.is ∙ ap (λ (r : Tokens). ident x i.at ∷ r) j.is; more_is = j.more_is }

variable_opens : (names : Names) (x : List ℕ) (factors : List Operand) (addends : List Addend) (more : Forms) (ts : Tokens)
    → forms_of ts ≡ f.Name x ∷ factors_forms names factors (addends_forms names addends (f.Sign s.CloseParen ∷ f.Sign s.Semicolon ∷ more)) → opens_function ts ≡ false
variable_opens names x (factor ∷ factors) addends more ts is = let i = named x (f.Sign s.Times) _ ts is in ap opens_function i.is ∙ opens_factors x i.p i.q i.rest
variable_opens names x [] (addend ∷ addends) more ts is = by addend.sign is
  where
    by : (y : Sign) → forms_of ts ≡ f.Name x ∷ addends_forms names (record { sign = y; product = addend.product } ∷ addends) (f.Sign s.CloseParen ∷ f.Sign s.Semicolon ∷ more) → opens_function ts ≡ false
    by Plus is = let i = named x (f.Sign s.Plus) _ ts is in ap opens_function i.is ∙ opens_plus x i.p i.q i.rest
    by Minus is = let i = named x (f.Sign s.Minus) _ ts is in ap opens_function i.is ∙ opens_minus x i.p i.q i.rest
variable_opens names x [] [] more ts is =
    let i = named x (f.Sign s.CloseParen) (f.Sign s.Semicolon ∷ more) ts is in
    let j = front (f.Sign s.Semicolon) more i.rest i.more_is in
    ap opens_function (i.is ∙ ap (λ (r : Tokens). ident x i.p ∷ sign s.CloseParen i.q ∷ r) j.is) ∙ opens_name x i.p i.q j.at j.rest

operand_opens : (names : Names) (first : Operand) (factors : List Operand) (addends : List Addend) (more : Forms) (ts : Tokens)
    → forms_of ts ≡ operand_form names first ∷ factors_forms names factors (addends_forms names addends (f.Sign s.CloseParen ∷ f.Sign s.Semicolon ∷ more)) → opens_function ts ≡ false
operand_opens names (Number n) factors addends more ts is = let i = front (f.Number n) _ ts is in ap opens_function i.is ∙ opens_number n i.at i.rest
operand_opens names (Variable k) factors addends more ts is = variable_opens names (get_or names k []) factors addends more ts is

expression_opens : (names : Names) (value : Expression) (more : Forms) (ts : Tokens) → forms_of ts ≡ expression_forms names value (f.Sign s.CloseParen ∷ f.Sign s.Semicolon ∷ more) → opens_function ts ≡ false
expression_opens names (expressions.Text text) more ts is = let i = front f.TextOpen _ ts is in ap opens_function i.is ∙ opens_text i.at i.rest
expression_opens names (expressions.Sum sum) more ts is = operand_opens names sum.first.first sum.first.rest sum.rest more ts is

-- ---- statements

print_kind : (p q : Span) (ts : Tokens) → opens_function ts ≡ false → kind_of (ident (codes "print") p ∷ sign s.OpenParen q ∷ ts) ≡ OfExpression
unfolding kind_of same_sign same_word
print_kind p q ts never = ap (λ (b : Bool). if b then Untyped else OfExpression) never

print_is : {a : Expr} {p q r u : Span} {ts rest : Tokens} → opens_function ts ≡ false → IsExpr ts a (sign s.CloseParen r ∷ sign s.Semicolon u ∷ rest)
    → (x : Stmt) × IsStmt (ident (codes "print") p ∷ sign s.OpenParen q ∷ ts) x rest
unfolding same_sign
print_is {a = a} {p = p} {q = q} {r = r} {ts = ts} never d =
    (_, gr.evaluate (print_kind p q ts never) refl (unary_is_expr (gr.unary (gr.chained gr.named (gr.call (gr.arguments (gr.last_expr d)) gr.no_selectors))) (named_ordinary (name_of (codes "print") p) (l.Call (record { span = span q.from r.to; items = a ∷ [] }) ∷ []))))

declare_is : {name : List ℕ} {a : Expr} {p q r u : Span} {ts rest : Tokens} → IsExpr ts a (sign s.Semicolon u ∷ rest)
    → (x : Stmt) × IsStmt (word w.Var p ∷ ident name q ∷ sign s.Assign r ∷ ts) x rest
unfolding kind_of same_word
declare_is d = (_, gr.declare refl (gr.variables gr.var_lead (gr.last_declared (gr.value d))))

-- The tokens begin with a statement, and what follows has these forms.
record BeginsStmt (more : Forms) (ts : Tokens) : Type 0 where
  x : Stmt
  rest : Tokens
  derived : IsStmt ts x rest
  more_is : forms_of rest ≡ more

print_begins : (names : Names) (value : Expression) (more : Forms) (ts : Tokens)
    → forms_of ts ≡ f.Name (codes "print") ∷ f.Sign s.OpenParen ∷ expression_forms names value (f.Sign s.CloseParen ∷ f.Sign s.Semicolon ∷ more) → BeginsStmt more ts
print_begins names value more ts is =
    let i = named (codes "print") (f.Sign s.OpenParen) (expression_forms names value (f.Sign s.CloseParen ∷ f.Sign s.Semicolon ∷ more)) ts is in
    let v = expression_begins names value s.CloseParen (f.Sign s.Semicolon ∷ more) i.rest i.more_is in
    let j = front (f.Sign s.CloseParen) (f.Sign s.Semicolon ∷ more) v.rest v.more_is in
    let k = front (f.Sign s.Semicolon) more j.rest j.more_is in
    let behind : v.rest ≡ sign s.CloseParen j.at ∷ sign s.Semicolon k.at ∷ k.rest = j.is ∙ ap (λ (r : Tokens). sign s.CloseParen j.at ∷ r) k.is in
    let stmt = print_is {p = i.p} {q = i.q} (expression_opens names value more i.rest i.more_is) (subst (λ (r : Tokens). IsExpr i.rest v.a r) behind v.derived) in
    subst (BeginsStmt more) (sym i.is) (record { x = stmt.0; rest = k.rest; derived = stmt.1; more_is = k.more_is })

declare_begins : (names : Names) (name : List ℕ) (value : Expression) (more : Forms) (ts : Tokens)
    → forms_of ts ≡ f.Word w.Var ∷ f.Name name ∷ f.Sign s.Assign ∷ expression_forms names value (f.Sign s.Semicolon ∷ more) → BeginsStmt more ts
declare_begins names name value more ts is =
    let i = front (f.Word w.Var) (f.Name name ∷ f.Sign s.Assign ∷ expression_forms names value (f.Sign s.Semicolon ∷ more)) ts is in
    let j = named name (f.Sign s.Assign) (expression_forms names value (f.Sign s.Semicolon ∷ more)) i.rest i.more_is in
    let v = expression_begins names value s.Semicolon more j.rest j.more_is in
    let k = front (f.Sign s.Semicolon) more v.rest v.more_is in
    let stmt = declare_is {name = name} {p = i.at} {q = j.p} {r = j.q} (subst (λ (r : Tokens). IsExpr j.rest v.a r) k.is v.derived) in
    subst (BeginsStmt more) (sym (i.is ∙ ap (λ (r : Tokens). word w.Var i.at ∷ r) j.is)) (record { x = stmt.0; rest = k.rest; derived = stmt.1; more_is = k.more_is })

-- The tokens are statements and a `}`.
record AreAll (ts : Tokens) : Type 0 where
  xs : List Stmt
  p : Span
  derived : AreStmts ts xs (sign s.CloseBrace p ∷ [])

no_tokens : (ts : Tokens) → forms_of ts ≡ [] → ts ≡ []
no_tokens [] is = refl
no_tokens (t ∷ ts) is = absurd (let no : t.form ∷ forms_of ts ≡ [] = is in cc no)

statements_are : (names : Names) (program : List Statement) (ts : Tokens) → forms_of ts ≡ statements_forms names program → AreAll ts
statements_are names [] ts is =
    let i = front (f.Sign s.CloseBrace) [] ts is in
    let end : ts ≡ sign s.CloseBrace i.at ∷ [] = i.is ∙ ap (λ (r : Tokens). sign s.CloseBrace i.at ∷ r) (no_tokens i.rest i.more_is) in
    record { xs = []; p = i.at; derived = subst (λ (r : Tokens). AreStmts ts [] r) end gr.no_stmts }
statements_are names (Print value ∷ program) ts is =
    let i = print_begins names value (statements_forms names program) ts is in
    let j = statements_are names program i.rest i.more_is in
    record { xs = i.x ∷ j.xs; p = j.p; derived = gr.stmts i.derived j.derived }
statements_are names (Declare name value ∷ program) ts is =
    let i = declare_begins names name value (statements_forms (names ++ name ∷ []) program) ts is in
    let j = statements_are (names ++ name ∷ []) program i.rest i.more_is in
    record { xs = i.x ∷ j.xs; p = j.p; derived = gr.stmts i.derived j.derived }

-- ---- files

main_is : {xs : List Stmt} {p q r u v : Span} {ts : Tokens} → AreStmts ts xs (sign s.CloseBrace v ∷ [])
    → (tree : FileTree) × IsFile false (ident (codes "main") p ∷ sign s.OpenParen q ∷ sign s.CloseParen r ∷ sign s.OpenBrace u ∷ ts) tree
unfolding declaration_kind path_end metadata_end same_sign same_word
main_is d =
    let main = g.function (gr.no_result refl) gr.no_parameters (g.block (gr.braces d)) in
    (_, g.file (g.no_library refl) (g.no_imports refl) (g.declarations (g.function_declaration (gr.no_metadata refl) refl refl main) g.no_declarations))

pub first_programs_are_files : FirstProgramsAreFiles
first_programs_are_files tokens program is =
    let i = named (codes "main") (f.Sign s.OpenParen) (f.Sign s.CloseParen ∷ f.Sign s.OpenBrace ∷ statements_forms [] program) tokens is.spelled in
    let j = front (f.Sign s.CloseParen) (f.Sign s.OpenBrace ∷ statements_forms [] program) i.rest i.more_is in
    let k = front (f.Sign s.OpenBrace) (statements_forms [] program) j.rest j.more_is in
    let body = statements_are [] program k.rest k.more_is in
    let whole : tokens ≡ ident (codes "main") i.p ∷ sign s.OpenParen i.q ∷ sign s.CloseParen j.at ∷ sign s.OpenBrace k.at ∷ k.rest =
    i.is ∙ ap (λ (r : Tokens). ident (codes "main") i.p ∷ sign s.OpenParen i.q ∷ r) (j.is ∙ ap (λ (r : Tokens). sign s.CloseParen j.at ∷ r) k.is) in
    subst (λ (ts : Tokens). (tree : FileTree) × IsFile false ts tree) (sym whole) (main_is body.derived)
