-- Programs are read from their only spelling.
use Rattle.std.proofs.Common.{◌≡◌, ℕ, zero, suc, ◌<◌, ◌≤◌, Bool, true, false, cond, List, [], ◌∷◌, ◌++◌, length, Option, Some, None, Result, Ok, Err, refl, sym, ap, ◌∙◌, subst, arith, append_assoc}
use Rattle.std.specs.Prelude.{codes, IfOk, MatchOption}
use Rattle.std.proofs.lemmas.List.{append-nil}
use Rattle.dart_syntax.specs.declared.words.Word.TheVariants as w
use Rattle.dart_syntax.specs.declared.words.Sign.TheVariants as s
use Rattle.dart_syntax.specs.declared.tokens.Form.TheVariants as f
use Rattle.dart_syntax.specs.declared.tokens.Token.{Token}
use Rattle.dart_meaning.specs.declared.program.Expression.{Expression}
use Rattle.dart_meaning.specs.declared.program.Expression.TheVariants as expressions
use Rattle.dart_meaning.specs.declared.program.Statement.{Statement}
use Rattle.dart_meaning.specs.declared.program.Statement.TheVariants.{Print, Declare}
use Rattle.dart_meaning.specs.Program.{Forms, forms_of, Names, is_one_of, may_name, IsExpression, is_text, AreWellFormed, addends_forms, expression_forms, statements_forms, program_forms, IsProgram}
use Rattle.dart_meaning.specs.Meaning.{◌>>=◌}
use Rattle.dart_meaning.specs.Scope.{Scope, no_names, declare}
use Rattle.dart_meaning.specs.Reader.{same_mark, sign, plus_or_minus, name, named, begins_declaration, var_word, expression, print_opening, print_closing, print_statement, declaration_opening, declaration, statement, opening, closed, statements, read}
use Rattle.dart_meaning.proofs.Named.{Proper, proper_none, proper_after, declare_fresh, declares}
use Rattle.dart_meaning.proofs.Steps.{some_same, after, either}
use Rattle.dart_meaning.proofs.Taken.{takes_sign, gives_sign, takes_name, gives_name, takes_named, gives_named, gives_var}
use Rattle.dart_meaning.proofs.Expressions.{Ends, factors_some, addends_some, takes_expression, gives_expression}

-- ---- what ends an expression

ends_paren : (more : Forms) → Ends (f.Sign s.CloseParen ∷ more)
unfolding sign plus_or_minus same_mark
ends_paren more = record { times = refl; addend = refl }

ends_semicolon : (more : Forms) → Ends (f.Sign s.Semicolon ∷ more)
unfolding sign plus_or_minus same_mark
ends_semicolon more = record { times = refl; addend = refl }

-- ---- print ( value ) ;

print_opened : (fs a b : Forms) → named (codes "print") fs ≡ Some a → sign s.OpenParen a ≡ Some b → print_opening fs ≡ Some b
unfolding print_opening
print_opened fs a b ea eb = rw (ea, eb) refl

print_closed : (fs a b : Forms) → sign s.CloseParen fs ≡ Some a → sign s.Semicolon a ≡ Some b → print_closing fs ≡ Some b
unfolding print_closing
print_closed fs a b ea eb = rw (ea, eb) refl

print_found : (scope : Scope) (fs a b rest : Forms) (value : Expression) (kind : Bool) → print_opening fs ≡ Some a → expression scope a ≡ Some (value, kind, b) → print_closing b ≡ Some rest → print_statement scope fs ≡ Some (Print value, scope, rest)
unfolding print_statement
print_found scope fs a b rest value kind ea eb er = rw (ea, eb, er) refl

takes_print : (scope : Scope) (value : Expression) (more : Forms) → Proper scope → IsExpression scope.kinds value → print_statement scope (f.Name (codes "print") ∷ f.Sign s.OpenParen ∷ expression_forms scope.names value (f.Sign s.CloseParen ∷ f.Sign s.Semicolon ∷ more)) ≡ Some (Print value, scope, more)
takes_print scope value more p fine =
    let close : Forms = f.Sign s.CloseParen ∷ f.Sign s.Semicolon ∷ more in
    let inner : Forms = expression_forms scope.names value close in
    print_found scope (f.Name (codes "print") ∷ f.Sign s.OpenParen ∷ inner) inner close more value (is_text scope.kinds value)
    (print_opened _ (f.Sign s.OpenParen ∷ inner) inner (takes_named (codes "print") (f.Sign s.OpenParen ∷ inner)) (takes_sign s.OpenParen inner))
    (takes_expression scope value close p fine (ends_paren (f.Sign s.Semicolon ∷ more)))
    (print_closed close (f.Sign s.Semicolon ∷ more) more (takes_sign s.CloseParen (f.Sign s.Semicolon ∷ more)) (takes_sign s.Semicolon more))

gives_print_opening : (fs rest : Forms) → print_opening fs ≡ Some rest → fs ≡ f.Name (codes "print") ∷ f.Sign s.OpenParen ∷ rest
unfolding print_opening
gives_print_opening fs rest e =
    after (named (codes "print") fs) _ rest _ e (λ a ea e.
    gives_named (codes "print") fs a ea ∙ ap (λ (l : Forms). f.Name (codes "print") ∷ l) (gives_sign s.OpenParen a rest e))

gives_print_closing : (fs rest : Forms) → print_closing fs ≡ Some rest → fs ≡ f.Sign s.CloseParen ∷ f.Sign s.Semicolon ∷ rest
unfolding print_closing
gives_print_closing fs rest e =
    after (sign s.CloseParen fs) _ rest _ e (λ a ea e.
    gives_sign s.CloseParen fs a ea ∙ ap (λ (l : Forms). f.Sign s.CloseParen ∷ l) (gives_sign s.Semicolon a rest e))

-- what a statement that was read says
record GivesStatement (scope : Scope) (got : Statement × Scope × Forms) (fs : Forms) : Type 0 where
  proper : Proper got.1
  is : (program : List Statement) → got.2 ≡ statements_forms got.1.names program → fs ≡ statements_forms scope.names (got.0 ∷ program)
  fine : (program : List Statement) → AreWellFormed got.1.kinds got.1.names program → AreWellFormed scope.kinds scope.names (got.0 ∷ program)

gives_print : (scope : Scope) (got : Statement × Scope × Forms) (fs : Forms) → Proper scope → print_statement scope fs ≡ Some got → GivesStatement scope got fs
unfolding print_statement
gives_print scope got fs p e =
    after (print_opening fs) _ got _ e (λ a ea e.
    after (expression scope a) _ got _ e (λ value ev e.
    after (print_closing value.2) _ got _ e (λ rest er e.
    let g = gives_expression scope value a p ev in
    let it : GivesStatement scope (Print value.0, scope, rest) fs = record {
      proper = p;
      is = λ program same.
          gives_print_opening fs a ea
          ∙ ap (λ (l : Forms). f.Name (codes "print") ∷ f.Sign s.OpenParen ∷ l) (g.is ∙ ap (expression_forms scope.names value.0) (gives_print_closing value.2 rest er ∙ ap (λ (l : Forms). f.Sign s.CloseParen ∷ f.Sign s.Semicolon ∷ l) same));
      fine = λ program well. (g.fine, well);
    } in
    subst (λ (g : Statement × Scope × Forms). GivesStatement scope g fs) (some_same (Print value.0, scope, rest) got e) it)))

-- ---- var name = value ;

var_taken : (more : Forms) → var_word (f.Word w.Var ∷ more) ≡ Some more
unfolding var_word
var_taken more = refl

opening_found : (fs a b c : Forms) (text : List ℕ) → var_word fs ≡ Some a → name a ≡ Some (text, b) → may_name text ≡ true → sign s.Assign b ≡ Some c → declaration_opening fs ≡ Some (text, c)
unfolding declaration_opening
opening_found fs a b c text ea eb may ec = rw (ea, eb, may, ec) refl

declaration_found : (scope behind : Scope) (fs a b rest : Forms) (text : List ℕ) (value : Expression) (kind : Bool) → declaration_opening fs ≡ Some (text, a) → expression scope a ≡ Some (value, kind, b) → sign s.Semicolon b ≡ Some rest → declare text kind scope ≡ Some behind → declaration scope fs ≡ Some (Declare text value, behind, rest)
unfolding declaration
declaration_found scope behind fs a b rest text value kind ea eb er ed = rw (ea, eb, er, ed) refl

takes_declaration : (scope : Scope) (text : List ℕ) (value : Expression) (more : Forms) → Proper scope → may_name text ≡ true → is_one_of text scope.names ≡ false → IsExpression scope.kinds value → declaration scope (f.Word w.Var ∷ f.Name text ∷ f.Sign s.Assign ∷ expression_forms scope.names value (f.Sign s.Semicolon ∷ more)) ≡ Some (Declare text value, record { names = scope.names ++ text ∷ []; kinds = scope.kinds ++ is_text scope.kinds value ∷ [] }, more)
takes_declaration scope text value more p may fresh fine =
    let close : Forms = f.Sign s.Semicolon ∷ more in
    let inner : Forms = expression_forms scope.names value close in
    let named : Forms = f.Name text ∷ f.Sign s.Assign ∷ inner in
    declaration_found scope _ (f.Word w.Var ∷ named) inner close more text value (is_text scope.kinds value)
    (opening_found (f.Word w.Var ∷ named) named (f.Sign s.Assign ∷ inner) inner text (var_taken named) (takes_name text (f.Sign s.Assign ∷ inner)) may (takes_sign s.Assign inner))
    (takes_expression scope value close p fine (ends_semicolon more))
    (takes_sign s.Semicolon more)
    (declare_fresh scope text (is_text scope.kinds value) fresh)

record GivesOpening (got : List ℕ × Forms) (fs : Forms) : Type 0 where
  may : may_name got.0 ≡ true
  is : fs ≡ f.Word w.Var ∷ f.Name got.0 ∷ f.Sign s.Assign ∷ got.1

name_opening : (n got : List ℕ × Forms) (fs : Forms) (t : Bool) → may_name n.0 ≡ t → fs ≡ f.Word w.Var ∷ f.Name n.0 ∷ n.1 → cond t (sign s.Assign n.1 >>= (λ rest. Some (n.0, rest))) None ≡ Some got → GivesOpening got fs
name_opening n got fs false may is e = cc
name_opening n got fs true may is e =
    after (sign s.Assign n.1) _ got _ e (λ rest er e.
    let it : GivesOpening (n.0, rest) fs = record { may = may; is = is ∙ ap (λ (l : Forms). f.Word w.Var ∷ f.Name n.0 ∷ l) (gives_sign s.Assign n.1 rest er) } in
    subst (λ (g : List ℕ × Forms). GivesOpening g fs) (some_same (n.0, rest) got e) it)

gives_opening : (got : List ℕ × Forms) (fs : Forms) → declaration_opening fs ≡ Some got → GivesOpening got fs
unfolding declaration_opening
gives_opening got fs e =
    after (var_word fs) _ got _ e (λ a ea e.
    after (name a) _ got _ e (λ n en e.
    name_opening n got fs (may_name n.0) refl (gives_var fs a ea ∙ ap (λ (l : Forms). f.Word w.Var ∷ l) (gives_name n a en)) e))

gives_declaration : (scope : Scope) (got : Statement × Scope × Forms) (fs : Forms) → Proper scope → declaration scope fs ≡ Some got → GivesStatement scope got fs
unfolding declaration
gives_declaration scope got fs p e =
    after (declaration_opening fs) _ got _ e (λ n en e.
    after (expression scope n.1) _ got _ e (λ value ev e.
    after (sign s.Semicolon value.2) _ got _ e (λ rest er e.
    after (declare n.0 value.1 scope) _ got _ e (λ behind ed e.
    let o = gives_opening n fs en in
    let g = gives_expression scope value n.1 p ev in
    let d = declares scope behind n.0 value.1 ed in
    let same : behind ≡ record { names = scope.names ++ n.0 ∷ []; kinds = scope.kinds ++ is_text scope.kinds value.0 ∷ [] } =
    d.is ∙ ap (λ k. record { names = scope.names ++ n.0 ∷ []; kinds = scope.kinds ++ k ∷ [] }) (sym g.kind) in
    let it : GivesStatement scope (Declare n.0 value.0, behind, rest) fs = record {
      proper = proper_after scope behind n.0 value.1 p d;
      is = λ program are.
          o.is
          ∙ ap (λ (l : Forms). f.Word w.Var ∷ f.Name n.0 ∷ f.Sign s.Assign ∷ l) (g.is ∙ ap (expression_forms scope.names value.0) (gives_sign s.Semicolon value.2 rest er ∙ ap (λ (l : Forms). f.Sign s.Semicolon ∷ l) (are ∙ ap (λ (b : Scope). statements_forms b.names program) same)));
      fine = λ program well. (o.may, d.fresh, g.fine, subst (λ (b : Scope). AreWellFormed b.kinds b.names program) same well);
    } in
    subst (λ (g : Statement × Scope × Forms). GivesStatement scope g fs) (some_same (Declare n.0 value.0, behind, rest) got e) it))))

-- ---- statements

is_print : (scope : Scope) (text : List ℕ) (more : Forms) → statement scope (f.Name text ∷ more) ≡ print_statement scope (f.Name text ∷ more)
unfolding statement
is_print scope text more = refl

is_declaration : (scope : Scope) (more : Forms) → statement scope (f.Word w.Var ∷ more) ≡ declaration scope (f.Word w.Var ∷ more)
unfolding statement
is_declaration scope more = refl

gives_statement : (scope : Scope) (got : Statement × Scope × Forms) (fs : Forms) → Proper scope → statement scope fs ≡ Some got → GivesStatement scope got fs
unfolding statement
gives_statement scope got fs p e = by (begins_declaration fs) e where
  by : (t : Bool) → cond t (declaration scope fs) (print_statement scope fs) ≡ Some got → GivesStatement scope got fs
  by true e = gives_declaration scope got fs p e
  by false e = gives_print scope got fs p e

expression_long : (names : Names) (value : Expression) (more : Forms) → length more ≤ length (expression_forms names value more)
expression_long names (expressions.Text text) more = omega arith
expression_long names (expressions.Sum x) more = omega (arith, factors_some names x.first.rest (addends_forms names x.rest more), addends_some names x.rest more)

statements_long : (names : Names) (program : List Statement) → length program < length (statements_forms names program)
statements_long names [] = omega arith
statements_long names (Print value ∷ program) = omega (arith, expression_long names value (f.Sign s.CloseParen ∷ f.Sign s.Semicolon ∷ statements_forms names program), statements_long names program)
statements_long names (Declare name value ∷ program) = omega (arith, expression_long names value (f.Sign s.Semicolon ∷ statements_forms (names ++ name ∷ []) program), statements_long (names ++ name ∷ []) program)

last : (turns : ℕ) (scope : Scope) (done : List Statement) → statements (suc turns) scope done (f.Sign s.CloseBrace ∷ []) ≡ Some done
unfolding statements
last turns scope done = rw (takes_sign s.CloseBrace []) refl

next : (turns : ℕ) (scope behind : Scope) (done : List Statement) (fs rest : Forms) (x : Statement) → sign s.CloseBrace fs ≡ None → statement scope fs ≡ Some (x, behind, rest) → statements (suc turns) scope done fs ≡ statements turns behind (done ++ x ∷ []) rest
unfolding statements
next turns scope behind done fs rest x none e = rw (none, e) refl

name_no_brace : (text : List ℕ) (more : Forms) → sign s.CloseBrace (f.Name text ∷ more) ≡ None
unfolding sign
name_no_brace text more = refl

var_no_brace : (more : Forms) → sign s.CloseBrace (f.Word w.Var ∷ more) ≡ None
unfolding sign
var_no_brace more = refl

takes_statements : (program : List Statement) (scope : Scope) (turns : ℕ) (done : List Statement) → Proper scope → AreWellFormed scope.kinds scope.names program → length program < turns → statements turns scope done (statements_forms scope.names program) ≡ Some (done ++ program)
takes_statements program scope zero done p well lt = absurd (let never : ⊥ = omega (arith, lt) in never)
takes_statements [] scope (suc turns) done p well lt = last turns scope done ∙ ap Some (sym (append-nil done))
takes_statements (Print value ∷ program) scope (suc turns) done p well lt =
    let rest : Forms = statements_forms scope.names program in
    next turns scope scope done _ rest (Print value) (name_no_brace (codes "print") _) (is_print scope (codes "print") _ ∙ takes_print scope value rest p well.0)
    ∙ takes_statements program scope turns (done ++ Print value ∷ []) p well.1 (omega (arith, lt))
    ∙ ap Some (append_assoc done (Print value ∷ []) program)
takes_statements (Declare name value ∷ program) scope (suc turns) done p well lt =
    let grown : Scope = record { names = scope.names ++ name ∷ []; kinds = scope.kinds ++ is_text scope.kinds value ∷ [] } in
    let rest : Forms = statements_forms grown.names program in
    let q : Proper grown = proper_after scope grown name (is_text scope.kinds value) p (record { fresh = well.1; is = refl }) in
    next turns scope grown done _ rest (Declare name value) (var_no_brace _) (is_declaration scope _ ∙ takes_declaration scope name value rest p well.0 well.1 well.2)
    ∙ takes_statements program grown turns (done ++ Declare name value ∷ []) q well.3 (omega (arith, lt))
    ∙ ap Some (append_assoc done (Declare name value ∷ []) program)

record GivesStatements (scope : Scope) (done program : List Statement) (fs : Forms) : Type 0 where
  more : List Statement
  all : program ≡ done ++ more
  well : AreWellFormed scope.kinds scope.names more
  is : fs ≡ statements_forms scope.names more

closed_is : (done program : List Statement) (rest : Forms) → closed done rest ≡ Some program → (rest ≡ []) × (done ≡ program)
closed_is done program [] e = (refl, cc)
closed_is done program (form ∷ rest) e = cc

gives_statements : (turns : ℕ) (scope : Scope) (done program : List Statement) (fs : Forms) → Proper scope → statements turns scope done fs ≡ Some program → GivesStatements scope done program fs
unfolding statements
gives_statements zero scope done program fs p e = cc
gives_statements (suc turns) scope done program fs p e =
    either (sign s.CloseBrace fs) _ _ program _ e
    (λ rest er e.
    let c = closed_is done program rest e in
    record { more = []; all = sym c.1 ∙ sym (append-nil done); well = tt; is = gives_sign s.CloseBrace fs rest er ∙ ap (λ (l : Forms). f.Sign s.CloseBrace ∷ l) c.0 })
    (λ none e. after (statement scope fs) _ program _ e (λ x ex e.
    let g = gives_statement scope x fs p ex in
    let r = gives_statements turns x.1 (done ++ x.0 ∷ []) program x.2 g.proper e in
    record { more = x.0 ∷ r.more; all = r.all ∙ append_assoc done (x.0 ∷ []) r.more; well = g.fine r.more r.well; is = g.is r.more r.is }))

-- ---- main ( ) { statements }

main_found : (fs a b c rest : Forms) → named (codes "main") fs ≡ Some a → sign s.OpenParen a ≡ Some b → sign s.CloseParen b ≡ Some c → sign s.OpenBrace c ≡ Some rest → opening fs ≡ Some rest
unfolding opening
main_found fs a b c rest ea eb ec er = rw (ea, eb, ec, er) refl

takes_main : (more : Forms) → opening (f.Name (codes "main") ∷ f.Sign s.OpenParen ∷ f.Sign s.CloseParen ∷ f.Sign s.OpenBrace ∷ more) ≡ Some more
takes_main more =
    main_found _ (f.Sign s.OpenParen ∷ f.Sign s.CloseParen ∷ f.Sign s.OpenBrace ∷ more) (f.Sign s.CloseParen ∷ f.Sign s.OpenBrace ∷ more) (f.Sign s.OpenBrace ∷ more) more
    (takes_named (codes "main") _) (takes_sign s.OpenParen _) (takes_sign s.CloseParen _) (takes_sign s.OpenBrace more)

gives_main : (fs rest : Forms) → opening fs ≡ Some rest → fs ≡ f.Name (codes "main") ∷ f.Sign s.OpenParen ∷ f.Sign s.CloseParen ∷ f.Sign s.OpenBrace ∷ rest
unfolding opening
gives_main fs rest e =
    after (named (codes "main") fs) _ rest _ e (λ a ea e.
    after (sign s.OpenParen a) _ rest _ e (λ b eb e.
    after (sign s.CloseParen b) _ rest _ e (λ c ec e.
    gives_named (codes "main") fs a ea
    ∙ ap (λ (l : Forms). f.Name (codes "main") ∷ l) (gives_sign s.OpenParen a b eb
    ∙ ap (λ (l : Forms). f.Sign s.OpenParen ∷ l) (gives_sign s.CloseParen b c ec
    ∙ ap (λ (l : Forms). f.Sign s.CloseParen ∷ l) (gives_sign s.OpenBrace c rest e))))))

opened : (fs rest : Forms) → opening fs ≡ Some rest → read fs ≡ statements (length rest) no_names [] rest
unfolding read
opened fs rest e = rw e refl

forms_are_read : (program : List Statement) → AreWellFormed [] [] program → read (program_forms program) ≡ Some program
forms_are_read program well =
    let rest : Forms = statements_forms [] program in
    opened (program_forms program) rest (takes_main rest) ∙ takes_statements program no_names (length rest) [] proper_none well (statements_long [] program)

pub program_is_read : (tokens : List Token) (program : List Statement) → IsProgram tokens program → read (forms_of tokens) ≡ Some program
program_is_read tokens program is = ap read is.spelled ∙ forms_are_read program is.well_formed

pub read_is_program : (tokens : List Token) (program : List Statement) → read (forms_of tokens) ≡ Some program → IsProgram tokens program
unfolding read
read_is_program tokens program e =
    after (opening (forms_of tokens)) _ program _ e (λ rest er e.
    let r = gives_statements (length rest) no_names [] program rest proper_none e in
    let it : IsProgram tokens r.more = record {
      spelled = gives_main (forms_of tokens) rest er ∙ ap (λ (l : Forms). f.Name (codes "main") ∷ f.Sign s.OpenParen ∷ f.Sign s.CloseParen ∷ f.Sign s.OpenBrace ∷ l) r.is;
      well_formed = r.well;
    } in
    subst (IsProgram tokens) (sym r.all) it)

pub one_program : (tokens : List Token) (program other : List Statement) → IsProgram tokens program → IsProgram tokens other → program ≡ other
one_program tokens program other p q = some_same program other (sym (program_is_read tokens program p) ∙ program_is_read tokens other q)

-- ---- what the reader's answer says of the tokens

exact_of : (tokens : List Token) (found : Option (List Statement)) → found ≡ read (forms_of tokens) → MatchOption found ((p : List Statement) → IsProgram tokens p → ⊥) (IsProgram tokens)
exact_of tokens None e = λ p is. let both : None ≡ Some p = e ∙ program_is_read tokens p is in cc
exact_of tokens (Some program) e = read_is_program tokens program (sym e)

pub exact_program : {E : Type 0} (tokens : List Token) (r : Result (Option (List Statement)) E) → IfOk r (λ found. found ≡ read (forms_of tokens)) → IfOk r (λ found. MatchOption found ((p : List Statement) → IsProgram tokens p → ⊥) (IsProgram tokens))
exact_program tokens (Ok found) e = exact_of tokens found e
exact_program tokens (Err fault) e = tt

pub only_program : {E : Type 0} (tokens : List Token) (r : Result (Option (List Statement)) E) → IfOk r (λ found. found ≡ read (forms_of tokens)) → IfOk r (λ found. (p : List Statement) → IsProgram tokens p → found ≡ Some p)
only_program tokens (Ok found) e = λ p is. e ∙ program_is_read tokens p is
only_program tokens (Err fault) e = tt

pub found_program : (tokens : List Token) (found : Option (List Statement)) (p q : List Statement) → MatchOption found ((p : List Statement) → IsProgram tokens p → ⊥) (IsProgram tokens) → found ≡ Some p → q ≡ p → IsProgram tokens q
found_program tokens found p q exact is same = subst (IsProgram tokens) (sym same) (subst (λ o. MatchOption o ((p : List Statement) → IsProgram tokens p → ⊥) (IsProgram tokens)) is exact)
