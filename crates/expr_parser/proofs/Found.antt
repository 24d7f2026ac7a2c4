-- The parser and the grammar agree.
use Rattle.std.proofs.Common.{◌≡◌, suc, length, sym, ap, ◌∙◌, arith}
use Rattle.dart_grammar.specs.declared.trees.Expr.{Expr}
use Rattle.dart_grammar.specs.declared.trees.Stmt.{Stmt}
use Rattle.dart_grammar.specs.Marks.{Tokens, looseness}
use Rattle.dart_grammar.specs.Grammar.{IsExpr, IsStmt}
use Rattle.expr_parser.specs.Knot.{expr_at, stmt_at}
use Rattle.expr_parser.specs.ParsingLaws.{OneExpression, OneStatement, ExpressionsAreDerived, StatementsAreDerived, ExpressionsAreParsed, StatementsAreParsed}
use Rattle.expr_parser.proofs.Tools.{some_is, answered}
use Rattle.expr_parser.proofs.Sound.{all_sound}
use Rattle.expr_parser.proofs.Complete.{all_complete}

pub expressions_are_derived : ExpressionsAreDerived
expressions_are_derived n ts r a h = answered (λ (x : Expr × Tokens). IsExpr ts x.0 x.1 × (looseness x.1 ≡ 10)) (expr_at n ts) (a, r) ((all_sound n).expr ts) h

pub statements_are_derived : StatementsAreDerived
statements_are_derived n ts r a h = answered (λ (x : Stmt × Tokens). IsStmt ts x.0 x.1) (stmt_at n ts) (a, r) ((all_sound n).stmt ts) h

pub expressions_are_parsed : ExpressionsAreParsed
expressions_are_parsed ts r a d l = (all_complete (length ts)).expr d (omega arith) l

pub statements_are_parsed : StatementsAreParsed
statements_are_parsed ts r a d = (all_complete (suc (length ts))).stmt d (omega arith)

pub one_expression_here : OneExpression
one_expression_here ts r s a b d l e m =
    let same = some_is (a, r) (b, s) (sym (expressions_are_parsed ts r a d l) ∙ expressions_are_parsed ts s b e m) in
    (ap (λ (x : Expr × Tokens). x.0) same, ap (λ (x : Expr × Tokens). x.1) same)

pub one_statement_here : OneStatement
one_statement_here ts r s a b d e =
    let same = some_is (a, r) (b, s) (sym (statements_are_parsed ts r a d) ∙ statements_are_parsed ts s b e) in
    (ap (λ (x : Stmt × Tokens). x.0) same, ap (λ (x : Stmt × Tokens). x.1) same)
