-- What a derivation begins with.
use Rattle.std.proofs.Common.{◌≡◌, ℕ, Bool, true, false, List, [], ◌∷◌, Option, Some, refl, ap, ◌∙◌}
use Rattle.dart_syntax.specs.declared.words.Word.{Word}
use Rattle.dart_syntax.specs.declared.words.Word.TheVariants as w
use Rattle.dart_syntax.specs.declared.words.Sign.{Sign}
use Rattle.dart_syntax.specs.declared.words.Sign.TheVariants as s
use Rattle.dart_syntax.specs.declared.tokens.Form.{Form}
use Rattle.dart_syntax.specs.declared.tokens.Form.TheVariants as f
use Rattle.dart_grammar.specs.declared.trees.PrefixOperator.{PrefixOperator}
use Rattle.dart_grammar.specs.declared.trees.Step.{Step}
use Rattle.dart_grammar.specs.declared.trees.Expr.{Expr}
use Rattle.dart_grammar.specs.declared.trees.Head.{Head}
use Rattle.dart_grammar.specs.declared.trees.Target.{Target}
use Rattle.dart_grammar.specs.declared.trees.Stmt.{Stmt}
use Rattle.dart_grammar.specs.declared.trees.Entry.{Entry}
use Rattle.dart_grammar.specs.declared.trees.Interpolation.{Interpolation}
use Rattle.dart_grammar.specs.declared.trees.Parameter.{Parameter}
use Rattle.dart_grammar.specs.declared.trees.Span.{Span}
use Rattle.dart_grammar.specs.Marks.{Tokens, ident, same_sign, same_word, is_word, is_sign, next, next_word, next_sign, prefix_of, step_of}
use Rattle.dart_grammar.specs.Grammar as g
use Rattle.dart_grammar.specs.Grammar.{IsType, AreTypeArguments, MayHaveTypeArguments, IsExpr, IsConditional, IsLevel, IsUnary, IsTarget, IsHead, AreExprs, AreEntries, AreTexts, IsText, IsParameter, IsMetadata, MayBeFinal, MayHaveResult, MayHaveThis, IsLead, IsStmt}
use Rattle.expr_parser.proofs.TypesComplete.{type_first, name_no_sign}
use Rattle.expr_parser.proofs.Tools.{is_sign-true}

-- ---- expressions: signs, words and forms that begin one, but for `throw`

abbrev pub sign_begins : Sign → Bool
sign_begins s.OpenParen = true
sign_begins s.OpenBracket = true
sign_begins s.OpenBrace = true
sign_begins s.Less = true
sign_begins s.Minus = true
sign_begins s.Not = true
sign_begins s.Increment = true
sign_begins s.Decrement = true
sign_begins _ = false

abbrev pub word_begins : Word → Bool
word_begins w.This = true
word_begins w.Super = true
word_begins w.Null = true
word_begins w.True = true
word_begins w.False = true
word_begins w.New = true
word_begins _ = false

abbrev pub begins : Form → Bool
begins (f.Name x) = true
begins (f.Word x) = word_begins x
begins (f.Number n) = true
begins (f.Sign x) = sign_begins x
begins f.TextOpen = true
begins _ = false

arguments_first : {ts rest : Tokens} {j : ℕ} → AreTypeArguments ts j rest → next begins ts ≡ true
arguments_first (g.type_arguments t) = refl

text_first : {ts rest : Tokens} {us : List ℕ} {ps : List Interpolation} {j : ℕ} → IsText ts us ps j rest → next begins ts ≡ true
text_first (g.text d) = refl

texts_first : {ts rest : Tokens} {us : List ℕ} {ps : List Interpolation} {j : ℕ} → AreTexts ts us ps j rest → next begins ts ≡ true
texts_first (g.last_text d n) = text_first d
texts_first (g.more_texts d m) = text_first d

list_first : {ts mid : Tokens} → MayHaveTypeArguments ts mid → next begins mid ≡ true → next begins ts ≡ true
list_first (g.has_none n) h = h
list_first (g.has_some a) h = arguments_first a

pub head_first : {ts rest : Tokens} {a : Head} → IsHead ts a rest → next begins ts ≡ true
head_first g.named = refl
head_first g.this = refl
head_first (g.super n) = refl
head_first g.null = refl
head_first g.true' = refl
head_first g.false' = refl
head_first g.number = refl
head_first (g.texts d) = texts_first d
head_first (g.new n d) = refl
head_first (g.parenthesised o d) = refl
head_first (g.literal o k d) = refl
head_first (g.no_items m) = list_first m refl
head_first (g.list m d k) = list_first m refl
head_first (g.no_entries m) = list_first m refl
head_first (g.map m d k) = list_first m refl

pub target_first : {ts rest : Tokens} {a : Target} → IsTarget ts a rest → next begins ts ≡ true
target_first g.bare = refl
target_first (g.member_of d k) = head_first d
target_first (g.index_of d k i) = head_first d

prefix_begins : (x : Sign) (o : PrefixOperator) → prefix_of x ≡ Some o → sign_begins x ≡ true
prefix_begins s.Minus o h = refl
prefix_begins s.Not o h = refl
prefix_begins _ o h = absurd cc

step_begins : (x : Sign) (o : Step) → step_of x ≡ Some o → sign_begins x ≡ true
step_begins s.Increment o h = refl
step_begins s.Decrement o h = refl
step_begins _ o h = absurd cc

unary_first : {ts rest : Tokens} {a : Expr} → IsUnary ts a rest → next begins ts ≡ true
unary_first (g.prefixed {x = x} {o = o} h d n) = prefix_begins x o h
unary_first (g.step_before {x = x} {o = o} h d) = step_begins x o h
unary_first (g.step_behind d h) = target_first d
unary_first (g.chained d k) = head_first d

level_first : {n : ℕ} {ts rest : Tokens} {a : Expr} → IsLevel n ts a rest → next begins ts ≡ true
level_first (g.unary d) = unary_first d
level_first (g.level d o) = level_first d

pub conditional_first : {ts rest : Tokens} {a : Expr} → IsConditional ts a rest → next begins ts ≡ true
conditional_first (g.no_choice d n) = level_first d
conditional_first (g.choice d n x y) = level_first d

-- what begins no expression
pub no_throw : (ts : Tokens) → next begins ts ≡ true → next_word w.Throw ts ≡ false
unfolding same_word
no_throw [] h = absurd cc
no_throw (t ∷ ts) h = go t.form h
  where
    word : (x : Word) → word_begins x ≡ true → is_word w.Throw (f.Word x) ≡ false
    word w.Throw e = absurd cc
    word _ e = refl

    go : (form : Form) → begins form ≡ true → is_word w.Throw form ≡ false
    go (f.Word x) e = word x e
    go _ e = refl

no_sign : (x : Sign) → sign_begins x ≡ false → (ts : Tokens) → next begins ts ≡ true → next_sign x ts ≡ false
no_sign x n [] h = absurd cc
no_sign x n (t ∷ ts) h = go (next_sign x (t ∷ ts)) refl
  where
    go : (b : Bool) → is_sign x t.form ≡ b → b ≡ false
    go false e = refl
    go true e = let same = is_sign-true x t.form e in absurd (let other : begins (f.Sign x) ≡ true = ap begins same ∙ h in cc)

pub expr_no_sign : (x : Sign) → sign_begins x ≡ false → {ts rest : Tokens} {a : Expr} → IsExpr ts a rest → next_sign x ts ≡ false
expr_no_sign x n (g.assigned {ts = ts} d h v) = no_sign x n ts (target_first d)
expr_no_sign x n (g.throw' d) = refl
expr_no_sign x n (g.plain {ts = ts} d) = no_sign x n ts (conditional_first d)

pub exprs_no_sign : (x : Sign) → sign_begins x ≡ false → {ts rest : Tokens} {xs : List Expr} → AreExprs ts xs rest → next_sign x ts ≡ false
exprs_no_sign x n (g.last_expr d) = expr_no_sign x n d
exprs_no_sign x n (g.more_exprs d m) = expr_no_sign x n d

pub entries_no_sign : (x : Sign) → sign_begins x ≡ false → {ts rest : Tokens} {xs : List Entry} → AreEntries ts xs rest → next_sign x ts ≡ false
entries_no_sign x n (g.last_entry d v) = expr_no_sign x n d
entries_no_sign x n (g.more_entries d v m) = expr_no_sign x n d

-- ---- parameters

abbrev No : Tokens → Type 0
No ts = (next_sign s.OpenBracket ts ≡ false) × (next_sign s.CloseParen ts ≡ false)

this_first : {ts rest : Tokens} {p : Option Span} {x : List ℕ} {q : Span} → MayHaveThis ts p (ident x q ∷ rest) → No ts
this_first (g.no_this n) = (refl, refl)
this_first g.has_this = (refl, refl)

result_first : {ts mid : Tokens} → MayHaveResult ts mid → No mid → No ts
result_first (g.no_result n) h = h
result_first g.void_result h = (refl, refl)
result_first (g.type_result {ts = ts} v b d) h = let n = type_first d in (name_no_sign s.OpenBracket ts n, name_no_sign s.CloseParen ts n)

final_first : {ts mid : Tokens} {b : Bool} → MayBeFinal ts b mid → No mid → No ts
final_first (g.neither v n) h = h
final_first g.var h = (refl, refl)
final_first g.final h = (refl, refl)

metadata_first : {ts mid : Tokens} → IsMetadata ts mid → No mid → No ts
unfolding same_sign
metadata_first (g.no_metadata n) h = h
metadata_first (g.metadata x a m) h = (refl, refl)

pub parameter_first : {ts rest : Tokens} {x : Parameter} → IsParameter ts x rest → No ts
parameter_first (g.parameter m q r t k) = metadata_first m (final_first q (result_first r (this_first t)))

-- ---- statements

pub result_no_sign : (z : Sign) {ts rest : Tokens} {x : List ℕ} {p : Span} → MayHaveResult ts (ident x p ∷ rest) → next_sign z ts ≡ false
result_no_sign z (g.no_result n) = refl
result_no_sign z g.void_result = refl
result_no_sign z (g.type_result {ts = ts} v b d) = name_no_sign z ts (type_first d)

pub lead_no_sign : (z : Sign) {ts rest : Tokens} {b : Bool} → IsLead ts b rest → next_sign z ts ≡ false
lead_no_sign z g.var_lead = refl
lead_no_sign z (g.final_lead v d) = refl
lead_no_sign z (g.const_lead v d) = refl
lead_no_sign z (g.type_lead {ts = ts} d) = name_no_sign z ts (type_first d)

pub stmt_no_close : {ts rest : Tokens} {x : Stmt} → IsStmt ts x rest → next_sign s.CloseBrace ts ≡ false
unfolding same_sign
stmt_no_close (g.nested_block (g.braces d)) = refl
stmt_no_close (g.declare k (g.variables l m)) = lead_no_sign s.CloseBrace l
stmt_no_close (g.typed_function k r d e) = result_no_sign s.CloseBrace r
stmt_no_close (g.untyped_function k d e) = refl
stmt_no_close g.empty = refl
stmt_no_close (g.evaluate k m d) = expr_no_sign s.CloseBrace refl d
stmt_no_close (g.if' d e n) = refl
stmt_no_close (g.if_else d e o) = refl
stmt_no_close (g.while d e) = refl
stmt_no_close (g.do' d e) = refl
stmt_no_close (g.for_declared k d e u o) = refl
stmt_no_close (g.for' k d e u o) = refl
stmt_no_close (g.for_in_declared k d e o) = refl
stmt_no_close (g.for_in d e) = refl
stmt_no_close g.break' = refl
stmt_no_close g.continue' = refl
stmt_no_close g.return' = refl
stmt_no_close (g.return_value d) = refl
stmt_no_close g.rethrow' = refl
stmt_no_close (g.assert' d) = refl
stmt_no_close (g.try' d e n) = refl
stmt_no_close (g.try_finally d e o) = refl
