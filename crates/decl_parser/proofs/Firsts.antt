-- What a derivation begins with.
use Rattle.std.proofs.Common.{◌≡◌, ℕ, Bool, true, false, List, ◌∷◌, refl}
use Rattle.dart_syntax.specs.declared.words.Sign.TheVariants as s
use Rattle.dart_grammar.specs.declared.trees.Span.{Span}
use Rattle.dart_grammar.specs.declared.trees.Name.{Name}
use Rattle.dart_grammar.specs.declared.trees.Stmt.{Stmt}
use Rattle.dart_grammar.specs.declared.trees.Body.{Body}
use Rattle.dart_grammar.specs.declared.trees.Arguments.{Arguments}
use Rattle.dart_grammar.specs.declared.declarations.Combinator.{Combinator}
use Rattle.dart_grammar.specs.declared.declarations.Member.{Member}
use Rattle.dart_grammar.specs.Marks.{Tokens, same_sign, same_word, ident, next_sign, looseness}
use Rattle.dart_grammar.specs.Grammar as gr
use Rattle.dart_grammar.specs.Grammar.{IsMetadata, AreArguments, IsBlock}
use Rattle.dart_grammar.specs.Declarations as g
use Rattle.dart_grammar.specs.Declarations.{begins_class, IsBody, MayHaveTypeBefore, MayImplement, IsClassHead, IsPlainMember, IsMember, AreCombinators}
use Rattle.expr_parser.proofs.Firsts.{result_no_sign, lead_no_sign}

-- before a body no expression goes on, and no list
pub body_ends : {native in_class : Bool} {ts rest : Tokens} {a : Body} {j : ℕ} → IsBody native in_class ts a j rest → (looseness ts ≡ 10) × (next_sign s.Comma ts ≡ false)
unfolding same_sign
body_ends (g.gives d) = (refl, refl)
body_ends (g.block (gr.braces d)) = (refl, refl)
body_ends (g.abstract h) = (refl, refl)
body_ends (g.native_body h) = (refl, refl)

pub block_no_arrow : {ts rest : Tokens} {j : ℕ} {xs : List Stmt} → IsBlock ts xs j rest → next_sign s.Arrow ts ≡ false
unfolding same_sign
block_no_arrow (gr.braces d) = refl

pub arguments_no_dot : {ts rest : Tokens} {a : Arguments} → AreArguments ts a rest → next_sign s.Dot ts ≡ false
unfolding same_sign
arguments_no_dot gr.no_arguments = refl
arguments_no_dot (gr.arguments d) = refl

pub implement_no_comma : {ts rest : Tokens} {xs : List (List Name)} → MayImplement ts xs rest → next_sign s.Comma rest ≡ false → next_sign s.Comma ts ≡ false
implement_no_comma (g.no_interfaces n) h = h
implement_no_comma (g.implements d) h = refl

pub combinators_no_comma : {ts rest : Tokens} {xs : List Combinator} → AreCombinators ts xs rest → next_sign s.Comma rest ≡ false → next_sign s.Comma ts ≡ false
combinators_no_comma g.no_combinators h = h
combinators_no_comma (g.shows d m) h = refl
combinators_no_comma (g.hides d m) h = refl

pub class_begins : {ts rest : Tokens} {b : Bool} {x : Name} {xs : List Name} → IsClassHead ts b x xs rest → begins_class ts ≡ true
unfolding same_word
class_begins (g.class_head (g.concrete n) t) = refl
class_begins (g.class_head g.is_abstract t) = refl

-- ---- members

type_before_no_close : {ts rest : Tokens} {x : List ℕ} {p : Span} → MayHaveTypeBefore ts (ident x p ∷ rest) → next_sign s.CloseBrace ts ≡ false
type_before_no_close (g.at_once n) = refl
type_before_no_close (g.behind_type y d) = result_no_sign s.CloseBrace d

plain_member_no_close : {native is_static : Bool} {from : ℕ} {ts rest : Tokens} {x : Member} → IsPlainMember native is_static from ts x rest → next_sign s.CloseBrace ts ≡ false
plain_member_no_close (g.method k (g.function d h b)) = result_no_sign s.CloseBrace d
plain_member_no_close (g.getter_member k (g.getter d b)) = type_before_no_close d
plain_member_no_close (g.setter_member k (g.setter d h b)) = type_before_no_close d
plain_member_no_close (g.fields k (gr.variables d h)) = lead_no_sign s.CloseBrace d

metadata_no_close : {ts mid : Tokens} → IsMetadata ts mid → next_sign s.CloseBrace mid ≡ false → next_sign s.CloseBrace ts ≡ false
unfolding same_sign
metadata_no_close (gr.no_metadata n) h = h
metadata_no_close (gr.metadata a o m) h = refl

pub member_no_close : {native : Bool} {name : List ℕ} {ts rest : Tokens} {x : Member} → IsMember native name ts x rest → next_sign s.CloseBrace ts ≡ false
member_no_close (g.static m y d) = metadata_no_close m refl
member_no_close (g.constructor_member m n c (g.constructor (g.unnamed h) p i a b)) = metadata_no_close m refl
member_no_close (g.constructor_member m n c (g.constructor g.named p i a b)) = metadata_no_close m refl
member_no_close (g.operator_member m n c k (g.operator d x p b)) = metadata_no_close m (type_before_no_close d)
member_no_close (g.plain_member m n c d) = metadata_no_close m (plain_member_no_close d)
