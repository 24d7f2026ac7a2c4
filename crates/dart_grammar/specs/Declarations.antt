-- The grammar of files. `native` says whether bodies may be native, as they may in the prelude alone.
use Rattle.std.specs.Prelude.{◌≡◌, ℕ, zero, suc, Bool, true, false, not, ◌&&◌, ◌||◌, if◌then◌else◌, List, [], ◌∷◌, length, Option, Some, None, codes}
use Rattle.dart_syntax.specs.declared.words.Word.TheVariants as w
use Rattle.dart_syntax.specs.declared.words.Sign.TheVariants as s
use Rattle.dart_syntax.specs.declared.tokens.Form.{Form}
use Rattle.dart_syntax.specs.declared.tokens.Form.TheVariants as f
use Rattle.dart_grammar.specs.declared.kinds.DeclarationKind.{DeclarationKind}
use Rattle.dart_grammar.specs.declared.kinds.DeclarationKind.TheVariants as k
use Rattle.dart_grammar.specs.declared.kinds.BuiltIn.{BuiltIn}
use Rattle.dart_grammar.specs.declared.kinds.BuiltIn.TheVariants as c
use Rattle.dart_grammar.specs.declared.trees.Span.{Span}
use Rattle.dart_grammar.specs.declared.trees.Name.{Name}
use Rattle.dart_grammar.specs.declared.trees.Expr.{Expr}
use Rattle.dart_grammar.specs.declared.trees.Stmt.{Stmt}
use Rattle.dart_grammar.specs.declared.trees.Body.{Body}
use Rattle.dart_grammar.specs.declared.trees.Body.TheVariants as b
use Rattle.dart_grammar.specs.declared.trees.Arguments.{Arguments}
use Rattle.dart_grammar.specs.declared.trees.Parameter.{Parameter}
use Rattle.dart_grammar.specs.declared.trees.Parameters.{Parameters}
use Rattle.dart_grammar.specs.declared.trees.Variables.{Variables}
use Rattle.dart_grammar.specs.declared.declarations.FileTree.{FileTree}
use Rattle.dart_grammar.specs.declared.declarations.Import.{Import}
use Rattle.dart_grammar.specs.declared.declarations.Combinator.{Combinator}
use Rattle.dart_grammar.specs.declared.declarations.Declaration.{Declaration}
use Rattle.dart_grammar.specs.declared.declarations.Declaration.TheVariants as d
use Rattle.dart_grammar.specs.declared.declarations.Function.{Function}
use Rattle.dart_grammar.specs.declared.declarations.Getter.{Getter}
use Rattle.dart_grammar.specs.declared.declarations.Setter.{Setter}
use Rattle.dart_grammar.specs.declared.declarations.Member.{Member}
use Rattle.dart_grammar.specs.declared.declarations.Member.TheVariants as m
use Rattle.dart_grammar.specs.declared.declarations.OperatorName.{OperatorName}
use Rattle.dart_grammar.specs.declared.declarations.OperatorName.TheVariants as o
use Rattle.dart_grammar.specs.declared.declarations.OperatorMethod.{OperatorMethod}
use Rattle.dart_grammar.specs.declared.declarations.Constructor.{Constructor}
use Rattle.dart_grammar.specs.declared.declarations.Initialiser.{Initialiser}
use Rattle.dart_grammar.specs.declared.declarations.Initialiser.TheVariants as i
use Rattle.dart_grammar.specs.Marks.{Tokens, token, word, sign, ident, as_word, is_named, is_text_open, next, next_word, next_sign, next_name, behind}
use Rattle.dart_grammar.specs.Shapes.{begins_type, begins_variables, result_end, metadata_end}
use Rattle.dart_grammar.specs.Trees.{span, name_of, span_of}
use Rattle.dart_grammar.specs.Grammar.{start, IsType, MayHaveResult, IsMetadata, IsParameters, IsParameter, AreVariables, AreArguments, IsExpr, IsBlock}

-- ---- words that are names too

abbrev pub library_word : List ℕ
library_word = codes "library"

abbrev pub import_word : List ℕ
import_word = codes "import"

abbrev pub deferred_word : List ℕ
deferred_word = codes "deferred"

abbrev pub show_word : List ℕ
show_word = codes "show"

abbrev pub hide_word : List ℕ
hide_word = codes "hide"

abbrev pub abstract_word : List ℕ
abstract_word = codes "abstract"

abbrev pub implements_word : List ℕ
implements_word = codes "implements"

abbrev pub static_word : List ℕ
static_word = codes "static"

abbrev pub get_word : List ℕ
get_word = codes "get"

abbrev pub set_word : List ℕ
set_word = codes "set"

abbrev pub operator_word : List ℕ
operator_word = codes "operator"

abbrev pub native_word : List ℕ
native_word = codes "native"

abbrev pub spelling : BuiltIn → List ℕ
spelling c.Library = library_word
spelling c.Import = import_word
spelling c.Deferred = deferred_word
spelling c.As = as_word
spelling c.Show = show_word
spelling c.Hide = hide_word
spelling c.Abstract = abstract_word
spelling c.Implements = implements_word
spelling c.Static = static_word
spelling c.Get = get_word
spelling c.Set = set_word
spelling c.Operator = operator_word
spelling c.Native = native_word

abbrev pub next_named : List ℕ → Tokens → Bool
next_named text = next (is_named text)

-- ---- choices that look ahead

-- behind a name and as many further ones, each behind a dot
unfoldable pub path_end : ℕ → Tokens → Tokens
path_end zero ts = ts
path_end (suc n) ts = if next_sign s.Dot ts && next_name (behind ts) then path_end n (behind (behind ts)) else ts

-- `library`, names with dots between and `;` are the library's line
abbrev pub begins_library : Tokens → Bool
begins_library ts = next_named library_word ts && (next_name (behind ts) && next_sign s.Semicolon (path_end (length ts) (behind (behind ts))))

abbrev pub is_import : Option Tokens → Bool
is_import None = false
is_import (Some ts) = next_named import_word ts && next is_text_open (behind ts)

-- metadata, `import` and a text
abbrev pub begins_import : Tokens → Bool
begins_import ts = is_import (metadata_end (length ts) ts)

abbrev pub is_operator_sign : Form → Bool
is_operator_sign (f.Sign s.Plus) = true
is_operator_sign (f.Sign s.Minus) = true
is_operator_sign (f.Sign s.Times) = true
is_operator_sign (f.Sign s.Divide) = true
is_operator_sign (f.Sign s.Modulo) = true
is_operator_sign (f.Sign s.Less) = true
is_operator_sign (f.Sign s.Greater) = true
is_operator_sign (f.Sign s.LessEqual) = true
is_operator_sign (f.Sign s.GreaterEqual) = true
is_operator_sign (f.Sign s.OpenBracket) = true
is_operator_sign _ = false

-- `get` or `set` before a name, `operator` before a sign
abbrev pub begins_getter : Tokens → Bool
begins_getter ts = next_named get_word ts && next_name (behind ts)

abbrev pub begins_setter : Tokens → Bool
begins_setter ts = next_named set_word ts && next_name (behind ts)

abbrev pub begins_operator : Tokens → Bool
begins_operator ts = next_named operator_word ts && next is_operator_sign (behind ts)

-- with these tokens where its name is due
abbrev pub kind_at : Tokens → DeclarationKind
kind_at ts =
    if begins_getter ts then k.Getter
    else if begins_setter ts then k.Setter
    else if begins_operator ts then k.Operator
    else if next_name ts && next_sign s.OpenParen (behind ts) then k.Function
    else k.Variables

abbrev pub is_variables : DeclarationKind → Bool
is_variables k.Variables = true
is_variables _ = false

abbrev pub kind_behind : Option Tokens → DeclarationKind
kind_behind None = k.Variables
kind_behind (Some ts) = kind_at ts

-- A type, or `void`, may stand before the name.
unfoldable pub kind_of : Tokens → DeclarationKind
kind_of ts = if begins_variables ts then k.Variables else if is_variables (kind_at ts) then kind_behind (result_end ts) else kind_at ts

-- The name of a class and `(`, or a dot, a name and `(`, begin a constructor of it.
abbrev pub begins_constructor : List ℕ → Tokens → Bool
begins_constructor name ts = next_named name ts && next_sign s.OpenParen (path_end 1 (behind ts))

-- what `static` can make static, in the class of this name
abbrev pub makes_static : List ℕ → Tokens → Bool
makes_static name ts =
    begins_variables ts || next_word w.Void ts || begins_getter ts || begins_setter ts
    || (begins_type ts && not (begins_operator ts))
    || (next_name ts && next_sign s.OpenParen (behind ts) && not (next_named name ts))

-- `static` stands before what it makes static, and else is a type.
unfoldable pub begins_static : List ℕ → Tokens → Bool
begins_static name ts = next_named static_word ts && makes_static name (behind ts)

-- ---- bodies, with where they end

pub data IsBody (native in_class : Bool) : Tokens → Body → ℕ → Tokens → Type 0 where
  gives : {a : Expr} {p q : Span} {ts rest : Tokens} → IsExpr ts a (sign s.Semicolon q ∷ rest) → IsBody native in_class (sign s.Arrow p ∷ ts) (b.Gives a) q.to rest
  block : {xs : List Stmt} {j : ℕ} {ts rest : Tokens} → IsBlock ts xs j rest → IsBody native in_class ts (b.Block xs) j rest
  abstract : {p : Span} {rest : Tokens} → in_class ≡ true → IsBody native in_class (sign s.Semicolon p ∷ rest) b.Abstract p.to rest
  native_body : {x : List ℕ} {p q r : Span} {rest : Tokens} → native ≡ true
      → IsBody native in_class (ident native_word p ∷ ident x q ∷ sign s.Semicolon r ∷ rest) (b.Native (name_of x q)) r.to rest

-- ---- functions, accessors and variables, behind their metadata; `from` is where that begins

pub data IsFunction (native in_class : Bool) (from : ℕ) : Tokens → Function → Tokens → Type 0 where
  function : {x : List ℕ} {ps : Parameters} {a : Body} {j : ℕ} {p : Span} {ts mid after rest : Tokens} → MayHaveResult ts (ident x p ∷ mid) → IsParameters mid ps after
      → IsBody native in_class after a j rest → IsFunction native in_class from ts (record { span = span from j; name = name_of x p; parameters = ps; body = a }) rest

-- [ rtype ], before `get`, `set` and `operator`
pub data MayHaveTypeBefore : Tokens → Tokens → Type 0 where
  at_once : {ts : Tokens} → is_variables (kind_at ts) ≡ false → MayHaveTypeBefore ts ts
  behind_type : {ts rest : Tokens} → is_variables (kind_at ts) ≡ true → MayHaveResult ts rest → MayHaveTypeBefore ts rest

pub data IsGetter (native in_class : Bool) (from : ℕ) : Tokens → Getter → Tokens → Type 0 where
  getter : {x : List ℕ} {a : Body} {j : ℕ} {p q : Span} {ts mid rest : Tokens} → MayHaveTypeBefore ts (ident get_word p ∷ ident x q ∷ mid) → IsBody native in_class mid a j rest
      → IsGetter native in_class from ts (record { span = span from j; name = name_of x q; body = a }) rest

pub data IsSetter (native in_class : Bool) (from : ℕ) : Tokens → Setter → Tokens → Type 0 where
  setter : {x : List ℕ} {v : Parameter} {a : Body} {j : ℕ} {p q r u : Span} {ts mid after rest : Tokens} → MayHaveTypeBefore ts (ident set_word p ∷ ident x q ∷ sign s.OpenParen r ∷ mid)
      → IsParameter mid v (sign s.CloseParen u ∷ after) → IsBody native in_class after a j rest
      → IsSetter native in_class from ts (record { span = span from j; name = name_of x q; parameter = v; body = a }) rest

-- ---- classes

-- [ "extends" type ]
pub data MayHaveBound : Tokens → Tokens → Type 0 where
  no_bound : {ts : Tokens} → next_word w.Extends ts ≡ false → MayHaveBound ts ts
  bound : {xs : List Name} {j : ℕ} {p : Span} {ts rest : Tokens} → IsType ts xs j rest → MayHaveBound (word w.Extends p ∷ ts) rest

-- name [ "extends" type ] { "," name [ "extends" type ] } ">"
pub data AreTypeParameters : Tokens → List Name → Tokens → Type 0 where
  last_type_parameter : {x : List ℕ} {p q : Span} {ts rest : Tokens} → MayHaveBound ts (sign s.Greater q ∷ rest) → AreTypeParameters (ident x p ∷ ts) (name_of x p ∷ []) rest
  more_type_parameters : {x : List ℕ} {xs : List Name} {p q : Span} {ts mid rest : Tokens} → MayHaveBound ts (sign s.Comma q ∷ mid) → AreTypeParameters mid xs rest
      → AreTypeParameters (ident x p ∷ ts) (name_of x p ∷ xs) rest

-- [ tparams ]
pub data MayHaveTypeParameters : Tokens → List Name → Tokens → Type 0 where
  no_type_parameters : {ts : Tokens} → next_sign s.Less ts ≡ false → MayHaveTypeParameters ts [] ts
  type_parameters : {xs : List Name} {p : Span} {ts rest : Tokens} → AreTypeParameters ts xs rest → MayHaveTypeParameters (sign s.Less p ∷ ts) xs rest

-- types
pub data AreSupertypes : Tokens → List (List Name) → Tokens → Type 0 where
  last_supertype : {x : List Name} {j : ℕ} {ts rest : Tokens} → IsType ts x j rest → AreSupertypes ts (x ∷ []) rest
  more_supertypes : {x : List Name} {xs : List (List Name)} {j : ℕ} {p : Span} {ts mid rest : Tokens} → IsType ts x j (sign s.Comma p ∷ mid) → AreSupertypes mid xs rest
      → AreSupertypes ts (x ∷ xs) rest

-- [ "extends" type [ "with" types ] ]
pub data MayExtend : Tokens → Option (List Name) → List (List Name) → Tokens → Type 0 where
  no_superclass : {ts : Tokens} → next_word w.Extends ts ≡ false → MayExtend ts None [] ts
  extends : {x : List Name} {j : ℕ} {p : Span} {ts rest : Tokens} → IsType ts x j rest → next_word w.With rest ≡ false → MayExtend (word w.Extends p ∷ ts) (Some x) [] rest
  extends_with : {x : List Name} {xs : List (List Name)} {j : ℕ} {p q : Span} {ts mid rest : Tokens} → IsType ts x j (word w.With q ∷ mid) → AreSupertypes mid xs rest
      → MayExtend (word w.Extends p ∷ ts) (Some x) xs rest

-- [ "implements" types ]
pub data MayImplement : Tokens → List (List Name) → Tokens → Type 0 where
  no_interfaces : {ts : Tokens} → next_named implements_word ts ≡ false → MayImplement ts [] ts
  implements : {xs : List (List Name)} {p : Span} {ts rest : Tokens} → AreSupertypes ts xs rest → MayImplement (ident implements_word p ∷ ts) xs rest

-- op
pub data IsOperatorName : Tokens → OperatorName → Span → Tokens → Type 0 where
  plus : {p : Span} {rest : Tokens} → IsOperatorName (sign s.Plus p ∷ rest) o.Plus p rest
  minus : {p : Span} {rest : Tokens} → IsOperatorName (sign s.Minus p ∷ rest) o.Minus p rest
  times : {p : Span} {rest : Tokens} → IsOperatorName (sign s.Times p ∷ rest) o.Times p rest
  divide : {p : Span} {rest : Tokens} → IsOperatorName (sign s.Divide p ∷ rest) o.Divide p rest
  modulo : {p : Span} {rest : Tokens} → IsOperatorName (sign s.Modulo p ∷ rest) o.Modulo p rest
  less : {p : Span} {rest : Tokens} → IsOperatorName (sign s.Less p ∷ rest) o.Less p rest
  greater : {p : Span} {rest : Tokens} → IsOperatorName (sign s.Greater p ∷ rest) o.Greater p rest
  less_equal : {p : Span} {rest : Tokens} → IsOperatorName (sign s.LessEqual p ∷ rest) o.LessEqual p rest
  greater_equal : {p : Span} {rest : Tokens} → IsOperatorName (sign s.GreaterEqual p ∷ rest) o.GreaterEqual p rest
  at_index : {p q : Span} {rest : Tokens} → next_sign s.Assign rest ≡ false → IsOperatorName (sign s.OpenBracket p ∷ sign s.CloseBracket q ∷ rest) o.Index (span p.from q.to) rest
  set_index : {p q r : Span} {rest : Tokens} → IsOperatorName (sign s.OpenBracket p ∷ sign s.CloseBracket q ∷ sign s.Assign r ∷ rest) o.SetIndex (span p.from r.to) rest

pub data IsOperator (native : Bool) (from : ℕ) : Tokens → OperatorMethod → Tokens → Type 0 where
  operator : {x : OperatorName} {at : Span} {ps : Parameters} {a : Body} {j : ℕ} {p : Span} {ts mid after late rest : Tokens} → MayHaveTypeBefore ts (ident operator_word p ∷ mid)
      → IsOperatorName mid x at after → IsParameters after ps late → IsBody native true late a j rest
      → IsOperator native from ts (record { span = span from j; operator = x; sign = at; parameters = ps; body = a }) rest

-- init
pub data IsInitialiser : Tokens → Initialiser → Tokens → Type 0 where
  field_of_this : {x : List ℕ} {a : Expr} {p q r u : Span} {ts rest : Tokens} → IsExpr ts a rest
      → IsInitialiser (word w.This p ∷ sign s.Dot q ∷ ident x r ∷ sign s.Assign u ∷ ts) (i.Field (span p.from (span_of a).to) (name_of x r) a) rest
  field : {x : List ℕ} {a : Expr} {p q : Span} {ts rest : Tokens} → IsExpr ts a rest
      → IsInitialiser (ident x p ∷ sign s.Assign q ∷ ts) (i.Field (span p.from (span_of a).to) (name_of x p) a) rest
  super_call : {a : Arguments} {p : Span} {ts rest : Tokens} → AreArguments ts a rest → IsInitialiser (word w.Super p ∷ ts) (i.Super (span p.from a.span.to) None a) rest
  named_super_call : {x : List ℕ} {a : Arguments} {p q r : Span} {ts rest : Tokens} → AreArguments ts a rest
      → IsInitialiser (word w.Super p ∷ sign s.Dot q ∷ ident x r ∷ ts) (i.Super (span p.from a.span.to) (Some (name_of x r)) a) rest

-- init { "," init }
pub data AreInitialisers : Tokens → List Initialiser → Tokens → Type 0 where
  last_initialiser : {x : Initialiser} {ts rest : Tokens} → IsInitialiser ts x rest → AreInitialisers ts (x ∷ []) rest
  more_initialisers : {x : Initialiser} {xs : List Initialiser} {p : Span} {ts mid rest : Tokens} → IsInitialiser ts x (sign s.Comma p ∷ mid) → AreInitialisers mid xs rest
      → AreInitialisers ts (x ∷ xs) rest

-- [ ":" init { "," init } ]
pub data MayInitialise : Tokens → List Initialiser → Tokens → Type 0 where
  no_initialisers : {ts : Tokens} → next_sign s.Colon ts ≡ false → MayInitialise ts [] ts
  initialisers : {xs : List Initialiser} {p : Span} {ts rest : Tokens} → AreInitialisers ts xs rest → MayInitialise (sign s.Colon p ∷ ts) xs rest

-- name [ "." name ] of a constructor of the class
pub data AreConstructorNames (name : List ℕ) : Tokens → List Name → Tokens → Type 0 where
  unnamed : {p : Span} {rest : Tokens} → next_sign s.Dot rest ≡ false → AreConstructorNames name (ident name p ∷ rest) (name_of name p ∷ []) rest
  named : {x : List ℕ} {p q r : Span} {rest : Tokens} → AreConstructorNames name (ident name p ∷ sign s.Dot q ∷ ident x r ∷ rest) (name_of name p ∷ name_of x r ∷ []) rest

pub data IsConstructor (native : Bool) (name : List ℕ) (from : ℕ) : Tokens → Constructor → Tokens → Type 0 where
  constructor : {xs : List Name} {ps : Parameters} {ys : List Initialiser} {a : Body} {j : ℕ} {ts mid after late rest : Tokens} → AreConstructorNames name ts xs mid
      → IsParameters mid ps after → MayInitialise after ys late → next_sign s.Arrow late ≡ false → IsBody native true late a j rest
      → IsConstructor native name from ts (record { span = span from j; names = xs; parameters = ps; initialisers = ys; body = a }) rest

-- function, accessor or vars of a class, behind its metadata and `static`
pub data IsPlainMember (native is_static : Bool) (from : ℕ) : Tokens → Member → Tokens → Type 0 where
  method : {x : Function} {ts rest : Tokens} → kind_of ts ≡ k.Function → IsFunction native true from ts x rest → IsPlainMember native is_static from ts (m.Function is_static x) rest
  getter_member : {x : Getter} {ts rest : Tokens} → kind_of ts ≡ k.Getter → IsGetter native true from ts x rest → IsPlainMember native is_static from ts (m.Getter is_static x) rest
  setter_member : {x : Setter} {ts rest : Tokens} → kind_of ts ≡ k.Setter → IsSetter native true from ts x rest → IsPlainMember native is_static from ts (m.Setter is_static x) rest
  fields : {x : Variables} {j : ℕ} {ts rest : Tokens} → kind_of ts ≡ k.Variables → AreVariables ts x j rest → IsPlainMember native is_static from ts (m.Fields is_static (span from j) x) rest

-- member of the class of this name
pub data IsMember (native : Bool) (name : List ℕ) : Tokens → Member → Tokens → Type 0 where
  static : {x : Member} {p : Span} {ts mid rest : Tokens} → IsMetadata ts (ident static_word p ∷ mid) → begins_static name (ident static_word p ∷ mid) ≡ true
      → IsPlainMember native true (start ts) mid x rest → IsMember native name ts x rest
  constructor_member : {x : Constructor} {ts mid rest : Tokens} → IsMetadata ts mid → begins_static name mid ≡ false → begins_constructor name mid ≡ true
      → IsConstructor native name (start ts) mid x rest → IsMember native name ts (m.Constructor x) rest
  operator_member : {x : OperatorMethod} {ts mid rest : Tokens} → IsMetadata ts mid → begins_static name mid ≡ false → begins_constructor name mid ≡ false → kind_of mid ≡ k.Operator
      → IsOperator native (start ts) mid x rest → IsMember native name ts (m.Operator x) rest
  plain_member : {x : Member} {ts mid rest : Tokens} → IsMetadata ts mid → begins_static name mid ≡ false → begins_constructor name mid ≡ false
      → IsPlainMember native false (start ts) mid x rest → IsMember native name ts x rest

-- { member }
pub data AreMembers (native : Bool) (name : List ℕ) : Tokens → List Member → Tokens → Type 0 where
  no_members : {ts : Tokens} → AreMembers native name ts [] ts
  members : {x : Member} {xs : List Member} {ts mid rest : Tokens} → IsMember native name ts x mid → AreMembers native name mid xs rest → AreMembers native name ts (x ∷ xs) rest

-- [ "abstract" ]
pub data MayBeAbstract : Tokens → Bool → Tokens → Type 0 where
  concrete : {ts : Tokens} → next_named abstract_word ts ≡ false → MayBeAbstract ts false ts
  is_abstract : {p : Span} {rest : Tokens} → MayBeAbstract (ident abstract_word p ∷ rest) true rest

-- "class" name [ tparams ], or the same with "abstract" before it
abbrev pub begins_class : Tokens → Bool
begins_class ts = next_word w.Class ts || (next_named abstract_word ts && next_word w.Class (behind ts))

pub data IsClassHead : Tokens → Bool → Name → List Name → Tokens → Type 0 where
  class_head : {is_abstract : Bool} {x : List ℕ} {xs : List Name} {p q : Span} {ts mid rest : Tokens} → MayBeAbstract ts is_abstract (word w.Class p ∷ ident x q ∷ mid)
      → MayHaveTypeParameters mid xs rest → IsClassHead ts is_abstract (name_of x q) xs rest

-- ---- declarations and files

-- decl
pub data IsDeclaration (native : Bool) : Tokens → Declaration → Tokens → Type 0 where
  class : {is_abstract : Bool} {x : Name} {xs : List Name} {y : Option (List Name)} {ys zs : List (List Name)} {ms : List Member} {p q : Span} {ts mid after late end rest : Tokens}
      → IsMetadata ts mid → IsClassHead mid is_abstract x xs after → next_sign s.Assign after ≡ false → MayExtend after y ys late → MayImplement late zs (sign s.OpenBrace p ∷ end)
      → AreMembers native x.text end ms (sign s.CloseBrace q ∷ rest)
      → IsDeclaration native ts (d.Class (record { span = span (start ts) q.to; is_abstract = is_abstract; name = x; type_parameters = xs; superclass = y; mixins = ys; interfaces = zs; members = ms })) rest
  alias : {is_abstract : Bool} {x : Name} {xs y : List Name} {ys zs : List (List Name)} {j : ℕ} {p q r : Span} {ts mid after late end rest : Tokens}
      → IsMetadata ts mid → IsClassHead mid is_abstract x xs (sign s.Assign p ∷ after) → IsType after y j (word w.With q ∷ late) → AreSupertypes late ys end
      → MayImplement end zs (sign s.Semicolon r ∷ rest)
      → IsDeclaration native ts (d.Alias (record { span = span (start ts) r.to; is_abstract = is_abstract; name = x; type_parameters = xs; superclass = y; mixins = ys; interfaces = zs })) rest
  function_declaration : {x : Function} {ts mid rest : Tokens} → IsMetadata ts mid → begins_class mid ≡ false → kind_of mid ≡ k.Function → IsFunction native false (start ts) mid x rest
      → IsDeclaration native ts (d.Function x) rest
  getter_declaration : {x : Getter} {ts mid rest : Tokens} → IsMetadata ts mid → begins_class mid ≡ false → kind_of mid ≡ k.Getter → IsGetter native false (start ts) mid x rest
      → IsDeclaration native ts (d.Getter x) rest
  setter_declaration : {x : Setter} {ts mid rest : Tokens} → IsMetadata ts mid → begins_class mid ≡ false → kind_of mid ≡ k.Setter → IsSetter native false (start ts) mid x rest
      → IsDeclaration native ts (d.Setter x) rest
  variables_declaration : {x : Variables} {j : ℕ} {ts mid rest : Tokens} → IsMetadata ts mid → begins_class mid ≡ false → kind_of mid ≡ k.Variables → AreVariables mid x j rest
      → IsDeclaration native ts (d.Variables (span (start ts) j) x) rest

-- { decl }, to the end
pub data AreDeclarations (native : Bool) : Tokens → List Declaration → Type 0 where
  no_declarations : AreDeclarations native [] []
  declarations : {x : Declaration} {xs : List Declaration} {ts rest : Tokens} → IsDeclaration native ts x rest → AreDeclarations native rest xs → AreDeclarations native ts (x ∷ xs)

-- [ [ "deferred" ] "as" name ]
pub data MayHavePrefix : Tokens → Bool → Option Name → Tokens → Type 0 where
  no_prefix : {ts : Tokens} → next_named deferred_word ts ≡ false → next_named as_word ts ≡ false → MayHavePrefix ts false None ts
  prefix : {x : List ℕ} {p q : Span} {rest : Tokens} → MayHavePrefix (ident as_word p ∷ ident x q ∷ rest) false (Some (name_of x q)) rest
  deferred : {x : List ℕ} {p q r : Span} {rest : Tokens} → MayHavePrefix (ident deferred_word p ∷ ident as_word q ∷ ident x r ∷ rest) true (Some (name_of x r)) rest

-- name { "," name }
pub data AreShown : Tokens → List Name → Tokens → Type 0 where
  last_shown : {x : List ℕ} {p : Span} {rest : Tokens} → AreShown (ident x p ∷ rest) (name_of x p ∷ []) rest
  more_shown : {x : List ℕ} {xs : List Name} {p q : Span} {ts rest : Tokens} → AreShown ts xs rest → AreShown (ident x p ∷ sign s.Comma q ∷ ts) (name_of x p ∷ xs) rest

-- { ( "show" | "hide" ) name { "," name } }
pub data AreCombinators : Tokens → List Combinator → Tokens → Type 0 where
  no_combinators : {ts : Tokens} → AreCombinators ts [] ts
  shows : {xs : List Name} {cs : List Combinator} {p : Span} {ts mid rest : Tokens} → AreShown ts xs mid → AreCombinators mid cs rest
      → AreCombinators (ident show_word p ∷ ts) (record { hides = false; names = xs } ∷ cs) rest
  hides : {xs : List Name} {cs : List Combinator} {p : Span} {ts mid rest : Tokens} → AreShown ts xs mid → AreCombinators mid cs rest
      → AreCombinators (ident hide_word p ∷ ts) (record { hides = true; names = xs } ∷ cs) rest

-- import
pub data IsImport : Tokens → Import → Tokens → Type 0 where
  import' : {us : List ℕ} {is_deferred : Bool} {x : Option Name} {cs : List Combinator} {p q r u v : Span} {ts mid after rest : Tokens}
      → IsMetadata ts (ident import_word p ∷ token f.TextOpen q ∷ token (f.Piece us) r ∷ token f.TextClose u ∷ mid) → MayHavePrefix mid is_deferred x after
      → AreCombinators after cs (sign s.Semicolon v ∷ rest)
      → IsImport ts (record { span = span (start ts) v.to; uri = us; uri_span = span q.from u.to; is_deferred = is_deferred; prefix = x; combinators = cs }) rest

-- { import }, as long as one stands there
pub data AreImports : Tokens → List Import → Tokens → Type 0 where
  no_imports : {ts : Tokens} → begins_import ts ≡ false → AreImports ts [] ts
  imports : {x : Import} {xs : List Import} {ts mid rest : Tokens} → begins_import ts ≡ true → IsImport ts x mid → AreImports mid xs rest → AreImports ts (x ∷ xs) rest

-- name { "." name } ";"
pub data IsLibraryName : Tokens → Tokens → Type 0 where
  last_part : {x : List ℕ} {p q : Span} {rest : Tokens} → IsLibraryName (ident x p ∷ sign s.Semicolon q ∷ rest) rest
  more_parts : {x : List ℕ} {p q : Span} {ts rest : Tokens} → IsLibraryName ts rest → IsLibraryName (ident x p ∷ sign s.Dot q ∷ ts) rest

-- [ "library" name { "." name } ";" ]
pub data MayBeNamed : Tokens → Tokens → Type 0 where
  no_library : {ts : Tokens} → begins_library ts ≡ false → MayBeNamed ts ts
  library : {p : Span} {ts rest : Tokens} → begins_library (ident library_word p ∷ ts) ≡ true → IsLibraryName ts rest → MayBeNamed (ident library_word p ∷ ts) rest

-- file
pub data IsFile (native : Bool) : Tokens → FileTree → Type 0 where
  file : {xs : List Import} {ys : List Declaration} {ts mid rest : Tokens} → MayBeNamed ts mid → AreImports mid xs rest → AreDeclarations native rest ys
      → IsFile native ts (record { imports = xs; declarations = ys })
