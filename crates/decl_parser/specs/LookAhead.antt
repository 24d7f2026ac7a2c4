-- A choice that looks ahead takes no form away: wherever a form stands, its look tells it.
use Rattle.std.specs.Prelude.{◌≡◌, ℕ, Bool, true, false, ◌||◌, List, ◌∷◌}
use Rattle.dart_syntax.specs.declared.words.Word.TheVariants as w
use Rattle.dart_grammar.specs.declared.kinds.DeclarationKind.TheVariants as k
use Rattle.dart_grammar.specs.declared.kinds.Kind.TheVariants.{Variables as OfVariables, Typed}
use Rattle.dart_grammar.specs.declared.kinds.ForKind.TheVariants.{DeclaredIn, Declared}
use Rattle.dart_grammar.specs.declared.trees.Span.{Span}
use Rattle.dart_grammar.specs.declared.trees.Name.{Name}
use Rattle.dart_grammar.specs.declared.trees.Catch.{Catch}
use Rattle.dart_grammar.specs.declared.trees.Parameters.{Parameters}
use Rattle.dart_grammar.specs.declared.trees.Variables.{Variables}
use Rattle.dart_grammar.specs.declared.declarations.Import.{Import}
use Rattle.dart_grammar.specs.declared.declarations.Function.{Function}
use Rattle.dart_grammar.specs.declared.declarations.Getter.{Getter}
use Rattle.dart_grammar.specs.declared.declarations.Setter.{Setter}
use Rattle.dart_grammar.specs.declared.declarations.OperatorMethod.{OperatorMethod}
use Rattle.dart_grammar.specs.declared.declarations.Constructor.{Constructor}
use Rattle.dart_grammar.specs.declared.declarations.Member.{Member}
use Rattle.dart_grammar.specs.Marks.{Tokens, word, ident}
use Rattle.dart_grammar.specs.Shapes as shapes
use Rattle.dart_grammar.specs.Shapes.{begins_type, begins_clause, for_kind_of}
use Rattle.dart_grammar.specs.Grammar.{MayHaveResult, IsLead, IsParameters, AreVariables, IsCatch}
use Rattle.dart_grammar.specs.Declarations.{library_word, static_word, begins_library, begins_import, begins_class, begins_getter, begins_setter, begins_operator, begins_constructor, begins_static, kind_of, IsLibraryName, IsImport, IsClassHead, IsFunction, IsGetter, IsSetter, IsOperator, IsConstructor, IsPlainMember}

-- ---- files

abbrev pub LibrariesAreSeen : Type 0
LibrariesAreSeen = (p : Span) (ts rest : Tokens) → IsLibraryName ts rest → begins_library (ident library_word p ∷ ts) ≡ true

abbrev pub ImportsAreSeen : Type 0
ImportsAreSeen = (ts rest : Tokens) (x : Import) → IsImport ts x rest → begins_import ts ≡ true

abbrev pub ClassesAreSeen : Type 0
ClassesAreSeen = (ts rest : Tokens) (b : Bool) (x : Name) (xs : List Name) → IsClassHead ts b x xs rest → begins_class ts ≡ true

abbrev pub GettersAreSeen : Type 0
GettersAreSeen = (native in_class : Bool) (from : ℕ) (ts rest : Tokens) (x : Getter) → IsGetter native in_class from ts x rest → (begins_class ts ≡ false) × (kind_of ts ≡ k.Getter)

abbrev pub SettersAreSeen : Type 0
SettersAreSeen = (native in_class : Bool) (from : ℕ) (ts rest : Tokens) (x : Setter) → IsSetter native in_class from ts x rest → (begins_class ts ≡ false) × (kind_of ts ≡ k.Setter)

abbrev pub OperatorsAreSeen : Type 0
OperatorsAreSeen = (native : Bool) (from : ℕ) (ts rest : Tokens) (x : OperatorMethod) → IsOperator native from ts x rest → kind_of ts ≡ k.Operator

-- `get` or `set` before a name, or `operator` before a sign, stands at the front, where a type could stand too.
abbrev pub begins_accessor : Tokens → Bool
begins_accessor ts = begins_getter ts || (begins_setter ts || begins_operator ts)

abbrev pub FunctionsAreSeen : Type 0
FunctionsAreSeen = (native in_class : Bool) (from : ℕ) (ts rest : Tokens) (x : Function) → IsFunction native in_class from ts x rest → begins_accessor ts ≡ false
    → (begins_class ts ≡ false) × (kind_of ts ≡ k.Function)

abbrev pub VariablesAreSeen : Type 0
VariablesAreSeen = (ts rest : Tokens) (x : Variables) (j : ℕ) → AreVariables ts x j rest → begins_accessor ts ≡ false → (begins_class ts ≡ false) × (kind_of ts ≡ k.Variables)

abbrev pub ConstructorsAreSeen : Type 0
ConstructorsAreSeen = (native : Bool) (name : List ℕ) (from : ℕ) (ts rest : Tokens) (x : Constructor) → IsConstructor native name from ts x rest
    → (begins_static name ts ≡ false) × (begins_constructor name ts ≡ true)

-- `static` is seen before each member that it can stand before.
abbrev pub StaticIsSeen : Type 0
StaticIsSeen = (native : Bool) (name : List ℕ) (from : ℕ) (p : Span) (ts rest : Tokens) (x : Member) → IsPlainMember native true from ts x rest → begins_constructor name ts ≡ false
    → begins_static name (ident static_word p ∷ ts) ≡ true

-- ---- statements

-- as a statement, and behind the `(` of a `for`
abbrev pub LocalVariablesAreSeen : Type 0
LocalVariablesAreSeen = (ts rest : Tokens) (x : Variables) (j : ℕ) → AreVariables ts x j rest → (shapes.kind_of ts ≡ OfVariables) × (for_kind_of ts ≡ Declared)

abbrev pub TypedFunctionsAreSeen : Type 0
TypedFunctionsAreSeen = (x : List ℕ) (p : Span) (ts mid rest : Tokens) (ps : Parameters) → begins_type ts ≡ true → MayHaveResult ts (ident x p ∷ mid) → IsParameters mid ps rest
    → shapes.kind_of ts ≡ Typed

abbrev pub LoopVariablesAreSeen : Type 0
LoopVariablesAreSeen = (is_final : Bool) (x : List ℕ) (p q : Span) (ts rest : Tokens) → IsLead ts is_final (ident x p ∷ word w.In q ∷ rest) → for_kind_of ts ≡ DeclaredIn

abbrev pub ClausesAreSeen : Type 0
ClausesAreSeen = (ts rest : Tokens) (x : Catch) → IsCatch ts x rest → begins_clause ts ≡ true
