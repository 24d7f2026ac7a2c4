-- Files are parsed.
use Rattle.std.proofs.Common.{◌≡◌, ℕ, zero, suc, ◌<◌, ◌≤◌, Bool, true, false, List, [], ◌∷◌, ◌++◌, length, Option, Some, refl, ◌∙◌, arith, append_assoc}
use Rattle.std.proofs.lemmas.List.{append-nil}
use Rattle.dart_syntax.specs.declared.words.Sign.TheVariants as s
use Rattle.dart_syntax.specs.declared.tokens.Form.TheVariants as f
use Rattle.dart_grammar.specs.declared.trees.Span.{Span}
use Rattle.dart_grammar.specs.declared.trees.Name.{Name}
use Rattle.dart_grammar.specs.declared.declarations.FileTree.{FileTree}
use Rattle.dart_grammar.specs.declared.declarations.Import.{Import}
use Rattle.dart_grammar.specs.declared.declarations.Combinator.{Combinator}
use Rattle.dart_grammar.specs.declared.declarations.Declaration.{Declaration}
use Rattle.dart_grammar.specs.Marks.{Tokens, as_word, token, sign, ident, same_sign, same_word, next_sign}
use Rattle.dart_grammar.specs.Shapes.{◌>>=◌}
use Rattle.dart_grammar.specs.Trees.{name_of}
use Rattle.dart_grammar.specs.Declarations as g
use Rattle.dart_grammar.specs.Declarations.{import_word, IsDeclaration, AreDeclarations, MayHavePrefix, AreShown, AreCombinators, IsImport, AreImports, IsLibraryName, MayBeNamed, IsFile}
use Rattle.expr_parser.specs.Cursor.{sign_at, word_at, name_at}
use Rattle.expr_parser.specs.Inner.{Inner}
use Rattle.expr_parser.specs.Knot.{inner_at}
use Rattle.expr_parser.specs.Texts.{piece, text_close}
use Rattle.expr_parser.proofs.Shrinks.{metadata_shrinks, are_variables_shrink}
use Rattle.expr_parser.proofs.TypesComplete.{type_complete}
use Rattle.expr_parser.proofs.PartsComplete.{Complete}
use Rattle.expr_parser.proofs.StatementsComplete.{variables_complete}
use Rattle.expr_parser.proofs.Complete.{all_complete}
use Rattle.decl_parser.specs.Files as p
use Rattle.decl_parser.proofs.Shrinks.{function_shrinks, getter_shrinks, setter_shrinks, class_head_shrinks, may_extend_shrinks, may_implement_shrinks, declaration_shrinks, are_shown_shrink, import_shrinks, are_imports_shrink, may_be_named_shrinks}
use Rattle.decl_parser.proofs.Firsts.{class_begins, implement_no_comma, combinators_no_comma}
use Rattle.decl_parser.proofs.BodiesComplete.{named_here, function_complete, getter_complete, setter_complete}
use Rattle.decl_parser.proofs.ClassesComplete.{supertypes_complete, may_extend_complete, may_implement_complete, class_head_complete}
use Rattle.decl_parser.proofs.MembersComplete.{past_metadata_complete, members_complete}

-- ---- imports

prefix_complete : {ts rest : Tokens} {b : Bool} {x : Option Name} → MayHavePrefix ts b x rest → p.may_have_prefix ts ≡ Some ((b, x), rest)
unfolding p.may_have_prefix name_at
prefix_complete (g.no_prefix h k) = rw (h, k) refl
prefix_complete g.prefix = refl
prefix_complete (g.deferred {x = x} {q = q} {r = r} {rest = rest}) = rw (named_here as_word q (ident x r ∷ rest)) refl

names_from_complete : {ts rest : Tokens} {xs : List Name} → AreShown ts xs rest → (k : ℕ) (found : List Name) → length ts ≤ k → next_sign s.Comma rest ≡ false → p.names_from k found ts ≡ Some (found ++ xs, rest)
unfolding p.names_from name_at same_sign
names_from_complete g.last_shown zero found i c = absurd (omega (arith, i))
names_from_complete g.last_shown (suc k) found i c = rw c refl
names_from_complete (g.more_shown m) zero found i c = absurd (omega (arith, i))
names_from_complete (g.more_shown {x = x} {xs = xs} {p = q} m) (suc k) found i c = rw (names_from_complete m k (found ++ name_of x q ∷ []) (omega (arith, i)) c, append_assoc found (name_of x q ∷ []) xs) refl

combinator_complete : (hides : Bool) {ts rest : Tokens} {xs : List Name} → AreShown ts xs rest → next_sign s.Comma rest ≡ false → p.combinator hides ts ≡ Some (record { hides = hides; names = xs }, rest)
unfolding p.combinator
combinator_complete hides {ts = ts} d c = rw (names_from_complete d (length ts) [] (omega arith) c) refl

combinators_from_complete : {ts rest : Tokens} {cs : List Combinator} {q : Span} → AreCombinators ts cs (sign s.Semicolon q ∷ rest) → (k : ℕ) (found : List Combinator) → length ts ≤ k
    → p.combinators_from k found ts ≡ Some (found ++ cs, sign s.Semicolon q ∷ rest)
unfolding p.combinators_from same_sign
combinators_from_complete g.no_combinators zero found i = absurd (omega (arith, i))
combinators_from_complete g.no_combinators (suc k) found i = rw (append-nil found) refl
combinators_from_complete (g.shows d m) zero found i = absurd (omega (arith, i))
combinators_from_complete (g.shows {xs = xs} {cs = cs} d m) (suc k) found i =
    rw (
      combinator_complete false d (combinators_no_comma m refl),
      combinators_from_complete m k (found ++ record { hides = false; names = xs } ∷ []) (omega (arith, i, are_shown_shrink d)),
      append_assoc found (record { hides = false; names = xs } ∷ []) cs,
    ) refl
combinators_from_complete (g.hides d m) zero found i = absurd (omega (arith, i))
combinators_from_complete (g.hides {xs = xs} {cs = cs} d m) (suc k) found i =
    rw (
      combinator_complete true d (combinators_no_comma m refl),
      combinators_from_complete m k (found ++ record { hides = true; names = xs } ∷ []) (omega (arith, i, are_shown_shrink d)),
      append_assoc found (record { hides = true; names = xs } ∷ []) cs,
    ) refl

-- ---- the name of a library

library_name_complete : {ts rest : Tokens} → IsLibraryName ts rest → (k : ℕ) → length ts ≤ k → p.library_name_from k ts ≡ Some rest
unfolding p.library_name_from sign_at name_at same_sign
library_name_complete g.last_part zero i = absurd (omega (arith, i))
library_name_complete g.last_part (suc k) i = refl
library_name_complete (g.more_parts m) zero i = absurd (omega (arith, i))
library_name_complete (g.more_parts m) (suc k) i = rw (library_name_complete m k (omega (arith, i))) refl

past_library_complete : {ts rest : Tokens} → MayBeNamed ts rest → p.past_library ts ≡ Some rest
unfolding p.past_library
past_library_complete (g.no_library h) = rw h refl
past_library_complete (g.library {ts = ts} y d) = rw (y, library_name_complete d (suc (length ts)) (omega arith)) refl

module _ (inner : Inner) (n : ℕ) (complete : Complete n inner) where
  import_complete : {ts rest : Tokens} {x : Import} → IsImport ts x rest → length ts ≤ n → p.import inner ts ≡ Some (x, rest)
  unfolding p.import p.plain_text p.text_open piece text_close sign_at same_sign
  import_complete (g.import' {us = us} {p = o} {q = q} {r = r} {u = u} {mid = mid} {after = after} m d c) i =
      rw (
        past_metadata_complete inner n complete m (omega arith) (omega (arith, i)),
        named_here import_word o (token f.TextOpen q ∷ token (f.Piece us) r ∷ token f.TextClose u ∷ mid),
        prefix_complete d,
        combinators_from_complete c (length after) [] (omega arith),
      ) refl

  imports_from_complete : {ts rest : Tokens} {xs : List Import} → AreImports ts xs rest → (k : ℕ) (found : List Import) → length ts ≤ k → length ts ≤ n → p.imports_from inner k found ts ≡ Some (found ++ xs, rest)
  unfolding p.imports_from
  imports_from_complete (g.no_imports h) zero found i j = rw (append-nil found) refl
  imports_from_complete (g.no_imports h) (suc k) found i j = rw (h, append-nil found) refl
  imports_from_complete (g.imports y d m) zero found i j = absurd (omega (arith, i, import_shrinks d))
  imports_from_complete (g.imports {x = x} {xs = xs} y d m) (suc k) found i j =
      rw (
        y,
        import_complete d j,
        imports_from_complete m k (found ++ x ∷ []) (omega (arith, i, import_shrinks d)) (omega (arith, j, import_shrinks d)),
        append_assoc found (x ∷ []) xs,
      ) refl

  -- ---- declarations

  module _ (native : Bool) where
    declaration_complete : {ts rest : Tokens} {x : Declaration} → IsDeclaration native ts x rest → length ts ≤ n → p.declaration inner native ts ≡ Some (x, rest)
    unfolding p.declaration p.class p.alias p.full_class p.declaration_by sign_at word_at same_sign same_word
    declaration_complete (g.class m h a e t d) i =
        rw (
          past_metadata_complete inner n complete m (omega (arith, class_head_shrinks h)) (omega (arith, i)),
          class_begins h,
          class_head_complete h,
          a,
          may_extend_complete e (implement_no_comma t (unfold same_sign in refl)),
          may_implement_complete t (unfold same_sign in refl),
          members_complete inner n complete native d (omega (arith, i, metadata_shrinks m, class_head_shrinks h, may_extend_shrinks e, may_implement_shrinks t)) (unfold same_sign in refl) (omega arith),
        ) refl
    declaration_complete (g.alias m h d e t) i =
        rw (
          past_metadata_complete inner n complete m (omega (arith, class_head_shrinks h)) (omega (arith, i)),
          class_begins h,
          class_head_complete h,
          type_complete d,
          supertypes_complete e (implement_no_comma t (unfold same_sign in refl)),
          may_implement_complete t (unfold same_sign in refl),
        ) refl
    declaration_complete (g.function_declaration m c e d) i =
        rw (past_metadata_complete inner n complete m (omega (arith, function_shrinks d)) (omega (arith, i)), c, e, function_complete inner n complete native d (omega (arith, i, metadata_shrinks m))) refl
    declaration_complete (g.getter_declaration m c e d) i =
        rw (past_metadata_complete inner n complete m (omega (arith, getter_shrinks d)) (omega (arith, i)), c, e, getter_complete inner n complete native d (omega (arith, i, metadata_shrinks m))) refl
    declaration_complete (g.setter_declaration m c e d) i =
        rw (past_metadata_complete inner n complete m (omega (arith, setter_shrinks d)) (omega (arith, i)), c, e, setter_complete inner n complete native d (omega (arith, i, metadata_shrinks m))) refl
    declaration_complete (g.variables_declaration m c e d) i =
        rw (past_metadata_complete inner n complete m (omega (arith, are_variables_shrink d)) (omega (arith, i)), c, e, variables_complete inner n complete d (omega (arith, i, metadata_shrinks m))) refl

    declarations_step : (k : ℕ) (found : List Declaration) (ts : Tokens) → 0 < length ts
        → p.declarations_from inner native (suc k) found ts ≡ (p.declaration inner native ts >>= λ (x : Declaration × Tokens). p.declarations_from inner native k (found ++ x.0 ∷ []) x.1)
    unfolding p.declarations_from
    declarations_step k found [] l = absurd (omega (arith, l))
    declarations_step k found (t ∷ ts) l = refl

    declarations_from_complete : {ts : Tokens} {xs : List Declaration} → AreDeclarations native ts xs → (k : ℕ) (found : List Declaration) → length ts ≤ k → length ts ≤ n
        → p.declarations_from inner native k found ts ≡ Some (found ++ xs)
    unfolding p.declarations_from
    declarations_from_complete g.no_declarations zero found i j = rw (append-nil found) refl
    declarations_from_complete g.no_declarations (suc k) found i j = rw (append-nil found) refl
    declarations_from_complete (g.declarations d m) zero found i j = absurd (omega (arith, i, declaration_shrinks d))
    declarations_from_complete (g.declarations {x = x} {xs = xs} {ts = ts} d m) (suc k) found i j =
        declarations_step k found ts (omega (arith, declaration_shrinks d)) ∙ rw (
          declaration_complete d j,
          declarations_from_complete m k (found ++ x ∷ []) (omega (arith, i, declaration_shrinks d)) (omega (arith, j, declaration_shrinks d)),
          append_assoc found (x ∷ []) xs,
        ) refl

    file_is_complete : {ts : Tokens} {a : FileTree} → IsFile native ts a → length ts ≤ n → p.file inner native ts ≡ Some a
    unfolding p.file
    file_is_complete (g.file {mid = mid} {rest = rest} l m d) i =
        rw (
          past_library_complete l,
          imports_from_complete m (length mid) [] (omega arith) (omega (arith, i, may_be_named_shrinks l)),
          declarations_from_complete d (length rest) [] (omega arith) (omega (arith, i, may_be_named_shrinks l, are_imports_shrink m)),
        ) refl

pub file_complete : {native : Bool} {ts : Tokens} {a : FileTree} → IsFile native ts a → p.file_at native ts ≡ Some a
file_complete {native = native} {ts = ts} d = file_is_complete (inner_at (length ts)) (length ts) (all_complete (length ts)) native d (omega arith)
