-- What is parsed as a file is one.
use Rattle.std.proofs.Common.{◌≡◌, ℕ, zero, suc, ◌≤◌, Bool, true, false, List, [], ◌∷◌, ◌++◌, length, Some, refl, sym, ap, ◌∙◌, subst, arith}
use Rattle.std.specs.Prelude.{◌||◌}
use Rattle.dart_syntax.specs.declared.words.Word.TheVariants as w
use Rattle.dart_syntax.specs.declared.words.Sign.TheVariants as s
use Rattle.dart_syntax.specs.declared.tokens.Form.{Form}
use Rattle.dart_syntax.specs.declared.tokens.Form.TheVariants as f
use Rattle.dart_grammar.specs.declared.kinds.DeclarationKind.{DeclarationKind}
use Rattle.dart_grammar.specs.declared.kinds.DeclarationKind.TheVariants as k
use Rattle.dart_grammar.specs.declared.trees.Span.{Span}
use Rattle.dart_grammar.specs.declared.trees.Name.{Name}
use Rattle.dart_grammar.specs.declared.declarations.Import.{Import}
use Rattle.dart_grammar.specs.declared.declarations.Combinator.{Combinator}
use Rattle.dart_grammar.specs.declared.declarations.Declaration.{Declaration}
use Rattle.dart_grammar.specs.Marks.{Tokens, token, sign, ident, as_word, next_sign, behind}
use Rattle.dart_grammar.specs.Shapes.{metadata_end}
use Rattle.dart_grammar.specs.Trees.{span}
use Rattle.dart_grammar.specs.Grammar.{start, IsType, IsMetadata}
use Rattle.dart_grammar.specs.Declarations as g
use Rattle.dart_grammar.specs.Declarations.{library_word, import_word, deferred_word, show_word, hide_word, next_named, path_end, begins_class, begins_import, begins_library, kind_of, AreMembers, MayImplement, IsClassHead, IsDeclaration, AreDeclarations, MayHavePrefix, AreShown, AreCombinators, IsImport, AreImports, IsLibraryName, MayBeNamed, IsFile}
use Rattle.expr_parser.specs.Inner.{Inner}
use Rattle.expr_parser.specs.Knot.{inner_at}
use Rattle.expr_parser.proofs.Tools.{Says, none, done, bind, weaken, choice, sign_ahead, take_sign, take_word, take_name}
use Rattle.expr_parser.proofs.TypesSound.{type_sound}
use Rattle.expr_parser.proofs.PartsSound.{Sound, More, one_item, no_item, more_items, all_items, both_true, piece_sound, close_sound}
use Rattle.expr_parser.proofs.OperatorsSound.{named_ahead}
use Rattle.expr_parser.proofs.StatementsSound.{variables_sound}
use Rattle.expr_parser.proofs.Sound.{all_sound}
use Rattle.decl_parser.specs.Classes.{ClassHead}
use Rattle.decl_parser.specs.Files as p
use Rattle.decl_parser.proofs.BodiesSound.{take_named, function_sound, getter_sound, setter_sound}
use Rattle.decl_parser.proofs.ClassesSound.{supertypes_sound, may_extend_sound, may_implement_sound, class_head_sound}
use Rattle.decl_parser.proofs.MembersSound.{past_metadata_sound, members_sound}
use Rattle.decl_parser.proofs.Shrinks.{import_shrinks}

-- ---- texts with no interpolation

text_open_sound : (ts : Tokens) → Says (λ x. token f.TextOpen x.0 ∷ x.1 ≡ ts) (p.text_open ts)
unfolding p.text_open
text_open_sound [] = none
text_open_sound (t ∷ ts) = go t.form
  where
    go : (form : Form) → Says (λ x. token f.TextOpen x.0 ∷ x.1 ≡ token form (span t.from t.to) ∷ ts) (p.opens_text form (span t.from t.to) ts)
    go f.TextOpen = done refl
    go _ = none

record IsPlainText (ts : Tokens) (us : List ℕ) (at : Span) (rest : Tokens) : Type 0 where
  opened : Span
  piece : Span
  close : Span
  is : token f.TextOpen opened ∷ token (f.Piece us) piece ∷ token f.TextClose close ∷ rest ≡ ts
  same : span opened.from close.to ≡ at

plain_text_sound : (ts : Tokens) → Says (λ x. IsPlainText ts x.0.0 x.0.1 x.1) (p.plain_text ts)
unfolding p.plain_text
plain_text_sound ts = bind (text_open_sound ts) (λ o e. bind (piece_sound o.1) (λ us h. bind (close_sound us.1) (λ j c.
    done (record {
      opened = o.0;
      piece = h.0;
      close = c.0;
      is = ap (λ (t : Tokens). token f.TextOpen o.0 ∷ token (f.Piece us.0) h.0 ∷ t) c.1 ∙ ap (λ (t : Tokens). token f.TextOpen o.0 ∷ t) h.1 ∙ e;
      same = ap (span o.0.from) c.2;
    }))))

-- ---- imports

prefix_sound : (ts : Tokens) → Says (λ x. MayHavePrefix ts x.0.0 x.0.1 x.1) (p.may_have_prefix ts)
unfolding p.may_have_prefix
prefix_sound ts = choice (next_named deferred_word ts)
    (λ y. let a = named_ahead deferred_word ts y in
    take_named as_word (behind ts) (λ t. ident deferred_word a.0 ∷ t ≡ ts) a.1 (λ q e. take_name q.1 (λ t. ident deferred_word a.0 ∷ ident as_word q.0 ∷ t ≡ ts) e
    (λ x h. done (subst (λ (t : Tokens). MayHavePrefix t true (Some x.0) x.1) h g.deferred))))
    (λ n. choice (next_named as_word ts)
    (λ y. let a = named_ahead as_word ts y in
    take_name (behind ts) (λ t. ident as_word a.0 ∷ t ≡ ts) a.1 (λ x h. done (subst (λ (t : Tokens). MayHavePrefix t false (Some x.0) x.1) h g.prefix)))
    (λ o. done (g.no_prefix n o)))

names_from_sound : (n : ℕ) (found : List Name) (ts : Tokens) → Says (λ x. More (λ xs. AreShown ts xs x.1) found x.0) (p.names_from n found ts)
unfolding p.names_from
names_from_sound zero found ts = none
names_from_sound (suc n) found ts = take_name ts (λ t. t ≡ ts) refl (λ x e. choice (next_sign s.Comma x.1)
    (λ y. let a = sign_ahead s.Comma x.1 y in
    weaken (λ z m. more_items x.0 (λ xs k. subst (λ (t : Tokens). AreShown t (x.0 ∷ xs) z.1) (ap (λ (t : Tokens). ident x.0.text x.0.span ∷ t) a.1 ∙ e) (g.more_shown k)) m)
    (names_from_sound n (found ++ x.0 ∷ []) (behind x.1)))
    (λ _. done (one_item x.0 (subst (λ (t : Tokens). AreShown t (x.0 ∷ []) x.1) e g.last_shown))))

combinator_sound : (hides : Bool) (ts : Tokens) → Says (λ x. (hides ≡ x.0.hides) × AreShown ts x.0.names x.1) (p.combinator hides ts)
unfolding p.combinator
combinator_sound hides ts = bind (names_from_sound (length ts) [] ts) (λ xs m. done (refl, all_items m))

show_true : (a b : Bool) → (a || b) ≡ true → b ≡ false → a ≡ true
show_true true b h n = refl
show_true false b h n = absurd (let e : b ≡ true = h in cc)

one_combinator : (c : Combinator) (b : Bool) {xs : List Combinator} {ts mid rest : Tokens} → (next_named show_word ts || next_named hide_word ts) ≡ true → next_named hide_word ts ≡ b → b ≡ c.hides
    → AreShown (behind ts) c.names mid → AreCombinators mid xs rest → AreCombinators ts (c ∷ xs) rest
one_combinator c true {xs = xs} {ts = ts} {rest = rest} h e same d k =
    let a = named_ahead hide_word ts e in
    subst (λ (b : Bool). AreCombinators ts (record { hides = b; names = c.names } ∷ xs) rest) same (subst (λ (t : Tokens). AreCombinators t (record { hides = true; names = c.names } ∷ xs) rest) a.1 (g.hides d k))
one_combinator c false {xs = xs} {ts = ts} {rest = rest} h e same d k =
    let a = named_ahead show_word ts (show_true (next_named show_word ts) (next_named hide_word ts) h e) in
    subst (λ (b : Bool). AreCombinators ts (record { hides = b; names = c.names } ∷ xs) rest) same (subst (λ (t : Tokens). AreCombinators t (record { hides = false; names = c.names } ∷ xs) rest) a.1 (g.shows d k))

combinators_from_sound : (n : ℕ) (found : List Combinator) (ts : Tokens) → Says (λ x. More (λ xs. AreCombinators ts xs x.1) found x.0) (p.combinators_from n found ts)
unfolding p.combinators_from
combinators_from_sound zero found ts = none
combinators_from_sound (suc n) found ts = choice (next_named show_word ts || next_named hide_word ts)
    (λ y. bind (combinator_sound (next_named hide_word ts) (behind ts)) (λ c d.
    weaken (λ z m. more_items c.0 (λ xs k. one_combinator c.0 (next_named hide_word ts) y refl d.0 d.1 k) m) (combinators_from_sound n (found ++ c.0 ∷ []) c.1)))
    (λ _. done (no_item g.no_combinators))

-- ---- the name of a library

library_name_from_sound : (n : ℕ) (ts : Tokens) → Says (IsLibraryName ts) (p.library_name_from n ts)
unfolding p.library_name_from
library_name_from_sound zero ts = none
library_name_from_sound (suc n) ts = take_name ts (λ t. t ≡ ts) refl (λ x e. choice (next_sign s.Dot x.1)
    (λ y. let a = sign_ahead s.Dot x.1 y in
    weaken (λ rest d. subst (λ (t : Tokens). IsLibraryName t rest) (ap (λ (t : Tokens). ident x.0.text x.0.span ∷ t) a.1 ∙ e) (g.more_parts d)) (library_name_from_sound n (behind x.1)))
    (λ _. take_sign s.Semicolon x.1 (λ t. ident x.0.text x.0.span ∷ t ≡ ts) e (λ q h. done (subst (λ (t : Tokens). IsLibraryName t q.1) h g.last_part))))

past_library_sound : (ts : Tokens) → Says (MayBeNamed ts) (p.past_library ts)
unfolding p.past_library
past_library_sound ts = choice (begins_library ts)
    (λ y. let a = named_ahead library_word ts (both_true (next_named library_word ts) _ y) in
    weaken (λ rest d. subst (λ (t : Tokens). MayBeNamed t rest) a.1 (g.library (ap begins_library a.1 ∙ y) d)) (library_name_from_sound (length ts) (behind ts)))
    (λ n. done (g.no_library n))

module _ (inner : Inner) (sound : Sound inner) where
  import_sound : (ts : Tokens) → Says (λ x. IsImport ts x.0 x.1) (p.import inner ts)
  unfolding p.import
  import_sound ts = bind (past_metadata_sound inner sound ts) (λ mid m. take_named import_word mid (λ t. IsMetadata ts t) m (λ o e. bind (plain_text_sound o.1) (λ u h.
      bind (prefix_sound u.1) (λ x d. bind (combinators_from_sound (length x.1) [] x.1) (λ cs i. take_sign s.Semicolon cs.1 (λ t. AreCombinators x.1 cs.0 t) (all_items i) (λ q j.
      done (subst (λ (at : Span). IsImport ts (record { span = span (start ts) q.0.to; uri = u.0.0; uri_span = at; is_deferred = x.0.0; prefix = x.0.1; combinators = cs.0 }) q.1) h.same
      (g.import' (subst (λ (t : Tokens). IsMetadata ts (ident import_word o.0 ∷ t)) (sym h.is) e) d j))))))))

  imports_from_sound : (n : ℕ) (found : List Import) (ts : Tokens) → length ts ≤ n → Says (λ x. More (λ xs. AreImports ts xs x.1) found x.0) (p.imports_from inner n found ts)
  unfolding p.imports_from metadata_end
  imports_from_sound zero found [] l = done (no_item (g.no_imports refl))
  imports_from_sound zero found (t ∷ ts) l = absurd (omega (arith, l))
  imports_from_sound (suc n) found ts l = choice (begins_import ts)
      (λ y. bind (import_sound ts) (λ x d. weaken (λ z m. more_items x.0 (λ xs k. g.imports y d k) m) (imports_from_sound n (found ++ x.0 ∷ []) x.1 (omega (arith, l, import_shrinks d)))))
      (λ y. done (no_item (g.no_imports y)))

  module _ (native : Bool) where
    alias_sound : (h : ClassHead) (q : Span) (ts mid after : Tokens) → IsMetadata ts mid → IsClassHead mid h.is_abstract h.name h.type_parameters (sign s.Assign q ∷ after)
        → Says (λ x. IsDeclaration native ts x.0 x.1) (p.alias h (start ts) after)
    unfolding p.alias
    alias_sound h q ts mid after m c = bind (type_sound after) (λ y d. take_word w.With y.1 (λ t. IsType after y.0.0 y.0.1 t) d (λ o e. bind (supertypes_sound o.1) (λ ys i.
        bind (may_implement_sound ys.1) (λ zs j. take_sign s.Semicolon zs.1 (λ t. MayImplement ys.1 zs.0 t) j (λ r l. done (g.alias m c e i l))))))

    full_class_sound : (h : ClassHead) (ts mid after : Tokens) → IsMetadata ts mid → IsClassHead mid h.is_abstract h.name h.type_parameters after → next_sign s.Assign after ≡ false
        → Says (λ x. IsDeclaration native ts x.0 x.1) (p.full_class inner native h (start ts) after)
    unfolding p.full_class
    full_class_sound h ts mid after m c n = bind (may_extend_sound after) (λ y d. bind (may_implement_sound y.1) (λ zs e. take_sign s.OpenBrace zs.1 (λ t. MayImplement y.1 zs.0 t) e (λ o i.
        bind (members_sound inner sound native h.name.text o.1) (λ ms j. take_sign s.CloseBrace ms.1 (λ t. AreMembers native h.name.text o.1 ms.0 t) j (λ r l. done (g.class m c n d i l))))))

    class_sound : (ts mid : Tokens) → IsMetadata ts mid → Says (λ x. IsDeclaration native ts x.0 x.1) (p.class inner native (start ts) mid)
    unfolding p.class
    class_sound ts mid m = bind (class_head_sound mid) (λ h c. choice (next_sign s.Assign h.1)
        (λ y. let a = sign_ahead s.Assign h.1 y in
        alias_sound h.0 a.0 ts mid (behind h.1) m (subst (λ (t : Tokens). IsClassHead mid h.0.is_abstract h.0.name h.0.type_parameters t) (sym a.1) c))
        (λ n. full_class_sound h.0 ts mid h.1 m c n))

    declaration_by_sound : (kind : DeclarationKind) (ts mid : Tokens) → kind_of mid ≡ kind → IsMetadata ts mid → begins_class mid ≡ false
        → Says (λ x. IsDeclaration native ts x.0 x.1) (p.declaration_by inner native kind (start ts) mid)
    unfolding p.declaration_by
    declaration_by_sound k.Function ts mid e m c = bind (function_sound inner sound native false (start ts) mid) (λ x d. done (g.function_declaration m c e d))
    declaration_by_sound k.Getter ts mid e m c = bind (getter_sound inner sound native false (start ts) mid) (λ x d. done (g.getter_declaration m c e d))
    declaration_by_sound k.Setter ts mid e m c = bind (setter_sound inner sound native false (start ts) mid) (λ x d. done (g.setter_declaration m c e d))
    declaration_by_sound k.Variables ts mid e m c = bind (variables_sound inner sound mid) (λ x d. done (g.variables_declaration m c e d))
    declaration_by_sound k.Operator ts mid e m c = none

    declaration_sound : (ts : Tokens) → Says (λ x. IsDeclaration native ts x.0 x.1) (p.declaration inner native ts)
    unfolding p.declaration
    declaration_sound ts = bind (past_metadata_sound inner sound ts) (λ mid m. choice (begins_class mid)
        (λ _. class_sound ts mid m)
        (λ n. declaration_by_sound (kind_of mid) ts mid refl m n))

    declarations_from_sound : (n : ℕ) (found : List Declaration) (ts : Tokens) → Says (More (AreDeclarations native ts) found) (p.declarations_from inner native n found ts)
    unfolding p.declarations_from
    declarations_from_sound zero found [] = done (no_item g.no_declarations)
    declarations_from_sound (suc n) found [] = done (no_item g.no_declarations)
    declarations_from_sound zero found (t ∷ ts) = none
    declarations_from_sound (suc n) found (t ∷ ts) = bind (declaration_sound (t ∷ ts)) (λ x d.
        weaken (λ z m. more_items x.0 (λ xs k. g.declarations d k) m) (declarations_from_sound n (found ++ x.0 ∷ []) x.1))

    file_is_sound : (ts : Tokens) → Says (IsFile native ts) (p.file inner native ts)
    unfolding p.file
    file_is_sound ts = bind (past_library_sound ts) (λ mid l. bind (imports_from_sound (length mid) [] mid (omega arith)) (λ xs m.
        bind (declarations_from_sound (length xs.1) [] xs.1) (λ ys d. done (g.file l (all_items m) (all_items d)))))

pub file_sound : (native : Bool) (ts : Tokens) → Says (IsFile native ts) (p.file_at native ts)
file_sound native ts = file_is_sound (inner_at (length ts)) (all_sound (length ts)) native ts
