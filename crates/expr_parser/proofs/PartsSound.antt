-- What is parsed as arguments, parameters, blocks and texts is derived, as far as what nests is.
use Rattle.std.proofs.Common.{◌≡◌, ℕ, zero, suc, Bool, true, false, List, [], ◌∷◌, ◌++◌, length, Some, refl, sym, ap, ◌∙◌, subst, ◌⊎◌, inl, inr, append_assoc}
use Rattle.std.proofs.lemmas.List.{append-nil}
use Rattle.std.specs.Prelude.{not, ◌&&◌, if◌then◌else◌}
use Rattle.dart_syntax.specs.declared.words.Word.TheVariants as w
use Rattle.dart_syntax.specs.declared.words.Sign.{Sign}
use Rattle.dart_syntax.specs.declared.words.Sign.TheVariants as s
use Rattle.dart_syntax.specs.declared.tokens.Form.{Form}
use Rattle.dart_syntax.specs.declared.tokens.Form.TheVariants as f
use Rattle.dart_grammar.specs.declared.trees.Span.{Span}
use Rattle.dart_grammar.specs.declared.trees.Name.{Name}
use Rattle.dart_grammar.specs.declared.trees.Expr.{Expr}
use Rattle.dart_grammar.specs.declared.trees.Stmt.{Stmt}
use Rattle.dart_grammar.specs.declared.trees.Body.TheVariants as bd
use Rattle.dart_grammar.specs.declared.trees.Entry.{Entry}
use Rattle.dart_grammar.specs.declared.trees.Interpolation.{Interpolation}
use Rattle.dart_grammar.specs.declared.trees.OptionalParameter.{OptionalParameter}
use Rattle.dart_grammar.specs.declared.trees.Parameter.{Parameter}
use Rattle.dart_grammar.specs.Marks.{Tokens, token, word, sign, is_text_open, next, next_word, next_sign, behind, looseness}
use Rattle.dart_grammar.specs.Trees.{span, span_of}
use Rattle.dart_grammar.specs.Grammar as g
use Rattle.dart_grammar.specs.Grammar.{start, IsExpr, AreExprs, AreEntries, AreArguments, MayHaveArguments, IsLastComma, IsParameters, AreParameters, AreOptional, IsOptional, IsParameter, MayBeFinal, MayHaveThis, MayHaveParameters, IsMetadata, AreMetadataNames, IsStmt, AreStmts, IsBlock, IsLiteralBody, IsLocalBody, AreTexts, IsText, AreParts}
use Rattle.expr_parser.specs.Inner.{Inner}
use Rattle.expr_parser.specs.Lists as l
use Rattle.expr_parser.specs.Parameters as r
use Rattle.expr_parser.specs.Blocks as b
use Rattle.expr_parser.specs.Texts as x
use Rattle.expr_parser.specs.declared.texts.Merged.{Merged}
use Rattle.expr_parser.specs.Texts.{is_enter, merged}
use Rattle.expr_parser.proofs.Tools.{Says, none, done, bind, weaken, choice, sign_ahead, word_ahead, take_sign, take_word, take_name}
use Rattle.expr_parser.proofs.TypesSound.{dotted_sound, past_result_sound}
use Rattle.expr_parser.proofs.Merging.{merged_assoc}

-- What is answered of what nests is derived, and a whole expression ends where the next token does not join.
pub record Sound (g : Inner) : Type 0 where
  pub expr : (ts : Tokens) → Says (λ x. IsExpr ts x.0 x.1 × (looseness x.1 ≡ 10)) (g.expr ts)
  pub stmt : (ts : Tokens) → Says (λ x. IsStmt ts x.0 x.1) (g.stmt ts)
  pub parameters : (ts : Tokens) → Says (λ x. IsParameters ts x.0 x.1) (g.parameters ts)

-- what stands before is found, and then these items
pub record More {A : Type 0} (P : List A → Type 0) (found all : List A) : Type 0 where
  pub items : List A
  pub are : found ++ items ≡ all
  pub derived : P items

pub one_item : {A : Type 0} {P : List A → Type 0} {found : List A} (a : A) → P (a ∷ []) → More P found (found ++ a ∷ [])
one_item a h = record { items = a ∷ []; are = refl; derived = h }

pub no_item : {A : Type 0} {P : List A → Type 0} {found : List A} → P [] → More P found found
no_item {found = found} h = record { items = []; are = append-nil found; derived = h }

pub more_items : {A : Type 0} {P Q : List A → Type 0} {found all : List A} (a : A) → ((xs : List A) → Q xs → P (a ∷ xs)) → More Q (found ++ a ∷ []) all → More P found all
more_items {found = found} a k m = record { items = a ∷ m.items; are = sym (append_assoc found (a ∷ []) m.items) ∙ m.are; derived = k m.items m.derived }

pub all_items : {A : Type 0} {P : List A → Type 0} {all : List A} → More P [] all → P all
all_items {P = P} m = subst P m.are m.derived

pub both_true : (a b : Bool) → (a && b) ≡ true → a ≡ true
both_true true b h = refl
both_true false b h = absurd cc

pub last_comma_sound : (close : Sign) (ts : Tokens) → Says (λ x. IsLastComma ts close x.0 x.1) (l.last_comma close ts)
unfolding l.last_comma
last_comma_sound close ts = choice (next_sign s.Comma ts)
    (λ y. let a = sign_ahead s.Comma ts y in
    take_sign close (behind ts) (λ t. sign s.Comma a.0 ∷ t ≡ ts) a.1 (λ q e. done (subst (λ (t : Tokens). IsLastComma t close q.0.to q.1) e g.comma)))
    (λ n. take_sign close ts (λ t. t ≡ ts) refl (λ q e. done (subst (λ (t : Tokens). IsLastComma t close q.0.to q.1) e g.no_comma)))

past_metadata_names_sound : (ts : Tokens) → Says (λ rest. (xs : List Name) × AreMetadataNames ts xs rest) (r.past_metadata_names ts)
unfolding r.past_metadata_names
past_metadata_names_sound ts = bind (dotted_sound ts) (λ x d. choice (next_sign s.Dot x.1)
    (λ y. let a = sign_ahead s.Dot x.1 y in
    take_name (behind x.1) (λ t. (sign s.Dot a.0 ∷ t) ≡ x.1) a.1
    (λ z e. done (x.0.0 ++ z.0 ∷ [], g.three (subst (λ (t : Tokens). g.IsDotted ts x.0.0 x.0.1 t) (sym e) d))))
    (λ n. done (x.0.0, g.up_to_two d n)))

finality_sound : (ts : Tokens) → MayBeFinal ts (r.finality ts).0 (r.finality ts).1
finality_sound ts = go (next_word w.Var ts) (next_word w.Final ts) refl refl
  where
    by : Bool → Bool → Bool × Tokens
    by a c = if a then (false, behind ts) else (if c then (true, behind ts) else (false, ts))

    go : (a c : Bool) → next_word w.Var ts ≡ a → next_word w.Final ts ≡ c → MayBeFinal ts (by a c).0 (by a c).1
    go true c y n = let a = word_ahead w.Var ts y in subst (λ (t : Tokens). MayBeFinal t false (behind ts)) a.1 g.var
    go false true y n = let a = word_ahead w.Final ts n in subst (λ (t : Tokens). MayBeFinal t true (behind ts)) a.1 g.final
    go false false y n = g.neither y n

this_sound : (ts : Tokens) → Says (λ x. MayHaveThis ts x.0 x.1) (r.this_at ts)
unfolding r.this_at
this_sound ts = choice (next_word w.This ts)
    (λ y. take_word w.This ts (λ t. t ≡ ts) refl (λ p e. take_sign s.Dot p.1 (λ t. word w.This p.0 ∷ t ≡ ts) e
    (λ q o. done (subst (λ (t : Tokens). MayHaveThis t (Some p.0) q.1) o g.has_this))))
    (λ n. done (g.no_this n))

-- ---- tokens of texts

enter_ahead : (ts : Tokens) → next is_enter ts ≡ true → (p : Span) × (token f.Enter p ∷ behind ts ≡ ts)
enter_ahead [] h = absurd cc
enter_ahead (t ∷ ts) h = (span t.from t.to, ap (λ (form : Form). token form (span t.from t.to) ∷ ts) (go t.form h))
  where
    go : (form : Form) → is_enter form ≡ true → f.Enter ≡ form
    go f.Enter e = refl
    go _ e = absurd cc

pub text_ahead : (ts : Tokens) → next is_text_open ts ≡ true → (p : Span) × (token f.TextOpen p ∷ behind ts ≡ ts)
text_ahead [] h = absurd cc
text_ahead (t ∷ ts) h = (span t.from t.to, ap (λ (form : Form). token form (span t.from t.to) ∷ ts) (go t.form h))
  where
    go : (form : Form) → is_text_open form ≡ true → f.TextOpen ≡ form
    go f.TextOpen e = refl
    go _ e = absurd cc

leave_sound : (ts : Tokens) → Says (λ rest. (p : Span) × (token f.Leave p ∷ rest ≡ ts)) (x.past_leave ts)
unfolding x.past_leave
leave_sound [] = none
leave_sound (t ∷ ts) = go t.form
  where
    go : (form : Form) → Says (λ rest. (p : Span) × (token f.Leave p ∷ rest ≡ token form (span t.from t.to) ∷ ts)) (x.leave_by form ts)
    go f.Leave = done (span t.from t.to, refl)
    go _ = none

pub piece_sound : (ts : Tokens) → Says (λ y. (p : Span) × (token (f.Piece y.0) p ∷ y.1 ≡ ts)) (x.piece ts)
unfolding x.piece
piece_sound [] = none
piece_sound (t ∷ ts) = go t.form
  where
    go : (form : Form) → Says (λ y. (p : Span) × (token (f.Piece y.0) p ∷ y.1 ≡ token form (span t.from t.to) ∷ ts)) (x.piece_by form ts)
    go (f.Piece us) = done (span t.from t.to, refl)
    go _ = none

pub close_sound : (ts : Tokens) → Says (λ y. (p : Span) × (token f.TextClose p ∷ y.1 ≡ ts) × (p.to ≡ y.0)) (x.text_close ts)
unfolding x.text_close
close_sound [] = none
close_sound (t ∷ ts) = go t.form
  where
    go : (form : Form) → Says (λ y. (p : Span) × (token f.TextClose p ∷ y.1 ≡ token form (span t.from t.to) ∷ ts) × (p.to ≡ y.0)) (x.close_by form t.to ts)
    go f.TextClose = done (span t.from t.to, refl, refl)
    go _ = none

module _ (inner : Inner) (sound : Sound inner) where
  exprs_from_sound : (close : Sign) (n : ℕ) (found : List Expr) (ts : Tokens) → Says (λ x. More (λ xs. AreExprs ts xs x.1) found x.0) (l.exprs_from inner close n found ts)
  unfolding l.exprs_from
  exprs_from_sound close zero found ts = none
  exprs_from_sound close (suc n) found ts = bind (sound.expr ts) (λ x e. choice (l.goes_on close x.1)
      (λ y. let a = sign_ahead s.Comma x.1 (both_true (next_sign s.Comma x.1) (not (next_sign close (behind x.1))) y) in
      weaken (λ z m. more_items x.0 (λ xs h. g.more_exprs (subst (λ (t : Tokens). IsExpr ts x.0 t) (sym a.1) e.0) h) m) (exprs_from_sound close n (found ++ x.0 ∷ []) (behind x.1)))
      (λ y. done (one_item x.0 (g.last_expr e.0))))

  pub exprs_sound : (close : Sign) (ts : Tokens) → Says (λ x. AreExprs ts x.0 x.1) (l.exprs inner close ts)
  unfolding l.exprs
  exprs_sound close ts = weaken (λ x m. all_items m) (exprs_from_sound close (length ts) [] ts)

  -- an entry, whatever stands behind it
  record Enters (ts : Tokens) (x : Entry) (rest : Tokens) : Type 0 where
    colon : Span
    mid : Tokens
    key : IsExpr ts x.key (sign s.Colon colon ∷ mid)
    value : IsExpr mid x.value rest

  entry_value_sound : (a : Expr) (before ts : Tokens) → IsExpr before a ts → Says (λ x. Enters before (record { key = a; value = x.0 }) x.1) (l.entry_value inner ts)
  unfolding l.entry_value
  entry_value_sound a before ts d = take_sign s.Colon ts (λ t. IsExpr before a t) d
      (λ c k. weaken (λ x o. record { colon = c.0; mid = c.1; key = k; value = o.0 }) (sound.expr c.1))

  entry_sound : (ts : Tokens) → Says (λ x. Enters ts x.0 x.1) (l.entry inner ts)
  unfolding l.entry
  entry_sound ts = bind (sound.expr ts) (λ a e. bind (entry_value_sound a.0 ts a.1 e.0) (λ v h. done h))

  entries_from_sound : (n : ℕ) (found : List Entry) (ts : Tokens) → Says (λ x. More (λ xs. AreEntries ts xs x.1) found x.0) (l.entries_from inner n found ts)
  unfolding l.entries_from
  entries_from_sound zero found ts = none
  entries_from_sound (suc n) found ts = bind (entry_sound ts) (λ x e. choice (l.goes_on s.CloseBrace x.1)
      (λ y. let a = sign_ahead s.Comma x.1 (both_true (next_sign s.Comma x.1) (not (next_sign s.CloseBrace (behind x.1))) y) in
      weaken (λ z m. more_items x.0 (λ xs h. g.more_entries e.key (subst (λ (t : Tokens). IsExpr e.mid x.0.value t) (sym a.1) e.value) h) m) (entries_from_sound n (found ++ x.0 ∷ []) (behind x.1)))
      (λ y. done (one_item x.0 (g.last_entry e.key e.value))))

  pub entries_sound : (ts : Tokens) → Says (λ x. AreEntries ts x.0 x.1) (l.entries inner ts)
  unfolding l.entries
  entries_sound ts = weaken (λ x m. all_items m) (entries_from_sound (length ts) [] ts)

  pub arguments_sound : (ts : Tokens) → Says (λ x. AreArguments ts x.0 x.1) (l.arguments inner ts)
  unfolding l.arguments
  arguments_sound ts = take_sign s.OpenParen ts (λ t. t ≡ ts) refl (λ p e. choice (next_sign s.CloseParen p.1)
      (λ y. take_sign s.CloseParen p.1 (λ t. sign s.OpenParen p.0 ∷ t ≡ ts) e
      (λ q o. done (subst (λ (t : Tokens). AreArguments t (record { span = span p.0.from q.0.to; items = [] }) q.1) o g.no_arguments)))
      (λ n. bind (exprs_sound s.CloseParen p.1) (λ xs h. take_sign s.CloseParen xs.1 (λ t. AreExprs p.1 xs.0 t) h
      (λ q o. done (subst (λ (t : Tokens). AreArguments t (record { span = span p.0.from q.0.to; items = xs.0 }) q.1) e (g.arguments o))))))

  past_arguments_sound : (ts : Tokens) → Says (MayHaveArguments ts) (l.past_arguments inner ts)
  unfolding l.past_arguments
  past_arguments_sound ts = choice (next_sign s.OpenParen ts) (λ y. bind (arguments_sound ts) (λ a h. done (g.has_args h))) (λ n. done (g.no_args n))

  -- ---- parameters

  pub metadata_from_sound : (n : ℕ) (ts : Tokens) → Says (IsMetadata ts) (r.metadata_from inner n ts)
  unfolding r.metadata_from
  metadata_from_sound zero ts = none
  metadata_from_sound (suc n) ts = choice (next_sign s.At ts)
      (λ y. let a = sign_ahead s.At ts y in
      bind (past_metadata_names_sound (behind ts)) (λ mid k. bind (past_arguments_sound mid) (λ after o. weaken (λ rest h. subst (λ (t : Tokens). IsMetadata t rest) a.1 (g.metadata k.1 o h)) (metadata_from_sound n after))))
      (λ y. done (g.no_metadata y))

  nested_sound : (j : ℕ) (ts : Tokens) → Says (λ x. MayHaveParameters j ts x.0 x.1) (r.nested_at inner j ts)
  unfolding r.nested_at
  nested_sound j ts = choice (next_sign s.OpenParen ts) (λ y. bind (sound.parameters ts) (λ x h. done (g.nested h))) (λ n. done (g.no_nested n))

  declared_parameter_sound : (ts mid : Tokens) (is_final : Bool) (after : Tokens) → IsMetadata ts mid → MayBeFinal mid is_final after
      → Says (λ x. IsParameter ts x.0 x.1) (r.declared_parameter inner (start ts) is_final after)
  unfolding r.declared_parameter
  declared_parameter_sound ts mid is_final after m q = bind (past_result_sound after) (λ late k. bind (this_sound late) (λ this o.
      take_name this.1 (λ t. MayHaveThis late this.0 t) o (λ x v. bind (nested_sound x.0.span.to x.1) (λ j h. done (g.parameter m q k v h)))))

  pub parameter_sound : (ts : Tokens) → Says (λ x. IsParameter ts x.0 x.1) (r.parameter inner ts)
  unfolding r.parameter r.past_metadata
  parameter_sound ts = bind (metadata_from_sound (length ts) ts) (λ mid m. declared_parameter_sound ts mid (r.finality mid).0 (r.finality mid).1 m (finality_sound mid))

  optional_parameter_sound : (ts : Tokens) → Says (λ x. IsOptional ts x.0 x.1) (r.optional_parameter inner ts)
  unfolding r.optional_parameter
  optional_parameter_sound ts = bind (parameter_sound ts) (λ x h. choice (next_sign s.Assign x.1)
      (λ y. let a = sign_ahead s.Assign x.1 y in
      bind (sound.expr (behind x.1)) (λ v o. done (g.default (subst (λ (t : Tokens). IsParameter ts x.0 t) (sym a.1) h) o.0)))
      (λ n. done (g.no_default h)))

  optional_from_sound : (n : ℕ) (found : List OptionalParameter) (ts : Tokens) → Says (λ x. More (λ xs. AreOptional ts xs x.1) found x.0) (r.optional_from inner n found ts)
  unfolding r.optional_from
  optional_from_sound zero found ts = none
  optional_from_sound (suc n) found ts = bind (optional_parameter_sound ts) (λ x h. choice (next_sign s.Comma x.1)
      (λ y. let a = sign_ahead s.Comma x.1 y in
      weaken (λ z m. more_items x.0 (λ xs k. g.more_optional (subst (λ (t : Tokens). IsOptional ts x.0 t) (sym a.1) h) k) m) (optional_from_sound n (found ++ x.0 ∷ []) (behind x.1)))
      (λ y. done (one_item x.0 (g.last_optional h))))

  optional_sound : (ts : Tokens) → Says (λ x. AreParameters ts [] x.0 x.1) (r.optional inner ts)
  unfolding r.optional
  optional_sound ts = take_sign s.OpenBracket ts (λ t. t ≡ ts) refl (λ p e. bind (optional_from_sound (length p.1) [] p.1)
      (λ xs m. take_sign s.CloseBracket xs.1 (λ t. AreOptional p.1 xs.0 t) (all_items m)
      (λ q o. done (subst (λ (t : Tokens). AreParameters t [] xs.0 q.1) e (g.optional o)))))

  parameters_from_sound : (n : ℕ) (found : List Parameter) (ts : Tokens) → Says (λ x. More (λ xs. AreParameters ts xs x.0.1 x.1) found x.0.0) (r.parameters_from inner n found ts)
  unfolding r.parameters_from
  parameters_from_sound zero found ts = none
  parameters_from_sound (suc n) found ts = choice (next_sign s.OpenBracket ts)
      (λ y. bind (optional_sound ts) (λ ys h. done (no_item h)))
      (λ o. bind (parameter_sound ts) (λ x h. choice (next_sign s.Comma x.1)
      (λ y. let a = sign_ahead s.Comma x.1 y in
      weaken (λ z m. more_items x.0 (λ xs k. g.more_parameters (subst (λ (t : Tokens). IsParameter ts x.0 t) (sym a.1) h) k) m) (parameters_from_sound n (found ++ x.0 ∷ []) (behind x.1)))
      (λ y. done (one_item x.0 (g.last_parameter h)))))

  pub parameters_sound : (ts : Tokens) → Says (λ x. IsParameters ts x.0 x.1) (r.parameters inner ts)
  unfolding r.parameters
  parameters_sound ts = take_sign s.OpenParen ts (λ t. t ≡ ts) refl (λ p e. choice (next_sign s.CloseParen p.1)
      (λ y. take_sign s.CloseParen p.1 (λ t. sign s.OpenParen p.0 ∷ t ≡ ts) e
      (λ q o. done (subst (λ (t : Tokens). IsParameters t (record { span = span p.0.from q.0.to; required = []; optional = [] }) q.1) o g.no_parameters)))
      (λ n. bind (parameters_from_sound (length p.1) [] p.1) (λ xs m. take_sign s.CloseParen xs.1 (λ t. AreParameters p.1 xs.0.0 xs.0.1 t) (all_items m)
      (λ q o. done (subst (λ (t : Tokens). IsParameters t (record { span = span p.0.from q.0.to; required = xs.0.0; optional = xs.0.1 }) q.1) e (g.parameters o))))))

  -- ---- blocks

  stmts_from_sound : (n : ℕ) (found : List Stmt) (ts : Tokens) → Says (λ x. More (λ xs. AreStmts ts xs x.1) found x.0) (b.stmts_from inner n found ts)
  unfolding b.stmts_from
  stmts_from_sound zero found ts = none
  stmts_from_sound (suc n) found ts = choice (next_sign s.CloseBrace ts)
      (λ y. done (no_item g.no_stmts))
      (λ y. bind (sound.stmt ts) (λ x h. weaken (λ z m. more_items x.0 (λ xs k. g.stmts h k) m) (stmts_from_sound n (found ++ x.0 ∷ []) x.1)))

  pub block_sound : (ts : Tokens) → Says (λ x. IsBlock ts x.0.0 x.0.1 x.1) (b.block inner ts)
  unfolding b.block
  block_sound ts = take_sign s.OpenBrace ts (λ t. t ≡ ts) refl (λ p e. bind (stmts_from_sound (length p.1) [] p.1)
      (λ xs m. take_sign s.CloseBrace xs.1 (λ t. AreStmts p.1 xs.0 t) (all_items m) (λ q o. done (subst (λ (t : Tokens). IsBlock t xs.0 q.0.to q.1) e (g.braces o)))))

  pub literal_body_sound : (ts : Tokens) → Says (λ x. IsLiteralBody ts x.0.0 x.0.1 x.1) (b.literal_body inner ts)
  unfolding b.literal_body
  literal_body_sound ts = choice (next_sign s.Arrow ts)
      (λ y. let a = sign_ahead s.Arrow ts y in
      bind (sound.expr (behind ts)) (λ v h. done (subst (λ (t : Tokens). IsLiteralBody t (bd.Gives v.0) (span_of v.0).to v.1) a.1 (g.gives h.0 h.1))))
      (λ n. bind (block_sound ts) (λ x h. done (g.block h)))

  pub local_body_sound : (ts : Tokens) → Says (λ x. IsLocalBody ts x.0.0 x.0.1 x.1) (b.local_body inner ts)
  unfolding b.local_body
  local_body_sound ts = choice (next_sign s.Arrow ts)
      (λ y. let a = sign_ahead s.Arrow ts y in
      bind (sound.expr (behind ts)) (λ v h. take_sign s.Semicolon v.1 (λ t. IsExpr (behind ts) v.0 t) h.0
      (λ q o. done (subst (λ (t : Tokens). IsLocalBody t (bd.Gives v.0) q.0.to q.1) a.1 (g.gives_local o)))))
      (λ n. bind (block_sound ts) (λ x h. done (g.block_local h)))

  -- ---- texts

  record Interpolated (ts : Tokens) (y : Interpolation) (rest : Tokens) : Type 0 where
    leave : Span
    piece : Span
    value : IsExpr ts y.value (token f.Leave leave ∷ token (f.Piece y.behind) piece ∷ rest)

  interpolation_sound : (ts : Tokens) → Says (λ y. Interpolated ts y.0 y.1) (x.interpolation inner ts)
  unfolding x.interpolation
  interpolation_sound ts = bind (sound.expr ts) (λ a h. bind (leave_sound a.1) (λ mid l. bind (piece_sound mid) (λ us k.
      done (record { leave = l.0; piece = k.0; value = subst (λ (t : Tokens). IsExpr ts a.0 t) (sym (ap (λ (t : Tokens). token f.Leave l.0 ∷ t) k.1 ∙ l.1)) h.0 }))))

  parts_from_sound : (n : ℕ) (found : List Interpolation) (ts : Tokens) → Says (λ y. More (λ ps. AreParts ts ps y.0.1 y.1) found y.0.0) (x.parts_from inner n found ts)
  unfolding x.parts_from
  parts_from_sound zero found ts = none
  parts_from_sound (suc n) found ts = choice (next is_enter ts)
      (λ y. let a = enter_ahead ts y in
      bind (interpolation_sound (behind ts)) (λ i h. weaken (λ z m. more_items i.0 (λ ps k. subst (λ (t : Tokens). AreParts t (i.0 ∷ ps) z.0.1 z.1) a.1 (g.hole h.value k)) m) (parts_from_sound n (found ++ i.0 ∷ []) i.1)))
      (λ y. bind (close_sound ts) (λ j k. done (no_item (subst (λ (i : ℕ). AreParts ts [] i j.1) k.2 (subst (λ (t : Tokens). AreParts t [] k.0.to j.1) k.1 g.close)))))

  -- behind what opens it
  text_sound : (ts : Tokens) → Says (λ y. (p : Span) → IsText (token f.TextOpen p ∷ ts) y.0.first y.0.parts y.0.to y.1) (x.text inner ts)
  unfolding x.text
  text_sound ts = bind (piece_sound ts) (λ us k. bind (parts_from_sound (length us.1) [] us.1) (λ ps m.
      done (λ p. subst (λ (t : Tokens). IsText (token f.TextOpen p ∷ t) us.0 ps.0.0 ps.0.1 ps.1) k.1 (g.text (all_items m)))))

  -- no text follows, or texts that are merged with what stands before
  abbrev Follow : Tokens → Merged → Merged → Tokens → Type 0
  Follow ts found all rest = ((next is_text_open ts ≡ false) × (found ≡ all) × (ts ≡ rest)) ⊎ ((y : Merged) × AreTexts ts y.first y.parts y.to rest × (merged found y ≡ all))

  followed : {ts mid rest : Tokens} {t found all : Merged} → IsText ts t.first t.parts t.to mid → Follow mid (merged found t) all rest → Follow ts found all rest
  followed {ts = ts} {t = t} {found = found} d (inl e) =
      inr (t, subst (λ (r : Tokens). AreTexts ts t.first t.parts t.to r) e.2 (g.last_text d e.0), e.1)
  followed {t = t} {found = found} d (inr e) = inr (merged t e.0, g.more_texts d e.1, merged_assoc found t e.0 ∙ e.2)

  texts_from_sound : (n : ℕ) (found : Merged) (ts : Tokens) → Says (λ y. Follow ts found y.0 y.1) (x.texts_from inner n found ts)
  unfolding x.texts_from
  texts_from_sound zero found ts = none
  texts_from_sound (suc n) found ts = choice (next is_text_open ts)
      (λ y. let a = text_ahead ts y in
      bind (text_sound (behind ts)) (λ t h. weaken (λ z k. followed {t = t.0} (subst (λ (o : Tokens). IsText o t.0.first t.0.parts t.0.to t.1) a.1 (h a.0)) k) (texts_from_sound n (merged found t.0) t.1)))
      (λ y. done (inl (y, refl, refl)))

  whole_texts : {ts mid rest : Tokens} {t all : Merged} → IsText ts t.first t.parts t.to mid → Follow mid t all rest → AreTexts ts all.first all.parts all.to rest
  whole_texts {ts = ts} {mid = mid} {rest = rest} {t = t} d (inl e) =
      subst (λ (z : Merged). AreTexts ts z.first z.parts z.to rest) e.1 (subst (λ (r : Tokens). AreTexts ts t.first t.parts t.to r) e.2 (g.last_text d e.0))
  whole_texts {ts = ts} {rest = rest} d (inr e) = subst (λ (z : Merged). AreTexts ts z.first z.parts z.to rest) e.2 (g.more_texts d e.1)

  pub texts_sound : (ts : Tokens) → next is_text_open ts ≡ true → Says (λ y. AreTexts ts y.0.first y.0.parts y.0.to y.1) (x.texts inner ts)
  unfolding x.texts
  texts_sound ts o = let a = text_ahead ts o in
      bind (text_sound (behind ts)) (λ t h. weaken (λ z k. whole_texts {t = t.0} (subst (λ (r : Tokens). IsText r t.0.first t.0.parts t.0.to t.1) a.1 (h a.0)) k) (texts_from_sound (length ts) t.0 t.1))
