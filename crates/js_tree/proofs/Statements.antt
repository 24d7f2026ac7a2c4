-- The same of statements, blocks and files.
use Rattle.std.proofs.Common.{◌≡◌, ℕ, Bool, true, false, List, [], ◌∷◌, ◌++◌, map, length, refl, sym, ap, ap₂, ◌∙◌, subst, append_assoc}
use Rattle.std.specs.Prelude.{codes}
use Rattle.js_tree.specs.declared.tree.JsExpr.{JsExpr}
use Rattle.js_tree.specs.declared.tree.JsPrimary.{JsPrimary}
use Rattle.js_tree.specs.declared.tree.JsFunction.{JsFunction}
use Rattle.js_tree.specs.declared.tree.JsEntry.{JsEntry}
use Rattle.js_tree.specs.declared.tree.JsHead.{JsHead}
use Rattle.js_tree.specs.declared.tree.JsSelector.{JsSelector}
use Rattle.js_tree.specs.declared.tree.JsStmt.{JsStmt}
use Rattle.js_tree.specs.declared.tree.JsStmt.TheVariants as s
use Rattle.js_tree.specs.declared.tree.JsItem.{JsItem}
use Rattle.js_tree.specs.declared.tree.JsItem.TheVariants as i
use Rattle.js_tree.specs.Tokens.{Bytes, Place, Tokens, AreTokens, end}
use Rattle.js_tree.specs.Grammar as g
use Rattle.js_tree.specs.Grammar.{Names, is_name, is_among, IsExpr, IsPrimary, AreStmts, IsStmt, AreItems}
use Rattle.js_tree.specs.Spelling as w
use Rattle.js_tree.specs.Spelling.{HasExpr, HaveExprs, HaveEntries, HasPrimary, HasHead, HaveSelectors, HasFunction, HaveStmts, HasStmt, HaveItems}
use Rattle.js_tree.specs.Text.{joined, block_text, text_of_expr, text_of_stmt, text_of_item, file_text}
use Rattle.js_tree.specs.Places.{expr_without_places, stmt_without_places, item_without_places}
use Rattle.js_tree.specs.SpellingLaws.{TextIsSpelled}
use Rattle.js_tree.proofs.Layers as t
use Rattle.js_tree.proofs.Unplaced as u
use Rattle.js_tree.proofs.Scanning.{closed, semicolon, parenthesis, bracket, open_bracket, sign_then, word_then, space, line_end, name_is_run}
use Rattle.js_tree.proofs.Spelled.{Spells, SpellsAll, Each, none, one, SpellsExpr, SpellsPrimary, SpellsHead, SpellsSelectors, SpellsEntry, SpellsFunction, SpellsStmts, SpellsBlock, SpellsStmt, DerivesStmt, spells}
use Rattle.js_tree.proofs.Spelled as f

-- ---- blocks

pub no_stmts_form : {names : Names} → SpellsStmts names []
no_stmts_form = record { spelled = λ size rest more scanned. record { tokens = more; placed = []; same = refl; scanned = scanned; derived = g.no_stmts } }

pub stmts_form : {names : Names} {a : JsStmt} {xs : List JsStmt} → SpellsStmt names a → SpellsStmts (g.declared a names) xs → SpellsStmts names (a ∷ xs)
stmts_form {names} {a} {xs} pa pxs = record {
  spelled = λ size rest more scanned.
      let later = pxs.spelled size rest more scanned in
      let p = pa.spelled size true (joined (map text_of_stmt xs) ++ rest) later.tokens later.scanned in
      record {
        tokens = p.first ∷ p.others;
        placed = p.placed ∷ later.placed;
        same = ap₂ (λ b bs. b ∷ bs) p.same later.same;
        scanned = subst (λ bs. AreTokens size true bs (p.first ∷ p.others)) (sym (append_assoc (text_of_stmt a) (joined (map text_of_stmt xs)) rest)) p.scanned;
        derived = g.stmts p.derived.stmt (subst (λ ns. AreStmts ns later.tokens later.placed more) (sym (p.derived.declares names)) later.derived);
      };
}

pub block_form : {names : Names} {xs : List JsStmt} → SpellsStmts names xs → SpellsBlock names xs
block_form {xs = xs} pxs = record {
  spelled = λ size line rest more scanned.
      let body = pxs.spelled size (125 ∷ rest) _ (sign_then (codes "}") refl refl scanned) in
      spells body.placed (simp append_assoc) (sign_then (codes "{") refl refl (line_end body.scanned)) refl (g.block body.derived) body.same;
}

-- ---- statements

pub let_form : {names : Names} {at : ℕ} {x : Bytes} {a : JsExpr} → is_name x ≡ true → is_among names x ≡ false → SpellsExpr a → SpellsStmt names (s.Let at x a)
let_form {at = at} {x = x} {a = a} is fresh pa = record {
  spelled = λ size line rest more scanned.
      let p = pa.spelled size false (59 ∷ 10 ∷ rest) _ (closed (codes ";") semicolon (line_end scanned)) in
      spells (s.Let _ x p.placed) (simp (t.let_layer, append_assoc))
      (word_then (codes "let") refl refl (space (word_then x (name_is_run x is) refl (space (sign_then (codes "=") refl refl (space p.scanned)))))) refl
      (record { stmt = g.let' is fresh p.derived; declares = λ before. refl })
      (u.let_same _ x p.placed ∙ ap (s.Let 0 x) p.same ∙ sym (u.let_same at x a));
}

pub if_form : {names : Names} {at : ℕ} {a : JsExpr} {xs : List JsStmt} → SpellsExpr a → SpellsBlock [] xs → SpellsStmt names (s.If at a xs)
if_form {at = at} {a = a} {xs = xs} pa pxs = record {
  spelled = λ size line rest more scanned.
      let holds = pxs.spelled size false (10 ∷ rest) more (line_end scanned) in
      let p = pa.spelled size false (41 ∷ 32 ∷ (block_text (map text_of_stmt xs) ++ 10 ∷ rest)) _ (closed (codes ")") parenthesis (space holds.scanned)) in
      spells (s.If _ p.placed holds.placed) (simp (t.if_layer, append_assoc)) (word_then (codes "if") refl refl (space (sign_then (codes "(") refl refl p.scanned))) refl
      (record { stmt = g.if' p.derived holds.derived; declares = λ before. refl })
      (u.if_same _ p.placed holds.placed ∙ ap₂ (s.If 0) p.same holds.same ∙ sym (u.if_same at a xs));
}

pub assign_form : {names : Names} {at : ℕ} {x : Bytes} {a : JsExpr} → is_name x ≡ true → SpellsExpr a → SpellsStmt names (s.Assign at x a)
assign_form {at = at} {x = x} {a = a} is pa = record {
  spelled = λ size line rest more scanned.
      let p = pa.spelled size false (59 ∷ 10 ∷ rest) _ (closed (codes ";") semicolon (line_end scanned)) in
      spells (s.Assign _ x p.placed) (simp (t.assign_layer, append_assoc)) (word_then x (name_is_run x is) refl (space (sign_then (codes "=") refl refl (space p.scanned)))) refl
      (record { stmt = g.assign is p.derived; declares = λ before. refl })
      (u.assign_same _ x p.placed ∙ ap (s.Assign 0 x) p.same ∙ sym (u.assign_same at x a));
}

stored : {names : Names} {ts after late rest : Tokens} {a : JsPrimary} {b c : JsExpr} {p q r t : Place} → IsPrimary ts a (g.sign (codes "[") p ∷ after)
    → IsExpr after b (g.sign (codes "]") q ∷ g.sign (codes "=") r ∷ late) → IsExpr late c (g.sign (codes ";") t ∷ rest) → IsStmt names ts (s.Store (g.start ts) a b c) rest
stored (g.primary_of head selectors) index value = g.store head selectors index value

pub store_form : {names : Names} {at : ℕ} {a : JsPrimary} {b c : JsExpr} → SpellsPrimary a → SpellsExpr b → SpellsExpr c → SpellsStmt names (s.Store at a b c)
store_form {at = at} {a = a} {b = b} {c = c} pa pb pc = record {
  spelled = λ size line rest more scanned.
      let value = pc.spelled size false (59 ∷ 10 ∷ rest) _ (closed (codes ";") semicolon (line_end scanned)) in
      let index = pb.spelled size false (93 ∷ 32 ∷ 61 ∷ 32 ∷ (text_of_expr c ++ 59 ∷ 10 ∷ rest)) _ (closed (codes "]") bracket (space (sign_then (codes "=") refl refl (space value.scanned)))) in
      let object = pa.spelled size line (91 ∷ (text_of_expr b ++ 93 ∷ 32 ∷ 61 ∷ 32 ∷ (text_of_expr c ++ 59 ∷ 10 ∷ rest))) _ (closed (codes "[") open_bracket index.scanned) in
      spells (s.Store (g.start (object.first ∷ object.others)) object.placed index.placed value.placed) (simp (t.store_layer, append_assoc)) object.scanned object.on_line
      (record { stmt = stored object.derived index.derived value.derived; declares = λ before. refl })
      (cc (u.store_same (g.start (object.first ∷ object.others)) object.placed index.placed value.placed, u.store_same at a b c, object.same, index.same, value.same));
}

pub perform_form : {names : Names} {at : ℕ} {a : JsPrimary} → SpellsPrimary a → SpellsStmt names (s.Perform at a)
perform_form {at = at} {a = a} pa = record {
  spelled = λ size line rest more scanned.
      let p = pa.spelled size line (59 ∷ 10 ∷ rest) _ (closed (codes ";") semicolon (line_end scanned)) in
      spells (s.Perform (g.start (p.first ∷ p.others)) p.placed) (simp (t.perform_layer, append_assoc)) p.scanned p.on_line
      (record { stmt = g.perform p.derived; declares = λ before. refl })
      (u.perform_same (g.start (p.first ∷ p.others)) p.placed ∙ ap (s.Perform 0) p.same ∙ sym (u.perform_same at a));
}

pub if_else_form : {names : Names} {at : ℕ} {a : JsExpr} {xs ys : List JsStmt} → SpellsExpr a → SpellsBlock [] xs → SpellsBlock [] ys → SpellsStmt names (s.IfElse at a xs ys)
if_else_form {at = at} {a = a} {xs = xs} {ys = ys} pa pxs pys = record {
  spelled = λ size line rest more scanned.
      let fails = pys.spelled size false (10 ∷ rest) more (line_end scanned) in
      let holds = pxs.spelled size false (32 ∷ (codes "else " ++ (block_text (map text_of_stmt ys) ++ 10 ∷ rest))) _ (space (word_then (codes "else") refl refl (space fails.scanned))) in
      let p = pa.spelled size false (41 ∷ 32 ∷ (block_text (map text_of_stmt xs) ++ 32 ∷ (codes "else " ++ (block_text (map text_of_stmt ys) ++ 10 ∷ rest)))) _ (closed (codes ")") parenthesis (space holds.scanned)) in
      spells (s.IfElse _ p.placed holds.placed fails.placed) (simp (t.if_else_layer, append_assoc)) (word_then (codes "if") refl refl (space (sign_then (codes "(") refl refl p.scanned))) refl
      (record { stmt = g.if_else p.derived holds.derived fails.derived; declares = λ before. refl })
      (u.if_else_same _ p.placed holds.placed fails.placed ∙ ap (λ b. s.IfElse 0 b (map stmt_without_places holds.placed) (map stmt_without_places fails.placed)) p.same ∙ ap₂ (s.IfElse 0 (expr_without_places a)) holds.same fails.same ∙ sym (u.if_else_same at a xs ys));
}

pub loop_form : {names : Names} {at : ℕ} {xs : List JsStmt} → SpellsBlock [] xs → SpellsStmt names (s.Loop at xs)
loop_form {at = at} {xs = xs} pxs = record {
  spelled = λ size line rest more scanned.
      let body = pxs.spelled size false (10 ∷ rest) more (line_end scanned) in
      spells (s.Loop _ body.placed) (simp (t.loop_layer, append_assoc))
      (word_then (codes "while") refl refl (space (sign_then (codes "(") refl refl (word_then (codes "true") refl refl (sign_then (codes ")") refl refl (space body.scanned)))))) refl
      (record { stmt = g.loop body.derived; declares = λ before. refl })
      (u.loop_same _ body.placed ∙ ap (s.Loop 0) body.same ∙ sym (u.loop_same at xs));
}

pub labelled_form : {names : Names} {at : ℕ} {x : Bytes} {xs : List JsStmt} → is_name x ≡ true → SpellsBlock [] xs → SpellsStmt names (s.Labelled at x xs)
labelled_form {at = at} {x = x} {xs = xs} is pxs = record {
  spelled = λ size line rest more scanned.
      let body = pxs.spelled size false (10 ∷ rest) more (line_end scanned) in
      spells (s.Labelled _ x body.placed) (simp (t.labelled_layer, append_assoc)) (word_then x (name_is_run x is) refl (sign_then (codes ":") refl refl (space body.scanned))) refl
      (record { stmt = g.labelled is body.derived; declares = λ before. refl })
      (u.labelled_same _ x body.placed ∙ ap (s.Labelled 0 x) body.same ∙ sym (u.labelled_same at x xs));
}

pub break_form : {names : Names} {at : ℕ} {x : Bytes} → is_name x ≡ true → SpellsStmt names (s.Break at x)
break_form {at = at} {x = x} is = record {
  spelled = λ size line rest more scanned.
      spells (s.Break _ x) (simp (t.break_layer, append_assoc)) (word_then (codes "break") refl refl (space (word_then x (name_is_run x is) refl (sign_then (codes ";") refl refl (line_end scanned))))) refl
      (record { stmt = g.break' is refl; declares = λ before. refl })
      (u.break_same _ x ∙ sym (u.break_same at x));
}

pub return_form : {names : Names} {at : ℕ} {a : JsExpr} → SpellsExpr a → SpellsStmt names (s.Return at a)
return_form {at = at} {a = a} pa = record {
  spelled = λ size line rest more scanned.
      let p = pa.spelled size false (59 ∷ 10 ∷ rest) _ (closed (codes ";") semicolon (line_end scanned)) in
      spells (s.Return _ p.placed) (simp (t.return_layer, append_assoc)) (word_then (codes "return") refl refl (space p.scanned)) refl
      (record { stmt = g.return' p.on_line p.derived; declares = λ before. refl })
      (u.return_same _ p.placed ∙ ap (s.Return 0) p.same ∙ sym (u.return_same at a));
}

pub throw_form : {names : Names} {at : ℕ} {a : JsExpr} → SpellsExpr a → SpellsStmt names (s.Throw at a)
throw_form {at = at} {a = a} pa = record {
  spelled = λ size line rest more scanned.
      let p = pa.spelled size false (59 ∷ 10 ∷ rest) _ (closed (codes ";") semicolon (line_end scanned)) in
      spells (s.Throw _ p.placed) (simp (t.throw_layer, append_assoc)) (word_then (codes "throw") refl refl (space p.scanned)) refl
      (record { stmt = g.throw' p.on_line p.derived; declares = λ before. refl })
      (u.throw_same _ p.placed ∙ ap (s.Throw 0) p.same ∙ sym (u.throw_same at a));
}

pub try_catch_form : {names : Names} {at : ℕ} {x : Bytes} {xs ys : List JsStmt} → SpellsBlock [] xs → is_name x ≡ true → SpellsBlock (x ∷ []) ys → SpellsStmt names (s.TryCatch at xs x ys)
try_catch_form {at = at} {x = x} {xs = xs} {ys = ys} pxs is pys = record {
  spelled = λ size line rest more scanned.
      let handler = pys.spelled size false (10 ∷ rest) more (line_end scanned) in
      let body = pxs.spelled size false (32 ∷ (codes "catch (" ++ (x ++ 41 ∷ 32 ∷ (block_text (map text_of_stmt ys) ++ 10 ∷ rest)))) _
      (space (word_then (codes "catch") refl refl (space (sign_then (codes "(") refl refl (word_then x (name_is_run x is) refl (sign_then (codes ")") refl refl (space handler.scanned))))))) in
      spells (s.TryCatch _ body.placed x handler.placed) (simp (t.try_catch_layer, append_assoc)) (word_then (codes "try") refl refl (space body.scanned)) refl
      (record { stmt = g.try_catch is body.derived handler.derived; declares = λ before. refl })
      (u.try_catch_same _ body.placed x handler.placed ∙ ap₂ (λ b c. s.TryCatch 0 b x c) body.same handler.same ∙ sym (u.try_catch_same at xs x ys));
}

pub try_finally_form : {names : Names} {at : ℕ} {xs ys : List JsStmt} → SpellsBlock [] xs → SpellsBlock [] ys → SpellsStmt names (s.TryFinally at xs ys)
try_finally_form {at = at} {xs = xs} {ys = ys} pxs pys = record {
  spelled = λ size line rest more scanned.
      let last = pys.spelled size false (10 ∷ rest) more (line_end scanned) in
      let body = pxs.spelled size false (32 ∷ (codes "finally " ++ (block_text (map text_of_stmt ys) ++ 10 ∷ rest))) _ (space (word_then (codes "finally") refl refl (space last.scanned))) in
      spells (s.TryFinally _ body.placed last.placed) (simp (t.try_finally_layer, append_assoc)) (word_then (codes "try") refl refl (space body.scanned)) refl
      (record { stmt = g.try_finally body.derived last.derived; declares = λ before. refl })
      (u.try_finally_same _ body.placed last.placed ∙ ap₂ (s.TryFinally 0) body.same last.same ∙ sym (u.try_finally_same at xs ys));
}

-- ---- trees that have a spelling

mutual
  expr_spells : {a : JsExpr} → HasExpr a → SpellsExpr a
  expr_spells (w.primary a) = f.primary_form (primary_spells a)
  expr_spells (w.binary {o = o} a b) = f.binary_form o (primary_spells a) (primary_spells b)
  expr_spells (w.type_of a) = f.type_of_form (primary_spells a)
  expr_spells (w.function a) = f.function_form (function_spells a)
  expr_spells w.new_map = f.new_map_form
  expr_spells (w.array xs) = f.array_form (exprs_spell xs)
  expr_spells (w.object xs) = f.object_form (entries_spell xs)

  exprs_spell : {xs : List JsExpr} → HaveExprs xs → Each SpellsExpr xs
  exprs_spell w.no_exprs = none
  exprs_spell (w.exprs a xs) = one (expr_spells a) (exprs_spell xs)

  entries_spell : {xs : List JsEntry} → HaveEntries xs → Each SpellsEntry xs
  entries_spell w.no_entries = none
  entries_spell (w.entries are a xs) = one (record { units = are; value = expr_spells a }) (entries_spell xs)

  primary_spells : {a : JsPrimary} → HasPrimary a → SpellsPrimary a
  primary_spells (w.primary_of a xs) = f.primary_of_form (head_spells a) (selectors_spell xs)

  head_spells : {a : JsHead} → HasHead a → SpellsHead a
  head_spells (w.name is) = f.name_form is
  head_spells (w.digits small) = f.digits_form small
  head_spells (w.negative small) = f.negative_form small
  head_spells (w.string are) = f.string_form are
  head_spells w.null = f.null_form
  head_spells w.undefined = f.undefined_form
  head_spells w.true' = f.true_form
  head_spells w.false' = f.false_form
  head_spells (w.string_of xs) = f.string_of_form (exprs_spell xs)
  head_spells (w.is_array xs) = f.is_array_form (exprs_spell xs)
  head_spells (w.array_from xs) = f.array_from_form (exprs_spell xs)

  selectors_spell : {xs : List JsSelector} → HaveSelectors xs → SpellsSelectors xs
  selectors_spell w.no_selectors = f.no_selectors_form
  selectors_spell (w.index a xs) = f.index_form (expr_spells a) (selectors_spell xs)
  selectors_spell (w.call args xs) = f.call_form (exprs_spell args) (selectors_spell xs)
  selectors_spell (w.member {m = m} alone xs) = f.member_form m alone (selectors_spell xs)
  selectors_spell (w.method {m = m} args xs) = f.method_form m (exprs_spell args) (selectors_spell xs)

  function_spells : {a : JsFunction} → HasFunction a → SpellsFunction a
  function_spells (w.function_of are body) = f.function_of_form are (block_form (stmts_spell body))

  stmts_spell : {names : Names} {xs : List JsStmt} → HaveStmts names xs → SpellsStmts names xs
  stmts_spell w.no_stmts = no_stmts_form
  stmts_spell (w.stmts a more) = stmts_form (stmt_spells a) (stmts_spell more)

  stmt_spells : {names : Names} {a : JsStmt} → HasStmt names a → SpellsStmt names a
  stmt_spells (w.let' is fresh a) = let_form is fresh (expr_spells a)
  stmt_spells (w.assign is a) = assign_form is (expr_spells a)
  stmt_spells (w.store a b c) = store_form (primary_spells a) (expr_spells b) (expr_spells c)
  stmt_spells (w.perform a) = perform_form (primary_spells a)
  stmt_spells (w.if' a xs) = if_form (expr_spells a) (block_form (stmts_spell xs))
  stmt_spells (w.if_else a xs ys) = if_else_form (expr_spells a) (block_form (stmts_spell xs)) (block_form (stmts_spell ys))
  stmt_spells (w.loop xs) = loop_form (block_form (stmts_spell xs))
  stmt_spells (w.labelled is xs) = labelled_form is (block_form (stmts_spell xs))
  stmt_spells (w.break' is) = break_form is
  stmt_spells (w.return' a) = return_form (expr_spells a)
  stmt_spells (w.throw' a) = throw_form (expr_spells a)
  stmt_spells (w.try_catch xs is ys) = try_catch_form (block_form (stmts_spell xs)) is (block_form (stmts_spell ys))
  stmt_spells (w.try_finally xs ys) = try_finally_form (block_form (stmts_spell xs)) (block_form (stmts_spell ys))

-- ---- files

SpellsItems : Names → List JsItem → Type 0
SpellsItems names xs = (size : ℕ) (line : Bool) → SpellsAll size line (joined (map text_of_item xs)) item_without_places xs (λ ts ys. AreItems names ts ys)

module _ {size : ℕ} {line : Bool} {text flat : Bytes} {xs : List JsItem} {derives : Tokens → List JsItem → Type 0} {tokens : Tokens} where
  items_of : (placed : List JsItem) → text ≡ flat → AreTokens size line flat tokens → derives tokens placed → map item_without_places placed ≡ map item_without_places xs
      → SpellsAll size line text item_without_places xs derives
  items_of placed e scanned derived same = record { tokens = tokens; placed = placed; same = same; scanned = subst (λ bs. AreTokens size line bs tokens) (sym e) scanned; derived = derived }

items_spell : {names : Names} {xs : List JsItem} → HaveItems names xs → SpellsItems names xs
unfolding SpellsItems
items_spell w.no_items = λ size line. record { tokens = []; placed = []; same = refl; scanned = end; derived = g.no_items }
items_spell (w.function_item {x = x} {f = a} {more = xs} is fresh pa pxs) = λ size line.
    let later = items_spell pxs size true in
    let p = (function_spells pa).spelled size false (10 ∷ joined (map text_of_item xs)) later.tokens (line_end later.scanned) in
    items_of (i.Declared x p.placed ∷ later.placed) (simp (t.text_of_its_body, append_assoc))
    (word_then (codes "function") refl refl (space (word_then x (name_is_run x is) refl p.scanned))) (g.function_item is fresh p.derived later.derived)
    (ap₂ (λ b bs. i.Declared x b ∷ bs) p.same later.same)
items_spell (w.var {at = at} {x = x} {a = a} {more = xs} is fresh pa pxs) = λ size line.
    let later = items_spell pxs size true in
    let p = (expr_spells pa).spelled size false (59 ∷ 10 ∷ joined (map text_of_item xs)) _ (closed (codes ";") semicolon (line_end later.scanned)) in
    items_of (i.Var _ x p.placed ∷ later.placed) (simp append_assoc)
    (word_then (codes "var") refl refl (space (word_then x (name_is_run x is) refl (space (sign_then (codes "=") refl refl (space p.scanned)))))) (g.var is fresh p.derived later.derived)
    (ap₂ (λ b bs. i.Var 0 x b ∷ bs) p.same later.same)
items_spell (w.statement {names = names} {a = a} {more = xs} pa pxs) = λ size line.
    let later = items_spell pxs size true in
    let p = (stmt_spells pa).spelled size line (joined (map text_of_item xs)) later.tokens later.scanned in
    items_of (i.Statement p.placed ∷ later.placed) refl p.scanned
    (g.statement p.derived.stmt (subst (λ ns. AreItems ns later.tokens later.placed) (sym (p.derived.declares names)) later.derived))
    (ap₂ (λ b bs. i.Statement b ∷ bs) p.same later.same)

pub text_spelled : TextIsSpelled
unfolding SpellsItems
text_spelled file has =
    let all = items_spell has (length (file_text file)) false in
    (record { items = all.placed }, record { same = sym all.same }, record { tokens = all.tokens; scanned = all.scanned; derived = all.derived })
