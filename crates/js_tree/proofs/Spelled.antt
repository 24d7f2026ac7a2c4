-- What the canonical text of each form, and then what follows, is scanned to, from its parts.
use Rattle.std.proofs.Common.{◌≡◌, ℕ, ◌≤◌, Bool, true, false, List, [], ◌∷◌, ◌++◌, map, refl, sym, ap, ap₂, ◌∙◌, subst, append_assoc}
use Rattle.std.specs.Prelude.{not, ◌&&◌, codes}
use Rattle.std.specs.Fmt.{decimal}
use Rattle.std.proofs.lemmas.Bool.{and_parts}
use Rattle.js_tree.specs.declared.tree.JsExpr.{JsExpr}
use Rattle.js_tree.specs.declared.tree.JsExpr.TheVariants as e
use Rattle.js_tree.specs.declared.tree.JsHead.{JsHead}
use Rattle.js_tree.specs.declared.tree.JsHead.TheVariants as h
use Rattle.js_tree.specs.declared.tree.JsSelector.{JsSelector}
use Rattle.js_tree.specs.declared.tree.JsSelector.TheVariants as l
use Rattle.js_tree.specs.declared.tree.JsPrimary.{JsPrimary}
use Rattle.js_tree.specs.declared.tree.JsFunction.{JsFunction}
use Rattle.js_tree.specs.declared.tree.JsEntry.{JsEntry}
use Rattle.js_tree.specs.declared.tree.JsStmt.{JsStmt}
use Rattle.js_tree.specs.declared.words.JsMember.{JsMember}
use Rattle.js_tree.specs.declared.words.JsOperator.{JsOperator}
use Rattle.js_tree.specs.Words.{member_text, operator_text}
use Rattle.js_tree.specs.Tokens.{Bytes, Token, Tokens, EndsRun, AreTokens}
use Rattle.js_tree.specs.Grammar as g
use Rattle.js_tree.specs.Grammar.{Names, is_name, is_among, greatest, next_is, IsExpr, AreEntries, AreExprs, AreListed, AreArguments, IsPrimary, IsHead, AreSelectors, AreNames, AreParameters, IsFunction, IsBlock, AreStmts, IsStmt}
use Rattle.js_tree.specs.Spelling.{are_units, are_names, calls}
use Rattle.js_tree.specs.Text.{joined, separated, arguments_text, block_text, function_text, text_of_expr, text_of_head, text_of_selector, text_of_primary, text_of_entry, text_of_stmt}
use Rattle.js_tree.specs.Places.{expr_without_places, head_without_places, selector_without_places, primary_without_places, entry_without_places, function_without_places, stmt_without_places}
use Rattle.js_tree.proofs.Layers as t
use Rattle.js_tree.proofs.Unplaced as u
use Rattle.js_tree.proofs.Scanning.{Follows, Closes, closed, comma, parenthesis, bracket, brace, sign_then, word_then, string_then, space, member_is_run, operator_is_sign, operator_is_longest, operator_no_call, name_is_run, number_is_run}

-- the text is scanned to tokens, of which there is a first one, and these derive the tree with its places
pub record Spells (size : ℕ) (line : Bool) (text : Bytes) {A : Type 0} (without : A → A) (a : A) (derives : Tokens → A → Type 0) : Type 0 where
  pub first : Token
  pub others : Tokens
  pub placed : A
  pub same : without placed ≡ without a
  pub on_line : first.place.on_new_line ≡ line
  pub scanned : AreTokens size line text (first ∷ others)
  pub derived : derives (first ∷ others) placed

-- the same of a list, which may have no tokens
pub record SpellsAll (size : ℕ) (line : Bool) (text : Bytes) {A : Type 0} (without : A → A) (xs : List A) (derives : Tokens → List A → Type 0) : Type 0 where
  pub tokens : Tokens
  pub placed : List A
  pub same : map without placed ≡ map without xs
  pub scanned : AreTokens size line text tokens
  pub derived : derives tokens placed

pub data Each {A : Type 0} (P : A → Type 0) : List A → Type 0 where
  none : Each P []
  one : {a : A} {xs : List A} → P a → Each P xs → Each P (a ∷ xs)

-- ---- what is shown of each kind

pub record SpellsExpr (a : JsExpr) : Type 0 where
  pub spelled : (size : ℕ) (line : Bool) (rest : Bytes) (more : Tokens) → Follows size rest more → Spells size line (text_of_expr a ++ rest) expr_without_places a (λ ts b. IsExpr ts b more)

pub record SpellsPrimary (a : JsPrimary) : Type 0 where
  pub spelled : (size : ℕ) (line : Bool) (rest : Bytes) (more : Tokens) → Follows size rest more → Spells size line (text_of_primary a ++ rest) primary_without_places a (λ ts b. IsPrimary ts b more)

pub record SpellsHead (a : JsHead) : Type 0 where
  pub spelled : (size : ℕ) (line : Bool) (rest : Bytes) (more : Tokens) → EndsRun rest → AreTokens size false rest more → Spells size line (text_of_head a ++ rest) head_without_places a (λ ts b. IsHead ts b more)

pub record SelectorsAt (size : ℕ) (rest : Bytes) (more : Tokens) (xs : List JsSelector) : Type 0 where
  pub all : SpellsAll size false (joined (map text_of_selector xs) ++ rest) selector_without_places xs (λ ts ys. AreSelectors ts ys more)
  pub ends : EndsRun (joined (map text_of_selector xs) ++ rest)
  pub no_call : calls xs ≡ false → next_is (codes "(") all.tokens ≡ false

pub record SpellsSelectors (xs : List JsSelector) : Type 0 where
  pub spelled : (size : ℕ) (rest : Bytes) (more : Tokens) → Follows size rest more → SelectorsAt size rest more xs

pub record SpellsEntry (a : JsEntry) : Type 0 where
  pub units : are_units a.key ≡ true
  pub value : SpellsExpr a.value

pub record SpellsFunction (f : JsFunction) : Type 0 where
  pub spelled : (size : ℕ) (line : Bool) (rest : Bytes) (more : Tokens) → AreTokens size false rest more
      → Spells size line (function_text f.parameters (map text_of_stmt f.body) ++ rest) function_without_places f (λ ts b. IsFunction ts b more)

pub record SpellsStmts (names : Names) (xs : List JsStmt) : Type 0 where
  pub spelled : (size : ℕ) (rest : Bytes) (more : Tokens) → AreTokens size true rest more
      → SpellsAll size true (joined (map text_of_stmt xs) ++ rest) stmt_without_places xs (λ ts ys. AreStmts names ts ys more)

pub record SpellsBlock (names : Names) (xs : List JsStmt) : Type 0 where
  pub spelled : (size : ℕ) (line : Bool) (rest : Bytes) (more : Tokens) → AreTokens size false rest more
      → Spells size line (block_text (map text_of_stmt xs) ++ rest) (map stmt_without_places) xs (λ ts ys. IsBlock names ts ys more)

-- a statement, and that it declares what it declares without its places
pub record DerivesStmt (names : Names) (ts : Tokens) (a b : JsStmt) (more : Tokens) : Type 0 where
  pub stmt : IsStmt names ts b more
  pub declares : (before : Names) → g.declared b before ≡ g.declared a before

pub record SpellsStmt (names : Names) (a : JsStmt) : Type 0 where
  pub spelled : (size : ℕ) (line : Bool) (rest : Bytes) (more : Tokens) → AreTokens size true rest more
      → Spells size line (text_of_stmt a ++ rest) stmt_without_places a (λ ts b. DerivesStmt names ts a b more)

-- the text written otherwise
module _ {size : ℕ} {line : Bool} {text flat : Bytes} {A : Type 0} {without : A → A} {a : A} {derives : Tokens → A → Type 0} {first : Token} {others : Tokens} where
  pub spells : (placed : A) → text ≡ flat → AreTokens size line flat (first ∷ others) → first.place.on_new_line ≡ line → derives (first ∷ others) placed → without placed ≡ without a → Spells size line text without a derives
  spells placed e scanned on_line derived same = record {
    first = first;
    others = others;
    placed = placed;
    same = same;
    on_line = on_line;
    scanned = subst (λ bs. AreTokens size line bs (first ∷ others)) (sym e) scanned;
    derived = derived;
  }

-- ---- expressions

pub primary_form : {a : JsPrimary} → SpellsPrimary a → SpellsExpr (e.Primary a)
primary_form {a} pa = record {
  spelled = λ size line rest more f.
      let p = pa.spelled size line rest more f in
      spells (e.Primary p.placed) (ap (λ text. text ++ rest) (t.primary_layer a)) p.scanned p.on_line (g.primary p.derived) (cc (u.primary_same p.placed, u.primary_same a, p.same));
}

pub binary_form : (o : JsOperator) {a b : JsPrimary} → SpellsPrimary a → SpellsPrimary b → SpellsExpr (e.Binary o a b)
binary_form o {a} {b} pa pb = record {
  spelled = λ size line rest more f.
      let right = pb.spelled size false rest more f in
      let operator : AreTokens size false (operator_text o ++ 32 ∷ (text_of_primary b ++ rest)) _ = sign_then (operator_text o) (operator_is_sign o) (operator_is_longest o (text_of_primary b ++ rest)) (space right.scanned) in
      let left = pa.spelled size line (32 ∷ (operator_text o ++ 32 ∷ (text_of_primary b ++ rest))) _ (record { ends = refl; no_call = operator_no_call o; scanned = space operator }) in
      spells (e.Binary o left.placed right.placed) (simp (t.binary_layer, append_assoc)) left.scanned left.on_line (g.binary left.derived right.derived) (cc (u.binary_same o left.placed right.placed, u.binary_same o a b, left.same, right.same));
}

pub type_of_form : {a : JsPrimary} → SpellsPrimary a → SpellsExpr (e.TypeOf a)
type_of_form {a} pa = record {
  spelled = λ size line rest more f.
      let p = pa.spelled size false rest more f in
      spells (e.TypeOf p.placed) (simp (t.type_of_layer, append_assoc)) (word_then (codes "typeof") refl refl (space p.scanned)) refl (g.type_of p.derived) (cc (u.type_of_same p.placed, u.type_of_same a, p.same));
}

pub function_form : {f : JsFunction} → SpellsFunction f → SpellsExpr (e.Function f)
function_form {f} pf = record {
  spelled = λ size line rest more follows.
      let p = pf.spelled size false rest more follows.scanned in
      spells (e.Function p.placed) (simp (t.function_layer, t.text_of_its_body, append_assoc)) (word_then (codes "function") refl refl (space p.scanned)) refl (g.function p.derived) (cc (u.function_same p.placed, u.function_same f, p.same));
}

pub new_map_form : SpellsExpr e.NewMap
new_map_form = record {
  spelled = λ size line rest more f.
      spells e.NewMap (ap (λ text. text ++ rest) t.new_map_layer) (word_then (codes "new") refl refl (space (word_then (codes "Map") refl refl (sign_then (codes "(") refl refl (sign_then (codes ")") refl refl f.scanned))))) refl g.new_map refl;
}

-- ---- lists with commas

-- the expressions of a list that has one
SpellsExprs : List JsExpr → Type 0
SpellsExprs xs = (size : ℕ) (line : Bool) (rest : Bytes) (more : Tokens) → Follows size rest more
    → Spells size line (separated (map text_of_expr xs) ++ rest) (map expr_without_places) xs (λ ts ys. AreExprs ts ys more)

exprs_form : {a : JsExpr} {xs : List JsExpr} → SpellsExpr a → Each SpellsExpr xs → SpellsExprs (a ∷ xs)
unfolding SpellsExprs
exprs_form {a} pa none = λ size line rest more f.
    let p = pa.spelled size line rest more f in
    spells (p.placed ∷ []) refl p.scanned p.on_line (g.last_expr p.derived) (ap (λ b. b ∷ []) p.same)
exprs_form {a} pa (one {a = b} {xs = xs} pb all) = λ size line rest more f.
    let later = exprs_form pb all size false rest more f in
    let p = pa.spelled size line (44 ∷ 32 ∷ (separated (map text_of_expr (b ∷ xs)) ++ rest)) _ (closed (codes ",") comma (space later.scanned)) in
    spells (p.placed ∷ later.placed) (simp append_assoc) p.scanned p.on_line (g.more_exprs p.derived later.derived) (ap₂ (λ b bs. b ∷ bs) p.same later.same)

-- up to and with the sign that closes them
listed_form : {args : List JsExpr} (close : Bytes) → Closes close → Each SpellsExpr args → (size : ℕ) (rest : Bytes) (more : Tokens) → AreTokens size false rest more
    → Spells size false (separated (map text_of_expr args) ++ (close ++ rest)) (map expr_without_places) args (λ ts ys. AreListed close ts ys more)
unfolding SpellsExprs
listed_form close c none size rest more scanned = spells [] refl (sign_then close c.is (c.longest rest) scanned) refl g.no_items refl
listed_form close c (one pa all) size rest more scanned =
    let p = exprs_form pa all size false (close ++ rest) _ (closed close c scanned) in
    spells p.placed refl p.scanned p.on_line (g.items p.derived) p.same

arguments_form : {args : List JsExpr} → Each SpellsExpr args → (size : ℕ) (line : Bool) (rest : Bytes) (more : Tokens) → AreTokens size false rest more
    → Spells size line (arguments_text (map text_of_expr args) ++ rest) (map expr_without_places) args (λ ts ys. AreArguments ts ys more)
arguments_form all size line rest more scanned =
    let p = listed_form (codes ")") parenthesis all size rest more scanned in
    spells p.placed (simp append_assoc) (sign_then (codes "(") refl refl p.scanned) refl (g.arguments p.derived) p.same

pub array_form : {xs : List JsExpr} → Each SpellsExpr xs → SpellsExpr (e.Array xs)
array_form {xs} all = record {
  spelled = λ size line rest more f.
      let p = listed_form (codes "]") bracket all size rest more f.scanned in
      spells (e.Array p.placed) (simp (t.array_layer, append_assoc)) (sign_then (codes "[") refl refl p.scanned) refl (g.array p.derived) (cc (u.array_same p.placed, u.array_same xs, p.same));
}

SpellsEntries : List JsEntry → Type 0
SpellsEntries xs = (size : ℕ) (line : Bool) (rest : Bytes) (more : Tokens) → Follows size rest more
    → Spells size line (separated (map text_of_entry xs) ++ rest) (map entry_without_places) xs (λ ts ys. AreEntries ts ys more)

entries_form : {a : JsEntry} {xs : List JsEntry} → SpellsEntry a → Each SpellsEntry xs → SpellsEntries (a ∷ xs)
unfolding SpellsEntries
entries_form {a} pa none = λ size line rest more f.
    let value = pa.value.spelled size false rest more f in
    spells (record { key = a.key; value = value.placed } ∷ []) (simp (t.text_of_key_and_value, append_assoc))
    (string_then a.key pa.units (sign_then (codes ":") refl refl (space value.scanned))) refl (g.last_entry value.derived)
    (ap (λ b. b ∷ []) (u.same_entry (record { key = a.key; value = value.placed }) ∙ ap (λ b. record { key = a.key; value = b }) value.same ∙ sym (u.same_entry a)))
entries_form {a} pa (one {a = b} {xs = xs} pb all) = λ size line rest more f.
    let later = entries_form pb all size false rest more f in
    let value = pa.value.spelled size false (44 ∷ 32 ∷ (separated (map text_of_entry (b ∷ xs)) ++ rest)) _ (closed (codes ",") comma (space later.scanned)) in
    spells (record { key = a.key; value = value.placed } ∷ later.placed) (simp (t.text_of_key_and_value, append_assoc))
    (string_then a.key pa.units (sign_then (codes ":") refl refl (space value.scanned))) refl (g.more_entries value.derived later.derived)
    (ap₂ (λ b bs. b ∷ bs) (u.same_entry (record { key = a.key; value = value.placed }) ∙ ap (λ b. record { key = a.key; value = b }) value.same ∙ sym (u.same_entry a)) later.same)

pub object_form : {xs : List JsEntry} → Each SpellsEntry xs → SpellsExpr (e.Object xs)
unfolding SpellsEntries
object_form none = record {
  spelled = λ size line rest more f.
      spells (e.Object []) (ap (λ text. text ++ rest) (t.object_layer [])) (sign_then (codes "{") refl refl (sign_then (codes "}") refl refl f.scanned)) refl g.no_entries refl;
}
object_form (one {a = a} {xs = xs} pa all) = record {
  spelled = λ size line rest more f.
      let p = entries_form pa all size false (125 ∷ rest) _ (closed (codes "}") brace f.scanned) in
      spells (e.Object p.placed) (simp (t.object_layer, append_assoc)) (sign_then (codes "{") refl refl p.scanned) refl (g.object p.derived) (cc (u.object_same p.placed, u.object_same (a ∷ xs), p.same));
}

-- ---- heads

pub name_form : {x : Bytes} → is_name x ≡ true → SpellsHead (h.Name x)
name_form {x} is = record {
  spelled = λ size line rest more ends scanned.
      spells (h.Name x) (ap (λ text. text ++ rest) (t.name_layer x)) (word_then x (name_is_run x is) ends scanned) refl (g.name is) refl;
}

pub digits_form : {n : ℕ} → n ≤ greatest → SpellsHead (h.Digits n)
digits_form {n} small = record {
  spelled = λ size line rest more ends scanned.
      spells (h.Digits n) (ap (λ text. text ++ rest) (t.digits_layer n)) (word_then (decimal n) (number_is_run n small) ends scanned) refl (g.digits small) refl;
}

pub negative_form : {n : ℕ} → n ≤ greatest → SpellsHead (h.Negative n)
negative_form {n} small = record {
  spelled = λ size line rest more ends scanned.
      spells (h.Negative n) (ap (λ text. text ++ rest) (t.negative_layer n)) (sign_then (codes "-") refl refl (word_then (decimal n) (number_is_run n small) ends scanned)) refl (g.negative small) refl;
}

pub string_form : {us : List ℕ} → are_units us ≡ true → SpellsHead (h.Str us)
string_form {us} are = record {
  spelled = λ size line rest more ends scanned.
      spells (h.Str us) (ap (λ text. text ++ rest) (t.str_layer us)) (string_then us are scanned) refl g.string refl;
}

pub null_form : SpellsHead h.Null
null_form = record { spelled = λ size line rest more ends scanned. spells h.Null (ap (λ text. text ++ rest) t.null_layer) (word_then (codes "null") refl ends scanned) refl g.null refl }

pub undefined_form : SpellsHead h.Undefined
undefined_form = record {
  spelled = λ size line rest more ends scanned.
      spells h.Undefined (ap (λ text. text ++ rest) t.undefined_layer) (word_then (codes "undefined") refl ends scanned) refl g.undefined refl;
}

pub true_form : SpellsHead h.True
true_form = record { spelled = λ size line rest more ends scanned. spells h.True (ap (λ text. text ++ rest) t.true_layer) (word_then (codes "true") refl ends scanned) refl g.true' refl }

pub false_form : SpellsHead h.False
false_form = record { spelled = λ size line rest more ends scanned. spells h.False (ap (λ text. text ++ rest) t.false_layer) (word_then (codes "false") refl ends scanned) refl g.false' refl }

pub string_of_form : {args : List JsExpr} → Each SpellsExpr args → SpellsHead (h.StringOf args)
string_of_form {args} all = record {
  spelled = λ size line rest more ends scanned.
      let p = arguments_form all size false rest more scanned in
      spells (h.StringOf p.placed) (simp (t.string_of_layer, append_assoc)) (word_then (codes "String") refl refl p.scanned) refl (g.string_of p.derived) (cc (u.string_of_same p.placed, u.string_of_same args, p.same));
}

pub is_array_form : {args : List JsExpr} → Each SpellsExpr args → SpellsHead (h.IsArray args)
is_array_form {args} all = record {
  spelled = λ size line rest more ends scanned.
      let p = arguments_form all size false rest more scanned in
      spells (h.IsArray p.placed) (simp (t.is_array_layer, append_assoc))
      (word_then (codes "Array") refl refl (sign_then (codes ".") refl refl (word_then (codes "isArray") refl refl p.scanned))) refl (g.is_array p.derived) (cc (u.is_array_same p.placed, u.is_array_same args, p.same));
}

pub array_from_form : {args : List JsExpr} → Each SpellsExpr args → SpellsHead (h.ArrayFrom args)
array_from_form {args} all = record {
  spelled = λ size line rest more ends scanned.
      let p = arguments_form all size false rest more scanned in
      spells (h.ArrayFrom p.placed) (simp (t.array_from_layer, append_assoc))
      (word_then (codes "Array") refl refl (sign_then (codes ".") refl refl (word_then (codes "from") refl refl p.scanned))) refl (g.array_from p.derived) (cc (u.array_from_same p.placed, u.array_from_same args, p.same));
}

-- ---- selectors

pub no_selectors_form : SpellsSelectors []
no_selectors_form = record {
  spelled = λ size rest more f. record {
    all = record { tokens = more; placed = []; same = refl; scanned = f.scanned; derived = g.no_selectors };
    ends = f.ends;
    no_call = λ _. f.no_call;
  };
}

-- the first of the selectors, and then the others
module _ {size : ℕ} {text flat : Bytes} {xs : List JsSelector} {derives : Tokens → List JsSelector → Type 0} {tokens : Tokens} where
  abbrev selects : (placed : List JsSelector) → text ≡ flat → AreTokens size false flat tokens → derives tokens placed → map selector_without_places placed ≡ map selector_without_places xs
      → SpellsAll size false text selector_without_places xs derives
  selects placed e scanned derived same = record {
    tokens = tokens;
    placed = placed;
    same = same;
    scanned = subst (λ bs. AreTokens size false bs tokens) (sym e) scanned;
    derived = derived;
  }

pub index_form : {a : JsExpr} {xs : List JsSelector} → SpellsExpr a → SpellsSelectors xs → SpellsSelectors (l.Index a ∷ xs)
index_form {a} {xs} pa pxs = record {
  spelled = λ size rest more f.
      let later = (pxs.spelled size rest more f).all in
      let p = pa.spelled size false (93 ∷ (joined (map text_of_selector xs) ++ rest)) _ (closed (codes "]") bracket later.scanned) in
      let flat : joined (map text_of_selector (l.Index a ∷ xs)) ++ rest ≡ 91 ∷ (text_of_expr a ++ 93 ∷ (joined (map text_of_selector xs) ++ rest)) = simp (t.index_layer, append_assoc) in
      record {
        all = selects (l.Index p.placed ∷ later.placed) flat (sign_then (codes "[") refl refl p.scanned) (g.index p.derived later.derived)
            (ap₂ (λ b bs. b ∷ bs) (u.index_same p.placed ∙ ap l.Index p.same ∙ sym (u.index_same a)) later.same);
        ends = subst EndsRun (sym flat) refl;
        no_call = λ _. refl {a = false};
      };
}

pub call_form : {args : List JsExpr} {xs : List JsSelector} → Each SpellsExpr args → SpellsSelectors xs → SpellsSelectors (l.Call args ∷ xs)
call_form {args} {xs} each pxs = record {
  spelled = λ size rest more f.
      let later = (pxs.spelled size rest more f).all in
      let p = arguments_form each size false (joined (map text_of_selector xs) ++ rest) later.tokens later.scanned in
      let flat : joined (map text_of_selector (l.Call args ∷ xs)) ++ rest ≡ arguments_text (map text_of_expr args) ++ (joined (map text_of_selector xs) ++ rest) = simp (t.call_layer, append_assoc) in
      record {
        all = selects (l.Call p.placed ∷ later.placed) flat p.scanned (g.call p.derived later.derived)
            (ap₂ (λ b bs. b ∷ bs) (u.call_same p.placed ∙ ap l.Call p.same ∙ sym (u.call_same args)) later.same);
        ends = subst EndsRun (sym flat) refl;
        no_call = λ c. cc;
      };
}

pub member_form : (m : JsMember) {xs : List JsSelector} → calls xs ≡ false → SpellsSelectors xs → SpellsSelectors (l.Member m ∷ xs)
member_form m {xs} alone pxs = record {
  spelled = λ size rest more f.
      let behind = pxs.spelled size rest more f in
      let later = behind.all in
      let flat : joined (map text_of_selector (l.Member m ∷ xs)) ++ rest ≡ 46 ∷ (member_text m ++ (joined (map text_of_selector xs) ++ rest)) = simp (t.member_layer, append_assoc) in
      record {
        all = selects (l.Member m ∷ later.placed) flat (sign_then (codes ".") refl refl (word_then (member_text m) (member_is_run m) behind.ends later.scanned)) (g.member (behind.no_call alone) later.derived)
            (ap (λ bs. selector_without_places (l.Member m) ∷ bs) later.same);
        ends = subst EndsRun (sym flat) refl;
        no_call = λ _. refl {a = false};
      };
}

pub method_form : (m : JsMember) {args : List JsExpr} {xs : List JsSelector} → Each SpellsExpr args → SpellsSelectors xs → SpellsSelectors (l.Method m args ∷ xs)
method_form m {args} {xs} each pxs = record {
  spelled = λ size rest more f.
      let later = (pxs.spelled size rest more f).all in
      let p = arguments_form each size false (joined (map text_of_selector xs) ++ rest) later.tokens later.scanned in
      let flat : joined (map text_of_selector (l.Method m args ∷ xs)) ++ rest ≡ 46 ∷ (member_text m ++ (arguments_text (map text_of_expr args) ++ (joined (map text_of_selector xs) ++ rest))) = simp (t.method_layer, append_assoc) in
      record {
        all = selects (l.Method m p.placed ∷ later.placed) flat (sign_then (codes ".") refl refl (word_then (member_text m) (member_is_run m) refl p.scanned)) (g.method p.derived later.derived)
            (ap₂ (λ b bs. b ∷ bs) (u.method_same m p.placed ∙ ap (l.Method m) p.same ∙ sym (u.method_same m args)) later.same);
        ends = subst EndsRun (sym flat) refl;
        no_call = λ _. refl {a = false};
      };
}

pub primary_of_form : {a : JsHead} {xs : List JsSelector} → SpellsHead a → SpellsSelectors xs → SpellsPrimary (record { head = a; selectors = xs })
primary_of_form {a} {xs} pa pxs = record {
  spelled = λ size line rest more f.
      let behind = pxs.spelled size rest more f in
      let p = pa.spelled size line (joined (map text_of_selector xs) ++ rest) behind.all.tokens behind.ends behind.all.scanned in
      spells (record { head = p.placed; selectors = behind.all.placed }) (simp (t.text_of_its_parts, append_assoc)) p.scanned p.on_line (g.primary_of p.derived behind.all.derived)
      (u.same_primary (record { head = p.placed; selectors = behind.all.placed }) ∙ ap₂ (λ b bs. record { head = b; selectors = bs }) p.same behind.all.same ∙ sym (u.same_primary (record { head = a; selectors = xs })));
}

-- ---- functions

not_true : (b : Bool) → not b ≡ true → b ≡ false
not_true true e = cc
not_true false e = refl

-- names have no places
record SpellsNames (size : ℕ) (line : Bool) (text : Bytes) (derives : Tokens → Type 0) : Type 0 where
  pub first : Token
  pub others : Tokens
  pub on_line : first.place.on_new_line ≡ line
  pub scanned : AreTokens size line text (first ∷ others)
  pub derived : derives (first ∷ others)

module _ {size : ℕ} {line : Bool} {text flat : Bytes} {derives : Tokens → Type 0} {first : Token} {others : Tokens} where
  spells_names : text ≡ flat → AreTokens size line flat (first ∷ others) → first.place.on_new_line ≡ line → derives (first ∷ others) → SpellsNames size line text derives
  spells_names e scanned on_line derived =
      record { first = first; others = others; on_line = on_line; scanned = subst (λ bs. AreTokens size line bs (first ∷ others)) (sym e) scanned; derived = derived }

names_form : (x : Bytes) (xs before : Names) → are_names before (x ∷ xs) ≡ true → (size : ℕ) (line : Bool) (rest : Bytes) (more : Tokens) → Follows size rest more
    → SpellsNames size line (separated (x ∷ xs) ++ rest) (λ ts. AreNames before ts (x ∷ xs) more)
names_form x [] before are size line rest more f =
    let parts : (is_name x ≡ true) × ((not (is_among before x) && true) ≡ true) = and_parts (is_name x) (not (is_among before x) && true) are in
    let fresh : (not (is_among before x) ≡ true) × (true ≡ true) = and_parts (not (is_among before x)) true parts.1 in
    spells_names refl (word_then x (name_is_run x parts.0) f.ends f.scanned) refl (g.last_name parts.0 (not_true (is_among before x) fresh.0))
names_form x (y ∷ xs) before are size line rest more f =
    let parts : (is_name x ≡ true) × ((not (is_among before x) && are_names (x ∷ before) (y ∷ xs)) ≡ true) = and_parts (is_name x) (not (is_among before x) && are_names (x ∷ before) (y ∷ xs)) are in
    let fresh : (not (is_among before x) ≡ true) × (are_names (x ∷ before) (y ∷ xs) ≡ true) = and_parts (not (is_among before x)) (are_names (x ∷ before) (y ∷ xs)) parts.1 in
    let later = names_form y xs (x ∷ before) fresh.1 size false rest more f in
    spells_names (append_assoc x (44 ∷ 32 ∷ separated (y ∷ xs)) rest) (word_then x (name_is_run x parts.0) refl (sign_then (codes ",") refl refl (space later.scanned))) refl
    (g.more_names parts.0 (not_true (is_among before x) fresh.0) later.derived)

parameters_form : (ps : Names) → are_names [] ps ≡ true → (size : ℕ) (line : Bool) (rest : Bytes) (more : Tokens) → AreTokens size false rest more
    → SpellsNames size line (arguments_text ps ++ rest) (λ ts. AreParameters ts ps more)
parameters_form [] are size line rest more scanned =
    spells_names refl (sign_then (codes "(") refl refl (sign_then (codes ")") refl refl scanned)) refl g.no_parameters
parameters_form (x ∷ ps) are size line rest more scanned =
    let p = names_form x ps [] are size false (41 ∷ rest) _ (closed (codes ")") parenthesis scanned) in
    spells_names (ap (λ bs. 40 ∷ bs) (append_assoc (separated (x ∷ ps)) (codes ")") rest)) (sign_then (codes "(") refl refl p.scanned) refl (g.parameters p.derived)

pub function_of_form : {ps : Names} {body : List JsStmt} → are_names [] ps ≡ true → SpellsBlock ps body → SpellsFunction (record { parameters = ps; body = body })
function_of_form {ps} {body} are block = record {
  spelled = λ size line rest more scanned.
      let b = block.spelled size false rest more scanned in
      let p = parameters_form ps are size line (32 ∷ (block_text (map text_of_stmt body) ++ rest)) _ (space b.scanned) in
      spells (record { parameters = ps; body = b.placed }) (simp append_assoc) p.scanned p.on_line (g.function_of p.derived b.derived)
      (u.same_function (record { parameters = ps; body = b.placed }) ∙ ap (λ ys. record { parameters = ps; body = ys }) b.same ∙ sym (u.same_function (record { parameters = ps; body = body })));
}
