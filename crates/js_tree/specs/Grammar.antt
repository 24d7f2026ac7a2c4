-- The grammar. `IsExpr ts a rest` says that the tokens ts begin with a spelling of a, after which rest follows. The place
-- of a statement is that of its first token.
use Rattle.std.specs.Prelude.{◌≡◌, ◌≤◌, ℕ, Bool, true, false, not, ◌&&◌, ◌==◌, List, [], ◌∷◌, codes}
use Rattle.std.specs.Fmt.{decimal}
use Rattle.std.specs.List.{list_all, list_any}
use Rattle.std.specs.Str.{bytes_eq}
use Rattle.js_tree.specs.declared.tree.JsExpr.{JsExpr}
use Rattle.js_tree.specs.declared.tree.JsExpr.TheVariants as e
use Rattle.js_tree.specs.declared.tree.JsHead.{JsHead}
use Rattle.js_tree.specs.declared.tree.JsHead.TheVariants as h
use Rattle.js_tree.specs.declared.tree.JsSelector.{JsSelector}
use Rattle.js_tree.specs.declared.tree.JsSelector.TheVariants as l
use Rattle.js_tree.specs.declared.tree.JsPrimary.{JsPrimary}
use Rattle.js_tree.specs.declared.tree.JsFunction.{JsFunction}
use Rattle.js_tree.specs.declared.tree.JsEntry.{JsEntry}
use Rattle.js_tree.specs.declared.tree.JsStmt.{JsStmt}
use Rattle.js_tree.specs.declared.tree.JsStmt.TheVariants as s
use Rattle.js_tree.specs.declared.tree.JsItem.{JsItem}
use Rattle.js_tree.specs.declared.tree.JsItem.TheVariants as i
use Rattle.js_tree.specs.declared.words.JsMember.{JsMember}
use Rattle.js_tree.specs.declared.words.JsOperator.{JsOperator}
use Rattle.js_tree.specs.Words.{member_text, operator_text}
use Rattle.js_tree.specs.Tokens.{Bytes, is_digit, is_part, Form, Run, Quoted, Sign, Place, Token, Tokens}

abbrev pub word : Bytes → Place → Token
word text p = record { form = Run text; place = p }

abbrev pub quoted : List ℕ → Place → Token
quoted us p = record { form = Quoted us; place = p }

abbrev pub sign : Bytes → Place → Token
sign text p = record { form = Sign text; place = p }

-- where the first token begins
abbrev pub start : Tokens → ℕ
start [] = 0
start (t ∷ ts) = t.place.from

abbrev pub is_sign_form : Bytes → Form → Bool
is_sign_form text (Sign x) = bytes_eq text x
is_sign_form text _ = false

-- the next token is this sign
abbrev pub next_is : Bytes → Tokens → Bool
next_is text [] = false
next_is text (t ∷ ts) = is_sign_form text t.form

-- ---- names and numbers

-- a run with a $ in it that begins with no digit
abbrev pub is_name : Bytes → Bool
is_name [] = false
is_name (b ∷ bs) = not (is_digit b) && (list_all is_part (b ∷ bs) && list_any (λ c. c == 36) (b ∷ bs))

abbrev pub Names : Type 0
Names = List Bytes

abbrev pub is_among : Names → Bytes → Bool
is_among names x = list_any (bytes_eq x) names

abbrev pub greatest : ℕ
greatest = 9007199254740991

-- "(" [ NAME { "," NAME } ] ")", where no name stands twice; `before` are those that stand before
pub data AreNames : Names → Tokens → Names → Tokens → Type 0 where
  last_name : {before : Names} {x : Bytes} {p : Place} {rest : Tokens} → is_name x ≡ true → is_among before x ≡ false → AreNames before (word x p ∷ rest) (x ∷ []) rest
  more_names : {before xs : Names} {x : Bytes} {p q : Place} {ts rest : Tokens} → is_name x ≡ true → is_among before x ≡ false → AreNames (x ∷ before) ts xs rest
      → AreNames before (word x p ∷ sign (codes ",") q ∷ ts) (x ∷ xs) rest

pub data AreParameters : Tokens → Names → Tokens → Type 0 where
  no_parameters : {p q : Place} {rest : Tokens} → AreParameters (sign (codes "(") p ∷ sign (codes ")") q ∷ rest) [] rest
  parameters : {xs : Names} {p q : Place} {ts rest : Tokens} → AreNames [] ts xs (sign (codes ")") q ∷ rest) → AreParameters (sign (codes "(") p ∷ ts) xs rest

-- ---- expressions and statements

-- the name that a statement declares, before the others
abbrev pub declared : JsStmt → Names → Names
declared (s.Let at x a) names = x ∷ names
declared _ names = names

mutual
  -- e
  pub data IsExpr : Tokens → JsExpr → Tokens → Type 0 where
    primary : {a : JsPrimary} {ts rest : Tokens} → IsPrimary ts a rest → IsExpr ts (e.Primary a) rest
    binary : {o : JsOperator} {a b : JsPrimary} {p : Place} {ts mid rest : Tokens} → IsPrimary ts a (sign (operator_text o) p ∷ mid) → IsPrimary mid b rest
        → IsExpr ts (e.Binary o a b) rest
    type_of : {a : JsPrimary} {p : Place} {ts rest : Tokens} → IsPrimary ts a rest → IsExpr (word (codes "typeof") p ∷ ts) (e.TypeOf a) rest
    function : {f : JsFunction} {p : Place} {ts rest : Tokens} → IsFunction ts f rest → IsExpr (word (codes "function") p ∷ ts) (e.Function f) rest
    new_map : {p q r t : Place} {rest : Tokens} → IsExpr (word (codes "new") p ∷ word (codes "Map") q ∷ sign (codes "(") r ∷ sign (codes ")") t ∷ rest) e.NewMap rest
    array : {xs : List JsExpr} {p : Place} {ts rest : Tokens} → AreListed (codes "]") ts xs rest → IsExpr (sign (codes "[") p ∷ ts) (e.Array xs) rest
    no_entries : {p q : Place} {rest : Tokens} → IsExpr (sign (codes "{") p ∷ sign (codes "}") q ∷ rest) (e.Object []) rest
    object : {xs : List JsEntry} {p q : Place} {ts rest : Tokens} → AreEntries ts xs (sign (codes "}") q ∷ rest) → IsExpr (sign (codes "{") p ∷ ts) (e.Object xs) rest

  -- STR ":" e { "," STR ":" e }
  pub data AreEntries : Tokens → List JsEntry → Tokens → Type 0 where
    last_entry : {us : List ℕ} {a : JsExpr} {p q : Place} {ts rest : Tokens} → IsExpr ts a rest
        → AreEntries (quoted us p ∷ sign (codes ":") q ∷ ts) (record { key = us; value = a } ∷ []) rest
    more_entries : {us : List ℕ} {a : JsExpr} {xs : List JsEntry} {p q r : Place} {ts mid rest : Tokens} → IsExpr ts a (sign (codes ",") r ∷ mid) → AreEntries mid xs rest
        → AreEntries (quoted us p ∷ sign (codes ":") q ∷ ts) (record { key = us; value = a } ∷ xs) rest

  -- e { "," e }
  pub data AreExprs : Tokens → List JsExpr → Tokens → Type 0 where
    last_expr : {a : JsExpr} {ts rest : Tokens} → IsExpr ts a rest → AreExprs ts (a ∷ []) rest
    more_exprs : {a : JsExpr} {xs : List JsExpr} {p : Place} {ts mid rest : Tokens} → IsExpr ts a (sign (codes ",") p ∷ mid) → AreExprs mid xs rest → AreExprs ts (a ∷ xs) rest

  -- [ e { "," e } ] and the sign that closes them
  pub data AreListed : Bytes → Tokens → List JsExpr → Tokens → Type 0 where
    no_items : {close : Bytes} {p : Place} {rest : Tokens} → AreListed close (sign close p ∷ rest) [] rest
    items : {close : Bytes} {xs : List JsExpr} {p : Place} {ts rest : Tokens} → AreExprs ts xs (sign close p ∷ rest) → AreListed close ts xs rest

  -- as
  pub data AreArguments : Tokens → List JsExpr → Tokens → Type 0 where
    arguments : {xs : List JsExpr} {p : Place} {ts rest : Tokens} → AreListed (codes ")") ts xs rest → AreArguments (sign (codes "(") p ∷ ts) xs rest

  -- p
  pub data IsPrimary : Tokens → JsPrimary → Tokens → Type 0 where
    primary_of : {a : JsHead} {xs : List JsSelector} {ts mid rest : Tokens} → IsHead ts a mid → AreSelectors mid xs rest → IsPrimary ts (record { head = a; selectors = xs }) rest

  pub data IsHead : Tokens → JsHead → Tokens → Type 0 where
    name : {x : Bytes} {p : Place} {rest : Tokens} → is_name x ≡ true → IsHead (word x p ∷ rest) (h.Name x) rest
    digits : {n : ℕ} {p : Place} {rest : Tokens} → n ≤ greatest → IsHead (word (decimal n) p ∷ rest) (h.Digits n) rest
    negative : {n : ℕ} {p q : Place} {rest : Tokens} → n ≤ greatest → IsHead (sign (codes "-") p ∷ word (decimal n) q ∷ rest) (h.Negative n) rest
    string : {us : List ℕ} {p : Place} {rest : Tokens} → IsHead (quoted us p ∷ rest) (h.Str us) rest
    null : {p : Place} {rest : Tokens} → IsHead (word (codes "null") p ∷ rest) h.Null rest
    undefined : {p : Place} {rest : Tokens} → IsHead (word (codes "undefined") p ∷ rest) h.Undefined rest
    true' : {p : Place} {rest : Tokens} → IsHead (word (codes "true") p ∷ rest) h.True rest
    false' : {p : Place} {rest : Tokens} → IsHead (word (codes "false") p ∷ rest) h.False rest
    string_of : {xs : List JsExpr} {p : Place} {ts rest : Tokens} → AreArguments ts xs rest → IsHead (word (codes "String") p ∷ ts) (h.StringOf xs) rest
    is_array : {xs : List JsExpr} {p q r : Place} {ts rest : Tokens} → AreArguments ts xs rest
        → IsHead (word (codes "Array") p ∷ sign (codes ".") q ∷ word (codes "isArray") r ∷ ts) (h.IsArray xs) rest
    array_from : {xs : List JsExpr} {p q r : Place} {ts rest : Tokens} → AreArguments ts xs rest
        → IsHead (word (codes "Array") p ∷ sign (codes ".") q ∷ word (codes "from") r ∷ ts) (h.ArrayFrom xs) rest

  -- A word that arguments follow has them: `p.push(x)` is the member with arguments, and no call of a member without.
  pub data AreSelectors : Tokens → List JsSelector → Tokens → Type 0 where
    no_selectors : {ts : Tokens} → AreSelectors ts [] ts
    index : {a : JsExpr} {xs : List JsSelector} {p q : Place} {ts mid rest : Tokens} → IsExpr ts a (sign (codes "]") q ∷ mid) → AreSelectors mid xs rest
        → AreSelectors (sign (codes "[") p ∷ ts) (l.Index a ∷ xs) rest
    call : {args : List JsExpr} {xs : List JsSelector} {ts mid rest : Tokens} → AreArguments ts args mid → AreSelectors mid xs rest → AreSelectors ts (l.Call args ∷ xs) rest
    member : {m : JsMember} {xs : List JsSelector} {p q : Place} {ts rest : Tokens} → next_is (codes "(") ts ≡ false → AreSelectors ts xs rest
        → AreSelectors (sign (codes ".") p ∷ word (member_text m) q ∷ ts) (l.Member m ∷ xs) rest
    method : {m : JsMember} {args : List JsExpr} {xs : List JsSelector} {p q : Place} {ts mid rest : Tokens} → AreArguments ts args mid → AreSelectors mid xs rest
        → AreSelectors (sign (codes ".") p ∷ word (member_text m) q ∷ ts) (l.Method m args ∷ xs) rest

  -- ps jb
  pub data IsFunction : Tokens → JsFunction → Tokens → Type 0 where
    function_of : {ps : Names} {body : List JsStmt} {ts mid rest : Tokens} → AreParameters ts ps mid → IsBlock ps mid body rest
        → IsFunction ts (record { parameters = ps; body = body }) rest

  -- jb, behind these parameters or this catch name
  pub data IsBlock : Names → Tokens → List JsStmt → Tokens → Type 0 where
    block : {names : Names} {body : List JsStmt} {p q : Place} {ts rest : Tokens} → AreStmts names ts body (sign (codes "}") q ∷ rest) → IsBlock names (sign (codes "{") p ∷ ts) body rest

  -- { s }, where these names are declared before
  pub data AreStmts : Names → Tokens → List JsStmt → Tokens → Type 0 where
    no_stmts : {names : Names} {ts : Tokens} → AreStmts names ts [] ts
    stmts : {names : Names} {a : JsStmt} {more : List JsStmt} {ts mid rest : Tokens} → IsStmt names ts a mid → AreStmts (declared a names) mid more rest → AreStmts names ts (a ∷ more) rest

  -- s
  pub data IsStmt : Names → Tokens → JsStmt → Tokens → Type 0 where
    let' : {names : Names} {x : Bytes} {a : JsExpr} {p q r t : Place} {ts rest : Tokens} → is_name x ≡ true → is_among names x ≡ false → IsExpr ts a (sign (codes ";") t ∷ rest)
        → IsStmt names (word (codes "let") p ∷ word x q ∷ sign (codes "=") r ∷ ts) (s.Let p.from x a) rest
    assign : {names : Names} {x : Bytes} {a : JsExpr} {p q r : Place} {ts rest : Tokens} → is_name x ≡ true → IsExpr ts a (sign (codes ";") r ∷ rest)
        → IsStmt names (word x p ∷ sign (codes "=") q ∷ ts) (s.Assign p.from x a) rest
    store : {names : Names} {a : JsHead} {xs : List JsSelector} {b c : JsExpr} {p q r t : Place} {ts mid after late rest : Tokens} → IsHead ts a mid
        → AreSelectors mid xs (sign (codes "[") p ∷ after) → IsExpr after b (sign (codes "]") q ∷ sign (codes "=") r ∷ late) → IsExpr late c (sign (codes ";") t ∷ rest)
        → IsStmt names ts (s.Store (start ts) (record { head = a; selectors = xs }) b c) rest
    perform : {names : Names} {a : JsPrimary} {p : Place} {ts rest : Tokens} → IsPrimary ts a (sign (codes ";") p ∷ rest) → IsStmt names ts (s.Perform (start ts) a) rest
    if' : {names : Names} {a : JsExpr} {xs : List JsStmt} {p q r : Place} {ts mid rest : Tokens} → IsExpr ts a (sign (codes ")") r ∷ mid) → IsBlock [] mid xs rest
        → IsStmt names (word (codes "if") p ∷ sign (codes "(") q ∷ ts) (s.If p.from a xs) rest
    if_else : {names : Names} {a : JsExpr} {xs ys : List JsStmt} {p q r t : Place} {ts mid after rest : Tokens} → IsExpr ts a (sign (codes ")") r ∷ mid)
        → IsBlock [] mid xs (word (codes "else") t ∷ after) → IsBlock [] after ys rest → IsStmt names (word (codes "if") p ∷ sign (codes "(") q ∷ ts) (s.IfElse p.from a xs ys) rest
    loop : {names : Names} {xs : List JsStmt} {p q r t : Place} {ts rest : Tokens} → IsBlock [] ts xs rest
        → IsStmt names (word (codes "while") p ∷ sign (codes "(") q ∷ word (codes "true") r ∷ sign (codes ")") t ∷ ts) (s.Loop p.from xs) rest
    labelled : {names : Names} {x : Bytes} {xs : List JsStmt} {p q : Place} {ts rest : Tokens} → is_name x ≡ true → IsBlock [] ts xs rest
        → IsStmt names (word x p ∷ sign (codes ":") q ∷ ts) (s.Labelled p.from x xs) rest
    -- no line ends behind `break`, `return` and `throw`
    break' : {names : Names} {x : Bytes} {p q r : Place} {rest : Tokens} → is_name x ≡ true → q.on_new_line ≡ false
        → IsStmt names (word (codes "break") p ∷ word x q ∷ sign (codes ";") r ∷ rest) (s.Break p.from x) rest
    return' : {names : Names} {a : JsExpr} {t : Token} {p q : Place} {ts rest : Tokens} → t.place.on_new_line ≡ false → IsExpr (t ∷ ts) a (sign (codes ";") q ∷ rest)
        → IsStmt names (word (codes "return") p ∷ t ∷ ts) (s.Return p.from a) rest
    throw' : {names : Names} {a : JsExpr} {t : Token} {p q : Place} {ts rest : Tokens} → t.place.on_new_line ≡ false → IsExpr (t ∷ ts) a (sign (codes ";") q ∷ rest)
        → IsStmt names (word (codes "throw") p ∷ t ∷ ts) (s.Throw p.from a) rest
    try_catch : {names : Names} {x : Bytes} {xs ys : List JsStmt} {p q r t u : Place} {ts mid rest : Tokens} → is_name x ≡ true
        → IsBlock [] ts xs (word (codes "catch") q ∷ sign (codes "(") r ∷ word x t ∷ sign (codes ")") u ∷ mid) → IsBlock (x ∷ []) mid ys rest
        → IsStmt names (word (codes "try") p ∷ ts) (s.TryCatch p.from xs x ys) rest
    try_finally : {names : Names} {xs ys : List JsStmt} {p q : Place} {ts mid rest : Tokens} → IsBlock [] ts xs (word (codes "finally") q ∷ mid) → IsBlock [] mid ys rest
        → IsStmt names (word (codes "try") p ∷ ts) (s.TryFinally p.from xs ys) rest

-- ---- files

-- { item }, to the end, where these names are declared before
pub data AreItems : Names → Tokens → List JsItem → Type 0 where
  no_items : {names : Names} → AreItems names [] []
  function_item : {names : Names} {x : Bytes} {f : JsFunction} {more : List JsItem} {p q : Place} {ts rest : Tokens} → is_name x ≡ true → is_among names x ≡ false → IsFunction ts f rest
      → AreItems (x ∷ names) rest more → AreItems names (word (codes "function") p ∷ word x q ∷ ts) (i.Declared x f ∷ more)
  var : {names : Names} {x : Bytes} {a : JsExpr} {more : List JsItem} {p q r t : Place} {ts rest : Tokens} → is_name x ≡ true → is_among names x ≡ false
      → IsExpr ts a (sign (codes ";") t ∷ rest) → AreItems (x ∷ names) rest more
      → AreItems names (word (codes "var") p ∷ word x q ∷ sign (codes "=") r ∷ ts) (i.Var p.from x a ∷ more)
  statement : {names : Names} {a : JsStmt} {more : List JsItem} {ts rest : Tokens} → IsStmt names ts a rest → AreItems (declared a names) rest more → AreItems names ts (i.Statement a ∷ more)
