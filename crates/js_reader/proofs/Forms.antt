-- Pieces of each form, and how they are put together.
use Rattle.std.proofs.Common.{◌≡◌, ℕ, Bool, true, false, List, [], ◌∷◌, ◌++◌, refl, sym, ap, ◌∙◌, subst, append_assoc}
use Rattle.std.specs.Prelude.{codes}
use Rattle.std.specs.Str.{bytes_eq}
use Rattle.std.proofs.lemmas.List.{append-nil}
use Rattle.js_tree.specs.declared.tree.JsExpr.{JsExpr}
use Rattle.js_tree.specs.declared.tree.JsExpr.TheVariants as e
use Rattle.js_tree.specs.declared.tree.JsExpr.TheOpen.{JsSelector-F}
use Rattle.js_tree.specs.declared.tree.JsHead.{JsHead}
use Rattle.js_tree.specs.declared.tree.JsHead.TheVariants as H
use Rattle.js_tree.specs.declared.tree.JsSelector.{JsSelector, out-JsSelector, out-roll-JsSelector}
use Rattle.js_tree.specs.declared.tree.JsSelector.TheVariants as l
use Rattle.js_tree.specs.declared.tree.JsPrimary.{JsPrimary}
use Rattle.js_tree.specs.declared.tree.JsFunction.{JsFunction}
use Rattle.js_tree.specs.declared.tree.JsEntry.{JsEntry}
use Rattle.js_tree.specs.declared.tree.JsStmt.{JsStmt}
use Rattle.js_tree.specs.declared.tree.JsStmt.TheVariants as s
use Rattle.js_tree.specs.declared.words.JsMember.{JsMember}
use Rattle.js_tree.specs.declared.words.JsOperator.{JsOperator}
use Rattle.js_tree.specs.declared.words.JsOperator.TheVariants as oo
use Rattle.js_tree.specs.Words.{member_text, operator_text}
use Rattle.js_tree.specs.Tokens.{Bytes, Place, Tokens}
use Rattle.js_tree.specs.Grammar as g
use Rattle.js_tree.specs.Grammar.{word, quoted, sign, start, next_is, Names, is_name, is_among, declared, AreNames, AreParameters, IsExpr, AreEntries, AreExprs, AreListed, AreArguments, IsPrimary, IsHead, AreSelectors, IsFunction, IsBlock, AreStmts, IsStmt, AreItems}
use Rattle.js_reader.proofs.Alike.{IsSame, same_block, same_middle}
use Rattle.js_reader.proofs.Pieces.{Pieces, put}
use Rattle.js_reader.proofs.Onward.{Form, Gives, gives, given, Led, led, Seq, seq}
use Rattle.js_reader.proofs.Singles.{NameOf, name_of, FreshOf, fresh_of, NumberOf, number_is, MemberOf, member_is, StringOf, string_is}

-- no arguments follow
abbrev pub NoCall : Tokens → Type 0
NoCall ts = next_is (codes "(") ts ≡ false

abbrev pub ExprOf : Form JsExpr
ExprOf w a = (tail : Tokens) → NoCall tail → IsExpr (put w tail) a tail

-- what declares nothing
abbrev pub IsPlain : Tokens → JsStmt → Tokens → Type 0
IsPlain ts a rest = (names : Names) → IsStmt names ts a rest × (declared a names ≡ names)

abbrev pub StmtOf : Form JsStmt
StmtOf w a = (tail : Tokens) → IsPlain (put w tail) a tail

-- ---- names and parameters

-- some names, behind these
abbrev pub NamesFrom : Names → List Bytes → Form (List Bytes × Names)
NamesFrom before found w r = (xs : Names) × (found ++ xs ≡ r.0) × IsSame r.1 (xs ++ before) × ((tail : Tokens) → AreNames before (put w tail) xs tail)

-- what follows a name among others
abbrev pub NamesAfter : Names → List Bytes → Bytes → Form (List Bytes × Names)
NamesAfter before found x w r = (xs : Names) × (found ++ x ∷ xs ≡ r.0) × IsSame r.1 (x ∷ (xs ++ before)) × ((at : Place) (tail : Tokens) → is_name x ≡ true → is_among before x ≡ false → AreNames before (word x at ∷ put w tail) (x ∷ xs) tail)

pub names_more : (before : Names) (found : List Bytes) (x : Bytes) (w : Pieces) (r : List Bytes × Names) → Led (sign (codes ",")) (λ at. NamesFrom (x ∷ before) (found ++ x ∷ [])) w r → NamesAfter before found x w r
names_more before found x w r (led at k) = (k.0, sym (append_assoc found (x ∷ []) k.0) ∙ k.1, same_middle r.1 k.0 x before k.2, λ c tail n f. g.more_names n f (k.3 tail))

pub names_last : (before : Names) (found : List Bytes) (x : Bytes) (w : Pieces) (r : List Bytes × Names) → Gives (found ++ x ∷ [], x ∷ before) w r → NamesAfter before found x w r
names_last before found x w r gives = ([], refl, λ y. refl, λ c tail n f. g.last_name n f)

pub names_join : (before : Names) (found : List Bytes) (w : Pieces) (r : List Bytes × Names) → Seq (FreshOf before) (NamesAfter before found) w r → NamesFrom before found w r
names_join before found w r (seq {x = x} (fresh_of at n f) k) = (x ∷ k.0, k.1, k.2, λ tail. k.3 at tail n f)

abbrev pub ParametersOf : Form (List Bytes × Names)
ParametersOf w r = ((tail : Tokens) → AreParameters (put w tail) r.0 tail) × IsSame r.1 r.0

-- what follows the bracket
abbrev pub ParametersAfter : Form (List Bytes × Names)
ParametersAfter w r = ((at : Place) (tail : Tokens) → AreParameters (sign (codes "(") at ∷ put w tail) r.0 tail) × IsSame r.1 r.0

pub parameters_none : (w : Pieces) (r : List Bytes × Names) → Led (sign (codes ")")) (λ at. Gives ([], [])) w r → ParametersAfter w r
parameters_none w r (led at gives) = (λ c tail. g.no_parameters, λ o. refl)

pub parameters_some : (w : Pieces) (r : List Bytes × Names) → Seq (NamesFrom [] []) (λ xs. Led (sign (codes ")")) (λ at. Gives xs)) w r → ParametersAfter w r
parameters_some w r (seq k (led at gives)) =
    (λ c tail. g.parameters (subst (λ (ns : Names). AreNames [] _ ns _) k.1 (k.3 (sign (codes ")") at ∷ tail))), subst (λ (ns : Names). IsSame r.1 ns) (append-nil k.0 ∙ k.1) k.2)

pub parameters_join : (w : Pieces) (r : List Bytes × Names) → Led (sign (codes "(")) (λ at. ParametersAfter) w r → ParametersOf w r
parameters_join w r (led at k) = (λ tail. k.0 at tail, k.1)

-- ---- lists of expressions

-- some expressions, behind these
abbrev pub ExprsFrom : List JsExpr → Form (List JsExpr)
ExprsFrom found w r = (xs : List JsExpr) × (found ++ xs ≡ r) × ((tail : Tokens) → NoCall tail → AreExprs (put w tail) xs tail)

-- what follows an expression among others
abbrev pub ExprsAfter : List JsExpr → JsExpr → Form (List JsExpr)
ExprsAfter found x w r = (xs : List JsExpr) × (found ++ x ∷ xs ≡ r) × ((tail : Tokens) → NoCall tail → NoCall (put w tail) × ((ts : Tokens) → IsExpr ts x (put w tail) → AreExprs ts (x ∷ xs) tail))

pub exprs_more : (found : List JsExpr) (x : JsExpr) (w : Pieces) (r : List JsExpr) → Led (sign (codes ",")) (λ at. ExprsFrom (found ++ x ∷ [])) w r → ExprsAfter found x w r
exprs_more found x w r (led at k) = (k.0, sym (append_assoc found (x ∷ []) k.0) ∙ k.1, λ tail n. (refl, λ ts d. g.more_exprs d (k.2 tail n)))

pub exprs_last : (found : List JsExpr) (x : JsExpr) (w : Pieces) (r : List JsExpr) → Gives (found ++ x ∷ []) w r → ExprsAfter found x w r
exprs_last found x w r gives = ([], refl, λ tail n. (n, λ ts d. g.last_expr d))

pub exprs_join : (found : List JsExpr) (w : Pieces) (r : List JsExpr) → Seq ExprOf (ExprsAfter found) w r → ExprsFrom found w r
exprs_join found w r (seq {w = late} {x = x} d k) = (x ∷ k.0, k.1, λ tail n. let m = k.2 tail n in m.1 _ (d (put late tail) m.0))

abbrev pub ListedOf : ℕ → Form (List JsExpr)
ListedOf close w xs = (tail : Tokens) → AreListed (close ∷ []) (put w tail) xs tail

pub listed_none : (close : ℕ) (w : Pieces) (r : List JsExpr) → Led (sign (close ∷ [])) (λ at. Gives []) w r → ListedOf close w r
listed_none close w r (led at gives) = λ tail. g.no_items

pub listed_some : (close : ℕ) → bytes_eq (codes "(") (close ∷ []) ≡ false → (w : Pieces) (r : List JsExpr) → Seq (ExprsFrom []) (λ xs. Led (sign (close ∷ [])) (λ at. Gives xs)) w r → ListedOf close w r
listed_some close c w r (seq k (led at gives)) = λ tail. g.items (subst (λ (ys : List JsExpr). AreExprs _ ys _) k.1 (k.2 (sign (close ∷ []) at ∷ tail) c))

abbrev pub ArgumentsOf : Form (List JsExpr)
ArgumentsOf w xs = (tail : Tokens) → AreArguments (put w tail) xs tail

pub arguments_join : (w : Pieces) (r : List JsExpr) → Led (sign (codes "(")) (λ at. ListedOf 41) w r → ArgumentsOf w r
arguments_join w r (led at k) = λ tail. g.arguments (k tail)

-- ---- heads

abbrev pub HeadOf : Form JsHead
HeadOf w a = (tail : Tokens) → IsHead (put w tail) a tail

pub negative_join : (w : Pieces) (r : JsHead) → Led (sign (codes "-")) (λ at. Seq NumberOf (λ n. Gives (H.Negative n))) w r → HeadOf w r
negative_join w r (led at (seq (number_is b k) gives)) = λ tail. g.negative k

pub digits_join : (w : Pieces) (r : JsHead) → Seq NumberOf (λ n. Gives (H.Digits n)) w r → HeadOf w r
digits_join w r (seq (number_is b k) gives) = λ tail. g.digits k

pub string_join : (w : Pieces) (r : JsHead) → Seq StringOf (λ us. Gives (H.Str us)) w r → HeadOf w r
string_join w r (seq (string_is b) gives) = λ tail. g.string

pub named_join : (w : Pieces) (r : JsHead) → Seq NameOf (λ x. Gives (H.Name x)) w r → HeadOf w r
named_join w r (seq (name_of b n) gives) = λ tail. g.name n

pub string_of_join : (w : Pieces) (r : JsHead) → Led (word (codes "String")) (λ at. Seq ArgumentsOf (λ xs. Gives (H.StringOf xs))) w r → HeadOf w r
string_of_join w r (led at (seq {v = v} d k)) = λ tail. given (λ u y. IsHead (word (codes "String") at ∷ put v (put u tail)) y tail) k (g.string_of (d tail))

-- what follows `Array .`
abbrev pub ArrayAfter : Form JsHead
ArrayAfter w a = (q r : Place) (tail : Tokens) → IsHead (word (codes "Array") q ∷ sign (codes ".") r ∷ put w tail) a tail

pub is_array_join : (w : Pieces) (r : JsHead) → Led (word (codes "isArray")) (λ at. Seq ArgumentsOf (λ xs. Gives (H.IsArray xs))) w r → ArrayAfter w r
is_array_join w r (led at (seq {v = v} d k)) =
    λ b c tail. given (λ u y. IsHead (word (codes "Array") b ∷ sign (codes ".") c ∷ word (codes "isArray") at ∷ put v (put u tail)) y tail) k (g.is_array (d tail))

pub array_from_join : (w : Pieces) (r : JsHead) → Led (word (codes "from")) (λ at. Seq ArgumentsOf (λ xs. Gives (H.ArrayFrom xs))) w r → ArrayAfter w r
array_from_join w r (led at (seq {v = v} d k)) =
    λ b c tail. given (λ u y. IsHead (word (codes "Array") b ∷ sign (codes ".") c ∷ word (codes "from") at ∷ put v (put u tail)) y tail) k (g.array_from (d tail))

pub of_array_join : (w : Pieces) (r : JsHead) → Led (word (codes "Array")) (λ at. Led (sign (codes ".")) (λ b. ArrayAfter)) w r → HeadOf w r
of_array_join w r (led at (led b k)) = λ tail. k at b tail

pub null_join : (w : Pieces) (r : JsHead) → Led (word (codes "null")) (λ at. Gives H.Null) w r → HeadOf w r
null_join w r (led at gives) = λ tail. g.null

pub undefined_join : (w : Pieces) (r : JsHead) → Led (word (codes "undefined")) (λ at. Gives H.Undefined) w r → HeadOf w r
undefined_join w r (led at gives) = λ tail. g.undefined

pub true_join : (w : Pieces) (r : JsHead) → Led (word (codes "true")) (λ at. Gives H.True) w r → HeadOf w r
true_join w r (led at gives) = λ tail. g.true'

pub false_join : (w : Pieces) (r : JsHead) → Led (word (codes "false")) (λ at. Gives H.False) w r → HeadOf w r
false_join w r (led at gives) = λ tail. g.false'

-- ---- selectors

-- whether it is a member without arguments
abbrev is_member_by : JsSelector-F JsExpr JsHead JsSelector JsStmt JsEntry JsFunction JsPrimary → Bool
is_member_by (JsSelector-F.Member m) = true
is_member_by _ = false

abbrev pub is_member : JsSelector → Bool
is_member x = is_member_by (out-JsSelector x)

pub index_no_member : (a : JsExpr) → is_member (l.Index a) ≡ false
index_no_member a = ap is_member (sym (l.rolls-Index a)) ∙ ap is_member_by (out-roll-JsSelector (JsSelector-F.Index a))

pub call_no_member : (args : List JsExpr) → is_member (l.Call args) ≡ false
call_no_member args = ap is_member (sym (l.rolls-Call args)) ∙ ap is_member_by (out-roll-JsSelector (JsSelector-F.Call args))

pub method_no_member : (m : JsMember) (args : List JsExpr) → is_member (l.Method m args) ≡ false
method_no_member m args = ap is_member (sym (l.rolls-Method m args)) ∙ ap is_member_by (out-roll-JsSelector (JsSelector-F.Method m args))

member_is_one : (m : JsMember) → is_member (l.Member m) ≡ true
member_is_one m = ap is_member (sym (l.rolls-Member m)) ∙ ap is_member_by (out-roll-JsSelector (JsSelector-F.Member m))

-- one selector, with others behind it
abbrev pub SelectorOf : Form JsSelector
SelectorOf w x = (tail : Tokens) → (is_member x ≡ true → NoCall tail) → (xs : List JsSelector) (rest : Tokens) → AreSelectors tail xs rest → AreSelectors (put w tail) (x ∷ xs) rest

pub index_join : (w : Pieces) (x : JsSelector) → Led (sign (codes "[")) (λ at. Seq ExprOf (λ a. Led (sign (codes "]")) (λ b. Gives (l.Index a)))) w x → SelectorOf w x
index_join w x (led at (seq {v = v} d (led b k))) =
    λ tail n xs rest c. given (λ u y. AreSelectors (sign (codes "[") at ∷ put v (sign (codes "]") b ∷ put u tail)) (y ∷ xs) rest) k (g.index (d (sign (codes "]") b ∷ tail) refl) c)

pub call_join : (w : Pieces) (x : JsSelector) → Seq ArgumentsOf (λ args. Gives (l.Call args)) w x → SelectorOf w x
call_join w x (seq {v = v} d k) = λ tail n xs rest c. given (λ u y. AreSelectors (put v (put u tail)) (y ∷ xs) rest) k (g.call (d tail) c)

-- what follows a member
abbrev pub MemberAfter : JsMember → Form JsSelector
MemberAfter m w x = (q r : Place) (tail : Tokens) → (is_member x ≡ true → NoCall tail) → (xs : List JsSelector) (rest : Tokens) → AreSelectors tail xs rest
    → AreSelectors (sign (codes ".") q ∷ word (member_text m) r ∷ put w tail) (x ∷ xs) rest

pub method_join : (m : JsMember) (w : Pieces) (x : JsSelector) → Seq ArgumentsOf (λ args. Gives (l.Method m args)) w x → MemberAfter m w x
method_join m w x (seq {v = v} d k) =
    λ b c tail n xs rest o. given (λ u y. AreSelectors (sign (codes ".") b ∷ word (member_text m) c ∷ put v (put u tail)) (y ∷ xs) rest) k (g.method (d tail) o)

pub bare_join : (m : JsMember) (w : Pieces) (x : JsSelector) → Gives (l.Member m) w x → MemberAfter m w x
bare_join m w x gives = λ b c tail n xs rest k. g.member (n (member_is_one m)) k

pub member_join : (w : Pieces) (x : JsSelector) → Led (sign (codes ".")) (λ at. Seq MemberOf MemberAfter) w x → SelectorOf w x
member_join w x (led at (seq (member_is b) k)) = λ tail n xs rest d. k at b tail n xs rest d

-- some selectors, behind these
abbrev pub SelectorsFrom : List JsSelector → Form (List JsSelector)
SelectorsFrom found w r = (xs : List JsSelector) × (found ++ xs ≡ r) × ((tail : Tokens) → NoCall tail → AreSelectors (put w tail) xs tail)

-- what follows a selector
abbrev pub SelectorsAfter : List JsSelector → JsSelector → Form (List JsSelector)
SelectorsAfter found x w r = SelectorsFrom (found ++ x ∷ []) w r × ((tail : Tokens) → is_member x ≡ true → NoCall tail → NoCall (put w tail))

pub selectors_none : (found : List JsSelector) (w : Pieces) (r : List JsSelector) → Gives found w r → SelectorsFrom found w r
selectors_none found w r gives = ([], append-nil found, λ tail n. g.no_selectors)

pub selectors_join : (found : List JsSelector) (w : Pieces) (r : List JsSelector) → Seq SelectorOf (SelectorsAfter found) w r → SelectorsFrom found w r
selectors_join found w r (seq {w = late} {x = x} d k) =
    (x ∷ k.0.0, sym (append_assoc found (x ∷ []) k.0.0) ∙ k.0.1, λ tail n. d (put late tail) (λ b. k.1 tail b n) k.0.0 tail (k.0.2 tail n))

-- ---- expressions

abbrev pub PrimaryOf : Form JsPrimary
PrimaryOf w a = (tail : Tokens) → NoCall tail → IsPrimary (put w tail) a tail

pub primary_join : (w : Pieces) (a : JsPrimary) → Seq HeadOf (λ a. Seq (SelectorsFrom []) (λ xs. Gives (record { head = a; selectors = xs }))) w a → PrimaryOf w a
primary_join w b (seq {x = a} d (seq {v = v} k gives)) = λ tail n. g.primary_of (d (put v tail)) (subst (λ (xs : List JsSelector). AreSelectors (put v tail) xs tail) k.1 (k.2 tail n))

-- what follows a primary expression that is no statement
abbrev pub OperatedOf : JsPrimary → Form JsExpr
OperatedOf a w r = (tail : Tokens) → NoCall tail → NoCall (put w tail) × ((ts : Tokens) → IsPrimary ts a (put w tail) → IsExpr ts r tail)

pub alone_join : (a : JsPrimary) (w : Pieces) (r : JsExpr) → Gives (e.Primary a) w r → OperatedOf a w r
alone_join a w r gives = λ tail n. (n, λ ts d. g.primary d)

operator_no_call : (o : JsOperator) (at : Place) (ts : Tokens) → NoCall (sign (operator_text o) at ∷ ts)
operator_no_call oo.Plus at ts = refl
operator_no_call oo.Minus at ts = refl
operator_no_call oo.Times at ts = refl
operator_no_call oo.Divide at ts = refl
operator_no_call oo.Remainder at ts = refl
operator_no_call oo.Equal at ts = refl
operator_no_call oo.Less at ts = refl
operator_no_call oo.Greater at ts = refl
operator_no_call oo.LessEqual at ts = refl
operator_no_call oo.GreaterEqual at ts = refl

pub binary_join : (a : JsPrimary) (o : JsOperator) (w : Pieces) (r : JsExpr) → Led (sign (operator_text o)) (λ at. Seq PrimaryOf (λ b. Gives (e.Binary o a b))) w r → OperatedOf a w r
binary_join a o w r (led at (seq {v = v} {w = late} d k)) =
    λ tail n. (operator_no_call o at (put v (put late tail)), λ ts. given (λ u y. IsPrimary ts a (sign (operator_text o) at ∷ put v (put u tail)) → IsExpr ts y tail) k (λ c. g.binary c (d tail n)))

pub plain_join : (w : Pieces) (r : JsExpr) → Seq PrimaryOf OperatedOf w r → ExprOf w r
plain_join w r (seq {w = late} d k) = λ tail n. let m = k tail n in m.1 _ (d (put late tail) m.0)

pub type_of_join : (w : Pieces) (r : JsExpr) → Led (word (codes "typeof")) (λ at. Seq PrimaryOf (λ a. Gives (e.TypeOf a))) w r → ExprOf w r
type_of_join w r (led at (seq d gives)) = λ tail n. g.type_of (d tail n)

pub new_map_join : (w : Pieces) (r : JsExpr) → Led (word (codes "new")) (λ at. Led (word (codes "Map")) (λ b. Led (sign (codes "(")) (λ c. Led (sign (codes ")")) (λ d. Gives e.NewMap)))) w r → ExprOf w r
new_map_join w r (led at (led b (led c (led d gives)))) = λ tail n. g.new_map

pub array_join : (w : Pieces) (r : JsExpr) → Led (sign (codes "[")) (λ at. Seq (ListedOf 93) (λ xs. Gives (e.Array xs))) w r → ExprOf w r
array_join w r (led at (seq {v = v} d k)) = λ tail n. given (λ u y. IsExpr (sign (codes "[") at ∷ put v (put u tail)) y tail) k (g.array (d tail))

abbrev pub EntryOf : Form JsEntry
EntryOf = Seq StringOf (λ us. Led (sign (codes ":")) (λ at. Seq ExprOf (λ a. Gives (record { key = us; value = a }))))

abbrev pub EntriesFrom : List JsEntry → Form (List JsEntry)
EntriesFrom found w r = (xs : List JsEntry) × (found ++ xs ≡ r) × ((tail : Tokens) → NoCall tail → AreEntries (put w tail) xs tail)

-- what follows an entry
abbrev pub EntriesAfter : List JsEntry → JsEntry → Form (List JsEntry)
EntriesAfter found x w r = (xs : List JsEntry) × (found ++ x ∷ xs ≡ r)
    × ((tail : Tokens) → NoCall tail → NoCall (put w tail) × ((q c : Place) (ts : Tokens) → IsExpr ts x.value (put w tail) → AreEntries (quoted x.key q ∷ sign (codes ":") c ∷ ts) (x ∷ xs) tail))

pub entries_more : (found : List JsEntry) (x : JsEntry) (w : Pieces) (r : List JsEntry) → Led (sign (codes ",")) (λ at. EntriesFrom (found ++ x ∷ [])) w r → EntriesAfter found x w r
entries_more found x w r (led at k) = (k.0, sym (append_assoc found (x ∷ []) k.0) ∙ k.1, λ tail n. (refl, λ b c ts d. g.more_entries d (k.2 tail n)))

pub entries_last : (found : List JsEntry) (x : JsEntry) (w : Pieces) (r : List JsEntry) → Gives (found ++ x ∷ []) w r → EntriesAfter found x w r
entries_last found x w r gives = ([], refl, λ tail n. (n, λ b c ts d. g.last_entry d))

pub entries_join : (found : List JsEntry) (w : Pieces) (r : List JsEntry) → Seq EntryOf (EntriesAfter found) w r → EntriesFrom found w r
entries_join found w r (seq {w = late} {x = x} (seq (string_is b) (led c (seq d gives))) k) = (x ∷ k.0, k.1, λ tail n. let m = k.2 tail n in m.1 b c _ (d (put late tail) m.0))

-- what follows an object's bracket
abbrev pub ObjectAfter : Form JsExpr
ObjectAfter w r = (at : Place) (tail : Tokens) → IsExpr (sign (codes "{") at ∷ put w tail) r tail

pub object_none : (w : Pieces) (r : JsExpr) → Led (sign (codes "}")) (λ at. Gives (e.Object [])) w r → ObjectAfter w r
object_none w r (led at gives) = λ b tail. g.no_entries

pub object_some : (w : Pieces) (r : JsExpr) → Seq (EntriesFrom []) (λ xs. Led (sign (codes "}")) (λ at. Gives (e.Object xs))) w r → ObjectAfter w r
object_some w r (seq {v = v} k (led at m)) =
    λ b tail. given (λ u y. IsExpr (sign (codes "{") b ∷ put v (sign (codes "}") at ∷ put u tail)) y tail) m
    (g.object (subst (λ (xs : List JsEntry). AreEntries (put v (sign (codes "}") at ∷ tail)) xs (sign (codes "}") at ∷ tail)) k.1 (k.2 (sign (codes "}") at ∷ tail) refl)))

pub object_join : (w : Pieces) (r : JsExpr) → Led (sign (codes "{")) (λ at. ObjectAfter) w r → ExprOf w r
object_join w r (led at k) = λ tail n. k at tail

-- ---- blocks

abbrev pub NamedStmtOf : Names → Form (JsStmt × Names)
NamedStmtOf names w r = (tail : Tokens) → IsStmt names (put w tail) r.0 tail × (declared r.0 names ≡ r.1)

pub let_join : (names : Names) (w : Pieces) (r : JsStmt × Names)
    → Led (word (codes "let")) (λ at. Seq (FreshOf names) (λ x. Led (sign (codes "=")) (λ b. Seq ExprOf (λ a. Led (sign (codes ";")) (λ c. Gives (s.Let at.from x a, x ∷ names)))))) w r → NamedStmtOf names w r
let_join names w r (led at (seq (fresh_of q n f) (led b (seq d (led c gives))))) = λ tail. (g.let' n f (d (sign (codes ";") c ∷ tail) refl), refl)

pub other_join : (names : Names) (w : Pieces) (r : JsStmt × Names) → Seq StmtOf (λ a. Gives (a, names)) w r → NamedStmtOf names w r
other_join names w r (seq d gives) = λ tail. d tail names

-- some statements and the sign that closes them, behind these
abbrev pub StmtsFrom : Names → List JsStmt → Form (List JsStmt)
StmtsFrom names found w r = (xs : List JsStmt) × (found ++ xs ≡ r) × ((tail : Tokens) → (q : Place) × AreStmts names (put w tail) xs (sign (codes "}") q ∷ tail))

pub stmts_none : (names : Names) (found : List JsStmt) (w : Pieces) (r : List JsStmt) → Led (sign (codes "}")) (λ at. Gives found) w r → StmtsFrom names found w r
stmts_none names found w r (led at gives) = ([], append-nil found, λ tail. (at, g.no_stmts))

pub stmts_join : (names : Names) (found : List JsStmt) (w : Pieces) (r : List JsStmt) → Seq (NamedStmtOf names) (λ x. StmtsFrom x.1 (found ++ x.0 ∷ [])) w r → StmtsFrom names found w r
stmts_join names found w r (seq {w = late} {x = x} d k) =
    (x.0 ∷ k.0, sym (append_assoc found (x.0 ∷ []) k.0) ∙ k.1, λ tail. let m = k.2 tail in let c = d (put late tail) in (m.0, g.stmts c.0 (subst (λ (ns : Names). AreStmts ns (put late tail) k.0 (sign (codes "}") m.0 ∷ tail)) (sym c.1) m.1)))

abbrev pub BlockOf : Names → Form (List JsStmt)
BlockOf names w xs = (tail : Tokens) → IsBlock names (put w tail) xs tail

pub block_join : (names : Names) (w : Pieces) (r : List JsStmt) → Led (sign (codes "{")) (λ at. StmtsFrom names []) w r → BlockOf names w r
block_join names w r (led {w = late} at k) = λ tail. let m = k.2 tail in g.block (subst (λ (xs : List JsStmt). AreStmts names (put late tail) xs (sign (codes "}") m.0 ∷ tail)) k.1 m.1)

abbrev pub FunctionOf : Form JsFunction
FunctionOf w f = (tail : Tokens) → IsFunction (put w tail) f tail

pub function_join : (w : Pieces) (r : JsFunction) → Seq ParametersOf (λ ps. Seq (BlockOf ps.1) (λ xs. Gives (record { parameters = ps.0; body = xs }))) w r → FunctionOf w r
function_join w r (seq {x = ps} d (seq {v = v} k gives)) = λ tail. g.function_of (d.0 (put v tail)) (same_block ps.1 ps.0 d.1 (k tail))

pub function_value_join : (w : Pieces) (r : JsExpr) → Led (word (codes "function")) (λ at. Seq FunctionOf (λ f. Gives (e.Function f))) w r → ExprOf w r
function_value_join w r (led at (seq d gives)) = λ tail n. g.function (d tail)
