-- Pieces of statements and items, and how they are put together.
use Rattle.std.proofs.Common.{◌≡◌, ℕ, true, List, [], ◌∷◌, refl, sym, ap, ◌∙◌, subst}
use Rattle.std.specs.Prelude.{codes}
use Rattle.js_tree.specs.declared.tree.JsExpr.{JsExpr}
use Rattle.js_tree.specs.declared.tree.JsHead.{JsHead}
use Rattle.js_tree.specs.declared.tree.JsSelector.{JsSelector}
use Rattle.js_tree.specs.declared.tree.JsSelector.TheVariants as l
use Rattle.js_tree.specs.declared.tree.JsPrimary.{JsPrimary}
use Rattle.js_tree.specs.declared.tree.JsStmt.{JsStmt}
use Rattle.js_tree.specs.declared.tree.JsStmt.TheVariants as s
use Rattle.js_tree.specs.declared.tree.JsItem.{JsItem}
use Rattle.js_tree.specs.declared.tree.JsItem.TheVariants as i
use Rattle.js_tree.specs.Tokens.{Bytes, Place, Tokens}
use Rattle.js_tree.specs.Grammar as g
use Rattle.js_tree.specs.Grammar.{word, sign, start, Names, is_name, is_among, declared, IsExpr, IsPrimary, IsHead, AreSelectors, IsFunction, IsBlock, IsStmt, AreItems}
use Rattle.js_reader.specs.declared.targets.Target.{Target}
use Rattle.js_reader.specs.declared.targets.Target.TheVariants as t
use Rattle.js_reader.specs.Taking.{on_new_line}
use Rattle.js_reader.specs.Parsing as p
use Rattle.js_reader.proofs.Aimed.{last_one, slot_index, Last, none, at_index, other, last_of}
use Rattle.js_reader.proofs.Pieces.{Pieces, put}
use Rattle.js_reader.proofs.Onward.{Form, Gives, gives, given, Led, led, Seq, seq, OnLine}
use Rattle.js_reader.proofs.Singles.{NameOf, name_of, FreshOf, fresh_of}
use Rattle.js_reader.proofs.Forms.{NoCall, ExprOf, IsPlain, StmtOf, PrimaryOf, NamedStmtOf, BlockOf, FunctionOf}

-- ---- what a primary expression is as the target of an assignment

pub data Aim : Tokens → Target → Tokens → Type 0 where
  aim_name : {x : Bytes} {at : Place} {rest : Tokens} → is_name x ≡ true → Aim (word x at ∷ rest) (t.Name x) rest
  aim_slot : {a : JsHead} {xs : List JsSelector} {b : JsExpr} {q r : Place} {ts mid after rest : Tokens} → IsHead ts a mid → AreSelectors mid xs (sign (codes "[") q ∷ after) → IsExpr after b (sign (codes "]") r ∷ rest)
      → Aim ts (t.Slot (record { head = a; selectors = xs }) b) rest
  aim_other : {ts rest : Tokens} → Aim ts t.Other rest

aim_bare : {a : JsHead} {ts rest : Tokens} → IsHead ts a rest → Aim ts (p.bare a) rest
aim_bare (g.name n) = aim_name n
aim_bare (g.digits k) = aim_other
aim_bare (g.negative k) = aim_other
aim_bare g.string = aim_other
aim_bare g.null = aim_other
aim_bare g.undefined = aim_other
aim_bare g.true' = aim_other
aim_bare g.false' = aim_other
aim_bare (g.string_of d) = aim_other
aim_bare (g.is_array d) = aim_other
aim_bare (g.array_from d) = aim_other

aim_by : {a : JsHead} {xs : List JsSelector} {ts begin mid : Tokens} → IsHead ts a begin → Last begin xs mid → Aim ts (p.target_by a (p.split_last xs)) mid
aim_by c none = aim_bare c
aim_by {a} {xs} {ts} {begin} {mid} c (at_index {xs = ys} {b = b} d f) = subst (λ (u : Target). Aim ts u mid) (sym (ap (p.target_by a) (last_one ys (l.Index b)) ∙ slot_index a ys b)) (aim_slot c d f)
aim_by {a} {xs} {ts} {begin} {mid} c (other ys x o) = subst (λ (u : Target). Aim ts u mid) (sym (ap (p.target_by a) (last_one ys x) ∙ o a ys)) aim_other

aim : {a : JsPrimary} {ts rest : Tokens} → IsPrimary ts a rest → Aim ts (p.target_of a) rest
unfolding p.target_of
aim (g.primary_of c d) = aim_by c (last_of d)

assigned : {names : Names} {x : Bytes} {v : JsExpr} {at : ℕ} {q c : Place} {ts late rest : Tokens} → Aim ts (t.Name x) (sign (codes "=") q ∷ late) → start ts ≡ at → IsExpr late v (sign (codes ";") c ∷ rest)
    → IsStmt names ts (s.Assign at x v) rest
assigned {names} {x} {v} {q = q} {late = late} {rest = rest} (aim_name {at = b} n) i d = subst (λ (k : ℕ). IsStmt names (word x b ∷ sign (codes "=") q ∷ late) (s.Assign k x v) rest) i (g.assign n d)

stored : {names : Names} {a : JsPrimary} {b v : JsExpr} {at : ℕ} {q c : Place} {ts late rest : Tokens} → Aim ts (t.Slot a b) (sign (codes "=") q ∷ late) → start ts ≡ at → IsExpr late v (sign (codes ";") c ∷ rest)
    → IsStmt names ts (s.Store at a b v) rest
stored {names} {v = v} {ts = ts} {rest = rest} (aim_slot {a = a} {xs = xs} {b = b} k d e) i f = subst (λ (n : ℕ). IsStmt names ts (s.Store n (record { head = a; selectors = xs }) b v) rest) i (g.store k d e f)

labelled : {names : Names} {x : Bytes} {xs : List JsStmt} {at : ℕ} {q : Place} {ts late rest : Tokens} → Aim ts (t.Name x) (sign (codes ":") q ∷ late) → start ts ≡ at → IsBlock [] late xs rest
    → IsStmt names ts (s.Labelled at x xs) rest
labelled {names} {x} {xs} {q = q} {late = late} {rest = rest} (aim_name {at = b} n) i d = subst (λ (k : ℕ). IsStmt names (word x b ∷ sign (codes ":") q ∷ late) (s.Labelled k x xs) rest) i (g.labelled n d)

-- ---- statements that begin with a primary expression

-- a primary expression that begins at this place
abbrev pub StartOf : ℕ → Form JsPrimary
StartOf at w a = PrimaryOf w a × ((tail : Tokens) → start (put w tail) ≡ at)

-- what follows it
abbrev pub SimpleAfter : ℕ → JsPrimary → Form JsStmt
SimpleAfter at a w y = (tail : Tokens) → NoCall (put w tail) × ((ts : Tokens) → start ts ≡ at → IsPrimary ts a (put w tail) → IsPlain ts y tail)

pub assign_join : (at : ℕ) (a : JsPrimary) (x : Bytes) → p.target_of a ≡ t.Name x → (w : Pieces) (y : JsStmt) → Led (sign (codes "=")) (λ q. Seq ExprOf (λ b. Led (sign (codes ";")) (λ c. Gives (s.Assign at x b)))) w y → SimpleAfter at a w y
assign_join at a x e w y (led q (seq {v = v} d (led c gives))) = λ tail. (refl, λ ts i o names. (assigned (subst (λ (u : Target). Aim ts u (sign (codes "=") q ∷ put v (sign (codes ";") c ∷ tail))) e (aim o)) i (d (sign (codes ";") c ∷ tail) refl), refl))

pub store_join : (at : ℕ) (a : JsPrimary) (o : JsPrimary) (b : JsExpr) → p.target_of a ≡ t.Slot o b → (w : Pieces) (y : JsStmt) → Led (sign (codes "=")) (λ q. Seq ExprOf (λ v. Led (sign (codes ";")) (λ c. Gives (s.Store at o b v)))) w y
    → SimpleAfter at a w y
store_join at a o b e w y (led q (seq {v = v} d (led c gives))) = λ tail. (refl, λ ts i k names. (stored (subst (λ (u : Target). Aim ts u (sign (codes "=") q ∷ put v (sign (codes ";") c ∷ tail))) e (aim k)) i (d (sign (codes ";") c ∷ tail) refl), refl))

pub label_join : (at : ℕ) (a : JsPrimary) (x : Bytes) → p.target_of a ≡ t.Name x → (w : Pieces) (y : JsStmt) → Led (sign (codes ":")) (λ q. Seq (BlockOf []) (λ xs. Gives (s.Labelled at x xs))) w y → SimpleAfter at a w y
label_join at a x e w y (led q (seq {v = v} d k)) = λ tail. (
  refl,
  λ ts i. given (λ u z. IsPrimary ts a (sign (codes ":") q ∷ put v (put u tail)) → IsPlain ts z tail) k (λ o names. (labelled (subst (λ (c : Target). Aim ts c (sign (codes ":") q ∷ put v tail)) e (aim o)) i (d tail), refl)),
)

pub perform_join : (at : ℕ) (a : JsPrimary) (w : Pieces) (y : JsStmt) → Led (sign (codes ";")) (λ c. Gives (s.Perform at a)) w y → SimpleAfter at a w y
perform_join at a w y (led c gives) = λ tail. (refl, λ ts i o names. (subst (λ (k : ℕ). IsStmt names ts (s.Perform k a) tail) i (g.perform o), refl))

pub simple_join : (at : ℕ) (w : Pieces) (y : JsStmt) → Seq (StartOf at) (SimpleAfter at) w y → StmtOf w y
simple_join at w y (seq {v = v} {w = late} h k) = λ tail. let n = k tail in n.1 (put v (put late tail)) (h.1 (put late tail)) (h.0 (put late tail) n.0)

-- ---- statements that begin with a word

abbrev pub ConditionOf : Form JsExpr
ConditionOf = Led (sign (codes "(")) (λ q. Seq ExprOf (λ a. Led (sign (codes ")")) (λ r. Gives a)))

-- what follows the first block
abbrev pub IfAfter : Place → JsExpr → List JsStmt → Form JsStmt
IfAfter at a xs w y = (tail : Tokens) (q r : Place) (ts mid : Tokens) → IsExpr ts a (sign (codes ")") r ∷ mid) → IsBlock [] mid xs (put w tail) → IsPlain (word (codes "if") at ∷ sign (codes "(") q ∷ ts) y tail

pub if_join : (at : Place) (a : JsExpr) (xs : List JsStmt) (w : Pieces) (y : JsStmt) → Gives (s.If at.from a xs) w y → IfAfter at a xs w y
if_join at a xs w y gives = λ tail q r ts mid d b names. (g.if' d b, refl)

pub if_else_join : (at : Place) (a : JsExpr) (xs : List JsStmt) (w : Pieces) (y : JsStmt) → Led (word (codes "else")) (λ b. Seq (BlockOf []) (λ ys. Gives (s.IfElse at.from a xs ys))) w y → IfAfter at a xs w y
if_else_join at a xs w y (led o (seq {v = v} k m)) =
    λ tail q r ts mid d. given (λ u z. IsBlock [] mid xs (word (codes "else") o ∷ put v (put u tail)) → IsPlain (word (codes "if") at ∷ sign (codes "(") q ∷ ts) z tail) m (λ b names. (g.if_else d b (k tail), refl))

pub when_join : (w : Pieces) (y : JsStmt) → Led (word (codes "if")) (λ at. Seq ConditionOf (λ a. Seq (BlockOf []) (λ xs. IfAfter at a xs))) w y → StmtOf w y
when_join w y (led at (seq (led q (seq d (led r gives))) (seq {v = v} {w = late} b k))) = λ tail. k tail q r _ _ (d (sign (codes ")") r ∷ put v (put late tail)) refl) (b (put late tail))

pub loop_join : (w : Pieces) (y : JsStmt) → Led (word (codes "while")) (λ at. Led (sign (codes "(")) (λ q. Led (word (codes "true")) (λ r. Led (sign (codes ")")) (λ o. Seq (BlockOf []) (λ xs. Gives (s.Loop at.from xs)))))) w y → StmtOf w y
loop_join w y (led at (led q (led r (led o (seq {v = v} b m))))) =
    λ tail. given (λ u z. IsPlain (word (codes "while") at ∷ sign (codes "(") q ∷ word (codes "true") r ∷ sign (codes ")") o ∷ put v (put u tail)) z tail) m (λ names. (g.loop (b tail), refl))

pub break_join : (w : Pieces) (y : JsStmt) → Led (word (codes "break")) (λ at. OnLine (Seq NameOf (λ x. Led (sign (codes ";")) (λ c. Gives (s.Break at.from x))))) w y → StmtOf w y
break_join w y (led at (seq (name_of q n) (led c gives), line)) = λ tail names. (let m = line tail in g.break' n (ap on_new_line m.2 ∙ m.3), refl)

-- an expression and `;`
abbrev pub ValueOf : (JsExpr → JsStmt) → Form JsStmt
ValueOf make = Seq ExprOf (λ a. Led (sign (codes ";")) (λ c. Gives (make a)))

pub return_join : (w : Pieces) (y : JsStmt) → Led (word (codes "return")) (λ at. OnLine (ValueOf (λ a. s.Return at.from a))) w y → StmtOf w y
return_join w y (led at (seq {x = a} d (led c gives), line)) = λ tail names. (
  let m = line tail in
      subst (λ (us : Tokens). IsStmt names (word (codes "return") at ∷ us) (s.Return at.from a) tail) (sym m.2) (g.return' m.3 (subst (λ (us : Tokens). IsExpr us a (sign (codes ";") c ∷ tail)) m.2 (d (sign (codes ";") c ∷ tail) refl))),
  refl,
)

pub throw_join : (w : Pieces) (y : JsStmt) → Led (word (codes "throw")) (λ at. OnLine (ValueOf (λ a. s.Throw at.from a))) w y → StmtOf w y
throw_join w y (led at (seq {x = a} d (led c gives), line)) = λ tail names. (
  let m = line tail in
      subst (λ (us : Tokens). IsStmt names (word (codes "throw") at ∷ us) (s.Throw at.from a) tail) (sym m.2) (g.throw' m.3 (subst (λ (us : Tokens). IsExpr us a (sign (codes ";") c ∷ tail)) m.2 (d (sign (codes ";") c ∷ tail) refl))),
  refl,
)

-- what follows the block behind `try`
abbrev pub TryAfter : Place → List JsStmt → Form JsStmt
TryAfter at xs w y = (tail ts : Tokens) → IsBlock [] ts xs (put w tail) → IsPlain (word (codes "try") at ∷ ts) y tail

pub catch_join : (at : Place) (xs : List JsStmt) (w : Pieces) (y : JsStmt)
    → Led (word (codes "catch")) (λ b. Led (sign (codes "(")) (λ c. Seq (FreshOf []) (λ x. Led (sign (codes ")")) (λ d. Seq (BlockOf (x ∷ [])) (λ ys. Gives (s.TryCatch at.from xs x ys)))))) w y → TryAfter at xs w y
catch_join at xs w y (led b (led c (seq {x = x} (fresh_of q n f) (led d (seq {v = v} k m))))) =
    λ tail ts. given (λ u z. IsBlock [] ts xs (word (codes "catch") b ∷ sign (codes "(") c ∷ word x q ∷ sign (codes ")") d ∷ put v (put u tail)) → IsPlain (word (codes "try") at ∷ ts) z tail) m (λ e names. (g.try_catch n e (k tail), refl))

pub finally_join : (at : Place) (xs : List JsStmt) (w : Pieces) (y : JsStmt) → Led (word (codes "finally")) (λ b. Seq (BlockOf []) (λ ys. Gives (s.TryFinally at.from xs ys))) w y → TryAfter at xs w y
finally_join at xs w y (led b (seq {v = v} k m)) =
    λ tail ts. given (λ u z. IsBlock [] ts xs (word (codes "finally") b ∷ put v (put u tail)) → IsPlain (word (codes "try") at ∷ ts) z tail) m (λ e names. (g.try_finally e (k tail), refl))

pub try_join : (w : Pieces) (y : JsStmt) → Led (word (codes "try")) (λ at. Seq (BlockOf []) (TryAfter at)) w y → StmtOf w y
try_join w y (led at (seq {w = late} b k)) = λ tail. k tail _ (b (put late tail))

-- ---- items

-- one item, with others behind it
abbrev pub ItemOf : Names → Form (JsItem × Names)
ItemOf names w r = (tail : Tokens) (more : List JsItem) → AreItems r.1 tail more → AreItems names (put w tail) (r.0 ∷ more)

pub declared_join : (names : Names) (w : Pieces) (r : JsItem × Names) → Led (word (codes "function")) (λ at. Seq (FreshOf names) (λ x. Seq FunctionOf (λ f. Gives (i.Declared x f, x ∷ names)))) w r → ItemOf names w r
declared_join names w r (led at (seq (fresh_of q n f) (seq d gives))) = λ tail more k. g.function_item n f (d tail) k

pub var_join : (names : Names) (w : Pieces) (r : JsItem × Names)
    → Led (word (codes "var")) (λ at. Seq (FreshOf names) (λ x. Led (sign (codes "=")) (λ b. Seq ExprOf (λ a. Led (sign (codes ";")) (λ c. Gives (i.Var at.from x a, x ∷ names)))))) w r → ItemOf names w r
var_join names w r (led at (seq (fresh_of q n f) (led b (seq d (led c gives))))) = λ tail more k. g.var n f (d (sign (codes ";") c ∷ tail) refl) k

pub item_stmt_join : (names : Names) (w : Pieces) (r : JsItem × Names) → Seq (NamedStmtOf names) (λ a. Gives (i.Statement a.0, a.1)) w r → ItemOf names w r
item_stmt_join names w r (seq d gives) = λ tail more k. let c = d tail in g.statement c.0 (subst (λ (ns : Names). AreItems ns tail more) (sym c.1) k)
