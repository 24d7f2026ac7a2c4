-- The last one of a list, and the last selector.
use Rattle.std.proofs.Common.{◌≡◌, List, [], ◌∷◌, ◌++◌, Some, refl, sym, ap, ◌∙◌}
use Rattle.std.specs.Prelude.{unwrap_or, option_map, codes}
use Rattle.js_tree.specs.declared.tree.JsExpr.{JsExpr}
use Rattle.js_tree.specs.declared.tree.JsHead.{JsHead}
use Rattle.js_tree.specs.declared.tree.JsExpr.TheOpen.{JsSelector-F}
use Rattle.js_tree.specs.declared.tree.JsSelector.{JsSelector, out-roll-JsSelector}
use Rattle.js_tree.specs.declared.tree.JsSelector.TheVariants as l
use Rattle.js_tree.specs.declared.words.JsMember.{JsMember}
use Rattle.js_tree.specs.Words.{member_text}
use Rattle.js_tree.specs.Tokens.{Place, Tokens}
use Rattle.js_tree.specs.Grammar as g
use Rattle.js_tree.specs.Grammar.{word, sign, IsExpr, AreSelectors}
use Rattle.js_reader.specs.declared.targets.Target.TheVariants as t
use Rattle.js_reader.specs.Parsing.{split_last, slot_by, slot}

pub last_one : {X : Type 0} (xs : List X) (x : X) → split_last (xs ++ x ∷ []) ≡ Some (xs, x)
last_one [] x = refl
last_one (y ∷ xs) x = ap (λ o. Some (unwrap_or (option_map (λ z. (y ∷ z.0, z.1)) o) ([], y))) (last_one xs x)

-- ---- the last selector

pub slot_index : (a : JsHead) (xs : List JsSelector) (b : JsExpr) → slot a xs (l.Index b) ≡ t.Slot (record { head = a; selectors = xs }) b
slot_index a xs b = ap (slot a xs) (sym (l.rolls-Index b)) ∙ ap (slot_by a xs) (out-roll-JsSelector (JsSelector-F.Index b))

slot_call : (a : JsHead) (xs : List JsSelector) (args : List JsExpr) → slot a xs (l.Call args) ≡ t.Other
slot_call a xs args = ap (slot a xs) (sym (l.rolls-Call args)) ∙ ap (slot_by a xs) (out-roll-JsSelector (JsSelector-F.Call args))

slot_member : (a : JsHead) (xs : List JsSelector) (m : JsMember) → slot a xs (l.Member m) ≡ t.Other
slot_member a xs m = ap (slot a xs) (sym (l.rolls-Member m)) ∙ ap (slot_by a xs) (out-roll-JsSelector (JsSelector-F.Member m))

slot_method : (a : JsHead) (xs : List JsSelector) (m : JsMember) (args : List JsExpr) → slot a xs (l.Method m args) ≡ t.Other
slot_method a xs m args = ap (slot a xs) (sym (l.rolls-Method m args)) ∙ ap (slot_by a xs) (out-roll-JsSelector (JsSelector-F.Method m args))

-- selectors: none, or an index last, or another one last
pub data Last : Tokens → List JsSelector → Tokens → Type 0 where
  none : {ts : Tokens} → Last ts [] ts
  at_index : {xs : List JsSelector} {b : JsExpr} {p q : Place} {ts after rest : Tokens} → AreSelectors ts xs (sign (codes "[") p ∷ after) → IsExpr after b (sign (codes "]") q ∷ rest) → Last ts (xs ++ l.Index b ∷ []) rest
  other : {ts rest : Tokens} (xs : List JsSelector) (x : JsSelector) → ((a : JsHead) (ys : List JsSelector) → slot a ys x ≡ t.Other) → Last ts (xs ++ x ∷ []) rest

pub last_of : {xs : List JsSelector} {ts rest : Tokens} → AreSelectors ts xs rest → Last ts xs rest
last_of g.no_selectors = none
last_of (g.index {a = a} {p = p} {q = q} {ts = ts} {mid = mid} e d) = behind (last_of d) where
  behind : {ys : List JsSelector} {rest : Tokens} → Last mid ys rest → Last (sign (codes "[") p ∷ ts) (l.Index a ∷ ys) rest
  behind none = at_index {xs = []} g.no_selectors e
  behind (at_index c f) = at_index (g.index e c) f
  behind (other ys x o) = other (l.Index a ∷ ys) x o
last_of (g.call {args = args} {ts = ts} {mid = mid} e d) = behind (last_of d) where
  behind : {ys : List JsSelector} {rest : Tokens} → Last mid ys rest → Last ts (l.Call args ∷ ys) rest
  behind none = other [] (l.Call args) (λ a ys. slot_call a ys args)
  behind (at_index c f) = at_index (g.call e c) f
  behind (other ys x o) = other (l.Call args ∷ ys) x o
last_of (g.member {m = m} {p = p} {q = q} {ts = ts} n d) = behind (last_of d) where
  behind : {ys : List JsSelector} {rest : Tokens} → Last ts ys rest → Last (sign (codes ".") p ∷ word (member_text m) q ∷ ts) (l.Member m ∷ ys) rest
  behind none = other [] (l.Member m) (λ a ys. slot_member a ys m)
  behind (at_index c f) = at_index (g.member n c) f
  behind (other ys x o) = other (l.Member m ∷ ys) x o
last_of (g.method {m = m} {args = args} {p = p} {q = q} {ts = ts} {mid = mid} e d) = behind (last_of d) where
  behind : {ys : List JsSelector} {rest : Tokens} → Last mid ys rest → Last (sign (codes ".") p ∷ word (member_text m) q ∷ ts) (l.Method m args ∷ ys) rest
  behind none = other [] (l.Method m args) (λ a ys. slot_method a ys m args)
  behind (at_index c f) = at_index (g.method e c) f
  behind (other ys x o) = other (l.Method m args ∷ ys) x o
