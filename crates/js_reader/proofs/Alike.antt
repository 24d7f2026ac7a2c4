-- Names in another order.
use Rattle.std.proofs.Common.{◌≡◌, Bool, true, false, List, [], ◌∷◌, ◌++◌, refl, sym, ap, ◌∙◌}
use Rattle.std.specs.Prelude.{◌||◌}
use Rattle.std.specs.Str.{bytes_eq}
use Rattle.js_tree.specs.declared.tree.JsStmt.{JsStmt}
use Rattle.js_tree.specs.Tokens.{Bytes, Tokens}
use Rattle.js_tree.specs.Grammar as g
use Rattle.js_tree.specs.Grammar.{Names, is_among, declared, IsBlock, AreStmts, IsStmt}

-- the same names are among them
abbrev pub IsSame : Names → Names → Type 0
IsSame a b = (x : Bytes) → is_among a x ≡ is_among b x

swap : (a b c : Bool) → (a || (b || c)) ≡ (b || (a || c))
swap true true c = refl
swap true false c = refl
swap false true c = refl
swap false false c = refl

-- one name from the middle to the front
pub middle : (xs : Names) (x : Bytes) (before : Names) → IsSame (xs ++ x ∷ before) (x ∷ (xs ++ before))
middle [] x before o = refl
middle (y ∷ xs) x before o = ap (λ (b : Bool). bytes_eq o y || b) (middle xs x before o) ∙ swap (bytes_eq o y) (bytes_eq o x) (is_among (xs ++ before) o)

pub same_middle : (names xs : Names) (x : Bytes) (before : Names) → IsSame names (xs ++ x ∷ before) → IsSame names (x ∷ (xs ++ before))
same_middle names xs x before h o = h o ∙ middle xs x before o

pub same_more : (a b : Names) (x : Bytes) → IsSame a b → IsSame (x ∷ a) (x ∷ b)
same_more a b x h o = ap (λ (t : Bool). bytes_eq o x || t) (h o)

pub same_stmt : (a b : Names) {stmt : JsStmt} {ts rest : Tokens} → IsSame a b → IsStmt a ts stmt rest → IsStmt b ts stmt rest × IsSame (declared stmt a) (declared stmt b)
same_stmt a b h (g.let' {x = x} n f d) = (g.let' n (sym (h x) ∙ f) d, same_more a b x h)
same_stmt a b h (g.assign n d) = (g.assign n d, h)
same_stmt a b h (g.store c d x y) = (g.store c d x y, h)
same_stmt a b h (g.perform d) = (g.perform d, h)
same_stmt a b h (g.if' d x) = (g.if' d x, h)
same_stmt a b h (g.if_else d x y) = (g.if_else d x y, h)
same_stmt a b h (g.loop d) = (g.loop d, h)
same_stmt a b h (g.labelled n d) = (g.labelled n d, h)
same_stmt a b h (g.break' n l) = (g.break' n l, h)
same_stmt a b h (g.return' l d) = (g.return' l d, h)
same_stmt a b h (g.throw' l d) = (g.throw' l d, h)
same_stmt a b h (g.try_catch n d x) = (g.try_catch n d x, h)
same_stmt a b h (g.try_finally d x) = (g.try_finally d x, h)

pub same_stmts : (a b : Names) {stmts : List JsStmt} {ts rest : Tokens} → IsSame a b → AreStmts a ts stmts rest → AreStmts b ts stmts rest
same_stmts a b h g.no_stmts = g.no_stmts
same_stmts a b h (g.stmts {a = stmt} c d) = let x = same_stmt a b h c in g.stmts x.0 (same_stmts (declared stmt a) (declared stmt b) x.1 d)

pub same_block : (a b : Names) {stmts : List JsStmt} {ts rest : Tokens} → IsSame a b → IsBlock a ts stmts rest → IsBlock b ts stmts rest
same_block a b h (g.block d) = g.block (same_stmts a b h d)
