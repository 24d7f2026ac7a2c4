-- The words and signs of the grammar.
use Rattle.std.specs.Prelude.{ℕ, List, codes}
use Rattle.js_tree.specs.declared.words.JsMember.{JsMember}
use Rattle.js_tree.specs.declared.words.JsMember.TheVariants as m
use Rattle.js_tree.specs.declared.words.JsOperator.{JsOperator}
use Rattle.js_tree.specs.declared.words.JsOperator.TheVariants as o

abbrev pub member_text : JsMember → List ℕ
member_text m.Length = codes "length"
member_text m.Size = codes "size"
member_text m.Push = codes "push"
member_text m.Pop = codes "pop"
member_text m.CharCodeAt = codes "charCodeAt"
member_text m.Substring = codes "substring"
member_text m.Get = codes "get"
member_text m.Set = codes "set"
member_text m.Has = codes "has"
member_text m.Delete = codes "delete"
member_text m.Keys = codes "keys"
member_text m.Print = codes "print"
member_text m.Load = codes "load"

abbrev pub operator_text : JsOperator → List ℕ
operator_text o.Plus = codes "+"
operator_text o.Minus = codes "-"
operator_text o.Times = codes "*"
operator_text o.Divide = codes "/"
operator_text o.Remainder = codes "%"
operator_text o.Equal = codes "==="
operator_text o.Less = codes "<"
operator_text o.Greater = codes ">"
operator_text o.LessEqual = codes "<="
operator_text o.GreaterEqual = codes ">="
