-- The least pieces of each form.
use Rattle.std.proofs.Common.{ℕ, false, [], ◌∷◌, refl}
use Rattle.std.specs.Prelude.{codes}
use Rattle.js_tree.specs.declared.tree.JsExpr.{JsExpr}
use Rattle.js_tree.specs.declared.tree.JsExpr.TheVariants as e
use Rattle.js_tree.specs.declared.tree.JsHead.TheVariants as H
use Rattle.js_tree.specs.declared.tree.JsPrimary.{JsPrimary}
use Rattle.js_tree.specs.declared.tree.JsStmt.{JsStmt}
use Rattle.js_tree.specs.declared.tree.JsStmt.TheVariants as s
use Rattle.js_tree.specs.Tokens.{Place}
use Rattle.js_tree.specs.Grammar as g
use Rattle.js_tree.specs.Grammar.{word, quoted, sign, start, next_is, Names, is_name, is_among, declared, IsExpr, IsPrimary, AreSelectors, IsStmt, AreItems}
use Rattle.js_reader.proofs.Pieces.{nothing, token, both}
use Rattle.js_reader.proofs.Onward as o
use Rattle.js_reader.proofs.Onward.{nowhere, Form, Least, Gives, gives, Led, led, Seq, seq, Answer, took, stopped, Reads, Taken, FromHere, OnLine, same_sign, same_word}
use Rattle.js_reader.proofs.Singles.{NameOf, name_of}
use Rattle.js_reader.proofs.Forms as f
use Rattle.js_reader.proofs.Forms.{NoCall, ExprOf, StmtOf, NamesFrom, NamesAfter, ParametersOf, ParametersAfter, ExprsFrom, ListedOf, ArgumentsOf, HeadOf, ArrayAfter, is_member, SelectorOf, MemberAfter, SelectorsFrom, SelectorsAfter, PrimaryOf, OperatedOf, EntryOf, EntriesFrom, ObjectAfter, NamedStmtOf, StmtsFrom, BlockOf, FunctionOf}
use Rattle.js_reader.proofs.StmtForms.{StartOf, ValueOf}

bare : JsPrimary
bare = record { head = H.Name (36 ∷ []); selectors = [] }

pub least_primary : Least PrimaryOf
unfolding bare
least_primary = (token (word (36 ∷ []) nowhere) nothing, bare, λ tail n. g.primary_of (g.name refl) g.no_selectors)

pub least_expr : Least ExprOf
least_expr = (least_primary.0, e.Primary least_primary.1, λ tail n. g.primary (least_primary.2 tail n))

pub least_arguments : Least ArgumentsOf
least_arguments = (token (sign (codes "(") nowhere) (token (sign (codes ")") nowhere) nothing), [], λ tail. g.arguments g.no_items)

pub least_parameters : Least ParametersOf
least_parameters = (token (sign (codes "(") nowhere) (token (sign (codes ")") nowhere) nothing), ([], []), (λ tail. g.no_parameters, λ x. refl))

pub least_block : (names : Names) → Least (BlockOf names)
least_block names = (token (sign (codes "{") nowhere) (token (sign (codes "}") nowhere) nothing), [], λ tail. g.block g.no_stmts)

pub least_function : Least FunctionOf
least_function = o.least_map f.function_join (o.least_seq least_parameters (λ ps. o.least_seq (least_block ps.1) (λ xs. o.least_give _)))

-- `NAME ;`
abbrev pub LeaveOf : Place → Form JsStmt
LeaveOf at = Seq NameOf (λ x. Led (sign (codes ";")) (λ c. Gives (s.Break at.from x)))

pub least_leave : (at : Place) → Least (OnLine (LeaveOf at))
least_leave at =
    (both (token (word (36 ∷ []) nowhere) nothing) (token (sign (codes ";") nowhere) nothing), s.Break at.from (36 ∷ []), (seq (name_of nowhere refl) (led nowhere gives), λ tail. (word (36 ∷ []) nowhere, sign (codes ";") nowhere ∷ tail, refl, refl)))

pub least_start : (at : ℕ) → Least (StartOf at)
unfolding bare
least_start at = (token (word (36 ∷ []) (record { from = at; on_new_line = false })) nothing, bare, (λ tail n. g.primary_of (g.name refl) g.no_selectors, λ tail. refl))

pub least_value : (make : JsExpr → JsStmt) → Least (OnLine (ValueOf make))
unfolding least_expr least_primary
least_value make = (both least_expr.0 (token (sign (codes ";") nowhere) nothing), make least_expr.1, (seq least_expr.2 (led nowhere gives), λ tail. (word (36 ∷ []) nowhere, sign (codes ";") nowhere ∷ tail, refl, refl)))
