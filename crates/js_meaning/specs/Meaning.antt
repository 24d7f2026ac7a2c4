-- The language, by its nodes, and the run of each number of steps.
use Rattle.std.specs.Prelude.{ℕ, suc, List, [], Option, Some, None}
use Rattle.code_units.specs.declared.ends.RunEnd.{RunEnd}
use Rattle.code_units.specs.declared.ends.End.TheVariants as ends
use Rattle.meanings.specs.Act.{Act, fin, Lang, Res, Fin, Spent, Cut, Deep, begin, go, means}
use Rattle.meanings.specs.Runs.{Over, shown}
use Rattle.meanings.specs.Ends.{Ending as Concluded, Done, Threw as Throws, Halted as Halts, ProgramRun, end_of}
use Rattle.js_tree.specs.declared.tree.NamedTree.{NamedTree}
use Rattle.store_lists.specs.Text.{Text}
use Rattle.js_meaning.specs.declared.state.Realm.{Realm}
use Rattle.js_store.specs.declared.value.Value.{Value}
use Rattle.js_meaning.specs.Machine.{Node, Statement, Variable, Turn, Call, Comp, Normal, Gives, Leaves, Threw, A, Ending, Starts}
use Rattle.js_meaning.specs.Prog.{Prog}
use Rattle.js_meaning.specs.Statements.{statement, block}
use Rattle.js_meaning.specs.Calls.{called, prints}
use Rattle.js_meaning.specs.Files.{variable, all, begins}

-- the acts of a node that gives a value, and of one that gives none
abbrev pub valued : Prog Value → Realm → A
valued p c = p.acts c (λ v c'. fin (Gives v) c')

abbrev pub plain : Prog (Unit {0}) → Realm → A
plain p c = p.acts c (λ _ c'. fin Normal c')

abbrev pub view : Node → Realm → A
view (Statement around labels s) c = plain (statement around labels s) c
view (Variable here x e) c = plain (variable here x e) c
view (Turn around labels body) c = plain (block around labels body) c
view (Call spot f vs) c = valued (called spot f vs) c

abbrev pub says : Node → Realm → Option Text
says (Statement around labels s) c = None
says (Variable here x e) c = None
says (Turn around labels body) c = None
says (Call spot f vs) c = prints f vs

abbrev pub Js : Lang Text
Js = record { Node = Node; Store = Realm; Comp = Comp; view = view; says = says }

-- nested at most so deep
unfoldable pub to : ℕ → Starts
to d = begin Js d

-- Nothing but a run as a whole completes with what is shown of a throw, and no file by a jump.
abbrev pub concluded : Comp → Concluded
concluded Normal = Done
concluded (Gives v) = Done
concluded (Leaves l) = Done
concluded (Threw s) = Throws s

-- files, of which the last is the main one, and as many loads as there may be in so many steps
abbrev pub acts_of : List NamedTree → List ℕ → ℕ → A
acts_of files order steps = (all files steps).acts (begins files order) (λ r c. fin r c)

-- the run of each number of steps
abbrev pub js : List NamedTree → List ℕ → ℕ → ProgramRun
js files order steps = shown concluded Halts (means Js (acts_of files order steps) steps [])

abbrev pub run_end : Ending → RunEnd
run_end (Fin r c n o) = record { output = o; end = end_of (Over (concluded r)) }
run_end (Spent o) = record { output = o; end = ends.Spent }
run_end (Cut why o) = record { output = o; end = end_of (Over (Halts why)) }
run_end (Deep o) = record { output = o; end = ends.Deep }

-- The same where at most so many steps may be nested: a step that is nested deeper is not begun.
unfoldable pub js_to : List NamedTree → ℕ → List ℕ → ℕ → RunEnd
js_to files depth order steps = run_end (go (to depth) (acts_of files order steps) steps [])
