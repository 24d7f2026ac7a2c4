-- The translation of a program that was read is a spelling of a tree that runs as the program does.
use Rattle.std.proofs.Common.{◌≡◌, ◌<◌, ◌^◌, ℕ, List, [], ◌∷◌, length, map, refl, sym, ap, ◌∙◌}
use Rattle.std.specs.Prelude.{codes}
use Rattle.dart_syntax.specs.declared.tokens.Token.{Token}
use Rattle.dart_meaning.specs.declared.program.Statement.{Statement}
use Rattle.dart_meaning.specs.Program.{IsProgram}
use Rattle.js_tree.specs.declared.tree.JsFunction.{JsFunction}
use Rattle.js_tree.specs.declared.tree.JsItem.{JsItem}
use Rattle.js_tree.specs.declared.tree.JsItem.TheVariants as i
use Rattle.js_tree.specs.declared.tree.JsStmt.{JsStmt}
use Rattle.js_tree.specs.Places.{stmt_without_places, function_without_places, item_without_places}
use Rattle.js_tree.specs.Spelling as has
use Rattle.js_tree.specs.Spelling.{HasSpelling}
use Rattle.js_tree.proofs.Unplaced.{same_function}
use Rattle.js_tree.proofs.Statements.{text_spelled}
use Rattle.dart_web_cli.specs.Translation.{statements_from, file_of, translation, RunsAs, TranslationIsRight}
use Rattle.dart_web_cli.proofs.Places.{perform_bare}
use Rattle.dart_web_cli.proofs.Body.{IsBody, body_bare, body_spelled, all_fresh}
use Rattle.dart_web_cli.proofs.Small.{program_body}
use Rattle.dart_web_cli.proofs.Whole.{main_call, call_placeless, same_run}

-- the file of a body has a spelling
spelled : (program : List Statement) → IsBody 0 0 (statements_from 0 [] program) → HasSpelling (file_of program)
spelled program form =
    has.function_item refl refl (has.function_of refl (body_spelled [] all_fresh form))
    (has.statement (has.perform (has.primary_of (has.name refl) (has.call has.no_exprs has.no_selectors))) has.no_items)

abbrev function_with : List JsStmt → JsFunction
function_with body = record { parameters = []; body = body }

-- the tree of the translation has no places
unplaced : (program : List Statement) → IsBody 0 0 (statements_from 0 [] program) → map item_without_places (file_of program).items ≡ (file_of program).items
unplaced program form =
    let body : function_without_places (function_with (statements_from 0 [] program)) ≡ function_with (statements_from 0 [] program) = same_function (function_with (statements_from 0 [] program)) ∙ ap function_with (body_bare form) in
    (λ j. i.Declared (codes "main$") (body j) ∷ i.Statement (perform_bare main_call call_placeless j) ∷ [])

pub translation_is_right : TranslationIsRight
translation_is_right tokens out program few is =
    let form = program_body tokens program few is in
    let text = text_spelled (file_of program) (spelled program form) in
    record {
      tree = text.0;
      spelled = text.2;
      same = λ order. same_run program out text.0 order is.well_formed form (sym text.1.same ∙ unplaced program form);
    }

pub runs_of : (tokens : List Token) (program : List Statement) → IsProgram tokens program → length tokens < 2 ^ 64 → (name : List ℕ) → RunsAs program name (translation program)
runs_of tokens program is few name = translation_is_right tokens name program few is
