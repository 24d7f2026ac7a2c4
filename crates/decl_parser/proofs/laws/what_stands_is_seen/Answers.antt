use Rattle.decl_parser.proofs.Ahead.{libraries_are_seen, imports_are_seen, classes_are_seen, getters_are_seen, setters_are_seen, operators_are_seen, functions_are_seen, variables_are_seen, constructors_are_seen, static_is_seen}
use Rattle.decl_parser.proofs.AheadInStatements.{local_variables_are_seen, typed_functions_are_seen, loop_variables_are_seen, clauses_are_seen}
use Rattle.decl_parser.proofs.laws.what_stands_is_seen.Goals as goal

pub returns-clause-libraries : goal.returns-clause-libraries
returns-clause-libraries c = libraries_are_seen

pub returns-clause-imports : goal.returns-clause-imports
returns-clause-imports c = imports_are_seen

pub returns-clause-classes : goal.returns-clause-classes
returns-clause-classes c = classes_are_seen

pub returns-clause-getters : goal.returns-clause-getters
returns-clause-getters c = getters_are_seen

pub returns-clause-setters : goal.returns-clause-setters
returns-clause-setters c = setters_are_seen

pub returns-clause-operators : goal.returns-clause-operators
returns-clause-operators c = operators_are_seen

pub returns-clause-functions : goal.returns-clause-functions
returns-clause-functions c = functions_are_seen

pub returns-clause-variables : goal.returns-clause-variables
returns-clause-variables c = variables_are_seen

pub returns-clause-constructors : goal.returns-clause-constructors
returns-clause-constructors c = constructors_are_seen

pub returns-clause-statics : goal.returns-clause-statics
returns-clause-statics c = static_is_seen

pub returns-clause-local_variables : goal.returns-clause-local_variables
returns-clause-local_variables c = local_variables_are_seen

pub returns-clause-typed_functions : goal.returns-clause-typed_functions
returns-clause-typed_functions c = typed_functions_are_seen

pub returns-clause-loop_variables : goal.returns-clause-loop_variables
returns-clause-loop_variables c = loop_variables_are_seen

pub returns-clause-clauses : goal.returns-clause-clauses
returns-clause-clauses c = clauses_are_seen
