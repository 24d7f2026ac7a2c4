use Rattle.js_meaning.proofs.run.+run.Given as goal

abbrev pub decreases-eval_to : goal.decreases-eval_to
decreases-eval_to l = l.room

abbrev pub decreases-exec_to : goal.decreases-exec_to
decreases-exec_to l = l.room

abbrev pub decreases-turn_to : goal.decreases-turn_to
decreases-turn_to l = l.room

abbrev pub decreases-call_to : goal.decreases-call_to
decreases-call_to l = l.room
