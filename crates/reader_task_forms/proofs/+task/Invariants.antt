use Rattle.std.proofs.Common.{◌+◌, ◌-◌, ◌*◌}
use Rattle.task_model.specs.Syntax.Grammar.{choice, chain}
use Rattle.reader_grammar.specs.Parts.{lexemes}
use Rattle.task_model.specs.Terms.Scope.{scope_names}
use Rattle.reader_tasks.specs.Tasks.{parsed_task, shown_choice, shown_chain}
use Rattle.reader_grammar.proofs.SeriesReading.{Going}
use Rattle.reader_task_forms.proofs.+task.Given as goal

abbrev pub decreases-tasks::task : goal.decreases-tasks::task
decreases-tasks::task l = 7 * l.room + 6

abbrev pub decreases-tasks::wordless : goal.decreases-tasks::wordless
decreases-tasks::wordless l = 7 * l.room + 5

abbrev pub decreases-series::steps : goal.decreases-series::steps
decreases-series::steps l = 7 * l.room + 4

abbrev pub decreases-series::choice : goal.decreases-series::choice
decreases-series::choice l = 7 * l.room + 3

abbrev pub decreases-series::chain : goal.decreases-series::chain
decreases-series::chain l = 7 * l.room + 2

abbrev pub decreases-atoms::task_atom : goal.decreases-atoms::task_atom
decreases-atoms::task_atom l = 7 * l.room + 1

abbrev pub decreases-binders::task_binding : goal.decreases-binders::task_binding
decreases-binders::task_binding l = 7 * l.room

abbrev pub decreases-branches::task_if : goal.decreases-branches::task_if
decreases-branches::task_if l = 7 * l.room

abbrev pub decreases-branches::task_case : goal.decreases-branches::task_case
decreases-branches::task_case l = 7 * l.room

abbrev pub decreases-binders::task_put : goal.decreases-binders::task_put
decreases-binders::task_put l = 7 * l.room

abbrev pub invariant-series::choice-loop-choice : goal.invariant-series::choice-loop-choice
invariant-series::choice-loop-choice l = Going choice (shown_choice (scope_names l.scope) l.next) l.room (lexemes l.tokens)
    (parsed_task l.left) (lexemes l.rest)

abbrev pub invariant-series::chain-loop-after : goal.invariant-series::chain-loop-after
invariant-series::chain-loop-after l = Going chain (shown_chain (scope_names l.scope) l.next) l.room (lexemes l.tokens) (parsed_task l.left)
    (lexemes l.rest)

abbrev pub decreases-series::choice-loop-choice : goal.decreases-series::choice-loop-choice
decreases-series::choice-loop-choice l = l.room - l.left.levels

abbrev pub decreases-series::chain-loop-after : goal.decreases-series::chain-loop-after
decreases-series::chain-loop-after l = l.room - l.left.levels
