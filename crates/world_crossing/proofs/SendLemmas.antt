-- Items of histories may go to other threads: what holds of each type that they are made of. A program is shared, so it may be read from there, too.
use denote.Param.Send.{IsSend, IsSync, sendable, view_send}
use denote.Param.SendFields.{FieldsHave, VariantsHave, declared_send, declared_sync, variants_send, variants_sync, as_row_send, as_row_sync}
use Rattle.std.proofs.Crossing.{crosses}
use Rattle.task_model.specs.contracts.item.Item as item
use Rattle.task_model.specs.contracts.checked.Checked as checked
use Rattle.task_model.specs.contracts.checked.Checked.TheInside as inside
use Rattle.task_model.specs.contracts.program.Program as program
use Rattle.task_model.specs.contracts.program.Def as def
use Rattle.task_model.specs.contracts.program.DefBody as def_body
use Rattle.task_model.specs.contracts.program.Param as parameter
use Rattle.task_model.specs.contracts.basic.Basic as basic
use Rattle.task_model.specs.contracts.host.Host as host
use Rattle.task_model.specs.contracts.task.Task as task
use Rattle.task_model.specs.contracts.task.Body as body
use Rattle.task_model.specs.contracts.scope.Scope as scope
use Rattle.task_model.specs.contracts.input.Entry as entry
use Rattle.task_model.proofs.text.TaskText.TheSendSync as texts
use Rattle.task_model.proofs.turns.Turns.TheSendSync as turns
use Rattle.task_model.proofs.row.Row.TheSendSync as rows
use Rattle.task_model.proofs.host.Op.TheSendSync as ops
use Rattle.task_model.proofs.basic.Basic.TheLaws.TheKnot as basics
use Rattle.task_model.proofs.host.Host.TheLaws.TheKnot as hosts
use Rattle.task_model.proofs.scope.Scope.TheLaws.TheKnot as scopes
use Rattle.task_model.proofs.task.Task.TheLaws.TheKnot as tasks
use Rattle.task_model.proofs.value.Value.TheLaws.TheKnot as values

basic_send : IsSend basic.the_row
basic_send = search (crosses, basics.crosses_both, sendable) depth 60 fits 20000

basic_sync : IsSync basic.the_row
basic_sync = search (crosses, basics.crosses_both, sendable) depth 60 fits 20000

basic_field_send : IsSend (basic.the_field).row
basic_field_send = search (crosses, basics.crosses_both, sendable) depth 60 fits 20000

basic_field_sync : IsSync (basic.the_field).row
basic_field_sync = search (crosses, basics.crosses_both, sendable) depth 60 fits 20000

host_send : IsSend host.the_row
host_send = search (texts.the_send, texts.the_sync, crosses, basics.crosses_both, hosts.crosses_both, sendable) depth 60 fits 20000

host_sync : IsSync host.the_row
host_sync = search (texts.the_send, texts.the_sync, crosses, basics.crosses_both, hosts.crosses_both, sendable) depth 60 fits 20000

host_field_send : IsSend (host.the_field).row
host_field_send =
    search (ops.the_field_send, ops.the_field_sync, texts.the_send, texts.the_sync, crosses, basics.crosses_both, hosts.crosses_both, sendable)
    depth 60 fits 20000

host_field_sync : IsSync (host.the_field).row
host_field_sync =
    search (ops.the_field_send, ops.the_field_sync, texts.the_send, texts.the_sync, crosses, basics.crosses_both, hosts.crosses_both, sendable)
    depth 60 fits 20000

scope_send : IsSend scope.the_row
scope_send = search (texts.the_send, texts.the_sync, crosses, scopes.crosses_both, sendable) depth 60 fits 20000

scope_sync : IsSync scope.the_row
scope_sync = search (texts.the_send, texts.the_sync, crosses, scopes.crosses_both, sendable) depth 60 fits 20000

task_send : IsSend task.the_row
task_send =
    search (texts.the_send, host_send, host_field_send, basic_field_send, rows.the_send, crosses, tasks.crosses, sendable)
    depth 60 fits 20000

task_sync : IsSync task.the_row
task_sync =
    search (texts.the_sync, host_sync, host_field_sync, basic_field_sync, rows.the_sync, crosses, tasks.crosses, sendable)
    depth 60 fits 20000

body_send : IsSend body.the_row
body_send =
    let parts : FieldsHave IsSend body.the_type.parts = (
      scope_send,
      (
        search (texts.the_send, as_row_send, crosses, sendable) depth 60,
        (search (task_send, as_row_send, crosses), tt),
      ),
    )
    in declared_send body.the_type parts

body_sync : IsSync body.the_row
body_sync =
    let parts : FieldsHave IsSync body.the_type.parts = (
      scope_sync,
      (
        search (texts.the_sync, as_row_sync, crosses, sendable) depth 60,
        (search (task_sync, as_row_sync, crosses), tt),
      ),
    )
    in declared_sync body.the_type parts

parameter_send : IsSend parameter.the_row
parameter_send = search (texts.the_send, crosses, basics.crosses_both, sendable) depth 60 fits 20000

parameter_sync : IsSync parameter.the_row
parameter_sync = search (texts.the_sync, crosses, basics.crosses_both, sendable) depth 60 fits 20000

def_body_send : IsSend def_body.the_row
def_body_send =
    let parts : VariantsHave IsSend def_body.enum.parts =
    ((search (host_send, as_row_send, crosses), tt), ((search (task_send, as_row_send, crosses), tt), tt))
    in variants_send def_body.enum parts

def_body_sync : IsSync def_body.the_row
def_body_sync =
    let parts : VariantsHave IsSync def_body.enum.parts =
    ((search (host_sync, as_row_sync, crosses), tt), ((search (task_sync, as_row_sync, crosses), tt), tt))
    in variants_sync def_body.enum parts

def_send : IsSend def.the_row
def_send =
    let parts : FieldsHave IsSend def.the_type.parts = (
      search (texts.the_send, as_row_send, sendable),
      (search (parameter_send, rows.the_send, as_row_send, crosses, sendable) depth 12, (basic_send, (def_body_send, tt))),
    )
    in declared_send def.the_type parts

def_sync : IsSync def.the_row
def_sync =
    let parts : FieldsHave IsSync def.the_type.parts = (
      search (texts.the_sync, as_row_sync, sendable),
      (search (parameter_sync, rows.the_sync, as_row_sync, crosses, sendable) depth 12, (basic_sync, (def_body_sync, tt))),
    )
    in declared_sync def.the_type parts

program_send : IsSend program.the_row
program_send =
    let parts : FieldsHave IsSend program.the_type.parts =
    (search (def_send, rows.the_send, as_row_send), (search (body_send, rows.the_send, as_row_send), tt))
    in declared_send program.the_type parts

program_sync : IsSync program.the_row
program_sync =
    let parts : FieldsHave IsSync program.the_type.parts =
    (search (def_sync, rows.the_sync, as_row_sync), (search (body_sync, rows.the_sync, as_row_sync), tt))
    in declared_sync program.the_type parts

pub checked_send : IsSend checked.the_row
checked_send =
    let parts : FieldsHave IsSend inside.the_type.parts =
    (search (program_send, program_sync, as_row_send, crosses), (search (basic_send, rows.the_send, as_row_send), tt))
    in view_send _ _ _ _ _ (declared_send inside.the_type parts)

pub entry_send : IsSend entry.the_row
entry_send = search (texts.the_send, texts.the_sync, turns.the_send, crosses, values.crosses_both, sendable) depth 60 fits 20000

pub item_send : IsSend item.the_row
item_send =
    let parts : VariantsHave IsSend item.enum.parts =
    ((search (program_send, program_sync, as_row_send, crosses), (search sendable, tt)), ((entry_send, tt), tt))
    in variants_send item.enum parts
