-- Engines may go to other threads where their definitions may, and worlds where their parts may.
use denote.Param.Send.{IsSend, sendable, view_send}
use denote.Param.SendFields.{FieldsHave, declared_send, as_row_send}
use denote.Struct.Field.{u32-field}
use denote.Hole.{as_row}
use Rattle.std.proofs.Crossing.{crosses, Box-send}
use Rattle.std.proofs.option.Option.TheSendSync as options
use Rattle.task_model.proofs.row.Row.TheSendSync as rows
use Rattle.task_model.specs.contracts.item.Item as item
use Rattle.task_model.specs.contracts.value.Value as value
use Rattle.shared_store.specs.contracts.store.Store as store
use Rattle.task_model.specs.contracts.tree.Tree as tree
use Rattle.task_model.proofs.text.TaskText.TheSendSync as texts
use Rattle.task_model.proofs.basic.Basic.TheLaws.TheKnot as basics
use Rattle.task_model.proofs.value.Value.TheLaws.TheKnot as values
use Rattle.task_model.proofs.tree.Tree.TheLaws.TheKnot as trees
use Rattle.task_model.specs.contracts.turns.Turns as turns
use Rattle.task_model.proofs.turns.Turns.TheSendSync as turns_send
use Rattle.node_rows.specs.contracts.rows.NodeRows as node_rows
use Rattle.live_tree.specs.contracts.tree.LiveTree as live_tree
use Rattle.live_tree.specs.contracts.tree.LiveTree.TheInside as live_inside
use Rattle.world_core.specs.contracts.prepared.Prepared as prepared
use Rattle.world_core.specs.contracts.parts.WorldParts as world_parts
use Rattle.world_core.specs.contracts.parts.WorldParts.TheInside as within
use Rattle.world_core.specs.contracts.world.World as world
use Rattle.world_core.specs.contracts.world.World.TheInside as boxed
use Rattle.host_eval.specs.contracts.definitions.Definitions as definitions
use Rattle.task_evaluation.specs.contracts.engine.Engine as engine
use Rattle.task_evaluation.specs.contracts.engine.Engine.TheInside as inside
use Rattle.task_evaluation.specs.contracts.first_part.FirstPart as first_part

u32_send : IsSend (as_row u32-field)
u32_send = search sendable

first_part_send : IsSend first_part.the_row
first_part_send = declared_send first_part.the_type (search sendable, (search sendable, tt))

pub engine_send : IsSend definitions.the_row → IsSend engine.the_row
engine_send d =
    let rows_of_parts = rows.the_send _ (rows.the_send first_part.the_row first_part_send) in
    let parts : FieldsHave IsSend inside.the_type.parts = (
      search (crosses, as_row_send, sendable) depth 20,
      (
        d,
        (
          search (crosses, as_row_send, sendable) depth 20,
          (
            search (rows.the_send, crosses, as_row_send, sendable) depth 20,
            (
              search (rows.the_send, crosses, as_row_send, sendable) depth 20,
              (rows_of_parts, (rows_of_parts, tt)),
            ),
          ),
        ),
      ),
    )
    in view_send _ _ _ _ _ (declared_send inside.the_type parts)

tree_send : IsSend (as_row tree.the_field)
tree_send = search (as_row_send, texts.the_send, texts.the_sync, rows.the_send, rows.the_sync, crosses, basics.crosses_both, values.crosses_both, trees.crosses_both, sendable) depth 60 fits 20000

pub live_tree_send : IsSend node_rows.the_row → IsSend live_tree.the_row
live_tree_send r =
    let parts : FieldsHave IsSend live_inside.the_type.parts =
    (tree_send, (options.the_send node_rows.the_row r, (options.the_send turns.the_row turns_send.the_send, (search sendable, tt))))
    in view_send _ _ _ _ _ (declared_send live_inside.the_type parts)

world_parts_send :
    IsSend engine.the_row → IsSend item.the_row → IsSend live_tree.the_row → IsSend (store.the_row value.the_row) → IsSend world_parts.the_row
world_parts_send e i l s =
    let both : FieldsHave IsSend prepared.the_type.parts = (i, (l, tt)) in
    let parts : FieldsHave IsSend within.the_type.parts =
    (e, (u32_send, (rows.the_send item.the_row i, (l, (s, (options.the_send prepared.the_row (declared_send prepared.the_type both), tt))))))
    in view_send _ _ _ _ _ (declared_send within.the_type parts)

pub world_send :
    IsSend engine.the_row → IsSend item.the_row → IsSend live_tree.the_row → IsSend (store.the_row value.the_row) → IsSend world.the_row
world_send e i l s =
    let parts : FieldsHave IsSend boxed.the_type.parts = (Box-send world_parts.the_row (world_parts_send e i l s), tt) in
    view_send _ _ _ _ _ (declared_send boxed.the_type parts)
