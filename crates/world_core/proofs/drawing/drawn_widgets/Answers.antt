use Rattle.std.proofs.Common.{map, ap}
use Rattle.task_model.specs.Terms.Value.{value_term}
use Rattle.task_model.specs.Running.Checked.{checked_term}
use Rattle.task_model.specs.declared.value.Value.{Value}
use Rattle.shared_store.specs.Layered.{Layered}
use Rattle.world_core.proofs.ShownWidgets.{widgets_of}
use Rattle.world_core.proofs.drawing.drawn_widgets.Goals as goal

pub returns-clause-widgets : goal.returns-clause-widgets
returns-clause-widgets g c =
    widgets_of (checked_term c.args.engine.now) c.args.budget c.args.live.now c.draw.new.self (map value_term c.args.store.now.list)
    (map value_term c.draw.new.store.list) c.widgets.result c.in_ok-draw.ensures.tree
    (ap (λ (s : Layered Value). map value_term s.list) c.in_ok-draw.ensures.store) c.in_ok-draw.ensures.live c.widgets.ensures
