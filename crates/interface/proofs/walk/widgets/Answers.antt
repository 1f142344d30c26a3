use Rattle.std.proofs.Common.{map, ap}
use Rattle.task_model.specs.Showing.Widget.{widget_term}
use Rattle.interface.proofs.WalkLemmas.{walked_whole}
use Rattle.interface.proofs.walk.widgets.Goals as goal

pub returns : goal.returns
returns g c = walked_whole _ _ _ _ _ _ _ c.new-shown.ensures.trail
    (ap (map widget_term) c.new-shown.ensures.widgets) c.in_ok-_rest.ensures.walked
