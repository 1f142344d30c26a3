-- What stands in a widget's form behind its kind.
use Rattle.std.specs.Prelude.{◌≡◌, List, codes}
use Rattle.task_model.specs.Terms.Text.{Text}
use Rattle.task_model.specs.Showing.Widget.{ShapeTerm}
use Rattle.task_model.specs.Showing.Page.{path_text}
use Rattle.task_model.specs.declared.input.Turn.{Turn}
use Rattle.serde_json.specs.Data.{Members, member, string}
use Rattle.json_face.specs.JsonPages.{shape_members, FitsShape}

-- behind this kind, these members are the form of what is shown at a path, within the limits
pub record IsWidgetKind (kind : Text) (rest : Members) (path : List Turn) (s : ShapeTerm) : Type 0 where
  pub are : member (codes "kind") (string kind) rest ≡ shape_members (path_text path) s
  pub fits : FitsShape s
