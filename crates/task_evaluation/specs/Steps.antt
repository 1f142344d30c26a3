-- Parts of rules that have functions of their own.
use Rattle.std.specs.Prelude.{Option}
use Rattle.std.specs.Option.{option_map}
use Rattle.task_model.specs.Terms.Text.{Text}
use Rattle.task_model.specs.Terms.Basic.{BasicTerm}
use Rattle.task_model.specs.Terms.Env.{EnvTerm}
use Rattle.task_model.specs.Terms.Tree.{TreeTerm, share_tree}
use Rattle.host_eval.specs.ValueWords.{option_then, place_named}

-- the tree of a share node, where there are its type and the place of its name
abbrev pub share_tree_at : Option BasicTerm → EnvTerm → Text → Option TreeTerm
share_tree_at o env x = option_then o (λ b. option_map (share_tree b) (place_named env x))
