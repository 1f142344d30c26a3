-- Why a file that was read has no opening.
use Rattle.std.proofs.Common.{ℕ, ◌≤◌, length, Option, Some}
use Rattle.task_model.specs.Terms.Text.{Text}
use Rattle.tophat.specs.Worked.{IsFile}
use Rattle.tophat.specs.declared.ending.CommandEnding.TheVariants.{Unopened}
use Rattle.tophat.specs.declared.no_world.NoWorld.{NoWorld}
use Rattle.tophat.specs.declared.no_world.NoWorld.TheVariants.{Refused, OverBudget, Memory}
use Rattle.tophat_commands.specs.ServedFiles.{HasNoOpening, IsNotOpened}

pub no_opening : (limit budget : ℕ) (holds : Option (Option Text)) (bytes : Text) (why : NoWorld) → IsFile holds (Some bytes)
    → length bytes ≤ limit → IsNotOpened budget bytes why → HasNoOpening limit budget holds (Unopened why)
no_opening limit budget holds bytes (Refused place refusal) is within none = (bytes, is, within, none)
no_opening limit budget holds bytes OverBudget is within none = (bytes, is, within, none)
no_opening limit budget holds bytes Memory is within none = tt
