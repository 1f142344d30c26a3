-- What was served, run again.
use Rattle.std.specs.Prelude.{ℕ, ◌≤◌, List, length, Some}
use Rattle.task_model.specs.Terms.Text.{Text}
use Rattle.task_model.specs.Terms.Item.{ItemTerm}
use Rattle.task_model.specs.Running.Checked.{CheckedTerm}
use Rattle.task_model.specs.Running.State.{IsSeat}
use Rattle.command_words.specs.Commands.{run}
use Rattle.tophat.specs.Replay.{AreShort, replay_script, replayed}
use Rattle.tophat.specs.Top.{Limits, Reports}
use Rattle.tophat.specs.Verdict.{IsVerdict, accepted}

-- The program's bytes, the printed lines of a history, and the script of them are within the limits of a run; and a seat.
pub record IsWithinRun (l : Limits) (bytes : Text) (history : List ItemTerm) (seat : ℕ) : Type 0 where
  pub seat_is : IsSeat seat
  pub program : length bytes ≤ l.file
  pub lines : AreShort l.line history
  pub script : length (replay_script history seat) ≤ l.script

-- These bytes are an accepted program. A run of them within the budget, on the entries of the history and then the line that asks for the
-- seat's page, is reported to take every entry again and to show this page.
pub record IsRunAgain (l : Limits) (name bytes : Text) (budget : ℕ) (history : List ItemTerm) (seat : ℕ) (page : Text) : Type 0 where
  pub checked : CheckedTerm
  pub verdict : IsVerdict bytes (accepted checked)
  pub report : Reports l (Some (run name budget)) (Some bytes) (accepted checked) (replay_script history seat) (replayed history page)
