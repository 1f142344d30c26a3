-- What is promised of every command.
use Rattle.std.specs.Prelude.{◌≡◌, ◌⊎◌, ℕ, Option, None, Some}
use Rattle.outer_gates.specs.Gates.{GateTold}
use Rattle.command_words.specs.Commands.{CommandTerm, drill, serve}
use Rattle.tophat.specs.Fulfils.{Fulfils}
use Rattle.tophat.specs.Objects.{Around, Objects, IsUntouched}
use Rattle.tophat.specs.Top.{Limits}
use Rattle.tophat_commands.specs.Drills.{Drills}
use Rattle.tophat_commands.specs.Serves.{Serves}

-- Memory ran out while the words were read. All but the error sink is as it was.
pub record IsWordless (o : Objects) (ports : Around (ℕ → Option GateTold)) (gate : Option GateTold) (status : ℕ) : Type 0 where
  pub status_is : status ≡ 8
  pub objects : IsUntouched o
  pub ports_are : ports.Untouched
  pub no_gate : gate ≡ None

-- The promise of the top call, by the command that the words ask for. A drill and a command that serves keep their own, unless memory ran
-- out while the words were read. Every other one keeps that of the plain commands, and leaves the ports as they were.
abbrev pub FulfilsCommand : Limits → Option CommandTerm → Objects → Around (ℕ → Option GateTold) → Option GateTold → ℕ → Type 0
FulfilsCommand l (Some (serve name asked)) o ports gate status = Serves l name asked o ports gate status ⊎ IsWordless o ports gate status
FulfilsCommand l (Some (drill seats each)) o ports gate status = Drills seats each o ports gate status ⊎ IsWordless o ports gate status
FulfilsCommand l command o ports gate status = Fulfils l command o status × ports.Untouched × (gate ≡ None)
