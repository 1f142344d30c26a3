-- What is promised of every plain command.
use Rattle.std.specs.Prelude.{ℕ, ◌≡◌, ◌⊎◌, Option, MatchOption}
use Rattle.command_words.specs.Commands.{CommandTerm}
use Rattle.tophat.specs.Top.{Limits, named, NeedsMore}
use Rattle.tophat.specs.Objects.{Objects}
use Rattle.tophat.specs.Ended.{Ended, FailedBy, HasRisen}
use Rattle.tophat.specs.Asks.{Asks}
use Rattle.tophat.specs.Promise.{Promised}
use Rattle.tophat.specs.Complete.{Completes}

-- The promise of `plain`, of a command that ended with this status.
pub record Fulfils (l : Limits) (command : Option CommandTerm) (o : Objects) (status : ℕ) : Type 0 where
  -- The status, what both sinks took and the counts of faults belong to one end, whatever the objects tell.
  pub ended : Ended l command o status
  -- Where the objects tell their bytes, of a command that needs no more: the status and the output are the reported ones, or the status is 5, 6 or 8 and the output is the
  -- first part of that.
  pub told : (NeedsMore command → ⊥) → Promised l command (o.files.before (named command)) o.input.before o.out.before o.out.now status
  -- Status 2 comes where the words are outside the grammar, unless memory runs out there, and nowhere else.
  pub usage : MatchOption command ((status ≡ 2) ⊎ (status ≡ 8)) (λ _. status ≡ 2 → ⊥)
  -- Status 9 comes nowhere here.
  pub no_gate : status ≡ 9 → ⊥
  -- A run asks for its file, a check for its file and no input, a soak for neither. Wrong words leave all as it was.
  pub asks : Asks l command o status
  -- A call that fails ends the command, and no other end hides it: at 5 one request or read failed, at 6 one write, and else none.
  pub faults : FailedBy status o.files.faults o.input.faults o.out.faults
  -- Where the objects tell their bytes and no count rose, a run of an accepted program that opens, on lines that are all in the grammar,
  -- answers every line, at status 0, unless memory runs out.
  pub complete : Completes l command (o.files.before (named command)) o.input.before o.out.before o.out.now
      (HasRisen o.files.faults ⊎ (HasRisen o.input.faults ⊎ HasRisen o.out.faults)) status
