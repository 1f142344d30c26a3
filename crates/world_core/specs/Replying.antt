-- What becomes of several entries, one after the other.
use Rattle.std.specs.Prelude.{◌≡◌, List, [], ◌∷◌, ◌++◌, Result, Ok, Err}
use Rattle.task_model.specs.Terms.Rowed.{Rowed}
use Rattle.task_model.specs.Terms.Input.{EntryTerm}
use Rattle.task_model.specs.declared.stops.ActStop.{ActStop}
use Rattle.task_model.specs.declared.stops.ActStop.TheVariants as acts
use Rattle.world_core.specs.World.{WorldTerm, Replies}
use Rattle.world_core.specs.declared.answers.Taken.{Taken}
use Rattle.world_core.specs.declared.answers.RunStop.{RunStop}
use Rattle.world_core.specs.declared.answers.Reply.{Reply}
use Rattle.world_core.specs.declared.answers.Reply.TheVariants as replies

-- the answer that a reply tells
abbrev pub reply_answer : Reply → Result Taken ActStop
reply_answer (replies.Taken n) = Ok (record { version = n })
reply_answer replies.NotOffered = Err acts.NotOffered
reply_answer replies.Over = Err acts.Over

-- each entry has its reply at the world that the ones before it led to
abbrev pub RepliesToAll : WorldTerm → List EntryTerm → List Reply → WorldTerm → Type 0
RepliesToAll old [] [] new = new ≡ old
RepliesToAll old (e ∷ es) (r ∷ rs) new = (m : WorldTerm) × Replies old e m (reply_answer r) × RepliesToAll m es rs new
RepliesToAll old es rs new = ⊥

-- There are replies to all entries. Where memory ran out, to those in front of one that wasn't handled.
abbrev pub Runs : WorldTerm → List EntryTerm → WorldTerm → Result (Rowed Reply) RunStop → Type 0
Runs old es new (Ok row) = RepliesToAll old es row.list new
Runs old es new (Err stop) =
    (front : List EntryTerm) × (e : EntryTerm) × (rest : List EntryTerm) × (es ≡ front ++ e ∷ rest)
    × RepliesToAll old front stop.done.list new
