-- What a journal answers to an input, and what becomes of it, by what it replied.
use Rattle.std.proofs.Common.{◌≡◌, ℕ, ◌<◌, ◌≤◌, List, length, Result, Ok, Err, refl, sym, ap, ◌∙◌, ◌⊎◌, inl, inr, Bool, true, false, arith}
use Rattle.std.specs.Prelude.{OnOk, OnErr, IfOk, IfErr}
use Rattle.task_model.specs.Terms.Rowed.{Rowed}
use Rattle.task_model.specs.Terms.Input.{EntryTerm}
use Rattle.task_model.specs.Terms.Tree.{State}
use Rattle.task_model.specs.Running.Outcome.{Outcome, IsOutcome, taken, not_offered, over_budget}
use Rattle.task_model.specs.Running.State.{version_of}
use Rattle.task_laws.proofs.OutcomeLemmas.{outcome_once}
use Rattle.outer_disks.specs.Disks.{DiskTold, IsHonest, LeavesOnly}
use Rattle.line_frame.specs.declared.machine.LineStop.{LineStop}
use Rattle.line_frame.specs.declared.machine.LineStop.TheVariants as lines
use Rattle.input_lines.specs.EntryText.{entry_line}
use Rattle.input_lines.specs.ScriptLines.{gives}
use Rattle.world_core.specs.World.{WorldTerm, world_term}
use Rattle.world_core.specs.declared.answers.Taken.{Taken}
use Rattle.world_answers.specs.declared.line_form.LineForm.TheVariants.{Script}
use Rattle.world_answers.specs.LineAnswers.{Answers, taken_text}
use Rattle.history_journal.specs.Journals.{SeenJournal, HoldsJournal, WouldTake, IsBeforeOrTaken, TakesOn}
use Rattle.history_journal.specs.NotTaken.{IsNotTaken}
use Rattle.history_journal.specs.declared.stops.KeepStop.{KeepStop}
use Rattle.history_journal.specs.declared.stops.KeepStop.TheVariants as keeps
use Rattle.journal_runs.specs.KeptAnswers.{KeptAnswers, IsTooLong}
use Rattle.journal_runs.specs.ReplyTexts.{IsReplyText}
use Rattle.journal_runs.specs.Moves.{StaysAsBefore, TakesEntry, MeetsFault, Moves, Stops}

-- an entry with another outcome isn't too long
not_taken : (w : WorldTerm) (e : EntryTerm) (o : Outcome) → IsOutcome w.checked w.budget w.state e.input o → ((t : State) → taken t ≡ o → ⊥) → IsTooLong w e → ⊥
not_taken w e o is apart long = apart long.0.0 (outcome_once w.checked w.budget w.state e.input (taken long.0.0) o long.0.1 is)

module _ {D : Type 0} (told : D → DiskTold) (old new : SeenJournal D) (e : EntryTerm) (free : old.closed ≡ false) where
  -- what the call that takes an input says
  pub record Handled (reply : Result Taken KeepStop) : Type 0 where
    pub ok : OnOk reply (TakesOn (world_term old.world) e (world_term new.world) old.closed new.closed)
    pub version : IfOk reply (λ done. done.version ≡ version_of (world_term new.world).history)
    pub short : OnOk reply (length (entry_line e) ≤ 1048576)
    pub honest : (told new.disk).honest ≡ (told old.disk).honest
    pub count : (told old.disk).faults ≤ (told new.disk).faults
    pub settled : OnOk reply (IsHonest (told old.disk) → HoldsJournal (told new.disk) (world_term new.world).history)
    pub left : OnErr reply (world_term new.world ≡ world_term old.world)
    pub why : IfErr reply (IsNotTaken told (world_term old.world) e old.closed new.closed old.disk new.disk)
    pub any_moment : old.closed ≡ false → IsHonest (told old.disk) → LeavesOnly (told old.disk) (told new.disk) (IsBeforeOrTaken (world_term old.world) e)

  abbrev w : WorldTerm
  w = world_term old.world

  pub reply_answers : (reply : Result Taken KeepStop) (result : Result (Rowed ℕ) LineStop) → Handled reply → IsReplyText reply result
      → IfOk result (λ text. KeptAnswers (world_term old.world) (gives e) text.list (world_term new.world))
  reply_answers reply (Err stop) h is = tt
  reply_answers (Ok done) (Ok text) h is = inl (
    λ long. (let short = h.short in let over = long.1 in omega (arith, short, over)),
    (
      taken h.ok.state,
      h.ok.outcome,
      is ∙ ap (taken_text Script) (h.version ∙ ap (λ (z : WorldTerm). version_of z.history) h.ok.world),
      h.ok.world,
    ),
  )
  reply_answers (Err keeps.NotOffered) (Ok text) h is =
      inl (not_taken w e not_offered h.why.0 (λ t eq. cc), (not_offered, h.why.0, is, h.left))
  reply_answers (Err keeps.Over) (Ok text) h is =
      inl (not_taken w e over_budget h.why.0 (λ t eq. cc), (over_budget, h.why.0, is, h.left))
  reply_answers (Err (keeps.LongEntry count)) (Ok text) h is = inr ((h.why.0, h.why.2), is, h.left)
  reply_answers (Err keeps.DiskFault) (Ok text) h is = absurd is
  reply_answers (Err keeps.Closed) (Ok text) h is = absurd is
  reply_answers (Err keeps.Memory) (Ok text) h is = absurd is

  rests : world_term new.world ≡ world_term old.world → new.disk ≡ old.disk → new.closed ≡ old.closed → StaysAsBefore old new
  rests same disk closed = record { world = same; disk = disk; closed = closed }

  kept : (done : Taken) → Handled (Ok done) → TakesEntry told old new
  kept done h = record {
    entry = e;
    takes = h.ok;
    honest = h.honest;
    count = h.count;
    holds = h.settled;
    any_moment = h.any_moment free;
  }

  failed : Handled (Err keeps.DiskFault) → MeetsFault told old new
  failed h = record {
    entry = e;
    would = h.why.0;
    world = h.left;
    open_before = free;
    closed_now = h.why.2;
    honest = h.honest;
    count = h.count;
    rose = h.why.1;
    now = h.why.3;
    any_moment = h.any_moment free;
  }

  pub reply_moves : (reply : Result Taken KeepStop) (result : Result (Rowed ℕ) LineStop) → Handled reply → IsReplyText reply result
      → IfOk result (λ _. Moves told old new)
  reply_moves reply (Err stop) h is = tt
  reply_moves (Ok done) (Ok text) h is = inr (kept done h)
  reply_moves (Err keeps.NotOffered) (Ok text) h is = inl (rests h.left h.why.1 h.why.2)
  reply_moves (Err keeps.Over) (Ok text) h is = inl (rests h.left h.why.1 h.why.2)
  reply_moves (Err (keeps.LongEntry count)) (Ok text) h is = inl (rests h.left h.why.3 h.why.4)
  reply_moves (Err keeps.DiskFault) (Ok text) h is = absurd is
  reply_moves (Err keeps.Closed) (Ok text) h is = absurd is
  reply_moves (Err keeps.Memory) (Ok text) h is = absurd is

  stopped : (reply : Result Taken KeepStop) → Handled reply → Stops told old new
  stopped (Ok done) h = inr (inl (kept done h))
  stopped (Err keeps.NotOffered) h = inl (rests h.left h.why.1 h.why.2)
  stopped (Err keeps.Over) h = inl (rests h.left h.why.1 h.why.2)
  stopped (Err (keeps.LongEntry count)) h = inl (rests h.left h.why.3 h.why.4)
  stopped (Err keeps.DiskFault) h = inr (inr (failed h))
  stopped (Err keeps.Closed) h = inl (rests h.left h.why.1 h.why.2)
  stopped (Err keeps.Memory) h = inl (rests h.left h.why.0 h.why.1)

  pub reply_stops : (reply : Result Taken KeepStop) (result : Result (Rowed ℕ) LineStop) → Handled reply → IfErr result (λ _. Stops told old new)
  reply_stops reply (Ok text) h = tt
  reply_stops reply (Err stop) h = stopped reply h

pub reply_memory : (reply : Result Taken KeepStop) (result : Result (Rowed ℕ) LineStop) → IsReplyText reply result
    → IfErr result (λ stop. stop ≡ lines.Memory)
reply_memory reply (Ok text) is = tt
reply_memory reply (Err stop) is = is
