-- How a world whose history is kept in a journal answers lines (docs/RULES.md, "Journals").
use Rattle.std.specs.Prelude.{ℕ, ◌≡◌, ◌<◌, ◌⊎◌, length, codes}
use Rattle.task_model.specs.Terms.Text.{Text}
use Rattle.task_model.specs.Terms.Input.{EntryTerm}
use Rattle.world_core.specs.World.{WorldTerm}
use Rattle.input_lines.specs.ScriptLines.{LineTerm, nothing, shows, gives}
use Rattle.input_lines.specs.EntryText.{entry_line}
use Rattle.history_journal.specs.Journals.{WouldTake}
use Rattle.world_answers.specs.declared.line_form.LineForm.TheVariants.{Script}
use Rattle.world_answers.specs.LineAnswers.{Answers}

-- the entry would be taken, but its line has more bytes than a record may have
abbrev pub IsTooLong : WorldTerm → EntryTerm → Type 0
IsTooLong w e = WouldTake w e × (1048576 < length (entry_line e))

-- the answer to an entry that is too long
abbrev pub too_long_text : Text
too_long_text = codes "entry too long\n"

-- a line is answered as it is without a journal, but that an entry that is too long isn't taken
abbrev pub KeptAnswers : WorldTerm → LineTerm → Text → WorldTerm → Type 0
KeptAnswers w nothing text next = Answers Script w nothing text next
KeptAnswers w (shows seat) text next = Answers Script w (shows seat) text next
KeptAnswers w (gives e) text next =
    ((IsTooLong w e → ⊥) × Answers Script w (gives e) text next) ⊎ (IsTooLong w e × (text ≡ too_long_text) × (next ≡ w))
