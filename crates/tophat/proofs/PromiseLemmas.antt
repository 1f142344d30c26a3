-- What is promised, from how a command ended.
use Rattle.std.proofs.Common.{◌≡◌, ℕ, ◌++◌, Option, None, Some, ◌⊎◌, inl, inr, refl, sym, ◌∙◌, ap, subst, arith}
use Rattle.std.specs.Prelude.{MatchOption, Result, Ok, Err, IfOk, IfErr}
use Rattle.std.specs.Io.KnownBytes.{Appends}
use Rattle.outer_io.specs.Sink.{IsStart}
use Rattle.line_frame.specs.declared.finish.Finish.TheVariants as finishes
use Rattle.task_model.specs.Terms.Text.{Text}
use Rattle.tophat.specs.declared.ending.CommandEnding.{CommandEnding}
use Rattle.tophat.specs.declared.ending.CommandEnding.TheVariants.{Usage, FileFault, Unopened, Ran, WriteFault, GateFault}
use Rattle.tophat.specs.declared.no_world.NoWorld.TheVariants.{Memory}
use Rattle.command_words.specs.Commands.{CommandTerm, command_term, IsAsked}
use Rattle.command_words.specs.declared.command.Command.{Command}
use Rattle.command_words.specs.declared.command.Command.TheVariants as commands
use Rattle.command_words.specs.declared.stop.WordStop.{WordStop}
use Rattle.command_words.specs.declared.stop.WordStop.TheVariants as words
use Rattle.command_words.specs.declared.stop.WordStop.TheVariants.{Outside}
use Rattle.tophat.specs.Ending.{status_of, text_of}
use Rattle.tophat.specs.Promise.{IsCutShort, WritesReport, Promised, HasVerdictBy}
use Rattle.tophat.specs.Verdict.{IsVerdictOf}
use Rattle.tophat.specs.Top.{Limits, Report, named, NeedsMore, source_of, Reports}
use Rattle.tophat.specs.Worked.{HasVerdictAt, IfNotRun, IfSilent, Worked, Writes, word_ending}
use Rattle.tophat.specs.Objects.{Objects, IsUntouched}
use Rattle.tophat.specs.Asks.{Asks, AsksFor}
use Rattle.tophat.proofs.ReportLemmas.{report_exists}
use Rattle.tophat.proofs.WorkLemmas.{is_usage}

took_is : (before : Text) (now : Option Text) (written : Text) → Appends (Some before) now written → now ≡ Some (before ++ written)
took_is before None written a = absurd a
took_is before (Some bytes) written a = ap Some a

writes_either : (report : Report) (written : Text) (ending : CommandEnding) → Writes report written ending
    → (report ≡ record { output = written; ending = ending }) ⊎ (IsCutShort (status_of ending) × IsStart written report.output)
writes_either report written FileFault c = inr (inl refl, c)
writes_either report written (Unopened Memory) c = inr (inr (inr refl), c)
writes_either report written (Ran finishes.ReadFault) c = inr (inl refl, c)
writes_either report written (Ran finishes.WriteFault) c = inr (inr (inl refl), c)
writes_either report written (Ran finishes.Memory) c = inr (inr (inr refl), c)
writes_either report written WriteFault c = inr (inr (inl refl), c)
writes_either report written ending c = inl c

writes_report : (report : Report) (before written : Text) (now : Option Text) (ending : CommandEnding) (status : ℕ) → status ≡ status_of ending
    → now ≡ Some (before ++ written) → Writes report written ending → WritesReport report before now status
writes_report report before written now ending status e took c =
    elim (writes_either report written ending c) [
      | inl p ↦ inl (e ∙ sym (ap (λ (z : Report). status_of z.ending) p), took ∙ ap (λ (z : Report). Some (before ++ z.output)) (sym p))
      | inr q ↦ inr (subst IsCutShort (sym e) q.0, (written, q.1, took))
    ]

readable_by : (file : Option Text) (ending : CommandEnding) (status : ℕ) → status ≡ status_of ending → HasVerdictAt ending file
    → HasVerdictBy status file
readable_by file Usage status e r = inl (inl e)
readable_by file FileFault status e r = inl (inr (inl e))
readable_by file (Unopened Memory) status e r = inl (inr (inr e))
readable_by file GateFault status e r = absurd r
readable_by file ending status e r = inr r

pub promised : (l : Limits) (command : Option CommandTerm) (holds : Option (Option Text))
    (left_old left_new taken_old taken_new : Option Text) (ending : CommandEnding) (status : ℕ)
    → (NeedsMore command → ⊥) → status ≡ status_of ending
    → Worked l command holds left_old left_new taken_old taken_new ending → Promised l command holds left_old taken_old taken_new status
promised l command None left_old left_new taken_old taken_new ending status plain e d = tt
promised l command (Some file) None left_new taken_old taken_new ending status plain e d = tt
promised l command (Some file) (Some script) left_new None taken_new ending status plain e d = tt
promised l command (Some file) (Some script) left_new (Some first) taken_new ending status plain e d = (
  subst (λ (f : Option Text). HasVerdictBy status (source_of command f)) (sym d.file_told)
      (readable_by (source_of command d.file) ending status e d.verdict_is),
  λ verdict h.
      let r = report_exists l command file verdict script plain in
      let known : IsVerdictOf (source_of command d.file) verdict =
      subst (λ (f : Option Text). IsVerdictOf (source_of command f) verdict) d.file_told h in
      let reports : Reports l command d.file verdict d.script r.0 =
      subst (λ (z : Text). Reports l command d.file verdict z r.0) d.script_told
      (subst (λ (f : Option Text). Reports l command f verdict script r.0) d.file_told r.1) in (
        r.0,
        r.1,
        writes_report r.0 first d.written taken_new ending status e (took_is first taken_new d.written d.took)
            (d.comes verdict known r.0 reports),
      ),
)

-- status 2 comes where the words are outside the grammar, unless memory ran out, and nowhere else
pub usage_is : (asked : Result Command WordStop) (command : Option CommandTerm) (ending : CommandEnding) (status : ℕ) → IsAsked command asked
    → status ≡ status_of ending → IfOk asked (λ _. ending ≡ Usage → ⊥) → IfErr asked (λ stop. ending ≡ word_ending stop)
    → MatchOption command ((status ≡ 2) ⊎ (status ≡ 8)) (λ _. status ≡ 2 → ⊥)
usage_is (Ok asked) (Some command) ending status g is some none = λ two. some (is_usage ending (sym is ∙ two))
usage_is (Ok asked) None ending status g is some none = absurd (cc)
usage_is (Err Outside) None ending status g is some none = inl (is ∙ ap status_of none)
usage_is (Err Outside) (Some command) ending status g is some none = absurd (cc)
usage_is (Err words.Memory) None ending status g is some none = inr (is ∙ ap status_of none)
usage_is (Err words.Memory) (Some command) ending status g is some none = λ two.
    let e = is ∙ ap status_of none in absurd (omega (arith, e, two))

-- at wrong words, or where memory ran out there, all is as it was
all_untouched : (stop : WordStop) (ending : CommandEnding) (o : Objects) → ending ≡ word_ending stop → o.files.Untouched
    → IfNotRun ending o.input.Untouched → IfSilent ending o.out.Untouched → IsUntouched o
all_untouched Outside ending o e file run silent = (
  file,
  subst (λ (z : CommandEnding). IfNotRun z o.input.Untouched) e run,
  subst (λ (z : CommandEnding). IfSilent z o.out.Untouched) e silent,
)
all_untouched words.Memory ending o e file run silent = (
  file,
  subst (λ (z : CommandEnding). IfNotRun z o.input.Untouched) e run,
  subst (λ (z : CommandEnding). IfSilent z o.out.Untouched) e silent,
)

-- what is asked of the objects, by what the words ask for
pub asks_is : (l : Limits) (asked : Result Command WordStop) (command : Option CommandTerm) (ending : CommandEnding) (o : Objects) (status : ℕ)
    → IsAsked command asked → status ≡ status_of ending → IfOk asked (λ c. AsksFor l (command_term c) o.files o.input)
    → IfErr asked (λ stop. ending ≡ word_ending stop) → IfErr asked (λ _. o.files.Untouched) → IfNotRun ending o.input.Untouched
    → IfSilent ending o.out.Untouched → Asks l command o status
asks_is l (Ok c) command ending o status g is some none file run silent =
    subst (λ (k : Option CommandTerm). Asks l k o status) (sym g) (inl some)
asks_is l (Err Outside) command ending o status g is some none file run silent =
    subst (λ (k : Option CommandTerm). Asks l k o status) (sym g) (all_untouched Outside ending o none file run silent)
asks_is l (Err words.Memory) None ending o status g is some none file run silent =
    all_untouched words.Memory ending o none file run silent
asks_is l (Err words.Memory) (Some command) ending o status g is some none file run silent =
    inr (is ∙ ap status_of none, all_untouched words.Memory ending o none file run silent)

-- the name that is told of the file of a command, where any is
pub named_text : (asked : Result Command WordStop) (command : Option CommandTerm) (ending : CommandEnding) (name : Text) → IsAsked command asked
    → IfOk asked (λ c. name ≡ named (Some (command_term c))) → IfErr asked (λ stop. ending ≡ word_ending stop)
    → text_of name ending ≡ text_of (named command) ending
named_text (Ok asked) command ending name g is none = ap (λ (z : Text). text_of z ending) (is ∙ ap named (sym g))
named_text (Err Outside) command ending name g is none =
    subst (λ (z : CommandEnding). text_of name z ≡ text_of (named command) z) (sym none) refl
named_text (Err words.Memory) command ending name g is none =
    subst (λ (z : CommandEnding). text_of name z ≡ text_of (named command) z) (sym none) refl

-- where the words ask for no command, the status is that of their end, and all but the error sink is as it was
pub unasked_is : (asked : Result Command WordStop) (ending : CommandEnding) (status : ℕ) (File Input Output : Type 0) → status ≡ status_of ending
    → IfErr asked (λ stop. ending ≡ word_ending stop) → IfErr asked (λ _. File) → IfNotRun ending Input → IfSilent ending Output
    → IfErr asked (λ stop. (status ≡ status_of (word_ending stop)) × File × Input × Output)
unasked_is (Ok c) ending status File Input Output is none file run silent = tt
unasked_is (Err Outside) ending status File Input Output is none file run silent = (
  is ∙ ap status_of none,
  file,
  subst (λ (z : CommandEnding). IfNotRun z Input) none run,
  subst (λ (z : CommandEnding). IfSilent z Output) none silent,
)
unasked_is (Err words.Memory) ending status File Input Output is none file run silent = (
  is ∙ ap status_of none,
  file,
  subst (λ (z : CommandEnding). IfNotRun z Input) none run,
  subst (λ (z : CommandEnding). IfSilent z Output) none silent,
)

-- a command that needs more is answered only where memory ran out while its words were read
pub only_memory : (asked : Result Command WordStop) (command : Option CommandTerm) (status : ℕ) (File Input Output : Type 0)
    → IsAsked command asked → IfOk asked (λ c. NeedsMore (Some (command_term c)) → ⊥)
    → IfErr asked (λ stop. (status ≡ status_of (word_ending stop)) × File × Input × Output) → NeedsMore command
    → (status ≡ 8) × File × Input × Output
only_memory (Ok c) command status File Input Output g plain unasked more = absurd (plain (subst NeedsMore g more))
only_memory (Err Outside) command status File Input Output g plain unasked more = absurd (subst NeedsMore g more)
only_memory (Err words.Memory) command status File Input Output g plain unasked more = unasked

-- a command that isn't plain needs more
pub needs_more : (asked : Result Command WordStop) (command : Option CommandTerm) → IsAsked command asked
    → (IfOk asked (λ c. NeedsMore (Some (command_term c)) → ⊥) → ⊥) → NeedsMore command
needs_more (Ok (commands.Run file budget)) command g h = absurd (h (λ more. more))
needs_more (Ok (commands.Check file)) command g h = absurd (h (λ more. more))
needs_more (Ok (commands.Soak count seed)) command g h = absurd (h (λ more. more))
needs_more (Ok (commands.Drill seats each)) command g h = subst NeedsMore (sym g) tt
needs_more (Ok (commands.Serve file serving)) command g h = subst NeedsMore (sym g) tt
needs_more (Ok (commands.Json file budget)) command g h = absurd (h (λ more. more))
needs_more (Ok (commands.Bound file)) command g h = absurd (h (λ more. more))
needs_more (Err stop) command g h = absurd (h tt)
