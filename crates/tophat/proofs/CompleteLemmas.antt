-- Where every line is in the form, all of them are answered.
use Rattle.std.proofs.Common.{◌≡◌, ℕ, ◌+◌, ◌≤◌, List, [], ◌∷◌, length, Option, None, Some, inl, inr, refl, sym, ◌∙◌, ap, subst, arith}
use Rattle.task_model.specs.Terms.Text.{Text}
use Rattle.task_model.specs.Terms.Tree.{State}
use Rattle.task_model.specs.Running.Checked.{CheckedTerm}
use Rattle.task_laws.proofs.OutcomeLemmas.{opening_once}
use Rattle.world_core.specs.World.{WorldTerm}
use Rattle.line_frame.specs.Told.{Told}
use Rattle.line_frame.specs.Script.{TellsScript, cut_of, all_lines, lines_in, end_of}
use Rattle.line_frame.proofs.ScriptLemmas.{is_within, end_all}
use Rattle.line_frame.specs.declared.finish.Finish.{Finish}
use Rattle.line_frame.specs.declared.finish.Finish.TheVariants.{Done}
use Rattle.command_words.specs.Commands.{CommandTerm, run, check, soak, drill, serve, json, bound}
use Rattle.tophat.specs.declared.ending.CommandEnding.TheVariants.{Ran}
use Rattle.tophat.specs.Ending.{status_of}
use Rattle.tophat.specs.Verdict.{accepted}
use Rattle.world_answers.specs.declared.line_form.LineForm.{LineForm}
use Rattle.world_answers.specs.declared.line_form.LineForm.TheVariants.{Script, Json}
use Rattle.tophat.specs.Session.{Tells}
use Rattle.tophat.specs.Top.{NeedsMore, Report, limits, world, none, world_at, Opened, OpensVerdict, ReportsFile, ReportsOpened, ReportsTold, ReportsVerdict, Reports, runs}
use Rattle.tophat.specs.Promise.{Promised, WritesReport}
use Rattle.tophat.specs.Complete.{lines_of, AreLinesWithin, IsRunnable, AnswersAll, ReportsAll, AnsweredAll, Completes}
use Rattle.tophat.proofs.LineLemmas.{asking_of, form_apart}
use Rattle.tophat.proofs.ReportLemmas.{lines_reported_of}

tells_all : (form : LineForm) (longest : ℕ) (w : WorldTerm) (number : ℕ) (lines : List Text) (finish : Finish) (told : Told) → AreLinesWithin form longest lines
    → Tells form longest w number lines finish told → (told.finish ≡ finish) × AnswersAll form w lines told.output
tells_all form longest w number [] finish told h t = (ap (λ (z : Told). z.finish) t, ap (λ (z : Told). z.output) t)
tells_all form longest w number (line ∷ lines) finish told h (inl t) =
    let more = tells_all form longest t.next (number + 1) lines finish t.rest h.1 t.tells in (
      ap (λ (z : Told). z.finish) t.all ∙ more.0,
      record {
        asked = t.asked;
        is = asking_of form longest line t.asked t.is;
        answer = t.text;
        next = t.next;
        rest = t.rest.output;
        answers = t.answers;
        more = more.1;
        all = ap (λ (z : Told). z.output) t.all;
      },
    )
tells_all form longest w number (line ∷ lines) finish told h (inr t) = absurd (form_apart form longest line h.0.0 t.place h.0.1 t.bad)

-- a script within the limit is run to its end
lines_within : (limit : ℕ) (script : Text) → length script ≤ limit → lines_in limit script ≡ all_lines (cut_of script)
lines_within limit script le = rw (is_within (length script) limit le) refl

pub script_all : (form : LineForm) (longest limit : ℕ) (w : WorldTerm) (script : Text) (told : Told) → length script ≤ limit
    → AreLinesWithin form longest (all_lines (cut_of script)) → TellsScript (Tells form longest w 1) limit script told
    → (told.finish ≡ Done) × AnswersAll form w (all_lines (cut_of script)) told.output
unfolding TellsScript
script_all form longest limit w script told le h t =
    let known : Tells form longest w 1 (all_lines (cut_of script)) (end_of limit script) told =
    subst (λ (lines : List Text). Tells form longest w 1 lines (end_of limit script) told) (lines_within limit script le) t in
    let all = tells_all form longest w 1 (all_lines (cut_of script)) (end_of limit script) told h known in
    (all.0 ∙ end_all limit script le, all.1)

-- ---- reports
pub complete_report : (form : LineForm) (name : Text) (budget : ℕ) (bytes script : Text) (c : CheckedTerm) (s : State) (report : Report)
    → IsRunnable form limits budget bytes script c s → Reports limits (Some (runs form name budget)) (Some bytes) (accepted c) script report
    → ReportsAll form (world_at c budget s) (lines_of script) report
complete_report form name budget bytes script c s report h r = filed (lines_reported_of form limits name budget (Some bytes) (accepted c) script report r)
  where
    TellsAt : WorldTerm → Told → Type 0
    TellsAt w told = TellsScript (Tells form limits.line w 1) limits.script script told

    opened : (o : Opened) → OpensVerdict budget (accepted c) o → ReportsOpened (ReportsTold TellsAt) o report
        → ReportsAll form (world_at c budget s) (lines_of script) report
    opened (world w) (u, opening, is) (told, tells, are) =
        let same : w ≡ world_at c budget s = is ∙ ap (world_at c budget) (opening_once c budget u s opening h.opens) in
        let known = subst (λ (z : WorldTerm). TellsScript (Tells form limits.line z 1) limits.script script told) same tells in
        let all = script_all form limits.line limits.script (world_at c budget s) script told h.within h.lines known in (
          ap (λ (z : Report). z.ending) are ∙ ap Ran all.0,
          subst (λ (z : Text). AnswersAll form (world_at c budget s) (lines_of script) z) (sym (ap (λ (z : Report). z.output) are)) all.1,
        )
    opened (none ending) (never, is) r = absurd (never s h.opens)

    filed : ReportsFile limits.file (Some bytes) (ReportsVerdict budget (accepted c) (ReportsTold TellsAt)) report
        → ReportsAll form (world_at c budget s) (lines_of script) report
    filed (inl (le, (o, opens, reports))) = opened o opens reports
    filed (inr (lt, is)) = let short = h.program.1.short in absurd (omega (arith, lt, short))

answered_all : (form : LineForm) (w : WorldTerm) (lines : List Text) (report : Report) (before : Text) (now : Option Text) (failed : Type 0) (status : ℕ)
    → (failed → ⊥) → (status ≡ 5 → failed) → (status ≡ 6 → failed) → ReportsAll form w lines report → WritesReport report before now status
    → AnsweredAll form w lines before now status
answered_all form w lines report before now failed status fine five six all (inl (is, took)) =
    inl (is ∙ ap status_of all.0, (report.output, all.1, took))
answered_all form w lines report before now failed status fine five six all (inr (inl e, part)) = absurd (fine (five e))
answered_all form w lines report before now failed status fine five six all (inr (inr (inl e), part)) = absurd (fine (six e))
answered_all form w lines report before now failed status fine five six all (inr (inr (inr e), part)) = inr e

pub completes : (command : Option CommandTerm) (holds : Option (Option Text)) (left taken now : Option Text) (failed : Type 0) (status : ℕ)
    → ((NeedsMore command → ⊥) → Promised limits command holds left taken now status) → (status ≡ 5 → failed) → (status ≡ 6 → failed)
    → Completes limits command holds left taken now failed status
completes None holds left taken now failed status p five six = tt
completes (Some (check name)) holds left taken now failed status p five six = tt
completes (Some (soak count seed)) holds left taken now failed status p five six = tt
completes (Some (drill seats each)) holds left taken now failed status p five six = tt
completes (Some (serve name serving)) holds left taken now failed status p five six = tt
completes (Some (bound name)) holds left taken now failed status p five six = tt
completes (Some (run name budget)) None left taken now failed status p five six = tt
completes (Some (run name budget)) (Some None) left taken now failed status p five six = tt
completes (Some (run name budget)) (Some (Some bytes)) None taken now failed status p five six = tt
completes (Some (run name budget)) (Some (Some bytes)) (Some script) None now failed status p five six = tt
completes (Some (run name budget)) (Some (Some bytes)) (Some script) (Some before) now failed status p five six = λ c s h fine.
    let r = (p (λ more. more)).1 (accepted c) h.program in
    answered_all Script (world_at c budget s) (lines_of script) r.0 before now failed status fine five six
    (complete_report Script name budget bytes script c s r.0 h r.1) r.2
completes (Some (json name budget)) None left taken now failed status p five six = tt
completes (Some (json name budget)) (Some None) left taken now failed status p five six = tt
completes (Some (json name budget)) (Some (Some bytes)) None taken now failed status p five six = tt
completes (Some (json name budget)) (Some (Some bytes)) (Some script) None now failed status p five six = tt
completes (Some (json name budget)) (Some (Some bytes)) (Some script) (Some before) now failed status p five six = λ c s h fine.
    let r = (p (λ more. more)).1 (accepted c) h.program in
    answered_all Json (world_at c budget s) (lines_of script) r.0 before now failed status fine five six
    (complete_report Json name budget bytes script c s r.0 h r.1) r.2
