-- What a status says of the end, and of what was written.
use Rattle.std.proofs.Common.{◌≡◌, ℕ, [], ◌++◌, Option, None, Some, ◌⊎◌, inl, inr, refl, sym, subst, arith}
use Rattle.task_model.specs.Terms.Text.{Text}
use Rattle.world_core.specs.World.{WorldTerm}
use Rattle.line_frame.specs.Told.{Told}
use Rattle.line_frame.specs.Script.{TellsScript}
use Rattle.line_frame.specs.declared.finish.Finish.TheVariants as finishes
use Rattle.command_words.specs.Commands.{CommandTerm, run, check, soak, drill, serve, json, bound}
use Rattle.tophat.specs.declared.ending.CommandEnding.{CommandEnding}
use Rattle.tophat.specs.declared.ending.CommandEnding.TheVariants.{Usage, Absent, FileTooLong, Unopened, Ran, Wrote, WriteFault, GateFault}
use Rattle.tophat.specs.declared.no_world.NoWorld.TheVariants.{Refused, OverBudget, Memory}
use Rattle.tophat.specs.declared.refusal.Refusal.{Refusal}
use Rattle.tophat.specs.Ending.{status_of}
use Rattle.tophat.specs.Verdict.{Verdict, accepted, refused, IsVerdictOf}
use Rattle.world_answers.specs.declared.line_form.LineForm.TheVariants.{Script, Json}
use Rattle.tophat.specs.Session.{Tells}
use Rattle.tophat.specs.Top.{Limits, Report, ends, writes, reported, source_of, Opened, world, none, checks, ReportsFile, ReportsOpened, ReportsVerdict, ReportsTold, ReportsSoak, Reports, ReportsBound}
use Rattle.tophat.specs.Worked.{IfSilent}
use Rattle.tophat.specs.Promise.{IsCutShort, WritesReport, Promised}
use Rattle.tophat.proofs.ReportLemmas.{report_once}

-- ---- all that is reported was written
written_whole : (report : Report) (before : Text) (now : Option Text) (status : ℕ) → (IsCutShort status → ⊥)
    → WritesReport report before now status → (status ≡ status_of report.ending) × (now ≡ Some (before ++ report.output))
written_whole report before now status fine (inl p) = p
written_whole report before now status fine (inr q) = absurd (fine q.0)

pub all_written : (l : Limits) (command : Option CommandTerm) (file : Option Text) (script before : Text) (now : Option Text) (status : ℕ)
    → Promised l command (Some file) (Some script) (Some before) now status → (IsCutShort status → ⊥) → (verdict : Verdict)
    → IsVerdictOf (source_of command file) verdict → (report : Report) → Reports l command file verdict script report
    → (status ≡ status_of report.ending) × (now ≡ Some (before ++ report.output))
all_written l command file script before now status told fine verdict v report reports =
    let r = told.1 verdict v in
    let same = report_once l command file verdict script r.0 report r.1 reports in
    written_whole report before now status fine (subst (λ (z : Report). WritesReport z before now status) same r.2)

-- ---- the ends of each status
pub ends_0 : (ending : CommandEnding) → status_of ending ≡ 0 → (ending ≡ Ran finishes.Done) ⊎ (ending ≡ Wrote)
ends_0 (Ran finishes.Done) e = inl refl
ends_0 Wrote e = inr refl
ends_0 (Unopened (Refused place refusal)) e = absurd (omega arith)
ends_0 (Unopened OverBudget) e = absurd (omega arith)
ends_0 (Unopened Memory) e = absurd (omega arith)
ends_0 ending e = absurd (omega arith)

pub ends_1 : (ending : CommandEnding) → status_of ending ≡ 1 → (place : ℕ) × (refusal : Refusal) × (ending ≡ Unopened (Refused place refusal))
ends_1 (Unopened (Refused place refusal)) e = (place, refusal, refl)
ends_1 (Unopened OverBudget) e = absurd (omega arith)
ends_1 (Unopened Memory) e = absurd (omega arith)
ends_1 (Ran finishes.Done) e = absurd (omega arith)
ends_1 ending e = absurd (omega arith)

pub ends_3 : (ending : CommandEnding) → status_of ending ≡ 3 → (line : ℕ) × (column : ℕ) × (ending ≡ Ran (finishes.Bad line column))
ends_3 (Ran (finishes.Bad line column)) e = (line, column, refl)
ends_3 (Unopened (Refused place refusal)) e = absurd (omega arith)
ends_3 (Unopened OverBudget) e = absurd (omega arith)
ends_3 (Unopened Memory) e = absurd (omega arith)
ends_3 ending e = absurd (omega arith)

pub ends_4 : (ending : CommandEnding) → status_of ending ≡ 4 → ending ≡ Unopened OverBudget
ends_4 (Unopened OverBudget) e = refl
ends_4 (Unopened (Refused place refusal)) e = absurd (omega arith)
ends_4 (Unopened Memory) e = absurd (omega arith)
ends_4 (Ran finishes.Done) e = absurd (omega arith)
ends_4 ending e = absurd (omega arith)

pub ends_7 : (ending : CommandEnding) → status_of ending ≡ 7 → (ending ≡ Absent) ⊎ ((ending ≡ FileTooLong) ⊎ (ending ≡ Ran finishes.InputTooLong))
ends_7 Absent e = inl refl
ends_7 FileTooLong e = inr (inl refl)
ends_7 (Ran finishes.InputTooLong) e = inr (inr refl)
ends_7 (Unopened (Refused place refusal)) e = absurd (omega arith)
ends_7 (Unopened OverBudget) e = absurd (omega arith)
ends_7 (Unopened Memory) e = absurd (omega arith)
ends_7 ending e = absurd (omega arith)

pub ends_8 : (ending : CommandEnding) → status_of ending ≡ 8 → (ending ≡ Unopened Memory) ⊎ (ending ≡ Ran finishes.Memory)
ends_8 (Unopened Memory) e = inl refl
ends_8 (Ran finishes.Memory) e = inr refl
ends_8 (Unopened (Refused place refusal)) e = absurd (omega arith)
ends_8 (Unopened OverBudget) e = absurd (omega arith)
ends_8 ending e = absurd (omega arith)

pub ends_9 : (ending : CommandEnding) → status_of ending ≡ 9 → ending ≡ GateFault
ends_9 GateFault e = refl
ends_9 (Unopened (Refused place refusal)) e = absurd (omega arith)
ends_9 (Unopened OverBudget) e = absurd (omega arith)
ends_9 (Unopened Memory) e = absurd (omega arith)
ends_9 (Ran finishes.Done) e = absurd (omega arith)
ends_9 ending e = absurd (omega arith)

-- ---- ends at which no output is reported
abbrev IsSilent : Report → Type 0
IsSilent report = IfSilent report.ending (report.output ≡ [])

none_written : (ending : CommandEnding) → IsSilent (ends ending)
none_written (Ran finish) = tt
none_written Wrote = tt
none_written WriteFault = tt
none_written ending = refl

at_end : (report : Report) (ending : CommandEnding) → report ≡ ends ending → IsSilent report
at_end report ending e = subst IsSilent (sym e) (none_written ending)

at_text : (report : Report) (text : Text) → report ≡ writes text → IsSilent report
at_text report text e = subst IsSilent (sym e) tt

at_told : (report : Report) (told : Told) → report ≡ reported told → IsSilent report
at_told report told e = subst IsSilent (sym e) tt

at_checks : (verdict : Verdict) (report : Report) → report ≡ checks verdict → IsSilent report
at_checks (accepted c) report e = at_text report _ e
at_checks (refused place refusal) report e = at_end report _ e

at_bound : (verdict : Verdict) (report : Report) → ReportsBound verdict report → IsSilent report
at_bound (accepted c) report d = at_text report _ d.2
at_bound (refused place refusal) report e = at_end report _ e

at_file : (limit : ℕ) (file : Option Text) (Says : Report → Type 0) (report : Report) → (Says report → IsSilent report)
    → ReportsFile limit file Says report → IsSilent report
at_file limit None Says report says e = at_end report Absent e
at_file limit (Some bytes) Says report says (inl d) = says d.1
at_file limit (Some bytes) Says report says (inr d) = at_end report FileTooLong d.1

at_opened : (ReportsAt : WorldTerm → Report → Type 0) (report : Report) → ((w : WorldTerm) → ReportsAt w report → IsSilent report)
    → (o : Opened) → ReportsOpened ReportsAt o report → IsSilent report
at_opened ReportsAt report says (world w) r = says w r
at_opened ReportsAt report says (none ending) r = at_end report ending r

silent_lines : (l : Limits) (file : Option Text) (verdict : Verdict) (budget : ℕ) (TellsAt : WorldTerm → Told → Type 0) (report : Report)
    → ReportsFile l.file file (ReportsVerdict budget verdict (ReportsTold TellsAt)) report → IsSilent report
silent_lines l file verdict budget TellsAt report e =
    at_file l.file file (ReportsVerdict budget verdict (ReportsTold TellsAt)) report
    (λ d. at_opened (ReportsTold TellsAt) report (λ w t. at_told report t.0 t.2) d.0 d.2) e

pub silent_ends : (l : Limits) (command : Option CommandTerm) (file : Option Text) (verdict : Verdict) (script : Text) (report : Report)
    → Reports l command file verdict script report → IsSilent report
silent_ends l None file verdict script report e = at_end report Usage e
silent_ends l (Some (run name budget)) file verdict script report e =
    silent_lines l file verdict budget (λ w told. TellsScript (Tells Script l.line w 1) l.script script told) report e
silent_ends l (Some (json name budget)) file verdict script report e =
    silent_lines l file verdict budget (λ w told. TellsScript (Tells Json l.line w 1) l.script script told) report e
silent_ends l (Some (check name)) file verdict script report e =
    at_file l.file file (λ r. r ≡ checks verdict) report (at_checks verdict report) e
silent_ends l (Some (soak count seed)) file verdict script report e =
    at_opened (ReportsSoak count seed) report (λ w t. at_text report t.0 t.2) e.0 e.2
silent_ends l (Some (drill seats each)) file verdict script report e = absurd e
silent_ends l (Some (serve name serving)) file verdict script report e = absurd e
silent_ends l (Some (bound name)) file verdict script report e =
    at_file l.file file (ReportsBound verdict) report (at_bound verdict report) e
