-- A command has exactly one report.
use Rattle.std.proofs.Common.{◌≡◌, ℕ, List, length, Option, None, Some, inl, inr, refl, sym, ◌∙◌, ap, subst, arith}
use Rattle.std.proofs.lemmas.Bool.Decides.{leb_tells}
use Rattle.task_model.specs.Terms.Text.{Text}
use Rattle.task_laws.proofs.OutcomeLemmas.{Opens, opens, never_opens, opening_decided, opening_once}
use Rattle.world_core.specs.World.{WorldTerm}
use Rattle.line_frame.specs.Told.{Told}
use Rattle.line_frame.specs.Script.{TellsScript}
use Rattle.line_frame.specs.declared.finish.Finish.{Finish}
use Rattle.command_words.specs.Commands.{CommandTerm, run, check, soak, drill, serve, json, bound}
use Rattle.tophat.specs.declared.ending.CommandEnding.TheVariants.{Usage, Absent, FileTooLong, Unopened}
use Rattle.tophat.specs.declared.no_world.NoWorld.TheVariants.{Refused, OverBudget}
use Rattle.tophat.specs.Verdict.{Verdict, accepted, refused}
use Rattle.world_answers.specs.declared.line_form.LineForm.{LineForm}
use Rattle.world_answers.specs.declared.line_form.LineForm.TheVariants.{Script, Json}
use Rattle.tophat.specs.Session.{Tells}
use Rattle.tophat.specs.SoakReport.{TallyTerm, no_inputs, summary_text, IsSummary}
use Rattle.tophat.specs.Top.{Limits, NeedsMore, form_of, Report, ends, writes, reported, Opened, world, none, world_at, checks, soak_budget, OpensVerdict, ReportsFile, ReportsOpened, ReportsVerdict, ReportsTold, ReportsSoak, ReportsCommand, Reports, ReportsLines, runs, ReportsBound, bound_line}
use Rattle.stride_bound.proofs.ExistLemmas.{bound_exists, bound_once}
use Rattle.tophat.proofs.SessionLemmas.{script_exists, script_once, told_exists}
use Rattle.tophat.proofs.SoakLemmas.{soaks_exist, soaks_once}

-- ---- openings
pub opens_once : (budget : ℕ) (verdict : Verdict) (o p : Opened) → OpensVerdict budget verdict o → OpensVerdict budget verdict p → o ≡ p
opens_once budget (refused place refusal) o p d e = d ∙ sym e
opens_once budget (accepted q) (world w) (world v) d e =
    ap world (d.2 ∙ ap (world_at q budget) (opening_once q budget d.0 e.0 d.1 e.1) ∙ sym e.2)
opens_once budget (accepted q) (world w) (none ending) d e = absurd (e.0 d.0 d.1)
opens_once budget (accepted q) (none ending) (world w) d e = absurd (d.0 e.0 e.1)
opens_once budget (accepted q) (none ending) (none other) d e = ap none (d.1 ∙ sym e.1)

opens_exists : (budget : ℕ) (verdict : Verdict) → (o : Opened) × OpensVerdict budget verdict o
opens_exists budget (refused place refusal) = (none (Unopened (Refused place refusal)), refl)
opens_exists budget (accepted c) = by (opening_decided c budget)
  where
    by : Opens c budget → (o : Opened) × OpensVerdict budget (accepted c) o
    by (opens s o) = (world (world_at c budget s), (s, o, refl))
    by (never_opens never) = (none (Unopened OverBudget), (never, refl))

-- ---- one report, and there is one
abbrev Once : (Report → Type 0) → Type 0
Once Says = (r s : Report) → Says r → Says s → r ≡ s

abbrev There : (Report → Type 0) → Type 0
There Says = (r : Report) × Says r

file_once : (limit : ℕ) (file : Option Text) (Says : Report → Type 0) → Once Says → Once (ReportsFile limit file Says)
file_once limit None Says one r s d e = d ∙ sym e
file_once limit (Some bytes) Says one r s (inl d) (inl e) = one r s d.1 e.1
file_once limit (Some bytes) Says one r s (inl d) (inr e) = let le = d.0 in let lt = e.0 in absurd (omega arith)
file_once limit (Some bytes) Says one r s (inr d) (inl e) = let lt = d.0 in let le = e.0 in absurd (omega arith)
file_once limit (Some bytes) Says one r s (inr d) (inr e) = d.1 ∙ sym e.1

file_exists : (limit : ℕ) (file : Option Text) (Says : Report → Type 0) → There Says → There (ReportsFile limit file Says)
file_exists limit None Says some = (ends Absent, refl)
file_exists limit (Some bytes) Says some = elim (leb_tells (length bytes) limit) [
  | inl p ↦ (some.0, inl (p.1, some.1))
  | inr q ↦ (ends FileTooLong, inr (q.1, refl))
]

opened_once : (ReportsAt : WorldTerm → Report → Type 0) → ((w : WorldTerm) → Once (ReportsAt w)) → (o : Opened)
    → Once (ReportsOpened ReportsAt o)
opened_once ReportsAt one (world w) r s d e = one w r s d e
opened_once ReportsAt one (none ending) r s d e = d ∙ sym e

opened_exists : (ReportsAt : WorldTerm → Report → Type 0) → ((w : WorldTerm) → There (ReportsAt w)) → (o : Opened)
    → There (ReportsOpened ReportsAt o)
opened_exists ReportsAt some (world w) = some w
opened_exists ReportsAt some (none ending) = (ends ending, refl)

verdict_once : (budget : ℕ) (verdict : Verdict) (ReportsAt : WorldTerm → Report → Type 0) → ((w : WorldTerm) → Once (ReportsAt w))
    → Once (ReportsVerdict budget verdict ReportsAt)
verdict_once budget verdict ReportsAt one r s d e =
    let same = opens_once budget verdict d.0 e.0 d.1 e.1 in
    opened_once ReportsAt one e.0 r s (subst (λ (o : Opened). ReportsOpened ReportsAt o r) same d.2) e.2

verdict_exists : (budget : ℕ) (verdict : Verdict) (ReportsAt : WorldTerm → Report → Type 0) → ((w : WorldTerm) → There (ReportsAt w))
    → There (ReportsVerdict budget verdict ReportsAt)
verdict_exists budget verdict ReportsAt some =
    let o = opens_exists budget verdict in
    let r = opened_exists ReportsAt some o.0 in
    (r.0, (o.0, o.1, r.1))

told_reported_once : (TellsAt : WorldTerm → Told → Type 0) → ((w : WorldTerm) (t u : Told) → TellsAt w t → TellsAt w u → t ≡ u)
    → (w : WorldTerm) → Once (ReportsTold TellsAt w)
told_reported_once TellsAt one w r s d e = d.2 ∙ ap reported (one w d.0 e.0 d.1 e.1) ∙ sym e.2

told_reported : (TellsAt : WorldTerm → Told → Type 0) → ((w : WorldTerm) → (t : Told) × TellsAt w t) → (w : WorldTerm)
    → There (ReportsTold TellsAt w)
told_reported TellsAt some w = let t = some w in (reported t.0, (t.0, t.1, refl))

summary_once : (count seed : ℕ) (w : WorldTerm) (a b : Text) → IsSummary count seed w a → IsSummary count seed w b → a ≡ b
summary_once count seed w a b d e =
    let same = soaks_once count seed w no_inputs d.0 e.0 d.1 e.1 d.2 e.2 in
    d.3 ∙ ap (λ (z : WorldTerm). summary_text count d.1 z) same.0 ∙ ap (λ (z : TallyTerm). summary_text count z e.0) same.1 ∙ sym e.3

pub soak_once : (count seed : ℕ) (w : WorldTerm) → Once (ReportsSoak count seed w)
soak_once count seed w r s d e =
    d.2 ∙ ap writes (summary_once count seed w d.0 e.0 d.1 e.1) ∙ sym e.2

soak_exists : (count seed : ℕ) (w : WorldTerm) → There (ReportsSoak count seed w)
soak_exists count seed w = let u = soaks_exist count seed w no_inputs in
    (writes (summary_text count u.1 u.0), (summary_text count u.1 u.0, (u.0, u.1, u.2, refl), refl))

pub bound_reported_once : (verdict : Verdict) → Once (ReportsBound verdict)
bound_reported_once (accepted c) r s d e =
    d.2 ∙ ap (λ o. writes (bound_line o)) (bound_once c.program d.0 e.0 d.1 e.1) ∙ sym e.2
bound_reported_once (refused place refusal) r s d e = d ∙ sym e

bound_reported : (verdict : Verdict) → There (ReportsBound verdict)
bound_reported (accepted c) = let found = bound_exists c.program in (writes (bound_line found.0), (found.0, found.1, refl))
bound_reported (refused place refusal) = (ends (Unopened (Refused place refusal)), refl)

-- ---- commands
pub soak_verdict_once : (count seed : ℕ) (verdict : Verdict) → Once (ReportsVerdict soak_budget verdict (ReportsSoak count seed))
soak_verdict_once count seed verdict = verdict_once soak_budget verdict (ReportsSoak count seed) (soak_once count seed)

command_once : (l : Limits) (command : Option CommandTerm) (file : Option Text) (verdict : Verdict) (TellsAt : WorldTerm → Told → Type 0)
    → ((w : WorldTerm) (t u : Told) → TellsAt w t → TellsAt w u → t ≡ u) → Once (ReportsCommand l command file verdict TellsAt)
command_once l None file verdict TellsAt one r s d e = d ∙ sym e
command_once l (Some (run name budget)) file verdict TellsAt one r s d e =
    file_once l.file file (ReportsVerdict budget verdict (ReportsTold TellsAt))
    (verdict_once budget verdict (ReportsTold TellsAt) (told_reported_once TellsAt one)) r s d e
command_once l (Some (json name budget)) file verdict TellsAt one r s d e =
    file_once l.file file (ReportsVerdict budget verdict (ReportsTold TellsAt))
    (verdict_once budget verdict (ReportsTold TellsAt) (told_reported_once TellsAt one)) r s d e
command_once l (Some (check name)) file verdict TellsAt one r s d e =
    file_once l.file file (λ z. z ≡ checks verdict) (λ a b p q. p ∙ sym q) r s d e
command_once l (Some (soak count seed)) file verdict TellsAt one r s d e = soak_verdict_once count seed verdict r s d e
command_once l (Some (drill seats each)) file verdict TellsAt one r s d e = absurd d
command_once l (Some (serve name serving)) file verdict TellsAt one r s d e = absurd d
command_once l (Some (bound name)) file verdict TellsAt one r s d e =
    file_once l.file file (ReportsBound verdict) (bound_reported_once verdict) r s d e

command_reported : (l : Limits) (command : Option CommandTerm) (file : Option Text) (verdict : Verdict)
    (TellsAt : WorldTerm → Told → Type 0) → (NeedsMore command → ⊥)
    → ((w : WorldTerm) → (t : Told) × TellsAt w t) → There (ReportsCommand l command file verdict TellsAt)
command_reported l None file verdict TellsAt plain some = (ends Usage, refl)
command_reported l (Some (run name budget)) file verdict TellsAt plain some =
    file_exists l.file file (ReportsVerdict budget verdict (ReportsTold TellsAt))
    (verdict_exists budget verdict (ReportsTold TellsAt) (told_reported TellsAt some))
command_reported l (Some (json name budget)) file verdict TellsAt plain some =
    file_exists l.file file (ReportsVerdict budget verdict (ReportsTold TellsAt))
    (verdict_exists budget verdict (ReportsTold TellsAt) (told_reported TellsAt some))
command_reported l (Some (check name)) file verdict TellsAt plain some = file_exists l.file file (λ z. z ≡ checks verdict) (checks verdict, refl)
command_reported l (Some (soak count seed)) file verdict TellsAt plain some =
    verdict_exists soak_budget verdict (ReportsSoak count seed) (soak_exists count seed)
command_reported l (Some (drill seats each)) file verdict TellsAt plain some = absurd (plain tt)
command_reported l (Some (serve name serving)) file verdict TellsAt plain some = absurd (plain tt)
command_reported l (Some (bound name)) file verdict TellsAt plain some =
    file_exists l.file file (ReportsBound verdict) (bound_reported verdict)

pub report_once : (l : Limits) (command : Option CommandTerm) (file : Option Text) (verdict : Verdict) (script : Text) (r s : Report)
    → Reports l command file verdict script r → Reports l command file verdict script s → r ≡ s
report_once l command file verdict script r s d e =
    command_once l command file verdict (λ w told. TellsScript (Tells (form_of command) l.line w 1) l.script script told)
    (λ w t u p q. script_once (form_of command) l.line l.script w script t u p q) r s d e

pub report_exists : (l : Limits) (command : Option CommandTerm) (file : Option Text) (verdict : Verdict) (script : Text)
    → (NeedsMore command → ⊥) → (r : Report) × Reports l command file verdict script r
report_exists l command file verdict script plain =
    command_reported l command file verdict (λ w told. TellsScript (Tells (form_of command) l.line w 1) l.script script told) plain
    (λ w. script_exists (form_of command) l.line l.script w script)

-- of a command that needs more nothing is reported
pub nothing_reported : (l : Limits) (command : Option CommandTerm) (file : Option Text) (verdict : Verdict) (script : Text)
    (report : Report) → NeedsMore command → Reports l command file verdict script report → ⊥
nothing_reported l None file verdict script report more d = more
nothing_reported l (Some (run name budget)) file verdict script report more d = more
nothing_reported l (Some (json name budget)) file verdict script report more d = more
nothing_reported l (Some (check name)) file verdict script report more d = more
nothing_reported l (Some (soak count seed)) file verdict script report more d = more
nothing_reported l (Some (drill seats each)) file verdict script report more d = d
nothing_reported l (Some (serve name serving)) file verdict script report more d = d
nothing_reported l (Some (bound name)) file verdict script report more d = more

-- the same of lines
pub lines_reported : (l : Limits) (command : Option CommandTerm) (file : Option Text) (verdict : Verdict) (lines : List Text)
    (finish : Finish)
    → (NeedsMore command → ⊥) → (r : Report) × ReportsLines l command file verdict lines finish r
lines_reported l command file verdict lines finish plain =
    command_reported l command file verdict (λ w told. Tells (form_of command) l.line w 1 lines finish told) plain (λ w. told_exists (form_of command) l.line w 1 lines finish)

-- what is reported of a command that runs lines of a form
pub lines_reported_of : (form : LineForm) (l : Limits) (name : Text) (budget : ℕ) (file : Option Text) (verdict : Verdict) (script : Text)
    (report : Report) → Reports l (Some (runs form name budget)) file verdict script report
    → ReportsFile l.file file (ReportsVerdict budget verdict (ReportsTold (λ w told. TellsScript (Tells form l.line w 1) l.script script told))) report
lines_reported_of Script l name budget file verdict script report d = d
lines_reported_of Json l name budget file verdict script report d = d

pub lines_read_of : (form : LineForm) (l : Limits) (name : Text) (budget : ℕ) (file : Option Text) (verdict : Verdict) (lines : List Text)
    (finish : Finish) (report : Report) → ReportsLines l (Some (runs form name budget)) file verdict lines finish report
    → ReportsFile l.file file (ReportsVerdict budget verdict (ReportsTold (λ w told. Tells form l.line w 1 lines finish told))) report
lines_read_of Script l name budget file verdict lines finish report d = d
lines_read_of Json l name budget file verdict lines finish report d = d
