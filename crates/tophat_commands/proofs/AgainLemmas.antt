-- What was served is run again to the same page.
use Rattle.std.proofs.Common.{◌≡◌, inl, ℕ, List, ◌∷◌, ◌++◌, Some, sym, ap, ◌∙◌, refl, subst, arith}
use mathlib.Core.List.{IsPrefix}
use Rattle.line_frame.specs.Script.{TellsScript}
use Rattle.line_frame.specs.Told.{Told}
use Rattle.line_frame.specs.declared.finish.Finish.TheVariants.{Done}
use Rattle.task_model.specs.Showing.Page.{page_text}
use Rattle.task_model.specs.Terms.Text.{Text}
use Rattle.task_model.specs.Terms.Item.{ItemTerm, opened}
use Rattle.task_model.specs.Running.Checked.{CheckedTerm}
use Rattle.task_model.specs.Running.State.{IsLegal, IsPage, version_of}
use Rattle.task_model.specs.Checking.Accepted.{typed_program}
use Rattle.task_model.specs.declared.widget.Face.TheVariants as faces
use Rattle.command_words.specs.Commands.{run}
use Rattle.world_core.specs.World.{WorldTerm}
use Rattle.world_core.proofs.WorldLemmas.{typed_alone}
use Rattle.tophat.specs.Replay.{replay_script, replayed, taken_lines}
use Rattle.world_answers.specs.declared.line_form.LineForm.TheVariants.{Script}
use Rattle.tophat.specs.Session.{Tells}
use Rattle.tophat.specs.Top.{Reports, limits, world, world_at}
use Rattle.tophat.specs.Verdict.{IsVerdict, accepted}
use Rattle.tophat.proofs.ReplayLemmas.{script_taken}
use Rattle.history_lines.proofs.SmallTrees.{legal_again}
use Rattle.tophat_commands.specs.Again.{IsWithinRun, IsRunAgain}
use Rattle.tophat_commands.specs.ServedFiles.{IsOpenedOf}

run_again : (name bytes : Text) (budget : ℕ) (c : CheckedTerm) (items : List ItemTerm) (seat : ℕ) (page : Text)
    → IsVerdict bytes (accepted c) → IsLegal (opened c.program budget ∷ items)
    → IsWithinRun limits bytes (opened c.program budget ∷ items) seat → IsPage faces.Text (opened c.program budget ∷ items) seat page
    → Reports limits (Some (run name budget)) (Some bytes) (accepted c) (replay_script items seat) (replayed items page)
run_again name bytes budget c items seat page v legal within (ws, (t, program, (s, opening, lead), widgets), is) =
    let d : CheckedTerm = typed_program c.program in
    let w : WorldTerm = world_at d budget s in
    let told : Told = record { output = taken_lines (version_of items) ++ page_text (version_of items) seat ws; finish = Done } in
    let tells : TellsScript (Tells Script limits.line w 1) limits.script (replay_script items seat) told =
    script_taken limits.line limits.script w items seat t ws (omega arith) within.seat_is legal.1
    (legal_again c.program budget items legal) within.lines lead widgets refl within.script in
    subst (λ (z : CheckedTerm). Reports limits (Some (run name budget)) (Some bytes) (accepted z) (replay_script items seat)
    (replayed items page)) (sym (typed_alone c v.2))
    (inl (within.program, (world w, (s, opening, refl), (told, tells, ap (λ (z : Text). replayed items z) is))))

pub served_again : (name bytes : Text) (budget : ℕ) (start history : List ItemTerm) (seat : ℕ) (page : Text) → IsOpenedOf budget bytes start
    → IsLegal history → IsPrefix start history → IsWithinRun limits bytes history seat → IsPage faces.Text history seat page
    → IsRunAgain limits name bytes budget history seat page
served_again name bytes budget start history seat page o legal begins within shown =
    let c : CheckedTerm = o.checked in
    let rest : List ItemTerm = begins.0 in
    let is : history ≡ opened c.program budget ∷ rest = sym begins.1 ∙ ap (λ (h : List ItemTerm). h ++ rest) o.opening in
    let again = run_again name bytes budget c rest seat page o.verdict.is (subst IsLegal is legal)
    (subst (λ (h : List ItemTerm). IsWithinRun limits bytes h seat) is within)
    (subst (λ (h : List ItemTerm). IsPage faces.Text h seat page) is shown) in
    record {
      checked = c;
      verdict = o.verdict.is;
      report = subst (λ (h : List ItemTerm). Reports limits (Some (run name budget)) (Some bytes) (accepted c) (replay_script h seat)
          (replayed h page)) (sym is) again;
    }
