-- The printed entries of a history are taken again, and its page is shown.
use Rattle.std.proofs.Common.{◌≡◌, ℕ, suc, ◌+◌, ◌≤◌, List, [], ◌∷◌, ◌++◌, length, Some, inl, refl, sym, ◌∙◌, ap, subst, arith, append_assoc, append-nil, length-append}
use Rattle.std.specs.Prelude.{codes, decimal, false}
use Rattle.task_model.specs.Terms.Text.{Text}
use Rattle.task_model.specs.Terms.Tree.{State}
use Rattle.task_model.specs.Terms.Input.{EntryTerm}
use Rattle.task_model.specs.Terms.Item.{ItemTerm, opened, took}
use Rattle.task_model.specs.Running.Outcome.{taken}
use Rattle.task_model.specs.Showing.Page.{page_text}
use Rattle.task_model.specs.Checking.Accepted.{IsAccepted, typed_program}
use Rattle.task_model.specs.Terms.Program.{ProgramTerm}
use Rattle.task_model.specs.Syntax.Printed.{program_text}
use Rattle.task_model.specs.declared.widget.Face.TheVariants as faces
use Rattle.task_model.specs.Showing.Widget.{WidgetTerm, AreWidgets}
use Rattle.task_model.specs.Running.State.{IsSeat, AreEntries, IsPage, LeadTo, version_of}
use Rattle.world_core.specs.World.{WorldTerm, with_entry}
use Rattle.line_frame.specs.Told.{Told}
use Rattle.line_frame.specs.Script.{TellsScript, lines_in, end_of}
use Rattle.line_frame.specs.RanOut.{AreLines, framed}
use Rattle.line_frame.proofs.ScriptLemmas.{lines_all, end_all}
use Rattle.line_frame.specs.declared.finish.Finish.{Finish}
use Rattle.line_frame.specs.declared.finish.Finish.TheVariants.{Done}
use Rattle.input_lines.specs.EntryText.{entry_line}
use Rattle.input_lines.specs.ScriptLines.{IsScriptLine, show, shows, gives}
use Rattle.input_lines.proofs.SeatLemmas.{SeatShape, one, two, shape_of_seat}
use Rattle.command_words.specs.Commands.{run}
use Rattle.tophat.specs.Verdict.{accepted, IsVerdict}
use Rattle.world_answers.specs.declared.line_form.LineForm.TheVariants.{Script}
use Rattle.world_answers.specs.LineAnswers.{answer_text}
use Rattle.tophat.specs.Session.{Tells}
use Rattle.tophat.specs.Top.{limits, world, world_at, Reports}
use Rattle.history_lines.specs.EntryLines.{entries_text}
use Rattle.tophat.specs.Replay.{show_line, replay_script, taken_lines, replayed, AreShort, IsReplayable}
use Rattle.history_lines.specs.AskAgain.{AskAgain}
use Rattle.history_lines.proofs.SmallTrees.{legal_again}
use Rattle.tophat.proofs.EntryLines.{entry_is_line, show_is_line}

-- ---- the script's lines
abbrev entry_lines : List ItemTerm → List Text
entry_lines [] = []
entry_lines (opened p budget ∷ items) = entry_lines items
entry_lines (took e ∷ items) = entry_line e ∷ entry_lines items

abbrev replay_lines : List ItemTerm → ℕ → List Text
replay_lines items seat = entry_lines items ++ show_line seat ∷ []

script_framed : (items : List ItemTerm) (seat : ℕ) → replay_script items seat ≡ framed (replay_lines items seat)
script_framed [] seat = refl
script_framed (opened p budget ∷ items) seat = script_framed items seat
script_framed (took e ∷ items) seat =
    let last : Text = show_line seat ++ codes "\n" in
    append_assoc (entry_line e ++ codes "\n") (entries_text items) last
    ∙ append_assoc (entry_line e) (codes "\n") (entries_text items ++ last)
    ∙ ap (λ (z : Text). entry_line e ++ 10 ∷ z) (script_framed items seat)

are_lines : (items : List ItemTerm) (seat : ℕ) → AreEntries items → IsSeat seat → AreLines (replay_lines items seat)
are_lines [] seat h is = (show_is_line seat is, tt)
are_lines (opened p budget ∷ items) seat h is = absurd h
are_lines (took e ∷ items) seat h is = (entry_is_line e h.0, are_lines items seat h.1 is)

show_is : (seat : ℕ) → IsSeat seat → IsScriptLine (show_line seat) (shows seat)
show_is seat is = record { parse = show seat is; returned = false; are = sym (append-nil (show_line seat)); stands_for = refl }

show_within : (seat : ℕ) → IsSeat seat → length (show_line seat) ≤ 7
show_within seat is = go (shape_of_seat seat is)
  where
    go : SeatShape seat → length (show_line seat) ≤ 7
    go (one lt e) = let n = ap length e in omega (arith, n, length-append (decimal seat) (codes " show"))
    go (two le e) = let n = ap length e in omega (arith, n, length-append (decimal seat) (codes " show"))

-- ---- what is told of them
-- `taken` and the number of each of these entries, where so many were taken before
abbrev taken_after : ℕ → List ItemTerm → Text
taken_after k [] = []
taken_after k (opened p budget ∷ items) = []
taken_after k (took e ∷ items) = (codes "taken " ++ decimal (suc k) ++ codes "\n") ++ taken_after (suc k) items

version_more : (items : List ItemTerm) (e : EntryTerm) → version_of (items ++ took e ∷ []) ≡ suc (version_of items)
version_more [] e = refl
version_more (opened p budget ∷ items) e = version_more items e
version_more (took d ∷ items) e = ap suc (version_more items e)

module _ (longest seat : ℕ) (room : 7 ≤ longest) (is : IsSeat seat) (t : State) (ws : List WidgetTerm) (n : ℕ) where
  tells_items : (w : WorldTerm) (number : ℕ) (items : List ItemTerm) (k : ℕ) → AreEntries items → AskAgain items
      → AreShort longest items → LeadTo w.checked w.budget w.state items t → AreWidgets w.checked w.budget t.tree t.store ws
      → version_of w.history ≡ k
      → k + version_of items ≡ n
      → Tells Script longest w number (replay_lines items seat) Done (record
      { output = taken_after k items ++ page_text n seat ws; finish = Done })
  tells_items w number [] k h again short lead shown version all =
      let here : k ≡ n = omega (arith, all) in
      let le = show_within seat is in
      let widgets : AreWidgets w.checked w.budget w.state.tree w.state.store ws =
      subst (λ (z : State). AreWidgets w.checked w.budget z.tree z.store ws) lead shown in
      inl (record {
        asked = shows seat;
        is = (show_is seat is, omega (arith, le, room));
        text = page_text n seat ws;
        next = w;
        rest = record { output = []; finish = Done };
        answers = ((ws, widgets, ap (λ (v : ℕ). page_text v seat ws) (sym (version ∙ here))), refl);
        tells = refl;
        all = ap (λ (z : Text). record { output = z; finish = Done }) (sym (append-nil (page_text n seat ws)));
      })
  tells_items w number (opened p budget ∷ items) k h again short lead shown version all = absurd h
  tells_items w number (took e ∷ items) k h again short lead shown version all =
      let next : WorldTerm = with_entry w e lead.0 in
      let one_more : version_of next.history ≡ suc k = version_more w.history e ∙ ap suc version in
      let later : Text = taken_after (suc k) items in
      let page : Text = page_text n seat ws in
      let first : ℕ → Text = λ v. codes "taken " ++ decimal v ++ codes "\n" in
      inl (record {
        asked = gives e;
        is = (again.0, short.0);
        text = answer_text Script w e (taken lead.0);
        next = next;
        rest = record { output = later ++ page; finish = Done };
        answers = (taken lead.0, lead.1, refl, refl);
        tells = tells_items next (number + 1) items (suc k) h.1 again.1 short.1 lead.2 shown one_more (omega (arith, all));
        all = ap (λ (z : Text). record { output = z; finish = Done })
            (append_assoc (first (suc k)) later page ∙ ap (λ (v : ℕ). first v ++ (later ++ page)) (sym one_more));
      })

taken_sum : (k : ℕ) (items : List ItemTerm) → AreEntries items → taken_lines k ++ taken_after k items ≡ taken_lines (k + version_of items)
taken_sum k [] h = let same : k ≡ k + 0 = omega arith in append-nil (taken_lines k) ∙ ap taken_lines same
taken_sum k (opened p budget ∷ items) h = absurd h
taken_sum k (took e ∷ items) h =
    let same : suc k + version_of items ≡ k + suc (version_of items) = omega arith in
    sym (append_assoc (taken_lines k) (codes "taken " ++ decimal (suc k) ++ codes "\n") (taken_after (suc k) items))
    ∙ taken_sum (suc k) items h.1 ∙ ap taken_lines same

-- ---- what is told of the script
pub script_taken : (longest limit : ℕ) (w : WorldTerm) (items : List ItemTerm) (seat : ℕ) (t : State) (ws : List WidgetTerm) → 7 ≤ longest
    → IsSeat seat → AreEntries items → AskAgain items → AreShort longest items → LeadTo w.checked w.budget w.state items t
    → AreWidgets w.checked w.budget t.tree t.store ws → version_of w.history ≡ 0 → length (replay_script items seat) ≤ limit
    → TellsScript (Tells Script longest w 1) limit (replay_script items seat)
    (record { output = taken_lines (version_of items) ++ page_text (version_of items) seat ws; finish = Done })
unfolding TellsScript
script_taken longest limit w items seat t ws room is h again short lead shown none le =
    let script : Text = replay_script items seat in
    let lines : List Text = replay_lines items seat in
    let n : ℕ = version_of items in
    let page : Text = page_text n seat ws in
    let told : Told = record { output = taken_lines n ++ page; finish = Done } in
    let framing : script ≡ framed lines ++ [] = script_framed items seat ∙ sym (append-nil (framed lines)) in
    let cut : lines_in limit script ≡ lines =
    ap (lines_in limit) framing ∙ lines_all limit lines [] (are_lines items seat h is) tt
    (subst (λ (z : Text). length z ≤ limit) framing le)
    ∙ append-nil lines in
    let sum : 0 + n ≡ n = omega arith in
    let all : taken_after 0 items ≡ taken_lines n = taken_sum 0 items h ∙ ap taken_lines sum in
    let tells : Tells Script longest w 1 lines Done told =
    subst (λ (z : Text). Tells Script longest w 1 lines Done (record { output = z ++ page; finish = Done })) all
    (tells_items longest seat room is t ws n w 1 items 0 h again short lead shown none sum) in
    subst (λ (ls : List Text). Tells Script longest w 1 ls (end_of limit script) told) (sym cut)
    (subst (λ (f : Finish). Tells Script longest w 1 lines f told) (sym (end_all limit script le)) tells)

-- ---- reports
-- the printed program is accepted again
pub program_again : (p : ProgramTerm) (budget : ℕ) (items : List ItemTerm) (seat : ℕ) → IsReplayable limits p budget items seat
    → IsVerdict (program_text p) (accepted (typed_program p))
program_again p budget items seat h =
    let program : IsAccepted (typed_program p) = h.legal.2.1.0 in
    let written = program.written in (written.0, record { short = h.program; reading = written.1 }, program)

pub history_replayed : (name : Text) (p : ProgramTerm) (budget : ℕ) (items : List ItemTerm) (seat : ℕ) (page : Text)
    → IsReplayable limits p budget items seat → IsPage faces.Text (opened p budget ∷ items) seat page
    → Reports limits (Some (run name budget)) (Some (program_text p)) (accepted (typed_program p)) (replay_script items seat)
    (replayed items page)
history_replayed name p budget items seat page h (ws, (t, program, (s, opening, lead), widgets), is) =
    let w : WorldTerm = world_at (typed_program p) budget s in
    let n : ℕ = version_of items in
    let told : Told = record { output = taken_lines n ++ page_text n seat ws; finish = Done } in
    let tells : TellsScript (Tells Script limits.line w 1) limits.script (replay_script items seat) told =
    script_taken limits.line limits.script w items seat t ws (omega arith) h.seat_is h.legal.1 (legal_again p budget items h.legal) h.lines
    lead
    widgets refl h.script in
    inl (h.program, (world w, (s, opening, refl), (told, tells, ap (λ (z : Text). replayed items z) is)))
