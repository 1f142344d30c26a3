-- What a command did, from what its calls did.
use Rattle.std.proofs.Common.{◌≡◌, ℕ, ◌+◌, ◌<◌, ◌≤◌, List, [], length, replicate, Option, None, Some, refl, sym, ◌∙◌, ap, subst, inl, inr, ◌⊎◌, arith, append-nil}
use Rattle.std.proofs.lemmas.List.{length-replicate}
use Rattle.std.proofs.KnownBytes.{Appends-nil, Consumes-nil}
use Rattle.std.specs.Io.KnownBytes.{Appends}
use Rattle.std.specs.Prelude.{Ok, Err}
use Rattle.outer_io.specs.Causes.{Rose, next_count}
use Rattle.outer_io.specs.Files.{AnswersFile}
use Rattle.outer_io.specs.Sink.{IsStart}
use Rattle.outer_io.specs.Sink as sinks
use Rattle.outer_io.specs.declared.files.FileAnswer.TheVariants.{Bytes, TooLong}
use Rattle.outer_io.specs.declared.files.FileAnswer.TheVariants as answers
use Rattle.outer_io.specs.declared.sink.Written.{Written}
use Rattle.outer_io.specs.declared.sink.Written.TheVariants.{Whole, Failed}
use Rattle.task_model.specs.Terms.Rowed.{Rowed}
use Rattle.task_model.specs.Terms.Text.{Text}
use Rattle.task_syntax.specs.declared.stop.ReadKind.TheVariants as reads
use Rattle.world_core.specs.World.{WorldTerm, SeenWorld, world_term}
use Rattle.line_frame.specs.Told.{Told, Comes}
use Rattle.line_frame.specs.RanScript.{RanScript, IsTold}
use Rattle.line_frame.specs.Script.{TellsScript, cut_of}
use Rattle.line_frame.specs.declared.finish.Finish.{Finish}
use Rattle.line_frame.specs.declared.finish.Finish.TheVariants as finishes
use Rattle.tophat.specs.declared.ending.CommandEnding.{CommandEnding}
use Rattle.tophat.specs.declared.ending.CommandEnding.TheVariants.{Usage, Absent, FileTooLong, FileFault, Unopened, Ran, Wrote, WriteFault, GateFault}
use Rattle.tophat.specs.declared.no_world.NoWorld.{NoWorld}
use Rattle.tophat.specs.declared.no_world.NoWorld.TheVariants.{Refused, OverBudget, Memory}
use Rattle.tophat.specs.declared.refusal.Refusal.TheVariants.{Read}
use Rattle.command_words.specs.Commands.{CommandTerm, check, soak, IsAsked, run, bound}
use Rattle.command_words.specs.declared.stop.WordStop.{WordStop}
use Rattle.command_words.specs.declared.stop.WordStop.TheVariants as words
use Rattle.input_lines.specs.Soak.{soak_text}
use Rattle.tophat.specs.Ending.{status_of}
use Rattle.task_model.specs.Running.Checked.{CheckedTerm}
use Rattle.task_model.specs.Syntax.Printed.{program_text}
use Rattle.tophat.specs.Verdict.{Verdict, accepted, refused, IsVerdict, IsOnlyVerdict, Judges, IsVerdictOf, HasVerdict}
use Rattle.world_answers.specs.declared.line_form.LineForm.{LineForm}
use Rattle.world_answers.specs.declared.line_form.LineForm.TheVariants.{Script, Json}
use Rattle.tophat.specs.Session.{Tells}
use Rattle.tophat.specs.Top.{Limits, limits, Report, ends, writes, reported, source_of, soak_budget, Opened, world, none, checks, ReportsFile, ReportsOpened, ReportsVerdict, ReportsTold, Reports, ReportsLines, runs, bound_line, ReportsBound}
use Rattle.tophat.specs.Sources.{FindsFile, WritesText, TellsText, ReportsCheck, ReportsInputs, ReportsBounded}
use Rattle.stride_bound.specs.Bounds.{IsBound}
use Rattle.stride_bound.specs.declared.bounds.Bound.{Bound}
use Rattle.tophat.specs.Objects.{Counted, Around}
use Rattle.tophat.specs.Ended.{Heard, NoneFailed, FailedBy, HasRisen, file_faults_after, input_faults_after, output_faults_after}
use Rattle.tophat.specs.Worked.{IsFile, IfRan, Writes, HasVerdictAt, HasVerdictAfter, Worked, Opens, OpensBytes, word_ending}
use Rattle.tophat.specs.SoakReport.{IsSummary}
use Rattle.tophat.proofs.ReportLemmas.{opens_once, soak_verdict_once, lines_reported_of, lines_read_of, bound_reported_once}

-- ---- what was written of a report
pub writes_nothing : (report : Report) (ending : CommandEnding) → report ≡ ends ending → Writes report [] ending
writes_nothing report FileFault e = (report.output, refl)
writes_nothing report (Unopened Memory) e = (report.output, refl)
writes_nothing report (Ran finishes.ReadFault) e = (report.output, refl)
writes_nothing report (Ran finishes.WriteFault) e = (report.output, refl)
writes_nothing report (Ran finishes.Memory) e = (report.output, refl)
writes_nothing report WriteFault e = (report.output, refl)
writes_nothing report ending e = e

starts_told : (told : Told) (written : Text) (report : Report) → report ≡ reported told → IsStart written told.output
    → IsStart written report.output
starts_told told written report e c = (c.0, ap (λ (z : Report). z.output) e ∙ c.1)

writes_told : (told : Told) (written : Text) (finish : Finish) (report : Report) → report ≡ reported told → Comes told written finish
    → Writes report written (Ran finish)
writes_told told written finishes.ReadFault report e c = starts_told told written report e c
writes_told told written finishes.WriteFault report e c = starts_told told written report e c
writes_told told written finishes.Memory report e c = starts_told told written report e c
writes_told told written finish report e c = e ∙ ap reported c

-- ---- files
-- a file that is known, or any
known_file : (holds : Option (Option Text)) → (file : Option Text) × IsFile holds file
known_file None = (None, tt)
known_file (Some file) = (file, refl)

-- a script that is known, or the empty one
known_script : (left : Option Text) → (script : Text) × IsTold left script
known_script None = ([], tt)
known_script (Some script) = (script, refl)

pub found_bytes : (holds : Option (Option Text)) (limit : ℕ) (bytes : Rowed ℕ) → AnswersFile holds limit (Bytes bytes)
    → IsFile holds (Some bytes.list)
found_bytes None limit bytes f = tt
found_bytes (Some known) limit bytes f = f

pub found_absent : (holds : Option (Option Text)) (limit : ℕ) → AnswersFile holds limit answers.Absent → IsFile holds None
found_absent None limit f = tt
found_absent (Some known) limit f = f

pub found_over : (holds : Option (Option Text)) (limit : ℕ) → AnswersFile holds limit TooLong
    → (bytes : Text) × (limit < length bytes) × IsFile holds (Some bytes)
found_over None limit f =
    let long = length-replicate {A = ℕ} (limit + 1) 0 in
    (replicate (limit + 1) 0, omega (arith, long), tt)
found_over (Some known) limit p = (p.0, p.2, p.1)

-- a file over the limit of programs is too long for one
over_readable : (bytes : Text) → 1048576 < length bytes → HasVerdict (Some bytes)
over_readable bytes lt = (refused 1048576 (Read reads.TooLong), (lt, refl))

-- ---- commands
-- nothing of the input was read, and this was written
worked_still : (l : Limits) (command : Option CommandTerm) (holds : Option (Option Text)) (left old new : Option Text) (written : Text)
    (ending : CommandEnding) (file : Option Text)
    → IsFile holds file → Appends old new written → HasVerdictAt ending (source_of command file)
    → ((fact : Finish → Type 0) → IfRan ending fact)
    → ((verdict : Verdict) → IsVerdictOf (source_of command file) verdict → (script : Text) (report : Report)
    → Reports l command file verdict script report
    → Writes report written ending)
    → Worked l command holds left left old new ending
worked_still l command holds left old new written ending file is took verdict_is not_run comes =
    let s = known_script left in
    let other : (finish : Finish) → ending ≡ Ran finish → ⊥ =
    λ finish e. subst (λ (z : CommandEnding). IfRan z (λ f. ⊥)) e (not_run (λ f. ⊥)) in
    record {
      file = file;
      script = s.0;
      read = [];
      earlier = [];
      last = [];
      written = written;
      file_told = is;
      script_told = s.1;
      begins = (s.0, refl);
      consumed = Consumes-nil left;
      took = took;
      verdict_is = verdict_is;
      comes = λ verdict h report d. comes verdict h s.0 report d;
      answered = λ e. absurd (other finishes.ReadFault e);
      pieces = not_run _;
      in_time = λ verdict h report d. not_run _;
      ran_out = λ e. absurd (other finishes.Memory e);
    }

-- words outside the grammar
pub worked_usage : (l : Limits) (holds : Option (Option Text)) (left out : Option Text) → Worked l None holds left left out out Usage
worked_usage l holds left out =
    let k = known_file holds in
    worked_still l None holds left out out [] Usage k.0 k.1 (Appends-nil out) tt (λ fact. tt) (λ verdict h script report d. d)

-- memory ran out before anything was written
pub worked_memory : (l : Limits) (command : Option CommandTerm) (holds : Option (Option Text)) (left out : Option Text)
    → Worked l command holds left left out out (Unopened Memory)
worked_memory l command holds left out =
    let k = known_file holds in
    worked_still l command holds left out out [] (Unopened Memory) k.0 k.1 (Appends-nil out) tt (λ fact. tt)
    (λ verdict h script report d. (report.output, refl))

-- the words ask for no command
pub worked_words : (l : Limits) (command : Option CommandTerm) (holds : Option (Option Text)) (left out : Option Text) (stop : WordStop)
    → IsAsked command (Err stop) → Worked l command holds left left out out (word_ending stop)
worked_words l command holds left out words.Outside e =
    subst (λ (k : Option CommandTerm). Worked l k holds left left out out Usage) (sym e) (worked_usage l holds left out)
worked_words l command holds left out words.Memory a = worked_memory l command holds left out

-- ---- files that end a command
-- a command that asks for a file, and what it reports of bytes
pub record AsksFile (l : Limits) (command : Option CommandTerm) : Type 1 where
  pub Says : Verdict → Text → Report → Type 0
  pub source : (file : Option Text) → source_of command file ≡ file
  pub reports : (file : Option Text) (verdict : Verdict) (script : Text) (report : Report) → Reports l command file verdict script report
      → ReportsFile l.file file (Says verdict script) report

-- a command that runs lines has the file's program
pub runs_source : (form : LineForm) (name : Text) (budget : ℕ) (file : Option Text) → source_of (Some (runs form name budget)) file ≡ file
runs_source Script name budget file = refl
runs_source Json name budget file = refl

pub run_asks : (form : LineForm) (l : Limits) (name : Text) (budget : ℕ) → AsksFile l (Some (runs form name budget))
run_asks form l name budget = record {
  Says = λ verdict script. ReportsVerdict budget verdict (ReportsTold (λ w told. TellsScript (Tells form l.line w 1) l.script script told));
  source = runs_source form name budget;
  reports = λ file verdict script report d. lines_reported_of form l name budget file verdict script report d;
}

pub check_asks : (l : Limits) (name : Text) → AsksFile l (Some (check name))
check_asks l name = record {
  Says = λ verdict script report. report ≡ checks verdict;
  source = λ file. refl;
  reports = λ file verdict script report d. d;
}

pub bound_asks : (l : Limits) (name : Text) → AsksFile l (Some (bound name))
bound_asks l name = record {
  Says = λ verdict script. ReportsBound verdict;
  source = λ file. refl;
  reports = λ file verdict script report d. d;
}

absent_reported : (limit : ℕ) (Says : Report → Type 0) (report : Report) → ReportsFile limit None Says report → report ≡ ends Absent
absent_reported limit Says report d = d

over_reported : (limit : ℕ) (bytes : Text) (Says : Report → Type 0) (report : Report) → limit < length bytes
    → ReportsFile limit (Some bytes) Says report → report ≡ ends FileTooLong
over_reported limit bytes Says report lt (inl d) = let le = d.0 in absurd (omega arith)
over_reported limit bytes Says report lt (inr d) = d.1

pub bytes_reported : (limit : ℕ) (bytes : Text) (Says : Report → Type 0) (report : Report) → length bytes ≤ limit
    → ReportsFile limit (Some bytes) Says report → Says report
bytes_reported limit bytes Says report le (inl d) = d.1
bytes_reported limit bytes Says report le (inr d) = let lt = d.0 in absurd (omega arith)

-- the file couldn't be had, or isn't there, or is too long
pub worked_file : (l : Limits) (command : Option CommandTerm) → AsksFile l command → (holds : Option (Option Text)) (left out : Option Text)
    (ending : CommandEnding) → 1048576 ≤ l.file → FindsFile l.file holds (Err ending) → Worked l command holds left left out out ending
worked_file l command asks holds left out Absent le f =
    worked_still l command holds left out out [] Absent None f (Appends-nil out)
    (subst HasVerdict (sym (asks.source None)) (refused 0 (Read reads.TooLong), tt)) (λ fact. tt)
    (λ verdict h script report d. absent_reported l.file (asks.Says verdict script) report (asks.reports None verdict script report d))
worked_file l command asks holds left out FileTooLong le (bytes, lt, is) =
    worked_still l command holds left out out [] FileTooLong (Some bytes) is (Appends-nil out)
    (subst HasVerdict (sym (asks.source (Some bytes))) (over_readable bytes (omega arith))) (λ fact. tt)
    (λ verdict h script report d. over_reported l.file bytes (asks.Says verdict script) report lt
    (asks.reports (Some bytes) verdict script report d))
worked_file l command asks holds left out FileFault le f =
    let k = known_file holds in
    worked_still l command holds left out out [] FileFault k.0 k.1 (Appends-nil out) tt (λ fact. tt)
    (λ verdict h script report d. (report.output, refl))
worked_file l command asks holds left out (Unopened Memory) le f = worked_memory l command holds left out
worked_file l command asks holds left out (Unopened (Refused place refusal)) le f = absurd f
worked_file l command asks holds left out (Unopened OverBudget) le f = absurd f
worked_file l command asks holds left out Usage le f = absurd f
worked_file l command asks holds left out (Ran finish) le f = absurd f
worked_file l command asks holds left out Wrote le f = absurd f
worked_file l command asks holds left out WriteFault le f = absurd f
worked_file l command asks holds left out GateFault le f = absurd f

-- ---- a command that writes one text
-- the reason for which nothing was written
why_writes : (why : NoWorld) (Says : Report → Type 0) (report : Report) → TellsText Says (Err why) → Says report
    → Writes report [] (Unopened why)
why_writes Memory Says report t d = (report.output, refl)
why_writes (Refused place refusal) Says report t d = t report d
why_writes OverBudget Says report t d = t report d

verdict_at : (A : Type 0) (why : NoWorld) (bytes : Text) → HasVerdictAfter {A = A} (Err why) bytes
    → HasVerdictAt (Unopened why) (Some bytes)
verdict_at A Memory bytes h = tt
verdict_at A (Refused place refusal) bytes h = h
verdict_at A OverBudget bytes h = h

module _ (l : Limits) (command : Option CommandTerm) (holds : Option (Option Text)) (file : Option Text) (bytes : Text)
    (Says : Report → Type 0)
    (is : IsFile holds file) (source : source_of command file ≡ Some bytes)
    (says : (verdict : Verdict) → IsVerdict bytes verdict → (script : Text) (report : Report) → Reports l command file verdict script report
    → Says report) where
  -- it was written, or a first part of it
  pub worked_text : (left old new : Option Text) (text : Text) (ending : CommandEnding) → TellsText Says (Ok text)
      → HasVerdictAfter {A = Text} (Ok text) bytes → WritesText old new text ending → Worked l command holds left left old new ending
  worked_text left old new text Wrote t h w =
      worked_still l command holds left old new text Wrote file is w (subst HasVerdict (sym source) h) (λ fact. tt)
      (λ verdict v script report d. t report (says verdict (subst (λ o. IsVerdictOf o verdict) source v) script report d))
  worked_text left old new text WriteFault t h w =
      worked_still l command holds left old new w.0 WriteFault file is w.2 (subst HasVerdict (sym source) h) (λ fact. tt)
      (λ verdict v script report d.
      let e = t report (says verdict (subst (λ o. IsVerdictOf o verdict) source v) script report d) in
      subst (λ (z : Report). IsStart w.0 z.output) (sym e) w.1)
  worked_text left old new text (Unopened why) t h w = absurd w
  worked_text left old new text Usage t h w = absurd w
  worked_text left old new text Absent t h w = absurd w
  worked_text left old new text FileTooLong t h w = absurd w
  worked_text left old new text FileFault t h w = absurd w
  worked_text left old new text GateFault t h w = absurd w
  worked_text left old new text (Ran finish) t h w = absurd w

  -- there is none
  pub worked_none : (A : Type 0) (left out : Option Text) (why : NoWorld) → TellsText Says (Err why)
      → HasVerdictAfter {A = A} (Err why) bytes → Worked l command holds left left out out (Unopened why)
  worked_none A left out why t h =
      worked_still l command holds left out out [] (Unopened why) file is (Appends-nil out)
      (subst (HasVerdictAt (Unopened why)) (sym source) (verdict_at A why bytes h)) (λ fact. tt)
      (λ verdict v script report d. why_writes why Says report t
      (says verdict (subst (λ o. IsVerdictOf o verdict) source v) script report d))

-- ---- a script that was run
abbrev TellsWhole : LineForm → Limits → Text → WorldTerm → Told → Type 0
TellsWhole form l script w told = TellsScript (Tells form l.line w 1) l.script script told

module _ (form : LineForm) (l : Limits) (name : Text) (budget : ℕ) (holds : Option (Option Text)) (bytes : Rowed ℕ) (is : IsFile holds (Some bytes.list))
    (within : length bytes.list ≤ l.file) where
  -- at the world of the bytes
  at_world : (w : SeenWorld) (TellsAt : WorldTerm → Told → Type 0) (verdict : Verdict) (report : Report) → Opens budget verdict (Ok w)
      → ReportsFile l.file (Some bytes.list) (ReportsVerdict budget verdict (ReportsTold TellsAt)) report
      → (told : Told) × TellsAt (world_term w) told × (report ≡ reported told)
  at_world w TellsAt verdict report o r =
      let d = bytes_reported l.file bytes.list (ReportsVerdict budget verdict (ReportsTold TellsAt)) report within r in
      let same = opens_once budget verdict d.0 (world (world_term w)) d.1 o in
      subst (λ (z : Opened). ReportsOpened (ReportsTold TellsAt) z report) same d.2

  -- the source is the file
  is_source : source_of (Some (runs form name budget)) (Some bytes.list) ≡ Some bytes.list
  is_source = runs_source form name budget (Some bytes.list)

  verdict_known : (verdict : Verdict) → IsVerdictOf (source_of (Some (runs form name budget)) (Some bytes.list)) verdict
      → IsVerdict bytes.list verdict
  verdict_known verdict h = subst (λ (f : Option Text). IsVerdictOf f verdict) is_source h

  end_at : (why : NoWorld) (verdict : Verdict) (script : Text) (report : Report) → Opens budget verdict (Err why)
      → Reports l (Some (runs form name budget)) (Some bytes.list) verdict script report → Writes report [] (Unopened why)
  end_at Memory verdict script report o d = (report.output, refl)
  end_at (Refused place refusal) verdict script report o r =
      let d = bytes_reported l.file bytes.list (ReportsVerdict budget verdict (ReportsTold (TellsWhole form l script))) report within
      (lines_reported_of form l name budget (Some bytes.list) verdict script report r) in
      subst (λ (z : Opened). ReportsOpened (ReportsTold (TellsWhole form l script)) z report)
      (opens_once budget verdict d.0 (none (Unopened (Refused place refusal))) d.1 o) d.2
  end_at OverBudget verdict script report o r =
      let d = bytes_reported l.file bytes.list (ReportsVerdict budget verdict (ReportsTold (TellsWhole form l script))) report within
      (lines_reported_of form l name budget (Some bytes.list) verdict script report r) in
      subst (λ (z : Opened). ReportsOpened (ReportsTold (TellsWhole form l script)) z report)
      (opens_once budget verdict d.0 (none (Unopened OverBudget)) d.1 o) d.2

  -- what is told of these lines there
  told_of : (w : SeenWorld) (verdict : Verdict) (lines : List Text) (finish : Finish) (report : Report) → Opens budget verdict (Ok w)
      → ReportsLines l (Some (runs form name budget)) (Some bytes.list) verdict lines finish report
      → (told : Told) × Tells form l.line (world_term w) 1 lines finish told × (report ≡ reported told)
  told_of w verdict lines finish report o r =
      at_world w (λ v told. Tells form l.line v 1 lines finish told) verdict report o
      (lines_read_of form l name budget (Some bytes.list) verdict lines finish report r)

  -- the bytes have no world
  pub worked_unopened : (left out : Option Text) (why : NoWorld) → OpensBytes budget bytes.list (Err why)
      → HasVerdictAfter {A = Finish} (Err why) bytes.list
      → Worked l (Some (runs form name budget)) holds left left out out (Unopened why)
  worked_unopened left out why o h =
      worked_still l (Some (runs form name budget)) holds left out out [] (Unopened why) (Some bytes.list) is (Appends-nil out)
      (subst (HasVerdictAt (Unopened why)) (sym is_source) (verdict_at Finish why bytes.list h)) (λ fact. tt)
      (λ verdict v script report d. end_at why verdict script report (o verdict (verdict_known verdict v)) d)

  -- a script was run on the world of the bytes
  pub worked_ran : (left_old left_new taken_old taken_new : Option Text) (finish : Finish) (w : SeenWorld)
      → OpensBytes budget bytes.list (Ok w)
      → RanScript (Tells form l.line (world_term w) 1) l.script left_old left_new taken_old taken_new finish → HasVerdict (Some bytes.list)
      → Worked l (Some (runs form name budget)) holds left_old left_new taken_old taken_new (Ran finish)
  worked_ran left_old left_new taken_old taken_new finish w o d verdict_is = record {
    file = Some bytes.list;
    script = d.script;
    read = d.read;
    earlier = d.earlier;
    last = d.last;
    written = d.written;
    file_told = is;
    script_told = d.told;
    begins = d.begins;
    consumed = d.consumed;
    took = d.took;
    verdict_is = subst HasVerdict (sym is_source) verdict_is;
    comes = λ verdict h report r.
        let t = at_world w (TellsWhole form l d.script) verdict report (o verdict (verdict_known verdict h))
        (lines_reported_of form l name budget (Some bytes.list) verdict d.script report r) in
        writes_told t.0 d.written finish report t.2 (d.comes t.0 t.1);
    answered = λ e verdict h report r.
        let t = told_of w verdict (cut_of d.read).lines finishes.ReadFault report (o verdict (verdict_known verdict h)) r in
        let fault : finish ≡ finishes.ReadFault = cc in
        t.2 ∙ ap reported (d.answered fault t.0 t.1) ∙ ap (λ (z : Finish). record { output = d.written; ending = Ran z }) (sym fault);
    pieces = d.pieces;
    in_time = λ verdict h report r.
        let t = told_of w verdict (cut_of d.earlier).lines finishes.ReadFault report (o verdict (verdict_known verdict h)) r in
        let i = d.in_time t.0 t.1 in (
          ap (λ (z : Report). z.ending) t.2 ∙ ap Ran i.0,
          subst (λ (z : Text). IsStart z d.written) (sym (ap (λ (z : Report). z.output) t.2)) i.1,
        );
    ran_out = λ e.
        let want : finish ≡ finishes.Memory = cc in
        let out = d.ran_out want in
        record {
          lines = out.lines;
          line = out.line;
          behind = out.behind;
          stream = out.stream;
          each = out.each;
          no_lf = out.no_lf;
          as_read = out.as_read;
          within = out.within;
          done = λ verdict h report r.
              let t = told_of w verdict out.lines finishes.Memory report (o verdict (verdict_known verdict h)) r in
              t.2 ∙ ap reported (out.done t.0 t.1);
        };
  }

-- ---- checks
pub accepted_tells : (bytes : Text) (c : CheckedTerm) (text : Text) → IsOnlyVerdict bytes (accepted c) → text ≡ program_text c.program
    → TellsText (ReportsCheck bytes) (Ok text)
accepted_tells bytes c text one is = λ report d. d.2 ∙ ap checks (one.only d.0 d.1) ∙ ap writes (sym is)

pub refused_tells : (bytes : Text) (why : NoWorld) → Judges bytes (Err why) → TellsText (ReportsCheck bytes) (Err why)
refused_tells bytes (Refused place refusal) one = λ report d. d.2 ∙ ap checks (one.only d.0 d.1)
refused_tells bytes OverBudget one = absurd one
refused_tells bytes Memory one = tt

-- the text of a program was written, or a first part of it
pub check_written : (name : Text) (holds : Option (Option Text)) (bytes : Rowed ℕ) (slice : Text) (left old new : Option Text) (text : Text)
    (ending : CommandEnding) → slice ≡ bytes.list → FindsFile limits.file holds (Ok bytes) → TellsText (ReportsCheck slice) (Ok text)
    → HasVerdictAfter {A = Text} (Ok text) slice → WritesText old new text ending
    → Worked limits (Some (check name)) holds left left old new ending
check_written name holds bytes slice left old new text ending same found t h w =
    worked_text limits (Some (check name)) holds (Some bytes.list) bytes.list (ReportsCheck bytes.list) found.0 refl
    (λ verdict v script report d. (verdict, v, bytes_reported 1048576 bytes.list (λ r. r ≡ checks verdict) report found.1 d))
    left old new text ending (subst (λ (z : Text). TellsText (ReportsCheck z) (Ok text)) same t)
    (subst (λ (z : Text). HasVerdictAfter {A = Text} (Ok text) z) same h) w

-- the program isn't accepted, or memory ran out
pub check_refused : (name : Text) (holds : Option (Option Text)) (bytes : Rowed ℕ) (slice : Text) (left out : Option Text) (why : NoWorld)
    → slice ≡ bytes.list → FindsFile limits.file holds (Ok bytes) → TellsText (ReportsCheck slice) (Err why)
    → HasVerdictAfter {A = Text} (Err why) slice → Worked limits (Some (check name)) holds left left out out (Unopened why)
check_refused name holds bytes slice left out why same found t h =
    worked_none limits (Some (check name)) holds (Some bytes.list) bytes.list (ReportsCheck bytes.list) found.0 refl
    (λ verdict v script report d. (verdict, v, bytes_reported 1048576 bytes.list (λ r. r ≡ checks verdict) report found.1 d))
    Text left out why (subst (λ (z : Text). TellsText (ReportsCheck z) (Err why)) same t)
    (subst (λ (z : Text). HasVerdictAfter {A = Text} (Err why) z) same h)

-- ---- bounds
pub bound_tells : (bytes : Text) (c : CheckedTerm) (found : Option Bound) (text : Text) → IsOnlyVerdict bytes (accepted c)
    → IsBound c.program found → text ≡ bound_line found → TellsText (ReportsBounded bytes) (Ok text)
bound_tells bytes c found text one is e = λ report d.
    bound_reported_once (accepted c) report (writes text) (subst (λ v. ReportsBound v report) (one.only d.0 d.1) d.2) (found, is, ap writes e)

pub unbounded_tells : (bytes : Text) (why : NoWorld) → Judges bytes (Err why) → TellsText (ReportsBounded bytes) (Err why)
unbounded_tells bytes (Refused place refusal) one = λ report d. subst (λ v. ReportsBound v report) (one.only d.0 d.1) d.2
unbounded_tells bytes OverBudget one = absurd one
unbounded_tells bytes Memory one = tt

-- the line was written, or a first part of it
pub bound_written : (name : Text) (holds : Option (Option Text)) (bytes : Rowed ℕ) (slice : Text) (left old new : Option Text) (text : Text)
    (ending : CommandEnding) → slice ≡ bytes.list → FindsFile limits.file holds (Ok bytes) → TellsText (ReportsBounded slice) (Ok text)
    → HasVerdictAfter {A = Text} (Ok text) slice → WritesText old new text ending
    → Worked limits (Some (bound name)) holds left left old new ending
bound_written name holds bytes slice left old new text ending same found t h w =
    worked_text limits (Some (bound name)) holds (Some bytes.list) bytes.list (ReportsBounded bytes.list) found.0 refl
    (λ verdict v script report d. (verdict, v, bytes_reported 1048576 bytes.list (ReportsBound verdict) report found.1 d))
    left old new text ending (subst (λ (z : Text). TellsText (ReportsBounded z) (Ok text)) same t)
    (subst (λ (z : Text). HasVerdictAfter {A = Text} (Ok text) z) same h) w

-- the program isn't accepted, or memory ran out
pub bound_refused : (name : Text) (holds : Option (Option Text)) (bytes : Rowed ℕ) (slice : Text) (left out : Option Text) (why : NoWorld)
    → slice ≡ bytes.list → FindsFile limits.file holds (Ok bytes) → TellsText (ReportsBounded slice) (Err why)
    → HasVerdictAfter {A = Text} (Err why) slice → Worked limits (Some (bound name)) holds left left out out (Unopened why)
bound_refused name holds bytes slice left out why same found t h =
    worked_none limits (Some (bound name)) holds (Some bytes.list) bytes.list (ReportsBounded bytes.list) found.0 refl
    (λ verdict v script report d. (verdict, v, bytes_reported 1048576 bytes.list (ReportsBound verdict) report found.1 d))
    Text left out why (subst (λ (z : Text). TellsText (ReportsBounded z) (Err why)) same t)
    (subst (λ (z : Text). HasVerdictAfter {A = Text} (Err why) z) same h)

-- ---- soaks
pub soak_written : (count seed : ℕ) (holds : Option (Option Text)) (left old new : Option Text) (text : Text) (ending : CommandEnding)
    → TellsText (ReportsInputs count seed) (Ok text) → HasVerdictAfter {A = Text} (Ok text) soak_text → WritesText old new text ending
    → Worked limits (Some (soak count seed)) holds left left old new ending
soak_written count seed holds left old new text ending t h w =
    let k = known_file holds in
    worked_text limits (Some (soak count seed)) holds k.0 soak_text (ReportsInputs count seed) k.1 refl
    (λ verdict v script report d. (verdict, v, d)) left old new text ending t h w

pub soak_refused : (count seed : ℕ) (holds : Option (Option Text)) (left out : Option Text) (why : NoWorld)
    → TellsText (ReportsInputs count seed) (Err why) → HasVerdictAfter {A = Text} (Err why) soak_text
    → Worked limits (Some (soak count seed)) holds left left out out (Unopened why)
soak_refused count seed holds left out why t h =
    let k = known_file holds in
    worked_none limits (Some (soak count seed)) holds k.0 soak_text (ReportsInputs count seed) k.1 refl
    (λ verdict v script report d. (verdict, v, d)) Text left out why t h

-- what is reported of the inputs at a world of the generator's program
pub soak_tells : (count seed : ℕ) (w : SeenWorld) (text : Text) → OpensBytes soak_budget soak_text (Ok w)
    → IsSummary count seed (world_term w) text → TellsText (ReportsInputs count seed) (Ok text)
soak_tells count seed w text o is = λ report d.
    soak_verdict_once count seed d.0 report (writes text) d.2 (world (world_term w), o d.0 d.1, (text, is, refl))

pub soak_tells_none : (count seed : ℕ) (why : NoWorld) → OpensBytes soak_budget soak_text (Err why)
    → TellsText (ReportsInputs count seed) (Err why)
soak_tells_none count seed Memory o = tt
soak_tells_none count seed (Refused place refusal) o = λ report d.
    soak_verdict_once count seed d.0 report (ends (Unopened (Refused place refusal))) d.2
    (none (Unopened (Refused place refusal)), o d.0 d.1, refl)
soak_tells_none count seed OverBudget o = λ report d.
    soak_verdict_once count seed d.0 report (ends (Unopened OverBudget)) d.2 (none (Unopened OverBudget), o d.0 d.1, refl)

-- ---- ends
pub heard : (sink : Around (Option Text)) (text : Text) (written : Written) → sinks.Wrote sink.before sink.now text written
    → (written ≡ Failed → Rose sink.faults.before sink.faults.now) → Heard sink text
heard sink text Whole w f = record { part = text; start = ([], sym (append-nil text)); took = w; whole = inl refl }
heard sink text Failed w f = record { part = w.0; start = w.1; took = w.2; whole = inr (f refl) }

pub is_read_fault : (ending : CommandEnding) → status_of ending ≡ 5 → (ending ≡ FileFault) ⊎ (ending ≡ Ran finishes.ReadFault)
is_read_fault FileFault e = inl refl
is_read_fault (Ran finishes.ReadFault) e = inr refl
is_read_fault (Unopened (Refused place refusal)) e = absurd (omega arith)
is_read_fault (Unopened OverBudget) e = absurd (omega arith)
is_read_fault (Unopened Memory) e = absurd (omega arith)
is_read_fault ending e = absurd (omega arith)

pub is_write_fault : (ending : CommandEnding) → status_of ending ≡ 6 → (ending ≡ Ran finishes.WriteFault) ⊎ (ending ≡ WriteFault)
is_write_fault (Ran finishes.WriteFault) e = inl refl
is_write_fault WriteFault e = inr refl
is_write_fault (Unopened (Refused place refusal)) e = absurd (omega arith)
is_write_fault (Unopened OverBudget) e = absurd (omega arith)
is_write_fault (Unopened Memory) e = absurd (omega arith)
is_write_fault ending e = absurd (omega arith)

pub is_usage : (ending : CommandEnding) → status_of ending ≡ 2 → ending ≡ Usage
is_usage Usage e = refl
is_usage (Ran finishes.Done) e = absurd (omega arith)
is_usage (Unopened (Refused place refusal)) e = absurd (omega arith)
is_usage (Unopened OverBudget) e = absurd (omega arith)
is_usage (Unopened Memory) e = absurd (omega arith)
is_usage ending e = absurd (omega arith)

-- a count that is one more has risen
risen : (count : Counted) → count.now ≡ next_count count.before → HasRisen count
risen count e = subst (λ (z : ℕ). z ≤ count.now) e (omega arith)

-- at an end by a fault the count of that object has risen
pub files_risen : (ending : CommandEnding) (count : Counted) → count.now ≡ file_faults_after count.before ending → ending ≡ FileFault
    → HasRisen count
files_risen ending count c e = risen count (c ∙ ap (file_faults_after count.before) e)

pub input_risen : (ending : CommandEnding) (count : Counted) → count.now ≡ input_faults_after count.before ending → ending ≡ Ran finishes.ReadFault
    → HasRisen count
input_risen ending count c e = risen count (c ∙ ap (input_faults_after count.before) e)

pub output_risen : (ending : CommandEnding) (count : Counted) → count.now ≡ output_faults_after count.before ending
    → (ending ≡ Ran finishes.WriteFault) ⊎ (ending ≡ WriteFault) → HasRisen count
output_risen ending count c (inl e) = risen count (c ∙ ap (output_faults_after count.before) e)
output_risen ending count c (inr e) = risen count (c ∙ ap (output_faults_after count.before) e)

-- at an end by no fault none failed
none_failed : (code status : ℕ) (files input out : Counted) → status ≡ code → (code ≡ 5 → ⊥) → (code ≡ 6 → ⊥) → NoneFailed files
    → NoneFailed input → NoneFailed out → FailedBy status files input out
none_failed code status files input out s no_5 no_6 f i o = record {
  five = λ e. absurd (no_5 (sym s ∙ e));
  six = λ e. absurd (no_6 (sym s ∙ e));
  other = λ a b. (f, i, o);
}

-- the counts by the end are the counts by its status
pub failed_by : (ending : CommandEnding) (status : ℕ) (files input out : Counted) → status ≡ status_of ending
    → files.now ≡ file_faults_after files.before ending → input.now ≡ input_faults_after input.before ending
    → out.now ≡ output_faults_after out.before ending → FailedBy status files input out
failed_by FileFault status files input out s f i o = record {
  five = λ e. inl (f, i, o);
  six = λ e. absurd (omega (arith, s, e));
  other = λ a b. absurd (a s);
}
failed_by (Ran finishes.ReadFault) status files input out s f i o = record {
  five = λ e. inr (f, i, o);
  six = λ e. absurd (omega (arith, s, e));
  other = λ a b. absurd (a s);
}
failed_by (Ran finishes.WriteFault) status files input out s f i o = record {
  five = λ e. absurd (omega (arith, s, e));
  six = λ e. (f, i, o);
  other = λ a b. absurd (b s);
}
failed_by WriteFault status files input out s f i o = record {
  five = λ e. absurd (omega (arith, s, e));
  six = λ e. (f, i, o);
  other = λ a b. absurd (b s);
}
failed_by Wrote status files input out s f i o =
    none_failed 0 status files input out s (λ e. omega (arith, e)) (λ e. omega (arith, e)) f i o
failed_by GateFault status files input out s f i o =
    none_failed 9 status files input out s (λ e. omega (arith, e)) (λ e. omega (arith, e)) f i o
failed_by Usage status files input out s f i o =
    none_failed 2 status files input out s (λ e. omega (arith, e)) (λ e. omega (arith, e)) f i o
failed_by Absent status files input out s f i o =
    none_failed 7 status files input out s (λ e. omega (arith, e)) (λ e. omega (arith, e)) f i o
failed_by FileTooLong status files input out s f i o =
    none_failed 7 status files input out s (λ e. omega (arith, e)) (λ e. omega (arith, e)) f i o
failed_by (Unopened (Refused place refusal)) status files input out s f i o =
    none_failed 1 status files input out s (λ e. omega (arith, e)) (λ e. omega (arith, e)) f i o
failed_by (Unopened OverBudget) status files input out s f i o =
    none_failed 4 status files input out s (λ e. omega (arith, e)) (λ e. omega (arith, e)) f i o
failed_by (Unopened Memory) status files input out s f i o =
    none_failed 8 status files input out s (λ e. omega (arith, e)) (λ e. omega (arith, e)) f i o
failed_by (Ran finishes.Done) status files input out s f i o =
    none_failed 0 status files input out s (λ e. omega (arith, e)) (λ e. omega (arith, e)) f i o
failed_by (Ran (finishes.Bad line column)) status files input out s f i o =
    none_failed 3 status files input out s (λ e. omega (arith, e)) (λ e. omega (arith, e)) f i o
failed_by (Ran finishes.InputTooLong) status files input out s f i o =
    none_failed 7 status files input out s (λ e. omega (arith, e)) (λ e. omega (arith, e)) f i o
failed_by (Ran finishes.Memory) status files input out s f i o =
    none_failed 8 status files input out s (λ e. omega (arith, e)) (λ e. omega (arith, e)) f i o
