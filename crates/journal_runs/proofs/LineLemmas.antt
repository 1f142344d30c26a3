-- What a journal tells of a line, by how it answered it.
use Rattle.std.proofs.Common.{◌≡◌, ℕ, ◌+◌, ◌<◌, ◌≤◌, List, [], ◌∷◌, length, take, Err, refl, sym, ap, ◌∙◌, subst, ◌⊎◌, inl, inr, arith, length-take}
use Rattle.std.proofs.lemmas.Bool.Decides.{leb_tells}
use Rattle.std.proofs.lemmas.List.{take_all}
use Rattle.task_model.specs.Terms.Text.{Text}
use Rattle.world_core.specs.World.{WorldTerm}
use Rattle.line_frame.specs.Told.{Told, told_after, TellsFirst, TellsBad}
use Rattle.line_frame.specs.BadLine.{IfBad}
use Rattle.line_frame.specs.declared.machine.LineStop.{LineStop}
use Rattle.line_frame.specs.declared.machine.LineStop.TheVariants.{Bad, Memory}
use Rattle.line_frame.specs.declared.finish.Finish.{Finish}
use Rattle.line_frame.specs.declared.finish.Finish.TheVariants as finishes
use Rattle.input_lines.specs.ScriptLines.{LineTerm, nothing, shows, gives}
use Rattle.input_lines.specs.LinePlaces.{IsLineWithin, IsBadLine, IsBadColumn}
use Rattle.input_lines.proofs.Decisions.{one_line_meaning}
use Rattle.input_lines.proofs.LawLemmas.{one_place, line_is_good, of_front}
use Rattle.world_answers.specs.declared.line_form.LineForm.TheVariants.{Script}
use Rattle.world_answers.proofs.AnswerLemmas.{answers_once}
use Rattle.journal_runs.specs.KeptAnswers.{KeptAnswers}
use Rattle.journal_runs.specs.KeptLines.{TellsOverJournal}

-- ---- a line is answered in one way
pub kept_once : (w : WorldTerm) (line : LineTerm) (a b : Text) (v u : WorldTerm) → KeptAnswers w line a v → KeptAnswers w line b u → (a ≡ b) × (v ≡ u)
kept_once w nothing a b v u p q = answers_once Script w nothing a b v u p q
kept_once w (shows seat) a b v u p q = answers_once Script w (shows seat) a b v u p q
kept_once w (gives e) a b v u (inl p) (inl q) = answers_once Script w (gives e) a b v u p.1 q.1
kept_once w (gives e) a b v u (inl p) (inr q) = absurd (p.0 q.0)
kept_once w (gives e) a b v u (inr p) (inl q) = absurd (q.0 p.0)
kept_once w (gives e) a b v u (inr p) (inr q) = (p.1 ∙ sym q.1, p.2 ∙ sym q.2)

-- ---- a line of which these are the first bytes
-- one that has no more than the longest line
whole_line : (longest : ℕ) (line whole : Text) → line ≡ take (longest + 1) whole → length line ≤ longest → line ≡ whole
whole_line longest line whole cut le =
    let cut_length : length line ≡ length (take (longest + 1) whole) = ap length cut in
    let short : length whole ≤ longest + 1 = omega (arith, cut_length, length-take (longest + 1) whole) in
    cut ∙ take_all (longest + 1) whole short

line_apart : (longest : ℕ) (line : Text) (m : LineTerm) (p : ℕ) → IsLineWithin longest line m → IsBadLine longest line p → ⊥
line_apart longest line m p a b = line_is_good longest line m p a.0 a.1 b

-- the first bytes of a line tell where it is bad
cut_bad : (longest : ℕ) (whole : Text) (p : ℕ) → IsBadLine longest (take (longest + 1) whole) p → IsBadLine longest whole p
cut_bad longest whole p h = elim (leb_tells (length whole) longest) [
  | inl q ↦ let le = q.1 in subst (λ (z : Text). IsBadLine longest z p) (take_all (longest + 1) whole (omega arith)) h
  | inr q ↦ of_front longest whole q.1 p h
]

pub kept_first : (longest : ℕ) (old new : WorldTerm) (line whole text : Text) (asked : LineTerm) → IsLineWithin longest line asked
    → line ≡ take (longest + 1) whole → KeptAnswers old asked text new → TellsFirst (TellsOverJournal longest old) (TellsOverJournal longest new) whole text
kept_first longest old new line whole text asked is cut a = λ number lines finish told t. by number lines finish told t
  where
    known : IsLineWithin longest whole asked
    known = subst (λ (z : Text). IsLineWithin longest z asked) (whole_line longest line whole cut is.1) is

    by : (number : ℕ) (lines : List Text) (finish : Finish) (told : Told) → TellsOverJournal longest old number (whole ∷ lines) finish told
        → (rest : Told) × TellsOverJournal longest new (number + 1) lines finish rest × (told ≡ told_after text rest)
    by number lines finish told (inl t) =
        let one : t.asked ≡ asked = one_line_meaning whole t.asked asked t.is.0 known.0 in
        let b = subst (λ (m : LineTerm). KeptAnswers old m t.text t.next) one t.answers in
        let once = kept_once old asked t.text text t.next new b a in (
          t.rest,
          subst (λ (z : WorldTerm). TellsOverJournal longest z (number + 1) lines finish t.rest) once.1 t.tells,
          t.all ∙ ap (λ z. told_after z t.rest) once.0,
        )
    by number lines finish told (inr t) = absurd (line_apart longest whole asked t.place known t.bad)

-- a line outside the grammar, or want of memory
pub bad_stop : (longest : ℕ) (w : WorldTerm) (line : Text) (stop : LineStop) → IsBadColumn longest line stop
    → IfBad (Err stop) (λ column. (whole : Text) → line ≡ take (longest + 1) whole → TellsBad (TellsOverJournal longest w) whole column)
bad_stop longest w line (Bad column) (place, bad, is) = λ whole cut number lines finish told t. by whole cut number lines finish told t
  where
    by : (whole : Text) → line ≡ take (longest + 1) whole → (number : ℕ) (lines : List Text) (finish : Finish) (told : Told)
        → TellsOverJournal longest w number (whole ∷ lines) finish told → told ≡ record { output = []; finish = finishes.Bad number column }
    by whole cut number lines finish told (inl t) =
        let known = cut_bad longest whole place (subst (λ (z : Text). IsBadLine longest z place) cut bad) in
        absurd (line_apart longest whole t.asked place t.is known)
    by whole cut number lines finish told (inr t) =
        let known = cut_bad longest whole place (subst (λ (z : Text). IsBadLine longest z place) cut bad) in
        t.all ∙ ap (λ (n : ℕ). record { output = []; finish = finishes.Bad number (n + 1) }) (one_place longest whole t.place place t.bad known)
        ∙ ap (λ (n : ℕ). record { output = []; finish = finishes.Bad number n }) (sym is)
bad_stop longest w line Memory h = tt
