-- What is told of lines, by what the world's calls answer.
use Rattle.std.proofs.Common.{◌≡◌, ℕ, ◌+◌, ◌≤◌, List, [], ◌∷◌, length, take, Err, refl, sym, ap, ◌∙◌, subst, ◌⊎◌, inl, inr, arith, length-take}
use Rattle.std.proofs.lemmas.List.{take_all}
use Rattle.task_model.specs.Terms.Text.{Text}
use Rattle.world_core.specs.World.{WorldTerm}
use Rattle.line_frame.specs.Told.{Told, told_after, TellsFirst, TellsBad}
use Rattle.line_frame.specs.BadLine.{IfBad}
use Rattle.line_frame.specs.declared.machine.LineStop.{LineStop}
use Rattle.line_frame.specs.declared.machine.LineStop.TheVariants.{Bad, Memory}
use Rattle.line_frame.specs.Script.{TellsScript, lines_in, end_of}
use Rattle.line_frame.specs.declared.finish.Finish.{Finish}
use Rattle.line_frame.specs.declared.finish.Finish.TheVariants as finishes
use Rattle.input_lines.specs.ScriptLines.{LineTerm}
use Rattle.world_answers.specs.declared.line_form.LineForm.{LineForm}
use Rattle.world_answers.specs.LineAnswers.{Answers}
use Rattle.world_answers.proofs.AnswerLemmas.{answers_once, answers_exist}
use Rattle.tophat.specs.LineForms.{IsAsking, IsOutside, IsOutsideColumn}
use Rattle.tophat.proofs.LineLemmas.{asked_once, outside_once, form_apart, cut_outside, form_decided, asking_within}
use Rattle.tophat.specs.Session.{Tells}

-- ---- of lines exactly one thing is told
pub told_exists : (form : LineForm) (longest : ℕ) (w : WorldTerm) (number : ℕ) (lines : List Text) (finish : Finish)
    → (told : Told) × Tells form longest w number lines finish told
told_exists form longest w number [] finish = (record { output = []; finish = finish }, refl)
told_exists form longest w number (line ∷ lines) finish = by (λ next. told_exists form longest next (number + 1) lines finish)
    (form_decided form longest line)
  where
    by : ((next : WorldTerm) → (rest : Told) × Tells form longest next (number + 1) lines finish rest)
        → ((m : LineTerm) × IsAsking form longest line m) ⊎ ((p : ℕ) × IsOutside form longest line p)
        → (told : Told) × Tells form longest w number (line ∷ lines) finish told
    by tells (inl (m, is)) =
        let a = answers_exist form w m in
        let more = tells a.1 in (
          told_after a.0 more.0,
          inl (record { asked = m; is = is; text = a.0; next = a.1; rest = more.0; answers = a.2; tells = more.1; all = refl }),
        )
    by tells (inr (p, bad)) = (_, inr (record { place = p; bad = bad; all = refl }))

pub told_once : (form : LineForm) (longest : ℕ) (w : WorldTerm) (number : ℕ) (lines : List Text) (finish : Finish) (t u : Told)
    → Tells form longest w number lines finish t → Tells form longest w number lines finish u → t ≡ u
told_once form longest w number [] finish t u p q = p ∙ sym q
told_once form longest w number (line ∷ lines) finish t u (inl p) (inl q) =
    let asked : p.asked ≡ q.asked = asked_once form longest line p.asked q.asked p.is q.is in
    let a = subst (λ (m : LineTerm). Answers form w m p.text p.next) asked p.answers in
    let once = answers_once form w q.asked p.text q.text p.next q.next a q.answers in
    let moved = subst (λ (z : WorldTerm). Tells form longest z (number + 1) lines finish p.rest) once.1 p.tells in
    let same = told_once form longest q.next (number + 1) lines finish p.rest q.rest moved q.tells in
    p.all ∙ ap (λ z. told_after z p.rest) once.0 ∙ ap (told_after q.text) same ∙ sym q.all
told_once form longest w number (line ∷ lines) finish t u (inl p) (inr q) = absurd (form_apart form longest line p.asked q.place p.is q.bad)
told_once form longest w number (line ∷ lines) finish t u (inr p) (inl q) = absurd (form_apart form longest line q.asked p.place q.is p.bad)
told_once form longest w number (line ∷ lines) finish t u (inr p) (inr q) =
    p.all ∙ ap (λ (n : ℕ). record { output = []; finish = finishes.Bad number (n + 1) }) (outside_once form longest line p.place q.place p.bad q.bad)
    ∙ sym q.all

pub script_exists : (form : LineForm) (longest limit : ℕ) (w : WorldTerm) (script : Text) → (told : Told) × TellsScript (Tells form longest w 1) limit script told
unfolding TellsScript
script_exists form longest limit w script = told_exists form longest w 1 (lines_in limit script) (end_of limit script)

pub script_once : (form : LineForm) (longest limit : ℕ) (w : WorldTerm) (script : Text) (t u : Told)
    → TellsScript (Tells form longest w 1) limit script t → TellsScript (Tells form longest w 1) limit script u → t ≡ u
unfolding TellsScript
script_once form longest limit w script t u p q = told_once form longest w 1 (lines_in limit script) (end_of limit script) t u p q

-- ---- a line of which these are the first bytes
-- one that has no more than the longest line
whole_line : (longest : ℕ) (line whole : Text) → line ≡ take (longest + 1) whole → length line ≤ longest → line ≡ whole
whole_line longest line whole cut le =
    let cut_length : length line ≡ length (take (longest + 1) whole) = ap length cut in
    let short : length whole ≤ longest + 1 = omega (arith, cut_length, length-take (longest + 1) whole) in
    cut ∙ take_all (longest + 1) whole short

pub answered_first : (form : LineForm) (longest : ℕ) (old new : WorldTerm) (line whole text : Text) (asked : LineTerm) → IsAsking form longest line asked
    → line ≡ take (longest + 1) whole → Answers form old asked text new → TellsFirst (Tells form longest old) (Tells form longest new) whole text
answered_first form longest old new line whole text asked is cut a = λ number lines finish told t. by number lines finish told t
  where
    same : line ≡ whole
    same = whole_line longest line whole cut (asking_within form longest line asked is)

    by : (number : ℕ) (lines : List Text) (finish : Finish) (told : Told) → Tells form longest old number (whole ∷ lines) finish told
        → (rest : Told) × Tells form longest new (number + 1) lines finish rest × (told ≡ told_after text rest)
    by number lines finish told (inl t) =
        let known = subst (λ (z : Text). IsAsking form longest z asked) same is in
        let one : t.asked ≡ asked = asked_once form longest whole t.asked asked t.is known in
        let b = subst (λ (m : LineTerm). Answers form old m t.text t.next) one t.answers in
        let once = answers_once form old asked t.text text t.next new b a in (
          t.rest,
          subst (λ (z : WorldTerm). Tells form longest z (number + 1) lines finish t.rest) once.1 t.tells,
          t.all ∙ ap (λ z. told_after z t.rest) once.0,
        )
    by number lines finish told (inr t) =
        let known = subst (λ (z : Text). IsAsking form longest z asked) same is in
        absurd (form_apart form longest whole asked t.place known t.bad)

-- a line outside the form, or want of memory
pub outside_stop : (form : LineForm) (longest : ℕ) (w : WorldTerm) (line : Text) (stop : LineStop) → IsOutsideColumn form longest line stop
    → IfBad (Err stop) (λ column. (whole : Text) → line ≡ take (longest + 1) whole → TellsBad (Tells form longest w) whole column)
outside_stop form longest w line (Bad column) (place, bad, is) = λ whole cut number lines finish told t. by whole cut number lines finish told t
  where
    by : (whole : Text) → line ≡ take (longest + 1) whole → (number : ℕ) (lines : List Text) (finish : Finish) (told : Told)
        → Tells form longest w number (whole ∷ lines) finish told → told ≡ record { output = []; finish = finishes.Bad number column }
    by whole cut number lines finish told (inl t) =
        let known = cut_outside form longest whole place (subst (λ (z : Text). IsOutside form longest z place) cut bad) in
        absurd (form_apart form longest whole t.asked place t.is known)
    by whole cut number lines finish told (inr t) =
        let known = cut_outside form longest whole place (subst (λ (z : Text). IsOutside form longest z place) cut bad) in
        t.all ∙ ap (λ (n : ℕ). record { output = []; finish = finishes.Bad number (n + 1) })
        (outside_once form longest whole t.place place t.bad known)
        ∙ ap (λ (n : ℕ). record { output = []; finish = finishes.Bad number n }) (sym is)
outside_stop form longest w line Memory h = tt
