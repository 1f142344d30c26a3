use Rattle.std.proofs.Common.{◌≡◌, ◌==◌, ℕ, ◌+◌, true, false, List, [], ◌∷◌, ◌++◌, drop, map, refl, sym, ap, ◌∙◌, subst, arith, rules, append-nil}
use Rattle.std.proofs.lemmas.List.{drop_more, drop_all}
use Rattle.task_model.specs.Terms.Rowed.{Rowed}
use Rattle.input_lines.specs.ScriptLines.{LineTerm, line_term}
use Rattle.world_core.specs.World.{SeenWorld, world_term}
use Rattle.world_answers.specs.LineAnswers.{Answers, AnswersInTurn}
use Rattle.world_answers.specs.declared.line_form.LineForm.{LineForm}
use Rattle.world_answers.specs.declared.line_form.LineForm.TheVariants.{Script}
use Rattle.hub_lines.specs.OwnLines.{addressed, own_lines}
use Rattle.hub_lines.proofs.QueueLemmas.{one_text_more}
use Rattle.world_hub.proofs.AnsweredLemmas.{own_here, own_other}
use Rattle.world_hub.proofs.own.answer_own.Goals as goal
use Rattle.world_hub.proofs.own.answer_own.Goals.{then-line-number+in_ok-asked+in_ok-answer+in_ok-push, else-line-number}

pub loop-line-init : goal.loop-line-init
loop-line-init g c =
    let none : c.new-texts.result.items ≡ [] = search rules in
    let world : c.new-answering.result.world ≡ c.args.job.world = search rules in (
      search rules,
      λ ts next a.
          subst (λ (done : List (Rowed ℕ)). AnswersInTurn Script (world_term c.args.job.world) (own_lines c.args.job.number (map addressed c.args.lines.now))
          (map (λ t. t.list) done ++ ts) next) (sym none)
          (subst (λ (w : SeenWorld). AnswersInTurn Script (world_term w) (own_lines c.args.job.number (map addressed c.args.lines.now)) ts next) world a),
    )

pub loop-line-preserved : goal.loop-line-preserved
loop-line-preserved g c =
    let l = c.loop-line in
    let i = l.line-index in
    let xs = c.args.lines.now in
    let x = c.line-item.result in
    let k = c.args.job.number in
    let here : drop i xs ≡ x ∷ drop (i + 1) xs = drop_more xs i x (omega arith) ∙ ap (λ y. y ∷ drop (i + 1) xs) (sym c.line-item.is) in
    let all = ap (map addressed) here in
    elim c.if-line-number.branch [
      | then-line-number+in_ok-asked+in_ok-answer+in_ok-push w ↦
          let is : (x.world == k) ≡ true = search (rules, w.if-line-number.true) in
          let first = ap (own_lines k) all ∙ own_here k (addressed x) (map addressed (drop (i + 1) xs)) is in
          let t = w.in_ok-answer.field-0 in
          let told = subst (λ (f : LineForm). Answers f (world_term l.answering.world) (line_term w.in_ok-asked.asked) t.list
          (world_term w.answer.new.self.world)) l.invariant.0 w.in_ok-answer.ensures.answers in
          let answered = subst (λ (q : LineTerm). Answers Script (world_term l.answering.world) q t.list (world_term w.answer.new.self.world))
          w.in_ok-asked.ensures told in
          let same : w.answer.new.self.form ≡ Script = w.in_ok-answer.ensures.form ∙ l.invariant.0 in
          let grown : w.push.new.self.items ≡ l.texts.items ++ t ∷ [] = search rules in
          rw (w.texts-is, w.answering-is) (
            same,
            λ ts next a.
                let one = l.invariant.1 (t.list ∷ ts) next
                (subst (λ ls. AnswersInTurn Script (world_term l.answering.world) ls (t.list ∷ ts) next) (sym first)
                (world_term w.answer.new.self.world, answered, a)) in
                subst (λ us. AnswersInTurn Script (world_term c.args.job.world) (own_lines k (map addressed xs)) us next)
                (one_text_more l.texts.items t ts ∙ ap (λ us. map (λ (u : Rowed ℕ). u.list) us ++ ts) (sym grown)) one,
          )
      | else-line-number w ↦
          let is : (x.world == k) ≡ false = search (rules, w.if-line-number.false) in
          let first = ap (own_lines k) all ∙ own_other k (addressed x) (map addressed (drop (i + 1) xs)) is in
          rw (w.texts-is, w.answering-is) (
            l.invariant.0,
            λ ts next a. l.invariant.1 ts next
                (subst (λ ls. AnswersInTurn Script (world_term l.answering.world) ls ts next) (sym first) a),
          )
    ]

pub returns : goal.returns
returns g c =
    let l = c.loop-line in
    let xs = c.args.lines.now in
    let none : drop l.line-index xs ≡ [] = drop_all l.line-index xs (omega (arith, c.loop-line-test.false)) in
    let own = c.args.job.number in
    let end = l.invariant.1 [] (world_term l.answering.world)
    (subst (λ ls. AnswersInTurn Script (world_term l.answering.world) (own_lines own (map addressed ls)) [] (world_term l.answering.world)) (sym none) refl) in
    record {
      answers = subst (λ (w : SeenWorld). AnswersInTurn Script (world_term c.args.job.world) (own_lines own (map addressed xs))
          (map (λ (t : Rowed ℕ). t.list) l.texts.items) (world_term w)) (sym c.into_world-world.ensures.world)
          (subst (λ us. AnswersInTurn Script (world_term c.args.job.world) (own_lines own (map addressed xs)) us (world_term l.answering.world))
          (append-nil (map (λ (t : Rowed ℕ). t.list) l.texts.items)) end);
      rest = search rules;
      legal = c.history-legal.ensures.legal;
    }
