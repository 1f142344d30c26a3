use Rattle.std.proofs.Common.{◌+◌, ◌++◌, ◌∷◌, [], map, sym, ap, ◌∙◌, append-nil, append_assoc}
use Rattle.task_model.specs.Terms.Program.{def_term}
use Rattle.task_model.specs.Running.Checked.{what_nodes}
use Rattle.host_eval.proofs.RunLemmas.{tail_of}
use Rattle.task_evaluation.specs.Tables.{definition_firsts}
use Rattle.task_evaluation.proofs.TableLemmas.{firsts_front, firsts_none}
use Rattle.task_evaluation.proofs.tables.definitions_of.Goals as goal

pub loop-rest-preserved : goal.loop-rest-preserved
loop-rest-preserved c = record {
  rest = λ p e.
      let now = c.loop-rest.first in
      let def = def_term c.def-item.result in
      let next = c.in_ok-first.ensures.sum ∙ ap (λ n. now + n) (c.in_ok-what_nodes.ensures p e) in
      c.loop-rest.invariant.rest p e
      ∙ ap (λ l. c.loop-rest.firsts.list ++ l)
      (firsts_front p now c.loop-rest.rest.now c.def-item.result c.in-len1-up.len_at_least c.def-item.is)
      ∙ sym (append_assoc c.loop-rest.firsts.list (now ∷ [])
      (definition_firsts p (now + what_nodes p def.what) (map def_term (tail_of c.loop-rest.rest.now))))
      ∙ ap (λ l. l ++ definition_firsts p (now + what_nodes p def.what) (map def_term (tail_of c.loop-rest.rest.now)))
      (sym c.in_ok-push.ensures.ok)
      ∙ ap (λ n. c.push.new.self.list ++ definition_firsts p n (map def_term (tail_of c.loop-rest.rest.now))) (sym next);
}

pub returns : goal.returns
returns c = λ p e. sym (c.loop-rest.invariant.rest p e
    ∙ ap (λ l. c.loop-rest.firsts.list ++ l) (firsts_none p c.loop-rest.first c.loop-rest.rest.now c.in_default.len_below)
    ∙ append-nil c.loop-rest.firsts.list)
