use Rattle.std.proofs.Common.{◌+◌, ◌++◌, map, sym, ap, ◌∙◌, append-nil, append_assoc}
use Rattle.task_model.specs.Terms.Program.{def_term, program_term}
use Rattle.task_model.specs.Checking.Placed.{firsts_in, what_firsts, what_edits}
use Rattle.host_eval.proofs.ListLemmas.{in_front, empty}
use Rattle.host_eval.proofs.RunLemmas.{tail_of}
use Rattle.task_evaluation.proofs.tables.starts_of.Goals as goal

pub loop-rest-preserved : goal.loop-rest-preserved
loop-rest-preserved c =
    let p = program_term c.args.program.now in
    let now = c.loop-rest.first in
    let what = (def_term c.def-item.result).what in
    let later = map def_term (tail_of c.loop-rest.rest.now) in
    c.loop-rest.invariant
    ∙ ap (λ l. c.loop-rest.starts.list ++ firsts_in p now (map def_term l))
    (in_front c.loop-rest.rest.now c.def-item.result c.in-len1-up.len_at_least c.def-item.is)
    ∙ sym (append_assoc c.loop-rest.starts.list (what_firsts p now what) (firsts_in p (now + what_edits p what) later))
    ∙ ap (λ l. l ++ firsts_in p (now + what_edits p what) later) (sym c.in_ok-first.ensures.starts)
    ∙ ap (λ n. c.walk_what.new.starts.list ++ firsts_in p n later) (sym c.in_ok-first.ensures.next)

pub returns : goal.returns
returns c =
    let p = program_term c.args.program.now in
    sym (c.loop-rest.invariant ∙ ap (λ l. c.loop-rest.starts.list ++ firsts_in p c.loop-rest.first (map def_term l))
    (empty c.loop-rest.rest.now c.in_default.len_below)
    ∙ append-nil c.loop-rest.starts.list)
