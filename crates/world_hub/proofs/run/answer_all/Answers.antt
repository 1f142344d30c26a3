use Rattle.std.proofs.Common.{◌≡◌, ◌∙◌, IfOk, length, map, slice_index_or, ap, sym, subst, arith}
use Rattle.hub_lines.specs.OwnLines.{addressed}
use Rattle.world_hub.specs.declared.own.Numbered.{Numbered}
use Rattle.world_hub.specs.Shares.{HasAnsweredOwn, HaveAnsweredOwn}
use Rattle.world_hub.proofs.AnsweredLemmas.{answered_each, came, if_ok, oks_length}
use Rattle.world_hub.proofs.run.answer_all.Goals as goal

pub returns : goal.returns
returns g c =
    let lines = map addressed c.args.lines.now in
    let jobs = c.args.jobs.items in
    if_ok c.gather.result (λ all. c.in_ok-answered.answered.items ≡ map came all.items) (λ shares. HaveAnsweredOwn lines jobs shares.items)
    (λ shares is.
    let count = ap length is ∙ oks_length shares.items in
    let same : length shares.items ≡ length jobs =
    omega (arith, count, c.in_ok-answered.ensures.len, c.in_ok-answered.answered.ok, c.args.jobs.ok) in
    answered_each lines jobs shares.items same (λ i d e less.
    let job = (c.in_ok-answered.ensures.each i e less).1 in
    let met = subst
    (λ (s : Numbered). IfOk (slice_index_or c.in_ok-answered.answered.items i e) (λ t. HasAnsweredOwn lines s t))
    (sym (job.job_is d)) job.call.met in
    subst (λ rs. IfOk (slice_index_or rs i e) (λ t. HasAnsweredOwn lines (slice_index_or jobs i d) t)) is met))
    c.gather.ensures
