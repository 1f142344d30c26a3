use Rattle.std.proofs.Common.{subst}
use Rattle.outer_io.specs.Sink.{Wrote}
use Rattle.tophat.specs.Top.{limits}
use Rattle.tophat.proofs.PromiseLemmas.{usage_is, asks_is, named_text, unasked_is}
use Rattle.tophat.proofs.FulfilLemmas.{fulfils}
use Rattle.tophat.proofs.WorkLemmas.{heard}
use Rattle.tophat.proofs.commands.perform.Goals as goal

pub returns-clause-fulfils : goal.returns-clause-fulfils
returns-clause-fulfils g c = λ command gives.
    let asked = c.args.asked.now in
    let ending = c.work-ending.result in
    let worked = c.work-ending.ensures in
    fulfils command _ c.status.result (record {
      ending = ending;
      status_is = c.status.ensures;
      worked = worked.worked command gives;
      heard = heard _ _ c.tell.result
          (subst (λ text. Wrote (g.E.Sink.taken c.args.err.now) (g.E.Sink.taken c.tell.new.err) text c.tell.result)
          (named_text asked command ending c.named_file.result.now gives c.named_file.ensures worked.no_command) c.tell.ensures.text)
          c.tell.ensures.failed;
      file_count = worked.file_count;
      input_count = worked.input_count;
      output_count = worked.output_count;
      not_run = worked.not_run;
      silent = worked.silent;
    })
    (usage_is asked command ending c.status.result gives c.status.ensures worked.usage worked.no_command)
    (asks_is limits asked command ending _ c.status.result gives c.status.ensures worked.asks worked.no_command worked.no_request
    worked.not_run worked.silent)

pub returns-clause-unasked : goal.returns-clause-unasked
returns-clause-unasked g c =
    let worked = c.work-ending.ensures in
    unasked_is c.args.asked.now c.work-ending.result c.status.result _ _ _ c.status.ensures worked.no_command worked.no_request
    worked.not_run worked.silent
