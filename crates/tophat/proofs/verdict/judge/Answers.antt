use Rattle.std.proofs.Common.{◌∙◌, ap, subst}
use Rattle.task_model.specs.Checking.TypeKind.{type_kind_term}
use Rattle.host_types.specs.CheckWords.{IsFirstTypeFault}
use Rattle.tophat.specs.Verdict.{node_place}
use Rattle.task_model.specs.Terms.Program.{program_term}
use Rattle.tophat.proofs.VerdictLemmas.{program_accepted, refused_judges}
use Rattle.tophat.proofs.verdict.judge.Goals as goal

pub returns-in-Ok : goal.returns-in-Ok
returns-in-Ok c =
    program_accepted c.args.bytes.now (program_term c.args.read.program) c.args.read.places.list c.requires.found c.requires.only _
    (ap program_term c.in-Ok.ensures.program) c.in-Ok.ensures.accepted

pub returns-in-Err-Fault : goal.returns-in-Err-Fault
returns-in-Err-Fault c =
    let p = program_term c.args.read.program in
    let kind = type_kind_term c.in-Err-Fault.kind in
    refused_judges c.args.bytes.now p c.args.read.places.list c.requires.found c.requires.only
    (record { node = c.in-Err-Fault.node; kind = kind }) c.place_of.result c.refused.result
    (subst (λ e. IsFirstTypeFault p e) c.in-Err-Fault.field-0-is c.in-Err-Fault.ensures.fault).by
    (c.place_of.ensures ∙ ap (λ l. node_place c.args.bytes.now l c.in-Err-Fault.node) c.as_slice.ensures) c.refused.ensures
