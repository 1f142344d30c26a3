use Rattle.std.proofs.Common.{◌++◌, [], map, sym, ap, ◌∙◌, append-nil}
use Rattle.std.proofs.lemmas.List.{take_all}
use Rattle.task_model.specs.Terms.Task.{task_term, body_term}
use Rattle.task_model.specs.Terms.Program.{def_term, task_body}
use Rattle.task_model.specs.declared.program.Def.{Def}
use Rattle.task_model.specs.declared.task.Body.{Body}
use Rattle.stride_bound.specs.BoundTerms.{piece_term}
use Rattle.stride_bound.proofs.ListLemmas.{pushed, map_twice}
use Rattle.stride_bound.proofs.pieces.pieces.Goals as goal

pub loop-def-preserved : goal.loop-def-preserved
loop-def-preserved c =
    ap (map piece_term) c.in_ok-push.ensures.items
    ∙ pushed piece_term (λ (d : Def). (def_term d).what) [] c.loop-def.all.items c.as_slice-def-items.result.now c.loop-def.def-index c.what.result
    c.def-item.result c.loop-def-test.true c.def-item.is c.what.ensures c.loop-def.invariant

pub loop-body-init : goal.loop-body-init
loop-body-init c =
    let defs = c.as_slice-def-items.result.now in
    c.loop-def.invariant
    ∙ ap (map (λ (d : Def). (def_term d).what)) (take_all c.loop-def.def-index defs c.loop-def-test.false ∙ c.as_slice-def-items.ensures)
    ∙ sym (append-nil _)

pub loop-body-preserved : goal.loop-body-preserved
loop-body-preserved c =
    ap (map piece_term) c.in_ok-push-2.ensures.items
    ∙ pushed piece_term (λ (b : Body). task_body ((body_term b).task)) (map (λ (d : Def). (def_term d).what) c.args.program.now.defs.list)
    c.loop-body.all.items c.as_slice-body-items.result.now c.loop-body.body-index _ c.body-item.result c.loop-body-test.true c.body-item.is
    (ap (λ t. task_body (task_term t)) c.deref.ensures) c.loop-body.invariant

pub returns : goal.returns
returns c =
    let bodies = c.as_slice-body-items.result.now in
    let p = c.args.program.now in
    c.loop-body.invariant
    ∙ ap (λ l. map (λ (d : Def). (def_term d).what) p.defs.list ++ map (λ (b : Body). task_body ((body_term b).task)) l)
    (take_all c.loop-body.body-index bodies c.loop-body-test.false ∙ c.as_slice-body-items.ensures)
    ∙ ap (λ l. l ++ map (λ (b : Body). task_body ((body_term b).task)) p.bodies.list) (sym (map_twice (λ d. d.what) def_term p.defs.list))
    ∙ ap (λ l. map (λ d. d.what) (map def_term p.defs.list) ++ l) (sym (map_twice (λ b. task_body b.task) body_term p.bodies.list))
