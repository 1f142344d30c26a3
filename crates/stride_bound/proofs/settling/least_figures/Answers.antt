use Rattle.std.proofs.Common.{length, Vec, Global, subst, sym}
use Rattle.task_model.specs.Terms.Program.{program_term}
use Rattle.stride_bound.specs.declared.figures.Figures.{Figures}
use Rattle.stride_bound.proofs.LeastLemmas.{Climbs, climbs_first, climbs_more, climbs_least}
use Rattle.stride_bound.proofs.settling.least_figures.Goals.{then-number-pieces, else-number-pieces}
use Rattle.stride_bound.proofs.settling.least_figures.Goals as goal

pub loop-number-init : goal.loop-number-init
loop-number-init c = climbs_first (program_term c.args.definitions.now.program) (length c.args.pieces.now) _ c.in_ok-figures.ensures

pub loop-number-preserved : goal.loop-number-preserved
loop-number-preserved c =
    let p = program_term c.args.definitions.now.program in
    let count = length c.args.pieces.now in
    elim c.if-number-pieces.branch [
      | then-number-pieces w ↦ subst (λ (v : Vec Figures Global). Climbs p count v.items) (sym w.figures-is)
          (climbs_more p count c.loop-number.figures.items w.raise.new.figures.items c.loop-number.invariant w.raise.ensures.long
          w.raise.ensures.below)
      | else-number-pieces w ↦ subst (λ (v : Vec Figures Global). Climbs p count v.items) (sym w.figures-is) c.loop-number.invariant
    ]

pub loop-preserved : goal.loop-preserved
loop-preserved c =
    climbs_more (program_term c.args.definitions.now.program) (length c.args.pieces.now) c.loop.figures.items c.raise_all.new.figures.items
    c.loop.invariant c.raise_all.ensures.long c.raise_all.ensures.below

pub loop-smaller : goal.loop-smaller
loop-smaller c = c.raise_all.ensures.raises c.loop-test.true

pub returns : goal.returns
returns c =
    let p = program_term c.args.definitions.now.program in
    let count = length c.args.pieces.now in
    let leaves = c.raise_all.ensures.leaves c.loop-test.false in
    climbs_least p count c.raise_all.new.figures.items (subst (Climbs p count) (sym leaves.0) c.loop.invariant) leaves.1
