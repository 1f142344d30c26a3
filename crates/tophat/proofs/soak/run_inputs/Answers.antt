use Rattle.std.proofs.Common.{sym, ap, ◌∙◌, ◌≡◌, ◌+◌, arith}
use Rattle.task_model.specs.Terms.Input.{entry_term}
use Rattle.input_lines.specs.Soak.{soak_entry_of}
use Rattle.world_core.specs.World.{world_term}
use Rattle.tophat.specs.SoakReport.{tally_term, all_inputs}
use Rattle.tophat.proofs.SoakLemmas.{soaks_step, counts_one, soaks_none}
use Rattle.tophat.proofs.soak.run_inputs.Goals as goal

pub loop-left-init : goal.loop-left-init
loop-left-init c = (omega arith, c.requires, λ u r s. s)

pub give-requires-clause-room : goal.give-requires-clause-room
give-requires-clause-room c =
    let all = c.loop-left.invariant.0 in
    let some = c.loop-left-test.true in
    let fits = c.ranges.count.fits in
    omega (arith, all, some, fits)

pub loop-left-preserved : goal.loop-left-preserved
loop-left-preserved c =
    let old = tally_term c.loop-left.tally in
    let new = tally_term c.give.new.self in
    let given = c.in_ok-give.ensures.given in
    let all = c.loop-left.invariant.0 in
    let some = c.loop-left-test.true in
    let one : all_inputs new ≡ all_inputs old + 1 = counts_one old new given.0 given.3 in (
      omega (arith, all, some, one),
      c.in_ok-give.ensures.rest,
      λ u r s.
          c.loop-left.invariant.2 u r
          (soaks_step c.loop-left.left c.loop-left.state c.in_ok-next.next (world_term c.loop-left.world) (world_term c.give.new.world) u
          old
          new r (entry_term c.in_ok-next.entry) some c.in_ok-next.ensures.state
          (c.in_ok-next.ensures.entry ∙ ap soak_entry_of (sym c.in_ok-next.ensures.state)) given s),
    )

pub returns-clause-inputs : goal.returns-clause-inputs
returns-clause-inputs c =
    let none : c.loop-left.left ≡ 0 = omega (arith, c.loop-left-test.false) in
    c.loop-left.invariant.2 (world_term c.loop-left.world) (tally_term c.loop-left.tally)
    (soaks_none c.loop-left.left c.loop-left.state (world_term c.loop-left.world) (tally_term c.loop-left.tally) none)
