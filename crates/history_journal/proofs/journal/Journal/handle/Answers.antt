-- What a journal keeps, and what a crash leaves, after each part of an event.
use Rattle.std.proofs.Common.{◌≡◌, ◌∙◌, ap, arith, length, subst, refl, true, false}
use Rattle.outer_disks.specs.Disks.{IsHonest, LeavesOnly}
use Rattle.outer_disks.specs.declared.disk.DiskDone.TheVariants as done
use Rattle.task_model.specs.Terms.Input.{EntryTerm, input_term}
use Rattle.world_core.specs.World.{world_term}
use Rattle.world_core.proofs.RunLemmas.{replies_taken}
use Rattle.history_journal.specs.NotTaken.{IsNotTaken}
use Rattle.history_journal.specs.Journals.{IsBeforeOrTaken, TakesOn}
use Rattle.history_journal.specs.declared.stops.KeepStop.TheVariants as keeps
use Rattle.history_journal.proofs.Events.{kept_on, any_appended, now_appended, not_offered_there, over_there, takes_there, long_there, takes_on}
use Rattle.history_journal.proofs.journal.Journal.handle.Goals as goal

pub returns-in-Err-NotOffered-clause-why : goal.returns-in-Err-NotOffered-clause-why
returns-in-Err-NotOffered-clause-why g c =
    let e : EntryTerm = record { seat = c.args.seat; input = input_term c.args.input } in
    let w = world_term c.self.inside.world in
    subst (λ j. IsNotTaken g.D.Disk.told (world_term j.world) e j.closed c.self.inside.closed j.disk c.self.inside.disk keeps.NotOffered) c.self.view_is
    (not_offered_there w (world_term c.stage.new.world) e c.in-Err-NotOffered.field-0 c.in-Err-NotOffered.field-0-is c.in-Err-NotOffered.ensures.stages, refl, refl)

pub returns-in-Err-Over-clause-why : goal.returns-in-Err-Over-clause-why
returns-in-Err-Over-clause-why g c =
    let e : EntryTerm = record { seat = c.args.seat; input = input_term c.args.input } in
    let w = world_term c.self.inside.world in
    subst (λ j. IsNotTaken g.D.Disk.told (world_term j.world) e j.closed c.self.inside.closed j.disk c.self.inside.disk keeps.Over) c.self.view_is
    (over_there w (world_term c.stage.new.world) e c.in-Err-Over.field-0 c.in-Err-Over.field-0-is c.in-Err-Over.ensures.stages, refl, refl)

pub invariant_of-self-in-Done : goal.invariant_of-self-in-Done
invariant_of-self-in-Done g c =
    let told = g.D.Disk.told in
    let e : EntryTerm = record { seat = c.args.seat; input = input_term c.args.input } in
    let w = world_term c.self.inside.world in
    let r = replies_taken w (world_term c.stage.new.world) (world_term c.commit.new.self) e c.commit.result c.in-Ok.ensures.stages c.commit.ensures.commits in
    kept_on (told c.self.inside.disk) (told c.keep.new.disk) w e c.self.inside.gate c.self.inside.closed c.self.invariant
    c.as_slice.result.now (c.as_slice.ensures ∙ c.in-Ok.ensures.record) c.in-Done.ensures.when.0 (world_term c.commit.new.self) r.0 c.in-Done.gate r.2
    c.in-Done.ensures.when.1 c.keep.ensures.honest c.in-Done.ensures.appends

pub returns-in-Done-clause-ok : goal.returns-in-Done-clause-ok
returns-in-Done-clause-ok g c =
    let e : EntryTerm = record { seat = c.args.seat; input = input_term c.args.input } in
    subst (λ j. TakesOn (world_term j.world) e (world_term c.commit.new.self) j.closed c.self.inside.closed) c.self.view_is
    (takes_on (world_term c.self.inside.world) (world_term c.stage.new.world) (world_term c.commit.new.self) e c.commit.result c.self.inside.closed c.self.inside.closed
    c.in-Ok.ensures.stages c.commit.ensures.commits c.if-self.false c.if-self.false)

pub returns-in-Done-clause-any_moment : goal.returns-in-Done-clause-any_moment
returns-in-Done-clause-any_moment g c =
    let told = g.D.Disk.told in
    let e : EntryTerm = record { seat = c.args.seat; input = input_term c.args.input } in
    let w = world_term c.self.inside.world in
    subst (λ j. j.closed ≡ false → IsHonest (told j.disk) → LeavesOnly (told j.disk) (told c.keep.new.disk) (IsBeforeOrTaken (world_term j.world) e)) c.self.view_is
    (λ free honest. any_appended (told c.self.inside.disk) (told c.keep.new.disk) w e c.self.inside.gate c.self.inside.closed c.self.invariant
    c.as_slice.result.now (c.as_slice.ensures ∙ c.in-Ok.ensures.record) c.in-Done.ensures.when.0 done.Done free honest
    (takes_there w (world_term c.stage.new.world) e c.in-Ok.ensures.stages) c.in-Done.ensures.appends)

pub returns-in-Fault-clause-any_moment : goal.returns-in-Fault-clause-any_moment
returns-in-Fault-clause-any_moment g c =
    let told = g.D.Disk.told in
    let e : EntryTerm = record { seat = c.args.seat; input = input_term c.args.input } in
    let w = world_term c.self.inside.world in
    subst (λ j. j.closed ≡ false → IsHonest (told j.disk) → LeavesOnly (told j.disk) (told c.keep.new.disk) (IsBeforeOrTaken (world_term j.world) e)) c.self.view_is
    (λ free honest. any_appended (told c.self.inside.disk) (told c.keep.new.disk) w e c.self.inside.gate c.self.inside.closed c.self.invariant
    c.as_slice.result.now (c.as_slice.ensures ∙ c.in-Ok.ensures.record) c.in-Fault.ensures.when.0 done.Failed free honest
    (takes_there w (world_term c.stage.new.world) e c.in-Ok.ensures.stages) c.in-Fault.ensures.appends)

pub returns-in-Fault-clause-why : goal.returns-in-Fault-clause-why
returns-in-Fault-clause-why g c =
    let told = g.D.Disk.told in
    let e : EntryTerm = record { seat = c.args.seat; input = input_term c.args.input } in
    let w = world_term c.self.inside.world in
    let takes = takes_there w (world_term c.stage.new.world) e c.in-Ok.ensures.stages in
    subst (λ j. IsNotTaken told (world_term j.world) e j.closed true j.disk c.keep.new.disk keeps.DiskFault) c.self.view_is (
      takes,
      c.in-Fault.ensures.when.1,
      refl,
      λ honest left there. now_appended (told c.self.inside.disk) (told c.keep.new.disk) w e c.self.inside.gate
          c.self.inside.closed c.self.invariant c.as_slice.result.now (c.as_slice.ensures ∙ c.in-Ok.ensures.record) c.in-Fault.ensures.when.0 done.Failed
          c.if-self.false honest takes c.in-Fault.ensures.appends left there,
    )

pub returns-in-Long-clause-why : goal.returns-in-Long-clause-why
returns-in-Long-clause-why g c =
    let told = g.D.Disk.told in
    let e : EntryTerm = record { seat = c.args.seat; input = input_term c.args.input } in
    let w = world_term c.self.inside.world in
    subst (λ j. IsNotTaken told (world_term j.world) e j.closed c.self.inside.closed j.disk c.keep.new.disk (keeps.LongEntry c.in-Long.length)) c.self.view_is
    (long_there w (world_term c.stage.new.world) e c.as_slice.result.now c.in-Long.length (c.as_slice.ensures ∙ c.in-Ok.ensures.record) c.in-Ok.ensures.stages
    c.in-Long.ensures.when.0 c.in-Long.ensures.when.1 told c.self.inside.closed c.self.inside.disk c.keep.new.disk c.in-Long.ensures.left)

pub returns-in-Done-clause-short : goal.returns-in-Done-clause-short
returns-in-Done-clause-short g c =
    let short = c.in-Done.ensures.when.0 in
    omega (arith, short, ap length (c.as_slice.ensures ∙ c.in-Ok.ensures.record))
