use Rattle.std.proofs.Common.{◌<◌, map, length, sym, ap, ◌∙◌, arith}
use Rattle.std.proofs.lemmas.List.{length-map}
use Rattle.task_model.specs.Terms.Program.{def_term}
use Rattle.task_model.specs.Checking.Names.{first_named}
use Rattle.task_model.specs.Running.Checked.{SeenChecked}
use Rattle.host_types.proofs.ScopeLemmas.{stands_at, found_is}
use Rattle.host_eval.proofs.definitions.Definitions.first.Goals as goal

pub unreachable-requires : goal.unreachable-requires
unreachable-requires c =
    let defs = c.self.inside.checked.program.defs.list in
    let n = c.in_ok-number.field-0.now in
    let at = stands_at 0 (map def_term defs) c.args.name.now n
    (sym (c.self.invariant c.args.name.now) ∙ sym (rw c.as_str.ensures at c.in_ok-number.ensures.value)) in
    let h = at.within in
    let e = length-map defs def_term in
    let within : n < length defs = omega arith in
    let no = (rw (c.as_slice.ensures, c.program.ensures.program) at c.in-None.ensures.lookup.2) within in
    absurd cc

pub returns : goal.returns
returns c =
    let defs = c.self.inside.checked.program.defs.list in
    let n = c.in_ok-number.field-0.now in
    let at = stands_at 0 (map def_term defs) c.args.name.now n
    (sym (c.self.invariant c.args.name.now) ∙ sym (rw c.as_str.ensures at c.in_ok-number.ensures.value)) in
    sym (ap (λ (z : SeenChecked). first_named 0 (map def_term z.program.defs.list) c.args.name.now) c.self.view_is)
    ∙ found_is defs n c.in-Some.def.now _ at (rw (c.as_slice.ensures, c.program.ensures.program) at c.in-Some.ensures.lookup.1)
