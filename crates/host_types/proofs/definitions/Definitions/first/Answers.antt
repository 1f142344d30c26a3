use Rattle.std.proofs.Common.{◌<◌, map, length, sym, ◌∙◌, arith}
use Rattle.std.proofs.lemmas.List.{length-map}
use Rattle.task_model.specs.Terms.Program.{def_term}
use Rattle.host_types.proofs.ScopeLemmas.{stands_at, found_is}
use Rattle.host_types.proofs.definitions.Definitions.first.Goals as goal

pub returns-in-Some : goal.returns-in-Some
returns-in-Some c =
    let defs = c.args.self.now.defs.now in
    let n = c.in_ok-index.field-0.now in
    let at = stands_at 0 (map def_term defs) c.args.name.now n
    (sym (c.args.self.now.numbered c.args.name.now) ∙ sym c.in_ok-index.ensures.value) in
    found_is defs n c.in-Some.def.now _ at c.in-Some.ensures.lookup.1

pub returns-in-None : goal.returns-in-None
returns-in-None c =
    let defs = c.args.self.now.defs.now in
    let n = c.in_ok-index.field-0.now in
    let at = stands_at 0 (map def_term defs) c.args.name.now n
    (sym (c.args.self.now.numbered c.args.name.now) ∙ sym c.in_ok-index.ensures.value) in
    let h = at.within in
    let e = length-map defs def_term in
    let within : n < length defs = omega (arith, h, e) in
    let no = c.in-None.ensures.lookup.2 within in
    absurd cc
