use Rattle.std.proofs.Common.{◌∙◌, sym, arith}
use Rattle.host_eval.proofs.NameLemmas.{last_is, last_other}
use Rattle.host_eval.proofs.names.found_at.Goals as goal

pub returns-then-is_named : goal.returns-then-is_named
returns-then-is_named g c = c.loop-end.invariant.found
    ∙ last_is g.N.Named.spelling c.args.names.now c.args.slots.now c.loop-end.end c.loop-end-test.true c.loop-end.invariant.within
    c.requires.paired c.index-names-end.result c.index-names-end.is c.args.name.now c.index-slots-end.result c.index-slots-end.is
    (sym c.is_named.ensures ∙ c.if-is_named.true)

pub loop-end-preserved : goal.loop-end-preserved
loop-end-preserved g c =
    let within = c.loop-end.invariant.within in
    record {
      within = omega arith;
      found =
          c.loop-end.invariant.found
          ∙ last_other g.N.Named.spelling c.args.names.now c.args.slots.now c.loop-end.end c.loop-end-test.true within c.requires.paired
          c.index-names-end.result c.index-names-end.is c.args.name.now (sym c.is_named.ensures ∙ c.if-is_named.false);
    }
