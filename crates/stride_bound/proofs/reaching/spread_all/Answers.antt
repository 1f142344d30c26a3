use Rattle.std.proofs.Common.{◌+◌, subst, sym, arith}
use Rattle.std.proofs.lemmas.Option.{slice_get-get_or, slice_get_within}
use Rattle.stride_bound.proofs.MarkLemmas.{Spreads, none_spread, spread_more, spread_same}
use Rattle.stride_bound.proofs.reaching.spread_all.Goals.{then-spread, else-spread}
use Rattle.stride_bound.proofs.reaching.spread_all.Goals as goal

pub loop-link-init : goal.loop-link-init
loop-link-init c = none_spread c.args.links.now c.args.marked.now.items

pub loop-link-preserved : goal.loop-link-preserved
loop-link-preserved c =
    let links = c.args.links.now in
    let i = c.loop-link.link-index in
    let old = c.args.marked.now.items in
    elim c.if-spread.branch [
      | then-spread w ↦
          let marks = c.spread.ensures.marks w.if-spread.true in
          subst (Spreads links (i + 1) old c.spread.new.marked.items) (sym w.changed-is)
          (spread_more links i _ old c.loop-link.marked.items c.spread.new.marked.items c.loop-link.changed c.loop-link.invariant
          (slice_get-get_or links i _ c.loop-link-test.true) c.requires marks.0 marks.1 marks.2)
      | else-spread w ↦
          let leaves = c.spread.ensures.leaves w.if-spread.false in
          subst (Spreads links (i + 1) old c.spread.new.marked.items) (sym w.changed-is)
          (spread_same links i _ old c.loop-link.marked.items c.spread.new.marked.items c.loop-link.changed c.loop-link.invariant
          (slice_get-get_or links i _ c.loop-link-test.true) leaves.1 leaves.0)
    ]

pub returns : goal.returns
returns c = record {
  long = c.loop-link.invariant.long;
  sound = c.loop-link.invariant.sound;
  kept = c.loop-link.invariant.kept;
  falls = c.loop-link.invariant.falls;
  closed = λ no. (
    c.loop-link.invariant.same no,
    λ i l is. c.loop-link.invariant.closed no i l (let w = slice_get_within c.args.links.now i l is in omega (arith, w, c.loop-link-test.false)) is,
  );
}
