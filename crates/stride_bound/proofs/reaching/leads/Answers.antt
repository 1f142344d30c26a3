use Rattle.std.proofs.Common.{◌≡◌, ◌<◌, get_or, length, Bool, true, subst, sym, ap, refl, ◌∙◌, IsTrue, Vec, Global, rules}
use Rattle.stride_bound.specs.TextMarks.{mark_at}
use Rattle.stride_bound.proofs.MarkLemmas.{Reaches, reaches_first, reaches_more, reaches_spread, reaches_all}
use Rattle.std.proofs.lemmas.Option.{slice_get_read}
use Rattle.stride_bound.proofs.reaching.leads.Goals.{in-Some, in_default}
use Rattle.stride_bound.proofs.reaching.leads.Goals as goal

pub loop-number-init : goal.loop-number-init
loop-number-init c = reaches_first c.args.links.now c.args.count c.args.from _ c.requires.start c.in_ok-marked.ensures

pub loop-number-preserved : goal.loop-number-preserved
loop-number-preserved c =
    let links = c.args.links.now in
    let count = c.args.count in
    let s = c.args.from in
    let old = c.loop-number.marked.items in
    elim c.match-get.branch [
      | in-Some w ↦
          let h = w.in-Some.ensures.lookup in
          let n = get_or c.args.hints.now c.loop-number.number-index 0 in
          let is = slice_get_read links (length links) n w.in-Some.link.now refl h.3.0 h.1 in
          let within = subst (λ k. w.in-Some.link.now.to < k) (sym c.loop-number.invariant.long) (c.requires.within n w.in-Some.link.now is).1 in
          subst (λ (v : Vec Bool Global). Reaches links count s v.items) (sym w.marked-is)
          (reaches_spread links count s n w.in-Some.link.now old w.spread.new.marked.items w.spread.result c.loop-number.invariant is within
          w.spread.ensures.marks w.spread.ensures.leaves)
      | in_default w ↦ subst (λ (v : Vec Bool Global). Reaches links count s v.items) (sym w.marked-is) c.loop-number.invariant
    ]

pub loop-preserved : goal.loop-preserved
loop-preserved c =
    reaches_more c.args.links.now c.args.count c.args.from c.loop.marked.items c.spread_all.new.marked.items c.loop.invariant
    c.spread_all.ensures.long (c.spread_all.ensures.sound c.args.from) (c.spread_all.ensures.kept c.args.from)

pub loop-smaller : goal.loop-smaller
loop-smaller c = c.spread_all.ensures.falls c.loop-test.true

pub returns : goal.returns
returns c =
    let links = c.args.links.now in
    let s = c.args.from in
    let t = c.args.to in
    let done = c.spread_all.ensures.closed c.loop-test.false in
    let so_far = c.loop.invariant in
    let marks = subst (Reaches links c.args.count s) (sym done.0) so_far in
    let mark = c.is_marked.ensures ∙ ap (λ ms. mark_at ms t) c.as_slice.ensures.value in (
      λ on. marks.sound t (sym mark ∙ is_true on),
      λ leads. true_is (mark ∙ reaches_all links c.spread_all.new.marked.items done.1 s t leads marks.start),
    )
  where
    is_true : {b : Bool} → IsTrue b → b ≡ true
    is_true {b} h = search rules

    true_is : {b : Bool} → b ≡ true → IsTrue b
    true_is {b} e = search rules
