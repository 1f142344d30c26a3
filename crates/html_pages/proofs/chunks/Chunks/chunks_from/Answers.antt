use Rattle.std.proofs.Common.{◌+◌, ◌-◌, ◌/◌, length, drop, take, ap, ap₂, ◌∙◌, arith, length-drop}
use Rattle.std.proofs.lemmas.List.{take_all}
use Rattle.html_pages.specs.Fragments.{chunks_list}
use Rattle.html_pages.proofs.ChunkLemmas.{starts_long, start_is, rest_from, within_from}
use Rattle.html_pages.proofs.chunks.Chunks.chunks_from.Goals as goal

pub index-before-requires : goal.index-before-requires
index-before-requires c =
    let long = ap length c.self.invariant.1 ∙ starts_long 0 c.self.inside.list.items in
    let within = c.loop-high.invariant.1 in
    let more = c.loop-high-test.true in
    omega (arith, long, within, more)

pub loop-high-preserved-then-before-number : goal.loop-high-preserved-then-before-number
loop-high-preserved-then-before-number c =
    let chunks = c.self.inside.list.items in
    let middle = c.loop-high.low + (c.loop-high.high - c.loop-high.low) / 2 in
    let within = c.loop-high.invariant.1 in
    let more = c.loop-high-test.true in
    let is = start_is chunks c.self.inside.starts.items middle c.index-before.result.now c.self.invariant.1 (omega (arith, within, more))
    c.index-before.ensures in
    (omega (arith, more), within, c.if-before-number.true, is)

pub returns-clause-within : goal.returns-clause-within
returns-clause-within c =
    let chunks = c.self.inside.list.items in
    let all = within_from chunks c.loop-high.low in
    let start = c.loop-high.invariant.3 in
    let le = c.loop-high.invariant.2 in
    let is = ap length c.self.view_is in
    omega (arith, all, start, le, is)

pub returns-clause-rest : goal.returns-clause-rest
returns-clause-rest c =
    let chunks = c.self.inside.list.items in
    let start = c.loop-high.invariant.3 in
    let le = c.loop-high.invariant.2 in
    ap chunks_list
    (take_all _ (drop c.loop-high.low c.deref.result.now) (omega (arith, length-drop c.loop-high.low c.deref.result.now))
    ∙ ap (drop c.loop-high.low) c.deref.ensures.value)
    ∙ rest_from chunks c.loop-high.low
    ∙ ap₂ drop {x = length (chunks_list (take c.loop-high.low chunks))} {y = c.args.number - (c.args.number - c.loop-high.start)}
    (omega (arith, start, le)) c.self.view_is
