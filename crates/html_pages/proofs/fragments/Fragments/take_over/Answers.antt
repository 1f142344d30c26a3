use Rattle.std.proofs.Common.{rules, ◌++◌, length, drop, take, ap, ◌∙◌, arith}
use Rattle.html_pages.specs.Fragments.{chunks_list}
use Rattle.html_pages.proofs.ChunkLemmas.{all_from, all_long, next_taken}
use Rattle.html_pages.proofs.fragments.Fragments.take_over.Goals as goal

pub loop-chunk-init : goal.loop-chunk-init
loop-chunk-init c =
    let front = c.chunks_from-before.ensures in
    let all = c.others.inside.chunks in
    let last = c.others.inside.last.items in
    let tail = c.as_slice-last.ensures.value in
    let before = c.chunks_from-before.result.1 in
    let rest = chunks_list c.chunks_from-before.result.0.now in
    let from = all_from all last rest c.args.from before front.before front.within front.rest in
    let long = all_long all last rest c.args.from before front.before front.within front.rest in
    let whole = ap length c.others.view_is in
    let tails = ap (λ l. length (rest ++ l)) tail in
    let room = c.requires in (
      omega (arith, long, whole, room, tails),
      ap (λ l. c.args.self.now ++ take c.args.count l)
          (ap (λ l. drop before (rest ++ l)) tail ∙ from ∙ ap (drop c.args.from) c.others.view_is),
    )

pub loop-chunk-preserved : goal.loop-chunk-preserved
loop-chunk-preserved c =
    next_taken c.chunks_from-before.result.0.now c.as_slice-last.result.now c.loop-chunk.self c.take_part.new.self c.chunk-item.result _
    c.loop-chunk.chunk-index c.loop-chunk.skip c.loop-chunk.left c.min-at.result c.min-many.result (search rules) (search rules)
    (search rules) (search rules) c.in_ok-take_part.ensures c.loop-chunk.invariant.0 c.loop-chunk.invariant.1
