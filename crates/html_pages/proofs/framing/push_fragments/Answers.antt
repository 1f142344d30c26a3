use Rattle.std.specs.Prelude.{string_bytes}
use Rattle.std.proofs.Common.{rules, ◌++◌, ap, ◌∙◌}
use Rattle.html_pages.specs.Fragments.{fragments_text}
use Rattle.html_pages.proofs.Pieces.{on_ok}
use Rattle.html_pages.proofs.ChunkLemmas.{last_texts, next_texts}
use Rattle.html_pages.proofs.framing.push_fragments.Goals as goal

pub loop-chunk-preserved : goal.loop-chunk-preserved
loop-chunk-preserved c =
    next_texts c.args.face c.parts.result.0.now c.loop-chunk.chunk-index c.chunk-item.result (string_bytes c.loop-chunk.text)
    (string_bytes c.push_texts.new.text) _ (search rules) (search rules)
    (c.in_ok-push_texts.ensures ∙ ap (λ fs. string_bytes c.loop-chunk.text ++ fragments_text c.args.face fs) c.as_slice.ensures)
    c.loop-chunk.invariant

pub returns : goal.returns
returns c =
    on_ok c.push_texts-2.result
    (last_texts c.args.face c.parts.result.0.now c.parts.result.1.now c.args.list.now c.loop-chunk.chunk-index
    (string_bytes c.args.text.now) (string_bytes c.loop-chunk.text) (string_bytes c.push_texts-2.new.text) (search rules)
    c.parts.ensures c.loop-chunk.invariant) c.push_texts-2.ensures
