use Rattle.std.specs.Prelude.{string_bytes}
use Rattle.std.proofs.Common.{◌≡◌, ◌++◌, drop}
use Rattle.html_pages.specs.Fragments.{fragments_text, chunks_list}
use Rattle.html_pages.proofs.framing.push_fragments.Given as goal

abbrev pub invariant-loop-chunk : goal.invariant-loop-chunk
invariant-loop-chunk l =
    string_bytes l.text ++ fragments_text l.face (chunks_list (drop l.chunk-index l.chunks))
    ≡ string_bytes l.fn.text ++ fragments_text l.face (chunks_list l.chunks)
