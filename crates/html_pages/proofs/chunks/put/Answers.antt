use Rattle.std.proofs.Common.{rules, ◌≡◌, ◌-◌, ◌+◌, ◌++◌, ◌∷◌, [], length, sym, ap, ap₂, ◌∙◌, arith}
use Rattle.html_pages.specs.Fragments.{chunks_list, chunk_starts}
use Rattle.html_pages.proofs.ChunkLemmas.{chunks_list_merged, chunks_list_push, starts_merged, starts_push}
use Rattle.html_pages.proofs.chunks.put.Goals as goal

-- ---- the last chunk and this one become one
pub returns-then-saturating_add-le-CHUNK-clause-list : goal.returns-then-saturating_add-le-CHUNK-clause-list
returns-then-saturating_add-le-CHUNK-clause-list c =
    chunks_list_merged c.args.list.now.items (c.len-many.result - 1) c.in_ok-both.both c.args.chunk
    c.index-then-saturating_add-le-CHUNK.result.now (search rules)
    (c.in_ok-both.ensures ∙ ap₂ (λ a b. a ++ b) (c.as_slice.ensures ∙ c.index-then-saturating_add-le-CHUNK.ensures)
    c.as_slice-then-saturating_add-le-CHUNK.ensures)

pub returns-then-saturating_add-le-CHUNK-clause-starts : goal.returns-then-saturating_add-le-CHUNK-clause-starts
returns-then-saturating_add-le-CHUNK-clause-starts c =
    c.requires.starts
    ∙ sym (starts_merged 0 c.args.list.now.items (c.len-many.result - 1) c.in_ok-both.both (search rules))

-- ---- it stands by itself
pub returns-clause-list : goal.returns-clause-list
returns-clause-list c = ap chunks_list c.in_ok-append.ensures.list ∙ chunks_list_push c.args.list.now.items c.args.chunk

pub returns-clause-starts : goal.returns-clause-starts
returns-clause-starts c =
    let long = length (chunks_list c.args.list.now.items) in
    let start : c.args.start ≡ long = c.requires.start in
    let before : c.args.start ≡ 0 + long = omega (arith, start) in
    c.in_ok-append.ensures.starts ∙ ap₂ (λ ns n. ns ++ n ∷ []) c.requires.starts before
    ∙ sym (starts_push 0 c.args.list.now.items c.args.chunk) ∙ sym (ap (chunk_starts 0) c.in_ok-append.ensures.list)
