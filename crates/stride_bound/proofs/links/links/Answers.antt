use Rattle.std.proofs.Common.{◌+◌, ◌++◌, suc, nat_le, length, map, drop, sym, ap, ◌∙◌, append_assoc, append-nil, add-one}
use Rattle.std.proofs.Math.Seq.{drop-cons}
use Rattle.std.proofs.lemmas.List.{at_drop_all, length-map}
use Rattle.task_model.specs.Terms.Program.{def_term, program_term}
use Rattle.task_model.specs.declared.program.Program.{Program}
use Rattle.task_model.specs.Running.Checked.{SeenChecked}
use Rattle.stride_bound.specs.TextLinks.{links_from, links_of_text}
use Rattle.stride_bound.specs.BoundTerms.{piece_term}
use Rattle.stride_bound.proofs.links.links.Goals as goal

pub loop-from-preserved : goal.loop-from-preserved
loop-from-preserved c =
    let p = program_term c.args.definitions.now.program in
    let n = c.loop-from.from in
    let pieces = c.args.pieces.now in
    let so_far = c.loop-from.all.items in
    let before = ap length (c.as_slice-before.ensures ∙ ap (λ (q : Program). q.defs.list) c.program.ensures.program
    ∙ ap (λ (s : SeenChecked). s.program.defs.list) c.checked.ensures) ∙ sym (length-map c.args.definitions.now.program.defs.list def_term) in
    let w = piece_term c.index-pieces-from.result in
    ap (λ l. l ++ links_from p (n + 1) (map piece_term (drop (n + 1) pieces)))
    (c.in_ok-text_links.ensures ∙ ap (λ k. so_far ++ links_of_text p n (nat_le k n) w) before)
    ∙ append_assoc so_far (links_of_text p n (nat_le (length p.defs) n) w) (links_from p (n + 1) (map piece_term (drop (n + 1) pieces)))
    ∙ ap (λ k. so_far ++ (links_of_text p n (nat_le (length p.defs) n) w ++ links_from p k (map piece_term (drop k pieces)))) (add-one n)
    ∙ ap (λ v. so_far ++ (links_of_text p n (nat_le (length p.defs) n) (piece_term v) ++ links_from p (suc n) (map piece_term (drop (suc n) pieces))))
    c.index-pieces-from.is
    ∙ ap (λ l. so_far ++ links_from p n (map piece_term l)) (sym (drop-cons pieces n c.index-pieces-from.result c.loop-from-test.true))
    ∙ c.loop-from.invariant

pub returns : goal.returns
returns c =
    let p = program_term c.args.definitions.now.program in
    sym (append-nil c.loop-from.all.items)
    ∙ sym (at_drop_all (λ l. c.loop-from.all.items ++ links_from p c.loop-from.from (map piece_term l)) c.args.pieces.now c.loop-from.from
    c.loop-from-test.false)
    ∙ c.loop-from.invariant
