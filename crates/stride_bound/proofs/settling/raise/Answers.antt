use Rattle.std.proofs.Common.{◌≡◌, ◌<◌, List, length, set, Some, unwrap_or, refl, sym, ap, ◌∙◌, subst}
use Rattle.std.specs.Prelude.{slice_get}
use Rattle.std.proofs.lemmas.Option.{slice_get_read}
use Rattle.task_model.specs.Terms.Program.{program_term}
use Rattle.stride_bound.specs.declared.figures.Figures.{Figures}
use Rattle.stride_bound.specs.Sums.{nothing}
use Rattle.stride_bound.specs.Figures.{tables_of, text_figures}
use Rattle.stride_bound.specs.BoundTerms.{figures_at, piece_term}
use Rattle.stride_bound.specs.Least.{IsBelow}
use Rattle.stride_bound.proofs.ListLemmas.{get_map}
use Rattle.stride_bound.proofs.LeastLemmas.{raised_below}
use Rattle.stride_bound.proofs.settling.raise.Goals as goal

pub returns-clause-below : goal.returns-clause-below
returns-clause-below c =
    let p = program_term c.args.definitions.now.program in
    let old = c.args.figures.now.items in
    let n = c.args.number in
    let w = piece_term c.index-pieces-number.result in
    let is = subst (λ l. slice_get l n ≡ Some w) c.requires.texts
    (get_map piece_term c.args.pieces.now n c.index-pieces-number.result c.requires.within c.index-pieces-number.is) in
    let within = subst (λ k. n < k) (sym c.requires.long) c.requires.within in
    let known : c.index-known.result.now ≡ figures_at old n =
    sym (ap (λ o. unwrap_or o nothing) (slice_get_read old (length old) n c.index-known.result.now refl within c.index-known.ensures)) in
    let found = c.come_to-found.ensures ∙ ap (λ (l : List Figures). text_figures (tables_of p (figures_at l)) w) c.as_slice.ensures.value in
    λ below. subst (λ v. IsBelow p (set old n v)) (sym c.greater.ensures)
    (raised_below p old n w c.index-known.result.now c.come_to-found.result is within known found below)
