use Rattle.std.proofs.Common.{◌≡◌, ◌∙◌, ◌+◌, ◌<◌, ℕ, List, [], length, drop, get_or, false, refl, sym, nat_eq}
use Rattle.std.proofs.lemmas.List.{drop_more}
use Rattle.std.specs.Cmp.Lexicographic.{pointwise}
use Rattle.task_model.specs.Terms.Rowed.{Rowed}
use Rattle.outer_io.specs.PlainFiles.{held}
use Rattle.outer_io.proofs.plain_files.find.Goals as goal

-- a name that isn't the one is passed over
passed : (names : List (List ℕ)) (contents : List (Rowed ℕ)) (name other : List ℕ) (i : ℕ) → i < length names → i < length contents
    → other ≡ get_or names i other → pointwise nat_eq other name ≡ false → held (drop i names) (drop i contents) name
    ≡ held (drop (i + 1) names) (drop (i + 1) contents) name
passed names contents name other i p q e f =
    let none : Rowed ℕ = record { list = []; spare = 0 } in
    rw (drop_more names i other, drop_more contents i none, ← e, f) refl

pub loop-at-preserved : goal.loop-at-preserved
loop-at-preserved c = c.loop-at.invariant ∙ passed _ _ _ _ _ c.loop-at-test.true c.if-at-contents.false c.index-names-at.is
    (sym c.is.ensures ∙ c.if-is.false)
