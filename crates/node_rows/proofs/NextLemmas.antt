-- Rows that are taken over behind others.
use Rattle.std.proofs.Common.{◌≡◌, ℕ, ◌+◌, ◌-◌, ◌≤◌, List, ◌++◌, take, drop, sym, ap, ◌∙◌, append_assoc, arith}
use Rattle.std.proofs.Math.Seq.{take-add}
use Rattle.std.proofs.lemmas.List.{drop-drop}
use Rattle.html_pages.specs.Fragments.{FragmentTerm}
use Rattle.node_rows.specs.declared.signs.Signs.{Signs}
use Rattle.node_rows.specs.Rows.{RowsTerm, fragments_taken, rows_append, rows_part, signs_taken}

-- rows of these lists
abbrev pub rows_with : List Signs → List ℕ → List FragmentTerm → RowsTerm
rows_with xs ns ys = record { signs = xs; sizes = ns; fragments = ys }

-- what stands from a number on, up to another one, and from there on up to a third
two_runs : {A : Type 0} (from to end : ℕ) (xs : List A) → from ≤ to → to ≤ end
    → take (end - from) (drop from xs) ≡ take (to - from) (drop from xs) ++ take (end - to) (drop to xs)
two_runs from to end xs one two =
    ap (λ n. take n (drop from xs)) {x = end - from} {y = (to - from) + (end - to)} (omega (arith, one, two))
    ∙ take-add (to - from) (end - to) (drop from xs)
    ∙ ap (λ l. take (to - from) (drop from xs) ++ take (end - to) l)
    (drop-drop (to - from) from xs ∙ ap (λ n. drop n xs) {x = from + (to - from)} {y = to} (omega (arith, one)))

-- rows of which the last fragments are still to come, and behind them those that follow
pub run_grown : (before now old older : RowsTerm) (from to at end : ℕ) → from ≤ to → at ≡ to → at ≤ end
    → now ≡ signs_taken before at (end - at) older → old ≡ fragments_taken before from (to - from) older
    → fragments_taken now from (end - from) older ≡ rows_append old (rows_part at (end - at) older)
run_grown before now old older from to at end one same two n o =
    let first = take (at - from) (drop from older.fragments) in
    let later = take (end - at) (drop at older.fragments) in
    let behind = ap (λ l. before.fragments ++ l) (two_runs from at end older.fragments (omega (arith, one, same)) two)
    ∙ sym (append_assoc before.fragments first later) in
    ap (λ r. fragments_taken r from (end - from) older) n
    ∙ ap (λ l. rows_with (before.signs ++ take (end - at) (drop at older.signs)) (before.sizes ++ take (end - at) (drop at older.sizes)) l) behind
    ∙ ap (λ r. rows_append r (rows_part at (end - at) older))
    (sym (o ∙ ap (λ m. fragments_taken before from (m - from) older) (sym same)))
