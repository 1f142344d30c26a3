use Rattle.std.proofs.Common.{◌≡◌, ◌↔◌, List, map, length, Some, true, rules}
use Rattle.std.specs.Prelude.{slice_get}
use Rattle.std.proofs.lemmas.Result.{IfOk-weaker}
use Rattle.task_model.specs.Terms.Value.{value_term}
use Rattle.task_model.specs.declared.value.Value.{Value}
use Rattle.shared_store.specs.Log.{rewound}
use Rattle.task_engine.proofs.ChangeLemmas.{layer_whole}
use Rattle.task_engine.proofs.unchanged.is_unchanged.Goals as goal

pub returns : goal.returns
returns c =
    let list = c.args.store.now.list in
    let layer = slice_get c.args.store.now.layers 0 in
    let overwritten = c.changes-changes.result.overwritten.now in
    let whole : c.changes-changes.result.count ≡ length list = search rules in
    IfOk-weaker c.are_as_before.result (λ same. (same ≡ true) ↔ (map value_term (rewound overwritten list) ≡ map value_term list))
    (λ same. (σ : List Value) → layer ≡ Some σ → (same ≡ true) ↔ (map value_term list ≡ map value_term σ))
    (λ same told σ e.
    layer_whole layer σ list overwritten c.changes-changes.result.count same c.changes-changes.ensures.undone e whole told)
    (rw c.as_slice-values.ensures at c.are_as_before.ensures)
