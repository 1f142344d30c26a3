use Rattle.std.proofs.Common.{sym}
use Rattle.std.specs.Prelude.{slice_get, nat_eq}
use Rattle.std.specs.HashSet.{contains}
use Rattle.kept_nodes.proofs.ChangeLemmas.{layer_long, layer_differs}
use Rattle.kept_nodes.proofs.changed.changed_places.Goals as goal

pub returns : goal.returns
returns c = λ σ e.
    let list = c.args.store.now.list in
    let layer = slice_get c.args.store.now.layers 0 in
    let ws = c.changes-changes.result.overwritten.now in
    let count = c.changes-changes.result.count in
    let undone = c.changes-changes.ensures.undone in
    let within = c.changes-changes.ensures.grown in
    let told = rw c.as_slice-values.ensures at c.in_ok-places.ensures in
    record {
      count = sym (layer_long layer σ list ws count undone e within);
      places = layer_differs layer σ list ws count undone e within (contains nat_eq c.in_ok-places.places) told;
    }
