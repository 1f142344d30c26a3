use Rattle.std.proofs.Common.{◌≡◌, ◌≤◌, length, take, drop, ap, ◌∙◌, sym, subst}
use Rattle.std.specs.Prelude.{◌-◌, Some, slice_get}
use Rattle.shared_store.specs.Layered.{Layered}
use Rattle.shared_store.specs.Log.{rewound}
use Rattle.shared_store.proofs.LogLemmas.{last_within, newest_layer, marked}
use Rattle.shared_store.proofs.store.Store.changes.Goals as goal

pub newest-mark-requires : goal.newest-mark-requires
newest-mark-requires g c =
    rw c.as_slice.ensures.value (marked c.self.inside.values.items c.self.inside.log.items c.self.inside.marks.items c.args.self.now
    c.self.view_is c.requires)

pub behind-requires : goal.behind-requires
behind-requires g c =
    let ms = c.self.inside.marks.items in
    let some = marked c.self.inside.values.items c.self.inside.log.items ms c.args.self.now c.self.view_is c.requires in
    let last = subst (λ l. slice_get l (length l - 1) ≡ Some c.newest-mark.result) c.as_slice.ensures.value c.newest-mark.ensures in
    rw c.as_slice-2.ensures.value
    (last_within ms c.newest-mark.result (length c.self.inside.values.items) (length c.self.inside.log.items) some last c.self.invariant).1

pub returns-clause-undone : goal.returns-clause-undone
returns-clause-undone g c =
    let ms = c.self.inside.marks.items in
    let xs = c.self.inside.values.items in
    let m = c.newest-mark.result in
    let some = marked xs c.self.inside.log.items ms c.args.self.now c.self.view_is c.requires in
    let last = subst (λ l. slice_get l (length l - 1) ≡ Some m) c.as_slice.ensures.value c.newest-mark.ensures in
    let entries = c.behind.ensures ∙ ap (drop m.log) c.as_slice-2.ensures.value in
    ap (λ (z : Layered g.row.T.Denot). slice_get z.layers 0) (sym c.self.view_is)
    ∙ newest_layer xs c.self.inside.log.items ms m some last
    ∙ ap (λ l. Some (take m.count (rewound l xs))) (sym entries)
    ∙ ap (λ (z : Layered g.row.T.Denot). Some (take m.count (rewound c.behind.result.now z.list))) c.self.view_is

pub returns-clause-grown : goal.returns-clause-grown
returns-clause-grown g c =
    let ms = c.self.inside.marks.items in
    let m = c.newest-mark.result in
    let some = marked c.self.inside.values.items c.self.inside.log.items ms c.args.self.now c.self.view_is c.requires in
    let last = subst (λ l. slice_get l (length l - 1) ≡ Some m) c.as_slice.ensures.value c.newest-mark.ensures in
    let within = last_within ms m (length c.self.inside.values.items) (length c.self.inside.log.items) some last c.self.invariant in
    subst (λ (z : Layered g.row.T.Denot). m.count ≤ length z.list) c.self.view_is within.0
