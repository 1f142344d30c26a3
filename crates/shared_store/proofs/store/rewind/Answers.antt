use Rattle.std.proofs.Common.{◌≤◌, ◌∷◌, [], length, take, drop, ap, sym, ◌∙◌, rules}
use Rattle.std.proofs.lemmas.List.{drop-append-le}
use Rattle.shared_store.specs.Log.{rewound}
use Rattle.shared_store.proofs.LogLemmas.{rewound_append, take_append, fewer}
use Rattle.shared_store.proofs.store.rewind.Goals as goal

pub loop-log-preserved : goal.loop-log-preserved
loop-log-preserved g c =
    let e = c.in-Some.ensures.items in
    let le : c.args.from ≤ length c.pop.new.self.items = fewer _ _ _ _ e (search rules) in (
      rw c.put_back.ensures (sym (rewound_append (drop c.args.from c.pop.new.self.items) (c.in-Some.entry ∷ []) c.loop-log.values.items)
          ∙ ap (λ z. rewound z c.loop-log.values.items) (sym (drop-append-le c.args.from c.pop.new.self.items (c.in-Some.entry ∷ []) le)
          ∙ ap (drop c.args.from) (sym e))
          ∙ c.loop-log.invariant.0),
      sym (take_append c.args.from c.pop.new.self.items (c.in-Some.entry ∷ []) le) ∙ ap (take c.args.from) (sym e) ∙ c.loop-log.invariant.1,
    )
