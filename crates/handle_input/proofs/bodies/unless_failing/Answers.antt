use Rattle.std.proofs.Common.{◌≡◌, Option, None, Some, map, Ok, Err, refl}
use Rattle.std.specs.Prelude.{slice_get, IfSome, IsSome}
use Rattle.task_model.specs.Terms.Value.{value_term}
use Rattle.task_model.specs.Terms.Tree.{tree_term, at}
use Rattle.task_model.specs.declared.tree.Tree.{Tree}
use Rattle.task_model.specs.Running.Checked.{checked_term}
use Rattle.task_model.specs.Running.Plan.{fails, normal}
use Rattle.task_laws.proofs.RanLemmas.{stopped, ran_give, ran_ask, ran_ask_stops}
use Rattle.typing_laws.proofs.CallLemmas.{well_ask, well_next}
use Rattle.host_eval.specs.NamesTerm.{names_term}
use Rattle.handle_input.proofs.HandledLemmas.{asked_spent}
use Rattle.handle_input.proofs.bodies.unless_failing.Goals as goal

-- what is said of each value that there is, is said of what there is
if_found : {X : Type 0} {P : X → Type 0} (o : Option X) → ((x : X) → o ≡ Some x → P x) → IfSome o P
if_found None f = tt
if_found (Some x) f = f x refl

by_found : {X P : Type 0} (o : Option X) → IsSome o → ((x : X) → o ≡ Some x → P) → P
by_found None some f = absurd cc
by_found (Some x) some f = f x refl

pub normalise_body-requires-clause-may : goal.normalise_body-requires-clause-may
normalise_body-requires-clause-may c =
    if_found (slice_get (checked_term c.args.engine.now).program.bodies c.args.body)
    (λ own is. well_ask (rw is at c.requires.well))

pub failing-requires : goal.failing-requires
failing-requires c = record {
  may = by_found (slice_get (checked_term c.args.engine.now).program.bodies c.args.body) c.requires.body
      (λ own is.
      let asked = asked_spent (checked_term c.args.engine.now)
      (normal own.task (names_term c.args.names.now) (map value_term c.args.store.now.list))
      (λ (u : Tree). at (tree_term u) (map value_term c.normalise_body.new.store.list)) c.args.purse.now c.normalise_body.new.purse
      (Ok c.in_ok-u.u) (rw is at c.in_ok-u.ensures.spends) in
      well_ask (well_next c.requires.accepted (rw is at c.requires.well) asked));
}

pub returns-in_err-u-clause-ran : goal.returns-in_err-u-clause-ran
returns-in_err-u-clause-ran c =
    if_found (slice_get (checked_term c.args.engine.now).program.bodies c.args.body)
    (λ own is.
    let asked = asked_spent (checked_term c.args.engine.now)
    (normal own.task (names_term c.args.names.now) (map value_term c.args.store.now.list))
    (λ (u : Tree). at (tree_term u) (map value_term c.normalise_body.new.store.list)) c.args.purse.now c.normalise_body.new.purse
    (Err c.in_err-u.field-0.0) (rw is at c.in_err-u.ensures.spends) in
    rw (stopped _ c.in_err-u.field-0.0 c.from_residual.ensures.1) (ran_ask_stops _ asked))

pub returns-in_err-no-clause-ran : goal.returns-in_err-no-clause-ran
returns-in_err-no-clause-ran c =
    if_found (slice_get (checked_term c.args.engine.now).program.bodies c.args.body)
    (λ own is.
    let asked = asked_spent (checked_term c.args.engine.now)
    (normal own.task (names_term c.args.names.now) (map value_term c.args.store.now.list))
    (λ (u : Tree). at (tree_term u) (map value_term c.normalise_body.new.store.list)) c.args.purse.now c.normalise_body.new.purse
    (Ok c.in_ok-u.u) (rw is at c.in_ok-u.ensures.spends) in
    let failed = asked_spent (checked_term c.args.engine.now)
    (fails (at (tree_term c.in_ok-u.u) (map value_term c.normalise_body.new.store.list))) (λ b. b) c.normalise_body.new.purse
    c.failing.new.purse (Err c.in_err-no.field-0.0) c.in_err-no.ensures.spends in
    rw (stopped _ c.in_err-no.field-0.0 c.from_residual-in_err-no.ensures.1) (ran_ask _ asked (ran_ask_stops _ failed)))

pub returns-then-no-clause-ran : goal.returns-then-no-clause-ran
returns-then-no-clause-ran c =
    if_found (slice_get (checked_term c.args.engine.now).program.bodies c.args.body)
    (λ own is.
    let asked = asked_spent (checked_term c.args.engine.now)
    (normal own.task (names_term c.args.names.now) (map value_term c.args.store.now.list))
    (λ (u : Tree). at (tree_term u) (map value_term c.normalise_body.new.store.list)) c.args.purse.now c.normalise_body.new.purse
    (Ok c.in_ok-u.u) (rw is at c.in_ok-u.ensures.spends) in
    let failed = asked_spent (checked_term c.args.engine.now)
    (fails (at (tree_term c.in_ok-u.u) (map value_term c.normalise_body.new.store.list))) (λ b. b) c.normalise_body.new.purse
    c.failing.new.purse (Ok c.in_ok-no.no) c.in_ok-no.ensures.spends in
    ran_ask _ asked (ran_ask _ failed (rw c.if-no.true (ran_give refl))))

pub returns-else-no-clause-ran : goal.returns-else-no-clause-ran
returns-else-no-clause-ran c =
    if_found (slice_get (checked_term c.args.engine.now).program.bodies c.args.body)
    (λ own is.
    let asked = asked_spent (checked_term c.args.engine.now)
    (normal own.task (names_term c.args.names.now) (map value_term c.args.store.now.list))
    (λ (u : Tree). at (tree_term u) (map value_term c.normalise_body.new.store.list)) c.args.purse.now c.normalise_body.new.purse
    (Ok c.in_ok-u.u) (rw is at c.in_ok-u.ensures.spends) in
    let failed = asked_spent (checked_term c.args.engine.now)
    (fails (at (tree_term c.in_ok-u.u) (map value_term c.normalise_body.new.store.list))) (λ b. b) c.normalise_body.new.purse
    c.failing.new.purse (Ok c.in_ok-no.no) c.in_ok-no.ensures.spends in
    rw c.failing.ensures.store (ran_ask _ asked (ran_ask _ failed (rw c.if-no.false (ran_give refl)))))
