use Rattle.std.proofs.Common.{map, subst}
use Rattle.std.proofs.lemmas.Result.{IfOk-weaker}
use Rattle.task_model.specs.Terms.Value.{value_term}
use Rattle.task_model.specs.Terms.Tree.{delay_term}
use Rattle.task_model.specs.Running.Checked.{checked_term}
use Rattle.task_model.specs.Running.Sign.{IsSideSign}
use Rattle.task_model.specs.Running.Offer.{offer_term}
use Rattle.task_model.specs.declared.value.Value.{Value}
use Rattle.shared_store.specs.Layered.{Layered}
use Rattle.observe_inputs.proofs.FollowLemmas.{follow_pick}
use Rattle.observe_inputs.proofs.offering.add_pick.Goals as goal

pub returns-clause-offers : goal.returns-clause-offers
returns-clause-offers g c =
    let left = c.in_ok-left.ensures in
    let right = c.in_ok-right.ensures in
    let pushed = c.in_ok-push.ensures in
    let right_sign = subst
    (λ (s : Layered Value). IsSideSign (checked_term c.args.engine.now) c.args.budget (delay_term c.args.k.now)
    (map value_term s.list) c.in_ok-right.right)
    left.store right.sign in
    IfOk-weaker c.push-2.result _ _
    (λ _ e. follow_pick _ _ _ _ _ _ _ _ _ _ (map offer_term c.push.new.self.offers.list) _ left.sign right_sign pushed.offers pushed.trail
    e)
    c.push-2.ensures.offers
