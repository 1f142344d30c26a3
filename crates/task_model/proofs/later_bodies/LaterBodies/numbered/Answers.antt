use Rattle.std.proofs.Common.{◌-◌, inl, inr, arith, ◌⊎◌, ◌<◌, ◌≤◌, ◌+◌, length, None, Some, refl}
use Rattle.task_model.specs.Checking.FullTask.{full_bodies, full_body, full_body_numbered}
use Rattle.task_model.specs.Syntax.Printed.{body_texts, body_text, body_numbered, no_body}
use Rattle.task_model.proofs.BodyLemmas.{body_split, body_found, body_absent}
use Rattle.task_model.proofs.later_bodies.LaterBodies.numbered.Goals as goal
use Rattle.task_model.proofs.later_bodies.LaterBodies.numbered.Goals.{then-number-self-via-then-number-self, then-number-self-via-else-number-self+then-self-number}

pub returns-then-number-self-clause-full_absent : goal.returns-then-number-self-clause-full_absent
returns-then-number-self-clause-full_absent c =
    let outside : (c.args.number < c.args.self.now.first) ⊎ (c.args.self.now.first + length c.args.self.now.bodies.now ≤ c.args.number) =
    elim c.then-number-self.branch [
      | then-number-self-via-then-number-self w ↦ inl w.if-number-self.true
      | then-number-self-via-else-number-self+then-self-number w ↦ inr (omega (arith, w.if-number-self.false, w.if-self-number.true))
    ] in
    body_absent full_bodies full_body full_body_numbered Some None (λ _ _. refl) (λ _ _ _ _. refl)
    c.args.self.now.first c.args.self.now.bodies.now c.args.number outside

pub returns-then-number-self-clause-text_absent : goal.returns-then-number-self-clause-text_absent
returns-then-number-self-clause-text_absent c =
    let outside : (c.args.number < c.args.self.now.first) ⊎ (c.args.self.now.first + length c.args.self.now.bodies.now ≤ c.args.number) =
    elim c.then-number-self.branch [
      | then-number-self-via-then-number-self w ↦ inl w.if-number-self.true
      | then-number-self-via-else-number-self+then-self-number w ↦ inr (omega (arith, w.if-number-self.false, w.if-self-number.true))
    ] in
    body_absent body_texts body_text body_numbered (λ b. b) no_body (λ _ _. refl) (λ _ _ _ _. refl)
    c.args.self.now.first c.args.self.now.bodies.now c.args.number outside

pub returns-clause-full_found : goal.returns-clause-full_found
returns-clause-full_found c =
    body_found full_bodies full_body full_body_numbered Some None (λ _ _. refl) (λ _ _ _ _. refl)
    c.args.self.now.first c.args.self.now.bodies.now c.args.number _ c.if-number-self.false c.if-self-number.false

pub returns-clause-text_found : goal.returns-clause-text_found
returns-clause-text_found c =
    body_found body_texts body_text body_numbered (λ b. b) no_body (λ _ _. refl) (λ _ _ _ _. refl)
    c.args.self.now.first c.args.self.now.bodies.now c.args.number _ c.if-number-self.false c.if-self-number.false

pub returns-clause-within : goal.returns-clause-within
returns-clause-within c =
    (_, body_split c.args.self.now.bodies.now (c.args.number - c.args.self.now.first) c.index-self-at.result c.if-self-number.false)
