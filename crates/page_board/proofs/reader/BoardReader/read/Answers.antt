use Rattle.std.proofs.Common.{◌≡◌, ◌∙◌, ap, sym, refl, subst, IfSome}
use Rattle.left_right.specs.Sides.{view as place_view}
use Rattle.page_board.specs.BoardPlaces.{IsKnownOf}
use Rattle.page_board.proofs.PlaceLemmas.{sees, follows_self, grows}
use Rattle.page_board.proofs.reader.BoardReader.read.Goals as goal

pub enter_as-requires : goal.enter_as-requires
enter_as-requires g c x = sees (λ x. x.1) _ _ x x (follows_self x.1)

pub invariant_of-self-in-Ok-try_clone : goal.invariant_of-self-in-Ok-try_clone
invariant_of-self-in-Ok-try_clone g c =
    let front : c.in-Ok.reading.part.value.1 ≡ c.again.result
    = sym (ap (λ x. x.1) c.get-face.ensures) ∙ (sym (ap (λ x. x.1) c.face.view_is) ∙ sym c.again.ensures) in
    let before : place_view c.in-Some.place.place ≡ c.self.inside.front
    = subst (λ o. IfSome o (λ p. place_view p.place ≡ c.self.inside.front)) (sym c.take.ensures.value ∙ c.in-Some.is) c.self.invariant.0 in
    let follows : IsKnownOf c.self.inside.front c.again.result = rw (← before, ← front) c.in-Ok.ensures.1.1 in (
      c.leave.ensures.1 ∙ (c.in-Ok.ensures.1.0 ∙ front),
      (grows c.self.inside.front c.again.result follows c.self.invariant.1).2,
    )

pub invariant_of-self-in-Err-try_clone : goal.invariant_of-self-in-Err-try_clone
invariant_of-self-in-Err-try_clone g c =
    let front : c.in-Ok.reading.part.value.1 ≡ c.again.result
    = sym (ap (λ x. x.1) c.get-face.ensures) ∙ (sym (ap (λ x. x.1) c.face.view_is) ∙ sym c.again.ensures) in
    let before : place_view c.in-Some.place.place ≡ c.self.inside.front
    = subst (λ o. IfSome o (λ p. place_view p.place ≡ c.self.inside.front)) (sym c.take.ensures.value ∙ c.in-Some.is) c.self.invariant.0 in
    let follows : IsKnownOf c.self.inside.front c.again.result = rw (← before, ← front) c.in-Ok.ensures.1.1 in (
      c.leave-in-Err-try_clone.ensures.1 ∙ (c.in-Ok.ensures.1.0 ∙ front),
      (grows c.self.inside.front c.again.result follows c.self.invariant.1).2,
    )

pub returns-in-Ok-try_clone-clause-shown : goal.returns-in-Ok-try_clone-clause-shown
returns-in-Ok-try_clone-clause-shown g c = (
  c.deref.result.now,
  rw (c.deref.ensures, c.in-Ok-try_clone.ensures, c.again.ensures) c.face.invariant,
  (c.deref.result, c.look.ensures, refl),
)

pub returns-in-Err-try_clone-clause-shown : goal.returns-in-Err-try_clone-clause-shown
returns-in-Err-try_clone-clause-shown g c = (
  c.deref-in-Err-try_clone.result.now,
  rw (c.deref-in-Err-try_clone.ensures, c.again.ensures) c.face.invariant,
  (c.deref-in-Err-try_clone.result, c.look-answer.ensures, refl),
)
