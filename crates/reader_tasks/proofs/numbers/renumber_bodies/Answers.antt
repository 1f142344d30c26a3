use Rattle.std.proofs.Common.{◌≡◌, ℕ, ◌+◌, ◌<◌, List, ◌∷◌, ◌++◌, length, map, take, drop, get_or, set, sym, ap, ◌∙◌, subst, arith}
use Rattle.std.proofs.lemmas.List.{length-map, length-take, map-set, get_or-map, get_or_at, drop_more}
use Rattle.std.proofs.lemmas.List.Edits.{map_over_more}
use Rattle.task_model.specs.Terms.Task.{body_term}
use Rattle.reader_tasks.specs.Numbers.{body_renumbered, IsBodyNumberedBelow}
use Rattle.reader_tasks.proofs.numbers.renumber_bodies.Goals as goal

-- what the loop hasn't come to is as it was
still : {X : Type 0} (f : X → X) (xs ys : List X) (i : ℕ) (d : X) → i < length xs → ys ≡ map f (take i xs) ++ drop i xs
    → get_or ys i d ≡ get_or xs i d
still f xs ys i d lt h =
    let front = map f (take i xs) in
    let long : length front ≡ i = length-map (take i xs) f ∙ omega (arith, length-take i xs) in
    let parts : ys ≡ front ++ get_or xs i d ∷ drop (i + 1) xs = h ∙ ap (λ l. front ++ l) (drop_more xs i d lt) in
    ap (λ l. get_or l i d) parts ∙ get_or_at front _ _ d i long

pub renumber_body-requires : goal.renumber_body-requires
renumber_body-requires c =
    let i = c.loop-body.body-index in
    let d = c.body-item.result in
    let was = c.args.bodies.now in
    let is = c.loop-body.bodies in
    let many = c.loop-body.auto.bodies in
    let inside : i < length is = omega arith in
    let count = length-map was body_term in
    subst (λ b. IsBodyNumberedBelow 4294967295 b)
    (sym (still body_renumbered (map body_term was) (map body_term is) i (body_term d) (omega (arith, inside, count)) c.loop-body.invariant)
    ∙ get_or-map body_term is i d (body_term d) inside)
    (c.requires i (body_term d) (omega (arith, inside, count)))

pub loop-body-preserved : goal.loop-body-preserved
loop-body-preserved c =
    let i = c.loop-body.body-index in
    let d = c.body-item.result in
    let was = c.args.bodies.now in
    let is = c.loop-body.bodies in
    let many = c.loop-body.auto.bodies in
    let inside : i < length is = omega arith in
    let count = length-map was body_term in
    map-set body_term is i _ ∙ ap (set (map body_term is) i) c.renumber_body.ensures
    ∙ ap (λ b. set (map body_term is) i (body_renumbered (body_term b))) (sym c.body-item.is)
    ∙ map_over_more body_renumbered (map body_term was) (map body_term is) i (body_term d) (omega (arith, inside, count))
    c.loop-body.invariant
    (ap body_term c.body-item.is ∙ sym (get_or-map body_term is i d (body_term d) inside))
