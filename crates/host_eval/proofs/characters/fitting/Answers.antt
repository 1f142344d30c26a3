use Rattle.std.proofs.Common.{◌≡◌, ◌∙◌, ap, sym, subst, drop, take, ◌++◌, ◌∷◌, ◌+◌, ◌-◌, ◌≤◌, length, List, ℕ, true, arith}
use Rattle.std.proofs.lemmas.List.{drop-drop, length-drop}
use Rattle.task_model.specs.Syntax.Characters.{characters_of, fitting}
use Rattle.host_eval.specs.ValueWords.{starts}
use Rattle.host_eval.proofs.ListLemmas.{slice_is}
use Rattle.host_eval.proofs.CharacterLemmas.{fitting_step}
use Rattle.host_eval.proofs.characters.fitting.Goals as goal

pub loop-rest-preserved : goal.loop-rest-preserved
loop-rest-preserved c =
    let inv = c.loop-rest.invariant in
    let end = c.loop-rest.end in
    let bytes = c.args.bytes.now in
    let size = c.first_size-size.result in
    let tail = slice_is size c.loop-rest.rest.now in
    let whole = tail ∙ ap (drop size) inv.rest ∙ drop-drop size end bytes in
    let some = inv.some in
    let room = inv.room in
    let within = c.if-size-end.false in
    let size_le = subst (λ (r : List ℕ). size ≤ length r) inv.rest c.first_size-size.ensures.some.1 in
    let n = length-drop end bytes in
    record {
      rest = whole;
      some = omega arith;
      room = omega arith;
      fits =
          fitting_step bytes end size some room size_le within
          (inv.fits ∙ ap (λ cs. take end bytes ++ fitting (65536 - end) cs) c.first_size-size.ensures.first
          ∙ ap (λ r. take end bytes ++ fitting (65536 - end) (take size r ∷ characters_of (drop size r))) inv.rest)
          ∙ ap (λ l. take (end + size) bytes ++ fitting (65536 - (end + size)) (characters_of l)) (sym whole);
      next = λ lt. subst (λ r. starts r ≡ true) (sym tail) c.first_size-size.ensures.next;
    }
