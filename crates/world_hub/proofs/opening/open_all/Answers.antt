use Rattle.std.proofs.Common.{◌≡◌, ◌∙◌, ◌+◌, [], ◌∷◌, ◌++◌, None, length, map, sym, ap, subst, arith, append_assoc, length-append}
use Rattle.std.proofs.lemmas.List.{map-append}
use Rattle.std.proofs.lemmas.List.Elements.{All-push}
use Rattle.std.specs.List.{All}
use Rattle.std.specs.Option.{option_map}
use Rattle.task_model.specs.Running.Checked.{checked_term}
use Rattle.world_core.specs.World.{SeenWorld, world_term, next_term}
use Rattle.world_hub.specs.HubOpenings.{IsOpenedWorld, AreOpenedWorlds}
use Rattle.world_hub.proofs.OpenedLemmas.{opened_more}
use Rattle.world_hub.proofs.opening.open_all.Goals as goal

pub loop-program-preserved : goal.loop-program-preserved
loop-program-preserved c =
    let l = c.loop-program in
    let front = l.invariant.0.0 in
    let split = l.invariant.0.1 in
    let count = l.invariant.0.2 in
    let opened = l.invariant.0.3 in
    let program = checked_term c.in-Some.program in
    let world = world_term c.in-Ok.world in
    let items = c.in-Some.ensures.items in
    let grown = c.push_reserved.ensures.items in
    let is : IsOpenedWorld c.args.budget program world = record {
      checked = c.in-Ok.ensures.program;
      within = c.in-Ok.ensures.budget;
      history = c.in-Ok.ensures.history;
      state = c.in-Ok.ensures.state;
      rest = ap (option_map next_term) c.in-Ok.ensures.rest;
    } in
    let more = opened_more c.args.budget front (map world_term l.worlds.items) program world opened is in
    let all = ap (map world_term) grown ∙ map-append world_term l.worlds.items (c.in-Ok.world ∷ []) in
    let fewer = ap length items in
    let longer = ap length grown in
    let both = length-append l.worlds.items (c.in-Ok.world ∷ []) in
    let sums = length-append front (program ∷ []) in
    let whole = l.invariant.2 in
    let room = l.invariant.3 in (
      (
        front ++ program ∷ [],
        split ∙ ap (λ ps. front ++ map checked_term ps) items
            ∙ sym (append_assoc front (program ∷ []) (map checked_term c.pop_front.new.self.items)),
        omega (arith, longer, both, sums, count),
        subst (λ ws. AreOpenedWorlds c.args.budget (front ++ program ∷ []) ws) (sym all) more,
      ),
      subst (All (λ (w : SeenWorld). w.next ≡ None)) (sym grown)
          (All-push (λ (w : SeenWorld). w.next ≡ None) l.worlds.items c.in-Ok.world l.invariant.1 c.in-Ok.ensures.rest),
      omega (arith, longer, both, fewer, whole),
      omega (arith, c.push_reserved.ensures.len, c.push_reserved.ensures.capacity, fewer, room),
    )

pub returns-in-Err-Over-clause-over : goal.returns-in-Err-Over-clause-over
returns-in-Err-Over-clause-over c = λ number stop.
    let l = c.loop-program in
    let same : c.len-in-Err-Over.result + 1 ≡ number = cc in
    let count = l.invariant.0.2 in
    record {
      before = l.invariant.0.0;
      over = checked_term c.in-Some.program;
      behind = map checked_term c.pop_front.new.self.items;
      split = l.invariant.0.1 ∙ ap (λ ps. l.invariant.0.0 ++ map checked_term ps) c.in-Some.ensures.items;
      at = omega (arith, same, count, c.len-in-Err-Over.ensures, l.worlds.ok);
      worlds = map world_term l.worlds.items;
      open_before = l.invariant.0.3;
      none = λ s o. c.in-Err-Over.ensures.over c.in-Err-Over.field-0-is s o;
    }
