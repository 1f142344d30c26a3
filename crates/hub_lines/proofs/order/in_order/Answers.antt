use Rattle.std.proofs.Common.{◌≡◌, ◌∙◌, ℕ, ◌+◌, ◌-◌, List, [], ◌∷◌, ◌++◌, drop, length, map, refl, sym, ap, subst, arith, rules, append-nil, length-append}
use Rattle.std.proofs.lemmas.List.{drop_more, drop_all}
use Rattle.task_model.specs.Terms.Rowed.{Rowed}
use Rattle.hub_lines.specs.HubLines.{IsWorldNumber}
use Rattle.hub_lines.specs.OwnLines.{addressed}
use Rattle.hub_lines.specs.declared.hub_line.HubLine.{HubLine}
use Rattle.hub_lines.specs.Queues.{AreCounted, StandAtOwn}
use Rattle.hub_lines.proofs.QueueLemmas.{counted_some, counted_rest, stand_first, stand_none, queue_texts, get_some, one_text_more}
use Rattle.hub_lines.proofs.order.in_order.Goals as goal

pub loop-line-init : goal.loop-line-init
loop-line-init c =
    let none : c.new-texts.result.items ≡ [] = search rules in (
      refl,
      ap length none,
      c.requires.counts,
      λ ts h. subst (λ (done : List (Rowed ℕ)). StandAtOwn 1 (map queue_texts c.args.queues.items) (map addressed c.args.lines.now)
          (map (λ t. t.list) done ++ ts)) (sym none) h,
    )

pub unreachable-requires : goal.unreachable-requires
unreachable-requires c =
    let l = c.loop-line in
    let i = l.line-index in
    let xs = c.args.lines.now in
    let x = c.line-item.result in
    let here : drop i xs ≡ x ∷ drop (i + 1) xs = drop_more xs i x (omega arith) ∙ ap (λ y. y ∷ drop (i + 1) xs) (sym c.line-item.is) in
    let counted = subst (λ ls. AreCounted 1 (map queue_texts l.left.items) (map addressed ls)) here l.invariant.2 in
    let named = subst (λ (z : HubLine). IsWorldNumber (length c.args.queues.items) z.world) (sym c.line-item.is)
    (c.requires.names i x (omega arith)) in
    let number : x.world ≡ 1 + (c.from.result - 1) = omega (arith, named.0, c.from.ensures) in
    let same = l.invariant.0 in
    let there = get_some queue_texts l.left.items (c.from.result - 1) (omega (arith, named.0, named.1, c.from.ensures, same)) in
    counted_some 1 (c.from.result - 1) (map queue_texts l.left.items) (addressed x) (map addressed (drop (i + 1) xs)) there.0 number counted there.1
    (c.in-None.ensures.none there.0 there.1)

pub loop-line-preserved : goal.loop-line-preserved
loop-line-preserved c =
    let l = c.loop-line in
    let i = l.line-index in
    let xs = c.args.lines.now in
    let x = c.line-item.result in
    let here : drop i xs ≡ x ∷ drop (i + 1) xs = drop_more xs i x (omega arith) ∙ ap (λ y. y ∷ drop (i + 1) xs) (sym c.line-item.is) in
    let named = subst (λ (z : HubLine). IsWorldNumber (length c.args.queues.items) z.world) (sym c.line-item.is)
    (c.requires.names i x (omega arith)) in
    let number : x.world ≡ 1 + (c.from.result - 1) = omega (arith, named.0, c.from.ensures) in
    let took = c.in-Some.ensures.some in
    let counted = subst (λ ls. AreCounted 1 (map queue_texts l.left.items) (map addressed ls)) here l.invariant.2 in
    let grown : c.push.new.self.items ≡ l.texts.items ++ c.in-Some.text ∷ [] = search rules in (
      c.in-Some.ensures.len ∙ l.invariant.0,
      (let more = ap length grown in let both = length-append l.texts.items (c.in-Some.text ∷ []) in
          let done = l.invariant.1 in omega (arith, more, both, done)),
      counted_rest 1 (c.from.result - 1) _ _ (addressed x) (map addressed (drop (i + 1) xs)) c.in-Some.text.list number took counted,
      λ ts h.
          let stand = stand_first 1 (c.from.result - 1) _ _ (addressed x) (map addressed (drop (i + 1) xs)) c.in-Some.text.list ts number took h in
          let all = l.invariant.3 (c.in-Some.text.list ∷ ts)
          (subst (λ ls. StandAtOwn 1 (map queue_texts l.left.items) (map addressed ls) (c.in-Some.text.list ∷ ts)) (sym here) stand) in
          subst (λ us. StandAtOwn 1 (map queue_texts c.args.queues.items) (map addressed xs) us)
          (one_text_more l.texts.items c.in-Some.text ts ∙ ap (λ us. map (λ (u : Rowed ℕ). u.list) us ++ ts) (sym grown)) all,
    )

pub returns-clause-count : goal.returns-clause-count
returns-clause-count c = let done = c.loop-line.invariant.1 in omega (arith, done, c.loop-line-test.false)

pub returns-clause-each : goal.returns-clause-each
returns-clause-each c =
    let l = c.loop-line in
    let xs = c.args.lines.now in
    let none : drop l.line-index xs ≡ [] = drop_all l.line-index xs (omega (arith, c.loop-line-test.false)) in
    let counted = subst (λ ls. AreCounted 1 (map queue_texts l.left.items) (map addressed ls)) none l.invariant.2 in
    let all = l.invariant.3 [] (subst (λ ls. StandAtOwn 1 (map queue_texts l.left.items) (map addressed ls) []) (sym none)
    (stand_none 1 (map queue_texts l.left.items) counted)) in
    subst (λ us. StandAtOwn 1 (map queue_texts c.args.queues.items) (map addressed xs) us)
    (append-nil (map (λ (u : Rowed ℕ). u.list) l.texts.items)) all
