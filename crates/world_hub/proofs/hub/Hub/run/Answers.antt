use Rattle.std.proofs.Common.{◌≡◌, ◌∙◌, List, None, length, map, sym, subst, ap, arith}
use Rattle.std.proofs.lemmas.List.{length-map}
use Rattle.std.specs.List.{All}
use Rattle.task_model.specs.Terms.Text.{Text}
use Rattle.task_model.specs.Terms.Item.{history_term}
use Rattle.task_model.specs.Running.State.{IsLegal}
use Rattle.world_core.specs.World.{SeenWorld, world_term}
use Rattle.hub_lines.specs.OwnLines.{addressed}
use Rattle.hub_lines.specs.Queues.{AreCounted, StandAtOwn}
use Rattle.hub_lines.proofs.QueueLemmas.{queue_texts}
use Rattle.world_hub.specs.declared.own.Numbered.{Numbered}
use Rattle.world_hub.specs.declared.own.Share.{Share}
use Rattle.world_hub.specs.Hubs.{EachAnswersOwn}
use Rattle.world_hub.specs.Shares.{HaveAnsweredOwn, numbered_from, share_texts}
use Rattle.world_hub.proofs.AnsweredLemmas.{shares_count, shares_counted, shares_rest, shares_legal, numbered_rest, hub_answers}
use Rattle.world_hub.proofs.hub.Hub.run.Goals as goal

pub answer_all-requires-clause-rest : goal.answer_all-requires-clause-rest
answer_all-requires-clause-rest g c = λ κs within.
    subst (λ (js : List Numbered). All (λ (j : Numbered). j.world.next ≡ None) js) (sym c.in_ok-jobs.ensures)
    (numbered_rest 1 c.self.inside.worlds.items c.self.invariant.rest)

pub in_order-requires-clause-names : goal.in_order-requires-clause-names
in_order-requires-clause-names g c = λ k d less.
    let lines = map addressed c.args.lines.now in
    let ws = c.self.inside.worlds.items in
    let shares = c.in_ok-shares.shares.items in
    let h = subst (λ (js : List Numbered). HaveAnsweredOwn lines js shares) c.in_ok-jobs.ensures c.in_ok-shares.ensures in
    let count = shares_count lines 1 ws shares h in
    let all = ap length c.in_ok-worlds.ensures.texts in
    let texts = length-map c.in_ok-worlds.field-0.texts.items queue_texts in
    let from = length-map shares share_texts in
    let same : length c.in_ok-worlds.field-0.texts.items ≡ length c.args.self =
    sym texts ∙ (all ∙ (from ∙ (count ∙ ap length c.self.view_is))) in
    let named = c.requires k d less in
    (named.0.0, omega (arith, same, named.0.1))

pub in_order-requires-clause-counts : goal.in_order-requires-clause-counts
in_order-requires-clause-counts g c =
    let lines = map addressed c.args.lines.now in
    let ws = c.self.inside.worlds.items in
    let shares = c.in_ok-shares.shares.items in
    let h = subst (λ (js : List Numbered). HaveAnsweredOwn lines js shares) c.in_ok-jobs.ensures c.in_ok-shares.ensures in
    subst (λ (qs : List (List Text)). AreCounted 1 qs lines) (sym c.in_ok-worlds.ensures.texts) (shares_counted lines 1 ws shares h)

pub invariant_of-result : goal.invariant_of-result
invariant_of-result g c =
    let lines = map addressed c.args.lines.now in
    let ws = c.self.inside.worlds.items in
    let shares = c.in_ok-shares.shares.items in
    let h = subst (λ (js : List Numbered). HaveAnsweredOwn lines js shares) c.in_ok-jobs.ensures c.in_ok-shares.ensures in
    let count = shares_count lines 1 ws shares h in
    let all = ap length c.in_ok-worlds.ensures.worlds in
    let from = length-map shares (λ (s : Share). s.world) in
    let held = c.self.invariant.count in
    record {
      count = (omega (arith, held.0, all, from, count), omega (arith, held.1, all, from, count));
      rest = subst (λ (vs : List SeenWorld). All (λ (w : SeenWorld). w.next ≡ None) vs) (sym c.in_ok-worlds.ensures.worlds)
          (shares_rest lines (numbered_from 1 ws) shares h);
    }

pub returns-clause-texts : goal.returns-clause-texts
returns-clause-texts g c =
    let lines = map addressed c.args.lines.now in
    let ws = c.self.inside.worlds.items in
    let shares = c.in_ok-shares.shares.items in
    let texts = map (λ t. t.list) c.in_ok-texts.texts.items in
    let h = subst (λ (js : List Numbered). HaveAnsweredOwn lines js shares) c.in_ok-jobs.ensures c.in_ok-shares.ensures in
    let stand = subst (λ (qs : List (List Text)). StandAtOwn 1 qs lines texts) c.in_ok-worlds.ensures.texts c.in_ok-texts.ensures.each in
    let each = hub_answers lines 1 ws shares texts h stand in
    record {
      count = length-map c.in_ok-texts.texts.items (λ t. t.list) ∙ (c.in_ok-texts.ensures.count ∙ sym (length-map c.args.lines.now addressed));
      each = subst (λ (vs : List SeenWorld). EachAnswersOwn 1 (map world_term c.args.self) lines texts (map world_term vs))
          (sym c.in_ok-worlds.ensures.worlds)
          (subst (λ (us : List SeenWorld). EachAnswersOwn 1 (map world_term us) lines texts (map world_term (map (λ (s : Share). s.world) shares)))
          c.self.view_is each);
    }

pub returns-clause-legal : goal.returns-clause-legal
returns-clause-legal g c =
    let lines = map addressed c.args.lines.now in
    let ws = c.self.inside.worlds.items in
    let shares = c.in_ok-shares.shares.items in
    let h = subst (λ (js : List Numbered). HaveAnsweredOwn lines js shares) c.in_ok-jobs.ensures c.in_ok-shares.ensures in
    subst (λ (vs : List SeenWorld). All (λ (w : SeenWorld). IsLegal (history_term w.history)) vs) (sym c.in_ok-worlds.ensures.worlds)
    (shares_legal lines (numbered_from 1 ws) shares h)
