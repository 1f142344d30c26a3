use Rattle.std.proofs.Common.{◌≡◌, List, [], ◌∷◌, ◌++◌, map, refl, sym, ap, ◌∙◌, subst}
use Rattle.task_model.specs.Terms.Input.{input_term, entry_term}
use Rattle.task_model.specs.Terms.Item.{ItemTerm, took, history_term}
use Rattle.task_model.specs.Running.State.{IsLegal, version_of}
use Rattle.session_desk.specs.Desks.{seat_entry}
use Rattle.page_board.specs.BoardLists.{BoardList}
use Rattle.world_lock.specs.Sessions.{SeenSession, session_term}
use Rattle.world_lock.proofs.SharedLemmas.{shared_more}
use Rattle.world_lock.proofs.SessionLemmas.{attends_own, learnt_all, own_more, takes}
use Rattle.world_lock.proofs.shared_world.SharedWorld.act.Given.{Over}
use Rattle.world_lock.proofs.shared_world.SharedWorld.act.Goals as goal

-- the history that the session met
met_is : (g : Over) (c : goal.After-drop-told-inside-2 g) → history_term c.me.inside.reader.list ≡ history_term c.self.inside.world.history
met_is g c =
    ap (λ (s : SeenSession). history_term s.seen) c.me.view_is ∙ c.meet.ensures.seen.0
    ∙ sym (ap history_term (c.self.view_is ∙ c.meet.ensures.same))

-- what it sees in the end
seen_is : (g : Over) (c : goal.After-drop-told-inside-2 g)
    → history_term c.learn.new.self.list
    ≡ history_term c.self.inside.world.history ++ took (seat_entry c.me.inside.seat (input_term c.args.input)) ∷ []
seen_is g c =
    let p = c.in_ok-told.ensures.ok in
    learnt_all c.me.inside.reader.list c.in_ok-told.told.list c.learn.new.self.list (history_term c.self.inside.world.history)
    (took (seat_entry c.me.inside.seat (input_term c.args.input))) (met_is g c)
    (ap (λ (l : BoardList). history_term l.list) p.told_is ∙ p.published ∙ p.history) c.learn.ensures.learnt c.learn.ensures.longer

all_is : (g : Over) (c : goal.After-drop-told-inside-2 g) → history_term c.learn.new.self.list ≡ history_term c.happen.new.world.history
all_is g c = seen_is g c ∙ sym c.in_ok-told.ensures.ok.history

legal_is : (g : Over) (c : goal.After-drop-told-inside-2 g) → IsLegal (history_term c.learn.new.self.list)
legal_is g c = subst IsLegal (sym (all_is g c)) c.in_ok-told.ensures.ok.legal

version_is : (g : Over) (c : goal.After-drop-told-inside-2 g) → c.in_ok-told.version ≡ version_of (history_term c.learn.new.self.list)
version_is g c = c.in_ok-told.ensures.ok.version_is ∙ ap version_of (sym (all_is g c))

pub invariant_of-self-2 : goal.invariant_of-self-2
invariant_of-self-2 g c =
    (shared_more c.self.invariant.0 c.in_ok-told.ensures.ok c.add.new.self.total c.add.ensures.total, c.self.invariant.1)

pub invariant_of-me-2 : goal.invariant_of-me-2
invariant_of-me-2 g c =
    attends_own c.me.invariant (input_term c.args.input) c.learn.ensures.same.0 refl
    (seen_is g c ∙ ap (λ (h : List ItemTerm). h ++ took (seat_entry c.me.inside.seat (input_term c.args.input)) ∷ []) (sym (met_is g c)))
    (legal_is g c) (version_is g c)
    (own_more c.reserve.new.self.items c.push_reserved.new.self.items _ (map entry_term c.me.inside.own.items)
    (seat_entry c.me.inside.seat (input_term c.args.input)) (ap (map entry_term) c.reserve.ensures.items) c.push_reserved.ensures.items
    (ap (seat_entry c.me.inside.seat) c.in_ok-copy_input.ensures))
    c.add.ensures.parts c.add.ensures.amount

pub returns-clause-seen : goal.returns-clause-seen
returns-clause-seen g c = all_is g c

pub returns-clause-ok : goal.returns-clause-ok
returns-clause-ok g c =
    let seat = ap (λ (s : SeenSession). s.seat) c.me.view_is ∙ c.meet.ensures.kept.0 in
    let here = ap history_term (c.self.view_is ∙ c.meet.ensures.same) in
    takes (session_term c.args.me.now) _ (history_term c.args.self.now) (input_term c.args.input) c.in_ok-told.version
    c.meet.ensures.before
    (seen_is g c ∙ ap (λ (h : List ItemTerm). h ++ took (seat_entry c.me.inside.seat (input_term c.args.input)) ∷ []) here
    ∙ ap (λ n. history_term c.args.self.now ++ took (seat_entry n (input_term c.args.input)) ∷ []) seat)
    (legal_is g c) seat (c.learn.ensures.same.1 ∙ ap (λ (s : SeenSession). s.refusals) c.me.view_is ∙ c.meet.ensures.kept.2)
    (own_more c.reserve.new.self.items c.push_reserved.new.self.items _ (map entry_term c.args.me.now.own)
    (seat_entry c.args.me.now.seat (input_term c.args.input))
    (ap (map entry_term) (c.reserve.ensures.items ∙ ap (λ (s : SeenSession). s.own) c.me.view_is ∙ c.meet.ensures.kept.1))
    c.push_reserved.ensures.items
    (ap (seat_entry c.me.inside.seat) c.in_ok-copy_input.ensures ∙ ap (λ n. seat_entry n (input_term c.args.input)) seat))
    (ap (λ (s : SeenSession). s.page_at_calls) c.me.view_is ∙ c.meet.ensures.kept.3) (version_is g c)
