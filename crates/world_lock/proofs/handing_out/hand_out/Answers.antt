use Rattle.std.proofs.Common.{◌≡◌, ◌∙◌, ap, sym, subst, map}
use Rattle.task_model.specs.Terms.Item.{history_term}
use Rattle.world_lock.specs.Openings.{newcomers, SeenOpening}
use Rattle.world_lock.specs.Sessions.{session_term}
use Rattle.world_lock.proofs.OpeningLemmas.{all_at_start, whole_prefix}
use Rattle.world_lock.proofs.handing_out.hand_out.Goals as goal

pub seat_all-sessions-requires-clause-readers : goal.seat_all-sessions-requires-clause-readers
seat_all-sessions-requires-clause-readers g c =
    let board = ap (λ (o : SeenOpening). o.board) c.opening.view_is ∙ c.requires.board in
    let start = ap (λ (o : SeenOpening). history_term o.history) c.opening.view_is ∙ c.requires.start in (
      c.opening.invariant.many.0,
      all_at_start g.M.Mark.board g.M.Mark.start c.opening.inside.writer c.opening.inside.readers.items board
          (c.opening.invariant.shown ∙ start) c.opening.invariant.readers_are,
    )

pub invariant_of-world : goal.invariant_of-world
invariant_of-world g c =
    let start = ap (λ (o : SeenOpening). history_term o.history) c.opening.view_is ∙ c.requires.start in (
      record {
        rest = c.opening.invariant.rest;
        marked = ap (λ (o : SeenOpening). o.board) c.opening.view_is ∙ c.requires.board;
        published = c.opening.invariant.shown;
        begins = whole_prefix g.M.Mark.start (history_term c.opening.inside.world.history) (sym start);
        counted = c.open-book.ensures.total ∙ sym c.opening.invariant.version;
      },
      sym c.requires.seats.1 ∙ c.requires.seats.0,
    )

pub returns : goal.returns
returns g c =
    let seats = ap (λ (o : SeenOpening). o.seats) c.opening.view_is ∙ c.requires.seats.0 in
    record {
      sessions = subst (λ n. map session_term c.seat_all-sessions.result.items ≡ newcomers g.M.Mark.start n) seats
          c.seat_all-sessions.ensures;
    }
