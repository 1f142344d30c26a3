use Rattle.page_board.proofs.PlaceLemmas.{admits, forks, merges}
use Rattle.page_board.proofs.published.seat.Goals as goal

pub reader-requires : goal.reader-requires
reader-requires c = admits (λ x. x.1)

pub tell-requires : goal.tell-requires
tell-requires c = forks (λ x. x.1) _ _

pub learn-requires-clause-rule : goal.learn-requires-clause-rule
learn-requires-clause-rule c = merges (λ x. x.1) _ _ _ _
