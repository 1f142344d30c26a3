use Rattle.std.specs.Prelude.{string_bytes}
use Rattle.terminal_view.proofs.TurnLemmas.{printed_on}
use Rattle.terminal_view.proofs.printed_trail.PrintedTrail.go.Goals as goal

pub invariant_of-self : goal.invariant_of-self
invariant_of-self c =
    printed_on c.push_turn.result (string_bytes c.self.inside.text) (string_bytes c.push_turn.new.text) c.args.turn c.self.invariant
    c.push_turn.ensures.ok c.push_turn.ensures.err
