use Rattle.input_lines.proofs.soak.+push_type.Given as goal

abbrev pub decreases-push_type : goal.decreases-push_type
decreases-push_type l = l.further
