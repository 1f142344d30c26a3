use Rattle.std.proofs.Common.{◌∙◌, Some, None, sym, ap}
use Rattle.task_model.specs.Syntax.Literal.{value_text}
use Rattle.tophat.proofs.SoakLemmas.{pushed, stored_at}
use Rattle.tophat.proofs.soak.push_place.Goals as goal

pub returns-in_ok-push_str-in-Some : goal.returns-in_ok-push_str-in-Some
returns-in_ok-push_str-in-Some c =
    pushed _ _ _ c.args.word.now _ _ c.in_ok-push_str.ensures.bytes c.in_ok-push_str-in-Some.ensures.bytes
    (c.as_str-in-Some.ensures ∙ c.in_ok-print_value-in-Some.ensures.text
    ∙ sym (ap value_text (stored_at c.args.world.now.store c.args.place (Some c.in-Some.value.now) (sym c.in-Some.ensures))))

pub returns-in_ok-push_str-in-None : goal.returns-in_ok-push_str-in-None
returns-in_ok-push_str-in-None c =
    pushed _ _ _ c.args.word.now _ _ c.in_ok-push_str.ensures.bytes c.in_ok-push_str-in-None.ensures.bytes
    (sym (ap value_text (stored_at c.args.world.now.store c.args.place None (sym c.in-None.ensures))))
