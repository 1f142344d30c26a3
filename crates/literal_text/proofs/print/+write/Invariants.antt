use Rattle.std.proofs.Common.{◌≡◌, ◌++◌, map, drop, Bool, true, false}
use Rattle.std.specs.Prelude.{string_bytes}
use Rattle.task_model.specs.Terms.Text.{Text}
use Rattle.task_model.specs.Terms.Value.{ValueTerms, value_term, list_value, as_values}
use Rattle.task_model.specs.Syntax.Literal.{value_text, rest_text}
use Rattle.task_model.specs.Terms.Held.{AreHeld}
use Rattle.literal_text.proofs.print.+write.Given as goal

-- what is still to be written of a list
abbrev pub rest_of : Bool → ValueTerms → Text
rest_of true vs = value_text (list_value vs)
rest_of false vs = rest_text vs

abbrev pub invariant-write_list-loop-item : goal.invariant-write_list-loop-item
invariant-write_list-loop-item l = record {
  text : string_bytes l.text ++ rest_of l.first (as_values (map value_term (drop l.item-index l.items))) ≡ string_bytes l.fn.text
      ++ value_text (list_value (as_values (map value_term l.items)));
  held : AreHeld (as_values (map value_term (drop l.item-index l.items))) → AreHeld (as_values (map value_term l.items));
}
