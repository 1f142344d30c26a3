use Rattle.std.proofs.Common.{◌≡◌, ◌++◌}
use Rattle.std.specs.Prelude.{string_bytes}
use Rattle.std.specs.Str.{encode_utf8_all}
use Rattle.task_model.specs.Syntax.Literal.{escaped_all}
use Rattle.literal_text.proofs.print.write_text.Given as goal

abbrev pub invariant-loop-character : goal.invariant-loop-character
invariant-loop-character l = record {
  written : string_bytes l.text ≡ string_bytes l.initial.text ++ escaped_all (encode_utf8_all l.yielded);
  left : encode_utf8_all l.yielded ++ l.character-iterator.rest.now ≡ l.content;
}
