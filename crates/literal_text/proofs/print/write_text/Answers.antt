use Rattle.std.specs.Prelude.{encode_utf8, string_bytes}
use Rattle.std.specs.Str.{encode_utf8_all}
use Rattle.std.proofs.Common.{◌≡◌, ℕ, List, [], ◌∷◌, ◌++◌, sym, ap, ◌∙◌, append_assoc}
use Rattle.std.proofs.lemmas.Str.{encodes-append}
use Rattle.task_model.specs.Syntax.Literal.{escaped_all}
use Rattle.exact_reading.proofs.Sequences.{append_nil}
use Rattle.literal_text.proofs.PrintLemmas.{escaped_all-append}
use Rattle.literal_text.proofs.print.write_text.Goals as goal

grown : (cs : List ℕ) (c : ℕ) → encode_utf8_all (cs ++ (c ∷ [])) ≡ encode_utf8_all cs ++ encode_utf8 c
grown cs c = encodes-append cs (c ∷ []) ∙ ap (λ l. encode_utf8_all cs ++ l) (append_nil (encode_utf8 c))

pub loop-character-preserved : goal.loop-character-preserved
loop-character-preserved c =
    let cs = c.loop-character.yielded in
    let e = grown cs c.in-Some.character in
    let before = string_bytes c.put.new.text in
    record {
      written = c.in_ok-write_character.ensures ∙ ap (λ l. l ++ escaped_all (encode_utf8 c.in-Some.character))
          c.loop-character.invariant.written ∙ append_assoc before (escaped_all (encode_utf8_all cs))
          (escaped_all (encode_utf8 c.in-Some.character))
          ∙ ap (λ l. before ++ l) (sym (escaped_all-append (encode_utf8_all cs) (encode_utf8 c.in-Some.character))
          ∙ ap escaped_all (sym e));
      left = ap (λ l. l ++ c.next.new.self.rest.now) e ∙ append_assoc (encode_utf8_all cs) (encode_utf8 c.in-Some.character)
          c.next.new.self.rest.now ∙ ap (λ l. encode_utf8_all cs ++ l) (sym c.in-Some.ensures.steps.0) ∙ c.loop-character.invariant.left;
    }
