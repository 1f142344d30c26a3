use Rattle.std.proofs.Common.{◌∙◌, ap, ap₂, subst, sym, List, [], ◌∷◌, ◌++◌}
use Rattle.std.specs.List.{All}
use Rattle.std.specs.Str.{IsUtf8}
use Rattle.std.specs.Borrow.{Bor}
use Rattle.std.proofs.lemmas.List.{take_more}
use Rattle.std.proofs.lemmas.List.Elements.{All-push}
use Rattle.clap.specs.Walk.{Text, texts}
use Rattle.command_words.proofs.Made.{texts_push}
use Rattle.command_words.proofs.top.texts_of.Goals as goal

pub loop-word-preserved : goal.loop-word-preserved
loop-word-preserved c =
    let items = c.in-Ok.ensures.items in
    let before = c.loop-word.list.items in
    let word = c.as_str.result in (
      ap texts items ∙ texts_push before word
          ∙ ap₂ (λ (a : List Text) (b : Text). a ++ b ∷ []) c.loop-word.invariant.0 (c.as_str.ensures ∙ c.word-item.is)
          ∙ sym (take_more c.args.words.now c.loop-word.word-index c.word-item.result c.loop-word-test.true),
      subst (All (λ (w : Bor Text). IsUtf8 w.now)) (sym items)
          (All-push (λ (w : Bor Text). IsUtf8 w.now) before word c.loop-word.invariant.1 c.as_str.utf8),
    )
