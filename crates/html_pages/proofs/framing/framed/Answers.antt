use Rattle.std.specs.Prelude.{string_bytes}
use Rattle.std.proofs.Common.{◌≡◌, ◌++◌, drop, length, ap, ap₂, ◌∙◌}
use Rattle.std.proofs.lemmas.Str.{IsUtf8-string_bytes}
use Rattle.task_model.specs.Terms.Text.{Text}
use Rattle.html_pages.specs.Fragments.{fragments_text, page_end, page_start}
use Rattle.html_pages.proofs.Framed.{framed_text}
use Rattle.html_pages.proofs.Behind.{text_behind, text_begins}
use Rattle.html_pages.proofs.framing.framed.Goals as goal

-- the room, and the pieces of the page behind it
written : (c : goal.In_ok-push-2) → string_bytes c.push-2.new.text
    ≡ ((c.args.room.now ++ page_start c.args.face c.args.version c.args.seat) ++ fragments_text c.args.face c.args.list.now)
    ++ page_end c.args.face
written c =
    let face = c.args.face in
    let start = page_start face c.args.version c.args.seat in
    let front = c.in_ok-push.ensures ∙ ap (λ (l : Text). l ++ c.args.room.now) c.in_ok-padded.ensures.bytes in
    let started = c.in_ok-push_start.ensures ∙ ap (λ (l : Text). l ++ start) front in
    let drawn = c.in_ok-push_fragments.ensures
    ∙ ap (λ (l : Text). l ++ fragments_text face c.args.list.now) started in
    c.in_ok-push-2.ensures ∙ ap₂ (λ (l m : Text). l ++ m) drawn c.end.ensures

pub invariant_of-result : goal.invariant_of-result
invariant_of-result c =
    let face = c.args.face in
    text_begins (string_bytes c.push-2.new.text) c.args.room.now (page_start face c.args.version c.args.seat)
    (fragments_text face c.args.list.now) (page_end face) (written c) (IsUtf8-string_bytes c.push-2.new.text) c.utf8.room

pub returns-clause-text : goal.returns-clause-text
returns-clause-text c =
    let face = c.args.face in
    let start = page_start face c.args.version c.args.seat in
    let bytes = string_bytes c.push-2.new.text in
    framed_text face c.args.version c.args.seat c.args.list.now (drop (length c.args.room.now) bytes)
    (text_behind bytes c.args.room.now start (fragments_text face c.args.list.now) (page_end face) (written c))
