use Rattle.std.specs.Prelude.{string_bytes}
use Rattle.std.proofs.Common.{◌++◌, codes, decimal}
use Rattle.task_model.specs.Showing.Html.{paragraph}
use Rattle.html_pages.proofs.Pieces.{on_ok, more}
use Rattle.html_pages.proofs.framing.push_html_start.Goals as goal

pub returns : goal.returns
returns c =
    let start = codes "<!DOCTYPE html>\n<html lang=\"en\"><head><meta charset=\"utf-8\"><title>tophat</title></head><body>\n" in
    let version = paragraph (codes "version " ++ decimal c.args.version ++ codes " seat " ++ decimal c.args.seat) in
    on_ok c.push_version.result (λ last. more (string_bytes c.args.text.now) start version c.in_ok-push.ensures last) c.push_version.ensures
