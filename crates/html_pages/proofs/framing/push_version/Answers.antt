use Rattle.std.specs.Prelude.{string_bytes}
use Rattle.std.proofs.Common.{◌++◌, codes, decimal}
use Rattle.html_pages.proofs.Pieces.{on_ok, more}
use Rattle.html_pages.proofs.framing.push_version.Goals as goal

pub returns : goal.returns
returns c =
    let t = string_bytes c.args.text.now in
    let numbers = codes "version " ++ decimal c.args.version ++ codes " seat " ++ decimal c.args.seat in
    on_ok c.push-2.result
    (λ last. more t (codes "<p>" ++ numbers) (codes "</p>\n")
    (more t (codes "<p>") numbers c.in_ok-push.ensures c.in_ok-push_numbers.ensures) last) c.push-2.ensures
