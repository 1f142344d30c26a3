use Rattle.std.proofs.Common.{◌++◌, ◌∙◌, ap, sym, codes, decimal}
use Rattle.http_replies.specs.Replies.{location_line}
use Rattle.http_replies.proofs.LineLemmas.{three_more}
use Rattle.http_replies.proofs.head.push_location.Goals as goal

pub returns-in-Some-clause-text : goal.returns-in-Some-clause-text
returns-in-Some-clause-text c =
    c.push-in-Some.ensures
    ∙ ap (λ x. x ++ codes "\r\n") (c.push_number.ensures.text ∙ ap (λ x. x ++ decimal c.in-Some.version) c.push.ensures)
    ∙ three_more c.args.room.now (codes "Location: /?v=") (decimal c.in-Some.version) (codes "\r\n")
    ∙ ap (λ o. c.args.room.now ++ location_line o) (sym c.in-Some.is)
