use Rattle.std.proofs.Common.{◌∙◌, ◌++◌, ◌≡◌, ap, codes}
use Rattle.std.specs.Prelude.{decimal, string_bytes}
use Rattle.std.proofs.lemmas.Result.{IfOk-weaker}
use Rattle.world_core.specs.World.{world_term}
use Rattle.tophat.specs.SoakReport.{tally_term, summary_text}
use Rattle.tophat.proofs.SoakLemmas.{all_pushed}
use Rattle.tophat.proofs.soak.summary.Goals as goal

pub returns : goal.returns
returns c =
    let count : string_bytes c.push_count.new.text ≡ string_bytes c.new-text.result ++ (codes "soak inputs " ++ decimal c.args.count) =
    c.in_ok-push_count.ensures ∙ ap (λ n. string_bytes c.new-text.result ++ (codes "soak inputs " ++ decimal n)) c.from.ensures in
    let taken =
    c.in_ok-push_count-2.ensures ∙ ap (λ n. string_bytes c.push_count.new.text ++ (codes " taken " ++ decimal n)) c.from-2.ensures in
    let refused =
    c.in_ok-push_count-3.ensures ∙ ap (λ n. string_bytes c.push_count-2.new.text ++ (codes " refused " ++ decimal n)) c.from-3.ensures in
    let over =
    c.in_ok-push_count-4.ensures ∙ ap (λ n. string_bytes c.push_count-3.new.text ++ (codes " over " ++ decimal n)) c.from-4.ensures in
    let nodes =
    c.in_ok-push_count-5.ensures ∙ ap (λ n. string_bytes c.push_count-4.new.text ++ (codes " nodes " ++ decimal n)) c.in_ok-nodes.ensures in
    let all = all_pushed _ _ _ _ _ _ _ _ _ _ _ _ _ _ _ _ _ c.new-text.ensures.bytes count taken refused over nodes
    c.in_ok-push_place.ensures
    c.in_ok-push_place-2.ensures c.in_ok-push_str.ensures.bytes in
    IfOk-weaker c.of_string.result _ (λ t. t ≡ summary_text c.args.count (tally_term c.args.tally) (world_term c.args.world.now))
    (λ t e. e ∙ all)
    c.of_string.ensures
