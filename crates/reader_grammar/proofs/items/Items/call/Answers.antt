use Rattle.std.proofs.Common.{◌≡◌, map, ap, ◌∙◌, arith}
use Rattle.task_model.specs.Terms.Host.{call_expr, as_exprs, host_term}
use Rattle.task_model.specs.declared.host.Host as host
use Rattle.reader_grammar.proofs.RowTerms.{call_term}
use Rattle.reader_grammar.proofs.items.Items.call.Goals as goal

pub returns-clause-shown : goal.returns-clause-shown
returns-clause-shown c =
    let t : host_term (host.Call c.in_ok-name.name c.args.self.list) ≡ call_expr c.args.name.now
    (as_exprs (map host_term c.args.self.list.list)) = call_term c.in_ok-name.name c.args.self.list
    ∙ ap (λ f. call_expr f (as_exprs (map host_term c.args.self.list.list))) c.in_ok-name.ensures.text in
    grind (arith, t)
