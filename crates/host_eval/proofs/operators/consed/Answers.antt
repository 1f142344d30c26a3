use Rattle.std.proofs.Common.{◌≡◌, ◌∷◌, List, [], map, Some, refl, ap, sym, ◌∙◌}
use Rattle.task_model.specs.Terms.Elements.{elements_in}
use Rattle.task_model.specs.Terms.Value.{ValueTerm, as_values, value_term}
use Rattle.task_model.specs.Running.Operators.{consed, elements_of, list_of}
use Rattle.task_model.proofs.RowLemmas.{value_term-List}
use Rattle.host_eval.proofs.operators.consed.Goals as goal

elements_of-as_values : (vs : List ValueTerm) → elements_of (as_values vs) ≡ vs
elements_of-as_values [] = refl
elements_of-as_values (v ∷ vs) = ap (λ ws. v ∷ ws) (elements_of-as_values vs)

pub returns : goal.returns
returns c =
    let v = value_term c.args.v.now in
    let items = c.as_slice.ensures in
    ap (λ w. consed v (value_term w)) c.in-List.is ∙ ap (consed v) (value_term-List c.in-List.items)
    ∙ ap (λ ws. Some (list_of (v ∷ ws))) (elements_of-as_values (map value_term (elements_in c.in-List.items))
    ∙ ap (map value_term) (sym items))
    ∙ ap Some (sym c.in_ok-prepended-in-List.ensures)
