-- What a row in a value or an expression stands for, by the list of its items.
use Rattle.std.proofs.Common.{rules, arith, ◌≡◌, ◌<◌, ◌≤◌, ℕ, zero, suc, List, [], ◌∷◌, map, drop, length, refl, ap, ◌∙◌}
use Rattle.std.proofs.lemmas.List.{drop-map}
use mathlib.Core.Former.{Count}
use denote.Param.Weighed.{most}
use Rattle.task_model.specs.Terms.Rowed.{Rowed}
use Rattle.task_model.specs.Terms.Text.{Text}
use Rattle.task_model.specs.Terms.Value.{ValueTerm, list_value, more_values, as_values, value_term, row_values, later_values, count_of}
use Rattle.task_model.specs.Terms.Elements.{elements_in}
use Rattle.task_model.specs.declared.elements.Elements.{Elements}
use Rattle.task_model.specs.Terms.Host.{call_expr, list_expr, more_exprs, as_exprs, host_term, row_exprs}
use Rattle.task_model.specs.declared.value.Value as value
use Rattle.task_model.specs.declared.host.Host as host
use Rattle.task_model.proofs.value.Value.TheLaws.{the_size}

abbrev value_row : value.Value → (n : Count) × value.Row_of-Value n
value_row (value.List' _ _ row _) = (_, row)
value_row _ = (_, value.end_of-Value)

row_values-items : (n : _) (row : value.Row_of-Value n) → row_values row ≡ as_values (map value_term (value.items-the_row-Value n row))
row_values-items n value.end_of-Value = refl
row_values-items n (value.more_of-Value v rest) = ap (more_values (value_term v)) (row_values-items _ rest)

later_values-drop : (n : ℕ) (vs : List ValueTerm) → later_values n (as_values vs) ≡ as_values (drop n vs)
later_values-drop zero vs = refl
later_values-drop (suc n) [] = refl
later_values-drop (suc n) (v ∷ vs) = later_values-drop n vs

-- the term of a list value
pub value_term-List : (e : Elements value.Value) → value_term (value.List e) ≡ list_value (as_values (map value_term (elements_in e)))
value_term-List e =
    let row = value_row (value.List e) in
    ap (λ vs. list_value (later_values e.from vs)) (row_values-items row.0 row.1
    ∙ ap (λ (l : List value.Value). as_values (map value_term l)) (value.items_hidden-the_row-Value-0 e.block.value))
    ∙ ap list_value (later_values-drop e.from (map value_term e.block.value.list)
    ∙ ap as_values (drop-map value_term e.from e.block.value.list))

most-drop : {X : Type 0} (μ : X → ℕ) (n : ℕ) (xs : List X) → most μ (drop n xs) ≤ most μ xs
most-drop μ zero xs = omega arith
most-drop μ (suc n) [] = omega arith
most-drop μ (suc n) (x ∷ xs) = omega (arith, most-drop μ n xs)

-- the elements of a list value are smaller than it
pub elements_fall : (e : Elements value.Value) (v : value.Value) (items : List value.Value) → v ≡ value.List e → items ≡ elements_in e
    → most the_size items < the_size v
elements_fall e v items is l =
    let block : most the_size e.block.value.list < the_size (value.List e) = search (rules, value.the_lemmas) in
    omega (arith, block, most-drop the_size e.from e.block.value.list, ap (most the_size) l, ap the_size is)

abbrev host_row : host.Host → (n : Count) × host.Row_of-Host n
host_row (host.List' _ row) = (_, row)
host_row (host.Call' _ _ row) = (_, row)
host_row _ = (_, host.end_of-Host)

row_exprs-items : (n : _) (row : host.Row_of-Host n) → row_exprs row ≡ as_exprs (map host_term (host.items-the_row-Host n row))
row_exprs-items n host.end_of-Host = refl
row_exprs-items n (host.more_of-Host e rest) = ap (more_exprs (host_term e)) (row_exprs-items _ rest)

-- the term of a list expression
pub host_term-List : (r : Rowed host.Host) → host_term (host.List r) ≡ list_expr (as_exprs (map host_term r.list))
host_term-List r =
    let row = host_row (host.List r) in
    ap list_expr (row_exprs-items row.0 row.1 ∙ ap (λ (l : List host.Host). as_exprs (map host_term l))
    (host.items_hidden-the_row-Host-0 r))

-- the term of a call
pub host_term-Call : (f : Text) (r : Rowed host.Host) → host_term (host.Call f r) ≡ call_expr f (as_exprs (map host_term r.list))
host_term-Call f r =
    let row = host_row (host.Call f r) in
    ap (call_expr f) (row_exprs-items row.0 row.1 ∙ ap (λ (l : List host.Host). as_exprs (map host_term l))
    (host.items_hidden-the_row-Host-0 r))

pub count_of-as_values : (vs : List ValueTerm) → count_of (as_values vs) ≡ length vs
count_of-as_values [] = refl
count_of-as_values (v ∷ vs) = ap suc (count_of-as_values vs)
