-- What a list and a call stand for, by the list of their items.
use Rattle.std.proofs.Common.{◌≡◌, map}
use Rattle.task_model.specs.Terms.Text.{Text}
use Rattle.task_model.specs.Terms.Rowed.{Rowed}
use Rattle.task_model.specs.Terms.Host.{list_expr, call_expr, as_exprs, host_term}
use Rattle.task_model.specs.declared.host.Host as host
use Rattle.task_model.proofs.RowLemmas.{host_term-List, host_term-Call}

pub list_term : (r : Rowed host.Host) → host_term (host.List r) ≡ list_expr (as_exprs (map host_term r.list))
list_term r = host_term-List r

pub call_term : (f : Text) (r : Rowed host.Host) → host_term (host.Call f r) ≡ call_expr f (as_exprs (map host_term r.list))
call_term f r = host_term-Call f r
