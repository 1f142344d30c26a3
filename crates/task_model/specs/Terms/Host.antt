-- Host expressions as plain terms (docs/LANGUAGE.md, "Expressions").
use Rattle.std.specs.Prelude.{ℤ, Bool, List, [], ◌∷◌}
use Rattle.task_model.specs.Terms.Text.{Text}
use Rattle.task_model.specs.Terms.Basic.{BasicTerm, basic_term}
use Rattle.task_model.specs.declared.host.Op.{Op}
use Rattle.task_model.specs.declared.host.Host as host

mutual
  pub data HostTerm : Type 0 where
    unit_expr : HostTerm
    bool_expr : Bool → HostTerm
    int_expr : ℤ → HostTerm
    text_expr : Text → HostTerm
    name_expr : Text → HostTerm
    read_expr : Text → HostTerm
    call_expr : Text → HostTerms → HostTerm
    pair_expr : HostTerm → HostTerm → HostTerm
    list_expr : HostTerms → HostTerm
    nil_expr : BasicTerm → HostTerm
    neg_expr : HostTerm → HostTerm
    not_expr : HostTerm → HostTerm
    fst_expr : HostTerm → HostTerm
    snd_expr : HostTerm → HostTerm
    len_expr : HostTerm → HostTerm
    op_expr : Op → HostTerm → HostTerm → HostTerm
    let_expr : Text → HostTerm → HostTerm → HostTerm
    if_expr : HostTerm → HostTerm → HostTerm → HostTerm
    case_expr : HostTerm → HostTerm → Text → Text → HostTerm → HostTerm

  pub data HostTerms : Type 0 where
    no_exprs : HostTerms
    more_exprs : HostTerm → HostTerms → HostTerms

-- a list of terms as arguments or elements
abbrev pub as_exprs : List HostTerm → HostTerms
as_exprs [] = no_exprs
as_exprs (e ∷ es) = more_exprs e (as_exprs es)

abbrev mutual
  -- the term of an expression
  pub host_term : host.Host → HostTerm
  host_term host.Unit = unit_expr
  host_term (host.Bool b) = bool_expr b
  host_term (host.Int i) = int_expr i
  host_term (host.Text t) = text_expr t
  host_term (host.Name x) = name_expr x
  host_term (host.Read x) = read_expr x
  host_term (host.Call' f shape row) = call_expr f (row_exprs row)
  host_term (host.Pair' p a q b) = pair_expr (host_term a) (host_term b)
  host_term (host.List' shape row) = list_expr (row_exprs row)
  host_term (host.Nil b) = nil_expr (basic_term b)
  host_term (host.Neg' p a) = neg_expr (host_term a)
  host_term (host.Not' p a) = not_expr (host_term a)
  host_term (host.Fst' p a) = fst_expr (host_term a)
  host_term (host.Snd' p a) = snd_expr (host_term a)
  host_term (host.Len' p a) = len_expr (host_term a)
  host_term (host.Op' o p a q b) = op_expr o (host_term a) (host_term b)
  host_term (host.Let' x p a q b) = let_expr x (host_term a) (host_term b)
  host_term (host.If' p c q a r b) = if_expr (host_term c) (host_term a) (host_term b)
  host_term (host.Case' p l q a x y r b) = case_expr (host_term l) (host_term a) x y (host_term b)

  pub row_exprs : {m : _} → host.Row_of-Host m → HostTerms
  row_exprs host.end_of-Host = no_exprs
  row_exprs (host.more_of-Host e rest) = more_exprs (host_term e) (row_exprs rest)
