-- An expression and a task have one type alone, in a scope: the one that is listed.
use Rattle.std.proofs.Common.{◌≡◌, List, sym, ap, ◌∙◌, subst}
use Rattle.task_model.specs.Terms.Text.{Text}
use Rattle.task_model.specs.Terms.Basic.{BasicTerm, pair_type, list_type}
use Rattle.task_model.specs.Terms.Host.{HostTerm, unit_expr, bool_expr, int_expr, text_expr, name_expr, read_expr, call_expr, pair_expr, list_expr, nil_expr, neg_expr, not_expr, fst_expr, snd_expr, len_expr, op_expr, let_expr, if_expr, case_expr, no_exprs, more_exprs}
use Rattle.task_model.specs.Terms.Program.{ParamTerm}
use Rattle.task_model.specs.declared.host.Op.{Op}
use Rattle.task_model.specs.declared.host.Op.TheVariants as ops
use Rattle.task_model.specs.Checking.TypeParts.{first_part, second_part, item_part}
use Rattle.task_model.specs.Checking.Names.{bind_value, bind_place, named_type, result_of, CallsTerm, all_open}
use Rattle.task_model.specs.Checking.FullTask.{FullTask, full_edit, full_enter, full_share, full_fail, full_call, full_step, full_and, full_or, full_xor, full_let, full_if, full_case, full_new, full_put, full_absent}
use Rattle.task_model.specs.Checking.TypeOf.{operator_type, type_of, task_type}
use Rattle.task_model.specs.Checking.Typing.{Operates, HasType}
use Rattle.task_model.specs.Checking.TaskTyping.{HasTask}

operates_is : (o : Op) (a c b : BasicTerm) → Operates o a c b → b ≡ operator_type o c
operates_is ops.Eq a c b h = h.1
operates_is ops.Ne a c b h = h.1
operates_is ops.Cons a c b h = h.1 ∙ sym h.0
operates_is ops.Or a c b h = h.2
operates_is ops.And a c b h = h.2
operates_is ops.Join a c b h = h.2
operates_is o a c b h = h.2 ∙ ap (operator_type o) (sym h.1)

-- both names of a `case` have the types of the list
pub case_scope : (s : List ParamTerm) (x y : Text) (a c d : BasicTerm) → c ≡ list_type a → c ≡ d
    → bind_value (bind_value s x (item_part d)) y d ≡ bind_value (bind_value s x a) y c
case_scope s x y a c d is e =
    let item : item_part d ≡ a = ap item_part (sym e ∙ is) in
    ap (λ z. bind_value (bind_value s x z) y d) item ∙ ap (λ z. bind_value (bind_value s x a) y z) (sym e)

module _ (k : CallsTerm) where
  pub type_is : (s : List ParamTerm) (e : HostTerm) (b : BasicTerm) → HasType k s e b → b ≡ type_of k.defs s e
  type_is s unit_expr b h = h
  type_is s (bool_expr v) b h = h
  type_is s (int_expr i) b h = h
  type_is s (text_expr t) b h = h
  type_is s (name_expr x) b h = sym (ap named_type h)
  type_is s (read_expr x) b h = sym (ap named_type h)
  type_is s (call_expr f es) b h = h.2 ∙ ap result_of (sym h.1.first)
  type_is s (pair_expr e f) b h = h.2 ∙ ap (λ t. pair_type t h.1) (type_is s e h.0 h.3)
      ∙ ap (pair_type (type_of k.defs s e)) (type_is s f h.1 h.4)
  type_is s (list_expr no_exprs) b h = h
  type_is s (list_expr (more_exprs e es)) b h = h.1 ∙ ap list_type (type_is s e h.0 h.2)
  type_is s (nil_expr a) b h = h
  type_is s (neg_expr e) b h = h.0
  type_is s (not_expr e) b h = h.0
  type_is s (fst_expr e) b h = ap first_part (type_is s e (pair_type b h.0) h.1)
  type_is s (snd_expr e) b h = ap second_part (type_is s e (pair_type h.0 b) h.1)
  type_is s (len_expr e) b h = h.1
  type_is s (op_expr o e f) b h = operates_is o h.0 h.1 b h.4 ∙ ap (operator_type o) (type_is s f h.1 h.3)
  type_is s (let_expr x e f) b h =
      type_is (bind_value s x (type_of k.defs s e)) f b (subst (λ t. HasType k (bind_value s x t) f b) (type_is s e h.0 h.1) h.2)
  type_is s (if_expr c e f) b h = type_is s e b h.1
  type_is s (case_expr l e x y f) b h = type_is s e b h.4

pub task_type_is : (k : CallsTerm) (s : List ParamTerm) (t : FullTask) (b : BasicTerm) → HasTask k s t b → b ≡ task_type k.defs s t
task_type_is k s (full_edit e) b h = type_is (all_open k) s e b h
task_type_is k s (full_enter a) b h = h
task_type_is k s (full_share x) b h = sym (ap named_type h)
task_type_is k s (full_fail a) b h = h
task_type_is k s (full_call f es) b h = h.2 ∙ ap result_of (sym h.1.first)
task_type_is k s (full_step t xs x u) b h =
    task_type_is (all_open k) (bind_value s x (task_type k.defs s t)) u b
    (subst (λ c. HasTask (all_open k) (bind_value s x c) u b) (task_type_is k s t h.0 h.1) h.2)
task_type_is k s (full_and t u) b h =
    h.2 ∙ ap (λ c. pair_type c h.1) (task_type_is k s t h.0 h.3) ∙ ap (pair_type (task_type k.defs s t)) (task_type_is k s u h.1 h.4)
task_type_is k s (full_or t u) b h = task_type_is k s t b h.0
task_type_is k s (full_xor xs t ys u) b h = task_type_is (all_open k) s t b h.0
task_type_is k s (full_let x e t) b h =
    task_type_is k (bind_value s x (type_of k.defs s e)) t b
    (subst (λ c. HasTask k (bind_value s x c) t b) (type_is (all_open k) s e h.0 h.1) h.2)
task_type_is k s (full_if e t u) b h = task_type_is k s t b h.1
task_type_is k s (full_case e t x y u) b h = task_type_is k s t b h.4
task_type_is k s (full_new x e t) b h =
    task_type_is k (bind_place s x (type_of k.defs s e)) t b
    (subst (λ c. HasTask k (bind_place s x c) t b) (type_is (all_open k) s e h.0 h.1) h.2)
task_type_is k s (full_put x e t) b h = task_type_is k s t b h.3
task_type_is k s full_absent b h = absurd h
