-- What a text comes to rises with the tables.
use Rattle.std.proofs.Common.{ℕ, ◌*◌, ◌≤◌, max, arith}
use Rattle.task_model.specs.Terms.Text.{Text}
use Rattle.task_model.specs.Terms.Host.{HostTerm, unit_expr, bool_expr, int_expr, text_expr, name_expr, read_expr, call_expr, pair_expr, list_expr, nil_expr, neg_expr, not_expr, fst_expr, snd_expr, len_expr, op_expr, let_expr, if_expr, case_expr, HostTerms, no_exprs, more_exprs, as_exprs}
use Rattle.task_model.specs.Terms.Task.{TaskTerm, edit, enter, share, fail, call_task, then_task, next_task, and_task, or_task, xor_task, let_task, if_task, case_task, new_task, put_task}
use Rattle.task_model.specs.Terms.Program.{DefBodyTerm, fun_body, task_body}
use Rattle.stride_bound.specs.declared.bounds.Bound.{Bound}
use Rattle.stride_bound.specs.declared.figures.Figures.{Figures}
use Rattle.stride_bound.specs.Sums.{cut, plus, times, higher, single_rule, naught, beside, either, over_parts, once, plain, still, called, after_first, greater, pair, choice, then, next, strides, test_bound, sides}
use Rattle.stride_bound.specs.Figures.{Tables, IsNoMore, AtMost, expression_bound, expressions_bound, task_figures, text_figures}

plus_up : (a b c d : ℕ) → a ≤ c → b ≤ d → plus a b ≤ plus c d
plus_up a b c d h k = omega (arith, h, k)

higher_up : (a c : ℕ) → a ≤ c → higher a ≤ higher c
higher_up a c h = omega (arith, h)

max_up : (a b c d : ℕ) → a ≤ c → b ≤ d → max a b ≤ max c d
max_up a b c d h k = omega (arith, h, k)

cut_up : (a c : ℕ) → a ≤ c → cut a ≤ cut c
cut_up a c h = omega (arith, h)

times_up : (a b c d : ℕ) → a ≤ c → b ≤ d → times a b ≤ times c d
times_up a b c d h k = cut_up (a * b) (c * d) (product_up a b c d h k)
  where
    product_up : (a b c d : ℕ) → a ≤ c → b ≤ d → a * b ≤ c * d
    product_up a b c d h k = grind (arith, h, k)

-- ---- units and heights
pub within_self : (a : Bound) → IsNoMore a a
within_self a = record { units = omega arith; height = omega arith }

pub within_then : (a b c : Bound) → IsNoMore a b → IsNoMore b c → IsNoMore a c
within_then a b c h k = record { units = let x = h.units in let y = k.units in omega (arith, x, y); height = let x = h.height in let y = k.height in omega (arith, x, y) }

beside_up : (a b c d : Bound) → IsNoMore a c → IsNoMore b d → IsNoMore (beside a b) (beside c d)
beside_up a b c d h k = record { units = plus_up _ _ _ _ h.units k.units; height = max_up _ _ _ _ h.height k.height }

either_up : (a b c d : Bound) → IsNoMore a c → IsNoMore b d → IsNoMore (either a b) (either c d)
either_up a b c d h k = record { units = max_up _ _ _ _ h.units k.units; height = max_up _ _ _ _ h.height k.height }

above_up : (a c : Bound) → IsNoMore a c → IsNoMore (over_parts a) (over_parts c)
above_up a c h = record { units = h.units; height = higher_up _ _ h.height }

once_up : (a c : Bound) → IsNoMore a c → IsNoMore (once a) (once c)
once_up a c h = record { units = higher_up _ _ h.units; height = h.height }

-- ---- figures
strides_up : (t u : Figures) → AtMost t u → IsNoMore (strides t) (strides u)
strides_up t u h = record {
  units = times_up _ _ _ _ (higher_up _ _ h.fires) (higher_up _ _ h.striding.units);
  height = h.striding.height;
}

tested_up : (t u : Figures) → AtMost t u → IsNoMore (test_bound t) (test_bound u)
tested_up t u h = beside_up _ _ _ _ (above_up _ _ (beside_up _ _ _ _ h.evaluating (strides_up t u h))) h.failing

still_up : (a c : Bound) → IsNoMore a c → AtMost (still a) (still c)
still_up a c h = record { evaluating = h; fires = omega arith; striding = within_self single_rule; failing = within_self single_rule }

plain_up : (a c : Bound) → IsNoMore a c → AtMost (plain a) (plain c)
plain_up a c h = record { evaluating = h; fires = omega arith; striding = within_self naught; failing = within_self naught }

called_up : (a c : Bound) (t u : Figures) → IsNoMore a c → AtMost t u → AtMost (called a t) (called c u)
called_up a c t u h k = record {
  evaluating = above_up _ _ (once_up _ _ (beside_up _ _ _ _ h k.evaluating));
  fires = k.fires;
  striding = k.striding;
  failing = k.failing;
}

behind_up : (a c : Bound) (t u : Figures) → IsNoMore a c → AtMost t u → AtMost (after_first a t) (after_first c u)
behind_up a c t u h k = record {
  evaluating = above_up _ _ (beside_up _ _ _ _ h k.evaluating);
  fires = k.fires;
  striding = k.striding;
  failing = k.failing;
}

greater_up : (a b c d : Figures) → AtMost a c → AtMost b d → AtMost (greater a b) (greater c d)
greater_up a b c d h k = record {
  evaluating = either_up _ _ _ _ h.evaluating k.evaluating;
  fires = max_up _ _ _ _ h.fires k.fires;
  striding = either_up _ _ _ _ h.striding k.striding;
  failing = either_up _ _ _ _ h.failing k.failing;
}

pair_up : (a b c d : Figures) → AtMost a c → AtMost b d → AtMost (pair a b) (pair c d)
pair_up a b c d h k = record {
  evaluating = above_up _ _ (beside_up _ _ _ _ h.evaluating k.evaluating);
  fires = plus_up _ _ _ _ h.fires k.fires;
  striding = above_up _ _ (beside_up _ _ _ _ h.striding k.striding);
  failing = above_up _ _ (beside_up _ _ _ _ h.failing k.failing);
}

choice_up : (a b c d : Figures) → AtMost a c → AtMost b d → AtMost (choice a b) (choice c d)
choice_up a b c d h k = record {
  evaluating = above_up _ _ (beside_up _ _ _ _ h.evaluating k.evaluating);
  fires = higher_up _ _ (plus_up _ _ _ _ h.fires k.fires);
  striding = above_up _ _ (beside_up _ _ _ _ h.striding k.striding);
  failing = above_up _ _ (beside_up _ _ _ _ h.failing k.failing);
}

then_up : (a b c d : Figures) → AtMost a c → AtMost b d → AtMost (then a b) (then c d)
then_up a b c d h k = record {
  evaluating = above_up _ _ h.evaluating;
  fires = higher_up _ _ (plus_up _ _ _ _ h.fires k.fires);
  striding = either_up _ _ _ _
      (above_up _ _ (beside_up _ _ _ _ h.striding (beside_up _ _ _ _ k.evaluating k.failing))) k.striding;
  failing = either_up _ _ _ _ (above_up _ _ h.failing) k.failing;
}

next_up : (a b c d : Figures) → AtMost a c → AtMost b d → AtMost (next a b) (next c d)
next_up a b c d h k = record {
  evaluating = above_up _ _ h.evaluating;
  fires = max_up _ _ _ _ h.fires k.fires;
  striding = either_up _ _ _ _ (above_up _ _ h.striding) k.striding;
  failing = either_up _ _ _ _ (above_up _ _ h.failing) k.failing;
}

sides_up : (a b c d : Figures) → AtMost a c → AtMost b d → AtMost (sides a b) (sides c d)
sides_up a b c d h k = record {
  evaluating = within_self single_rule;
  fires = max_up _ _ _ _ h.fires k.fires;
  striding = either_up _ _ _ _ (within_self single_rule) (either_up _ _ _ _ h.striding k.striding);
  failing = above_up _ _ (beside_up _ _ _ _ (tested_up a c h) (tested_up b d k));
}

-- ---- texts
-- one table has at most what the other has
pub record Below (T U : Tables) : Type 0 where
  pub definition : (f : Text) → AtMost (T.definition f) (U.definition f)
  pub body : (i : ℕ) → AtMost (T.body i) (U.body i)

mutual
  expression_up : (T U : Tables) → Below T U → (e : HostTerm) → IsNoMore (expression_bound T e) (expression_bound U e)
  expression_up T U h unit_expr = within_self single_rule
  expression_up T U h (bool_expr b) = within_self single_rule
  expression_up T U h (int_expr i) = within_self single_rule
  expression_up T U h (text_expr t) = within_self single_rule
  expression_up T U h (name_expr x) = within_self single_rule
  expression_up T U h (read_expr x) = within_self single_rule
  expression_up T U h (call_expr f es) = above_up _ _ (once_up _ _ (beside_up _ _ _ _ (expressions_up T U h es) (h.definition f).evaluating))
  expression_up T U h (pair_expr a b) = above_up _ _ (beside_up _ _ _ _ (expression_up T U h a) (expression_up T U h b))
  expression_up T U h (list_expr es) = above_up _ _ (expressions_up T U h es)
  expression_up T U h (nil_expr b) = within_self single_rule
  expression_up T U h (neg_expr a) = above_up _ _ (expression_up T U h a)
  expression_up T U h (not_expr a) = above_up _ _ (expression_up T U h a)
  expression_up T U h (fst_expr a) = above_up _ _ (expression_up T U h a)
  expression_up T U h (snd_expr a) = above_up _ _ (expression_up T U h a)
  expression_up T U h (len_expr a) = above_up _ _ (expression_up T U h a)
  expression_up T U h (op_expr o a b) = above_up _ _ (beside_up _ _ _ _ (expression_up T U h a) (expression_up T U h b))
  expression_up T U h (let_expr x a b) = above_up _ _ (beside_up _ _ _ _ (expression_up T U h a) (expression_up T U h b))
  expression_up T U h (if_expr e a b) = above_up _ _
      (beside_up _ _ _ _ (expression_up T U h e) (either_up _ _ _ _ (expression_up T U h a) (expression_up T U h b)))
  expression_up T U h (case_expr e a x y b) = above_up _ _
      (beside_up _ _ _ _ (expression_up T U h e) (either_up _ _ _ _ (expression_up T U h a) (expression_up T U h b)))

  expressions_up : (T U : Tables) → Below T U → (es : HostTerms) → IsNoMore (expressions_bound T es) (expressions_bound U es)
  expressions_up T U h no_exprs = within_self naught
  expressions_up T U h (more_exprs e es) = beside_up _ _ _ _ (expression_up T U h e) (expressions_up T U h es)

task_up : (T U : Tables) → Below T U → (t : TaskTerm) → AtMost (task_figures T t) (task_figures U t)
task_up T U h (edit e) = still_up _ _ (above_up _ _ (expression_up T U h e))
task_up T U h (enter b) = still_up _ _ (within_self single_rule)
task_up T U h (share x) = still_up _ _ (within_self single_rule)
task_up T U h (fail b) = still_up _ _ (within_self single_rule)
task_up T U h (call_task f es) = called_up _ _ _ _ (expressions_up T U h (as_exprs es)) (h.definition f)
task_up T U h (then_task t i) = then_up _ _ _ _ (task_up T U h t) (h.body i)
task_up T U h (next_task t i) = next_up _ _ _ _ (task_up T U h t) (h.body i)
task_up T U h (and_task t u) = pair_up _ _ _ _ (task_up T U h t) (task_up T U h u)
task_up T U h (or_task t u) = choice_up _ _ _ _ (task_up T U h t) (task_up T U h u)
task_up T U h (xor_task i j) = sides_up _ _ _ _ (h.body i) (h.body j)
task_up T U h (let_task x e t) = behind_up _ _ _ _ (expression_up T U h e) (task_up T U h t)
task_up T U h (if_task e t u) = behind_up _ _ _ _ (expression_up T U h e) (greater_up _ _ _ _ (task_up T U h t) (task_up T U h u))
task_up T U h (case_task e t x y u) = behind_up _ _ _ _ (expression_up T U h e) (greater_up _ _ _ _ (task_up T U h t) (task_up T U h u))
task_up T U h (new_task x e t) = behind_up _ _ _ _ (expression_up T U h e) (task_up T U h t)
task_up T U h (put_task x e t) = behind_up _ _ _ _ (expression_up T U h e) (task_up T U h t)

pub text_up : (T U : Tables) → Below T U → (w : DefBodyTerm) → AtMost (text_figures T w) (text_figures U w)
text_up T U h (fun_body e) = plain_up _ _ (expression_up T U h e)
text_up T U h (task_body t) = task_up T U h t
