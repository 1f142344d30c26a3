-- No number is above 1,000,001.
use Rattle.std.proofs.Common.{ℕ, ◌+◌, ◌*◌, ◌≤◌, max, arith}
use Rattle.task_model.specs.Terms.Text.{Text}
use Rattle.task_model.specs.Terms.Host.{HostTerm, unit_expr, bool_expr, int_expr, text_expr, name_expr, read_expr, call_expr, pair_expr, list_expr, nil_expr, neg_expr, not_expr, fst_expr, snd_expr, len_expr, op_expr, let_expr, if_expr, case_expr, HostTerms, no_exprs, more_exprs, as_exprs}
use Rattle.task_model.specs.Terms.Task.{TaskTerm, edit, enter, share, fail, call_task, then_task, next_task, and_task, or_task, xor_task, let_task, if_task, case_task, new_task, put_task}
use Rattle.task_model.specs.Terms.Program.{DefBodyTerm, fun_body, task_body}
use Rattle.stride_bound.specs.declared.bounds.Bound.{Bound}
use Rattle.stride_bound.specs.declared.figures.Figures.{Figures}
use Rattle.stride_bound.specs.Sums.{cut, plus, higher, single_rule, naught, beside, either, over_parts, once, plain, still, called, after_first, greater, pair, choice, then, next, test_bound, sides}
use Rattle.stride_bound.specs.Figures.{Tables, IsNoMore, AtMost, expression_bound, expressions_bound, task_figures, text_figures}

-- the greatest bound, and the greatest figures
abbrev pub most : Bound
most = record { units = 1000001; height = 1000001 }

abbrev pub most_figures : Figures
most_figures = record { evaluating = most; fires = 1000001; striding = most; failing = most }

cut_cap : (n : ℕ) → cut n ≤ 1000001
cut_cap n = omega arith

max_cap : (a b : ℕ) → a ≤ 1000001 → b ≤ 1000001 → max a b ≤ 1000001
max_cap a b h k = omega (arith, h, k)

leaf_cap : IsNoMore single_rule most
leaf_cap = record { units = omega arith; height = omega arith }

none_cap : IsNoMore naught most
none_cap = record { units = omega arith; height = omega arith }

beside_cap : (a b : Bound) → IsNoMore a most → IsNoMore b most → IsNoMore (beside a b) most
beside_cap a b h k = record { units = cut_cap (a.units + b.units); height = max_cap _ _ h.height k.height }

either_cap : (a b : Bound) → IsNoMore a most → IsNoMore b most → IsNoMore (either a b) most
either_cap a b h k = record { units = max_cap _ _ h.units k.units; height = max_cap _ _ h.height k.height }

above_cap : (a : Bound) → IsNoMore a most → IsNoMore (over_parts a) most
above_cap a h = record { units = h.units; height = cut_cap (a.height + 1) }

once_cap : (a : Bound) → IsNoMore a most → IsNoMore (once a) most
once_cap a h = record { units = cut_cap (a.units + 1); height = h.height }

tested_cap : (t : Figures) → AtMost t most_figures → IsNoMore (test_bound t) most
tested_cap t h =
    beside_cap _ _ (above_cap _ (beside_cap _ _ h.evaluating (record {
      units = cut_cap (higher t.fires * higher t.striding.units);
      height = h.striding.height;
    }))) h.failing

still_cap : (a : Bound) → IsNoMore a most → AtMost (still a) most_figures
still_cap a h = record { evaluating = h; fires = omega arith; striding = leaf_cap; failing = leaf_cap }

plain_cap : (a : Bound) → IsNoMore a most → AtMost (plain a) most_figures
plain_cap a h = record { evaluating = h; fires = omega arith; striding = none_cap; failing = none_cap }

called_cap : (a : Bound) (t : Figures) → IsNoMore a most → AtMost t most_figures → AtMost (called a t) most_figures
called_cap a t h k = record {
  evaluating = above_cap _ (once_cap _ (beside_cap _ _ h k.evaluating));
  fires = k.fires;
  striding = k.striding;
  failing = k.failing;
}

behind_cap : (a : Bound) (t : Figures) → IsNoMore a most → AtMost t most_figures → AtMost (after_first a t) most_figures
behind_cap a t h k = record {
  evaluating = above_cap _ (beside_cap _ _ h k.evaluating);
  fires = k.fires;
  striding = k.striding;
  failing = k.failing;
}

greater_cap : (a b : Figures) → AtMost a most_figures → AtMost b most_figures → AtMost (greater a b) most_figures
greater_cap a b h k = record {
  evaluating = either_cap _ _ h.evaluating k.evaluating;
  fires = max_cap _ _ h.fires k.fires;
  striding = either_cap _ _ h.striding k.striding;
  failing = either_cap _ _ h.failing k.failing;
}

pair_cap : (a b : Figures) → AtMost a most_figures → AtMost b most_figures → AtMost (pair a b) most_figures
pair_cap a b h k = record {
  evaluating = above_cap _ (beside_cap _ _ h.evaluating k.evaluating);
  fires = cut_cap (a.fires + b.fires);
  striding = above_cap _ (beside_cap _ _ h.striding k.striding);
  failing = above_cap _ (beside_cap _ _ h.failing k.failing);
}

choice_cap : (a b : Figures) → AtMost a most_figures → AtMost b most_figures → AtMost (choice a b) most_figures
choice_cap a b h k = record {
  evaluating = above_cap _ (beside_cap _ _ h.evaluating k.evaluating);
  fires = cut_cap (plus a.fires b.fires + 1);
  striding = above_cap _ (beside_cap _ _ h.striding k.striding);
  failing = above_cap _ (beside_cap _ _ h.failing k.failing);
}

then_cap : (a b : Figures) → AtMost a most_figures → AtMost b most_figures → AtMost (then a b) most_figures
then_cap a b h k = record {
  evaluating = above_cap _ h.evaluating;
  fires = cut_cap (plus a.fires b.fires + 1);
  striding = either_cap _ _ (above_cap _ (beside_cap _ _ h.striding (beside_cap _ _ k.evaluating k.failing))) k.striding;
  failing = either_cap _ _ (above_cap _ h.failing) k.failing;
}

next_cap : (a b : Figures) → AtMost a most_figures → AtMost b most_figures → AtMost (next a b) most_figures
next_cap a b h k = record {
  evaluating = above_cap _ h.evaluating;
  fires = max_cap _ _ h.fires k.fires;
  striding = either_cap _ _ (above_cap _ h.striding) k.striding;
  failing = either_cap _ _ (above_cap _ h.failing) k.failing;
}

sides_cap : (a b : Figures) → AtMost a most_figures → AtMost b most_figures → AtMost (sides a b) most_figures
sides_cap a b h k = record {
  evaluating = leaf_cap;
  fires = max_cap _ _ h.fires k.fires;
  striding = either_cap _ _ leaf_cap (either_cap _ _ h.striding k.striding);
  failing = above_cap _ (beside_cap _ _ (tested_cap a h) (tested_cap b k));
}

-- a table has no greater figures
pub record Capped (T : Tables) : Type 0 where
  pub definition : (f : Text) → AtMost (T.definition f) most_figures
  pub body : (i : ℕ) → AtMost (T.body i) most_figures

mutual
  expression_cap : (T : Tables) → Capped T → (e : HostTerm) → IsNoMore (expression_bound T e) most
  expression_cap T h unit_expr = leaf_cap
  expression_cap T h (bool_expr b) = leaf_cap
  expression_cap T h (int_expr i) = leaf_cap
  expression_cap T h (text_expr t) = leaf_cap
  expression_cap T h (name_expr x) = leaf_cap
  expression_cap T h (read_expr x) = leaf_cap
  expression_cap T h (call_expr f es) = above_cap _ (once_cap _ (beside_cap _ _ (expressions_cap T h es) (h.definition f).evaluating))
  expression_cap T h (pair_expr a b) = above_cap _ (beside_cap _ _ (expression_cap T h a) (expression_cap T h b))
  expression_cap T h (list_expr es) = above_cap _ (expressions_cap T h es)
  expression_cap T h (nil_expr b) = leaf_cap
  expression_cap T h (neg_expr a) = above_cap _ (expression_cap T h a)
  expression_cap T h (not_expr a) = above_cap _ (expression_cap T h a)
  expression_cap T h (fst_expr a) = above_cap _ (expression_cap T h a)
  expression_cap T h (snd_expr a) = above_cap _ (expression_cap T h a)
  expression_cap T h (len_expr a) = above_cap _ (expression_cap T h a)
  expression_cap T h (op_expr o a b) = above_cap _ (beside_cap _ _ (expression_cap T h a) (expression_cap T h b))
  expression_cap T h (let_expr x a b) = above_cap _ (beside_cap _ _ (expression_cap T h a) (expression_cap T h b))
  expression_cap T h (if_expr e a b) =
      above_cap _ (beside_cap _ _ (expression_cap T h e) (either_cap _ _ (expression_cap T h a) (expression_cap T h b)))
  expression_cap T h (case_expr e a x y b) =
      above_cap _ (beside_cap _ _ (expression_cap T h e) (either_cap _ _ (expression_cap T h a) (expression_cap T h b)))

  expressions_cap : (T : Tables) → Capped T → (es : HostTerms) → IsNoMore (expressions_bound T es) most
  expressions_cap T h no_exprs = none_cap
  expressions_cap T h (more_exprs e es) = beside_cap _ _ (expression_cap T h e) (expressions_cap T h es)

task_cap : (T : Tables) → Capped T → (t : TaskTerm) → AtMost (task_figures T t) most_figures
task_cap T h (edit e) = still_cap _ (above_cap _ (expression_cap T h e))
task_cap T h (enter b) = still_cap _ leaf_cap
task_cap T h (share x) = still_cap _ leaf_cap
task_cap T h (fail b) = still_cap _ leaf_cap
task_cap T h (call_task f es) = called_cap _ _ (expressions_cap T h (as_exprs es)) (h.definition f)
task_cap T h (then_task t i) = then_cap _ _ (task_cap T h t) (h.body i)
task_cap T h (next_task t i) = next_cap _ _ (task_cap T h t) (h.body i)
task_cap T h (and_task t u) = pair_cap _ _ (task_cap T h t) (task_cap T h u)
task_cap T h (or_task t u) = choice_cap _ _ (task_cap T h t) (task_cap T h u)
task_cap T h (xor_task i j) = sides_cap _ _ (h.body i) (h.body j)
task_cap T h (let_task x e t) = behind_cap _ _ (expression_cap T h e) (task_cap T h t)
task_cap T h (if_task e t u) = behind_cap _ _ (expression_cap T h e) (greater_cap _ _ (task_cap T h t) (task_cap T h u))
task_cap T h (case_task e t x y u) = behind_cap _ _ (expression_cap T h e) (greater_cap _ _ (task_cap T h t) (task_cap T h u))
task_cap T h (new_task x e t) = behind_cap _ _ (expression_cap T h e) (task_cap T h t)
task_cap T h (put_task x e t) = behind_cap _ _ (expression_cap T h e) (task_cap T h t)

pub text_cap : (T : Tables) → Capped T → (w : DefBodyTerm) → AtMost (text_figures T w) most_figures
text_cap T h (fun_body e) = plain_cap _ (expression_cap T h e)
text_cap T h (task_body t) = task_cap T h t
