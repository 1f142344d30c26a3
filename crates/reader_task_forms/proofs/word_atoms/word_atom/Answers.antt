use Rattle.std.proofs.Common.{◌≤◌, sym, ◌∙◌, arith}
use Rattle.reader_grammar.proofs.Exits.{handed_on, below}
use Rattle.task_model.specs.Syntax.Grammar.{basic, task_atom, atom, enclosed, arguments}
use Rattle.reader_grammar.proofs.GrammarLemmas.{stops_within}
use Rattle.reader_grammar.proofs.RuleLemmas.{too_deep}
use Rattle.reader_grammar.proofs.PartlyRead.{begun, past_one, past_part, stop_one, stop_part, whole}
use Rattle.reader_expressions.proofs.ReadingLemmas.{counted_at}
use Rattle.reader_task_forms.proofs.TaskRules as rules
use Rattle.reader_task_forms.proofs.ShownTasks as shows
use Rattle.reader_task_forms.proofs.word_atoms.word_atom.Goals as goal

-- ---- edit
pub returns-then-room-lt2 : goal.returns-then-room-lt2
returns-then-room-lt2 c = λ scope next. rw c.too_nested.ensures (counted_at _ (record {
  by = too_deep (rules.edit_rule _) c.in-Some.ensures (omega arith);
}))

pub returns-in_err-value : goal.returns-in_err-value
returns-in_err-value c = λ scope next.
    let le : 2 ≤ c.args.room = omega arith in
    rw (handed_on c.from_residual.result c.from_residual.ensures.1) (record {
      by = stop_part (begun (rules.edit_rule _) c.in-Some.ensures le) (stops_within atom task_atom (omega arith)) (below le)
          c.in_err-value.ensures.by;
    })

pub returns-in-Some : goal.returns-in-Some
returns-in-Some c = λ scope next.
    let le : 2 ≤ c.args.room = omega arith in
    let (x, sx, fx) = c.in_ok-value.ensures.by in
    record {
      by = (
        _,
        shows.edit_shown scope next _ x.0 sx ∙ sym c.in_ok-edit_task.ensures.shown,
        whole (past_part (begun (rules.edit_rule _) c.in-Some.ensures le) (stops_within atom task_atom (omega arith)) (below le)
            c.in_ok-value.ensures),
      );
    }

-- ---- enter
pub returns-then-room-lt2-2 : goal.returns-then-room-lt2-2
returns-then-room-lt2-2 c = λ scope next. rw c.too_nested-then-room-lt2-2.ensures (counted_at _ (record {
  by = too_deep (rules.enter_rule _) c.in-Some-strip_keyword.ensures (omega arith);
}))

pub returns-in_err-item : goal.returns-in_err-item
returns-in_err-item c = λ scope next.
    let le : 2 ≤ c.args.room = omega arith in
    rw (handed_on c.from_residual-in_err-item.result c.from_residual-in_err-item.ensures.1) (record {
      by = stop_part (begun (rules.enter_rule _) c.in-Some-strip_keyword.ensures le) (stops_within basic task_atom (omega arith))
          (below le) c.in_err-item.ensures.by;
    })

pub returns-in-Some-strip_keyword : goal.returns-in-Some-strip_keyword
returns-in-Some-strip_keyword c = λ scope next.
    let le : 2 ≤ c.args.room = omega arith in
    let (x, sx, fx) = c.in_ok-item.ensures.by in
    record {
      by = (
        _,
        shows.enter_shown scope next _ x.0 sx ∙ sym c.in_ok-enter_task.ensures.shown,
        whole (past_part (begun (rules.enter_rule _) c.in-Some-strip_keyword.ensures le) (stops_within basic task_atom (omega arith))
            (below le) c.in_ok-item.ensures),
      );
    }

-- ---- share
pub returns-then-room-lt1 : goal.returns-then-room-lt1
returns-then-room-lt1 c = λ scope next. rw c.too_nested-then-room-lt1.ensures (counted_at _ (record {
  by = too_deep (rules.share_rule _) c.in-Some-strip_keyword-2.ensures (omega arith);
}))

pub returns-in_err-name : goal.returns-in_err-name
returns-in_err-name c = λ scope next.
    let le : 1 ≤ c.args.room = omega arith in
    rw (handed_on c.from_residual-in_err-name.result c.from_residual-in_err-name.ensures.1) (record {
      by = stop_one (begun (rules.share_rule _) c.in-Some-strip_keyword-2.ensures le) c.in_err-name.ensures;
    })

pub returns-in-Some-strip_keyword-2 : goal.returns-in-Some-strip_keyword-2
returns-in-Some-strip_keyword-2 c = λ scope next.
    let le : 1 ≤ c.args.room = omega arith in
    record {
      by = (
        _,
        sym c.in_ok-share_task.ensures.shown,
        whole (past_one (begun (rules.share_rule _) c.in-Some-strip_keyword-2.ensures le) c.in_ok-name.ensures),
      );
    }

-- ---- fail
pub returns-then-room-lt2-3 : goal.returns-then-room-lt2-3
returns-then-room-lt2-3 c = λ scope next. rw c.too_nested-then-room-lt2-3.ensures (counted_at _ (record {
  by = too_deep (rules.fail_rule _) c.in-Some-strip_keyword-3.ensures (omega arith);
}))

pub returns-in_err-item-2 : goal.returns-in_err-item-2
returns-in_err-item-2 c = λ scope next.
    let le : 2 ≤ c.args.room = omega arith in
    rw (handed_on c.from_residual-in_err-item-2.result c.from_residual-in_err-item-2.ensures.1) (record {
      by = stop_part (begun (rules.fail_rule _) c.in-Some-strip_keyword-3.ensures le) (stops_within basic task_atom (omega arith))
          (below le) c.in_err-item-2.ensures.by;
    })

pub returns-in-Some-strip_keyword-3 : goal.returns-in-Some-strip_keyword-3
returns-in-Some-strip_keyword-3 c = λ scope next.
    let le : 2 ≤ c.args.room = omega arith in
    let (x, sx, fx) = c.in_ok-item-2.ensures.by in
    record {
      by = (
        _,
        shows.fail_shown scope next _ x.0 sx ∙ sym c.in_ok-fail_task.ensures.shown,
        whole (past_part (begun (rules.fail_rule _) c.in-Some-strip_keyword-3.ensures le) (stops_within basic task_atom (omega arith))
            (below le) c.in_ok-item-2.ensures),
      );
    }

-- ---- a call
pub returns-then-room-lt1-2 : goal.returns-then-room-lt1-2
returns-then-room-lt1-2 c = λ scope next. rw c.too_nested-then-room-lt1-2.ensures (counted_at _ (record {
  by = too_deep (rules.call_rule _ _) c.in-Some-strip_name.ensures (omega arith);
}))

pub returns-in_err-items : goal.returns-in_err-items
returns-in_err-items c = λ scope next.
    let le : 1 ≤ c.args.room = omega arith in
    rw (handed_on c.from_residual-in_err-items.result c.from_residual-in_err-items.ensures.1) (record {
      by = stop_part (begun (rules.call_rule _ _) c.in-Some-strip_name.ensures le)
          (stops_within (enclosed arguments) task_atom (omega arith)) (below le) c.in_err-items.ensures.by;
    })

pub returns-in-Some-strip_name : goal.returns-in-Some-strip_name
returns-in-Some-strip_name c = λ scope next.
    let le : 1 ≤ c.args.room = omega arith in
    let (x, sx, fx) = c.in_ok-items.ensures.by in
    record {
      by = (
        _,
        shows.call_shown scope next _ _ x.0 sx ∙ sym c.in_ok-call_task.ensures.shown,
        whole (past_part (begun (rules.call_rule _ _) c.in-Some-strip_name.ensures le)
            (stops_within (enclosed arguments) task_atom (omega arith)) (below le) c.in_ok-items.ensures),
      );
    }

pub returns : goal.returns
returns c = λ scope next.
    rw c.unexpected.ensures (counted_at _ (record {
      by = rules.no_task_atom _ c.in_default.ensures c.in_default-strip_keyword.ensures c.in_default-strip_keyword-2.ensures
          c.in_default-strip_keyword-3.ensures c.in_default-strip_name.ensures c.requires;
    }))
