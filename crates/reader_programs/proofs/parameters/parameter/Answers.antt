use Rattle.std.proofs.Common.{◌≡◌, ◌+◌, ◌≤◌, arith}
use Rattle.std.proofs.lemmas.Result.{err_from_is_err_and}
use Rattle.task_model.specs.Syntax.Grammar.{basic, parameter}
use Rattle.exact_reading.proofs.Symbols.{seq_part, seq_part_stop, seq_done}
use Rattle.reader_grammar.proofs.GrammarLemmas.{grammar, stops_within}
use Rattle.reader_expressions.proofs.ReadingLemmas.{counted_at}
use Rattle.reader_programs.proofs.DefinitionRules as rules
use Rattle.reader_programs.proofs.ParameterLemmas.{value_shown, reference_shown}
use Rattle.reader_programs.proofs.parameters.parameter.Goals as goal

pub returns-in_default : goal.returns-in_default
returns-in_default c = rw c.unexpected.ensures (counted_at _ (record { by = rules.no_parameter _ c.in_default.ensures }))

pub returns-in_default-strip_symbol : goal.returns-in_default-strip_symbol
returns-in_default-strip_symbol c = rw c.unexpected-in_default-strip_symbol.ensures (counted_at _ (record {
  by = rules.by_name _ _ c.in-Some.ensures c.requires (rules.no_colon _ _ _ c.in_default-strip_symbol.ensures);
}))

pub returns-in_err-item : goal.returns-in_err-item
returns-in_err-item c =
    let p = err_from_is_err_and c.from_residual.result c.from_residual.ensures.1 in
    let le : 1 ≤ c.args.room = c.requires in
    let up : 0 + c.args.room ≡ c.args.room = omega arith in
    rw (p.1, p.2) (record {
      by = rules.by_name _ _ c.in-Some.ensures le
          (rules.by_colon _ _ _ c.in-Some-strip_symbol.ensures le
          (rules.by_reference _ _ _ c.in-Some-strip_keyword.ensures le
          (seq_part_stop grammar 0 (stops_within basic parameter (omega arith)) (omega (arith, le)) up c.in_err-item.ensures.by)));
    })

pub returns-in-Some-strip_keyword : goal.returns-in-Some-strip_keyword
returns-in-Some-strip_keyword c =
    let le : 1 ≤ c.args.room = c.requires in
    let up : 0 + c.args.room ≡ c.args.room = omega arith in
    let (x, sx, fx) = c.in_ok-item.ensures.by in
    let fits = fx.by.fits in
    record {
      by = (
        _,
        reference_shown _ _ 0 0 x.0 sx c.in_ok-name.ensures.text,
        rules.by_name _ _ c.in-Some.ensures le
            (rules.by_colon _ _ _ c.in-Some-strip_symbol.ensures le
            (rules.by_reference _ _ _ c.in-Some-strip_keyword.ensures le
            (seq_part grammar 0 (stops_within basic parameter (omega arith)) (omega (arith, le)) up fx
            (seq_done grammar 0 (omega (arith, le, fits)))))),
      );
    }

pub returns-in_err-item-2 : goal.returns-in_err-item-2
returns-in_err-item-2 c =
    let p = err_from_is_err_and c.from_residual-in_err-item-2.result c.from_residual-in_err-item-2.ensures.1 in
    let le : 1 ≤ c.args.room = c.requires in
    let up : 0 + c.args.room ≡ c.args.room = omega arith in
    rw (p.1, p.2) (record {
      by = rules.by_name _ _ c.in-Some.ensures le
          (rules.by_colon _ _ _ c.in-Some-strip_symbol.ensures le
          (rules.by_value _ _ _ c.in_default-strip_keyword.ensures
          (seq_part_stop grammar 0 (stops_within basic parameter (omega arith)) (omega (arith, le)) up c.in_err-item-2.ensures.by)));
    })

pub returns : goal.returns
returns c =
    let le : 1 ≤ c.args.room = c.requires in
    let up : 0 + c.args.room ≡ c.args.room = omega arith in
    let (x, sx, fx) = c.in_ok-item-2.ensures.by in
    let fits = fx.by.fits in
    record {
      by = (
        _,
        value_shown _ _ 0 x.0 sx c.in_ok-name-2.ensures.text,
        rules.by_name _ _ c.in-Some.ensures le
            (rules.by_colon _ _ _ c.in-Some-strip_symbol.ensures le
            (rules.by_value _ _ _ c.in_default-strip_keyword.ensures
            (seq_part grammar 0 (stops_within basic parameter (omega arith)) (omega (arith, le)) up fx
            (seq_done grammar 0 (omega (arith, le, fits)))))),
      );
    }
