use Rattle.std.proofs.Common.{◌≡◌, ◌+◌, ◌≤◌, refl, sym, arith}
use Rattle.std.proofs.lemmas.Result.{err_from_is_err_and}
use Rattle.task_model.specs.Syntax.Grammar.{parameters}
use Rattle.exact_reading.proofs.Symbols.{seq_one, seq_one_stop, seq_part, seq_part_stop, seq_done}
use Rattle.reader_grammar.proofs.GrammarLemmas.{grammar}
use Rattle.reader_grammar.proofs.EnclosedRules as enclosing
use Rattle.reader_expressions.proofs.ReadingLemmas.{counted_at, at_reading}
use Rattle.reader_programs.proofs.parameters.enclosed_parameters.Goals as goal

pub returns-in_default : goal.returns-in_default
returns-in_default c = rw c.unexpected.ensures (counted_at _ (record { by = enclosing.no_enclosed _ c.in_default.ensures }))

pub returns-in-Some-strip_symbol : goal.returns-in-Some-strip_symbol
returns-in-Some-strip_symbol c = at_reading c.in-Some.ensures (record {
  by = (_, sym c.none.ensures, enclosing.closed parameters _ c.in-Some-strip_symbol.ensures);
})

pub returns-in_err-all : goal.returns-in_err-all
returns-in_err-all c =
    let p = err_from_is_err_and c.from_residual.result c.from_residual.ensures.1 in
    let le : 1 ≤ c.args.room = c.requires in
    let up : 0 + c.args.room ≡ c.args.room = omega arith in
    rw (p.1, p.2) (at_reading c.in-Some.ensures (record {
      by = enclosing.inside parameters _ c.in_default-strip_symbol.ensures
          (seq_part_stop grammar 0 (λ p z. refl) (omega (arith, le)) up c.in_err-all.ensures.by);
    }))

pub returns-in_err-rest : goal.returns-in_err-rest
returns-in_err-rest c =
    let p = err_from_is_err_and c.from_residual-in_err-rest.result c.from_residual-in_err-rest.ensures.1 in
    let le : 1 ≤ c.args.room = c.requires in
    let up : 0 + c.args.room ≡ c.args.room = omega arith in
    let (x, sx, fx) = c.in_ok-all.ensures.by in
    let fits = fx.by.fits in
    rw (p.1, p.2) (at_reading c.in-Some.ensures (record {
      by = enclosing.inside parameters _ c.in_default-strip_symbol.ensures
          (seq_part grammar 0 (λ p z. refl) (omega (arith, le)) up fx
          (seq_one_stop grammar 0 (omega (arith, le, fits)) c.in_err-rest.ensures));
    }))

pub returns : goal.returns
returns c =
    let le : 1 ≤ c.args.room = c.requires in
    let up : 0 + c.args.room ≡ c.args.room = omega arith in
    let (x, sx, fx) = c.in_ok-all.ensures.by in
    let fits = fx.by.fits in
    at_reading c.in-Some.ensures (record {
      by = (
        _,
        sx,
        enclosing.inside parameters _ c.in_default-strip_symbol.ensures
            (seq_part grammar 0 (λ p z. refl) (omega (arith, le)) up fx
            (seq_one grammar 0 (omega (arith, le, fits)) c.in_ok-rest.ensures (seq_done grammar 0 (omega (arith, le, fits))))),
      );
    })
