use Rattle.std.proofs.Common.{◌≡◌, ◌-◌, ◌≤◌, refl, sym, ap, arith}
use Rattle.reader_grammar.proofs.Exits.{handed_on, below}
use Rattle.task_model.specs.Terms.Basic.{basic_term}
use Rattle.task_model.specs.Syntax.Grammar.{scalar_type}
use Rattle.reader_grammar.proofs.CountLemmas.{counted}
use Rattle.reader_grammar.proofs.RuleLemmas.{too_deep}
use Rattle.reader_grammar.proofs.PartlyRead.{begun, past_one, past_part, stop_one, stop_part, whole}
use Rattle.reader_grammar.proofs.TypeRules as types
use Rattle.reader_grammar.proofs.basics.+basic.Goals as goal

pub returns-then-room-lt1 : goal.returns-then-room-lt1
returns-then-room-lt1 t c =
    let (b, p, e, is) = c.in-Some.ensures in rw c.too_nested.ensures
    (record { by = counted _ (too_deep (types.scalar_rule b p) e (omega arith)) })

pub returns-in-Some : goal.returns-in-Some
returns-in-Some t c =
    let (b, p, e, is) = c.in-Some.ensures in
    record {
      by = (
        (scalar_type b p, 1),
        ap (λ q. (q, 1)) (sym is),
        whole (begun (types.scalar_rule b p) e (omega arith)),
      );
    }

-- ---- pairs
pub returns-then-room-lt2 : goal.returns-then-room-lt2
returns-then-room-lt2 t c = rw c.too_nested-then-room-lt2.ensures
    (record { by = counted _ (too_deep (types.pair_rule _) c.in-Some-strip_symbol.ensures (omega arith)) })

pub returns-in_err-first : goal.returns-in_err-first
returns-in_err-first t c =
    let le : 2 ≤ c.args.room = omega arith in
    rw (handed_on c.from_residual.result c.from_residual.ensures.1) (record {
      by = stop_part (begun (types.pair_rule _) c.in-Some-strip_symbol.ensures le) (λ p z. refl) (below le) c.in_err-first.ensures.by;
    })

pub returns-in_err-rest : goal.returns-in_err-rest
returns-in_err-rest t c =
    let le : 2 ≤ c.args.room = omega arith in
    rw (handed_on c.from_residual-in_err-rest.result c.from_residual-in_err-rest.ensures.1) (record {
      by = stop_one (past_part (begun (types.pair_rule _) c.in-Some-strip_symbol.ensures le) (λ p z. refl) (below le)
          c.in_ok-first.ensures) c.in_err-rest.ensures;
    })

pub returns-in_err-second : goal.returns-in_err-second
returns-in_err-second t c =
    let le : 2 ≤ c.args.room = omega arith in
    rw (handed_on c.from_residual-in_err-second.result c.from_residual-in_err-second.ensures.1) (record {
      by = stop_part (past_one (past_part (begun (types.pair_rule _) c.in-Some-strip_symbol.ensures le) (λ p z. refl) (below le)
          c.in_ok-first.ensures) c.in_ok-rest.ensures) (λ p z. refl) (below le) c.in_err-second.ensures.by;
    })

pub returns-in_err-rest-2 : goal.returns-in_err-rest-2
returns-in_err-rest-2 t c =
    let le : 2 ≤ c.args.room = omega arith in
    rw (handed_on c.from_residual-in_err-rest-2.result c.from_residual-in_err-rest-2.ensures.1) (record {
      by = stop_one (past_part (past_one (past_part (begun (types.pair_rule _) c.in-Some-strip_symbol.ensures le) (λ p z. refl) (below le)
          c.in_ok-first.ensures) c.in_ok-rest.ensures) (λ p z. refl) (below le) c.in_ok-second.ensures) c.in_err-rest-2.ensures;
    })

pub overflow_add-levels : goal.overflow_add-levels
overflow_add-levels t c =
    let (x, sx, fx) = c.in_ok-first.ensures.by in
    let (y, sy, fy) = c.in_ok-second.ensures.by in
    let fits = fx.by.fits in
    let fits' = fy.by.fits in
    let same = fx.by.found.1 in
    let same' = fy.by.found.1 in
    let e = ap (λ q. q.1) sx in
    let e' = ap (λ q. q.1) sy in
    omega (arith, fits, fits', e, e', same, same')

pub returns-in-Some-strip_symbol : goal.returns-in-Some-strip_symbol
returns-in-Some-strip_symbol t c =
    let le : 2 ≤ c.args.room = omega arith in
    let (x, sx, fx) = c.in_ok-first.ensures.by in
    let (y, sy, fy) = c.in_ok-second.ensures.by in
    let v1 : basic_term c.in_ok-first.first.basic ≡ basic_term c.in_ok-new.field-0.value = ap basic_term (sym c.in_ok-new.ensures.ok) in
    let v2 : basic_term c.in_ok-second.second.basic ≡ basic_term c.in_ok-new-2.field-0.value =
    ap basic_term (sym c.in_ok-new-2.ensures.ok) in
    record {
      by = (
        _,
        types.pair_shown x.0 y.0 sx v1 sy v2 (omega arith),
        whole (past_one (past_part (past_one (past_part (begun (types.pair_rule _) c.in-Some-strip_symbol.ensures le) (λ p z. refl)
            (below le) c.in_ok-first.ensures) c.in_ok-rest.ensures) (λ p z. refl) (below le) c.in_ok-second.ensures)
            c.in_ok-rest-2.ensures),
      );
    }

-- ---- lists
pub returns-then-room-lt2-2 : goal.returns-then-room-lt2-2
returns-then-room-lt2-2 t c = rw c.too_nested-then-room-lt2-2.ensures
    (record { by = counted _ (too_deep (types.list_rule _) c.in-Some-strip_symbol-2.ensures (omega arith)) })

pub returns-in_err-item : goal.returns-in_err-item
returns-in_err-item t c =
    let le : 2 ≤ c.args.room = omega arith in
    rw (handed_on c.from_residual-in_err-item.result c.from_residual-in_err-item.ensures.1) (record {
      by = stop_part (begun (types.list_rule _) c.in-Some-strip_symbol-2.ensures le) (λ p z. refl) (below le) c.in_err-item.ensures.by;
    })

pub returns-in_err-rest-3 : goal.returns-in_err-rest-3
returns-in_err-rest-3 t c =
    let le : 2 ≤ c.args.room = omega arith in
    rw (handed_on c.from_residual-in_err-rest-3.result c.from_residual-in_err-rest-3.ensures.1) (record {
      by = stop_one (past_part (begun (types.list_rule _) c.in-Some-strip_symbol-2.ensures le) (λ p z. refl) (below le)
          c.in_ok-item.ensures) c.in_err-rest-3.ensures;
    })

pub overflow_add-levels-in-Some-strip_symbol-2 : goal.overflow_add-levels-in-Some-strip_symbol-2
overflow_add-levels-in-Some-strip_symbol-2 t c =
    let (x, sx, fx) = c.in_ok-item.ensures.by in
    let fits = fx.by.fits in
    let same = fx.by.found.1 in
    let e = ap (λ q. q.1) sx in
    omega (arith, fits, e, same)

pub returns-in-Some-strip_symbol-2 : goal.returns-in-Some-strip_symbol-2
returns-in-Some-strip_symbol-2 t c =
    let le : 2 ≤ c.args.room = omega arith in
    let (x, sx, fx) = c.in_ok-item.ensures.by in
    let v : basic_term c.in_ok-item.item.basic ≡ basic_term c.in_ok-new-3.field-0.value = ap basic_term (sym c.in_ok-new-3.ensures.ok) in
    record {
      by = (
        _,
        types.list_shown x.0 sx v (omega arith),
        whole (past_one (past_part (begun (types.list_rule _) c.in-Some-strip_symbol-2.ensures le) (λ p z. refl) (below le)
            c.in_ok-item.ensures) c.in_ok-rest-3.ensures),
      );
    }

pub returns : goal.returns
returns t c = rw c.unexpected.ensures
    (record { by = counted _ (types.no_type _ c.in_default.ensures c.in_default-strip_symbol.ensures c.in_default-strip_symbol-2.ensures) })
