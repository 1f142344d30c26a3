use Rattle.std.proofs.Common.{◌≡◌, suc, ◌+◌, sym, ap, arith}
use Rattle.std.proofs.lemmas.Result.{err_from_is_err_and}
use Rattle.task_model.specs.Terms.Basic.{basic_term, pair_type, list_type}
use Rattle.exact_reading.proofs.Productions.{same_answer}
use Rattle.literal_text.proofs.LiteralLemmas.{word_right, word_stop}
use Rattle.literal_text.proofs.TypeLemmas as types
use Rattle.literal_text.proofs.types.+basic.Goals as goal

-- ---- by the first byte
pub basic-returns-then-begins : goal.basic-returns-then-begins
basic-returns-then-begins t c = types.as_pair c.args.room c.requires c.if-begins.ensures c.pair.ensures

pub basic-returns-then-begins-2 : goal.basic-returns-then-begins-2
basic-returns-then-begins-2 t c = types.as_list c.args.room c.requires c.if-begins-2.ensures c.list.ensures

pub basic-returns-in_err-rest : goal.basic-returns-in_err-rest
basic-returns-in_err-rest t c =
    let p = err_from_is_err_and c.from_residual.result c.from_residual.ensures.1 in
    rw (p.1, p.2) (types.as_unit c.args.room c.requires c.if-begins-3.ensures (word_stop c.in_err-rest.ensures))

pub basic-returns-then-begins-3 : goal.basic-returns-then-begins-3
basic-returns-then-begins-3 t c = same_answer (λ i. (basic_term (sym c.one.ensures.basic i), sym c.one.ensures.symbols i))
    (types.as_unit c.args.room c.requires c.if-begins-3.ensures (word_right c.in_ok-rest.ensures))

pub basic-returns-in_err-rest-2 : goal.basic-returns-in_err-rest-2
basic-returns-in_err-rest-2 t c =
    let p = err_from_is_err_and c.from_residual-in_err-rest-2.result c.from_residual-in_err-rest-2.ensures.1 in
    rw (p.1, p.2) (types.as_bool c.args.room c.requires c.if-begins-4.ensures (word_stop c.in_err-rest-2.ensures))

pub basic-returns-then-begins-4 : goal.basic-returns-then-begins-4
basic-returns-then-begins-4 t c = same_answer
    (λ i. (basic_term (sym c.one-then-begins-4.ensures.basic i), sym c.one-then-begins-4.ensures.symbols i))
    (types.as_bool c.args.room c.requires c.if-begins-4.ensures (word_right c.in_ok-rest-2.ensures))

pub basic-returns-then-begins-5 : goal.basic-returns-then-begins-5
basic-returns-then-begins-5 t c = same_answer
    (λ i. (basic_term (sym c.one-then-begins-5.ensures.basic i), sym c.one-then-begins-5.ensures.symbols i))
    (types.as_int c.args.room c.requires c.if-begins-5.ensures (word_right c.in_ok-rest-3.ensures))

pub basic-returns : goal.basic-returns
basic-returns t c = same_answer (λ i. (basic_term (sym c.one-2.ensures.basic i), sym c.one-2.ensures.symbols i))
    (types.as_text c.args.room c.requires c.if-begins.ensures c.if-begins-2.ensures c.if-begins-3.ensures c.if-begins-4.ensures
    c.if-begins-5.ensures (word_right c.in_ok-rest-4.ensures))

pub basic-returns-in_err-rest-3 : goal.basic-returns-in_err-rest-3
basic-returns-in_err-rest-3 t c =
    let p = err_from_is_err_and c.from_residual-in_err-rest-3.result c.from_residual-in_err-rest-3.ensures.1 in
    rw (p.1, p.2) (types.as_int c.args.room c.requires c.if-begins-5.ensures (word_stop c.in_err-rest-3.ensures))

pub basic-returns-in_err-rest-4 : goal.basic-returns-in_err-rest-4
basic-returns-in_err-rest-4 t c =
    let p = err_from_is_err_and c.from_residual-in_err-rest-4.result c.from_residual-in_err-rest-4.ensures.1 in
    rw (p.1, p.2)
    (types.as_text c.args.room c.requires c.if-begins.ensures c.if-begins-2.ensures c.if-begins-3.ensures c.if-begins-4.ensures
    c.if-begins-5.ensures (word_stop c.in_err-rest-4.ensures))

-- ---- lists
pub list-returns-then-room-lt2 : goal.list-returns-then-room-lt2
list-returns-then-room-lt2 t c = rw c.unexpected.ensures (types.list_full c.args.room c.if-room-lt2.true)

pub list-returns-in_err-rest : goal.list-returns-in_err-rest
list-returns-in_err-rest t c =
    let p = err_from_is_err_and c.from_residual.result c.from_residual.ensures.1 in
    rw (p.1, p.2) (types.list_stop c.args.room c.if-room-lt2.false c.in_err-rest.ensures)

pub list-returns-in_err-item : goal.list-returns-in_err-item
list-returns-in_err-item t c =
    let p = err_from_is_err_and c.from_residual-in_err-item.result c.from_residual-in_err-item.ensures.1 in
    rw (p.1, p.2)
    (types.list_right c.args.room c.if-room-lt2.false c.in_ok-rest.ensures (types.item_stop c.args.room c.in_err-item.ensures))

pub list-returns-in_err-rest-2 : goal.list-returns-in_err-rest-2
list-returns-in_err-rest-2 t c =
    let p = err_from_is_err_and c.from_residual-in_err-rest-2.result c.from_residual-in_err-rest-2.ensures.1 in
    rw (p.1, p.2)
    (types.list_right c.args.room c.if-room-lt2.false c.in_ok-rest.ensures
    (types.item_right c.args.room c.in_ok-item.ensures (word_stop c.in_err-rest-2.ensures)))

pub list-returns : goal.list-returns
list-returns t c =
    let v : basic_term c.in_ok-item.item.basic ≡ basic_term c.in_ok-new.field-0.value = ap basic_term (sym c.in_ok-new.ensures.ok) in
    let n : suc c.in_ok-item.item.symbols ≡ 1 + c.in_ok-item.item.symbols = omega arith in
    same_answer (λ i. (list_type (v i), n i))
    (types.list_right c.args.room c.if-room-lt2.false c.in_ok-rest.ensures
    (types.item_right c.args.room c.in_ok-item.ensures (word_right c.in_ok-rest-2.ensures)))

-- ---- pairs
pub pair-returns-then-room-lt3 : goal.pair-returns-then-room-lt3
pair-returns-then-room-lt3 t c = rw c.unexpected.ensures (types.pair_full c.args.room c.if-room-lt3.true)

pub pair-returns-in_err-rest : goal.pair-returns-in_err-rest
pair-returns-in_err-rest t c =
    let p = err_from_is_err_and c.from_residual.result c.from_residual.ensures.1 in
    rw (p.1, p.2) (types.bracket_stop c.args.room c.if-room-lt3.false c.in_err-rest.ensures)

pub pair-returns-in_err-first : goal.pair-returns-in_err-first
pair-returns-in_err-first t c =
    let p = err_from_is_err_and c.from_residual-in_err-first.result c.from_residual-in_err-first.ensures.1 in
    rw (p.1, p.2)
    (types.bracket_right c.args.room c.if-room-lt3.false c.in_ok-rest.ensures
    (types.first_stop c.args.room c.if-room-lt3.false c.in_err-first.ensures))

pub pair-returns-in_err-rest-2 : goal.pair-returns-in_err-rest-2
pair-returns-in_err-rest-2 t c =
    let p = err_from_is_err_and c.from_residual-in_err-rest-2.result c.from_residual-in_err-rest-2.ensures.1 in
    let some = types.leaves_some c.args.room c.if-room-lt3.false c.in_ok-first.ensures in
    rw (p.1, p.2)
    (types.bracket_right c.args.room c.if-room-lt3.false c.in_ok-rest.ensures
    (types.first_right c.args.room c.if-room-lt3.false c.in_ok-first.ensures
    (types.comma_stop c.args.room _ some c.in_err-rest-2.ensures)))

pub pair-returns-in_err-second : goal.pair-returns-in_err-second
pair-returns-in_err-second t c =
    let p = err_from_is_err_and c.from_residual-in_err-second.result c.from_residual-in_err-second.ensures.1 in
    let some = types.leaves_some c.args.room c.if-room-lt3.false c.in_ok-first.ensures in
    rw (p.1, p.2)
    (types.bracket_right c.args.room c.if-room-lt3.false c.in_ok-rest.ensures
    (types.first_right c.args.room c.if-room-lt3.false c.in_ok-first.ensures
    (types.comma_right c.args.room _ some c.in_ok-rest-2.ensures (types.second_stop c.args.room _ some c.in_err-second.ensures))))

pub pair-returns-in_err-rest-3 : goal.pair-returns-in_err-rest-3
pair-returns-in_err-rest-3 t c =
    let p = err_from_is_err_and c.from_residual-in_err-rest-3.result c.from_residual-in_err-rest-3.ensures.1 in
    let some = types.leaves_some c.args.room c.if-room-lt3.false c.in_ok-first.ensures in
    rw (p.1, p.2)
    (types.bracket_right c.args.room c.if-room-lt3.false c.in_ok-rest.ensures
    (types.first_right c.args.room c.if-room-lt3.false c.in_ok-first.ensures
    (types.comma_right c.args.room _ some c.in_ok-rest-2.ensures
    (types.second_right c.args.room _ some c.in_ok-second.ensures (word_stop c.in_err-rest-3.ensures)))))

pub pair-returns : goal.pair-returns
pair-returns t c =
    let some = types.leaves_some c.args.room c.if-room-lt3.false c.in_ok-first.ensures in
    let v : basic_term c.in_ok-first.first.basic ≡ basic_term c.in_ok-first-2.first.value = ap basic_term (sym c.in_ok-first-2.ensures.ok)
    in
    let w : basic_term c.in_ok-second.second.basic ≡ basic_term c.in_ok-new.field-0.value = ap basic_term (sym c.in_ok-new.ensures.ok) in
    let n : suc (c.in_ok-first.first.symbols + c.in_ok-second.second.symbols) ≡ 1 + c.in_ok-first.first.symbols
    + c.in_ok-second.second.symbols = omega arith in
    same_answer (λ i. (pair_type (v i) (w i), n i))
    (types.bracket_right c.args.room c.if-room-lt3.false c.in_ok-rest.ensures
    (types.first_right c.args.room c.if-room-lt3.false c.in_ok-first.ensures
    (types.comma_right c.args.room _ some c.in_ok-rest-2.ensures
    (types.second_right c.args.room _ some c.in_ok-second.ensures (word_right c.in_ok-rest-3.ensures)))))
