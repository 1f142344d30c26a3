use Rattle.std.proofs.Common.{◌≡◌, ℕ, ◌≤◌, ◌<◌, List, [], ◌∷◌, ◌++◌, length, map, length-append, true, false, Option, Some, inl, inr, refl, sym, ap, ◌∙◌, subst, arith}
use Rattle.std.proofs.lemmas.Result.{err_from_is_err_and}
use Rattle.std.proofs.lemmas.List.{length-map}
use Rattle.task_model.specs.Terms.Text.{Text}
use Rattle.task_model.specs.Terms.Basic.{BasicTerm, basic_term, pair_type, list_type}
use Rattle.task_model.specs.Terms.Value.{ValueTerm, value_term, pair_value, list_value, as_values}
use Rattle.task_model.specs.declared.value.Value as value_type
use Rattle.task_model.proofs.RowLemmas.{value_term-List}
use Rattle.exact_reading.specs.Reading.{Right, Answer, Always}
use Rattle.exact_reading.proofs.Productions.{same_answer}
use Rattle.literal_text.specs.LiteralReading.{want_of, fewest, NoBlank, Ends, Lit, Further}
use Rattle.literal_text.proofs.LiteralLemmas as literals
use Rattle.literal_text.proofs.ListLemmas as lists
use Rattle.literal_text.proofs.ChoiceLemmas as choices
use Rattle.literal_text.proofs.values.+value.Goals as goal

mapped : (xs : List value_type.Value) (x : value_type.Value) → map value_term (xs ++ (x ∷ [])) ≡ map value_term xs ++ (value_term x ∷ [])
mapped [] x = refl
mapped (y ∷ xs) x = ap (λ l. value_term y ∷ l) (mapped xs x)

-- ---- any literal
pub any-returns-in_err-rest : goal.any-returns-in_err-rest
any-returns-in_err-rest t c =
    let p = err_from_is_err_and c.from_residual.result c.from_residual.ensures.1 in
    rw (p.1, p.2) (choices.any_round_stop c.args.room c.requires c.if-begins.ensures c.in_err-rest.ensures)

pub any-returns-then-room-lt2 : goal.any-returns-then-room-lt2
any-returns-then-room-lt2 t c = choices.any_round c.args.room c.requires c.if-begins.ensures c.in_ok-rest.ensures
    (choices.opened_full c.args.room c.requires c.if-room-lt2.true c.unit_end.ensures)

pub any-returns-then-begins-2 : goal.any-returns-then-begins-2
any-returns-then-begins-2 t c = choices.any_round c.args.room c.requires c.if-begins.ensures c.in_ok-rest.ensures
    (choices.opened_unit c.args.room c.requires c.if-begins-2.ensures c.unit_end-then-begins-2.ensures)

pub any-returns-then-begins : goal.any-returns-then-begins
any-returns-then-begins t c = choices.any_round c.args.room c.requires c.if-begins.ensures c.in_ok-rest.ensures
    (choices.opened_pair c.args.room c.requires (omega arith) c.if-begins-2.ensures c.pair.ensures)

pub any-returns-then-begins-3 : goal.any-returns-then-begins-3
any-returns-then-begins-3 t c = choices.any_list c.args.room c.requires c.if-begins-3.ensures c.list.ensures

pub any-returns-then-begins-4 : goal.any-returns-then-begins-4
any-returns-then-begins-4 t c = choices.any_text c.args.room c.requires c.if-begins-4.ensures c.text.ensures

pub any-returns-then-begins-5 : goal.any-returns-then-begins-5
any-returns-then-begins-5 t c = choices.any_bool c.args.room c.requires 116 (inl refl) c.if-begins-5.ensures c.truth.ensures

pub any-returns-then-begins-6 : goal.any-returns-then-begins-6
any-returns-then-begins-6 t c = choices.any_bool c.args.room c.requires 102 (inr refl) c.if-begins-6.ensures c.truth-then-begins-6.ensures

pub any-returns : goal.any-returns
any-returns t c = choices.any_int c.args.room c.requires c.if-begins.ensures c.if-begins-3.ensures c.if-begins-4.ensures
    c.if-begins-5.ensures c.if-begins-6.ensures c.int.ensures

-- ---- the parts of a pair
pub pair-returns-in_err-left : goal.pair-returns-in_err-left
pair-returns-in_err-left t c =
    let p = err_from_is_err_and c.from_residual.result c.from_residual.ensures.1 in
    rw (p.1, p.2)
    (literals.by_pair (want_of c.args.first) (want_of c.args.second) c.args.room
    (literals.first_stop (want_of c.args.first) (want_of c.args.second) c.args.room c.requires.second c.in_err-left.ensures))

pub pair-returns-in_err-rest : goal.pair-returns-in_err-rest
pair-returns-in_err-rest t c =
    let p = err_from_is_err_and c.from_residual-in_err-rest.result c.from_residual-in_err-rest.ensures.1 in
    rw (p.1, p.2)
    (literals.by_pair (want_of c.args.first) (want_of c.args.second) c.args.room
    (literals.first_right (want_of c.args.first) (want_of c.args.second) c.args.room c.requires.second c.in_ok-left.ensures
    (literals.comma_stop (want_of c.args.first) (want_of c.args.second) c.args.room c.requires.second c.in_err-rest.ensures)))

pub pair-returns-in_err-right : goal.pair-returns-in_err-right
pair-returns-in_err-right t c =
    let p = err_from_is_err_and c.from_residual-in_err-right.result c.from_residual-in_err-right.ensures.1 in
    rw (p.1, p.2)
    (literals.by_pair (want_of c.args.first) (want_of c.args.second) c.args.room
    (literals.first_right (want_of c.args.first) (want_of c.args.second) c.args.room c.requires.second c.in_ok-left.ensures
    (literals.comma_right (want_of c.args.first) (want_of c.args.second) c.args.room c.requires.second c.in_ok-rest.ensures
    (literals.second_stop (want_of c.args.first) (want_of c.args.second) c.args.room c.in_err-right.ensures))))

pub pair-returns-in_err-rest-2 : goal.pair-returns-in_err-rest-2
pair-returns-in_err-rest-2 t c =
    let p = err_from_is_err_and c.from_residual-in_err-rest-2.result c.from_residual-in_err-rest-2.ensures.1 in
    rw (p.1, p.2)
    (literals.by_pair (want_of c.args.first) (want_of c.args.second) c.args.room
    (literals.first_right (want_of c.args.first) (want_of c.args.second) c.args.room c.requires.second c.in_ok-left.ensures
    (literals.comma_right (want_of c.args.first) (want_of c.args.second) c.args.room c.requires.second c.in_ok-rest.ensures
    (literals.second_right (want_of c.args.first) (want_of c.args.second) c.args.room c.in_ok-right.ensures
    (literals.word_stop c.in_err-rest-2.ensures)))))

pub pair-returns : goal.pair-returns
pair-returns t c =
    let v1 : value_term c.in_ok-left.left ≡ value_term c.in_ok-left-2.left.value = ap value_term (sym c.in_ok-left-2.ensures.ok) in
    let v2 : value_term c.in_ok-right.right ≡ value_term c.in_ok-new.field-0.value = ap value_term (sym c.in_ok-new.ensures.ok) in
    same_answer (ap (λ v. pair_value v (value_term c.in_ok-right.right)) v1 ∙ ap (λ w. pair_value (value_term c.in_ok-left-2.left.value) w)
    v2)
    (literals.by_pair (want_of c.args.first) (want_of c.args.second) c.args.room
    (literals.first_right (want_of c.args.first) (want_of c.args.second) c.args.room c.requires.second c.in_ok-left.ensures
    (literals.comma_right (want_of c.args.first) (want_of c.args.second) c.args.room c.requires.second c.in_ok-rest.ensures
    (literals.second_right (want_of c.args.first) (want_of c.args.second) c.args.room c.in_ok-right.ensures
    (literals.word_right c.in_ok-rest-2.ensures)))))

-- ---- lists
pub list-returns-in_err-rest : goal.list-returns-in_err-rest
list-returns-in_err-rest t c =
    let p = err_from_is_err_and c.from_residual.result c.from_residual.ensures.1 in
    rw (p.1, p.2) (lists.list_stop _ _ c.in_err-rest.ensures)

pub list-returns-then-begins : goal.list-returns-then-begins
list-returns-then-begins t c = lists.list_right _ _ c.in_ok-rest.ensures (lists.inside_closed _ _ c.if-begins.ensures c.no_elements.ensures)

pub list-returns-then-not-fits : goal.list-returns-then-not-fits
list-returns-then-not-fits t c = lists.list_right _ _ c.in_ok-rest.ensures
    (lists.inside_full _ _ (λ le. let fits : c.fits.result ≡ true = c.fits.ensures.1 le in
    let other : c.fits.result ≡ false = c.if-not-fits.true in let no' : true ≡ false = sym fits ∙ other in cc)
    c.no_elements-then-not-fits.ensures)

pub list-returns : goal.list-returns
list-returns t c = lists.list_right _ _ c.in_ok-rest.ensures (lists.inside_open _ _ c.if-begins.ensures c.elements.ensures)

-- ---- the elements of a list
pub elements-returns-in_err-first : goal.elements-returns-in_err-first
elements-returns-in_err-first t c =
    let p = err_from_is_err_and c.from_residual.result c.from_residual.ensures.1 in
    rw (p.1, p.2) (lists.first_stop _ _ c.in_err-first.ensures)

pub elements-loop-items-init : goal.elements-loop-items-init
elements-loop-items-init t c =
    let one : c.push.new.self.items ≡ c.in_ok-first.first ∷ [] = c.in_ok-push.ensures.items
    ∙ ap (λ l. l ++ (c.in_ok-first.first ∷ [])) c.new-items.ensures.items in
    record {
      few = let n = ap length one in omega (arith, n);
      goes_on = λ r h. lists.first_right _ _ c.in_ok-first.ensures (rw one at h);
    }

pub elements-returns-then-len-ge-LIST_ELEMENT_LIMIT : goal.elements-returns-then-len-ge-LIST_ELEMENT_LIMIT
elements-returns-then-len-ge-LIST_ELEMENT_LIMIT t c =
    let many : 1024 ≤ length (map value_term c.loop-items.items.items) = let n = c.len.ensures ∙ c.loop-items.items.ok.0 in
    let m = length-map c.loop-items.items.items value_term in let full = c.if-len-ge-LIST_ELEMENT_LIMIT.true in
    omega (arith, n, m, full) in
    rw c.unexpected.ensures (c.loop-items.invariant.goes_on _ (lists.too_many _ _ many c.loop-items-test.ensures))

pub elements-returns-in_err-after : goal.elements-returns-in_err-after
elements-returns-in_err-after t c =
    let p = err_from_is_err_and c.from_residual-in_err-after.result c.from_residual-in_err-after.ensures.1 in
    let few : length (map value_term c.loop-items.items.items) < 1024 = let n = c.len.ensures ∙ c.loop-items.items.ok.0 in
    let m = length-map c.loop-items.items.items value_term in let lt = c.if-len-ge-LIST_ELEMENT_LIMIT.false in
    omega (arith, n, m, lt) in
    rw (p.1, p.2)
    (c.loop-items.invariant.goes_on _ (lists.comma_stop _ _ _ c.requires few c.loop-items-test.ensures c.in_err-after.ensures))

pub elements-returns-in_err-next : goal.elements-returns-in_err-next
elements-returns-in_err-next t c =
    let p = err_from_is_err_and c.from_residual-in_err-next.result c.from_residual-in_err-next.ensures.1 in
    let few : length (map value_term c.loop-items.items.items) < 1024 = let n = c.len.ensures ∙ c.loop-items.items.ok.0 in
    let m = length-map c.loop-items.items.items value_term in let lt = c.if-len-ge-LIST_ELEMENT_LIMIT.false in
    omega (arith, n, m, lt) in
    rw (p.1, p.2)
    (c.loop-items.invariant.goes_on _
    (lists.next_stop _ _ _ c.requires few c.loop-items-test.ensures c.in_ok-after.ensures c.in_err-next.ensures))

pub elements-loop-items-preserved : goal.elements-loop-items-preserved
elements-loop-items-preserved t c =
    let few : length (map value_term c.loop-items.items.items) < 1024 = let n = c.len.ensures ∙ c.loop-items.items.ok.0 in
    let m = length-map c.loop-items.items.items value_term in let lt = c.if-len-ge-LIST_ELEMENT_LIMIT.false in
    omega (arith, n, m, lt) in
    let grown : c.push-in-loop-items.new.self.items ≡ c.loop-items.items.items ++ (c.in_ok-next.next ∷ []) = c.in_ok-push-2.ensures.items in
    let terms = ap (map value_term) grown ∙ mapped c.loop-items.items.items c.in_ok-next.next in
    record {
      few = let n = ap length grown in let m = length-append c.loop-items.items.items (c.in_ok-next.next ∷ []) in
          let k = length-map c.loop-items.items.items value_term in omega (arith, n, m, k, few);
      goes_on = λ r h. c.loop-items.invariant.goes_on r
          (lists.next_right _ _ _ c.requires few c.loop-items-test.ensures c.in_ok-after.ensures c.in_ok-next.ensures
          (subst (λ vs. Right (Further (want_of c.args.item) c.args.room vs) Always NoBlank c.in_ok-next.after.now r) terms h));
    }

pub elements-returns-in_err-rest : goal.elements-returns-in_err-rest
elements-returns-in_err-rest t c =
    let p = err_from_is_err_and c.from_residual-in_err-rest.result c.from_residual-in_err-rest.ensures.1 in
    let few : length (map value_term c.loop-items.items.items) ≤ 1024 = let m = length-map c.loop-items.items.items value_term in
    let le = c.loop-items.invariant.few in omega (arith, m, le) in
    rw (p.1, p.2)
    (c.loop-items.invariant.goes_on _ (lists.close _ _ few c.loop-items-test.ensures (literals.word_stop c.in_err-rest.ensures)))

pub elements-returns : goal.elements-returns
elements-returns t c =
    let few : length (map value_term c.loop-items.items.items) ≤ 1024 = let m = length-map c.loop-items.items.items value_term in
    let le = c.loop-items.invariant.few in omega (arith, m, le) in
    let all = c.in-Ok.ensures ∙ c.of_vec.ensures.list in
    same_answer (sym (value_term-List c.in-Ok.items ∙ ap (λ l. list_value (as_values (map value_term l))) all))
    (c.loop-items.invariant.goes_on _ (lists.close _ _ few c.loop-items-test.ensures (literals.word_right c.in_ok-rest.ensures)))

-- ---- by the wanted type
as_wanted : {want want' : Option BasicTerm} {room : ℕ} {ts : Text} {r : Answer ℕ ValueTerm} → want ≡ want'
    → Right (Lit want' room) Always Ends ts r → Right (Lit want room) Always Ends ts r
as_wanted {room = room} {ts = ts} {r = r} e right = subst (λ w. Right (Lit w room) Always Ends ts r) (sym e) right

pub typed-returns-in_err-rest-in-Pair : goal.typed-returns-in_err-rest-in-Pair
typed-returns-in_err-rest-in-Pair t c =
    let p = err_from_is_err_and c.from_residual.result c.from_residual.ensures.1 in
    let want : Some (basic_term c.args.b.now) ≡ Some (pair_type (basic_term c.in-Pair.first.value) (basic_term c.in-Pair.second.value)) = ap
    (λ b. Some (basic_term b)) c.in-Pair.is in
    let le = subst (λ w. fewest w ≤ c.args.room) want c.requires in
    rw (p.1, p.2) (as_wanted want (choices.as_pair_stop _ _ _ le c.in_err-rest-in-Pair.ensures))

pub typed-returns-in-Unit : goal.typed-returns-in-Unit
typed-returns-in-Unit t c =
    let want = ap (λ b. Some (basic_term b)) c.in-Unit.is in
    as_wanted want (choices.as_unit (subst (λ w. fewest w ≤ c.args.room) want c.requires) c.unit.ensures)

pub typed-returns-in-Bool : goal.typed-returns-in-Bool
typed-returns-in-Bool t c =
    let want = ap (λ b. Some (basic_term b)) c.in-Bool.is in
    as_wanted want (choices.as_bool (subst (λ w. fewest w ≤ c.args.room) want c.requires) c.truth.ensures)

pub typed-returns-in-Int : goal.typed-returns-in-Int
typed-returns-in-Int t c =
    let want = ap (λ b. Some (basic_term b)) c.in-Int.is in
    as_wanted want (choices.as_int (subst (λ w. fewest w ≤ c.args.room) want c.requires) c.int.ensures)

pub typed-returns-in-Text : goal.typed-returns-in-Text
typed-returns-in-Text t c =
    let want = ap (λ b. Some (basic_term b)) c.in-Text.is in
    as_wanted want (choices.as_text (subst (λ w. fewest w ≤ c.args.room) want c.requires) c.text.ensures)

pub typed-returns-in_ok-rest-in-Pair : goal.typed-returns-in_ok-rest-in-Pair
typed-returns-in_ok-rest-in-Pair t c =
    let want : Some (basic_term c.args.b.now) ≡ Some (pair_type (basic_term c.in-Pair.first.value) (basic_term c.in-Pair.second.value)) = ap
    (λ b. Some (basic_term b)) c.in-Pair.is in
    let le = subst (λ w. fewest w ≤ c.args.room) want c.requires in
    as_wanted want (choices.as_pair _ _ _ le c.in_ok-rest-in-Pair.ensures (rw (c.deref.ensures, c.deref-in-Pair.ensures) at c.pair.ensures))

pub typed-returns-in-List : goal.typed-returns-in-List
typed-returns-in-List t c =
    let want : Some (basic_term c.args.b.now) ≡ Some (list_type (basic_term c.in-List.item.value)) = ap
    (λ b. Some (basic_term b)) c.in-List.is in
    as_wanted want (choices.as_list (subst (λ w. fewest w ≤ c.args.room) want c.requires) (rw c.deref-in-List.ensures at c.list.ensures))
