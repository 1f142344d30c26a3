-- Bytes have one list of requests, and one rest.
use Rattle.std.proofs.Common.{◌≡◌, ℕ, true≢false, List, [], ◌∷◌, refl, sym, ap, ◌∙◌, subst}
use Rattle.task_model.specs.Terms.Text.{Text}
use Rattle.http_requests.specs.Requests.{RequestTerm}
use Rattle.http_requests.specs.Streams.{is_last, AreRequests, no_more, no_whole, last, further}
use Rattle.http_requests.proofs.OneRequest.{one_request}

pub one_list : {n : ℕ} {bytes : Text} {rs qs : List RequestTerm} {x y : Text} → AreRequests n bytes rs x
    → AreRequests n bytes qs y → (rs ≡ qs) × (x ≡ y)
one_list (no_more bytes) (no_more c) = (refl, refl)
one_list (no_whole n bytes o) (no_whole m c o') = (refl, refl)
one_list (no_whole n bytes o) (last m c r y b l) = absurd (o r y b)
one_list (no_whole n bytes o) (further m c r behind ts y b l a) = absurd (o r behind b)
one_list (last n bytes r x b l) (no_whole m c o) = absurd (o r x b)
one_list (last n bytes r x b l) (last m c q y b' l') =
    let (same, rests) = one_request bytes r q x y b b' in (ap (λ z. z ∷ []) same, rests)
one_list (last n bytes r x b l) (further m c q behind ts y b' l' a) =
    let same = (one_request bytes r q x behind b b').0 in absurd (true≢false (sym l ∙ ap is_last same ∙ l'))
one_list (further n bytes r behind ts x b l a) (no_whole m c o) = absurd (o r behind b)
one_list (further n bytes r behind ts x b l a) (last m c q y b' l') =
    let same = (one_request bytes r q behind y b b').0 in absurd (true≢false (sym l' ∙ ap is_last (sym same) ∙ l))
one_list (further n bytes r behind ts x b l a) (further m c q behind' us y b' l' a') =
    let (same, rests) = one_request bytes r q behind behind' b b' in
    let again : AreRequests n behind us y = subst (λ z. AreRequests n z us y) (sym rests) a' in
    let (lists, ends) = one_list a again in
    (ap (λ z. z ∷ ts) same ∙ ap (λ z. q ∷ z) lists, ends)
