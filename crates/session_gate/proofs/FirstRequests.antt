-- The requests that bytes hold are the first of those that they begin with, whatever follows.
use Rattle.std.proofs.Common.{◌≡◌, ℕ, ◌<◌, ◌≤◌, true, true≢false, List, [], ◌∷◌, ◌++◌, length, refl, ap, sym, subst, ◌∙◌, arith, append_assoc, append-nil}
use Rattle.task_model.specs.Terms.Text.{Text}
use Rattle.http_requests.specs.Requests.{RequestTerm, IsRequest}
use Rattle.http_requests.specs.Streams.{BeginsWith, HasNoRequest, is_last, AreRequests, no_more, no_whole, last, further}
use Rattle.http_requests.proofs.OneRequest.{one_request}
use Rattle.session_gate.specs.Connections.{HoldsRequests, AllGoOn, MayEndLast}

-- the first of them
pub front_request : (bytes rest one behind : Text) (r : RequestTerm) → bytes ≡ one ++ rest → IsRequest one r
    → BeginsWith (bytes ++ behind) r (rest ++ behind)
front_request bytes rest one behind r split is = record {
  front = one;
  split = ap (λ z. z ++ behind) split ∙ append_assoc one rest behind;
  is = is;
}

-- the one that ends a list is its last
ends_list : (r : RequestTerm) (rs : List RequestTerm) → MayEndLast (r ∷ rs) → is_last r ≡ true → rs ≡ []
ends_list r [] p e = refl
ends_list r (s ∷ rs) p e = absurd (true≢false (sym e ∙ p.0))

rest_ends : (r : RequestTerm) (rs : List RequestTerm) → MayEndLast (r ∷ rs) → MayEndLast rs
rest_ends r [] p = tt
rest_ends r (s ∷ rs) p = p.1

pub first_requests : {n : ℕ} {whole : Text} {qs : List RequestTerm} {rest : Text} (bytes behind : Text) (rs : List RequestTerm)
    → whole ≡ bytes ++ behind → HoldsRequests bytes rs → MayEndLast rs → length rs ≤ n → AreRequests n whole qs rest
    → (others : List RequestTerm) × (qs ≡ rs ++ others)
first_requests {qs = qs} bytes behind [] e h p le a = (qs, refl)
first_requests bytes behind (r ∷ rs) e h p le (no_more w) = absurd (omega (arith, le))
first_requests bytes behind (r ∷ rs) e h p le (no_whole n w none) =
    absurd (none r (h.1 ++ behind)
    (subst (λ (z : Text). BeginsWith z r (h.1 ++ behind)) (sym e) (front_request bytes h.1 h.0 behind r h.2 h.3)))
first_requests bytes behind (r ∷ rs) e h p le (last n w q rest b l) =
    let here = subst (λ (z : Text). BeginsWith z r (h.1 ++ behind)) (sym e) (front_request bytes h.1 h.0 behind r h.2 h.3) in
    let same = (one_request w r q (h.1 ++ behind) rest here b).0 in
    let none = ends_list r rs p (ap is_last same ∙ l) in
    ([], ap (λ z. z ∷ []) (sym same) ∙ ap (λ z. r ∷ z) (sym none) ∙ sym (append-nil (r ∷ rs)))
first_requests bytes behind (r ∷ rs) e h p le (further n w q after us rest b l a) =
    let here = subst (λ (z : Text). BeginsWith z r (h.1 ++ behind)) (sym e) (front_request bytes h.1 h.0 behind r h.2 h.3) in
    let (same, rests) = one_request w r q (h.1 ++ behind) after here b in
    let ih = first_requests h.1 behind rs (sym rests) h.4 (rest_ends r rs p) (omega (arith, le)) a in
    (ih.0, ap (λ z. z ∷ us) (sym same) ∙ ap (λ z. r ∷ z) ih.1)

-- and all of them, where no whole request is left and none ended the connection
pub only_requests : {n : ℕ} {whole : Text} {qs : List RequestTerm} {rest : Text} (bytes behind : Text) (rs : List RequestTerm)
    → whole ≡ bytes ++ behind → HoldsRequests bytes rs → AllGoOn rs → length rs < n → HasNoRequest behind → AreRequests n whole qs rest
    → (qs ≡ rs) × (rest ≡ behind)
only_requests bytes behind [] e h p le none (no_more w) = absurd (omega (arith, le))
only_requests bytes behind [] e h p le none (no_whole n w o) = (refl, e ∙ ap (λ z. z ++ behind) h)
only_requests bytes behind [] e h p le none (last n w q rest b l) =
    absurd (none q rest (subst (λ (z : Text). BeginsWith z q rest) (e ∙ ap (λ z. z ++ behind) h) b))
only_requests bytes behind [] e h p le none (further n w q after us rest b l a) =
    absurd (none q after (subst (λ (z : Text). BeginsWith z q after) (e ∙ ap (λ z. z ++ behind) h) b))
only_requests bytes behind (r ∷ rs) e h p le none (no_more w) = absurd (omega (arith, le))
only_requests bytes behind (r ∷ rs) e h p le none (no_whole n w o) =
    absurd (o r (h.1 ++ behind)
    (subst (λ (z : Text). BeginsWith z r (h.1 ++ behind)) (sym e) (front_request bytes h.1 h.0 behind r h.2 h.3)))
only_requests bytes behind (r ∷ rs) e h p le none (last n w q rest b l) =
    let here = subst (λ (z : Text). BeginsWith z r (h.1 ++ behind)) (sym e) (front_request bytes h.1 h.0 behind r h.2 h.3) in
    let same = (one_request w r q (h.1 ++ behind) rest here b).0 in
    absurd (true≢false (sym l ∙ ap is_last (sym same) ∙ p.0))
only_requests bytes behind (r ∷ rs) e h p le none (further n w q after us rest b l a) =
    let here = subst (λ (z : Text). BeginsWith z r (h.1 ++ behind)) (sym e) (front_request bytes h.1 h.0 behind r h.2 h.3) in
    let (same, rests) = one_request w r q (h.1 ++ behind) after here b in
    let ih = only_requests h.1 behind rs (sym rests) h.4 p.1 (omega (arith, le)) none a in
    (ap (λ z. z ∷ us) (sym same) ∙ ap (λ z. r ∷ z) ih.0, ih.1)
