-- What a head with any body asks for, and bytes that more bytes make a request.
use Rattle.std.proofs.Common.{◌≡◌, ◌⊎◌, ◌+◌, ◌-◌, ◌<◌, ◌≤◌, ◌==◌, Bool, true, false, true≢false, Option, None, Some, unwrap_or, [], ◌++◌, length, length-append, codes, decimal, inl, inr, refl, sym, ap, ◌∙◌, subst, arith, append_assoc, append-nil}
use Rattle.std.proofs.lemmas.Bool.{cases_Bool}
use Rattle.task_model.specs.Terms.Text.{Text}
use Rattle.http_heads.specs.declared.check.Check.{Check}
use Rattle.http_heads.specs.declared.check.Check.TheVariants.{ShortHead, GoodContent}
use Rattle.http_heads.specs.Blocks.{head_limit, without_blanks, head_length, field_lines}
use Rattle.http_heads.specs.Heads.{HeadTerm, IsHead, query_of, is_head, is_post}
use Rattle.http_heads.specs.Checks.{check_status, failed_check, body_taken}
use Rattle.http_heads.proofs.EndLemmas.{none_some, letters, length_letters, head_more, head_within, head_filled, head_blank}
use Rattle.http_heads.proofs.CheckLemmas.{taken_within}
use Rattle.http_forms.proofs.SomeForm.{some_form}
use Rattle.http_requests.specs.Requests.{AskedTerm, asks_act, refused, RequestTerm, refused_by, asked_by_query, IsAskedByForm, gives, bad_literal, malformed, IsAskedBy, fails, queries, posts, refusal_of, request_of, IsRequest, endless, headed}
use Rattle.http_requests.specs.Streams.{BeginsWith, HasNoRequest, IsIdle}
use Rattle.http_requests.specs.RequestReading.{IsUnfinished}
use Rattle.http_requests.proofs.OneRequest.{one_request}

-- ---- what is asked for
asked_by_some : (form : Text) → (a : AskedTerm) × IsAskedByForm form a
asked_by_some form = elim (some_form form) [
  | inl input ↦ (asks_act input.0, gives input.0 input.1 refl)
  | inr other ↦ elim other [
    | inl bad ↦ (refused (check_status GoodContent) (codes "bad literal at " ++ decimal bad.0) false false, bad_literal bad.0 bad.1 refl)
    | inr none ↦ (refused_by GoodContent false, malformed none refl)
  ]
]

pub some_asked : (h : HeadTerm) (body : Text) → (a : AskedTerm) × IsAskedBy h body a
some_asked h body = go (failed_check h) refl (cases_Bool (is_post h))
  where
    go : (o : Option Check) → failed_check h ≡ o → ((is_post h ≡ true) ⊎ (is_post h ≡ false)) → (a : AskedTerm) × IsAskedBy h body a
    go (Some check) e post = (refused_by check (is_head h), fails check e refl)
    go None e (inl post) = let (a, by) = asked_by_some body in (a, posts e post by)
    go None e (inr other) = (asked_by_query (unwrap_or (query_of h) (codes "")) (is_head h), queries e other refl)

-- ---- unfinished bytes
-- where more bytes make one request, there is none before
unfinished : (bytes fill : Text) (r : RequestTerm) → IsRequest (bytes ++ fill) r → 0 < length fill → HasNoRequest bytes
unfinished bytes fill r is more s rest b =
    let whole : BeginsWith (bytes ++ fill) r [] = record { front = bytes ++ fill; split = sym (append-nil (bytes ++ fill)); is = is } in
    let part : BeginsWith (bytes ++ fill) s (rest ++ fill)
    = record { front = b.front; split = ap (λ z. z ++ fill) b.split ∙ append_assoc b.front rest fill; is = b.is } in
    let e = ap length (one_request (bytes ++ fill) r s [] (rest ++ fill) whole part).1 in
    let size = length-append rest fill in
    omega (arith, e, size, more)

-- no block has ended yet
pub unfinished_head : (bytes : Text) (ended : Bool) → length bytes < head_limit → head_length bytes ≡ None
    → (ended ≡ true → IsIdle bytes → ⊥) → IsUnfinished bytes ended
unfinished_head bytes ended short none awaited =
    let n = head_limit - length bytes in
    let at : length bytes + n ≡ head_limit = omega (arith, short) in
    let (size, still) = head_filled bytes n at none in
    let is : IsRequest (bytes ++ letters n) (refusal_of ShortHead (length (bytes ++ letters n))) = endless still size refl in
    let fill = length_letters n in
    record {
      no_whole = unfinished bytes (letters n) _ is (omega (arith, fill, short));
      some = (letters n, refusal_of ShortHead (length (bytes ++ letters n)), is);
      awaited = awaited;
      short = omega (arith, short);
    }

-- the bytes aren't blank
pub idle_told : (bytes rest : Text) (empty : Bool) → rest ≡ without_blanks bytes → empty ≡ (length rest == 0) → empty ≡ false
    → IsIdle bytes → ⊥
idle_told bytes rest empty is test other idle =
    true≢false (ap (λ t. length t == 0) (sym (is ∙ idle.1)) ∙ sym test ∙ other)

-- a head has ended, and a part of the body is missing
module _ (front : Text) (h : HeadTerm) (ends : head_length front ≡ Some (length front)) (few : field_lines (without_blanks front) ≤ 64)
    (is : IsHead (without_blanks front) h) where
  -- a head and any body of its length are a request
  pub whole : (body : Text) → length body ≡ body_taken h → (a : AskedTerm) → IsAskedBy h body a
      → IsRequest (front ++ body) (request_of h a (length (front ++ body)))
  whole body size a by = headed front body refl (head_more front body (length front) ends) few h is size a by refl

  pub unfinished_body : (part : Text) (ended : Bool) → length part < body_taken h → IsUnfinished (front ++ part) ended
  unfinished_body part ended short =
      let n = body_taken h - length part in
      let fill = length_letters n in
      let body = part ++ letters n in
      let (a, by) = some_asked h body in
      let parts = length-append part (letters n) in
      let made : IsRequest (front ++ body) (request_of h a (length (front ++ body)))
      = whole body (omega (arith, parts, fill, short)) a by in
      let there : IsRequest ((front ++ part) ++ letters n) (request_of h a (length (front ++ body)))
      = subst (λ z. IsRequest z (request_of h a (length (front ++ body)))) (sym (append_assoc front part (letters n))) made in
      let sizes = length-append front part in
      let within = (head_within front (length front) ends).1 in
      let most = taken_within h in
      record {
        no_whole = unfinished (front ++ part) (letters n) _ there (omega (arith, fill, short));
        some = (letters n, request_of h a (length (front ++ body)), there);
        awaited = λ _ idle. none_some (length front)
            (sym (head_blank (front ++ part) idle.0 idle.1) ∙ head_more front part (length front) ends);
        short = omega (arith, sizes, within, most, short);
      }
