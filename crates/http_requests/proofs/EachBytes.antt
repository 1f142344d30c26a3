-- Each byte string begins with a request, or more bytes make it one.
use Rattle.std.proofs.Common.{◌≡◌, ◌⊎◌, ℕ, ◌≤◌, false, true≢false, Option, None, Some, ◌++◌, length, take, drop, inl, inr, refl, sym, ap, ◌∙◌, subst, append_assoc}
use Rattle.std.proofs.lemmas.Bool.{cases_lt}
use Rattle.task_model.specs.Terms.Text.{Text}
use Rattle.http_heads.specs.declared.check.Check.TheVariants.{ShortHead, WholeHead}
use Rattle.http_heads.specs.Blocks.{head_limit, without_blanks, head_length, field_lines}
use Rattle.http_heads.specs.Heads.{HeadTerm, IsHead}
use Rattle.http_heads.specs.Checks.{body_taken}
use Rattle.http_heads.proofs.EndLemmas.{length_take, head_within, head_front, head_blank}
use Rattle.http_heads.proofs.HeadDecision.{some_head}
use Rattle.http_requests.specs.Requests.{RequestTerm, refusal_of, request_of}
use Rattle.http_requests.specs.Streams.{BeginsWith, HasNoRequest, BeginsSome, IsIdle}
use Rattle.http_requests.specs.RequestReading.{IsUnfinished}
use Rattle.http_requests.proofs.SomeRequest.{some_asked, unfinished_head, whole, unfinished_body}
use Rattle.http_requests.proofs.FoundLemmas.{take_drop, refused_front, endless_front}

abbrev pub IsBegun : Text → Type 0
IsBegun bytes = ((r : RequestTerm) × (rest : Text) × BeginsWith bytes r rest) ⊎ (HasNoRequest bytes × BeginsSome bytes)

-- bytes whose head has ended, with a head
with_head : (bytes : Text) (end : ℕ) → end ≤ length bytes → head_length (take end bytes) ≡ Some end
    → field_lines (without_blanks (take end bytes)) ≤ 64 → (h : HeadTerm) → IsHead (without_blanks (take end bytes)) h → IsBegun bytes
with_head bytes end within ends few h is =
    let front = take end bytes in
    let part = drop end bytes in
    let body = take (body_taken h) part in
    let there : head_length front ≡ Some (length front) = ends ∙ ap Some (sym (length_take end bytes within)) in
    let split : bytes ≡ front ++ part = take_drop end bytes in
    elim (cases_lt (length part) (body_taken h)) [
      | inl short ↦
          let u = subst (λ z. IsUnfinished z false) (sym split) (unfinished_body front h there few is part false short) in
          inr (u.no_whole, u.some)
      | inr all ↦
          let asked = some_asked h body in
          inl (
            request_of h asked.0 (length (front ++ body)),
            drop (body_taken h) part,
            record {
              front = front ++ body;
              split = split ∙ ap (λ l. front ++ l) (take_drop (body_taken h) part)
                  ∙ sym (append_assoc front body (drop (body_taken h) part));
              is = whole front h there few is body (length_take (body_taken h) part all) asked.0 asked.1;
            },
          )
    ]

pub each_begun : (bytes : Text) → IsBegun bytes
each_begun bytes = go (head_length bytes) refl
  where
    go : (o : Option ℕ) → head_length bytes ≡ o → IsBegun bytes
    go None none = elim (cases_lt (length bytes) head_limit) [
      | inl short ↦ let u = unfinished_head bytes false short none (λ e idle. true≢false (sym e)) in inr (u.no_whole, u.some)
      | inr long ↦ inl (refusal_of ShortHead head_limit, _, endless_front bytes (refusal_of ShortHead head_limit) none long refl)
    ]
    go (Some end) ends =
        let within = (head_within bytes end ends).0 in
        let front = head_front bytes end ends in
        elim (cases_lt 64 (field_lines (without_blanks (take end bytes)))) [
          | inl many ↦
              inl (refusal_of ShortHead end, _, refused_front bytes end ShortHead (refusal_of ShortHead end) within front many refl)
          | inr few ↦ elim (some_head (without_blanks (take end bytes))) [
            | inl head ↦ with_head bytes end within front few head.0 head.1
            | inr none ↦
                let refusal = refusal_of WholeHead end in
                inl (refusal, _, refused_front bytes end WholeHead refusal within front (few, none) refl)
          ]
        ]

pub idle_begun : (bytes : Text) → IsIdle bytes → HasNoRequest bytes × BeginsSome bytes
idle_begun bytes idle =
    let u = unfinished_head bytes false idle.0 (head_blank bytes idle.0 idle.1) (λ e h. true≢false (sym e)) in (u.no_whole, u.some)
