-- What is found behind a head that has ended.
use Rattle.std.proofs.Common.{◌≡◌, ℕ, zero, suc, ◌+◌, ◌-◌, ◌<◌, ◌≤◌, ◌^◌, ◌&&◌, not, Bool, None, Some, [], ◌∷◌, ◌++◌, length, length-append, take, drop, slice_range, refl, sym, ap, ap₂, ◌∙◌, subst, arith, append_assoc}
use Rattle.task_model.specs.Terms.Text.{Text}
use Rattle.http_heads.specs.declared.check.Check.{Check}
use Rattle.http_heads.specs.declared.check.Check.TheVariants as checks
use Rattle.http_heads.specs.declared.facts.HeadFacts.{HeadFacts}
use Rattle.http_heads.specs.Blocks.{head_limit, without_blanks, end_of_block, head_length}
use Rattle.http_heads.specs.Heads.{HeadTerm, asks_close}
use Rattle.http_heads.specs.Checks.{is_end, ends_connection, body_taken}
use Rattle.http_heads.specs.Spans.{FailsAsBlock, PassesAsBlock}
use Rattle.http_heads.proofs.EndLemmas.{take_short, length_take, head_within}
use Rattle.http_heads.proofs.CheckLemmas.{taken_within}
use Rattle.http_requests.specs.Requests.{AskedTerm, RequestTerm, IsAskedBy, refusal_of, request_of, IsRequest, endless, crowded, garbled, headed}
use Rattle.http_requests.specs.Streams.{BeginsWith, BeginsWithRequest}
use Rattle.http_requests.specs.RequestReading.{IsUnfinished}
use Rattle.http_requests.specs.Knowledge.{AreWanted, HasSize}
use Rattle.http_requests.proofs.SomeRequest.{some_asked, whole, unfinished_body}

-- ---- lists
pub take_drop : (n : ℕ) (t : Text) → t ≡ take n t ++ drop n t
take_drop zero t = refl
take_drop (suc n) [] = refl
take_drop (suc n) (b ∷ t) = ap (λ l. b ∷ l) (take_drop n t)

-- ---- a refusal
pub refusal_is : (front : Text) (check : Check) → head_length front ≡ Some (length front) → FailsAsBlock (without_blanks front) check
    → IsRequest front (refusal_of check (length front))
refusal_is front checks.ShortHead ends h = crowded ends h refl
refusal_is front checks.WholeHead ends h = garbled ends h.0 h.1 refl
refusal_is front checks.OneHost ends h = absurd h
refusal_is front checks.NoCoding ends h = absurd h
refusal_is front checks.OneLength ends h = absurd h
refusal_is front checks.ShortBody ends h = absurd h
refusal_is front checks.KnownTarget ends h = absurd h
refusal_is front checks.KnownMethod ends h = absurd h
refusal_is front checks.LengthOfPost ends h = absurd h
refusal_is front checks.GoodContent ends h = absurd h

pub refused_front : (bytes : Text) (end : ℕ) (check : Check) (r : RequestTerm) → end ≤ length bytes
    → head_length (take end bytes) ≡ Some end → FailsAsBlock (without_blanks (take end bytes)) check → r ≡ refusal_of check end → BeginsWith bytes r (drop r.length bytes)
refused_front bytes end check r within ends fails e =
    let size = length_take end bytes within in
    let front = take end bytes in
    let is : IsRequest front (refusal_of check (length front)) = refusal_is front check (ends ∙ ap Some (sym size)) fails in
    let named : IsRequest front r = subst (IsRequest front) (ap (refusal_of check) size ∙ sym e) is in
    record { front = front; split = take_drop end bytes ∙ ap (λ n. front ++ drop n bytes) (sym (ap (λ z. z.length) e)); is = named }

-- no block ends in the first 8,192 bytes
pub endless_front : (bytes : Text) (r : RequestTerm) → head_length bytes ≡ None → head_limit ≤ length bytes
    → r ≡ refusal_of checks.ShortHead head_limit → BeginsWith bytes r (drop r.length bytes)
endless_front bytes r none long e =
    let front = take head_limit bytes in
    let size : length front ≡ head_limit = length_take head_limit bytes long in
    let still : head_length front ≡ None = ap end_of_block (take_short head_limit front (omega (arith, size))) ∙ none in
    let is : IsRequest front (refusal_of checks.ShortHead (length front)) = endless still size refl in
    let named : IsRequest front r = subst (IsRequest front) (ap (refusal_of checks.ShortHead) size ∙ sym e) is in
    record { front = front; split = take_drop head_limit bytes ∙ ap (λ n. front ++ drop n bytes) (sym (ap (λ z. z.length) e)); is = named }

-- ---- a head, and its body
take_parts : (a k : ℕ) (t : Text) → take (a + k) t ≡ take a t ++ take k (drop a t)
take_parts zero k t = let e : zero + k ≡ k = omega arith in ap (λ n. take n t) e
take_parts (suc a) k [] = nothing (suc a + k) ∙ sym (nothing k)
  where
    nothing : (n : ℕ) → take {A = ℕ} n [] ≡ []
    nothing zero = refl
    nothing (suc n) = refl
take_parts (suc a) k (b ∷ t) =
    let e : suc a + k ≡ suc (a + k) = omega arith in ap (λ n. take n (b ∷ t)) e ∙ ap (λ l. b ∷ l) (take_parts a k t)

-- the body of this length is whole
pub whole_front : (bytes : Text) (end : ℕ) (facts : HeadFacts) (passes : PassesAsBlock (without_blanks (take end bytes)) facts)
    → end ≤ length bytes → head_length (take end bytes) ≡ Some end → end + facts.taken ≤ length bytes
    → (a : AskedTerm) → IsAskedBy passes.head (take facts.taken (drop end bytes)) a
    → (closes : Bool) → closes ≡ (not (is_end facts.failed) && facts.closes)
    → BeginsWith bytes (record { asked = a; closes = closes; length = end + facts.taken }) (drop (end + facts.taken) bytes)
whole_front bytes end facts passes within ends all a by closes e =
    let front = take end bytes in
    let body = take facts.taken (drop end bytes) in
    let size : length front ≡ end = length_take end bytes within in
    let parts : take (end + facts.taken) bytes ≡ front ++ body = take_parts end facts.taken bytes in
    let both : length (front ++ body) ≡ end + facts.taken = ap length (sym parts) ∙ length_take (end + facts.taken) bytes all in
    let sizes = length-append front body in
    let taken : length body ≡ body_taken passes.head = let t = passes.says.taken in omega (arith, both, sizes, size, t) in
    let is = whole front passes.head (ends ∙ ap Some (sym size)) passes.few_lines passes.is_head body taken a by in
    let asks : closes ≡ not (ends_connection passes.head) && asks_close passes.head
    = e ∙ ap₂ (λ c d. not (is_end c) && d) passes.says.failed passes.says.closes in
    let named : request_of passes.head a (length (front ++ body)) ≡ record { asked = a; closes = closes; length = end + facts.taken }
    = ap₂ (λ c n. record { asked = a; closes = c; length = n }) (sym asks) both in
    record {
      front = front ++ body;
      split = take_drop (end + facts.taken) bytes ∙ ap (λ l. l ++ drop (end + facts.taken) bytes) parts;
      is = subst (IsRequest (front ++ body)) named is;
    }

-- more bytes of the body are wanted
pub wanted_front : (bytes : Text) (end : ℕ) (facts : HeadFacts) → PassesAsBlock (without_blanks (take end bytes)) facts → end ≤ length bytes
    → head_length (take end bytes) ≡ Some end → AreWanted (end + facts.taken) bytes
wanted_front bytes end facts passes within ends more ended short =
    let front = take end bytes in
    let part = drop end bytes ++ more in
    let size : length front ≡ end = length_take end bytes within in
    let split : bytes ++ more ≡ front ++ part = ap (λ z. z ++ more) (take_drop end bytes) ∙ append_assoc front (drop end bytes) more in
    let sizes = length-append front part in
    let all = ap length split in
    let taken = passes.says.taken in
    subst (λ z. IsUnfinished z ended) (sym split)
    (unfinished_body front passes.head (ends ∙ ap Some (sym size)) passes.few_lines passes.is_head part ended
    (omega (arith, sizes, all, taken, size, short)))

-- the body as the code cuts it out
pub sliced_body : {h : HeadTerm} {a : AskedTerm} (bytes : Text) (end taken : ℕ) → IsAskedBy h (slice_range bytes end (end + taken)) a
    → IsAskedBy h (take taken (drop end bytes)) a
sliced_body {h} {a} bytes end taken by =
    let e : end + taken - end ≡ taken = omega arith in
    subst (λ n. IsAskedBy h (take n (drop end bytes)) a) e by

-- a request's length fits
pub fits_body : (bytes : Text) (end : ℕ) (facts : HeadFacts) → PassesAsBlock (without_blanks (take end bytes)) facts
    → head_length (take end bytes) ≡ Some end → end + facts.taken < 2 ^ 64
fits_body bytes end facts passes ends =
    let most = (head_within (take end bytes) end ends).1 in
    let taken = passes.says.taken in
    let few = taken_within passes.head in
    omega (arith, most, taken, few)

-- ---- how many bytes a request has
-- the front of bytes is that of all that follow
take_front : (n : ℕ) (t more : Text) → n ≤ length t → take n (t ++ more) ≡ take n t
take_front zero t more le = refl
take_front (suc n) [] more le = absurd (omega arith)
take_front (suc n) (b ∷ t) more le = ap (λ l. b ∷ l) (take_front n t more (omega arith))

-- all bytes of the body are there
whole_there : (bytes : Text) (end : ℕ) (facts : HeadFacts) → PassesAsBlock (without_blanks (take end bytes)) facts → end ≤ length bytes
    → head_length (take end bytes) ≡ Some end → end + facts.taken ≤ length bytes → BeginsWithRequest bytes
whole_there bytes end facts passes within ends all =
    let (a, by) = some_asked passes.head (take facts.taken (drop end bytes)) in
    (_, _, whole_front bytes end facts passes within ends all a by _ refl)

pub size_of_head : (bytes : Text) (end : ℕ) (facts : HeadFacts) → PassesAsBlock (without_blanks (take end bytes)) facts → end ≤ length bytes
    → head_length (take end bytes) ≡ Some end → HasSize (end + facts.taken) bytes
size_of_head bytes end facts passes within ends = record {
  wanted = wanted_front bytes end facts passes within ends;
  enough = λ more all.
      let same = take_front end bytes more within in
      let sizes = length-append bytes more in
      whole_there (bytes ++ more) end facts (subst (λ t. PassesAsBlock (without_blanks t) facts) (sym same) passes)
      (omega (arith, within, sizes)) (ap head_length same ∙ ends) all;
}

pub size_of_refused : (bytes : Text) (end : ℕ) (check : Check) → end ≤ length bytes → head_length (take end bytes) ≡ Some end
    → FailsAsBlock (without_blanks (take end bytes)) check → HasSize end bytes
size_of_refused bytes end check within ends fails = record {
  wanted = λ more ended short. let size = length-append bytes more in absurd (omega (arith, size, within, short));
  enough = λ more all.
      let same = take_front end bytes more within in
      let fails' = subst (λ t. FailsAsBlock (without_blanks t) check) (sym same) fails in
      (_, _, refused_front (bytes ++ more) end check (refusal_of check end) all (ap head_length same ∙ ends) fails' refl);
}

-- a request has the bytes that it is
request_length : (front : Text) (r : RequestTerm) → IsRequest front r → r.length ≡ length front
request_length front r (endless n l e) = ap (λ z. z.length) e
request_length front r (crowded n l e) = ap (λ z. z.length) e
request_length front r (garbled n l o e) = ap (λ z. z.length) e
request_length front r (headed head body split n l h is p a by e) = ap (λ z. z.length) e

-- a request that is whole has its length as its size
pub size_of_whole : (bytes rest : Text) (r : RequestTerm) → BeginsWith bytes r rest → HasSize r.length bytes
size_of_whole bytes rest r b = record {
  wanted = λ more ended short.
      let size = length-append bytes more in
      let parts = ap length b.split in
      let sum = length-append b.front rest in
      let front = request_length b.front r b.is in
      absurd (omega (arith, size, parts, sum, front, short));
  enough = λ more all. (
    r,
    rest ++ more,
    record { front = b.front; split = ap (λ z. z ++ more) b.split ∙ append_assoc b.front rest more; is = b.is },
  );
}
