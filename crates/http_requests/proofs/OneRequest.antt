-- Bytes begin with one first request at most.
use Rattle.std.proofs.Common.{◌≡◌, ℕ, ◌<◌, ◌≤◌, true≢false, None, Some, [], ◌++◌, length, refl, sym, ap, ◌∙◌, subst, arith, append_assoc, append-nil, codes, decimal, false}
use Rattle.task_model.specs.Terms.Text.{Text}
use Rattle.http_heads.specs.declared.check.Check.TheVariants.{ShortHead, WholeHead, GoodContent}
use Rattle.http_heads.specs.Blocks.{head_limit, without_blanks, head_length, field_lines}
use Rattle.http_heads.specs.Heads.{HeadTerm, IsHead, is_head}
use Rattle.http_heads.specs.Checks.{check_status, body_taken}
use Rattle.http_heads.proofs.EndLemmas.{none_some, same_some, same_front, head_more, head_full}
use Rattle.http_heads.proofs.HeadDecision.{one_head}
use Rattle.http_forms.proofs.OneForm.{same_input, same_place, no_act}
use Rattle.http_requests.specs.Requests.{AskedTerm, asks_act, refused, RequestTerm, refused_by, IsAskedByForm, gives, bad_literal, malformed, IsAskedBy, fails, queries, posts, refusal_of, request_of, IsRequest, endless, crowded, garbled, headed}
use Rattle.http_requests.specs.Streams.{BeginsWith}

-- ---- what is asked for
asked_by_form : (form : Text) (a b : AskedTerm) → IsAskedByForm form a → IsAskedByForm form b → a ≡ b
asked_by_form form a b (gives i g e) (gives j k f) = e ∙ ap asks_act (same_input form i j g k) ∙ sym f
asked_by_form form a b (gives i g e) (bad_literal p d f) = absurd (no_act form p d.value i.act g.act)
asked_by_form form a b (gives i g e) (malformed m f) = absurd (m.no_input i g)
asked_by_form form a b (bad_literal p d e) (gives j k f) = absurd (no_act form p d.value j.act k.act)
asked_by_form form a b (bad_literal p c e) (bad_literal q d f) =
    e ∙ ap (λ z. refused (check_status GoodContent) (codes "bad literal at " ++ decimal z) false false) (same_place form p q c.value d.value)
    ∙ sym f
asked_by_form form a b (bad_literal p d e) (malformed m f) = absurd (m.no_literal p d)
asked_by_form form a b (malformed m e) (gives j k f) = absurd (m.no_input j k)
asked_by_form form a b (malformed m e) (bad_literal q d f) = absurd (m.no_literal q d)
asked_by_form form a b (malformed m e) (malformed n f) = e ∙ sym f

same_asked : (h : HeadTerm) (body : Text) (a b : AskedTerm) → IsAskedBy h body a → IsAskedBy h body b → a ≡ b
same_asked h body a b (fails c p e) (fails d q f) = e ∙ ap (λ z. refused_by z (is_head h)) (same_some c d (sym p ∙ q)) ∙ sym f
same_asked h body a b (fails c p e) (queries q n f) = absurd (none_some c (sym q ∙ p))
same_asked h body a b (fails c p e) (posts q n f) = absurd (none_some c (sym q ∙ p))
same_asked h body a b (queries q n e) (fails c p f) = absurd (none_some c (sym q ∙ p))
same_asked h body a b (queries p n e) (queries q m f) = e ∙ sym f
same_asked h body a b (queries p n e) (posts q m f) = absurd (true≢false (sym m ∙ n))
same_asked h body a b (posts q n e) (fails c p f) = absurd (none_some c (sym q ∙ p))
same_asked h body a b (posts p n e) (queries q m f) = absurd (true≢false (sym n ∙ m))
same_asked h body a b (posts p n e) (posts q m f) = asked_by_form body a b e f

-- what a block and a body are
data Means (block body : Text) (size : ℕ) (r : RequestTerm) : Type 0 where
  too_many : 64 < field_lines block → body ≡ [] → r ≡ refusal_of ShortHead size → Means block body size r
  no_head : field_lines block ≤ 64 → ((h : HeadTerm) → IsHead block h → ⊥) → body ≡ [] → r ≡ refusal_of WholeHead size
      → Means block body size r
  a_head : field_lines block ≤ 64 → (h : HeadTerm) → IsHead block h → length body ≡ body_taken h → (a : AskedTerm)
      → IsAskedBy h body a → r ≡ request_of h a size → Means block body size r

same_meaning : (block bd be x y : Text) (m n : ℕ) (r s : RequestTerm) → bd ++ x ≡ be ++ y → Means block bd m r → Means block be n s
    → (bd ≡ be) × (m ≡ n → r ≡ s)
same_meaning block bd be x y m n r s w (too_many l p e) (too_many k q f) =
    (p ∙ sym q, λ z. e ∙ ap (refusal_of ShortHead) z ∙ sym f)
same_meaning block bd be x y m n r s w (too_many l p e) (no_head k o q f) = absurd (omega (arith, l, k))
same_meaning block bd be x y m n r s w (too_many l p e) (a_head k h is q a ask f) = absurd (omega (arith, l, k))
same_meaning block bd be x y m n r s w (no_head k o q f) (too_many l p e) = absurd (omega (arith, l, k))
same_meaning block bd be x y m n r s w (no_head l o p e) (no_head k o' q f) =
    (p ∙ sym q, λ z. e ∙ ap (refusal_of WholeHead) z ∙ sym f)
same_meaning block bd be x y m n r s w (no_head l o p e) (a_head k h is q a ask f) = absurd (o h is)
same_meaning block bd be x y m n r s w (a_head k h is q a ask f) (too_many l p e) = absurd (omega (arith, l, k))
same_meaning block bd be x y m n r s w (a_head k h is q a ask f) (no_head l o p e) = absurd (o h is)
same_meaning block bd be x y m n r s w (a_head l h is p a ask e) (a_head k g is' q b bs f) =
    let heads : h ≡ g = one_head block h g is is' in
    let bodies : bd ≡ be = (same_front bd be x y w (p ∙ ap body_taken heads ∙ sym q)).0 in
    let bs' : IsAskedBy h bd b = subst (λ z. IsAskedBy h z b) (sym bodies) (subst (λ z. IsAskedBy z be b) (sym heads) bs) in
    let asked : a ≡ b = same_asked h bd a b ask bs' in
    (bodies, λ z. e ∙ ap (λ u. request_of h u m) asked ∙ ap (λ u. request_of u b m) heads ∙ ap (λ u. request_of g b u) z ∙ sym f)

-- what the front of a whole string is
data Shape (whole a : Text) (r : RequestTerm) : Type 0 where
  full : head_length whole ≡ None → length a ≡ head_limit → r ≡ refusal_of ShortHead (length a) → Shape whole a r
  ended : (front body : Text) → a ≡ front ++ body → head_length whole ≡ Some (length front)
      → Means (without_blanks front) body (length a) r → Shape whole a r

shape : (a x : Text) (r : RequestTerm) → IsRequest a r → Shape (a ++ x) a r
shape a x r (endless n l e) = full (head_full a x l n) l e
shape a x r (crowded n l e) = ended a [] (sym (append-nil a)) (head_more a x (length a) n) (too_many l refl e)
shape a x r (garbled n l o e) = ended a [] (sym (append-nil a)) (head_more a x (length a) n) (no_head l o refl e)
shape a x r (headed front body split n l h is p b ask e) =
    ended front body split (head_more a x (length front) n) (a_head l h is p b ask e)

alike : (whole a b x y : Text) (r s : RequestTerm) → whole ≡ a ++ x → whole ≡ b ++ y → Shape whole a r → Shape whole b s
    → (a ≡ b) × (r ≡ s)
alike whole a b x y r s v w (full n l e) (full m k f) =
    let same = (same_front a b x y (sym v ∙ w) (l ∙ sym k)).0 in
    (same, e ∙ ap (λ z. refusal_of ShortHead (length z)) same ∙ sym f)
alike whole a b x y r s v w (full n l e) (ended front body split m is) = absurd (none_some (length front) (sym n ∙ m))
alike whole a b x y r s v w (ended front body split m is) (full n l e) = absurd (none_some (length front) (sym n ∙ m))
alike whole a b x y r s v w (ended front body split n is) (ended front' body' split' m is') =
    let sizes : length front ≡ length front' = same_some (length front) (length front') (sym n ∙ m) in
    let one : whole ≡ front ++ (body ++ x) = v ∙ ap (λ z. z ++ x) split ∙ append_assoc front body x in
    let two : whole ≡ front' ++ (body' ++ y) = w ∙ ap (λ z. z ++ y) split' ∙ append_assoc front' body' y in
    let (fronts, rests) = same_front front front' (body ++ x) (body' ++ y) (sym one ∙ two) sizes in
    let is'' : Means (without_blanks front) body' (length b) s
    = subst (λ z. Means (without_blanks z) body' (length b) s) (sym fronts) is' in
    let (bodies, terms) = same_meaning (without_blanks front) body body' x y (length a) (length b) r s rests is is'' in
    let whole_one : a ≡ b = split ∙ ap (λ z. z ++ body) fronts ∙ ap (λ z. front' ++ z) bodies ∙ sym split' in
    (whole_one, terms (ap length whole_one))

pub one_request : (bytes : Text) (r s : RequestTerm) (x y : Text) → BeginsWith bytes r x → BeginsWith bytes s y → (r ≡ s) × (x ≡ y)
one_request bytes r s x y p q =
    let left : Shape bytes p.front r = subst (λ z. Shape z p.front r) (sym p.split) (shape p.front x r p.is) in
    let right : Shape bytes q.front s = subst (λ z. Shape z q.front s) (sym q.split) (shape q.front y s q.is) in
    let (fronts, terms) = alike bytes p.front q.front x y r s p.split q.split left right in
    let e : p.front ++ x ≡ q.front ++ y = sym p.split ∙ q.split in
    (terms, (same_front p.front q.front x y e (ap length fronts)).1)
