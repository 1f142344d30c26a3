-- A head has a line end for each field, and two more.
use Rattle.std.proofs.Common.{◌≡◌, ℕ, ◌+◌, ◌≤◌, ◌==◌, cond, List, [], ◌∷◌, ◌++◌, length, refl, sym, ap, ◌∙◌, subst, arith, append-nil}
use Rattle.std.specs.List.{flat_map}
use Rattle.std.proofs.lemmas.List.Sums.{sum_by-append}
use Rattle.httparse.specs.Grammar.{LineEnd, crlf, lf, print_end, print_blank, print_version, Field, print_field, print_section, RequestHead, print_request, ReadsRequest}
use Rattle.httparse.specs.declared.spans.HeaderSpan.{HeaderSpan}
use Rattle.httparse.specs.declared.spans.RequestSpans.{RequestSpans}
use Rattle.std.specs.Prelude.{Ok}
use Rattle.httparse.specs.declared.Error.{Error}
use Rattle.httparse.specs.declared.Status.{Status}
use Rattle.httparse.specs.declared.Status.TheVariants.{Complete}
use Rattle.httparse.specs.Outcome.{IfComplete}
use Rattle.httparse.specs.Spans.{RequestOverflows, IsRequestOf}
use Rattle.httparse.proofs.GrammarLemmas.{request_unique, print_request-append}
use Rattle.http_heads.specs.Blocks.{line_ends}
use Rattle.http_heads.specs.Heads.{HeadTerm, IsHead}

ends_append : (a b : List ℕ) → line_ends (a ++ b) ≡ line_ends a + line_ends b
ends_append a b = sum_by-append (λ byte. cond (byte == 10) 1 0) a b

behind : (a b : List ℕ) → line_ends b ≤ line_ends (a ++ b)
behind a b = omega (arith, ends_append a b)

one_end : (e : LineEnd) → line_ends (print_end e) ≡ 1
one_end crlf = refl
one_end lf = refl

after : (x : ℕ) (bytes : List ℕ) → line_ends bytes ≤ line_ends (x ∷ bytes)
after x bytes = behind (x ∷ []) bytes

one_field : (f : Field) → 1 ≤ line_ends (print_field f)
one_field f = omega (arith, behind (f.name ++ 58 ∷ f.raw) (print_end f.end), one_end f.end)

each_field : (fields : List Field) → length fields ≤ line_ends (flat_map print_field fields)
each_field [] = omega arith
each_field (f ∷ fields) = omega (arith, ends_append (print_field f) (flat_map print_field fields), one_field f, each_field fields)

section_ends : (fields : List Field) (last : LineEnd) → length fields + 1 ≤ line_ends (print_section fields last)
section_ends fields last = omega (arith, ends_append (flat_map print_field fields) (print_end last), each_field fields, one_end last)

pub head_ends : (h : RequestHead) → length h.fields + 2 ≤ line_ends (print_request h)
head_ends h =
    let s = print_section h.fields h.last ++ [] in
    let v = print_version h.minor ++ (print_end h.line_end ++ s) in
    let a = behind (print_blank h.blank) (h.method ++ 32 ∷ (h.target ++ 32 ∷ v)) in
    let b = behind h.method (32 ∷ (h.target ++ 32 ∷ v)) in
    let c = after 32 (h.target ++ 32 ∷ v) in
    let d = behind h.target (32 ∷ v) in
    let e = after 32 v in
    let f = behind (print_version h.minor) (print_end h.line_end ++ s) in
    let all : line_ends (print_request h) ≡ line_ends (print_blank h.blank ++ (h.method ++ 32 ∷ (h.target ++ 32 ∷ v)))
    = ap line_ends (sym (append-nil (print_request h)) ∙ print_request-append h []) in
    let last : line_ends s ≡ line_ends (print_section h.fields h.last) = ap line_ends (append-nil (print_section h.fields h.last)) in
    omega (arith, all, a, b, c, d, e, f, last, ends_append (print_end h.line_end) s, one_end h.line_end, section_ends h.fields h.last)

-- a block with room for each of its lines is no head that overflows
pub no_overflow : (block : List ℕ) (room : ℕ) → line_ends block ≤ room + 2 → RequestOverflows room block → (t : HeadTerm) → IsHead block t → ⊥
no_overflow block room fits over t (h, is, _) =
    let p = over [] h [] (subst (λ z. ReadsRequest z h []) (sym (append-nil block)) is) in
    let e : line_ends block ≡ line_ends (print_request h) = ap line_ends (is.1 ∙ append-nil (print_request h)) in
    let n = head_ends h in
    omega (arith, p, e, n, fits)

-- where the block has a head, whatever head was read has its length
pub whole_length : (block : List ℕ) (len : ℕ) (k : RequestHead) (rest : List ℕ) → ReadsRequest block k rest → len ≡ length (print_request k)
    → (t : HeadTerm) → IsHead block t → len ≡ length block
whole_length block len k rest read is_len t (h, is, _) =
    let same = request_unique block k h rest [] read is in
    is_len ∙ ap (λ x. length (print_request x)) same.0 ∙ ap length (sym (is.1 ∙ append-nil (print_request h)))

pub wrong_length : (block : List ℕ) (headers : List HeaderSpan) (r : RequestSpans) (s : Status RequestSpans) → s ≡ Complete r
    → IfComplete {A = RequestSpans} {E = Error} (Ok s) (IsRequestOf block headers) → (r.len ≡ length block → ⊥)
    → (h : HeadTerm) → IsHead block h → ⊥
wrong_length block headers r s is_r complete other h is =
    let found : IsRequestOf block headers r = subst (λ z. IfComplete {A = RequestSpans} {E = Error} (Ok z) (IsRequestOf block headers)) is_r complete in
    other (whole_length block r.len found.0 _ found.1.reads found.1.len h is)
