-- Each block is one whole head or none: the pieces of httparse's grammar, each decided.
use Rattle.std.proofs.Common.{◌≡◌, ◌⊎◌, ℕ, zero, suc, ◌<◌, ◌≤◌, ◌==◌, Bool, true, false, true≢false, [], ◌∷◌, ◌++◌, length, inl, inr, refl, sym, ap, ◌∙◌, subst, arith, append_assoc, append-nil, length-append, eq-eqb}
use Rattle.std.specs.Str.{IsUtf8, is_utf8}
use Rattle.std.proofs.lemmas.Bool.{cases_Bool, eqb-true}
use Rattle.std.proofs.lemmas.List.Elements.{All-nil, All-cons, All-head, All-tail}
use Rattle.std.proofs.lemmas.Str.{IsUtf8-from_is_utf8, is_utf8-from_IsUtf8}
use Rattle.std.specs.List.{flat_map}
use Rattle.httparse.specs.Grammar.{is_token_byte, is_uri_byte, is_value_byte, AllPass, LineEnd, crlf, lf, print_end, print_blank, print_version, Field, print_field, IsField, ReadsRequest}
use Rattle.httparse.specs.Pieces.{Piece, Begins, Then, Stops, is_newline, Newline, Blank, Word, Method, Target, Version, Text as ValueText, FieldLine, FieldLines, Section, RequestStart}
use Rattle.httparse.proofs.PieceLemmas.{IsDeterministic, Newline_deterministic, Blank_deterministic, Method_deterministic, Target_deterministic, Version_deterministic, Name_deterministic, Word_deterministic, print_field-append, FieldLine_parts, Section_skip, Section_line, RequestStart_deterministic}
use Rattle.httparse.proofs.GrammarLemmas.{RequestTree, request_head, request_tree, request_pieces, request_from_pieces, request_unique}
use Rattle.task_model.specs.Terms.Text.{Text}
use Rattle.http_heads.specs.Heads.{HeadTerm, head_term, IsHead}

-- a text begins with the piece, or doesn't
abbrev Decided : {A : Type 0} → Piece A → Text → Type 0
Decided G t = Begins G t ⊎ (Begins G t → ⊥)

both : {A B : Type 0} (G : Piece A) (H : Piece B) → IsDeterministic G → (t : Text) → Decided G t → ((r : Text) → Decided H r)
    → Decided (Then G H) t
both G H det t (inr none) next = inr (λ h. none (h.0.0, h.2.0, h.2.1))
both G H det t (inl (a, r, g)) next = elim (next r) [
  | inl h ↦ inl ((a, h.0), h.1, (r, g, h.2))
  | inr none ↦ inr (λ h.
      let same = (det.unique h.0.0 a t h.2.0 r h.2.1 g).1 in
      none (h.0.1, h.1, subst (λ z. H h.0.1 z h.1) same h.2.2))
]

-- ---- bytes
differs : (b c : ℕ) → (b == c) ≡ false → b ≡ c → ⊥
differs b c unlike e = true≢false (sym (eq-eqb b c e) ∙ unlike)

first_of_two : {x y : ℕ} {s t : Text} → x ∷ s ≡ y ∷ t → x ≡ y
first_of_two {x} {y} {s} {t} e = let h : x ≡ y = cc in h

behind_first : {x y : ℕ} {s t : Text} → x ∷ s ≡ y ∷ t → s ≡ t
behind_first {x} {y} {s} {t} e = let h : s ≡ t = cc in h

newline : (t : Text) → Decided Newline t
newline [] = inr (λ h. go h.0 h.1 h.2)
  where
    go : (e : LineEnd) (r : Text) → [] ≡ print_end e ++ r → ⊥
    go crlf r e = cc
    go lf r e = cc
newline (b ∷ t) = go (cases_Bool (b == 10)) (cases_Bool (b == 13)) t
  where
    other : (t : Text) → ((b == 10) ≡ false) → ((b == 13) ≡ false) → (e : LineEnd) (r : Text) → b ∷ t ≡ print_end e ++ r → ⊥
    other t no_lf no_cr crlf r e = differs b 13 no_cr (first_of_two e)
    other t no_lf no_cr lf r e = differs b 10 no_lf (first_of_two e)

    lone : (t : Text) → ((b == 10) ≡ false) → ((r : Text) → t ≡ 10 ∷ r → ⊥) → (e : LineEnd) (r : Text) → b ∷ t ≡ print_end e ++ r → ⊥
    lone t no_lf none crlf r e = none r (behind_first e)
    lone t no_lf none lf r e = differs b 10 no_lf (first_of_two e)

    go : (((b == 10) ≡ true) ⊎ ((b == 10) ≡ false)) → (((b == 13) ≡ true) ⊎ ((b == 13) ≡ false)) → (t : Text) → Decided Newline (b ∷ t)
    go (inl is) cr t = inl (lf, t, ap (λ c. c ∷ t) (eqb-true b 10 is))
    go (inr unlike) (inr none) t = inr (λ h. other t unlike none h.0 h.1 h.2)
    go (inr unlike) (inl is) [] = inr (λ h. lone [] unlike (λ r e. cc) h.0 h.1 h.2)
    go (inr unlike) (inl is) (c ∷ t) = elim (cases_Bool (c == 10)) [
      | inl ends ↦ inl (crlf, t, ap (λ x. x ∷ (c ∷ t)) (eqb-true b 13 is) ∙ ap (λ x. 13 ∷ (x ∷ t)) (eqb-true c 10 ends))
      | inr goes ↦ inr (λ h. lone (c ∷ t) unlike (λ r e. differs c 10 goes (first_of_two e)) h.0 h.1 h.2)
    ]

-- ---- words
module _ (test : ℕ → Bool) (stop : ℕ) where
  -- bytes that pass the test, and the byte behind them
  abbrev Run : Text → Type 0
  Run t = (w : Text) × (r : Text) × AllPass test w × (t ≡ w ++ (stop ∷ r))

  abbrev Passes : ℕ → Type 0
  Passes b = test b ≡ true

  nothing : Run [] → ⊥
  nothing ([], r, pass, e) = cc
  nothing (y ∷ w, r, pass, e) = cc

  stopped : (b : ℕ) (t : Text) → (b == stop) ≡ false → test b ≡ false → Run (b ∷ t) → ⊥
  stopped b t unlike fails ([], r, pass, e) = differs b stop unlike (first_of_two e)
  stopped b t unlike fails (y ∷ w, r, pass, e) =
      true≢false (sym (ap test (first_of_two e) ∙ All-head Passes y w pass) ∙ fails)

  no_further : (b : ℕ) (t : Text) → (b == stop) ≡ false → (Run t → ⊥) → Run (b ∷ t) → ⊥
  no_further b t unlike none ([], r, pass, e) = differs b stop unlike (first_of_two e)
  no_further b t unlike none (y ∷ w, r, pass, e) = none (w, r, All-tail Passes y w pass, behind_first e)

  run : (t : Text) → Run t ⊎ (Run t → ⊥)
  run [] = inr nothing
  run (b ∷ t) = go (cases_Bool (b == stop)) (cases_Bool (test b)) (run t)
    where
      go : (((b == stop) ≡ true) ⊎ ((b == stop) ≡ false)) → ((test b ≡ true) ⊎ (test b ≡ false)) → (Run t ⊎ (Run t → ⊥))
          → Run (b ∷ t) ⊎ (Run (b ∷ t) → ⊥)
      go (inl is) passes behind = inl ([], t, All-nil Passes, ap (λ c. c ∷ t) (eqb-true b stop is))
      go (inr unlike) (inr fails) behind = inr (stopped b t unlike fails)
      go (inr unlike) (inl passes) (inl (w, r, pass, e)) = inl (b ∷ w, r, All-cons Passes b w passes pass, ap (λ l. b ∷ l) e)
      go (inr unlike) (inl passes) (inr none) = inr (no_further b t unlike none)

  no_word : (t : Text) → ((b : ℕ) (s : Text) → t ≡ b ∷ s → test b ≡ true → Run s → ⊥) → Begins (Word test stop) t → ⊥
  no_word t none ([], r, (some, pass, e)) = omega (arith, some)
  no_word t none (y ∷ w, r, (some, pass, e)) = none y (w ++ (stop ∷ r)) e (All-head Passes y w pass) (w, r, All-tail Passes y w pass, refl)

  word : (t : Text) → Decided (Word test stop) t
  word [] = inr (no_word [] (λ b s e. cc))
  word (b ∷ t) = go (cases_Bool (test b)) (run t)
    where
      go : ((test b ≡ true) ⊎ (test b ≡ false)) → (Run t ⊎ (Run t → ⊥)) → Decided (Word test stop) (b ∷ t)
      go (inr fails) behind = inr (no_word (b ∷ t) (λ c s e passes _. true≢false (sym passes ∙ sym (ap test (first_of_two e)) ∙ fails)))
      go (inl passes) (inr none) = inr (no_word (b ∷ t) (λ c s e _ h. none (subst Run (sym (behind_first e)) h)))
      go (inl passes) (inl (w, r, pass, e)) =
          inl (b ∷ w, r, (omega arith, All-cons Passes b w passes pass, ap (λ l. b ∷ l) e))

-- ---- the start line
target : (t : Text) → Decided Target t
target t = elim (word is_uri_byte 32 t) [
  | inr none ↦ inr (λ h. none (h.0, h.1, h.2.0))
  | inl found ↦ elim (cases_Bool (is_utf8 found.0)) [
    | inl text ↦ inl (found.0, found.1, (found.2, IsUtf8-from_is_utf8 found.0 text))
    | inr other ↦ inr (λ h.
        let same = ((Word_deterministic is_uri_byte 32 refl).unique h.0 found.0 t h.1 found.1 h.2.0 found.2).0 in
        true≢false (sym (is_utf8-from_IsUtf8 found.0 (subst IsUtf8 same h.2.1)) ∙ other))
  ]
]

-- the text goes on behind these bytes, or doesn't begin with them
front : (w t : Text) → ((r : Text) × (t ≡ w ++ r)) ⊎ ((r : Text) → t ≡ w ++ r → ⊥)
front [] t = inl (t, refl)
front (c ∷ w) [] = inr (λ r e. cc)
front (c ∷ w) (b ∷ t) = go (cases_Bool (b == c)) (front w t)
  where
    go : (((b == c) ≡ true) ⊎ ((b == c) ≡ false)) → (((r : Text) × (t ≡ w ++ r)) ⊎ ((r : Text) → t ≡ w ++ r → ⊥))
        → ((r : Text) × (b ∷ t ≡ (c ∷ w) ++ r)) ⊎ ((r : Text) → b ∷ t ≡ (c ∷ w) ++ r → ⊥)
    go (inr unlike) behind = inr (λ r e. differs b c unlike (first_of_two e))
    go (inl is) (inl (r, e)) = inl (r, ap (λ x. x ∷ t) (eqb-true b c is) ∙ ap (λ l. c ∷ l) e)
    go (inl is) (inr none) = inr (λ r e. none r (behind_first e))

version : (t : Text) → Decided Version t
version t = elim (front (print_version 0) t) [
  | inl zero' ↦ inl (0, zero'.0, (omega arith, zero'.1))
  | inr no_zero ↦ elim (front (print_version 1) t) [
    | inl one ↦ inl (1, one.0, (omega arith, one.1))
    | inr no_one ↦ inr (λ h. go no_zero no_one h.0 h.1 h.2.0 h.2.1)
  ]
]
  where
    go : ((r : Text) → t ≡ print_version 0 ++ r → ⊥) → ((r : Text) → t ≡ print_version 1 ++ r → ⊥)
        → (minor : ℕ) (r : Text) → minor ≤ 1 → t ≡ print_version minor ++ r → ⊥
    go no_zero no_one zero r le e = no_zero r e
    go no_zero no_one (suc zero) r le e = no_one r e
    go no_zero no_one (suc (suc n)) r le e = omega (arith, le)

-- what begins with a line end doesn't begin with another byte
not_stopped : (e : LineEnd) (r t : Text) → t ≡ print_end e ++ r → Stops is_newline t → ⊥
not_stopped e r [] is stops = stops
not_stopped crlf r (b ∷ t) is stops = true≢false (sym (ap is_newline (first_of_two is)) ∙ stops)
not_stopped lf r (b ∷ t) is stops = true≢false (sym (ap is_newline (first_of_two is)) ∙ stops)

-- the blank lines behind the first one are blank lines, or there are none at all
blank_behind : (t : Text) (e : LineEnd) (r : Text) → t ≡ print_end e ++ r → (Begins Blank r → ⊥) → Begins Blank t → ⊥
blank_behind t e r is none ([], q, (e', stops)) = not_stopped e r q (sym e' ∙ is) stops
blank_behind t e r is none (first ∷ es, q, (e', stops)) =
    let goes = e' ∙ append_assoc (print_end first) (print_blank es) q in
    let rest = (Newline_deterministic.unique first e t (print_blank es ++ q) r goes is).1 in
    none (es, q, (sym rest, stops))

no_blank : (t : Text) → (Begins Newline t → ⊥) → (Stops is_newline t → ⊥) → Begins Blank t → ⊥
no_blank t none goes ([], q, (e, stops)) = goes (subst (Stops is_newline) (sym e) stops)
no_blank t none goes (first ∷ es, q, (e, stops)) =
    none (first, print_blank es ++ q, e ∙ append_assoc (print_end first) (print_blank es) q)

length_behind : (e : LineEnd) (r t : Text) → t ≡ print_end e ++ r → length r < length t
length_behind crlf r t is = let n = ap length is in omega (arith, n)
length_behind lf r t is = let n = ap length is in omega (arith, n)

stops_or : (t : Text) → Stops is_newline t ⊎ (Stops is_newline t → ⊥)
stops_or [] = inr (λ stops. stops)
stops_or (b ∷ t) = elim (cases_Bool (is_newline b)) [
  | inl newline' ↦ inr (λ stops. true≢false (sym newline' ∙ stops))
  | inr other ↦ inl other
]

blank_by : (t : Text) → ((r : Text) → length r < length t → Decided Blank r) → Decided Blank t
blank_by t further = elim (newline t) [
  | inr none ↦ elim (stops_or t) [
    | inl stops ↦ inl ([], t, (refl, stops))
    | inr goes ↦ inr (no_blank t none goes)
  ]
  | inl first ↦ elim (further first.1 (length_behind first.0 first.1 t first.2)) [
    | inl more ↦ inl (
      first.0 ∷ more.0,
      more.1,
      (
        first.2 ∙ ap (λ l. print_end first.0 ++ l) more.2.0 ∙ sym (append_assoc (print_end first.0) (print_blank more.0) more.1),
        more.2.1,
      ),
    )
    | inr none ↦ inr (blank_behind t first.0 first.1 first.2 none)
  ]
]

blank_within : (n : ℕ) (t : Text) → length t ≤ n → Decided Blank t
blank_within zero t le = blank_by t (λ r lt. absurd (omega (arith, le, lt)))
blank_within (suc n) t le = blank_by t (λ r lt. blank_within n r (omega (arith, le, lt)))

start : (t : Text) → Decided RequestStart t
start t =
    both Blank (Then Method (Then Target (Then Version Newline))) Blank_deterministic t (blank_within (length t) t (omega arith))
    (λ a. both Method (Then Target (Then Version Newline)) Method_deterministic a (word is_token_byte 32 a)
    (λ b. both Target (Then Version Newline) Target_deterministic b (target b)
    (λ c. both Version Newline Version_deterministic c (version c) newline)))

-- ---- fields
value_text : (t : Text) → Decided ValueText t
value_text [] = inr (λ h. go h.0.0 h.0.1 h.1 h.2.1)
  where
    go : (w : Text) (e : LineEnd) (r : Text) → [] ≡ w ++ (print_end e ++ r) → ⊥
    go [] crlf r is = cc
    go [] lf r is = cc
    go (y ∷ w) e r is = cc
value_text (b ∷ t) = go (newline (b ∷ t)) (cases_Bool (is_value_byte b)) (value_text t)
  where
    stopped_value : (Begins Newline (b ∷ t) → ⊥) → is_value_byte b ≡ false → Begins ValueText (b ∷ t) → ⊥
    stopped_value none fails (([], e), r, (pass, is)) = none (e, r, is)
    stopped_value none fails ((y ∷ w, e), r, (pass, is)) =
        true≢false (sym (ap is_value_byte (first_of_two is) ∙ All-head (λ x. is_value_byte x ≡ true) y w pass) ∙ fails)

    no_rest : (Begins Newline (b ∷ t) → ⊥) → (Begins ValueText t → ⊥) → Begins ValueText (b ∷ t) → ⊥
    no_rest none behind (([], e), r, (pass, is)) = none (e, r, is)
    no_rest none behind ((y ∷ w, e), r, (pass, is)) =
        behind ((w, e), r, (All-tail (λ x. is_value_byte x ≡ true) y w pass, behind_first is))

    go : Decided Newline (b ∷ t) → ((is_value_byte b ≡ true) ⊎ (is_value_byte b ≡ false)) → Decided ValueText t → Decided ValueText (b ∷ t)
    go (inl (e, r, is)) value behind = inl (([], e), r, (All-nil (λ x. is_value_byte x ≡ true), is))
    go (inr none) (inr fails) behind = inr (stopped_value none fails)
    go (inr none) (inl passes) (inr unlike) = inr (no_rest none unlike)
    go (inr none) (inl passes) (inl ((w, e), r, (pass, is))) =
        inl ((b ∷ w, e), r, (All-cons (λ x. is_value_byte x ≡ true) b w passes pass, ap (λ l. b ∷ l) is))

field_line : (t : Text) → Decided FieldLine t
field_line t = elim (both (Word is_token_byte 58) ValueText Name_deterministic t (word is_token_byte 58 t) value_text) [
  | inr none ↦ inr (λ h. none ((h.0.name, (h.0.raw, h.0.end)), h.1, FieldLine_parts h.0 t h.1 h.2))
  | inl found ↦
      let name = found.0.0 in
      let raw = found.0.1.0 in
      let end = found.0.1.1 in
      let named = found.2.1 in
      let text = found.2.2 in
      let field : Field = record { name = name; raw = raw; end = end } in
      inl (
        field,
        found.1,
        (
          record { name = (named.0, named.1); raw = text.0 },
          named.2 ∙ ap (λ l. name ++ (58 ∷ l)) text.1 ∙ sym (print_field-append field found.1),
        ),
      )
]

no_line : (t : Text) → (Begins Newline t → ⊥) → (Begins FieldLine t → ⊥) → (Begins Newline t ⊎ Begins FieldLine t) → ⊥
no_line t no_end none (inl end) = no_end end
no_line t no_end none (inr line) = none line

field_behind : (f : Field) (r t : Text) → FieldLine f t r → length r < length t
field_behind f r t h =
    let rest = f.raw ++ (print_end f.end ++ r) in
    let whole : length t ≡ length (f.name ++ (58 ∷ rest)) = ap length (h.1 ∙ print_field-append f r) in
    let name = length-append f.name (58 ∷ rest) in
    let value = length-append f.raw (print_end f.end ++ r) in
    let end = length-append (print_end f.end) r in
    omega (arith, whole, name, value, end)

lines : (p f l q : Text) → p ++ ((f ++ l) ++ q) ≡ ((p ++ f) ++ l) ++ q
lines p f l q = sym (append_assoc p (f ++ l) q) ∙ ap (λ z. z ++ q) (sym (append_assoc p f l))

section_by : (t : Text) → ((r : Text) → length r < length t → Decided Section r) → Decided Section t
section_by t further = elim (newline t) [
  | inl end ↦ inl (([], end.0), end.1, (All-nil IsField, end.2))
  | inr no_end ↦ elim (field_line t) [
    | inr none ↦ inr (λ h. no_line t no_end none (Section_line h.0 t h.1 h.2))
    | inl line ↦ elim (further line.1 (field_behind line.0 line.1 t line.2)) [
      | inl more ↦ inl (
        (line.0 ∷ more.0.0, more.0.1),
        more.1,
        (
          All-cons IsField line.0 more.0.0 line.2.0 more.2.0,
          line.2.1 ∙ ap (λ l. print_field line.0 ++ l) more.2.1
              ∙ lines (print_field line.0) (flat_map print_field more.0.0) (print_end more.0.1) more.1,
        ),
      )
      | inr none ↦ inr (λ s.
          let one : FieldLines (line.0 ∷ []) t line.1 = (
            All-cons IsField line.0 [] line.2.0 (All-nil IsField),
            line.2.1 ∙ ap (λ l. l ++ line.1) (sym (append-nil (print_field line.0))),
          ) in
          let skipped = Section_skip (line.0 ∷ []) s.0.0 s.0.1 t line.1 s.1 one s.2 in
          none ((skipped.0, s.0.1), s.1, skipped.2))
    ]
  ]
]

section_within : (n : ℕ) (t : Text) → length t ≤ n → Decided Section t
section_within zero t le = section_by t (λ r lt. absurd (omega (arith, le, lt)))
section_within (suc n) t le = section_by t (λ r lt. section_within n r (omega (arith, le, lt)))

-- ---- heads
pub some_head : (block : Text) → ((h : HeadTerm) × IsHead block h) ⊎ ((h : HeadTerm) → IsHead block h → ⊥)
some_head block = elim (both RequestStart Section RequestStart_deterministic block (start block)
    (λ r. section_within (length r) r (omega arith))) [
      | inr none ↦ inr (λ h is. none (request_tree is.0, [], request_pieces block is.0 [] is.1))
      | inl found ↦ go found.0 found.1 (request_from_pieces block found.0 found.1 found.2)
    ]
  where
    go : (tree : RequestTree) (rest : Text) → ReadsRequest block (request_head tree) rest
        → ((h : HeadTerm) × IsHead block h) ⊎ ((h : HeadTerm) → IsHead block h → ⊥)
    go tree [] reads = inl (head_term (request_head tree), (request_head tree, reads, refl))
    go tree (b ∷ rest) reads = inr (λ h is.
        let e = (request_unique block is.0 (request_head tree) [] (b ∷ rest) is.1 reads).1 in
        let n = ap length e in omega (arith, n))

-- a block is one head at most
pub one_head : (block : Text) (h g : HeadTerm) → IsHead block h → IsHead block g → h ≡ g
one_head block h g is is' = sym is.2 ∙ ap head_term (request_unique block is.0 is'.0 [] [] is.1 is'.1).0 ∙ is'.2
