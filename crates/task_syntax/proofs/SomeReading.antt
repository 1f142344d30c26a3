-- Every source in UTF-8 has tokens or a first fault.
use Rattle.std.proofs.Common.{◌≡◌, ◌≢◌, ◌⊎◌, ℕ, zero, suc, pos, ◌+◌, ◌-◌, ◌<◌, ◌≤◌, nat_lt, Bool, true, false, List, [], ◌∷◌, ◌++◌, map, length, take, refl, sym, ap, ◌∙◌, subst, arith, inl, inr, append-nil}
use Rattle.std.specs.Char.{is_ascii_digit}
use Rattle.std.specs.List.{list_all}
use Rattle.std.specs.Str.{encode_utf8_all, all_scalars, IsUtf8}
use Rattle.std.proofs.Math.Utf8.{scalar}
use Rattle.std.proofs.lemmas.Bool.Decides.{nat_tests}
use Rattle.std.proofs.lemmas.Bool.{cases_lt}
use Rattle.std.proofs.lemmas.Str.{IsUtf8-past_char}
use Rattle.unicode_ident.specs.Ident.{is_xid_start}
use Rattle.task_model.specs.Terms.Text.{Text}
use Rattle.task_model.specs.Terms.Token.{TokenTerm, is_keyword, symbols, number_from, Piece, blank, comment, bytes_of, tokens_from, HasTokens}
use Rattle.task_syntax.specs.declared.stop.LexKind.{LexKind}
use Rattle.task_syntax.specs.declared.stop.LexKind.TheVariants.{BadChar, WideNumber}
use Rattle.task_syntax.specs.declared.run.Run.TheVariants.{Line, Word, Digits}
use Rattle.task_model.specs.declared.symbol.Symbol.{Symbol}
use Rattle.task_model.specs.Syntax.Spelling.{symbol_spelling}
use Rattle.task_syntax.specs.Runs.{IsRun, goes_on, is_blank}
use Rattle.task_syntax.specs.Fault.{AreRightBefore, HasFault}
use Rattle.task_syntax.specs.Table.{NoneBegins, FirstBegins, symbols_with}
use Rattle.task_syntax.proofs.Bytes.{begins_low, low_begins, run_shorter}
use Rattle.task_syntax.proofs.Words.{any_same, keyword_of, is_symbol-spelling}
use Rattle.task_syntax.proofs.Lines.{blank_is, no_lf, ends_line}
use Rattle.task_syntax.proofs.Leading.{name_leads, keyword_leads, number_leads, number_wide, symbol_leads, bad_char}
use Rattle.task_syntax.proofs.Tables.{no_symbol, longest_of}
use Rattle.task_syntax.proofs.Pieces.{bytes_push, right_push}
use Rattle.task_syntax.proofs.Deciding.{same_or_not, begins_or_not, run_exists, First, a_piece, a_fault, lead_first, utf8, text_first}
use Rattle.task_syntax.proofs.Reached.{whole_right}

-- ---- the symbol in front
symbol_or_not : (ss : List Symbol) (text : Text) → NoneBegins text (map symbol_spelling ss)
    ⊎ ((s : Symbol) × (rest : Text) × FirstBegins text (map symbol_spelling ss) (symbol_spelling s) rest)
symbol_or_not [] text = inl tt
symbol_or_not (s ∷ ss) text = go (begins_or_not text (symbol_spelling s)) (symbol_or_not ss text)
  where
    go :
        ((rest : Text) × (text ≡ symbol_spelling s ++ rest)) ⊎ ((rest : Text) → text ≡ symbol_spelling s ++ rest → ⊥)
        → NoneBegins text (map symbol_spelling ss)
        ⊎ ((t : Symbol) × (rest : Text) × FirstBegins text (map symbol_spelling ss) (symbol_spelling t) rest)
        → NoneBegins text (map symbol_spelling (s ∷ ss))
        ⊎ ((t : Symbol) × (rest : Text) × FirstBegins text (map symbol_spelling (s ∷ ss)) (symbol_spelling t) rest)
    go (inl (rest, e)) _ = inr (s, rest, record { before = []; after = map symbol_spelling ss; split = refl; none = tt; begins = e })
    go (inr bad) (inl none) = inl (bad, none)
    go (inr bad) (inr (t, rest, f)) = inr (
      t,
      rest,
      record {
        before = symbol_spelling s ∷ f.before;
        after = f.after;
        split = ap (λ x. symbol_spelling s ∷ x) f.split;
        none = (bad, f.none);
        begins = f.begins;
      },
    )

utf8_after : (t rest : Text) → list_all (λ b. nat_lt b 128) t ≡ true → IsUtf8 (t ++ rest) → IsUtf8 rest
utf8_after [] rest low u = u
utf8_after (b ∷ t) rest low u =
    let here : nat_lt b 128 ≡ true = grind (arith, low) in
    let lt : b < 128 = grind (arith, nat_tests, here) in
    utf8_after t rest (grind (arith, low)) (IsUtf8-past_char (b ∷ (t ++ rest)) (t ++ rest) b u (low_begins b (t ++ rest) lt))

-- ---- what stands first, whatever it is
word_first : (c : ℕ) (cs : List ℕ) → all_scalars (c ∷ cs) ≡ true → is_xid_start c ≡ true → First (encode_utf8_all (c ∷ cs))
word_first c cs one starts = go (run_exists (goes_on Word) cs (grind (arith, one)))
  where
    text : Text
    text = encode_utf8_all (c ∷ cs)

    alone : all_scalars (c ∷ []) ≡ true
    alone = let first : scalar c ≡ true = grind (arith, one) in rw first refl

    kind : (front back : List ℕ) → IsRun (goes_on Word) (encode_utf8_all cs) front (encode_utf8_all back) → all_scalars back ≡ true
        → (b : Bool) → is_keyword (take (length text - length (encode_utf8_all back)) text) ≡ b → First text
    kind front back run more true e =
        let (k, is) = keyword_of (take (length text - length (encode_utf8_all back)) text) e in
        lead_first text (encode_utf8_all back) _
        (keyword_leads text (encode_utf8_all cs) (encode_utf8_all back) c front refl alone starts run k is) (utf8 back more)
    kind front back run more false e = lead_first text (encode_utf8_all back) _
        (name_leads text (encode_utf8_all cs) (encode_utf8_all back) c front refl alone starts run e) (utf8 back more)

    go : (front : List ℕ) × (back : List ℕ) × IsRun (goes_on Word) (encode_utf8_all cs) front (encode_utf8_all back)
        × (all_scalars back ≡ true) → First text
    go (front, back, run, more) = kind front back run more (is_keyword (take (length text - length (encode_utf8_all back)) text)) refl

number_first : (c : ℕ) (cs : List ℕ) → all_scalars (c ∷ cs) ≡ true → is_ascii_digit c ≡ true → First (encode_utf8_all (c ∷ cs))
number_first c cs one is = go (run_exists (goes_on Digits) (c ∷ cs) one)
  where
    text : Text
    text = encode_utf8_all (c ∷ cs)

    value : List ℕ → ℕ
    value back = number_from 0 (take (length text - length (encode_utf8_all back)) text)

    kind : (front back : List ℕ) → IsRun (goes_on Digits) text front (encode_utf8_all back) → all_scalars back ≡ true
        → (9223372036854775807 < value back) ⊎ (value back ≤ 9223372036854775807) → First text
    kind front back run more (inl wide) = a_fault WideNumber 0
        (number_wide text (encode_utf8_all back) front run c (encode_utf8_all cs) refl is wide, refl)
    kind front back run more (inr small) = lead_first text (encode_utf8_all back) _
        (number_leads text (encode_utf8_all back) front run c (encode_utf8_all cs) refl is (value back) (pos (value back)) refl refl small)
        (utf8 back more)

    go : (front : List ℕ) × (back : List ℕ) × IsRun (goes_on Digits) text front (encode_utf8_all back) × (all_scalars back ≡ true)
        → First text
    go (front, back, run, more) = kind front back run more (cases_lt 9223372036854775807 (value back))

comment_first : (cs : List ℕ) → all_scalars cs ≡ true → First (35 ∷ encode_utf8_all cs)
comment_first cs one = go (run_exists (goes_on Line) cs one)
  where
    go : (front : List ℕ) × (back : List ℕ) × IsRun (goes_on Line) (encode_utf8_all cs) front (encode_utf8_all back)
        × (all_scalars back ≡ true) → First (35 ∷ encode_utf8_all cs)
    go (front, back, run, more) =
        a_piece (comment (encode_utf8_all front)) (encode_utf8_all back) (ap (λ x. 35 ∷ x) run.split)
        ((no_lf front run.passes, ends_line (encode_utf8_all back) (utf8 back more) run.ends), tt) (utf8 back more)
        (omega (arith, run_shorter (goes_on Line) (encode_utf8_all cs) (encode_utf8_all back) front run))

symbol_first : (c : ℕ) (cs : List ℕ) → all_scalars (c ∷ cs) ≡ true → is_blank c ≡ false → c ≢ 35 → is_xid_start c ≡ false
    → is_ascii_digit c ≡ false → c ≢ 34 → First (encode_utf8_all (c ∷ cs))
symbol_first c cs one n1 n2 n3 n4 n5 = go (symbol_or_not (symbols_with c) text)
  where
    text : Text
    text = encode_utf8_all (c ∷ cs)

    go : NoneBegins text (map symbol_spelling (symbols_with c))
        ⊎ ((s : Symbol) × (rest : Text) × FirstBegins text (map symbol_spelling (symbols_with c)) (symbol_spelling s) rest) → First text
    go (inl none) = a_fault BadChar 0
        (inl (bad_char text (encode_utf8_all cs) c refl n1 n2 n3 n4 n5 (no_symbol text c (encode_utf8_all cs) refl none), refl))
    go (inr (s, rest, first)) =
        lead_first text rest _ (symbol_leads text rest s first.begins (longest_of text c (encode_utf8_all cs) s rest refl first))
        (utf8_after (symbol_spelling s) rest
        (any_same (list_all (λ b. nat_lt b 128)) (symbol_spelling s) symbols refl (is_symbol-spelling s))
        (subst IsUtf8 first.begins (utf8 (c ∷ cs) one)))

first : (cs : List ℕ) → all_scalars cs ≡ true → (cs ≡ []) ⊎ First (encode_utf8_all cs)
first [] one = inl refl
first (c ∷ cs) one = inr (blanks (is_blank c) refl)
  where
    text : Text
    text = encode_utf8_all (c ∷ cs)

    later : all_scalars cs ≡ true
    later = grind (arith, one)

    low : c < 128 → text ≡ c ∷ encode_utf8_all cs
    low lt = begins_low text c (encode_utf8_all cs) lt refl

    text_of : text ≡ 34 ∷ encode_utf8_all cs → First text
    text_of e = text_first (length (encode_utf8_all cs)) text (encode_utf8_all cs) [] (omega arith) ([], e, refl) (utf8 cs later)

    quotes : is_blank c ≡ false → c ≢ 35 → is_xid_start c ≡ false → is_ascii_digit c ≡ false → (c ≡ 34) ⊎ (c ≢ 34) → First text
    quotes n1 n2 n3 n4 (inl e) = text_of (low (omega (arith, e)) ∙ ap (λ b. b ∷ encode_utf8_all cs) e)
    quotes n1 n2 n3 n4 (inr n5) = symbol_first c cs one n1 n2 n3 n4 n5

    numbers : is_blank c ≡ false → c ≢ 35 → is_xid_start c ≡ false → (b : Bool) → is_ascii_digit c ≡ b → First text
    numbers n1 n2 n3 true e = number_first c cs one e
    numbers n1 n2 n3 false e = quotes n1 n2 n3 e (same_or_not c 34)

    words : is_blank c ≡ false → c ≢ 35 → (b : Bool) → is_xid_start c ≡ b → First text
    words n1 n2 true e = word_first c cs one e
    words n1 n2 false e = numbers n1 n2 e (is_ascii_digit c) refl

    comments : is_blank c ≡ false → (c ≡ 35) ⊎ (c ≢ 35) → First text
    comments n1 (inl e) = subst First (sym (low (omega (arith, e)) ∙ ap (λ b. b ∷ encode_utf8_all cs) e)) (comment_first cs later)
    comments n1 (inr n2) = words n1 n2 (is_xid_start c) refl

    blanks : (b : Bool) → is_blank c ≡ b → First text
    blanks true e =
        let (lt, h) = blank_is c e in
        a_piece (blank c) (encode_utf8_all cs) (low lt) (h, tt) (utf8 cs later) (omega (arith, ap length (low lt)))
    blanks false e = comments e (same_or_not c 35)

first_of_text : (rest : Text) → IsUtf8 rest → (rest ≡ []) ⊎ First rest
first_of_text rest (cs, (one, e)) = go (first cs one)
  where
    go : (cs ≡ []) ⊎ First (encode_utf8_all cs) → (rest ≡ []) ⊎ First rest
    go (inl empty) = inl (sym e ∙ ap encode_utf8_all empty)
    go (inr f) = inr (subst First e f)

-- ---- the whole source
abbrev Answer : Text → Type 0
Answer source = ((ts : List TokenTerm) × HasTokens source ts) ⊎ ((k : LexKind) × (p : ℕ) × HasFault source k p)

module _ (source : Text) (u : IsUtf8 source) where
  whole : (ps : List Piece) (rest : Text) → bytes_of ps ++ rest ≡ source → AreRightBefore ps rest → rest ≡ [] → Answer source
  whole ps rest e right empty = inl (
    tokens_from 0 ps,
    record {
      utf8 = u;
      pieces = ps;
      bytes = sym (append-nil (bytes_of ps)) ∙ ap (λ x. bytes_of ps ++ x) (sym empty) ∙ e;
      right = whole_right ps (subst (AreRightBefore ps) empty right);
      are = refl;
    },
  )

  from_here : (n : ℕ) (ps : List Piece) (rest : Text) → length rest ≤ n → bytes_of ps ++ rest ≡ source → AreRightBefore ps rest
      → IsUtf8 rest → Answer source
  from_here zero ps [] le e right more = whole ps [] e right refl
  from_here zero ps (b ∷ rest) le e right more = absurd (omega (arith, le))
  from_here (suc n) ps rest le e right more = go (first_of_text rest more)
      (λ qs after less f right' more'. from_here n qs after less f right' more')
    where
      found : First rest → ((qs : List Piece) (after : Text) → length after ≤ n → bytes_of qs ++ after ≡ source → AreRightBefore qs after
          → IsUtf8 after → Answer source) → Answer source
      found (a_piece p after split is more' shorter) again =
          again (ps ++ p ∷ []) after (omega (arith, le, shorter)) (bytes_push ps p after ∙ ap (λ x. bytes_of ps ++ x) (sym split) ∙ e)
          (right_push ps p rest after right split is) more'
      found (a_fault k i fault) again = inr (
        k,
        length (bytes_of ps) + i,
        record {
          utf8 = u;
          pieces = ps;
          rest = rest;
          bytes = e;
          right = right;
          inside = i;
          fault = fault;
          is_place = refl;
        },
      )

      go : (rest ≡ []) ⊎ First rest → ((qs : List Piece) (after : Text) → length after ≤ n → bytes_of qs ++ after ≡ source
          → AreRightBefore qs after → IsUtf8 after → Answer source) → Answer source
      go (inl empty) again = whole ps rest e right empty
      go (inr f) again = found f again

  pub some_reading : Answer source
  some_reading = from_here (length source) [] source (omega arith) refl tt u
