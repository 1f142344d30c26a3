-- Where a token ends.
use Rattle.std.proofs.Common.{◌≡◌, ◌≢◌, ℕ, ◌≤◌, true, false, List, [], ◌∷◌, ◌++◌, length, refl, sym, ap, ◌∙◌, arith, append_assoc, append-nil, length-append}
use Rattle.std.specs.Char.{is_ascii_digit}
use Rattle.std.specs.Str.{encode_utf8_all}
use Rattle.unicode_ident.specs.Ident.{is_xid_start, is_xid_continue}
use Rattle.task_model.specs.Terms.Text.{Text}
use Rattle.task_model.specs.Terms.Token.{TokenKindTerm, name_token, keyword_token, number_token, text_token, symbol_token, IsWord, AreDigits, Spells, PartsAre, TextPart, spelled, IsLongest}
use Rattle.task_model.specs.declared.symbol.Symbol.{Symbol}
use Rattle.task_model.specs.Syntax.Spelling.{symbol_spelling}
use Rattle.task_syntax.specs.Runs.{BeginsWithCharacter}
use Rattle.task_syntax.proofs.Bytes.{run_longest, begins_more, low_begins, digits_bytes, digit-is}
use Rattle.task_syntax.proofs.Words.{keyword_word, word_all, symbol_of, is_symbol-spelling}
use Rattle.task_syntax.proofs.Classes.{letter, digit, quote, sign, class, class_of, class-letter, class-digit, class-quote, front_class, starts}
use Rattle.task_syntax.proofs.PartLemmas.{text_same, stuck_quote}

-- a longer token begins with the same character
longer_class : (t more : Text) (kind : TokenKindTerm) (c : ℕ) (v : Text) → BeginsWithCharacter t c v → Spells (t ++ more) kind
    → class c ≡ class_of kind
longer_class t more kind c v b s = front_class (t ++ more) (t ++ more) [] kind c (v ++ more) (sym (append-nil (t ++ more))) s
    (begins_more t c v more b)

pub word_longest : (c : ℕ) (cs : List ℕ) (rest : Text) → is_xid_start c ≡ true
    → ((d : ℕ) (after : Text) → BeginsWithCharacter rest d after → is_xid_continue d ≡ false) → IsLongest (encode_utf8_all (c ∷ cs)) rest
word_longest c cs rest first ends more back kind e some s = go kind s
    (sym (class-letter c first) ∙ longer_class (encode_utf8_all (c ∷ cs)) more kind c (encode_utf8_all cs) refl s)
  where
    word : IsWord (encode_utf8_all (c ∷ cs) ++ more) → ⊥
    word w = some (run_longest is_xid_continue (c ∷ cs) (w.first ∷ w.rest) more back rest e ends w.bytes (word_all _ w))

    go : (kind : TokenKindTerm) → Spells (encode_utf8_all (c ∷ cs) ++ more) kind → letter ≡ class_of kind → ⊥
    go name_token s k = word s.0
    go keyword_token s k = word (keyword_word _ s)
    go (number_token n) s k = absurd cc
    go (text_token t) s k = absurd cc
    go symbol_token s k = absurd cc

pub digits_longest : (t rest : Text) → t ≢ [] → AreDigits t
    → ((d : ℕ) (after : Text) → BeginsWithCharacter rest d after → is_ascii_digit d ≡ false) → IsLongest t rest
digits_longest [] rest full d ends more back kind e some s = absurd (full refl)
digits_longest (b ∷ t) rest full d ends more back kind e some s = go kind s
    (sym (class-digit b (digit-is b d.0)) ∙ longer_class (b ∷ t) more kind b t (low_begins b t (omega (arith, d.0))) s)
  where
    go : (kind : TokenKindTerm) → Spells ((b ∷ t) ++ more) kind → digit ≡ class_of kind → ⊥
    go name_token s k = absurd cc
    go keyword_token s k = absurd cc
    go (number_token n) s k =
        let all = digits_bytes ((b ∷ t) ++ more) s.1 in
        some (run_longest is_ascii_digit (b ∷ t) ((b ∷ t) ++ more) more back rest e ends
        (all.0 ∙ ap (λ x. x ++ more) (sym (digits_bytes (b ∷ t) d).0)) all.1)
    go (text_token u) s k = absurd cc
    go symbol_token s k = absurd cc

pub text_longest : (ps : List TextPart) (content rest : Text) → PartsAre ps content → IsLongest (34 ∷ spelled ps ++ 34 ∷ []) rest
text_longest ps content rest are more back kind e some s = go kind s
    (sym class-quote ∙ longer_class (34 ∷ spelled ps ++ 34 ∷ []) more kind 34 (spelled ps ++ 34 ∷ []) (low_begins 34 _ (omega arith)) s)
  where
    go : (kind : TokenKindTerm) → Spells ((34 ∷ spelled ps ++ 34 ∷ []) ++ more) kind → quote ≡ class_of kind → ⊥
    go name_token s k = absurd cc
    go keyword_token s k = absurd cc
    go (number_token n) s k = absurd cc
    go (text_token u) s k =
        let whole = (34 ∷ spelled ps ++ 34 ∷ []) ++ more in
        let same = text_same whole whole [] u content (34 ∷ more) ps (sym (append-nil whole)) s
        (ap (λ x. 34 ∷ x) (append_assoc (spelled ps) (34 ∷ []) more)) are (stuck_quote more) in
        let both : 34 ∷ [] ≡ 34 ∷ more = same.1 in
        let same' : [] ≡ more = cc in
        some (sym same')
    go symbol_token s k = absurd cc

-- the longest symbol in front is the longest token
pub symbol_longest :
    (x : Symbol) (text rest : Text)
    → text ≡ symbol_spelling x ++ rest
    → ((y : Symbol) (after : Text) → text ≡ symbol_spelling y ++ after → length (symbol_spelling y) ≤ length (symbol_spelling x))
    → IsLongest (symbol_spelling x) rest
symbol_longest x text rest e most more back kind f some s =
    let (c, v, b, is) = starts (symbol_spelling x) symbol_token (is_symbol-spelling x) in
    go kind s (sym is ∙ longer_class (symbol_spelling x) more kind c v b s)
  where
    nil : (more : Text) → length more ≤ 0 → more ≡ []
    nil [] h = refl
    nil (b ∷ more) h = absurd (omega (arith, h))

    go : (kind : TokenKindTerm) → Spells (symbol_spelling x ++ more) kind → sign ≡ class_of kind → ⊥
    go name_token s k = absurd cc
    go keyword_token s k = absurd cc
    go (number_token n) s k = absurd cc
    go (text_token u) s k = absurd cc
    go symbol_token s k =
        let (y, y_is) = symbol_of (symbol_spelling x ++ more) s in
        let whole : text ≡ symbol_spelling y ++ back = e ∙ ap (λ r. symbol_spelling x ++ r) f
        ∙ sym (append_assoc (symbol_spelling x) more back) ∙ ap (λ t. t ++ back) y_is in
        some (nil more (omega (arith, most y back whole, ap length y_is, length-append (symbol_spelling x) more)))
