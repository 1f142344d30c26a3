-- The token or the fault in front.
use Rattle.std.proofs.Common.{◌≡◌, ◌≢◌, ◌⊎◌, ℕ, ℤ, pos, ◌-◌, ◌<◌, ◌≤◌, true, false, List, [], ◌∷◌, ◌++◌, length, take, refl, sym, ap, ◌∙◌, subst, arith, inl, inr, append_assoc}
use Rattle.std.specs.Prelude.{encode_utf8}
use Rattle.std.specs.Char.{is_ascii_digit}
use Rattle.std.specs.Str.{encode_utf8_all, all_scalars}
use Rattle.std.proofs.Math.Utf8.{scalar}
use Rattle.std.proofs.lemmas.Bool.Decides.{nat_tests}
use Rattle.unicode_ident.specs.Ident.{is_xid_start}
use Rattle.task_model.specs.Terms.Text.{Text}
use Rattle.task_model.specs.Terms.Token.{TokenKindTerm, name_token, keyword_token, number_token, text_token, symbol_token, is_keyword, number_from, SpellsNumber, Spells, IsLongest, spelled}
use Rattle.task_model.specs.declared.keyword.Keyword.{Keyword}
use Rattle.task_model.specs.declared.symbol.Symbol.{Symbol}
use Rattle.task_syntax.specs.declared.token.TokenKind.TheVariants as kinds
use Rattle.task_syntax.specs.declared.run.Run.TheVariants.{Word, Digits}
use Rattle.task_model.specs.Syntax.Spelling.{keyword_spelling, symbol_spelling}
use Rattle.task_syntax.specs.Runs.{BeginsWithCharacter, IsRun, goes_on, is_blank}
use Rattle.task_syntax.specs.Front.{Leads}
use Rattle.task_syntax.specs.TextParts.{TextStands}
use Rattle.task_syntax.specs.Fault.{BeginsNoToken, IsWide}
use Rattle.task_syntax.proofs.Bytes.{no_char, begins_byte, all_digits, front_is}
use Rattle.task_syntax.proofs.Words.{is_keyword-spelling, is_symbol-spelling, symbol_of, all-AllContinue}
use Rattle.task_syntax.proofs.Classes.{Class, letter, digit, quote, sign, none, class, class_of, class_other, front_class}
use Rattle.task_syntax.proofs.Longest.{word_longest, digits_longest, text_longest, symbol_longest}

-- ---- words
pub scalars_cons : (c : ℕ) (cs : List ℕ) → all_scalars (c ∷ []) ≡ true → all_scalars cs ≡ true → all_scalars (c ∷ cs) ≡ true
scalars_cons c cs one all = let first : scalar c ≡ true = grind (arith, one) in rw (first, all) refl

module _ (text more rest : Text) (c : ℕ) (front : List ℕ) (b : BeginsWithCharacter text c more) (one : all_scalars (c ∷ []) ≡ true)
    (starts : is_xid_start c ≡ true) (run : IsRun (goes_on Word) more front rest) where
  word_split : text ≡ encode_utf8_all (c ∷ front) ++ rest
  word_split = b ∙ ap (λ x. encode_utf8 c ++ x) run.split ∙ sym (append_assoc (encode_utf8 c) (encode_utf8_all front) rest)

  word_is : take (length text - length rest) text ≡ encode_utf8_all (c ∷ front)
  word_is = front_is text (encode_utf8_all (c ∷ front)) rest word_split

  pub name_leads : is_keyword (take (length text - length rest) text) ≡ false → Leads text kinds.Name rest
  name_leads plain = record {
    spelling = encode_utf8_all (c ∷ front);
    term = name_token;
    split = word_split;
    spells = (
      record {
        first = c;
        rest = front;
        scalars = scalars_cons c front one run.scalars;
        bytes = refl;
        starts = starts;
        continues = all-AllContinue front run.passes;
      },
      subst (λ t. is_keyword t ≡ false) word_is plain,
    );
    within = tt;
    longest = word_longest c front rest starts run.ends;
    is = refl;
  }

  pub keyword_leads : (k : Keyword) → take (length text - length rest) text ≡ keyword_spelling k → Leads text (kinds.Keyword k) rest
  keyword_leads k e =
      let same : encode_utf8_all (c ∷ front) ≡ keyword_spelling k = sym word_is ∙ e in record {
        spelling = encode_utf8_all (c ∷ front);
        term = keyword_token;
        split = word_split;
        spells = subst (λ t. is_keyword t ≡ true) (sym same) (is_keyword-spelling k);
        within = tt;
        longest = word_longest c front rest starts run.ends;
        is = (refl, same);
      }

-- ---- numbers
module _ (text rest : Text) (front : List ℕ) (run : IsRun (goes_on Digits) text front rest) where
  pub digits_are : take (length text - length rest) text ≡ front
  digits_are = front_is text front rest (run.split ∙ ap (λ x. x ++ rest) (all_digits front run.passes).0)

  digits_split : text ≡ front ++ rest
  digits_split = run.split ∙ ap (λ x. x ++ rest) (all_digits front run.passes).0

  digits_some : (c : ℕ) (more : Text) → BeginsWithCharacter text c more → is_ascii_digit c ≡ true → front ≢ []
  digits_some c more b given e =
      let here : is_ascii_digit c ≡ false = run.ends c more (sym (digits_split ∙ ap (λ x. x ++ rest) e) ∙ b) in
      absurd cc

  module _ (c : ℕ) (more : Text) (b : BeginsWithCharacter text c more) (given : is_ascii_digit c ≡ true) where
    number_is : SpellsNumber front (number_from 0 front)
    number_is = (digits_some c more b given, (all_digits front run.passes).1, refl)

    number_longest : IsLongest front rest
    number_longest = digits_longest front rest (digits_some c more b given) (all_digits front run.passes).1 run.ends

    pub number_leads : (n : ℕ) (i : ℤ) → i ≡ pos n → n ≡ number_from 0 (take (length text - length rest) text) → n ≤ 9223372036854775807
        → Leads text (kinds.Number i) rest
    number_leads n i i_is n_is small =
        let same : n ≡ number_from 0 front = n_is ∙ ap (number_from 0) digits_are in record {
          spelling = front;
          term = number_token (number_from 0 front);
          split = digits_split;
          spells = number_is;
          within = subst (λ m. m ≤ 9223372036854775807) same small;
          longest = number_longest;
          is = (number_from 0 front, i_is ∙ ap pos same, refl);
        }

    pub number_wide : 9223372036854775807 < number_from 0 (take (length text - length rest) text) → IsWide text
    number_wide wide = record {
      digits = front;
      back = rest;
      number = number_from 0 front;
      bytes = digits_split;
      are = number_is;
      longest = number_longest;
      wide = subst (λ t. 9223372036854775807 < number_from 0 t) digits_are wide;
    }

-- ---- texts and symbols
pub text_leads : (text content rest : Text) → TextStands text content rest → Leads text (kinds.Text content) rest
text_leads text content rest (ps, e, are, small) = record {
  spelling = 34 ∷ spelled ps ++ 34 ∷ [];
  term = text_token content;
  split = e ∙ ap (λ x. 34 ∷ x) (sym (append_assoc (spelled ps) (34 ∷ []) rest));
  spells = (ps, refl, are);
  within = small;
  longest = text_longest ps content rest are;
  is = refl;
}

pub symbol_leads :
    (text rest : Text) (x : Symbol)
    → text ≡ symbol_spelling x ++ rest
    → ((y : Symbol) (after : Text) → text ≡ symbol_spelling y ++ after → length (symbol_spelling y) ≤ length (symbol_spelling x))
    → Leads text (kinds.Symbol x) rest
symbol_leads text rest x e most = record {
  spelling = symbol_spelling x;
  term = symbol_token;
  split = e;
  spells = is_symbol-spelling x;
  within = tt;
  longest = symbol_longest x text rest e most;
  is = (refl, refl);
}

-- ---- no token
pub bad_char :
    (text more : Text) (c : ℕ)
    → BeginsWithCharacter text c more
    → is_blank c ≡ false
    → c ≢ 35
    → is_xid_start c ≡ false
    → is_ascii_digit c ≡ false
    → c ≢ 34
    → ((s : Symbol) (rest : Text) → text ≡ symbol_spelling s ++ rest → ⊥)
    → BeginsNoToken text
bad_char [] more c b no_blank no_comment no_letter no_digit no_quote no_symbol = absurd (no_char c more b)
bad_char (d ∷ ds) more c b no_blank no_comment no_letter no_digit no_quote no_symbol = (
  λ h.
      let low : d < 128 = grind (arith, nat_tests, h) in
      let yes : is_blank d ≡ true = grind (arith, nat_tests, h) in
      let same : c ≡ d = (begins_byte d ds c more low b).0 in
      let wrong : is_blank d ≡ false = ap is_blank (sym same) ∙ no_blank in
      absurd cc,
  λ e. no_comment ((begins_byte d ds c more (omega (arith, e)) b).0 ∙ e),
  λ e. no_quote ((begins_byte d ds c more (omega (arith, e)) b).0 ∙ e),
  λ t back kind e s. token t back kind e s (other (class c) (class_other c no_letter no_digit no_quote))
      (front_class (d ∷ ds) t back kind c more e s b),
)
  where
    other : (k : Class) → (k ≡ sign) ⊎ (k ≡ none) → (k ≢ letter) × (k ≢ digit) × (k ≢ quote)
    other k (inl e) = (
      λ f. let g : sign ≡ letter = sym e ∙ f in absurd cc,
      λ f. let g : sign ≡ digit = sym e ∙ f in
          absurd cc,
      λ f. let g : sign ≡ quote = sym e ∙ f in absurd cc,
    )
    other k (inr e) = (
      λ f. let g : none ≡ letter = sym e ∙ f in absurd cc,
      λ f. let g : none ≡ digit = sym e ∙ f in
          absurd cc,
      λ f. let g : none ≡ quote = sym e ∙ f in absurd cc,
    )

    token : (t back : Text) (kind : TokenKindTerm) → d ∷ ds ≡ t ++ back → Spells t kind → (class c ≢ letter) × (class c ≢ digit)
        × (class c ≢ quote) → class c ≡ class_of kind → ⊥
    token t back name_token e s k is = k.0 is
    token t back keyword_token e s k is = k.0 is
    token t back (number_token n) e s k is = k.1 is
    token t back (text_token u) e s k is = k.2 is
    token t back symbol_token e s k is = let (y, y_is) = symbol_of t s in no_symbol y back (e ∙ ap (λ v. v ++ back) y_is)
