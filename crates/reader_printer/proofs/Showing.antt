-- Parses that stand at given tokens, from those of their parts.
use Rattle.std.proofs.Common.{◌≡◌, ℕ, suc, ◌+◌, ◌≤◌, max, List, [], ◌∷◌, ◌++◌, refl, ap, ◌∙◌, arith}
use Rattle.std.proofs.lemmas.List.{map-append}
use Rattle.task_model.specs.Terms.Text.{Text}
use Rattle.task_model.specs.declared.keyword.Keyword.{Keyword}
use Rattle.task_model.specs.declared.symbol.Symbol.{Symbol}
use Rattle.task_syntax.proofs.Words.{is_keyword-spelling, is_symbol-spelling}
use Rattle.task_model.specs.Syntax.Lexemes.{Lexeme, keyword, symbol}
use Rattle.task_model.specs.Syntax.Grammar.{Form, Parse, tokens, levels}
use Rattle.reader_printer.proofs.Placing.{put, spelling, spellings, IsSpelled, AreSpelled, spelled_append, behind, behind_all, placed_from, joined_placed}

-- ---- tokens that are written so
pub record Written (ts : List Text) : Type 0 where
  pub toks : List Lexeme
  pub right : AreSpelled toks
  pub texts : spellings toks ≡ ts

abbrev pub ended : Written []
ended = record { toks = []; right = tt; texts = refl }

-- a token in front
abbrev pub before : {ts : List Text} (l : Lexeme) → IsSpelled l → Written ts → Written (spelling l ∷ ts)
before l s w = record { toks = l ∷ w.toks; right = (s, w.right); texts = ap (λ x. spelling l ∷ x) w.texts }

abbrev pub joined : {ts us : List Text} → Written ts → Written us → Written (ts ++ us)
joined {ts} {us} a b = record {
  toks = a.toks ++ b.toks;
  right = spelled_append a.toks b.toks a.right b.right;
  texts = map-append spelling a.toks b.toks ∙ ap (λ x. x ++ spellings b.toks) a.texts ∙ ap (λ x. ts ++ x) b.texts;
}

pub word_spelled : (k : Keyword) (p : ℕ) → IsSpelled (keyword k p)
word_spelled k p = (is_keyword-spelling k, tt)

pub sign_spelled : (s : Symbol) (p : ℕ) → IsSpelled (symbol s p)
sign_spelled s p = (is_symbol-spelling s, tt)

-- a keyword or a symbol in front
abbrev pub word_before : {ts : List Text} (k : Keyword) → Written ts → Written (spelling (keyword k 0) ∷ ts)
word_before k w = before (keyword k 0) (word_spelled k 0) w

abbrev pub sign_before : {ts : List Text} (s : Symbol) → Written ts → Written (spelling (symbol s 0) ∷ ts)
sign_before s w = before (symbol s 0) (sign_spelled s 0) w

-- ---- parses at those tokens
-- A parse that shows this value by tokens that begin here, with so many levels.
pub record Stands {V : Type 0} {f : Form} (val : Parse f → V) (v : V) (most : ℕ) (toks : List Lexeme) (n : ℕ) : Type 0 where
  pub parse : Parse f
  pub tokens_are : tokens parse ≡ placed_from n toks
  pub means : val parse ≡ v
  pub within : levels parse ≤ most

-- the same wherever the tokens begin
pub record Shown {V : Type 0} {f : Form} (val : Parse f → V) (v : V) (most : ℕ) (ts : List Text) : Type 0 where
  pub written : Written ts
  pub stands : (n : ℕ) → Stands val v most written.toks n

-- as many levels or more
pub looser : {V : Type 0} {f : Form} {val : Parse f → V} {v : V} {k m : ℕ} {ts : List Text} → k ≤ m → Shown val v k ts → Shown val v m ts
looser le s = record {
  written = s.written;
  stands = λ n. let d = s.stands n in
      record { parse = d.parse; tokens_are = d.tokens_are; means = d.means; within = (let w = d.within in omega (arith, w, le)) };
}

-- one token
pub one_token :
    {V : Type 0} {f : Form} {val : Parse f → V} {v : V} (l : Lexeme) → IsSpelled l → (C : ℕ → Parse f)
    → ((n : ℕ) → tokens (C n) ≡ put l n ∷ []) → ((n : ℕ) → val (C n) ≡ v) → ((n : ℕ) → levels (C n) ≤ 1) → Shown val v 1 (spelling l ∷ [])
one_token l s C toks mean few = record {
  written = before l s ended;
  stands = λ n. record { parse = C n; tokens_are = toks n; means = mean n; within = few n };
}

-- two tokens
pub two_tokens :
    {V : Type 0} {f : Form} {val : Parse f → V} {v : V} (k : ℕ) (l m : Lexeme) → IsSpelled l → IsSpelled m → (C : ℕ → ℕ → Parse f)
    → ((n o : ℕ) → tokens (C n o) ≡ put l n ∷ put m o ∷ []) → ((n o : ℕ) → val (C n o) ≡ v) → ((n o : ℕ) → levels (C n o) ≤ k)
    → Shown val v k (spelling l ∷ spelling m ∷ [])
two_tokens k l m s t C toks mean few = record {
  written = before l s (before m t ended);
  stands = λ n. let o = behind n l in record { parse = C n o; tokens_are = toks n o; means = mean n o; within = few n o };
}

-- a part alone
pub part_alone :
    {V W : Type 0} {f g : Form} {val : Parse f → V} {part : Parse g → W} {v : V} {w : W} {k : ℕ} {ts : List Text} (C : Parse g → Parse f)
    → ((d : Parse g) → tokens (C d) ≡ tokens d) → ((d : Parse g) → part d ≡ w → val (C d) ≡ v) → ((d : Parse g) → levels (C d) ≡ levels d)
    → Shown part w k ts → Shown val v k ts
part_alone C toks mean same s = record {
  written = s.written;
  stands = λ n. let d = s.stands n in record {
    parse = C d.parse;
    tokens_are = toks d.parse
        ∙ d.tokens_are;
    means = mean d.parse d.means;
    within = (let w = d.within in let e = same d.parse in omega (arith, w, e));
  };
}

-- a token and a part
pub token_and_part :
    {V W : Type 0} {f g : Form} {val : Parse f → V} {part : Parse g → W} {v : V} {w : W} {k : ℕ} {ts : List Text} (l : Lexeme) → IsSpelled l
    → (C : ℕ → Parse g → Parse f)
    → ((n : ℕ) (d : Parse g) → tokens (C n d) ≡ put l n ∷ tokens d) → ((n : ℕ) (d : Parse g) → part d ≡ w → val (C n d) ≡ v)
    → ((n : ℕ) (d : Parse g) → levels (C n d) ≡ suc (levels d)) → Shown part w k ts → Shown val v (suc k) (spelling l ∷ ts)
token_and_part l sp C toks mean same s = record {
  written = before l sp s.written;
  stands = λ n. let d = s.stands (behind n l) in record {
    parse = C n d.parse;
    tokens_are = toks n d.parse ∙ ap (λ x. put l n ∷ x) d.tokens_are;
    means = mean n d.parse d.means;
    within = (let w = d.within in let e = same n d.parse in omega (arith, w, e));
  };
}

-- two parts with a token between them
pub token_between :
    {U V W : Type 0} {f g h : Form} {val : Parse f → V} {left : Parse g → U} {right : Parse h → W} {v : V} {u : U} {w : W} {j k : ℕ}
    {ts us : List Text}
    (bump : ℕ) (l : Lexeme) → IsSpelled l → (C : Parse g → ℕ → Parse h → Parse f)
    → ((a : Parse g) (n : ℕ) (b : Parse h) → tokens (C a n b) ≡ tokens a ++ put l n ∷ tokens b)
    → ((a : Parse g) (n : ℕ) (b : Parse h) → left a ≡ u → right b ≡ w → val (C a n b) ≡ v)
    → ((a : Parse g) (n : ℕ) (b : Parse h) → levels (C a n b) ≡ bump + max (levels a) (levels b))
    → Shown left u j ts → Shown right w k us → Shown val v (bump + max j k) (ts ++ spelling l ∷ us)
token_between bump l sp C toks mean same a b = record {
  written = joined a.written (before l sp b.written);
  stands = λ n.
      let x = a.stands n in
      let m = behind_all n a.written.toks in
      let y = b.stands (behind m l) in
      record {
        parse = C x.parse m y.parse;
        tokens_are = toks x.parse m y.parse ∙ joined_placed n a.written.toks (l ∷ b.written.toks) (tokens x.parse)
            (put l m ∷ tokens y.parse) x.tokens_are (ap (λ t. put l m ∷ t) y.tokens_are);
        means = mean x.parse m y.parse x.means y.means;
        within = (let w = x.within in let z = y.within in let e = same x.parse m y.parse in omega (arith, w, z, e));
      };
}

-- a part between two tokens
pub tokens_around :
    {V W : Type 0} {f g : Form} {val : Parse f → V} {part : Parse g → W} {v : V} {w : W} {k : ℕ} {ts : List Text} (bump : ℕ) (l r : Lexeme)
    → IsSpelled l → IsSpelled r → (C : ℕ → Parse g → ℕ → Parse f)
    → ((n : ℕ) (d : Parse g) (m : ℕ) → tokens (C n d m) ≡ put l n ∷ tokens d ++ put r m ∷ [])
    → ((n : ℕ) (d : Parse g) (m : ℕ) → part d ≡ w → val (C n d m) ≡ v)
    → ((n : ℕ) (d : Parse g) (m : ℕ) → levels (C n d m) ≡ bump + levels d) → Shown part w k ts
    → Shown val v (bump + k) (spelling l ∷ ts ++ spelling r ∷ [])
tokens_around bump l r sl sr C toks mean same s = record {
  written = before l sl (joined s.written (before r sr ended));
  stands = λ n.
      let d = s.stands (behind n l) in
      let m = behind_all (behind n l) s.written.toks in
      record {
        parse = C n d.parse m;
        tokens_are = toks n d.parse m ∙ ap (λ x. put l n ∷ x) (joined_placed (behind n l) s.written.toks (r ∷ []) (tokens d.parse)
            (put r m ∷ []) d.tokens_are refl);
        means = mean n d.parse m d.means;
        within = (let w = d.within in let e = same n d.parse m in omega (arith, w, e));
      };
}

-- two parts with a token before, between and behind them
pub tokens_around_two :
    {U V W : Type 0} {f g h : Form} {val : Parse f → V} {left : Parse g → U} {right : Parse h → W} {v : V} {u : U} {w : W} {j k : ℕ}
    {ts us : List Text}
    (l m r : Lexeme) → IsSpelled l → IsSpelled m → IsSpelled r → (C : ℕ → Parse g → ℕ → Parse h → ℕ → Parse f)
    → ((n : ℕ) (a : Parse g) (o : ℕ) (b : Parse h) (p : ℕ)
    → tokens (C n a o b p) ≡ put l n ∷ tokens a ++ put m o ∷ tokens b ++ put r p ∷ [])
    → ((n : ℕ) (a : Parse g) (o : ℕ) (b : Parse h) (p : ℕ) → left a ≡ u → right b ≡ w → val (C n a o b p) ≡ v)
    → ((n : ℕ) (a : Parse g) (o : ℕ) (b : Parse h) (p : ℕ) → levels (C n a o b p) ≡ suc (max (levels a) (levels b)))
    → Shown left u j ts → Shown right w k us → Shown val v (suc (max j k)) (spelling l ∷ ts ++ spelling m ∷ us ++ spelling r ∷ [])
tokens_around_two l m r sl sm sr C toks mean same a b = record {
  written = before l sl (joined (joined a.written (before m sm b.written)) (before r sr ended));
  stands = λ n.
      let n1 = behind n l in
      let x = a.stands n1 in
      let o = behind_all n1 a.written.toks in
      let y = b.stands (behind o m) in
      let inner = a.written.toks ++ m ∷ b.written.toks in
      let p = behind_all n1 inner in
      record {
        parse = C n x.parse o y.parse p;
        tokens_are = toks n x.parse o y.parse p ∙ ap (λ t. put l n ∷ t)
            (joined_placed n1 inner (r ∷ []) (tokens x.parse ++ put m o ∷ tokens y.parse) (put r p ∷ [])
            (joined_placed n1 a.written.toks (m ∷ b.written.toks) (tokens x.parse) (put m o ∷ tokens y.parse) x.tokens_are
            (ap (λ t. put m o ∷ t) y.tokens_are)) refl);
        means = mean n x.parse o y.parse p x.means y.means;
        within = (let w = x.within in let z = y.within in let e = same n x.parse o y.parse p in omega (arith, w, z, e));
      };
}

-- three tokens, a part, a token and a part
pub three_tokens_and_two_parts :
    {U V W : Type 0} {f g h : Form} {val : Parse f → V} {left : Parse g → U} {right : Parse h → W} {v : V} {u : U} {w : W} {j k : ℕ}
    {ts us : List Text}
    (l1 l2 l3 m : Lexeme) → IsSpelled l1 → IsSpelled l2 → IsSpelled l3 → IsSpelled m → (C : ℕ → ℕ → ℕ → Parse g → ℕ → Parse h → Parse f)
    → ((n1 n2 n3 : ℕ) (a : Parse g) (o : ℕ) (b : Parse h)
    → tokens (C n1 n2 n3 a o b) ≡ put l1 n1 ∷ put l2 n2 ∷ put l3 n3 ∷ tokens a ++ put m o ∷ tokens b)
    → ((n1 n2 n3 : ℕ) (a : Parse g) (o : ℕ) (b : Parse h) → left a ≡ u → right b ≡ w → val (C n1 n2 n3 a o b) ≡ v)
    → ((n1 n2 n3 : ℕ) (a : Parse g) (o : ℕ) (b : Parse h) → levels (C n1 n2 n3 a o b) ≡ suc (max (levels a) (levels b)))
    → Shown left u j ts → Shown right w k us → Shown val v (suc (max j k)) (spelling l1 ∷ spelling l2 ∷ spelling l3 ∷ ts ++ spelling m ∷ us)
three_tokens_and_two_parts l1 l2 l3 m s1 s2 s3 sm C toks mean same a b = record {
  written = before l1 s1 (before l2 s2 (before l3 s3 (joined a.written (before m sm b.written))));
  stands = λ n1.
      let n2 = behind n1 l1 in
      let n3 = behind n2 l2 in
      let n4 = behind n3 l3 in
      let x = a.stands n4 in
      let o = behind_all n4 a.written.toks in
      let y = b.stands (behind o m) in
      record {
        parse = C n1 n2 n3 x.parse o y.parse;
        tokens_are = toks n1 n2 n3 x.parse o y.parse ∙ ap (λ t. put l1 n1 ∷ put l2 n2 ∷ put l3 n3 ∷ t)
            (joined_placed n4 a.written.toks (m ∷ b.written.toks) (tokens x.parse) (put m o ∷ tokens y.parse) x.tokens_are
            (ap (λ t. put m o ∷ t) y.tokens_are));
        means = mean n1 n2 n3 x.parse o y.parse x.means y.means;
        within = (let w = x.within in let z = y.within in let e = same n1 n2 n3 x.parse o y.parse in omega (arith, w, z, e));
      };
}

-- a token before each of three parts
pub token_before_each :
    {T U V W : Type 0} {f g h i : Form} {val : Parse f → V} {first : Parse g → T} {second : Parse h → U} {third : Parse i → W} {v : V}
    {t : T} {u : U} {w : W} {j k q : ℕ} {ts us vs : List Text}
    (l m r : Lexeme) → IsSpelled l → IsSpelled m → IsSpelled r → (C : ℕ → Parse g → ℕ → Parse h → ℕ → Parse i → Parse f)
    → ((n : ℕ) (a : Parse g) (o : ℕ) (b : Parse h) (p : ℕ) (c : Parse i)
    → tokens (C n a o b p c) ≡ put l n ∷ tokens a ++ put m o ∷ tokens b ++ put r p ∷ tokens c)
    → ((n : ℕ) (a : Parse g) (o : ℕ) (b : Parse h) (p : ℕ) (c : Parse i) → first a ≡ t → second b ≡ u → third c ≡ w
    → val (C n a o b p c) ≡ v)
    → ((n : ℕ) (a : Parse g) (o : ℕ) (b : Parse h) (p : ℕ) (c : Parse i)
    → levels (C n a o b p c) ≡ suc (max (levels a) (max (levels b) (levels c))))
    → Shown first t j ts → Shown second u k us → Shown third w q vs
    → Shown val v (suc (max j (max k q))) (spelling l ∷ ts ++ spelling m ∷ us ++ spelling r ∷ vs)
token_before_each l m r sl sm sr C toks mean same a b c = record {
  written = before l sl (joined (joined a.written (before m sm b.written)) (before r sr c.written));
  stands = λ n.
      let n1 = behind n l in
      let x = a.stands n1 in
      let o = behind_all n1 a.written.toks in
      let y = b.stands (behind o m) in
      let inner = a.written.toks ++ m ∷ b.written.toks in
      let p = behind_all n1 inner in
      let z = c.stands (behind p r) in
      record {
        parse = C n x.parse o y.parse p z.parse;
        tokens_are = toks n x.parse o y.parse p z.parse ∙ ap (λ t. put l n ∷ t)
            (joined_placed n1 inner (r ∷ c.written.toks) (tokens x.parse ++ put m o ∷ tokens y.parse) (put r p ∷ tokens z.parse)
            (joined_placed n1 a.written.toks (m ∷ b.written.toks) (tokens x.parse) (put m o ∷ tokens y.parse) x.tokens_are
            (ap (λ t. put m o ∷ t) y.tokens_are))
            (ap (λ t. put r p ∷ t) z.tokens_are));
        means = mean n x.parse o y.parse p z.parse x.means y.means z.means;
        within = (let w1 = x.within in let w2 = y.within in let w3 = z.within in let e = same n x.parse o y.parse p z.parse in
            omega (arith, w1, w2, w3, e));
      };
}
