-- Longer productions: parses that stand at given tokens, from those of their parts.
use Rattle.std.proofs.Common.{◌≡◌, ℕ, suc, max, List, ◌∷◌, ◌++◌, ap, ◌∙◌, arith}
use Rattle.task_model.specs.Terms.Text.{Text}
use Rattle.task_model.specs.declared.keyword.Keyword.TheVariants as words
use Rattle.task_model.specs.declared.symbol.Symbol.TheVariants as signs
use Rattle.task_model.specs.Syntax.Lexemes.{Lexeme, keyword, symbol, name}
use Rattle.task_model.specs.Syntax.Grammar.{Form, Parse, tokens, levels}
use Rattle.reader_printer.proofs.Placing.{put, spelling, IsSpelled, behind, behind_all, joined_placed}
use Rattle.reader_printer.proofs.Showing.{Shown, before, joined, word_before, sign_before}

-- two tokens and a part
pub two_tokens_and_part :
    {V W : Type 0} {f g : Form} {val : Parse f → V} {part : Parse g → W} {v : V} {w : W} {k : ℕ} {ts : List Text} (l1 l2 : Lexeme)
    → IsSpelled l1 → IsSpelled l2 → (C : ℕ → ℕ → Parse g → Parse f)
    → ((n1 n2 : ℕ) (d : Parse g) → tokens (C n1 n2 d) ≡ put l1 n1 ∷ put l2 n2 ∷ tokens d)
    → ((n1 n2 : ℕ) (d : Parse g) → part d ≡ w → val (C n1 n2 d) ≡ v)
    → ((n1 n2 : ℕ) (d : Parse g) → levels (C n1 n2 d) ≡ levels d) → Shown part w k ts → Shown val v k (spelling l1 ∷ spelling l2 ∷ ts)
two_tokens_and_part l1 l2 s1 s2 C toks mean same s = record {
  written = before l1 s1 (before l2 s2 s.written);
  stands = λ n1.
      let n2 = behind n1 l1 in
      let d = s.stands (behind n2 l2) in
      record {
        parse = C n1 n2 d.parse;
        tokens_are = toks n1 n2 d.parse ∙ ap (λ x. put l1 n1 ∷ put l2 n2 ∷ x) d.tokens_are;
        means = mean n1 n2 d.parse d.means;
        within = (let w = d.within in let e = same n1 n2 d.parse in omega (arith, w, e));
      };
}

-- three tokens and a part
pub three_tokens_and_part :
    {V W : Type 0} {f g : Form} {val : Parse f → V} {part : Parse g → W} {v : V} {w : W} {k : ℕ} {ts : List Text} (l1 l2 l3 : Lexeme)
    → IsSpelled l1 → IsSpelled l2 → IsSpelled l3 → (C : ℕ → ℕ → ℕ → Parse g → Parse f)
    → ((n1 n2 n3 : ℕ) (d : Parse g) → tokens (C n1 n2 n3 d) ≡ put l1 n1 ∷ put l2 n2 ∷ put l3 n3 ∷ tokens d)
    → ((n1 n2 n3 : ℕ) (d : Parse g) → part d ≡ w → val (C n1 n2 n3 d) ≡ v)
    → ((n1 n2 n3 : ℕ) (d : Parse g) → levels (C n1 n2 n3 d) ≡ levels d) → Shown part w k ts
    → Shown val v k (spelling l1 ∷ spelling l2 ∷ spelling l3 ∷ ts)
three_tokens_and_part l1 l2 l3 s1 s2 s3 C toks mean same s = record {
  written = before l1 s1 (before l2 s2 (before l3 s3 s.written));
  stands = λ n1.
      let n2 = behind n1 l1 in
      let n3 = behind n2 l2 in
      let d = s.stands (behind n3 l3) in
      record {
        parse = C n1 n2 n3 d.parse;
        tokens_are = toks n1 n2 n3 d.parse ∙ ap (λ x. put l1 n1 ∷ put l2 n2 ∷ put l3 n3 ∷ x) d.tokens_are;
        means = mean n1 n2 n3 d.parse d.means;
        within = (let w = d.within in let e = same n1 n2 n3 d.parse in omega (arith, w, e));
      };
}

-- two tokens, a part, a token and a part
pub two_tokens_and_two_parts :
    {U V W : Type 0} {f g h : Form} {val : Parse f → V} {left : Parse g → U} {right : Parse h → W} {v : V} {u : U} {w : W} {j k : ℕ}
    {ts us : List Text}
    (l1 l2 m : Lexeme) → IsSpelled l1 → IsSpelled l2 → IsSpelled m → (C : ℕ → ℕ → Parse g → ℕ → Parse h → Parse f)
    → ((n1 n2 : ℕ) (a : Parse g) (o : ℕ) (b : Parse h) → tokens (C n1 n2 a o b) ≡ put l1 n1 ∷ put l2 n2 ∷ tokens a ++ put m o ∷ tokens b)
    → ((n1 n2 : ℕ) (a : Parse g) (o : ℕ) (b : Parse h) → left a ≡ u → right b ≡ w → val (C n1 n2 a o b) ≡ v)
    → ((n1 n2 : ℕ) (a : Parse g) (o : ℕ) (b : Parse h) → levels (C n1 n2 a o b) ≡ suc (max (levels a) (levels b)))
    → Shown left u j ts → Shown right w k us → Shown val v (suc (max j k)) (spelling l1 ∷ spelling l2 ∷ ts ++ spelling m ∷ us)
two_tokens_and_two_parts l1 l2 m s1 s2 sm C toks mean same a b = record {
  written = before l1 s1 (before l2 s2 (joined a.written (before m sm b.written)));
  stands = λ n1.
      let n2 = behind n1 l1 in
      let n3 = behind n2 l2 in
      let x = a.stands n3 in
      let o = behind_all n3 a.written.toks in
      let y = b.stands (behind o m) in
      record {
        parse = C n1 n2 x.parse o y.parse;
        tokens_are = toks n1 n2 x.parse o y.parse ∙ ap (λ t. put l1 n1 ∷ put l2 n2 ∷ t)
            (joined_placed n3 a.written.toks (m ∷ b.written.toks) (tokens x.parse) (put m o ∷ tokens y.parse) x.tokens_are
            (ap (λ t. put m o ∷ t) y.tokens_are));
        means = mean n1 n2 x.parse o y.parse x.means y.means;
        within = (let w = x.within in let z = y.within in let e = same n1 n2 x.parse o y.parse in omega (arith, w, z, e));
      };
}

-- two parts with three tokens between them
pub three_tokens_between :
    {U V W : Type 0} {f g h : Form} {val : Parse f → V} {left : Parse g → U} {right : Parse h → W} {v : V} {u : U} {w : W} {j k : ℕ}
    {ts us : List Text}
    (l1 l2 l3 : Lexeme) → IsSpelled l1 → IsSpelled l2 → IsSpelled l3 → (C : Parse g → ℕ → ℕ → ℕ → Parse h → Parse f)
    → ((a : Parse g) (n1 n2 n3 : ℕ) (b : Parse h) → tokens (C a n1 n2 n3 b) ≡ tokens a ++ put l1 n1 ∷ put l2 n2 ∷ put l3 n3 ∷ tokens b)
    → ((a : Parse g) (n1 n2 n3 : ℕ) (b : Parse h) → left a ≡ u → right b ≡ w → val (C a n1 n2 n3 b) ≡ v)
    → ((a : Parse g) (n1 n2 n3 : ℕ) (b : Parse h) → levels (C a n1 n2 n3 b) ≡ suc (max (levels a) (levels b)))
    → Shown left u j ts → Shown right w k us → Shown val v (suc (max j k)) (ts ++ spelling l1 ∷ spelling l2 ∷ spelling l3 ∷ us)
three_tokens_between l1 l2 l3 s1 s2 s3 C toks mean same a b = record {
  written = joined a.written (before l1 s1 (before l2 s2 (before l3 s3 b.written)));
  stands = λ n.
      let x = a.stands n in
      let n1 = behind_all n a.written.toks in
      let n2 = behind n1 l1 in
      let n3 = behind n2 l2 in
      let y = b.stands (behind n3 l3) in
      record {
        parse = C x.parse n1 n2 n3 y.parse;
        tokens_are = toks x.parse n1 n2 n3 y.parse
            ∙ joined_placed n a.written.toks (l1 ∷ l2 ∷ l3 ∷ b.written.toks) (tokens x.parse)
            (put l1 n1 ∷ put l2 n2 ∷ put l3 n3 ∷ tokens y.parse) x.tokens_are
            (ap (λ t. put l1 n1 ∷ put l2 n2 ∷ put l3 n3 ∷ t) y.tokens_are);
        means = mean x.parse n1 n2 n3 y.parse x.means y.means;
        within = (let w = x.within in let z = y.within in let e = same x.parse n1 n2 n3 y.parse in omega (arith, w, z, e));
      };
}

-- two tokens, a part, a token, a part, a token and a part
pub two_tokens_and_three_parts :
    {T U V W : Type 0} {f g h i : Form} {val : Parse f → V} {first : Parse g → T} {second : Parse h → U} {third : Parse i → W} {v : V}
    {t : T} {u : U} {w : W} {j k q : ℕ} {ts us vs : List Text}
    (l1 l2 m r : Lexeme) → IsSpelled l1 → IsSpelled l2 → IsSpelled m → IsSpelled r
    → (C : ℕ → ℕ → Parse g → ℕ → Parse h → ℕ → Parse i → Parse f)
    → ((n1 n2 : ℕ) (a : Parse g) (o : ℕ) (b : Parse h) (p : ℕ) (c : Parse i)
    → tokens (C n1 n2 a o b p c) ≡ put l1 n1 ∷ put l2 n2 ∷ tokens a ++ put m o ∷ tokens b ++ put r p ∷ tokens c)
    → ((n1 n2 : ℕ) (a : Parse g) (o : ℕ) (b : Parse h) (p : ℕ) (c : Parse i) → first a ≡ t → second b ≡ u → third c ≡ w
    → val (C n1 n2 a o b p c) ≡ v)
    → ((n1 n2 : ℕ) (a : Parse g) (o : ℕ) (b : Parse h) (p : ℕ) (c : Parse i)
    → levels (C n1 n2 a o b p c) ≡ max (levels a) (max (levels b) (levels c)))
    → Shown first t j ts → Shown second u k us → Shown third w q vs
    → Shown val v (max j (max k q)) (spelling l1 ∷ spelling l2 ∷ ts ++ spelling m ∷ us ++ spelling r ∷ vs)
two_tokens_and_three_parts l1 l2 m r s1 s2 sm sr C toks mean same a b c = record {
  written = before l1 s1 (before l2 s2 (joined (joined a.written (before m sm b.written)) (before r sr c.written)));
  stands = λ n1.
      let n2 = behind n1 l1 in
      let n3 = behind n2 l2 in
      let x = a.stands n3 in
      let o = behind_all n3 a.written.toks in
      let y = b.stands (behind o m) in
      let inner = a.written.toks ++ m ∷ b.written.toks in
      let p = behind_all n3 inner in
      let z = c.stands (behind p r) in
      record {
        parse = C n1 n2 x.parse o y.parse p z.parse;
        tokens_are = toks n1 n2 x.parse o y.parse p z.parse ∙ ap (λ t. put l1 n1 ∷ put l2 n2 ∷ t)
            (joined_placed n3 inner (r ∷ c.written.toks) (tokens x.parse ++ put m o ∷ tokens y.parse) (put r p ∷ tokens z.parse)
            (joined_placed n3 a.written.toks (m ∷ b.written.toks) (tokens x.parse) (put m o ∷ tokens y.parse) x.tokens_are
            (ap (λ t. put m o ∷ t) y.tokens_are))
            (ap (λ t. put r p ∷ t) z.tokens_are));
        means = mean n1 n2 x.parse o y.parse p z.parse x.means y.means z.means;
        within = (let w1 = x.within in let w2 = y.within in let w3 = z.within in let e = same n1 n2 x.parse o y.parse p z.parse in
            omega (arith, w1, w2, w3, e));
      };
}

-- `case`, its list, and the parts for an empty list and for another
pub case_of_three_parts :
    {T U V W : Type 0} {f g h i : Form} {val : Parse f → V} {first : Parse g → T} {second : Parse h → U} {third : Parse i → W} {v : V}
    {t : T} {u : U} {w : W} {j k q : ℕ} {ts us vs : List Text}
    (x y : Text) → IsSpelled (name x 0) → IsSpelled (name y 0)
    → (C : ℕ → Parse g → ℕ → ℕ → ℕ → ℕ → Parse h → ℕ → ℕ → ℕ → ℕ → ℕ → Parse i → Parse f)
    → ((n : ℕ) (a : Parse g) (o1 o2 o3 o4 : ℕ) (b : Parse h) (p1 p2 p3 p4 p5 : ℕ) (c : Parse i)
    → tokens (C n a o1 o2 o3 o4 b p1 p2 p3 p4 p5 c) ≡
    keyword words.Case n ∷ tokens a ++ keyword words.Of o1 ∷ symbol signs.OpenBracket o2 ∷ symbol signs.CloseBracket o3
    ∷ symbol signs.Arrow o4
    ∷ tokens b
    ++ symbol signs.Bar p1 ∷ name x p2 ∷ symbol signs.Cons p3 ∷ name y p4 ∷ symbol signs.Arrow p5 ∷ tokens c)
    → ((n : ℕ) (a : Parse g) (o1 o2 o3 o4 : ℕ) (b : Parse h) (p1 p2 p3 p4 p5 : ℕ) (c : Parse i) → first a ≡ t → second b ≡ u → third c ≡ w
    → val (C n a o1 o2 o3 o4 b p1 p2 p3 p4 p5 c) ≡ v)
    → ((n : ℕ) (a : Parse g) (o1 o2 o3 o4 : ℕ) (b : Parse h) (p1 p2 p3 p4 p5 : ℕ) (c : Parse i)
    → levels (C n a o1 o2 o3 o4 b p1 p2 p3 p4 p5 c) ≡ suc (max (levels a) (max (levels b) (levels c))))
    → Shown first t j ts → Shown second u k us → Shown third w q vs
    → Shown val v (suc (max j (max k q)))
    (spelling (keyword words.Case 0) ∷ ts ++ spelling (keyword words.Of 0) ∷ spelling (symbol signs.OpenBracket 0)
    ∷ spelling (symbol signs.CloseBracket 0) ∷ spelling (symbol signs.Arrow 0) ∷ us
    ++ spelling (symbol signs.Bar 0) ∷ x ∷ spelling (symbol signs.Cons 0) ∷ y ∷ spelling (symbol signs.Arrow 0) ∷ vs)
case_of_three_parts x y sx sy C toks mean same a b c = record {
  written = word_before words.Case
      (joined (joined a.written
      (word_before words.Of (sign_before signs.OpenBracket (sign_before signs.CloseBracket (sign_before signs.Arrow b.written)))))
      (sign_before signs.Bar (before (name x 0) sx (sign_before signs.Cons (before (name y 0) sy (sign_before signs.Arrow c.written))))));
  stands = λ n.
      let n1 = behind n (keyword words.Case 0) in
      let d = a.stands n1 in
      let o1 = behind_all n1 a.written.toks in
      let o2 = behind o1 (keyword words.Of 0) in
      let o3 = behind o2 (symbol signs.OpenBracket 0) in
      let o4 = behind o3 (symbol signs.CloseBracket 0) in
      let e = b.stands (behind o4 (symbol signs.Arrow 0)) in
      let middle = keyword words.Of 0 ∷ symbol signs.OpenBracket 0 ∷ symbol signs.CloseBracket 0 ∷ symbol signs.Arrow 0 ∷ b.written.toks in
      let inner = a.written.toks ++ middle in
      let p1 = behind_all n1 inner in
      let p2 = behind p1 (symbol signs.Bar 0) in
      let p3 = behind p2 (name x 0) in
      let p4 = behind p3 (symbol signs.Cons 0) in
      let p5 = behind p4 (name y 0) in
      let z = c.stands (behind p5 (symbol signs.Arrow 0)) in
      let head = λ (l : List Lexeme). keyword words.Of o1 ∷ symbol signs.OpenBracket o2 ∷ symbol signs.CloseBracket o3
      ∷ symbol signs.Arrow o4 ∷ l in
      let tail = λ (l : List Lexeme). symbol signs.Bar p1 ∷ name x p2 ∷ symbol signs.Cons p3 ∷ name y p4 ∷ symbol signs.Arrow p5 ∷ l in
      record {
        parse = C n d.parse o1 o2 o3 o4 e.parse p1 p2 p3 p4 p5 z.parse;
        tokens_are = toks n d.parse o1 o2 o3 o4 e.parse p1 p2 p3 p4 p5 z.parse ∙ ap (λ l. keyword words.Case n ∷ l)
            (joined_placed n1 inner (symbol signs.Bar 0 ∷ name x 0 ∷ symbol signs.Cons 0 ∷ name y 0 ∷ symbol signs.Arrow 0 ∷ c.written.toks)
            (tokens d.parse ++ head (tokens e.parse)) (tail (tokens z.parse))
            (joined_placed n1 a.written.toks middle (tokens d.parse) (head (tokens e.parse)) d.tokens_are (ap head e.tokens_are))
            (ap tail z.tokens_are));
        means = mean n d.parse o1 o2 o3 o4 e.parse p1 p2 p3 p4 p5 z.parse d.means e.means z.means;
        within = (let w1 = d.within in let w2 = e.within in let w3 = z.within in
            let s = same n d.parse o1 o2 o3 o4 e.parse p1 p2 p3 p4 p5 z.parse in omega (arith, w1, w2, w3, s));
      };
}
