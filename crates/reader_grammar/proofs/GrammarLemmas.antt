-- What holds of each parse: its levels, and its first token.
use Rattle.std.proofs.Common.{◌≡◌, ℕ, zero, suc, ◌≤◌, Bool, true, false, List, [], ◌∷◌, ◌++◌, refl, sym, ap, ◌∙◌, subst, arith}
use Rattle.std.specs.Prelude.{◌||◌}
use Rattle.task_model.specs.Terms.Text.{Text}
use Rattle.task_model.specs.declared.keyword.Keyword.{Keyword}
use Rattle.task_model.specs.declared.keyword.Keyword.TheVariants as words
use Rattle.task_model.specs.declared.symbol.Symbol.{Symbol}
use Rattle.task_model.specs.declared.symbol.Symbol.TheVariants as signs
use Rattle.exact_reading.specs.Reading.{SharesPrefix}
use Rattle.task_model.specs.Syntax.Lexemes.{Lexeme, keyword, symbol, name, number, quoted_text}
use Rattle.task_model.specs.Syntax.Grammar.{parameters, arguments, Series, list, choice, chain, either, both, sum, product, Form, program, definition, parameter, basic, task, task_atom, expression, comparison, listed, operand, atom, series, enclosed, Prefix, negative, not, fst, snd, len, Scalar, unit, bool, int, text, Parse, no_definitions, more_definitions, function, task_named, value_named, reference_named, scalar_type, pair_type, list_type, task_let, task_if, task_case, task_new, task_put, task_plain, task_then, task_next, task_edit, task_enter, task_share, task_fail, task_call, task_group, let_in, if_then, case_of, plain, uncompared, compared, unlisted, cons, prefixed, unprefixed, digits, quoted, constant, nothing, named, content, call, group, pair, elements, nil, single, joined, empty, full, prefix, scalar, truth, part_of, tokens, levels}
use Rattle.reader_grammar.specs.Languages.{Of, EndsForm, stops_at, rank, reach}
use Rattle.exact_reading.proofs.Symbols.{Forms}

-- ---- least texts
abbrev pub least : Form → ℕ
least program = 0
least (enclosed l) = 0
least f = 1

abbrev pub smallest : (f : Form) → Parse f
smallest program = no_definitions
smallest definition = function 0 [] 0 (empty parameters 0 0) 0 (scalar_type unit 0) 0
    (plain (single either (single both (uncompared (unlisted (single sum (single product (unprefixed (nothing 0 0)))))))))
smallest parameter = value_named [] 0 0 (scalar_type unit 0)
smallest basic = scalar_type unit 0
smallest task = task_plain (single choice (single chain (task_share 0 [] 0)))
smallest task_atom = task_share 0 [] 0
smallest expression = plain (single either (single both (uncompared (unlisted (single sum (single product (unprefixed (nothing 0 0))))))))
smallest comparison = uncompared (unlisted (single sum (single product (unprefixed (nothing 0 0)))))
smallest listed = unlisted (single sum (single product (unprefixed (nothing 0 0))))
smallest operand = unprefixed (nothing 0 0)
smallest atom = nothing 0 0
smallest (series (list parameters)) = single (list parameters) (value_named [] 0 0 (scalar_type unit 0))
smallest (series (list arguments)) = single (list arguments)
    (plain (single either (single both (uncompared (unlisted (single sum (single product (unprefixed (nothing 0 0)))))))))
smallest (series choice) = single choice (single chain (task_share 0 [] 0))
smallest (series chain) = single chain (task_share 0 [] 0)
smallest (series either) = single either (single both (uncompared (unlisted (single sum (single product (unprefixed (nothing 0 0)))))))
smallest (series both) = single both (uncompared (unlisted (single sum (single product (unprefixed (nothing 0 0))))))
smallest (series sum) = single sum (single product (unprefixed (nothing 0 0)))
smallest (series product) = single product (unprefixed (nothing 0 0))
smallest (enclosed l) = empty l 0 0

pub smallest_least : (f : Form) → levels (smallest f) ≤ least f
smallest_least (series (list parameters)) = omega arith
smallest_least (series (list arguments)) = omega arith
smallest_least (series choice) = omega arith
smallest_least (series chain) = omega arith
smallest_least (series either) = omega arith
smallest_least (series both) = omega arith
smallest_least (series sum) = omega arith
smallest_least (series product) = omega arith
smallest_least f = omega arith

part_one : (s : Series) → least (part_of s) ≡ 1
part_one (list parameters) = refl
part_one (list arguments) = refl
part_one choice = refl
part_one chain = refl
part_one either = refl
part_one both = refl
part_one sum = refl
part_one product = refl

pub least_levels : {f : Form} (d : Parse f) → least f ≤ levels d
least_levels (function p x q ps r b s e) = let h = least_levels e in omega (arith, h)
least_levels (task_named p x q ps r b s t) = let h = least_levels t in omega (arith, h)
least_levels (value_named x p q b) = least_levels b
least_levels (reference_named x p q r b) = least_levels b
least_levels (task_plain t) = least_levels t
least_levels (plain e) = least_levels e
least_levels (uncompared a) = least_levels a
least_levels (unlisted a) = least_levels a
least_levels (unprefixed a) = least_levels a
least_levels (single s a) = let h = least_levels a in let e = part_one s in omega (arith, h, e)
least_levels (joined s a o p b) = let h = least_levels a in omega (arith, h)
least_levels d = omega arith

-- ---- the first token
-- a form that isn't empty
abbrev pub Some : Form → Type 0
Some program = ⊥
Some f = Unit {0}

part_some : (s : Series) → Some (part_of s)
part_some (list parameters) = tt
part_some (list arguments) = tt
part_some choice = tt
part_some chain = tt
part_some either = tt
part_some both = tt
part_some sum = tt
part_some product = tt

-- the first token, where there is one
abbrev pub head : {f : Form} → Parse f → Lexeme
head no_definitions = name [] 0
head (more_definitions ds d) = name [] 0
head (function p x q ps r b s e) = keyword words.Fun p
head (task_named p x q ps r b s t) = keyword words.Task p
head (value_named x p q b) = name x p
head (reference_named x p q r b) = name x p
head (scalar_type b p) = keyword (scalar b) p
head (pair_type p a q b r) = symbol signs.Open p
head (list_type p a q) = symbol signs.OpenBracket p
head (task_let p x q r e s t) = keyword words.Let p
head (task_if p e q t r u) = keyword words.If p
head (task_case p e q r s a t b x i j y k c u) = keyword words.Case p
head (task_new p x q r e s t) = keyword words.New p
head (task_put x p q e r t) = name x p
head (task_plain t) = head t
head (task_then t p x q r u) = head t
head (task_next t p x q r u) = head t
head (task_edit p e) = keyword words.Edit p
head (task_enter p b) = keyword words.Enter p
head (task_share p x q) = keyword words.Share p
head (task_fail p b) = keyword words.Fail p
head (task_call x p es) = name x p
head (task_group p t q) = symbol signs.Open p
head (let_in p x q r e s d) = keyword words.Let p
head (if_then p e q a r b) = keyword words.If p
head (case_of p e q r s a d b x i j y k c u) = keyword words.Case p
head (plain e) = head e
head (uncompared a) = head a
head (compared a o p b) = head a
head (unlisted a) = head a
head (cons a p b) = head a
head (prefixed o p a) = prefix o p
head (unprefixed a) = head a
head (digits t p) = number t p
head (quoted t v p) = quoted_text t v p
head (constant b p) = keyword (truth b) p
head (nothing p q) = symbol signs.Open p
head (named x p) = name x p
head (content p x q) = symbol signs.Bang p
head (call x p es) = name x p
head (group p e q) = symbol signs.Open p
head (pair p a q b r) = symbol signs.Open p
head (elements p es q) = symbol signs.OpenBracket p
head (nil p b) = keyword words.Nil p
head (single s a) = head a
head (joined s a o p b) = head a
head (empty l p q) = symbol signs.Open p
head (full l p es q) = symbol signs.Open p

abbrev Headed : {f : Form} → Parse f → Type 0
Headed d = (w : List Lexeme) × (tokens d ≡ head d ∷ w)

more_tokens : {h : Lexeme} {ts : List Lexeme} (more : List Lexeme) → (w : List Lexeme) × (ts ≡ h ∷ w)
    → (w : List Lexeme) × (ts ++ more ≡ h ∷ w)
more_tokens more (w, e) = (w ++ more, ap (λ l. l ++ more) e)

pub head_first : {f : Form} (d : Parse f) → Some f → Headed d
head_first no_definitions s = absurd s
head_first (more_definitions ds d) s = absurd s
head_first (task_plain t) s = head_first t tt
head_first (task_then t p x q r u) s = more_tokens _ (head_first t tt)
head_first (task_next t p x q r u) s = more_tokens _ (head_first t tt)
head_first (plain e) s = head_first e tt
head_first (uncompared a) s = head_first a tt
head_first (compared a o p b) s = more_tokens _ (head_first a tt)
head_first (unlisted a) s = head_first a tt
head_first (cons a p b) s = more_tokens _ (head_first a tt)
head_first (unprefixed a) s = head_first a tt
head_first (single r a) s = head_first a (part_some r)
head_first (joined r a o p b) s = more_tokens _ (head_first a tt)
head_first d s = (_, refl)

-- what begins as a parse does begins with its first token
pub begins_head : {f : Form} (d : Parse f) → Some f → (a z ts : List Lexeme) → tokens d ≡ a → SharesPrefix [] ts (a ++ z)
    → (s : List Lexeme) × (ts ≡ head d ∷ s)
begins_head d some a z [] e b =
    let (w, h) = head_first d some in let same : head d ∷ (w ++ z) ≡ [] = ap (λ l. l ++ z) (sym h ∙ e) ∙ b in ([], cc)
begins_head d some a z (t ∷ ts) e (y, b) =
    let (w, h) = head_first d some in let same : head d ∷ (w ++ z) ≡ t ∷ y = ap (λ l. l ++ z) (sym h ∙ e) ∙ b in let t_is : t ≡ head d =
    cc in (ts, ap (λ x. x ∷ ts) t_is)

-- the same, where the first token is known
pub known_head : {f : Form} (d : Parse f) → Some f → (t : Lexeme) (s a z : List Lexeme) → tokens d ≡ a → SharesPrefix [] (t ∷ s) (a ++ z)
    → head d ≡ t
known_head d some t s a z e b = let (w, h) = begins_head d some a z (t ∷ s) e b in cc

-- ---- the tokens that a form can start with
abbrev starts_basic : Lexeme → Bool
starts_basic (keyword words.Unit p) = true
starts_basic (keyword words.Bool p) = true
starts_basic (keyword words.Int p) = true
starts_basic (keyword words.Text p) = true
starts_basic (symbol signs.Open p) = true
starts_basic (symbol signs.OpenBracket p) = true
starts_basic t = false

abbrev starts_atom : Lexeme → Bool
starts_atom (number t p) = true
starts_atom (quoted_text t v p) = true
starts_atom (name x p) = true
starts_atom (keyword words.True p) = true
starts_atom (keyword words.False p) = true
starts_atom (keyword words.Nil p) = true
starts_atom (symbol signs.Open p) = true
starts_atom (symbol signs.Bang p) = true
starts_atom (symbol signs.OpenBracket p) = true
starts_atom t = false

abbrev starts_prefixed : Lexeme → Bool
starts_prefixed (symbol signs.Minus p) = true
starts_prefixed (keyword words.Not p) = true
starts_prefixed (keyword words.Fst p) = true
starts_prefixed (keyword words.Snd p) = true
starts_prefixed (keyword words.Len p) = true
starts_prefixed t = false

abbrev starts_operand : Lexeme → Bool
starts_operand t = starts_prefixed t || starts_atom t

abbrev starts_bound : Lexeme → Bool
starts_bound (keyword words.Let p) = true
starts_bound (keyword words.If p) = true
starts_bound (keyword words.Case p) = true
starts_bound t = false

abbrev starts_task_atom : Lexeme → Bool
starts_task_atom (keyword words.Edit p) = true
starts_task_atom (keyword words.Enter p) = true
starts_task_atom (keyword words.Share p) = true
starts_task_atom (keyword words.Fail p) = true
starts_task_atom (name x p) = true
starts_task_atom (symbol signs.Open p) = true
starts_task_atom t = false

abbrev starts_framed : Lexeme → Bool
starts_framed (keyword words.New p) = true
starts_framed t = starts_bound t

abbrev is_name : Lexeme → Bool
is_name (name x p) = true
is_name t = false

abbrev is_definition : Lexeme → Bool
is_definition (keyword words.Fun p) = true
is_definition (keyword words.Task p) = true
is_definition t = false

abbrev is_open : Lexeme → Bool
is_open (symbol signs.Open p) = true
is_open t = false

abbrev pub starts : Form → Lexeme → Bool
starts program t = true
starts definition t = is_definition t
starts parameter t = is_name t
starts basic t = starts_basic t
starts task t = starts_framed t || starts_task_atom t
starts task_atom t = starts_task_atom t
starts expression t = starts_bound t || starts_operand t
starts comparison t = starts_operand t
starts listed t = starts_operand t
starts operand t = starts_operand t
starts atom t = starts_atom t
starts (series (list parameters)) t = is_name t
starts (series (list arguments)) t = starts_bound t || starts_operand t
starts (series choice) t = starts_task_atom t
starts (series chain) t = starts_task_atom t
starts (series either) t = starts_operand t
starts (series both) t = starts_operand t
starts (series sum) t = starts_operand t
starts (series product) t = starts_operand t
starts (enclosed l) t = is_open t

part_starts : (s : Series) (t : Lexeme) → starts (part_of s) t ≡ starts (series s) t
part_starts (list parameters) t = refl
part_starts (list arguments) t = refl
part_starts choice t = refl
part_starts chain t = refl
part_starts either t = refl
part_starts both t = refl
part_starts sum t = refl
part_starts product t = refl

or_right : (a b : Bool) → b ≡ true → (a || b) ≡ true
or_right true b h = refl
or_right false b h = h

start_of_prefix : (o : Prefix) (p : ℕ) → starts_operand (prefix o p) ≡ true
start_of_prefix negative p = refl
start_of_prefix not p = refl
start_of_prefix fst p = refl
start_of_prefix snd p = refl
start_of_prefix len p = refl

start_of_scalar : (b : Scalar) (p : ℕ) → starts_basic (keyword (scalar b) p) ≡ true
start_of_scalar unit p = refl
start_of_scalar bool p = refl
start_of_scalar int p = refl
start_of_scalar text p = refl

start_of_truth : (b : Bool) (p : ℕ) → starts_atom (keyword (truth b) p) ≡ true
start_of_truth true p = refl
start_of_truth false p = refl

pub head_starts : {f : Form} (d : Parse f) → starts f (head d) ≡ true
head_starts (scalar_type b p) = start_of_scalar b p
head_starts (task_plain t) = or_right (starts_framed (head t)) (starts_task_atom (head t)) (head_starts t)
head_starts (task_then t p x q r u) = or_right (starts_framed (head t)) (starts_task_atom (head t)) (head_starts t)
head_starts (task_next t p x q r u) = or_right (starts_framed (head t)) (starts_task_atom (head t)) (head_starts t)
head_starts (plain e) = or_right (starts_bound (head e)) (starts_operand (head e)) (head_starts e)
head_starts (uncompared a) = head_starts a
head_starts (compared a o p b) = head_starts a
head_starts (unlisted a) = head_starts a
head_starts (cons a p b) = head_starts a
head_starts (prefixed o p a) = start_of_prefix o p
head_starts (unprefixed a) = or_right (starts_prefixed (head a)) (starts_atom (head a)) (head_starts a)
head_starts (constant b p) = start_of_truth b p
head_starts (single s a) = sym (part_starts s (head a)) ∙ head_starts a
head_starts (joined s a o p b) = head_starts a
head_starts d = refl

-- nothing that a form never starts with is the first token of a parse
pub starts_not : {f : Form} (d : Parse f) (t : Lexeme) → starts f t ≡ false → head d ≡ t → ⊥
starts_not {f} d t none h = let yes' : starts f t ≡ true = subst (λ u. starts f u ≡ true) h (head_starts d) in cc

-- ---- what may follow
pub stops_less : (most fewer : ℕ) (r : ℕ) → fewer ≤ most → stops_at most r ≡ true → stops_at fewer r ≡ true
stops_less most fewer zero le h = refl
stops_less most fewer (suc n) le h = search (arith, h, le)

-- what ends a form ends one that reaches less far
pub stops_within : (f g : Form) → reach f ≤ reach g → (z : List Lexeme) → EndsForm g z → EndsForm f z
stops_within f g le [] h = tt
stops_within f g le (t ∷ z) h = stops_less (reach g) (reach f) (rank t) le h

-- ---- the grammar
pub data Class : Type 0 where
  a_word : Keyword → Class
  a_sign : Symbol → Class
  a_name : Class

abbrev pub Payload : Class → Type 0
Payload (a_word k) = ℕ
Payload (a_sign s) = ℕ
Payload a_name = Text × ℕ

abbrev pub class_token : (c : Class) → Payload c → Lexeme
class_token (a_word k) p = keyword k p
class_token (a_sign s) p = symbol s p
class_token a_name x = name x.0 x.1

abbrev pub some_payload : (c : Class) → Payload c
some_payload (a_word k) = 0
some_payload (a_sign s) = 0
some_payload a_name = ([], 0)

abbrev pub grammar : Forms Lexeme
grammar = record {
  Form = Form;
  Meaning = Parse;
  Of = Of;
  Stops = EndsForm;
  least = least;
  least_text = λ f. tokens (smallest f);
  least_value = λ f. (smallest f, levels (smallest f));
  has_least = λ f. (refl, refl);
  is_least = smallest_least;
  above = λ f ts x h. let a = least_levels x.0 in let e = h.1 in omega (arith, a, e);
  Class = Class;
  Payload = Payload;
  token = class_token;
  some = some_payload;
}
