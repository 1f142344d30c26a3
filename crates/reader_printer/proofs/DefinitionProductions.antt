-- Parameters and definitions, as they are printed from their parts.
use Rattle.std.proofs.Common.{◌≡◌, ℕ, ◌+◌, max, List, [], ◌∷◌, ◌++◌, map, refl, sym, ap, ◌∙◌, subst, arith, append_assoc}
use Rattle.std.specs.Prelude.{codes}
use Rattle.task_model.specs.Terms.Text.{Text}
use Rattle.task_model.specs.Terms.Basic.{BasicTerm}
use Rattle.task_model.specs.Terms.Host.{HostTerm}
use Rattle.task_model.specs.Terms.Task.{BodyTerm}
use Rattle.task_model.specs.Terms.Program.{ParamTerm, plain_kind, ref_kind, DefTerm, DefBodyTerm, fun_body, task_body}
use Rattle.task_model.specs.declared.keyword.Keyword.TheVariants as words
use Rattle.task_model.specs.declared.symbol.Symbol.TheVariants as signs
use Rattle.task_model.specs.Syntax.Lexemes.{keyword, symbol, name}
use Rattle.task_model.specs.Syntax.Grammar as grammar
use Rattle.task_model.specs.Syntax.Grammar.{Parse, tokens, levels}
use Rattle.task_model.specs.Syntax.Meaning.{meaning, bodies, bodies_of}
use Rattle.task_model.specs.Syntax.Printed.{BodyText, basic_tokens, parameter_tokens, parameters_tokens, definition_body, definition_tokens}
use Rattle.reader_printer.proofs.Placing.{IsSpelled}
use Rattle.reader_printer.proofs.Showing.{Shown, looser, two_tokens, part_alone, token_between, tokens_around, word_spelled, sign_spelled}
use Rattle.reader_printer.proofs.LongShowing.{two_tokens_and_part, three_tokens_and_part, two_tokens_and_three_parts}
use Rattle.reader_printer.proofs.ExpressionPlaces.{Own, at_place}
use Rattle.reader_printer.proofs.ExpressionProductions.{ShownType}
use Rattle.reader_printer.proofs.TaskPlaces.{TaskMeaning, OwnTask, task_place}

-- ---- parameters
abbrev pub parameter_of : Parse grammar.parameter → ParamTerm
parameter_of d = meaning d

abbrev pub ShownParameter : ParamTerm → ℕ → Type 0
ShownParameter q k = Shown parameter_of q k (parameter_tokens q)

pub value_shown : (x : Text) (b : BasicTerm) (k : ℕ) → IsSpelled (name x 0) → ShownType b k
    → ShownParameter (record { name = x; kind = plain_kind b }) k
value_shown x b k s t =
    two_tokens_and_part (name x 0) (symbol signs.Colon 0) s (sign_spelled signs.Colon 0) (λ n m d. grammar.value_named x n m d)
    (λ n m d. refl)
    (λ n m d e. ap {A = BasicTerm} {B = ParamTerm} (λ z. record { name = x; kind = plain_kind z }) e) (λ n m d. refl) t

pub reference_shown : (x : Text) (b : BasicTerm) (k : ℕ) → IsSpelled (name x 0) → ShownType b k
    → ShownParameter (record { name = x; kind = ref_kind b }) k
reference_shown x b k s t =
    three_tokens_and_part (name x 0) (symbol signs.Colon 0) (keyword words.Ref 0) s (sign_spelled signs.Colon 0) (word_spelled words.Ref 0)
    (λ n m r d. grammar.reference_named x n m r d) (λ n m r d. refl)
    (λ n m r d e. ap {A = BasicTerm} {B = ParamTerm} (λ z. record { name = x; kind = ref_kind z }) e) (λ n m r d. refl) t

abbrev pub parameters_of : Parse (grammar.series (grammar.list grammar.parameters)) → List ParamTerm
parameters_of d = meaning d

abbrev pub enclosed_of : Parse (grammar.enclosed grammar.parameters) → List ParamTerm
enclosed_of d = meaning d

abbrev pub ShownParameters : List ParamTerm → ℕ → Type 0
ShownParameters qs k = Shown parameters_of qs k (parameters_tokens qs)

abbrev pub ShownEnclosed : List ParamTerm → ℕ → Type 0
ShownEnclosed qs k = Shown enclosed_of qs k (codes "(" ∷ parameters_tokens qs ++ codes ")" ∷ [])

parameters_more : (q : ParamTerm) (qs : List ParamTerm) (r : ParamTerm)
    → parameters_tokens ((q ∷ qs) ++ r ∷ []) ≡ parameters_tokens (q ∷ qs) ++ codes "," ∷ parameter_tokens r
parameters_more q [] r = refl
parameters_more q (p ∷ qs) r = ap (λ l. parameter_tokens q ++ codes "," ∷ l) (parameters_more p qs r)
    ∙ sym (append_assoc (parameter_tokens q) (codes "," ∷ parameters_tokens (p ∷ qs)) (codes "," ∷ parameter_tokens r))

pub one_parameter : (q : ParamTerm) (k : ℕ) → ShownParameter q k → ShownParameters (q ∷ []) k
one_parameter q k s = part_alone (λ d. grammar.single (grammar.list grammar.parameters) d) (λ d. refl) (λ d e. ap (λ x. x ∷ []) e)
    (λ d. refl) s

pub more_parameters : (q : ParamTerm) (qs : List ParamTerm) (r : ParamTerm) (j k : ℕ) → ShownParameters (q ∷ qs) j → ShownParameter r k
    → ShownParameters ((q ∷ qs) ++ r ∷ []) (0 + max j k)
more_parameters q qs r j k s t =
    subst (λ ts. Shown parameters_of ((q ∷ qs) ++ r ∷ []) (0 + max j k) ts) (sym (parameters_more q qs r))
    (token_between 0 (symbol signs.Comma 0) (sign_spelled signs.Comma 0)
    (λ a n b. grammar.joined (grammar.list grammar.parameters) a (grammar.comma grammar.parameters) n b) (λ a n b. refl)
    (λ a n b e f. ap (λ x. x ++ meaning b ∷ []) e ∙ ap (λ x. (q ∷ qs) ++ x ∷ []) f) (λ a n b. refl) s t)

pub no_parameters : ShownEnclosed [] 0
no_parameters = two_tokens 0 (symbol signs.Open 0) (symbol signs.Close 0) (sign_spelled signs.Open 0) (sign_spelled signs.Close 0)
    (λ n m. grammar.empty grammar.parameters n m) (λ n m. refl) (λ n m. refl) (λ n m. omega arith)

pub some_parameters : (qs : List ParamTerm) (k : ℕ) → ShownParameters qs k → ShownEnclosed qs k
some_parameters qs k s =
    looser (omega arith) (tokens_around 0 (symbol signs.Open 0) (symbol signs.Close 0) (sign_spelled signs.Open 0)
    (sign_spelled signs.Close 0)
    (λ n d m. grammar.full grammar.parameters n d m) (λ n d m. refl) (λ n d m e. e) (λ n d m. omega arith) s)

-- ---- definitions
-- a definition, how many bodies it has, and those bodies
abbrev pub DefinitionMeaning : Type 0
DefinitionMeaning = DefTerm × ℕ × List BodyTerm

abbrev pub definition_in : ℕ → Parse grammar.definition → DefinitionMeaning
definition_in next d = (meaning d next, bodies d, bodies_of d [] next)

abbrev make : Text → List ParamTerm → BasicTerm → DefBodyTerm → DefTerm
make x qs b what = record { name = x; params = qs; result = b; what = what }

abbrev pub names_of : List ParamTerm → List Text
names_of qs = map (λ q. q.name) qs

head_texts : (w x : Text) (ps bs body : List Text)
    → (w ∷ x ∷ (codes "(" ∷ ps ++ codes ")" ∷ []) ++ codes ":" ∷ bs) ++ codes "=" ∷ body ≡ w ∷ x ∷ codes "(" ∷ ps ++ codes ")" ∷ codes ":"
    ∷ bs ++ codes "=" ∷ body
head_texts w x ps bs body = ap (λ l. (w ∷ x ∷ l) ++ codes "=" ∷ body) (append_assoc (codes "(" ∷ ps) (codes ")" ∷ []) (codes ":" ∷ bs))

pub function_shown : (x : Text) (qs : List ParamTerm) (b : BasicTerm) (e : HostTerm) (next : ℕ) (bs : List BodyText) (i j k : ℕ)
    → IsSpelled (name x 0) → ShownEnclosed qs i → ShownType b j → Own 8 e k
    → Shown (definition_in next) (make x qs b (fun_body e), 0, []) (max i (max j k)) (definition_tokens bs (make x qs b (fun_body e)))
function_shown x qs b e next bs i j k s p t o =
    let whole = let z : DefinitionMeaning = (make x qs b (fun_body e), 0, []) in z in
    subst (λ ts. Shown (definition_in next) whole (max i (max j k)) ts)
    (head_texts (codes "fun") x (parameters_tokens qs) (basic_tokens b) (definition_body bs (fun_body e)))
    (two_tokens_and_three_parts (keyword words.Fun 0) (name x 0) (symbol signs.Colon 0) (symbol signs.Define 0) (word_spelled words.Fun 0) s
    (sign_spelled signs.Colon 0) (sign_spelled signs.Define 0)
    (λ n m a r c q d. grammar.function n x m a r c q d) (λ n m a r c q d. refl)
    (λ n m a r c q d f g h.
    ap {A = List ParamTerm} {B = DefinitionMeaning} (λ z. (make x z (meaning c) (fun_body (meaning d)), 0, [])) f
    ∙ ap {A = BasicTerm} {B = DefinitionMeaning} (λ z. (make x qs z (fun_body (meaning d)), 0, [])) g
    ∙ ap {A = HostTerm} {B = DefinitionMeaning} (λ z. (make x qs b (fun_body z), 0, [])) h)
    (λ n m a r c q d. refl) p t (at_place 8 e (omega arith) o))

pub task_shown : (x : Text) (qs : List ParamTerm) (b : BasicTerm) (v : TaskMeaning) (next : ℕ) (bs : List BodyText) (i j k : ℕ)
    → IsSpelled (name x 0) → ShownEnclosed qs i → ShownType b j
    → OwnTask 3 (names_of qs) next 0 bs v k → Shown (definition_in next) (make x qs b (task_body v.0), v.1, v.2) (max i (max j k))
    (definition_tokens bs (make x qs b (task_body v.0)))
task_shown x qs b v next bs i j k s p t o =
    let whole = let z : DefinitionMeaning = (make x qs b (task_body v.0), v.1, v.2) in z in
    subst (λ ts. Shown (definition_in next) whole (max i (max j k)) ts)
    (head_texts (codes "task") x (parameters_tokens qs) (basic_tokens b) (definition_body bs (task_body v.0)))
    (two_tokens_and_three_parts (keyword words.Task 0) (name x 0) (symbol signs.Colon 0) (symbol signs.Define 0)
    (word_spelled words.Task 0) s
    (sign_spelled signs.Colon 0) (sign_spelled signs.Define 0)
    (λ n m a r c q d. grammar.task_named n x m a r c q d) (λ n m a r c q d. refl)
    (λ n m a r c q d f g h.
    ap {A = List ParamTerm} {B = DefinitionMeaning}
    (λ z. (make x z (meaning c) (task_body (meaning d next)), bodies d, bodies_of d (names_of z) next)) f
    ∙ ap {A = BasicTerm} {B = DefinitionMeaning} (λ z. (make x qs z (task_body (meaning d next)), bodies d, bodies_of d (names_of qs) next))
    g
    ∙ ap {A = TaskMeaning} {B = DefinitionMeaning} (λ z. (make x qs b (task_body z.0), z.1, z.2)) h)
    (λ n m a r c q d. refl) p t (task_place 3 (names_of qs) next 0 bs v o))
