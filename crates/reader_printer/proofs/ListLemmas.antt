-- Lists that are written item by item.
use Rattle.std.proofs.Common.{◌≡◌, ℕ, suc, ◌+◌, ◌<◌, Bool, true, false, List, [], ◌∷◌, ◌++◌, length, get_or, drop, map, refl, sym, ap, ◌∙◌, append_assoc, append-nil, add-one, drop-cons}
use Rattle.std.specs.Prelude.{codes, if◌then◌else◌}
use Rattle.task_model.specs.Terms.Text.{Text}
use Rattle.task_model.specs.Terms.Host.{HostTerm, HostTerms, no_exprs, more_exprs, as_exprs, host_term}
use Rattle.task_model.specs.declared.host.Host.{Host}
use Rattle.task_model.specs.Terms.Program.{ParamTerm, param_term, def_term}
use Rattle.task_model.specs.declared.program.Param.{Param}
use Rattle.task_model.specs.declared.program.Def.{Def}
use Rattle.reader_printer.specs.Lines.{with_tokens}
use Rattle.task_model.specs.Syntax.Printed.{expression_at, listed_tokens, parameter_tokens, parameters_tokens, BodyText, definition_tokens, definitions_text, spaced}
use Rattle.reader_printer.proofs.LineLemmas.{with_tokens_append, with_tokens_spaced}

-- ---- expressions
-- further ones, each behind a comma
abbrev commas : HostTerms → List Text
commas no_exprs = []
commas (more_exprs e es) = codes "," ∷ expression_at 8 e ++ commas es

-- what is still to be written of a list
abbrev pub rest_of : Bool → HostTerms → List Text
rest_of true es = listed_tokens es
rest_of false es = commas es

listed_commas : (e : HostTerm) (es : HostTerms) → listed_tokens (more_exprs e es) ≡ expression_at 8 e ++ commas es
listed_commas e no_exprs = sym (append-nil (expression_at 8 e))
listed_commas e (more_exprs d es) = ap (λ l. expression_at 8 e ++ codes "," ∷ l) (listed_commas d es)

-- one expression at the end
pub listed_more : (e : HostTerm) (es : List HostTerm) (d : HostTerm)
    → listed_tokens (as_exprs ((e ∷ es) ++ d ∷ [])) ≡ listed_tokens (as_exprs (e ∷ es)) ++ codes "," ∷ expression_at 8 d
listed_more e [] d = refl
listed_more e (f ∷ es) d = ap (λ l. expression_at 8 e ++ codes "," ∷ l) (listed_more f es d)
    ∙ sym (append_assoc (expression_at 8 e) (codes "," ∷ listed_tokens (as_exprs (f ∷ es))) (codes "," ∷ expression_at 8 d))

-- one item more
pub rest_more : (first : Bool) (text : Text) (e : HostTerm) (es : HostTerms) →
    with_tokens text (rest_of first (more_exprs e es)) ≡ with_tokens
    (with_tokens (with_tokens text (if first then [] else codes "," ∷ [])) (expression_at 8 e)) (rest_of false es)
rest_more true text e es = ap (with_tokens text) (listed_commas e es) ∙ with_tokens_append text (expression_at 8 e) (commas es)
rest_more false text e es = with_tokens_append text (codes "," ∷ expression_at 8 e) (commas es)

-- no item more
pub rest_none : (first : Bool) (text : Text) → with_tokens text (rest_of first no_exprs) ≡ text
rest_none true text = refl
rest_none false text = refl

-- an item more of the code
pub rest_step : (first : Bool) (out comma written : Text) (items : List Host) (i : ℕ) (item : Host) → i < length items
    → item ≡ get_or items i item
    → comma ≡ with_tokens out (if first then [] else codes "," ∷ []) → written ≡ with_tokens comma (expression_at 8 (host_term item))
    → with_tokens out (rest_of first (as_exprs (map host_term (drop i items)))) ≡ with_tokens written
    (rest_of false (as_exprs (map host_term (drop (i + 1) items))))
rest_step first out comma written items i item lt is one two =
    let split : drop i items ≡ item ∷ drop (i + 1) items =
    drop-cons items i item lt ∙ ap (λ x. x ∷ drop (suc i) items) (sym is) ∙ ap (λ n. item ∷ drop n items) (sym (add-one i)) in
    let es = as_exprs (map host_term (drop (i + 1) items)) in
    ap (λ l. with_tokens out (rest_of first (as_exprs (map host_term l)))) split ∙ rest_more first out (host_term item) es
    ∙ ap (λ t. with_tokens (with_tokens t (expression_at 8 (host_term item))) (rest_of false es)) (sym one)
    ∙ ap (λ t. with_tokens t (rest_of false es)) (sym two)

-- ---- parameters
abbrev parameter_commas : List ParamTerm → List Text
parameter_commas [] = []
parameter_commas (q ∷ qs) = codes "," ∷ parameter_tokens q ++ parameter_commas qs

-- what is still to be written of parameters
abbrev pub parameters_left : Bool → List ParamTerm → List Text
parameters_left true qs = parameters_tokens qs
parameters_left false qs = parameter_commas qs

parameters_with_commas : (q : ParamTerm) (qs : List ParamTerm) → parameters_tokens (q ∷ qs) ≡ parameter_tokens q ++ parameter_commas qs
parameters_with_commas q [] = sym (append-nil (parameter_tokens q))
parameters_with_commas q (r ∷ qs) = ap (λ l. parameter_tokens q ++ codes "," ∷ l) (parameters_with_commas r qs)

-- one parameter more
parameter_more : (first : Bool) (text : Text) (q : ParamTerm) (qs : List ParamTerm) →
    with_tokens text (parameters_left first (q ∷ qs)) ≡ with_tokens
    (with_tokens (with_tokens text (if first then [] else codes "," ∷ [])) (parameter_tokens q)) (parameters_left false qs)
parameter_more true text q qs = ap (with_tokens text) (parameters_with_commas q qs)
    ∙ with_tokens_append text (parameter_tokens q) (parameter_commas qs)
parameter_more false text q qs = with_tokens_append text (codes "," ∷ parameter_tokens q) (parameter_commas qs)

-- one of the code more
pub parameter_step : (first : Bool) (out comma written : Text) (params : List Param) (i : ℕ) (q : Param) → i < length params
    → q ≡ get_or params i q
    → comma ≡ with_tokens out (if first then [] else codes "," ∷ []) → written ≡ with_tokens comma (parameter_tokens (param_term q))
    → with_tokens out (parameters_left first (map param_term (drop i params))) ≡ with_tokens written
    (parameters_left false (map param_term (drop (i + 1) params)))
parameter_step first out comma written params i q lt is one two =
    let split : drop i params ≡ q ∷ drop (i + 1) params =
    drop-cons params i q lt ∙ ap (λ x. x ∷ drop (suc i) params) (sym is) ∙ ap (λ n. q ∷ drop n params) (sym (add-one i)) in
    let qs = map param_term (drop (i + 1) params) in
    ap (λ l. with_tokens out (parameters_left first (map param_term l))) split ∙ parameter_more first out (param_term q) qs
    ∙ ap (λ t. with_tokens (with_tokens t (parameter_tokens (param_term q))) (parameters_left false qs)) (sym one)
    ∙ ap (λ t. with_tokens t (parameters_left false qs)) (sym two)

-- ---- definitions
pub definition_step : (bs : List BodyText) (out written : Text) (defs : List Def) (i : ℕ) (d : Def) → i < length defs → d ≡ get_or defs i d
    → written ≡ out ++ spaced (definition_tokens bs (def_term d)) ++ codes "\n"
    → out ++ definitions_text bs (map def_term (drop i defs)) ≡ written ++ definitions_text bs (map def_term (drop (i + 1) defs))
definition_step bs out written defs i d lt is one =
    let split : drop i defs ≡ d ∷ drop (i + 1) defs =
    drop-cons defs i d lt ∙ ap (λ x. x ∷ drop (suc i) defs) (sym is) ∙ ap (λ n. d ∷ drop n defs) (sym (add-one i)) in
    let line = spaced (definition_tokens bs (def_term d)) in
    let rest = definitions_text bs (map def_term (drop (i + 1) defs)) in
    ap (λ l. out ++ definitions_text bs (map def_term l)) split ∙ sym (append_assoc out (line ++ codes "\n") rest)
    ∙ ap (λ t. t ++ rest) (sym (append_assoc out line (codes "\n")) ∙ sym one)

pub line_written : (out begun headed written word : Text) (front body : List Text) → begun ≡ out ++ word
    → headed ≡ with_tokens begun (front ++ codes "=" ∷ []) → written ≡ with_tokens headed body
    → written ≡ out ++ spaced (word ∷ front ++ codes "=" ∷ body)
line_written out begun headed written word front body one two three =
    three ∙ ap (λ t. with_tokens t body) two ∙ sym (with_tokens_append begun (front ++ codes "=" ∷ []) body)
    ∙ ap (with_tokens begun) (append_assoc front (codes "=" ∷ []) body)
    ∙ ap (λ t. with_tokens t (front ++ codes "=" ∷ body)) one ∙ with_tokens_spaced out word (front ++ codes "=" ∷ body)
