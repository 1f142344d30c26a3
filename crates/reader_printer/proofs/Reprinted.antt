-- What was read was written: each parse can be printed, within its levels.
use Rattle.std.proofs.Common.{◌≡◌, ℕ, suc, ◌+◌, max, List, [], ◌∷◌, ◌++◌, length, refl, sym, ap, ◌∙◌, subst, arith, append-nil, zero-add, one-add}
use Rattle.task_model.specs.Terms.Text.{Text}
use Rattle.task_model.specs.Terms.Host.{HostTerm}
use Rattle.task_model.specs.Terms.Task.{BodyTerm}
use Rattle.task_model.specs.Terms.Program.{ParamTerm, ProgramTerm}
use Rattle.task_model.specs.Terms.Token.{TokenTerm, Spells, IsWithinTokenLimits, Piece, blank, comment, lexeme, bytes_of, AreRight, tokens_from, HasTokens}
use Rattle.task_model.specs.Terms.Token as model
use Rattle.task_model.specs.declared.keyword.Keyword.TheVariants as words
use Rattle.task_model.specs.declared.symbol.Symbol.TheVariants as signs
use Rattle.task_model.specs.Syntax.Lexemes.{Lexeme, keyword, symbol, name, number, token_terms}
use Rattle.task_model.specs.Syntax.Grammar as grammar
use Rattle.task_model.specs.Syntax.Grammar.{Form, Parse, tokens, levels, operator, relation, prefix, scalar, truth}
use Rattle.task_model.specs.Syntax.Meaning.{meaning, bodies, bodies_of}
use Rattle.task_model.specs.Syntax.ProgramText.{HasReading}
use Rattle.task_model.specs.Syntax.Printed.{BodyText, body_numbered, body_texts, definition_tokens, program_text}
use Rattle.task_model.specs.Syntax.Written.{IsWritten}
use Rattle.reader_printer.proofs.Placing.{IsSpelled, AreSpelled, spelled_split, placed_from}
use Rattle.reader_printer.proofs.TokenLines.{pieces, tokens_in, tokens_of_pieces}
use Rattle.reader_printer.proofs.Showing.{Shown}
use Rattle.reader_printer.proofs.SpelledLiterals.{number_again, text_again}
use Rattle.reader_printer.proofs.ExpressionPlaces.{Own, wider, own_group}
use Rattle.reader_printer.proofs.ExpressionProductions.{ShownType, ShownList, ShownArguments, scalar_shown, pair_type_shown, list_type_shown, one_shown, more_shown, no_arguments, some_arguments, own_number, own_text, own_bool, own_unit, own_name, own_read, own_call, own_pair, own_list, own_nil, own_prefixed, own_times, own_quot, own_rem, own_plus, own_minus, own_join, own_cons, own_compared, own_and, own_or, own_let, own_if, own_case}
use Rattle.reader_printer.proofs.TaskPlaces.{Agrees, agrees_left, agrees_right, task_in, wider_task, task_grouped}
use Rattle.reader_printer.proofs.TaskProductions.{own_edit, own_enter, own_fail, own_share, own_task_call}
use Rattle.reader_printer.proofs.DefinitionProductions.{ShownParameter, ShownParameters, ShownEnclosed, value_shown, reference_shown, one_parameter, more_parameters, no_parameters, some_parameters, definition_in, names_of, function_shown, task_shown}
use Rattle.task_model.proofs.BodyCounts.{bodies_count}
use Rattle.reader_printer.proofs.Printable.{PrintableTask, print_together, print_internal, print_external, print_then, print_next, print_let, print_new, print_put, print_if, print_case}
use Rattle.reader_printer.proofs.ProgramLines.{ProgramMeaning, ShownProgram, program_in, no_definitions_shown, more_definitions_shown}

-- ---- each form
abbrev PrintableProgram : Parse grammar.program → Type 0
PrintableProgram d = (bs : List BodyText) (after : List BodyTerm) → Agrees 0 bs 0 (bodies_of d [] 0 ++ after)
    → ShownProgram bs (program_in d) (levels d)

abbrev PrintableDefinition : Parse grammar.definition → Type 0
PrintableDefinition d = (next : ℕ) (bs : List BodyText) (after : List BodyTerm) → Agrees 0 bs next (bodies_of d [] next ++ after)
    → Shown (definition_in next) (definition_in next d) (levels d) (definition_tokens bs (meaning d next))

abbrev Printable : (f : Form) → Parse f → Type 0
Printable grammar.program d = PrintableProgram d
Printable grammar.definition d = PrintableDefinition d
Printable grammar.parameter d = ShownParameter (meaning d) (levels d)
Printable grammar.basic d = ShownType (meaning d) (levels d)
Printable grammar.task d = PrintableTask 3 d
Printable grammar.task_atom d = PrintableTask 0 d
Printable grammar.expression d = Own 8 (meaning d) (levels d)
Printable grammar.comparison d = Own 5 (meaning d) (levels d)
Printable grammar.listed d = Own 4 (meaning d) (levels d)
Printable grammar.operand d = Own 1 (meaning d) (levels d)
Printable grammar.atom d = Own 0 (meaning d) (levels d)
Printable (grammar.series (grammar.list grammar.parameters)) d = ShownParameters (meaning d) (levels d)
Printable (grammar.series (grammar.list grammar.arguments)) d = ShownList (meaning d) (levels d)
Printable (grammar.series grammar.choice) d = PrintableTask 2 d
Printable (grammar.series grammar.chain) d = PrintableTask 1 d
Printable (grammar.series grammar.either) d = Own 7 (meaning d) (levels d)
Printable (grammar.series grammar.both) d = Own 6 (meaning d) (levels d)
Printable (grammar.series grammar.sum) d = Own 3 (meaning d) (levels d)
Printable (grammar.series grammar.product) d = Own 2 (meaning d) (levels d)
Printable (grammar.enclosed grammar.parameters) d = ShownEnclosed (meaning d) (levels d)
Printable (grammar.enclosed grammar.arguments) d = ShownArguments (meaning d) (levels d)

-- ---- programs and definitions
print_definitions : (ds : Parse grammar.program) (d : Parse grammar.definition) → PrintableProgram ds → PrintableDefinition d
    → PrintableProgram (grammar.more_definitions ds d)
print_definitions ds d first last bs after h =
    let n = bodies ds in
    let front = bodies_of ds [] 0 in
    let one = first bs (bodies_of d [] (0 + n) ++ after) (agrees_left 0 bs 0 front (bodies_of d [] (0 + n)) after h) in
    let right = agrees_right 0 bs 0 n front (bodies_of d [] (0 + n)) after (bodies_count ds [] 0) h in
    let right' = subst (λ k. Agrees 0 bs k (bodies_of d [] k ++ after)) (zero-add n) right in
    let whole = more_definitions_shown bs (program_in ds) (definition_in n d) (levels ds) (levels d) one (last n bs after right') in
    subst (λ k. ShownProgram bs (meaning ds ++ meaning d n ∷ [], n + bodies d, front ++ bodies_of d [] k) (max (levels ds) (levels d)))
    (sym (zero-add n)) whole

print_function : (p : ℕ) (x : Text) (q : ℕ) (ps : Parse (grammar.enclosed grammar.parameters)) (r : ℕ) (b : Parse grammar.basic) (s : ℕ)
    (e : Parse grammar.expression)
    → IsSpelled (name x 0) → ShownEnclosed (meaning ps) (levels ps) → ShownType (meaning b) (levels b) → Own 8 (meaning e) (levels e)
    → PrintableDefinition (grammar.function p x q ps r b s e)
print_function p x q ps r b s e sp params result body next bs after h =
    function_shown x (meaning ps) (meaning b) (meaning e) next bs (levels ps) (levels b) (levels e) sp params result body

print_task : (p : ℕ) (x : Text) (q : ℕ) (ps : Parse (grammar.enclosed grammar.parameters)) (r : ℕ) (b : Parse grammar.basic) (s : ℕ)
    (t : Parse grammar.task)
    → IsSpelled (name x 0) → ShownEnclosed (meaning ps) (levels ps) → ShownType (meaning b) (levels b) → PrintableTask 3 t
    → PrintableDefinition (grammar.task_named p x q ps r b s t)
print_task p x q ps r b s t sp params result body next bs after h =
    task_shown x (meaning ps) (meaning b) (task_in 3 (names_of (meaning ps)) next t) next bs (levels ps) (levels b)
    (levels t) sp params result (body (names_of (meaning ps)) next 0 bs after h)

-- ---- lists
data Some {A : Type 0} : List A → Type 0 where
  some : (x : A) (xs : List A) → Some (x ∷ xs)

some_append : {A : Type 0} (xs : List A) (y : A) → Some (xs ++ y ∷ [])
some_append [] y = some y []
some_append (x ∷ xs) y = some x (xs ++ y ∷ [])

some_parameters_read : (d : Parse (grammar.series (grammar.list grammar.parameters))) → Some (meaning d)
some_parameters_read (grammar.single (grammar.list grammar.parameters) a) = some (meaning a) []
some_parameters_read (grammar.joined (grammar.list grammar.parameters) a o p b) = some_append (meaning a) (meaning b)

some_terms_read : (d : Parse (grammar.series (grammar.list grammar.arguments))) → Some (meaning d)
some_terms_read (grammar.single (grammar.list grammar.arguments) a) = some (meaning a) []
some_terms_read (grammar.joined (grammar.list grammar.arguments) a o p b) = some_append (meaning a) (meaning b)

print_parameters : (qs : List ParamTerm) (r : ParamTerm) (j k : ℕ) → Some qs → ShownParameters qs j → ShownParameter r k
    → ShownParameters (qs ++ r ∷ []) (0 + max j k)
print_parameters _ r j k (some q qs) s t = more_parameters q qs r j k s t

print_terms : (es : List HostTerm) (d : HostTerm) (j k : ℕ) → Some es → ShownList es j → Own 8 d k → ShownList (es ++ d ∷ []) (0 + max j k)
print_terms _ d j k (some e es) s o = subst (λ n. ShownList ((e ∷ es) ++ d ∷ []) n) (sym (zero-add (max j k))) (more_shown s o)

-- one level more, said the other way round
by_suc : {p : ℕ} {e : HostTerm} {k : ℕ} → Own p e (1 + k) → Own p e (suc k)
by_suc {p} {e} {k} o = subst (λ n. Own p e n) (one-add k) o

print_number : (t : Text) (p : ℕ) → IsSpelled (number t p) → Own 0 (meaning (grammar.digits t p)) 1
print_number t p s = let again = number_again (model.number_from 0 t) s.1 in own_number (model.number_from 0 t) again.0 again.1

-- ---- each parse
printable : {f : Form} (d : Parse f) → AreSpelled (tokens d) → Printable f d
printable grammar.no_definitions h = λ bs after g. no_definitions_shown bs
printable (grammar.more_definitions ds d) h =
    let s = spelled_split (tokens ds) (tokens d) h in print_definitions ds d (printable ds s.0) (printable d s.1)
printable (grammar.function p x q ps r b s e) h =
    let all = spelled_split (tokens ps ++ symbol signs.Colon r ∷ tokens b) (symbol signs.Define s ∷ tokens e) h.1.1 in
    let head = spelled_split (tokens ps) (symbol signs.Colon r ∷ tokens b) all.0 in
    print_function p x q ps r b s e h.1.0 (printable ps head.0) (printable b head.1.1) (printable e all.1.1)
printable (grammar.task_named p x q ps r b s t) h =
    let all = spelled_split (tokens ps ++ symbol signs.Colon r ∷ tokens b) (symbol signs.Define s ∷ tokens t) h.1.1 in
    let head = spelled_split (tokens ps) (symbol signs.Colon r ∷ tokens b) all.0 in
    print_task p x q ps r b s t h.1.0 (printable ps head.0) (printable b head.1.1) (printable t all.1.1)
printable (grammar.value_named x p q b) h = value_shown x (meaning b) (levels b) h.0 (printable b h.1.1)
printable (grammar.reference_named x p q r b) h = reference_shown x (meaning b) (levels b) h.0 (printable b h.1.1.1)
printable (grammar.scalar_type b p) h = scalar_shown b
printable (grammar.pair_type p a q b r) h =
    let all = spelled_split (tokens a ++ symbol signs.Comma q ∷ tokens b) (symbol signs.Close r ∷ []) h.1 in
    let both = spelled_split (tokens a) (symbol signs.Comma q ∷ tokens b) all.0 in
    pair_type_shown (printable a both.0) (printable b both.1.1)
printable (grammar.list_type p a q) h = list_type_shown (printable a (spelled_split (tokens a) (symbol signs.CloseBracket q ∷ []) h.1).0)
printable (grammar.task_let p x q r e s t) h =
    let both = spelled_split (tokens e) (keyword words.In s ∷ tokens t) h.1.1.1 in
    print_let p x q r e s t h.1.0 (printable e both.0) (printable t both.1.1)
printable (grammar.task_if p e q t r u) h =
    let all = spelled_split (tokens e ++ keyword words.Then q ∷ tokens t) (keyword words.Else r ∷ tokens u) h.1 in
    let both = spelled_split (tokens e) (keyword words.Then q ∷ tokens t) all.0 in
    print_if p e q t r u (printable e both.0) (printable t both.1.1) (printable u all.1.1)
printable (grammar.task_case p e q r s a t b x i j y k c u) h =
    let middle = keyword words.Of q ∷ symbol signs.OpenBracket r ∷ symbol signs.CloseBracket s ∷ symbol signs.Arrow a ∷ tokens t in
    let all = spelled_split (tokens e ++ middle) (symbol signs.Bar b ∷ name x i ∷ symbol signs.Cons j ∷ name y k ∷ symbol signs.Arrow c
    ∷ tokens u) h.1 in
    let both = spelled_split (tokens e) middle all.0 in
    print_case p e q r s a t b x i j y k c u all.1.1.0 all.1.1.1.1.0 (printable e both.0) (printable t both.1.1.1.1.1)
    (printable u all.1.1.1.1.1.1)
printable (grammar.task_new p x q r e s t) h =
    let both = spelled_split (tokens e) (keyword words.In s ∷ tokens t) h.1.1.1 in
    print_new p x q r e s t h.1.0 (printable e both.0) (printable t both.1.1)
printable (grammar.task_put x p q e r t) h =
    let both = spelled_split (tokens e) (symbol signs.Semicolon r ∷ tokens t) h.1.1 in
    print_put x p q e r t h.0 (printable e both.0) (printable t both.1.1)
printable (grammar.task_plain t) h = λ scope next first bs after g. wider_task 2 3 (omega arith) (printable t h scope next first bs after g)
printable (grammar.task_then t p x q r u) h =
    let both = spelled_split (tokens t) (symbol signs.InternalStep p ∷ name x q ∷ symbol signs.Dot r ∷ tokens u) h in
    print_then t p x q r u both.1.1.0 (printable t both.0) (printable u both.1.1.1.1)
printable (grammar.task_next t p x q r u) h =
    let both = spelled_split (tokens t) (symbol signs.UserStep p ∷ name x q ∷ symbol signs.Dot r ∷ tokens u) h in
    print_next t p x q r u both.1.1.0 (printable t both.0) (printable u both.1.1.1.1)
printable (grammar.task_edit p e) h = λ scope next first bs after g. own_edit scope next first bs (meaning e) (levels e) (printable e h.1)
printable (grammar.task_enter p b) h = λ scope next first bs after g. own_enter scope next first bs (meaning b) (levels b) (printable b h.1)
printable (grammar.task_share p x q) h = λ scope next first bs after g. own_share scope next first bs x h.1.0
printable (grammar.task_fail p b) h = λ scope next first bs after g. own_fail scope next first bs (meaning b) (levels b) (printable b h.1)
printable (grammar.task_call x p es) h = λ scope next first bs after g. own_task_call scope next first bs x (meaning es) (levels es) h.0
    (printable es h.1)
printable (grammar.task_group p t q) h = λ scope next first bs after g. task_grouped
    (printable t (spelled_split (tokens t) (symbol signs.Close q ∷ []) h.1).0 scope next first bs after g)
printable (grammar.let_in p x q r e s d) h =
    let both = spelled_split (tokens e) (keyword words.In s ∷ tokens d) h.1.1.1 in
    own_let x h.1.0 (printable e both.0) (printable d both.1.1)
printable (grammar.if_then p e q a r b) h =
    let all = spelled_split (tokens e ++ keyword words.Then q ∷ tokens a) (keyword words.Else r ∷ tokens b) h.1 in
    let both = spelled_split (tokens e) (keyword words.Then q ∷ tokens a) all.0 in
    own_if (printable e both.0) (printable a both.1.1) (printable b all.1.1)
printable (grammar.case_of p e q r s a d b x i j y k c u) h =
    let middle = keyword words.Of q ∷ symbol signs.OpenBracket r ∷ symbol signs.CloseBracket s ∷ symbol signs.Arrow a ∷ tokens d in
    let all = spelled_split (tokens e ++ middle) (symbol signs.Bar b ∷ name x i ∷ symbol signs.Cons j ∷ name y k ∷ symbol signs.Arrow c
    ∷ tokens u) h.1 in
    let both = spelled_split (tokens e) middle all.0 in
    own_case x y all.1.1.0 all.1.1.1.1.0 (printable e both.0) (printable d both.1.1.1.1.1) (printable u all.1.1.1.1.1.1)
printable (grammar.plain e) h = wider 7 8 (omega arith) (printable e h)
printable (grammar.uncompared a) h = wider 4 5 (omega arith) (printable a h)
printable (grammar.compared a o p b) h =
    let both = spelled_split (tokens a) (symbol (relation o) p ∷ tokens b) h in
    by_suc (own_compared o (printable a both.0) (printable b both.1.1))
printable (grammar.unlisted a) h = wider 3 4 (omega arith) (printable a h)
printable (grammar.cons a p b) h =
    let both = spelled_split (tokens a) (symbol signs.Cons p ∷ tokens b) h in by_suc (own_cons (printable a both.0) (printable b both.1.1))
printable (grammar.prefixed o p a) h = own_prefixed o (printable a h.1)
printable (grammar.unprefixed a) h = wider 0 1 (omega arith) (printable a h)
printable (grammar.digits t p) h = print_number t p h.0
printable (grammar.quoted t v p) h = own_text v (text_again t v p h.0)
printable (grammar.constant b p) h = own_bool b
printable (grammar.nothing p q) h = own_unit
printable (grammar.named x p) h = own_name x h.0
printable (grammar.content p x q) h = own_read x h.1.0
printable (grammar.call x p es) h = own_call x h.0 (printable es h.1)
printable (grammar.group p e q) h = own_group (printable e (spelled_split (tokens e) (symbol signs.Close q ∷ []) h.1).0)
printable (grammar.pair p a q b r) h =
    let all = spelled_split (tokens a ++ symbol signs.Comma q ∷ tokens b) (symbol signs.Close r ∷ []) h.1 in
    let both = spelled_split (tokens a) (symbol signs.Comma q ∷ tokens b) all.0 in
    own_pair (printable a both.0) (printable b both.1.1)
printable (grammar.elements p es q) h = own_list (printable es (spelled_split (tokens es) (symbol signs.CloseBracket q ∷ []) h.1).0)
printable (grammar.nil p b) h = own_nil (printable b h.1)
printable (grammar.single (grammar.list grammar.parameters) a) h = one_parameter (meaning a) (levels a) (printable a h)
printable (grammar.single (grammar.list grammar.arguments) a) h = one_shown (printable a h)
printable (grammar.single grammar.choice a) h =
    λ scope next first bs after g. wider_task 1 2 (omega arith) (printable a h scope next first bs after g)
printable (grammar.single grammar.chain a) h =
    λ scope next first bs after g. wider_task 0 1 (omega arith) (printable a h scope next first bs after g)
printable (grammar.single grammar.either a) h = wider 6 7 (omega arith) (printable a h)
printable (grammar.single grammar.both a) h = wider 5 6 (omega arith) (printable a h)
printable (grammar.single grammar.sum a) h = wider 2 3 (omega arith) (printable a h)
printable (grammar.single grammar.product a) h = wider 1 2 (omega arith) (printable a h)
printable (grammar.joined (grammar.list grammar.parameters) a o p b) h =
    let both = spelled_split (tokens a) (operator o p ∷ tokens b) h in
    print_parameters (meaning a) (meaning b) (levels a) (levels b) (some_parameters_read a) (printable a both.0) (printable b both.1.1)
printable (grammar.joined (grammar.list grammar.arguments) a o p b) h =
    let both = spelled_split (tokens a) (operator o p ∷ tokens b) h in
    print_terms (meaning a) (meaning b) (levels a) (levels b) (some_terms_read a) (printable a both.0) (printable b both.1.1)
printable (grammar.joined grammar.choice t grammar.internal p u) h =
    let both = spelled_split (tokens t) (symbol signs.InternalChoice p ∷ tokens u) h in
    print_internal t p u (printable t both.0) (printable u both.1.1)
printable (grammar.joined grammar.choice t grammar.external p u) h =
    let both = spelled_split (tokens t) (symbol signs.ExternalChoice p ∷ tokens u) h in
    print_external t p u (printable t both.0) (printable u both.1.1)
printable (grammar.joined grammar.chain t o p u) h =
    let both = spelled_split (tokens t) (operator o p ∷ tokens u) h in print_together t o p u (printable t both.0) (printable u both.1.1)
printable (grammar.joined grammar.either a grammar.or p b) h =
    let both = spelled_split (tokens a) (symbol signs.Or p ∷ tokens b) h in own_or (printable a both.0) (printable b both.1.1)
printable (grammar.joined grammar.both a grammar.and p b) h =
    let both = spelled_split (tokens a) (symbol signs.And p ∷ tokens b) h in own_and (printable a both.0) (printable b both.1.1)
printable (grammar.joined grammar.sum a grammar.plus p b) h =
    let both = spelled_split (tokens a) (symbol signs.Plus p ∷ tokens b) h in own_plus (printable a both.0) (printable b both.1.1)
printable (grammar.joined grammar.sum a grammar.minus p b) h =
    let both = spelled_split (tokens a) (symbol signs.Minus p ∷ tokens b) h in own_minus (printable a both.0) (printable b both.1.1)
printable (grammar.joined grammar.sum a grammar.join p b) h =
    let both = spelled_split (tokens a) (symbol signs.Join p ∷ tokens b) h in own_join (printable a both.0) (printable b both.1.1)
printable (grammar.joined grammar.product a grammar.times p b) h =
    let both = spelled_split (tokens a) (symbol signs.Star p ∷ tokens b) h in own_times (printable a both.0) (printable b both.1.1)
printable (grammar.joined grammar.product a grammar.quot p b) h =
    let both = spelled_split (tokens a) (keyword words.Quot p ∷ tokens b) h in own_quot (printable a both.0) (printable b both.1.1)
printable (grammar.joined grammar.product a grammar.rem p b) h =
    let both = spelled_split (tokens a) (keyword words.Rem p ∷ tokens b) h in own_rem (printable a both.0) (printable b both.1.1)
printable (grammar.empty grammar.parameters p q) h = no_parameters
printable (grammar.empty grammar.arguments p q) h = no_arguments
printable (grammar.full grammar.parameters p es q) h =
    some_parameters (meaning es) (levels es) (printable es (spelled_split (tokens es) (symbol signs.Close q ∷ []) h.1).0)
printable (grammar.full grammar.arguments p es q) h =
    some_arguments (printable es (spelled_split (tokens es) (symbol signs.Close q ∷ []) h.1).0)

-- ---- whole texts
abbrev AllRight : List TokenTerm → Type 0
AllRight [] = Unit {0}
AllRight (t ∷ ts) = (Spells t.spelling t.kind × IsWithinTokenLimits t.kind) × AllRight ts

all_right : (n : ℕ) (ps : List Piece) → AreRight ps → AllRight (tokens_from n ps)
all_right n [] h = tt
all_right n (blank b ∷ ps) h = all_right (n + 1) ps h.1
all_right n (comment t ∷ ps) h = all_right (n + 1 + length t) ps h.2
all_right n (lexeme t kind ∷ ps) h = ((h.0, h.1), all_right (n + length t) ps h.3)

right_spelled : (ls : List Lexeme) → AllRight (token_terms ls) → AreSpelled ls
right_spelled [] h = tt
right_spelled (l ∷ ls) h = (h.0, right_spelled ls h.1)

abbrev program_again : ProgramMeaning → ProgramTerm
program_again v = record { defs = v.0; bodies = v.2 }

-- what was read is written
pub written_again : (source : Text) (p : ProgramTerm) (places : List ℕ) → HasReading source p places → IsWritten p
written_again source p places r =
    let d = r.parse in
    let all = bodies_of d [] 0 in
    let bs = body_texts 0 all in
    let spelled = right_spelled (tokens d) (subst AllRight (r.has.are ∙ sym r.reads) (all_right 0 r.has.pieces r.has.right)) in
    let agrees : Agrees 0 bs 0 (all ++ []) = λ i le. ap (λ l. body_numbered 0 (body_texts 0 l) i) (sym (append-nil all)) in
    let shown = printable d spelled bs [] agrees in
    let stands = shown.stands 0 in
    let text : bytes_of (pieces shown.written) ≡ program_text p = shown.bytes ∙ ap program_text r.stands_for in
    let means = ap program_again stands.means in (
      _,
      record {
        terms = token_terms (placed_from 0 (tokens_in shown.written));
        has = subst (λ s. HasTokens s (token_terms (placed_from 0 (tokens_in shown.written)))) text
            (tokens_of_pieces shown.written shown.right);
        parse = stands.parse;
        reads = ap token_terms stands.tokens_are;
        within = (let few = stands.within in let most = r.within in omega (arith, few, most));
        stands_for = means ∙ r.stands_for;
        placed = refl;
      },
    )
