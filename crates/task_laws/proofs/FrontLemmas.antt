-- The `edit` and `share` nodes before each body are the words `edit` and `share` before its text.
use Rattle.std.proofs.Common.{◌≡◌, ℕ, suc, ◌+◌, Bool, true, false, List, [], ◌∷◌, ◌++◌, map, refl, sym, ap, ◌∙◌, subst, arith, append-nil}
use Rattle.std.proofs.lemmas.List.{map-append}
use Rattle.std.specs.Prelude.{if◌then◌else◌}
use Rattle.task_model.specs.Terms.Text.{Text}
use Rattle.task_model.specs.Terms.Task.{BodyTerm}
use Rattle.task_model.specs.Terms.Program.{ProgramTerm}
use Rattle.task_model.specs.Running.Checked.{param_names}
use Rattle.task_model.specs.declared.keyword.Keyword.TheVariants as words
use Rattle.task_model.specs.declared.symbol.Symbol.TheVariants as signs
use Rattle.task_model.specs.Syntax.Lexemes.{Lexeme, keyword, symbol, name}
use Rattle.task_model.specs.Syntax.Grammar.{Form, program, parameter, basic, expression, comparison, listed, operand, atom, series, enclosed, parameters, arguments, comma, list, choice, chain, either, both, sum, product, internal, external, together, or, and, plus, minus, join, times, quot, rem, negative, not, fst, snd, len, unit, bool, int, text, operator, Parse, no_definitions, more_definitions, function, task_named, value_named, reference_named, scalar_type, pair_type, list_type, task_let, task_if, task_case, task_new, task_put, task_plain, task_then, task_next, task_edit, task_enter, task_share, task_fail, task_call, task_group, let_in, if_then, case_of, plain, uncompared, compared, unlisted, cons, prefixed, unprefixed, digits, quoted, constant, nothing, named, content, call, group, pair, elements, nil, single, joined, empty, full, tokens}
use Rattle.task_model.specs.Syntax.Meaning.{meaning, bodies, bodies_of, program_of}
use Rattle.task_model.specs.Checking.FullTask.{full_in}
use Rattle.task_model.specs.Checking.TaskDemands.{bodies_in_place}
use Rattle.task_model.specs.Checking.Placed.{edit_nodes, task_firsts, firsts_in, firsts_of}
use Rattle.task_model.proofs.BodyCounts.{bodies_count}
use Rattle.task_laws.specs.BodyFronts.{is_edit_word, edit_words, behind, body_fronts}
use Rattle.task_laws.proofs.ParseLemmas.{IsTask, whole, both as both_same, in_place, places_first, places_second}
use Rattle.task_laws.proofs.PlacedLemmas.{PlacesFrom}
use Rattle.task_laws.proofs.TableLemmas.{all_edits, edits_more, firsts_more}

words_more : (b : Bool) (n m k : ℕ) → k ≡ n + m → (if b then suc k else k) ≡ (if b then suc n else n) + m
words_more true n m k e = omega (arith, e)
words_more false n m k e = e

words_append : (xs ys : List Lexeme) → edit_words (xs ++ ys) ≡ edit_words xs + edit_words ys
words_append [] ys = omega arith
words_append (x ∷ xs) ys = words_more (is_edit_word x) (edit_words xs) (edit_words ys) (edit_words (xs ++ ys)) (words_append xs ys)

words_two : (xs ys : List Lexeme) {n m : ℕ} → edit_words xs ≡ n → edit_words ys ≡ m → edit_words (xs ++ ys) ≡ n + m
words_two xs ys e k = words_append xs ys ∙ both_same (λ y z. y + z) e k

-- one of two parts has none
words_second : (xs ys : List Lexeme) {m : ℕ} → edit_words xs ≡ 0 → edit_words ys ≡ m → edit_words (xs ++ ys) ≡ m
words_second xs ys {m} none e = let all = words_append xs ys in omega (arith, all, none, e)

words_first : (xs ys : List Lexeme) {m : ℕ} → edit_words xs ≡ m → edit_words ys ≡ 0 → edit_words (xs ++ ys) ≡ m
words_first xs ys {m} e none = let all = words_append xs ys in omega (arith, all, none, e)

none_two : (xs ys : List Lexeme) → edit_words xs ≡ 0 → edit_words ys ≡ 0 → edit_words (xs ++ ys) ≡ 0
none_two xs ys e k = words_second xs ys e k

-- ---- what holds no tasks
abbrev pub HoldsNoTask : Form → Type 0
HoldsNoTask parameter = Unit {0}
HoldsNoTask basic = Unit {0}
HoldsNoTask expression = Unit {0}
HoldsNoTask comparison = Unit {0}
HoldsNoTask listed = Unit {0}
HoldsNoTask operand = Unit {0}
HoldsNoTask atom = Unit {0}
HoldsNoTask (series (list l)) = Unit {0}
HoldsNoTask (series either) = Unit {0}
HoldsNoTask (series both) = Unit {0}
HoldsNoTask (series sum) = Unit {0}
HoldsNoTask (series product) = Unit {0}
HoldsNoTask (enclosed l) = Unit {0}
HoldsNoTask f = ⊥

no_words : {f : Form} (d : Parse f) → HoldsNoTask f → edit_words (tokens d) ≡ 0
no_words (value_named x p q b) h = no_words b tt
no_words (reference_named x p q r b) h = no_words b tt
no_words (scalar_type unit p) h = refl
no_words (scalar_type bool p) h = refl
no_words (scalar_type int p) h = refl
no_words (scalar_type text p) h = refl
no_words (pair_type p a q b r) h =
    none_two (tokens a ++ symbol signs.Comma q ∷ tokens b) (symbol signs.Close r ∷ [])
    (none_two (tokens a) (symbol signs.Comma q ∷ tokens b) (no_words a tt) (no_words b tt)) refl
no_words (list_type p a q) h = none_two (tokens a) (symbol signs.CloseBracket q ∷ []) (no_words a tt) refl
no_words (let_in p x q r e s d) h = none_two (tokens e) (keyword words.In s ∷ tokens d) (no_words e tt) (no_words d tt)
no_words (if_then p e q a r b) h =
    none_two (tokens e ++ keyword words.Then q ∷ tokens a) (keyword words.Else r ∷ tokens b)
    (none_two (tokens e) (keyword words.Then q ∷ tokens a) (no_words e tt) (no_words a tt)) (no_words b tt)
no_words (case_of p e q r s a d b x i j y k c u) h =
    let first = keyword words.Of q ∷ symbol signs.OpenBracket r ∷ symbol signs.CloseBracket s ∷ symbol signs.Arrow a ∷ tokens d in
    let second = symbol signs.Bar b ∷ name x i ∷ symbol signs.Cons j ∷ name y k ∷ symbol signs.Arrow c ∷ tokens u in
    none_two (tokens e ++ first) second (none_two (tokens e) first (no_words e tt) (no_words d tt)) (no_words u tt)
no_words (plain e) h = no_words e tt
no_words (uncompared a) h = no_words a tt
no_words (compared a o p b) h = none_two (tokens a) _ (no_words a tt) (no_words b tt)
no_words (unlisted a) h = no_words a tt
no_words (cons a p b) h = none_two (tokens a) (symbol signs.Cons p ∷ tokens b) (no_words a tt) (no_words b tt)
no_words (prefixed negative p a) h = no_words a tt
no_words (prefixed not p a) h = no_words a tt
no_words (prefixed fst p a) h = no_words a tt
no_words (prefixed snd p a) h = no_words a tt
no_words (prefixed len p a) h = no_words a tt
no_words (unprefixed a) h = no_words a tt
no_words (digits t p) h = refl
no_words (quoted t v p) h = refl
no_words (constant true p) h = refl
no_words (constant false p) h = refl
no_words (nothing p q) h = refl
no_words (named x p) h = refl
no_words (content p x q) h = refl
no_words (call x p es) h = no_words es tt
no_words (group p e q) h = none_two (tokens e) (symbol signs.Close q ∷ []) (no_words e tt) refl
no_words (pair p a q b r) h =
    none_two (tokens a ++ symbol signs.Comma q ∷ tokens b) (symbol signs.Close r ∷ [])
    (none_two (tokens a) (symbol signs.Comma q ∷ tokens b) (no_words a tt) (no_words b tt)) refl
no_words (elements p es q) h = none_two (tokens es) (symbol signs.CloseBracket q ∷ []) (no_words es tt) refl
no_words (nil p b) h = no_words b tt
no_words (single (list parameters) d) h = no_words d tt
no_words (single (list arguments) d) h = no_words d tt
no_words (single either d) h = no_words d tt
no_words (single both d) h = no_words d tt
no_words (single sum d) h = no_words d tt
no_words (single product d) h = no_words d tt
no_words (joined (list parameters) a (comma parameters) p b) h =
    none_two (tokens a) (symbol signs.Comma p ∷ tokens b) (no_words a tt) (no_words b tt)
no_words (joined (list arguments) a (comma arguments) p b) h =
    none_two (tokens a) (symbol signs.Comma p ∷ tokens b) (no_words a tt) (no_words b tt)
no_words (joined either a or p b) h = none_two (tokens a) (operator or p ∷ tokens b) (no_words a tt) (no_words b tt)
no_words (joined both a and p b) h = none_two (tokens a) (operator and p ∷ tokens b) (no_words a tt) (no_words b tt)
no_words (joined sum a plus p b) h = none_two (tokens a) (operator plus p ∷ tokens b) (no_words a tt) (no_words b tt)
no_words (joined sum a minus p b) h = none_two (tokens a) (operator minus p ∷ tokens b) (no_words a tt) (no_words b tt)
no_words (joined sum a join p b) h = none_two (tokens a) (operator join p ∷ tokens b) (no_words a tt) (no_words b tt)
no_words (joined product a times p b) h = none_two (tokens a) (operator times p ∷ tokens b) (no_words a tt) (no_words b tt)
no_words (joined product a quot p b) h = none_two (tokens a) (operator quot p ∷ tokens b) (no_words a tt) (no_words b tt)
no_words (joined product a rem p b) h = none_two (tokens a) (operator rem p ∷ tokens b) (no_words a tt) (no_words b tt)
no_words (empty l p q) h = refl
no_words (full l p es q) h = none_two (tokens es) (symbol signs.Close q ∷ []) (no_words es tt) refl
no_words d h = absurd h

-- ---- tasks, with their bodies in place
edits_counted : {f : Form} (d : Parse f) → IsTask f → (xs : List Text) → edit_words (tokens d) ≡ edit_nodes (whole d xs)
edits_counted (task_let p x q r e s t) h xs =
    words_second (tokens e) (keyword words.In s ∷ tokens t) (no_words e tt) (edits_counted t tt (xs ++ x ∷ []))
edits_counted (task_if p e q t r u) h xs =
    words_two (tokens e ++ keyword words.Then q ∷ tokens t) (keyword words.Else r ∷ tokens u)
    (words_second (tokens e) (keyword words.Then q ∷ tokens t) (no_words e tt) (edits_counted t tt xs)) (edits_counted u tt xs)
edits_counted (task_case p e q r s a t b x i j y k c u) h xs =
    let first = keyword words.Of q ∷ symbol signs.OpenBracket r ∷ symbol signs.CloseBracket s ∷ symbol signs.Arrow a ∷ tokens t in
    let second = symbol signs.Bar b ∷ name x i ∷ symbol signs.Cons j ∷ name y k ∷ symbol signs.Arrow c ∷ tokens u in
    words_two (tokens e ++ first) second (words_second (tokens e) first (no_words e tt) (edits_counted t tt xs))
    (edits_counted u tt (xs ++ x ∷ y ∷ []))
edits_counted (task_new p x q r e s t) h xs =
    words_second (tokens e) (keyword words.In s ∷ tokens t) (no_words e tt) (edits_counted t tt (xs ++ x ∷ []))
edits_counted (task_put x p q e r t) h xs =
    words_second (tokens e) (symbol signs.Semicolon r ∷ tokens t) (no_words e tt) (edits_counted t tt xs)
edits_counted (task_plain t) h xs = edits_counted t tt xs
edits_counted (task_then t p x q r u) h xs =
    words_two (tokens t) (symbol signs.InternalStep p ∷ name x q ∷ symbol signs.Dot r ∷ tokens u) (edits_counted t tt xs)
    (edits_counted u tt (xs ++ x ∷ []))
edits_counted (task_next t p x q r u) h xs =
    words_two (tokens t) (symbol signs.UserStep p ∷ name x q ∷ symbol signs.Dot r ∷ tokens u) (edits_counted t tt xs)
    (edits_counted u tt (xs ++ x ∷ []))
edits_counted (task_edit p e) h xs = ap suc (no_words e tt)
edits_counted (task_enter p b) h xs = no_words b tt
edits_counted (task_share p x q) h xs = refl
edits_counted (task_fail p b) h xs = no_words b tt
edits_counted (task_call x p es) h xs = no_words es tt
edits_counted (task_group p t q) h xs =
    words_first (tokens t) (symbol signs.Close q ∷ []) (edits_counted t tt xs) refl
edits_counted (single choice t) h xs = edits_counted t tt xs
edits_counted (single chain t) h xs = edits_counted t tt xs
edits_counted (joined choice t internal p u) h xs =
    words_two (tokens t) (operator internal p ∷ tokens u) (edits_counted t tt xs) (edits_counted u tt xs)
edits_counted (joined choice t external p u) h xs =
    words_two (tokens t) (operator external p ∷ tokens u) (edits_counted t tt xs) (edits_counted u tt xs)
edits_counted (joined chain t together p u) h xs =
    words_two (tokens t) (operator together p ∷ tokens u) (edits_counted t tt xs) (edits_counted u tt xs)
edits_counted d h xs = absurd h

-- ---- the words before each body
-- where n stand before a text, how many stand behind each of these fronts of it
abbrev pub counted_from : ℕ → List (List Lexeme) → List ℕ
counted_from n fs = map (λ ts. n + edit_words ts) fs

counted_behind : (n m : ℕ) (front : List Lexeme) (fs : List (List Lexeme)) → edit_words front ≡ m
    → counted_from n (behind front fs) ≡ counted_from (n + m) fs
counted_behind n m front [] e = refl
counted_behind n m front (ts ∷ fs) e =
    let all = words_append front ts in
    let here : n + edit_words (front ++ ts) ≡ (n + m) + edit_words ts = omega (arith, all, e) in
    both_same (λ y z. y ∷ z) here (counted_behind n m front fs e)

counted_same : (n : ℕ) (front : List Lexeme) (fs : List (List Lexeme)) → edit_words front ≡ 0
    → counted_from n (behind front fs) ≡ counted_from n fs
counted_same n front fs e = let same : n + 0 ≡ n = omega arith in counted_behind n 0 front fs e ∙ ap (λ k. counted_from k fs) same

counted_both : (n : ℕ) (fs gs : List (List Lexeme)) {ks ls : List ℕ} → counted_from n fs ≡ ks → counted_from n gs ≡ ls
    → counted_from n (fs ++ gs) ≡ ks ++ ls
counted_both n fs gs e k = map-append (λ ts. n + edit_words ts) fs gs ∙ both_same (λ y z. y ++ z) e k

front_at : (n : ℕ) (front : List Lexeme) {m : ℕ} → edit_words front ≡ m → n + edit_words front ≡ n + m
front_at n front e = ap (λ k. n + k) e

-- a part that others follow, and their fronts behind it and what stands between
both_counted : {f : Form} (t : Parse f) (between : List Lexeme) (fs : List (List Lexeme)) (n m : ℕ) {ks ls : List ℕ}
    → edit_words (tokens t) ≡ m → edit_words between ≡ 0 → counted_from n (body_fronts t) ≡ ks → counted_from (n + m) fs ≡ ls
    → counted_from n (body_fronts t ++ behind (tokens t ++ between) fs) ≡ ks ++ ls
both_counted t between fs n m many none first second =
    counted_both n (body_fronts t) (behind (tokens t ++ between) fs) first
    (counted_behind n m (tokens t ++ between) fs (words_first (tokens t) between many none) ∙ second)

-- a part, and a body behind it
step_counted : {f : Form} (t : Parse f) (between : List Lexeme) (fs : List (List Lexeme)) (n m : ℕ) {ks ls : List ℕ}
    → edit_words (tokens t) ≡ m → edit_words between ≡ 0 → counted_from n (body_fronts t) ≡ ks → counted_from (n + m) fs ≡ ls
    → counted_from n (body_fronts t ++ (tokens t ++ between) ∷ behind (tokens t ++ between) fs) ≡ ks ++ (n + m) ∷ ls
step_counted t between fs n m many none first second =
    let before = words_first (tokens t) between many none in
    counted_both n (body_fronts t) ((tokens t ++ between) ∷ behind (tokens t ++ between) fs) first
    (both_same (λ y z. y ∷ z) (front_at n (tokens t ++ between) before)
    (counted_behind n m (tokens t ++ between) fs before ∙ second))

fronts_counted : {f : Form} (d : Parse f) → IsTask f → (xs : List Text) (n : ℕ)
    → counted_from n (body_fronts d) ≡ task_firsts n (whole d xs)
fronts_counted (task_let p x q r e s t) h xs n =
    counted_same n (keyword words.Let p ∷ name x q ∷ symbol signs.Define r ∷ tokens e ++ keyword words.In s ∷ []) (body_fronts t)
    (none_two (tokens e) (keyword words.In s ∷ []) (no_words e tt) refl)
    ∙ fronts_counted t tt (xs ++ x ∷ []) n
fronts_counted (task_if p e q t r u) h xs n =
    let test = keyword words.If p ∷ tokens e ++ keyword words.Then q ∷ [] in
    let quiet = none_two (tokens e) (keyword words.Then q ∷ []) (no_words e tt) refl in
    let front = test ++ (tokens t ++ keyword words.Else r ∷ []) in
    let before = words_second test (tokens t ++ keyword words.Else r ∷ []) quiet
    (words_first (tokens t) (keyword words.Else r ∷ []) (edits_counted t tt xs) refl) in
    counted_both n (behind test (body_fronts t)) (behind front (body_fronts u))
    (counted_same n test (body_fronts t) quiet ∙ fronts_counted t tt xs n)
    (counted_behind n (edit_nodes (whole t xs)) front (body_fronts u) before ∙ fronts_counted u tt xs (n + edit_nodes (whole t xs)))
fronts_counted (task_case p e q r s a t b x i j y k c u) h xs n =
    let lists = keyword words.Case p ∷ tokens e ++ keyword words.Of q ∷ symbol signs.OpenBracket r ∷ symbol signs.CloseBracket s
    ∷ symbol signs.Arrow a ∷ [] in
    let names = symbol signs.Bar b ∷ name x i ∷ symbol signs.Cons j ∷ name y k ∷ symbol signs.Arrow c ∷ [] in
    let quiet = none_two (tokens e)
    (keyword words.Of q ∷ symbol signs.OpenBracket r ∷ symbol signs.CloseBracket s ∷ symbol signs.Arrow a ∷ []) (no_words e tt) refl in
    let front = lists ++ (tokens t ++ names) in
    let before = words_second lists (tokens t ++ names) quiet (words_first (tokens t) names (edits_counted t tt xs) refl) in
    counted_both n (behind lists (body_fronts t)) (behind front (body_fronts u))
    (counted_same n lists (body_fronts t) quiet ∙ fronts_counted t tt xs n)
    (counted_behind n (edit_nodes (whole t xs)) front (body_fronts u) before
    ∙ fronts_counted u tt (xs ++ x ∷ y ∷ []) (n + edit_nodes (whole t xs)))
fronts_counted (task_new p x q r e s t) h xs n =
    counted_same n (keyword words.New p ∷ name x q ∷ symbol signs.Define r ∷ tokens e ++ keyword words.In s ∷ []) (body_fronts t)
    (none_two (tokens e) (keyword words.In s ∷ []) (no_words e tt) refl)
    ∙ fronts_counted t tt (xs ++ x ∷ []) n
fronts_counted (task_put x p q e r t) h xs n =
    counted_same n (name x p ∷ symbol signs.Assign q ∷ tokens e ++ symbol signs.Semicolon r ∷ []) (body_fronts t)
    (none_two (tokens e) (symbol signs.Semicolon r ∷ []) (no_words e tt) refl)
    ∙ fronts_counted t tt xs n
fronts_counted (task_plain t) h xs n = fronts_counted t tt xs n
fronts_counted (task_then t p x q r u) h xs n =
    step_counted t (symbol signs.InternalStep p ∷ name x q ∷ symbol signs.Dot r ∷ []) (body_fronts u) n (edit_nodes (whole t xs))
    (edits_counted t tt xs) refl (fronts_counted t tt xs n) (fronts_counted u tt (xs ++ x ∷ []) (n + edit_nodes (whole t xs)))
fronts_counted (task_next t p x q r u) h xs n =
    step_counted t (symbol signs.UserStep p ∷ name x q ∷ symbol signs.Dot r ∷ []) (body_fronts u) n (edit_nodes (whole t xs))
    (edits_counted t tt xs) refl (fronts_counted t tt xs n) (fronts_counted u tt (xs ++ x ∷ []) (n + edit_nodes (whole t xs)))
fronts_counted (task_edit p e) h xs n = refl
fronts_counted (task_enter p b) h xs n = refl
fronts_counted (task_share p x q) h xs n = refl
fronts_counted (task_fail p b) h xs n = refl
fronts_counted (task_call x p es) h xs n = refl
fronts_counted (task_group p t q) h xs n = counted_same n (symbol signs.Open p ∷ []) (body_fronts t) refl ∙ fronts_counted t tt xs n
fronts_counted (single choice t) h xs n = fronts_counted t tt xs n
fronts_counted (single chain t) h xs n = fronts_counted t tt xs n
fronts_counted (joined choice t internal p u) h xs n =
    both_counted t (operator internal p ∷ []) (body_fronts u) n (edit_nodes (whole t xs))
    (edits_counted t tt xs) refl (fronts_counted t tt xs n) (fronts_counted u tt xs (n + edit_nodes (whole t xs)))
fronts_counted (joined choice t external p u) h xs n =
    let first : n + 0 ≡ n = omega arith in
    both_same (λ y z. y ∷ z) first
    (step_counted t (operator external p ∷ []) (body_fronts u) n (edit_nodes (whole t xs))
    (edits_counted t tt xs) refl (fronts_counted t tt xs n) (fronts_counted u tt xs (n + edit_nodes (whole t xs))))
fronts_counted (joined chain t together p u) h xs n =
    both_counted t (operator together p ∷ []) (body_fronts u) n (edit_nodes (whole t xs))
    (edits_counted t tt xs) refl (fronts_counted t tt xs n) (fronts_counted u tt xs (n + edit_nodes (whole t xs)))
fronts_counted d h xs n = absurd h

-- ---- definitions
module _ (p : ProgramTerm) where
  words_there : (ds : Parse program) (after : List BodyTerm) → PlacesFrom p 0 (bodies_of ds [] 0 ++ after)
      → (edit_words (tokens ds) ≡ all_edits p (meaning ds)) × (counted_from 0 (body_fronts ds) ≡ firsts_in p 0 (meaning ds))
  words_there no_definitions after k = (refl, refl)
  words_there (more_definitions ds (function q x r ps s b i e)) after k =
      let rest = words_there ds after (places_first 0 (bodies_in_place p) 0 (bodies_of ds [] 0) [] after k) in
      let head = none_two (tokens ps ++ symbol signs.Colon s ∷ tokens b) (symbol signs.Define i ∷ tokens e)
      (none_two (tokens ps) (symbol signs.Colon s ∷ tokens b) (no_words ps tt) (no_words b tt)) (no_words e tt) in
      let def = meaning (function q x r ps s b i e) (bodies ds) in (
        words_two (tokens ds) (tokens (function q x r ps s b i e)) rest.0 head ∙ sym (edits_more p (meaning ds) def),
        counted_both 0 (body_fronts ds) [] rest.1 refl ∙ sym (firsts_more p 0 (meaning ds) def),
      )
  words_there (more_definitions ds (task_named q x r ps s b i t)) after k =
      let xs = param_names (meaning ps) in
      let n = 0 + bodies ds in
      let same : n ≡ bodies ds = omega arith in
      let many = bodies_count ds [] 0 in
      let there = places_second 0 (bodies_in_place p) 0 n (bodies_of ds [] 0) (bodies_of t xs n) after (omega (arith, many)) k in
      let is : full_in 0 (bodies_in_place p) (meaning t (bodies ds)) ≡ whole t xs =
      subst (λ m. full_in 0 (bodies_in_place p) (meaning t m) ≡ whole t xs) same (in_place t tt xs n after 0 (bodies_in_place p) there) in
      let rest = words_there ds (bodies_of t xs n ++ after)
      (places_first 0 (bodies_in_place p) 0 (bodies_of ds [] 0) (bodies_of t xs n) after k) in
      let lead = keyword words.Task q ∷ name x r ∷ tokens ps ++ symbol signs.Colon s ∷ tokens b ++ symbol signs.Define i ∷ [] in
      let head = none_two (tokens ps) (symbol signs.Colon s ∷ tokens b) (no_words ps tt) (no_words b tt) in
      let quiet = none_two (tokens ps ++ symbol signs.Colon s ∷ tokens b) (symbol signs.Define i ∷ []) head refl in
      let whole_words =
      words_second (tokens ps ++ symbol signs.Colon s ∷ tokens b) (symbol signs.Define i ∷ tokens t) head (edits_counted t tt xs) in
      let def = meaning (task_named q x r ps s b i t) (bodies ds) in
      let e = all_edits p (meaning ds) in (
        words_two (tokens ds) (tokens (task_named q x r ps s b i t)) rest.0 (whole_words ∙ ap (λ z. edit_nodes z) (sym is))
            ∙ sym (edits_more p (meaning ds) def),
        counted_both 0 (body_fronts ds) (behind (tokens ds) (behind lead (body_fronts t))) rest.1
            (counted_behind 0 e (tokens ds) (behind lead (body_fronts t)) rest.0 ∙ counted_same (0 + e) lead (body_fronts t) quiet
            ∙ fronts_counted t tt xs (0 + e) ∙ ap (λ z. task_firsts (0 + e) z) (sym is))
            ∙ sym (firsts_more p 0 (meaning ds) def),
      )

counted_from_none : (fs : List (List Lexeme)) → counted_from 0 fs ≡ map edit_words fs
counted_from_none [] = refl
counted_from_none (ts ∷ fs) =
    let same : 0 + edit_words ts ≡ edit_words ts = omega arith in both_same (λ y z. y ∷ z) same (counted_from_none fs)

pub fronts : (ds : Parse program) → firsts_of (program_of ds) ≡ map edit_words (body_fronts ds)
fronts ds =
    sym (words_there (program_of ds) ds []
    (subst (λ l. PlacesFrom (program_of ds) 0 l) (sym (append-nil (bodies_of ds [] 0))) (λ j le. refl))).1
    ∙ counted_from_none (body_fronts ds)
