-- A parse with other names, numbers and texts in it.
use Rattle.std.proofs.Common.{◌≡◌, ℕ, List, [], ◌∷◌, ◌++◌, map, refl, sym, ap, ◌∙◌}
use Rattle.std.proofs.lemmas.List.{map-append}
use Rattle.task_model.specs.Terms.Text.{Text}
use Rattle.task_model.specs.declared.keyword.Keyword.TheVariants as words
use Rattle.task_model.specs.declared.symbol.Symbol.TheVariants as signs
use Rattle.task_model.specs.Syntax.Lexemes.{Lexeme, keyword, symbol, name, number, quoted_text}
use Rattle.task_model.specs.Syntax.Grammar.{Series, Form, Operator, comma, internal, external, together, or, and, plus, minus, join, times, quot, rem, Prefix, negative, not, fst, snd, len, Parse, no_definitions, more_definitions, function, task_named, value_named, reference_named, scalar_type, pair_type, list_type, task_let, task_if, task_case, task_new, task_put, task_plain, task_then, task_next, task_edit, task_enter, task_share, task_fail, task_call, task_group, let_in, if_then, case_of, plain, uncompared, compared, unlisted, cons, prefixed, unprefixed, digits, quoted, constant, nothing, named, content, call, group, pair, elements, nil, single, joined, empty, full, operator, relation, prefix, tokens, levels}

module _ (a_name : Text → Text) (a_number : Text → Text) (a_quote : Text → Text → Text × Text) where
  -- a token with its name, number or text replaced
  abbrev pub respell : Lexeme → Lexeme
  respell (keyword k p) = keyword k p
  respell (symbol s p) = symbol s p
  respell (name x p) = name (a_name x) p
  respell (number t p) = number (a_number t) p
  respell (quoted_text t v p) = quoted_text (a_quote t v).0 (a_quote t v).1 p

  respelled_operator : {s : Series} (o : Operator s) (p : ℕ) → respell (operator o p) ≡ operator o p
  respelled_operator (comma l) p = refl
  respelled_operator internal p = refl
  respelled_operator external p = refl
  respelled_operator together p = refl
  respelled_operator or p = refl
  respelled_operator and p = refl
  respelled_operator plus p = refl
  respelled_operator minus p = refl
  respelled_operator join p = refl
  respelled_operator times p = refl
  respelled_operator quot p = refl
  respelled_operator rem p = refl

  respelled_prefix : (o : Prefix) (p : ℕ) → respell (prefix o p) ≡ prefix o p
  respelled_prefix negative p = refl
  respelled_prefix not p = refl
  respelled_prefix fst p = refl
  respelled_prefix snd p = refl
  respelled_prefix len p = refl

  -- these tokens are those, respelled
  record Again (new old : List Lexeme) : Type 0 where
    same : new ≡ map respell old

  nothing_again : Again [] []
  nothing_again = record { same = refl }

  -- a token that stays as it is
  kept : {t : Lexeme} {new old : List Lexeme} → respell t ≡ t → Again new old → Again (t ∷ new) (t ∷ old)
  kept {t} {new} {old} e h = record { same = ap (λ u. u ∷ new) (sym e) ∙ ap (λ l. respell t ∷ l) h.same }

  behind : (ts : List Lexeme) {new old : List Lexeme} → Again new old → Again (map respell ts ++ new) (ts ++ old)
  behind ts h = record { same = ap (λ l. map respell ts ++ l) h.same ∙ sym (map-append respell ts _) }

  two : {new old new' old' : List Lexeme} → Again new old → Again new' old' → Again (new ++ new') (old ++ old')
  two {new} {old} {new'} {old'} h k = record {
    same = ap (λ l. l ++ new') h.same ∙ ap (λ l. map respell old ++ l) k.same ∙ sym (map-append respell old old');
  }

  -- three parts, each behind these tokens
  three : (ts us vs : List Lexeme) {a b c a' b' c' : List Lexeme} → Again a' a → Again b' b → Again c' c
      → Again ((map respell ts ++ a') ++ (map respell us ++ b') ++ (map respell vs ++ c')) ((ts ++ a) ++ (us ++ b) ++ (vs ++ c))
  three ts us vs h k l = two (two (behind ts h) (behind us k)) (behind vs l)

  abbrev pub respelled : {f : Form} → Parse f → Parse f
  respelled no_definitions = no_definitions
  respelled (more_definitions ds d) = more_definitions (respelled ds) (respelled d)
  respelled (function p x q ps r b s e) = function p (a_name x) q (respelled ps) r (respelled b) s (respelled e)
  respelled (task_named p x q ps r b s t) = task_named p (a_name x) q (respelled ps) r (respelled b) s (respelled t)
  respelled (value_named x p q b) = value_named (a_name x) p q (respelled b)
  respelled (reference_named x p q r b) = reference_named (a_name x) p q r (respelled b)
  respelled (scalar_type b p) = scalar_type b p
  respelled (pair_type p a q b r) = pair_type p (respelled a) q (respelled b) r
  respelled (list_type p a q) = list_type p (respelled a) q
  respelled (task_let p x q r e s t) = task_let p (a_name x) q r (respelled e) s (respelled t)
  respelled (task_if p e q t r u) = task_if p (respelled e) q (respelled t) r (respelled u)
  respelled (task_case p e q r s a t b x i j y k c u) = task_case p (respelled e) q r s a (respelled t) b (a_name x) i j (a_name y) k c
      (respelled u)
  respelled (task_new p x q r e s t) = task_new p (a_name x) q r (respelled e) s (respelled t)
  respelled (task_put x p q e r t) = task_put (a_name x) p q (respelled e) r (respelled t)
  respelled (task_plain t) = task_plain (respelled t)
  respelled (task_then t p x q r u) = task_then (respelled t) p (a_name x) q r (respelled u)
  respelled (task_next t p x q r u) = task_next (respelled t) p (a_name x) q r (respelled u)
  respelled (task_edit p e) = task_edit p (respelled e)
  respelled (task_enter p b) = task_enter p (respelled b)
  respelled (task_share p x q) = task_share p (a_name x) q
  respelled (task_fail p b) = task_fail p (respelled b)
  respelled (task_call x p es) = task_call (a_name x) p (respelled es)
  respelled (task_group p t q) = task_group p (respelled t) q
  respelled (let_in p x q r e s d) = let_in p (a_name x) q r (respelled e) s (respelled d)
  respelled (if_then p e q a r b) = if_then p (respelled e) q (respelled a) r (respelled b)
  respelled (case_of p e q r s a d b x i j y k c u) = case_of p (respelled e) q r s a (respelled d) b (a_name x) i j (a_name y) k c
      (respelled u)
  respelled (plain e) = plain (respelled e)
  respelled (uncompared a) = uncompared (respelled a)
  respelled (compared a o p b) = compared (respelled a) o p (respelled b)
  respelled (unlisted a) = unlisted (respelled a)
  respelled (cons a p b) = cons (respelled a) p (respelled b)
  respelled (prefixed o p a) = prefixed o p (respelled a)
  respelled (unprefixed a) = unprefixed (respelled a)
  respelled (digits t p) = digits (a_number t) p
  respelled (quoted t v p) = quoted (a_quote t v).0 (a_quote t v).1 p
  respelled (constant b p) = constant b p
  respelled (nothing p q) = nothing p q
  respelled (named x p) = named (a_name x) p
  respelled (content p x q) = content p (a_name x) q
  respelled (call x p es) = call (a_name x) p (respelled es)
  respelled (group p e q) = group p (respelled e) q
  respelled (pair p a q b r) = pair p (respelled a) q (respelled b) r
  respelled (elements p es q) = elements p (respelled es) q
  respelled (nil p b) = nil p (respelled b)
  respelled (single s a) = single s (respelled a)
  respelled (joined s a o p b) = joined s (respelled a) o p (respelled b)
  respelled (empty l p q) = empty l p q
  respelled (full l p es q) = full l p (respelled es) q

  again : {f : Form} (d : Parse f) → Again (tokens (respelled d)) (tokens d)
  again no_definitions = nothing_again
  again (more_definitions ds d) = two (again ds) (again d)
  again (function p x q ps r b s e) = three (keyword words.Fun p ∷ name x q ∷ []) (symbol signs.Colon r ∷ []) (symbol signs.Define s ∷ [])
      (again ps) (again b) (again e)
  again (task_named p x q ps r b s t) = three (keyword words.Task p ∷ name x q ∷ []) (symbol signs.Colon r ∷ [])
      (symbol signs.Define s ∷ []) (again ps) (again b) (again t)
  again (value_named x p q b) = behind (name x p ∷ symbol signs.Colon q ∷ []) (again b)
  again (reference_named x p q r b) = behind (name x p ∷ symbol signs.Colon q ∷ keyword words.Ref r ∷ []) (again b)
  again (scalar_type b p) = record { same = refl }
  again (pair_type p a q b r) = three (symbol signs.Open p ∷ []) (symbol signs.Comma q ∷ []) (symbol signs.Close r ∷ []) (again a)
      (again b) nothing_again
  again (list_type p a q) = two (behind (symbol signs.OpenBracket p ∷ []) (again a))
      (behind (symbol signs.CloseBracket q ∷ []) nothing_again)
  again (task_let p x q r e s t) = two (behind (keyword words.Let p ∷ name x q ∷ symbol signs.Define r ∷ []) (again e))
      (behind (keyword words.In s ∷ []) (again t))
  again (task_if p e q t r u) = three (keyword words.If p ∷ []) (keyword words.Then q ∷ []) (keyword words.Else r ∷ []) (again e)
      (again t) (again u)
  again (task_case p e q r s a t b x i j y k c u) = three (keyword words.Case p ∷ [])
      (keyword words.Of q ∷ symbol signs.OpenBracket r ∷ symbol signs.CloseBracket s ∷ symbol signs.Arrow a ∷ [])
      (symbol signs.Bar b ∷ name x i ∷ symbol signs.Cons j ∷ name y k ∷ symbol signs.Arrow c ∷ []) (again e) (again t) (again u)
  again (task_new p x q r e s t) = two (behind (keyword words.New p ∷ name x q ∷ symbol signs.Define r ∷ []) (again e))
      (behind (keyword words.In s ∷ []) (again t))
  again (task_put x p q e r t) = two (behind (name x p ∷ symbol signs.Assign q ∷ []) (again e))
      (behind (symbol signs.Semicolon r ∷ []) (again t))
  again (task_plain t) = again t
  again (task_then t p x q r u) = two (again t) (behind (symbol signs.InternalStep p ∷ name x q ∷ symbol signs.Dot r ∷ []) (again u))
  again (task_next t p x q r u) = two (again t) (behind (symbol signs.UserStep p ∷ name x q ∷ symbol signs.Dot r ∷ []) (again u))
  again (task_edit p e) = behind (keyword words.Edit p ∷ []) (again e)
  again (task_enter p b) = behind (keyword words.Enter p ∷ []) (again b)
  again (task_share p x q) = record { same = refl }
  again (task_fail p b) = behind (keyword words.Fail p ∷ []) (again b)
  again (task_call x p es) = behind (name x p ∷ []) (again es)
  again (task_group p t q) = two (behind (symbol signs.Open p ∷ []) (again t)) (behind (symbol signs.Close q ∷ []) nothing_again)
  again (let_in p x q r e s d) = two (behind (keyword words.Let p ∷ name x q ∷ symbol signs.Define r ∷ []) (again e))
      (behind (keyword words.In s ∷ []) (again d))
  again (if_then p e q a r b) = three (keyword words.If p ∷ []) (keyword words.Then q ∷ []) (keyword words.Else r ∷ []) (again e)
      (again a) (again b)
  again (case_of p e q r s a d b x i j y k c u) = three (keyword words.Case p ∷ [])
      (keyword words.Of q ∷ symbol signs.OpenBracket r ∷ symbol signs.CloseBracket s ∷ symbol signs.Arrow a ∷ [])
      (symbol signs.Bar b ∷ name x i ∷ symbol signs.Cons j ∷ name y k ∷ symbol signs.Arrow c ∷ []) (again e) (again d) (again u)
  again (plain e) = again e
  again (uncompared a) = again a
  again (compared a o p b) = two (again a) (behind (symbol (relation o) p ∷ []) (again b))
  again (unlisted a) = again a
  again (cons a p b) = two (again a) (behind (symbol signs.Cons p ∷ []) (again b))
  again (prefixed o p a) = kept (respelled_prefix o p) (again a)
  again (unprefixed a) = again a
  again (digits t p) = record { same = refl }
  again (quoted t v p) = record { same = refl }
  again (constant b p) = record { same = refl }
  again (nothing p q) = record { same = refl }
  again (named x p) = record { same = refl }
  again (content p x q) = record { same = refl }
  again (call x p es) = behind (name x p ∷ []) (again es)
  again (group p e q) = two (behind (symbol signs.Open p ∷ []) (again e)) (behind (symbol signs.Close q ∷ []) nothing_again)
  again (pair p a q b r) = three (symbol signs.Open p ∷ []) (symbol signs.Comma q ∷ []) (symbol signs.Close r ∷ []) (again a)
      (again b) nothing_again
  again (elements p es q) = two (behind (symbol signs.OpenBracket p ∷ []) (again es))
      (behind (symbol signs.CloseBracket q ∷ []) nothing_again)
  again (nil p b) = behind (keyword words.Nil p ∷ []) (again b)
  again (single s a) = again a
  again (joined s a o p b) = two (again a) (kept (respelled_operator o p) (again b))
  again (empty l p q) = record { same = refl }
  again (full l p es q) = two (behind (symbol signs.Open p ∷ []) (again es)) (behind (symbol signs.Close q ∷ []) nothing_again)

  pub tokens_respelled : {f : Form} (d : Parse f) → tokens (respelled d) ≡ map respell (tokens d)
  tokens_respelled d = (again d).same

  pub levels_respelled : {f : Form} (d : Parse f) → levels (respelled d) ≡ levels d
  levels_respelled no_definitions = refl
  levels_respelled (more_definitions ds d) = let h0 = levels_respelled ds in let h1 = levels_respelled d in cc
  levels_respelled (function p x q ps r b s e) = let h0 = levels_respelled ps in let h1 = levels_respelled b in
      let h2 = levels_respelled e in cc
  levels_respelled (task_named p x q ps r b s t) = let h0 = levels_respelled ps in let h1 = levels_respelled b in
      let h2 = levels_respelled t in cc
  levels_respelled (value_named x p q b) = levels_respelled b
  levels_respelled (reference_named x p q r b) = levels_respelled b
  levels_respelled (scalar_type b p) = refl
  levels_respelled (pair_type p a q b r) = let h0 = levels_respelled a in let h1 = levels_respelled b in cc
  levels_respelled (list_type p a q) = let h0 = levels_respelled a in cc
  levels_respelled (task_let p x q r e s t) = let h0 = levels_respelled e in let h1 = levels_respelled t in cc
  levels_respelled (task_if p e q t r u) = let h0 = levels_respelled e in let h1 = levels_respelled t in let h2 = levels_respelled u in cc
  levels_respelled (task_case p e q r s a t b x i j y k c u) = let h0 = levels_respelled e in let h1 = levels_respelled t in
      let h2 = levels_respelled u in cc
  levels_respelled (task_new p x q r e s t) = let h0 = levels_respelled e in let h1 = levels_respelled t in cc
  levels_respelled (task_put x p q e r t) = let h0 = levels_respelled e in let h1 = levels_respelled t in cc
  levels_respelled (task_plain t) = levels_respelled t
  levels_respelled (task_then t p x q r u) = let h0 = levels_respelled t in let h1 = levels_respelled u in cc
  levels_respelled (task_next t p x q r u) = let h0 = levels_respelled t in let h1 = levels_respelled u in cc
  levels_respelled (task_edit p e) = let h0 = levels_respelled e in cc
  levels_respelled (task_enter p b) = let h0 = levels_respelled b in cc
  levels_respelled (task_share p x q) = refl
  levels_respelled (task_fail p b) = let h0 = levels_respelled b in cc
  levels_respelled (task_call x p es) = let h0 = levels_respelled es in cc
  levels_respelled (task_group p t q) = let h0 = levels_respelled t in cc
  levels_respelled (let_in p x q r e s d) = let h0 = levels_respelled e in let h1 = levels_respelled d in cc
  levels_respelled (if_then p e q a r b) = let h0 = levels_respelled e in let h1 = levels_respelled a in let h2 = levels_respelled b in cc
  levels_respelled (case_of p e q r s a d b x i j y k c u) = let h0 = levels_respelled e in let h1 = levels_respelled d in
      let h2 = levels_respelled u in cc
  levels_respelled (plain e) = levels_respelled e
  levels_respelled (uncompared a) = levels_respelled a
  levels_respelled (compared a o p b) = let h0 = levels_respelled a in let h1 = levels_respelled b in cc
  levels_respelled (unlisted a) = levels_respelled a
  levels_respelled (cons a p b) = let h0 = levels_respelled a in let h1 = levels_respelled b in cc
  levels_respelled (prefixed o p a) = let h0 = levels_respelled a in cc
  levels_respelled (unprefixed a) = levels_respelled a
  levels_respelled (digits t p) = refl
  levels_respelled (quoted t v p) = refl
  levels_respelled (constant b p) = refl
  levels_respelled (nothing p q) = refl
  levels_respelled (named x p) = refl
  levels_respelled (content p x q) = refl
  levels_respelled (call x p es) = let h0 = levels_respelled es in cc
  levels_respelled (group p e q) = let h0 = levels_respelled e in cc
  levels_respelled (pair p a q b r) = let h0 = levels_respelled a in let h1 = levels_respelled b in cc
  levels_respelled (elements p es q) = let h0 = levels_respelled es in cc
  levels_respelled (nil p b) = let h0 = levels_respelled b in cc
  levels_respelled (single s a) = levels_respelled a
  levels_respelled (joined s a o p b) = let h0 = levels_respelled a in let h1 = levels_respelled b in cc
  levels_respelled (empty l p q) = refl
  levels_respelled (full l p es q) = levels_respelled es
