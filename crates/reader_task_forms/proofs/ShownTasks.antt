-- What the productions of tasks show, from what their parts do.
use Rattle.std.proofs.Common.{◌≡◌, ℕ, suc, ◌+◌, ◌≤◌, max, List, [], ◌∷◌, ◌++◌, length, Ok, refl, sym, ap, ◌∙◌, arith}
use Rattle.std.specs.Prelude.{None, Some}
use Rattle.task_model.specs.Terms.Text.{Text}
use Rattle.task_model.specs.Terms.Host.{HostTerm}
use Rattle.task_model.specs.Terms.Basic.{BasicTerm}
use Rattle.task_model.specs.Terms.Task.{TaskTerm}
use Rattle.task_model.specs.Terms.Task as tasks
use Rattle.task_model.specs.Syntax.Lexemes.{Lexeme}
use Rattle.task_model.specs.Syntax.Grammar.{Form, task, task_atom, series, choice, chain, expression, Operator, internal, external, Parse, task_let, task_if, task_case, task_new, task_put, task_then, task_next, task_edit, task_enter, task_share, task_fail, task_call, task_group, atom, basic, enclosed, arguments, joined, levels}
use Rattle.task_model.specs.Syntax.Meaning.{meaning, bodies, bodies_of}
use Rattle.task_model.specs.Syntax.Nodes.{start}
use Rattle.reader_grammar.specs.Languages.{Reads}
use Rattle.reader_grammar.specs.Parts.{ParsedTerm, parsed, shown, shown_type, Listed, shown_list, one_part, both_parts, node, leaf, over_type, over_list, over_one, over_two, over_three, grouped}
use Rattle.reader_grammar.proofs.StartLemmas.{start_joined, start_then, start_next}
use Rattle.reader_tasks.specs.declared.step.Step.{Step}
use Rattle.reader_tasks.specs.declared.step.Step.TheVariants.{ByItself, ByUser}
use Rattle.reader_tasks.specs.declared.binding.Binding.{Binding}
use Rattle.reader_tasks.specs.declared.binding.Binding.TheVariants.{Let, New}
use Rattle.reader_tasks.specs.TaskOperators.{stepped, bound_task}
use Rattle.reader_tasks.specs.Numbers.{renumbered, parsed_renumbered}
use Rattle.reader_tasks.specs.Tasks.{shown_task, shown_atom, shown_chain, shown_choice, body_part, external_choice, chosen_task, choice_number, followed_task}
use Rattle.task_model.proofs.BodyCounts.{bodies_count}
use Rattle.reader_task_forms.proofs.NumberLemmas.{term_next, bodies_next}
use Rattle.reader_task_forms.proofs.StepRules.{step_parse}
use Rattle.reader_task_forms.proofs.TaskRules.{binding_parse}
use Rattle.reader_expressions.proofs.ReadingLemmas.{count_within}

-- the number behind the bodies of a task
behind : {f : Form} (d : Parse f) (scope : List Text) (next : ℕ) (t : TaskTerm) {left : ParsedTerm TaskTerm} {number : ℕ}
    → parsed t (bodies_of d scope next) d ≡ left → number ≡ next + length left.bodies → number ≡ next + bodies d
behind d scope next t e n = n ∙ ap (λ q. next + length q.bodies) (sym e) ∙ ap (λ k. next + k) (bodies_count d scope next)

one_more : (n : ℕ) → suc n ≡ 1 + n
one_more n = omega arith

abbrev placed : ParsedTerm TaskTerm → ℕ → ℕ → ParsedTerm TaskTerm
placed w n p = record { term = w.term; levels = n; start = p; places = w.places; bodies = w.bodies }

-- the same from the place where it starts
started : (w : ParsedTerm TaskTerm) (p : ℕ) → w.start ≡ p → w ≡ placed w w.levels p
started w p e = ap (λ q. placed w w.levels q) e

-- the same with its levels written as the code counts them
raised : (w : ParsedTerm TaskTerm) (n : ℕ) → w.levels ≡ suc n → w ≡ placed w (1 + n) w.start
raised w n e = ap (λ l. placed w l w.start) (e ∙ one_more n)

module _ (scope : List Text) (next : ℕ) where
  pub chain_shown : {number : ℕ} {left right : ParsedTerm TaskTerm} (x : Parse (series chain)) (o : Operator chain) (p : ℕ)
      (y : Parse task_atom)
      → number ≡ next + length left.bodies → shown_chain scope next x ≡ left → shown_atom scope number y ≡ right
      → shown_chain scope next (joined chain x o p y) ≡ over_two tasks.and_task left.start left right
  chain_shown {number = number} {left = left} x o p y n ex ey =
      started (shown_chain scope next (joined chain x o p y)) (start x) (start_joined chain x o p y)
      ∙ ap (λ k. over_two tasks.and_task (start x) (shown_chain scope next x) (shown_atom scope k y))
      (sym (behind x scope next (meaning x next) ex n))
      ∙ ap (λ q. over_two tasks.and_task q.start q (shown_atom scope number y)) ex ∙ ap (λ q. over_two tasks.and_task left.start left q) ey

  -- a side of `<?>`, where its body has taken the number before
  moved : (x : Parse (series choice)) → shown_choice scope (suc next) x ≡ parsed_renumbered (shown_choice scope next x)
  moved x =
      ap (λ t. parsed t (bodies_of x scope (suc next)) x) (term_next x next)
      ∙ ap (λ b. parsed (renumbered (meaning x next)) b x) (bodies_next x scope next)

  -- both sides of `<?>`, from the left one with its numbers
  abbrev sides : ParsedTerm TaskTerm → ℕ → ParsedTerm TaskTerm → ParsedTerm TaskTerm
  sides left inside right = node (tasks.xor_task next inside) left.start
      (both_parts (body_part scope None left) (body_part scope None right))

  external_shown : {number : ℕ} {left right : ParsedTerm TaskTerm} (x : Parse (series choice)) (p : ℕ) (y : Parse (series chain))
      → number ≡ suc (suc (next + length left.bodies)) → shown_choice scope next x ≡ left → shown_chain scope number y ≡ right
      → shown_choice scope next (joined choice x external p y) ≡ external_choice scope next left right
  external_shown {number = number} {left = left} {right = right} x p y n ex ey =
      let count : length left.bodies ≡ bodies x = ap (λ q. length q.bodies) (sym ex) ∙ bodies_count x scope next in
      let inside : suc (suc (next + bodies x)) ≡ number = ap (λ k. suc (suc (next + k))) (sym count) ∙ sym n in
      started (shown_choice scope next (joined choice x external p y)) (start x) (start_joined choice x external p y)
      ∙ ap (λ k. sides (shown_choice scope (suc next) x) (suc (next + bodies x)) (shown_chain scope k y)) inside
      ∙ ap (λ q. sides (shown_choice scope (suc next) x) (suc (next + bodies x)) q) ey
      ∙ ap (λ q. sides q (suc (next + bodies x)) right) (moved x)
      ∙ ap (λ k. sides (parsed_renumbered (shown_choice scope next x)) (suc (next + k)) right) (sym (bodies_count x scope next))
      ∙ ap (λ q. external_choice scope next q right) ex

  pub choice_shown : {number : ℕ} {left right : ParsedTerm TaskTerm} (x : Parse (series choice)) (o : Operator choice) (p : ℕ)
      (y : Parse (series chain))
      → number ≡ choice_number o next (length left.bodies) → shown_choice scope next x ≡ left → shown_chain scope number y ≡ right
      → shown_choice scope next (joined choice x o p y) ≡ chosen_task scope next o left right
  choice_shown {number = number} {left = left} x internal p y n ex ey =
      started (shown_choice scope next (joined choice x internal p y)) (start x) (start_joined choice x internal p y)
      ∙ ap (λ k. over_two tasks.or_task (start x) (shown_choice scope next x) (shown_chain scope k y))
      (sym (behind x scope next (meaning x next) ex n))
      ∙ ap (λ q. over_two tasks.or_task q.start q (shown_chain scope number y)) ex ∙ ap (λ q. over_two tasks.or_task left.start left q) ey
  choice_shown x external p y n ex ey = external_shown x p y n ex ey

  pub chosen_levels : (o : Operator choice) (t u : ParsedTerm TaskTerm) → (chosen_task scope next o t u).levels ≡ 1 + max t.levels u.levels
  chosen_levels internal t u = refl
  chosen_levels external t u = refl

  -- a step to a body of this number
  abbrev step_to : Step → Text → ParsedTerm TaskTerm → ℕ → ParsedTerm TaskTerm → ParsedTerm TaskTerm
  step_to o x left body right = node (stepped o left.term body) left.start (both_parts (one_part left) (body_part scope (Some x) right))

  step_is : (t : Parse (series choice)) (o : Step) (p : ℕ) (x : Text) (q r : ℕ) (u : Parse task)
      → shown_task scope next (step_parse t o p x q r u) ≡ step_to o x (shown_choice scope next t) (next + bodies t)
      (shown_task (scope ++ x ∷ []) (suc (next + bodies t)) u)
  step_is t ByItself p x q r u =
      let w : ParsedTerm TaskTerm = shown_task scope next (task_then t p x q r u) in
      raised w (max (levels t) (levels u)) refl ∙ ap (λ s. placed w (1 + max (levels t) (levels u)) s) (start_then t p x q r u)
  step_is t ByUser p x q r u =
      let w : ParsedTerm TaskTerm = shown_task scope next (task_next t p x q r u) in
      raised w (max (levels t) (levels u)) refl ∙ ap (λ s. placed w (1 + max (levels t) (levels u)) s) (start_next t p x q r u)

  pub step_shown : {number : ℕ} {left right : ParsedTerm TaskTerm} {text : Text} (t : Parse (series choice)) (o : Step) (p : ℕ) (x : Text)
      (q r : ℕ) (u : Parse task)
      → text ≡ x → number ≡ suc (next + length left.bodies) → shown_choice scope next t ≡ left → shown_task (scope ++ text ∷ []) number u
      ≡ right
      → shown_task scope next (step_parse t o p x q r u) ≡ followed_task scope next o text left right
  step_shown {number = number} {left = left} {right = right} {text = text} t o p x q r u named n et eu =
      let count : length left.bodies ≡ bodies t = ap (λ q. length q.bodies) (sym et) ∙ bodies_count t scope next in
      let inside : suc (next + bodies t) ≡ number = ap (λ k. suc (next + k)) (sym count) ∙ sym n in
      step_is t o p x q r u
      ∙ ap (λ n. step_to o n (shown_choice scope next t) (next + bodies t) (shown_task (scope ++ n ∷ []) (suc (next + bodies t)) u))
      (sym named)
      ∙ ap (λ k. step_to o text (shown_choice scope next t) (next + bodies t) (shown_task (scope ++ text ∷ []) k u)) inside
      ∙ ap (λ w. step_to o text (shown_choice scope next t) (next + bodies t) w) eu
      ∙ ap (λ k. step_to o text (shown_choice scope next t) (next + k) right) (sym (bodies_count t scope next))
      ∙ ap (λ w. followed_task scope next o text w right) et

  pub if_shown : {number : ℕ} {test : ParsedTerm HostTerm} {yes' no' : ParsedTerm TaskTerm} (p : ℕ) (e : Parse expression) (q : ℕ)
      (t : Parse task) (r : ℕ) (u : Parse task)
      → shown e ≡ test → number ≡ next + length yes'.bodies → shown_task scope next t ≡ yes' → shown_task scope number u ≡ no'
      → shown_task scope next (task_if p e q t r u) ≡ over_three tasks.if_task p test yes' no'
  if_shown {number = number} {test = test} {yes' = yes'} p e q t r u ee n et eu =
      raised (shown_task scope next (task_if p e q t r u)) (max (levels e) (max (levels t) (levels u))) refl
      ∙ ap (λ k. over_three tasks.if_task p (shown e) (shown_task scope next t) (shown_task scope k u))
      (sym (behind t scope next (meaning t next) et n))
      ∙ ap (λ w. over_three tasks.if_task p w (shown_task scope next t) (shown_task scope number u)) ee
      ∙ ap (λ w. over_three tasks.if_task p test w (shown_task scope number u)) et ∙ ap (λ w. over_three tasks.if_task p test yes' w) eu

  pub case_shown : {number : ℕ} {list' : ParsedTerm HostTerm} {yes' no' : ParsedTerm TaskTerm} {head' tail' : Text} {inside : List Text}
      (p : ℕ) (e : Parse expression) (q r s a : ℕ) (t : Parse task) (b : ℕ) (x : Text) (i j : ℕ) (y : Text) (k c : ℕ) (u : Parse task)
      → head' ≡ x → tail' ≡ y → shown e ≡ list' → inside ≡ scope ++ head' ∷ tail' ∷ [] → number ≡ next + length yes'.bodies
      → shown_task scope next t ≡ yes' → shown_task inside number u ≡ no'
      → shown_task scope next (task_case p e q r s a t b x i j y k c u) ≡ over_three (λ l v w. tasks.case_task l v head' tail' w) p list'
      yes' no'
  case_shown {number = number} {list' = list'} {yes' = yes'} {head' = head'} {tail' = tail'} {inside = inside} p e q r s a t b x i j y k c u
      named_head named_tail ee is n et eu =
      raised (shown_task scope next (task_case p e q r s a t b x i j y k c u)) (max (levels e) (max (levels t) (levels u))) refl
      ∙ ap (λ n. over_three (λ l v w. tasks.case_task l v n y w) p (shown e) (shown_task scope next t)
      (shown_task (scope ++ n ∷ y ∷ []) (next + bodies t) u)) (sym named_head)
      ∙ ap (λ n. over_three (λ l v w. tasks.case_task l v head' n w) p (shown e) (shown_task scope next t)
      (shown_task (scope ++ head' ∷ n ∷ []) (next + bodies t) u)) (sym named_tail)
      ∙ ap (λ m. over_three (λ l v w. tasks.case_task l v head' tail' w) p (shown e) (shown_task scope next t)
      (shown_task (scope ++ head' ∷ tail' ∷ []) m u))
      (sym (behind t scope next (meaning t next) et n))
      ∙ ap (λ m. over_three (λ l v w. tasks.case_task l v head' tail' w) p (shown e) (shown_task scope next t) (shown_task m number u))
      (sym is)
      ∙ ap (λ w. over_three (λ l v w. tasks.case_task l v head' tail' w) p w (shown_task scope next t) (shown_task inside number u)) ee
      ∙ ap (λ w. over_three (λ l v w. tasks.case_task l v head' tail' w) p list' w (shown_task inside number u)) et
      ∙ ap (λ w. over_three (λ l v w. tasks.case_task l v head' tail' w) p list' yes' w) eu

  binding_is : (b : Binding) (p : ℕ) (x : Text) (q r : ℕ) (e : Parse expression) (i : ℕ) (t : Parse task)
      → shown_task scope next (binding_parse b p x q r e i t)
      ≡ over_two (bound_task b x) p (shown e) (shown_task (scope ++ x ∷ []) next t)
  binding_is Let p x q r e i t = raised (shown_task scope next (task_let p x q r e i t)) (max (levels e) (levels t)) refl
  binding_is New p x q r e i t = raised (shown_task scope next (task_new p x q r e i t)) (max (levels e) (levels t)) refl

  pub binding_shown : (b : Binding) {value : ParsedTerm HostTerm} {body : ParsedTerm TaskTerm} {text : Text} {inside : List Text} (p : ℕ)
      (x : Text) (q r : ℕ) (e : Parse expression) (i : ℕ) (t : Parse task)
      → text ≡ x → inside ≡ scope ++ text ∷ [] → shown e ≡ value → shown_task inside next t ≡ body
      → shown_task scope next (binding_parse b p x q r e i t) ≡ over_two (bound_task b text) p value body
  binding_shown b {value = value} {text = text} {inside = inside} p x q r e i t named is ee et =
      binding_is b p x q r e i t
      ∙ ap (λ n. over_two (bound_task b n) p (shown e) (shown_task (scope ++ n ∷ []) next t)) (sym named)
      ∙ ap (λ m. over_two (bound_task b text) p (shown e) (shown_task m next t)) (sym is)
      ∙ ap (λ w. over_two (bound_task b text) p w (shown_task inside next t)) ee ∙ ap (λ w. over_two (bound_task b text) p value w) et

  pub put_shown : {value : ParsedTerm HostTerm} {body : ParsedTerm TaskTerm} {text : Text} (x : Text) (p q : ℕ) (e : Parse expression)
      (r : ℕ) (t : Parse task)
      → text ≡ x → shown e ≡ value → shown_task scope next t ≡ body → shown_task scope next (task_put x p q e r t)
      ≡ over_two (tasks.put_task text) p value body
  put_shown {value = value} {text = text} x p q e r t named ee et =
      raised (shown_task scope next (task_put x p q e r t)) (max (levels e) (levels t)) refl
      ∙ ap (λ n. over_two (tasks.put_task n) p (shown e) (shown_task scope next t)) (sym named)
      ∙ ap (λ w. over_two (tasks.put_task text) p w (shown_task scope next t)) ee ∙ ap (λ w. over_two (tasks.put_task text) p value w) et

  pub group_shown : {inner : ParsedTerm TaskTerm} (p : ℕ) (t : Parse task) (q : ℕ) → shown_task scope next t ≡ inner
      → shown_atom scope next (task_group p t q) ≡ grouped p inner
  group_shown p t q et = raised (shown_atom scope next (task_group p t q)) (levels t) refl ∙ ap (λ w. grouped p w) et

  pub edit_shown : {value : ParsedTerm HostTerm} (p : ℕ) (e : Parse atom) → shown e ≡ value → shown_atom scope next (task_edit p e)
      ≡ over_one tasks.edit p value
  edit_shown p e ee = raised (shown_atom scope next (task_edit p e)) (levels e) refl ∙ ap (λ w. over_one tasks.edit p w) ee

  pub enter_shown : {item : BasicTerm × ℕ} (p : ℕ) (b : Parse basic) → shown_type b ≡ item → shown_atom scope next (task_enter p b)
      ≡ over_type tasks.enter p item
  enter_shown p b eb = raised (shown_atom scope next (task_enter p b)) (levels b) refl ∙ ap (λ w. over_type tasks.enter p w) eb

  pub fail_shown : {item : BasicTerm × ℕ} (p : ℕ) (b : Parse basic) → shown_type b ≡ item → shown_atom scope next (task_fail p b)
      ≡ over_type tasks.fail p item
  fail_shown p b eb = raised (shown_atom scope next (task_fail p b)) (levels b) refl ∙ ap (λ w. over_type tasks.fail p w) eb

  pub share_shown : (p : ℕ) (x : Text) (q : ℕ) → shown_atom scope next (task_share p x q) ≡ leaf (tasks.share x) p
  share_shown p x q = refl

  pub call_shown : {items : Listed (List HostTerm)} (x : Text) (p : ℕ) (es : Parse (enclosed arguments)) → shown_list es ≡ items
      → shown_atom scope next (task_call x p es) ≡ over_list (tasks.call_task x) p items
  call_shown x p es ee = raised (shown_atom scope next (task_call x p es)) (levels es) refl ∙ ap (λ w. over_list (tasks.call_task x) p w) ee

-- a part's levels fit its room
pub levels_within : {f : Form} {room : ℕ} {ts rest : List Lexeme} {left : ParsedTerm TaskTerm} (show : Parse f → ParsedTerm TaskTerm)
    → ((d : Parse f) → (show d).levels ≡ levels d) → Reads f show room ts (Ok (left, rest)) → left.levels ≤ room
levels_within show same h = count_within show (λ s. s.levels) same h
