-- Definitions of a program of which all demands are met: they are typed, and found by their names.
use Rattle.std.proofs.Common.{◌≡◌, ℕ, suc, ◌+◌, Bool, true, false, cond, List, [], ◌∷◌, ◌++◌, length, drop, Option, Some, refl, sym, ap, ◌∙◌, subst, append-nil, append_assoc}
use Rattle.std.specs.List.{All}
use Rattle.std.proofs.lemmas.List.{drop-drop}
use Rattle.std.proofs.Math.Seq.{drop-append_seam}
use Rattle.std.proofs.lemmas.List.Elements.{All-head, All-tail}
use Rattle.task_model.specs.Terms.Text.{Text, same_text}
use Rattle.task_model.specs.Terms.Basic.{BasicTerm}
use Rattle.task_model.specs.Terms.Host.{HostTerm}
use Rattle.task_model.specs.Terms.Task.{TaskTerm}
use Rattle.task_model.specs.Terms.Program.{ParamTerm, DefBodyTerm, fun_body, task_body, DefTerm, ProgramTerm}
use Rattle.task_model.specs.Running.Checked.{what_nodes, what_starts, defs_starts, Callee, def_in, function_of, callee_of, param_names}
use Rattle.task_model.specs.Checking.Names.{bind_value, bind_place, Numbered, first_named, CallsTerm, all_open}
use Rattle.task_model.specs.Checking.FullTask.{FullTask, full_edit, full_enter, full_share, full_fail, full_call, full_step, full_and, full_or, full_xor, full_let, full_if, full_case, full_new, full_put, full_absent}
use Rattle.task_model.specs.Checking.TypeFault.{IsMet}
use Rattle.task_model.specs.Checking.TypeOf.{type_of, task_type}
use Rattle.task_model.specs.Checking.TaskDemands.{calls_at, body_demands, from_parameters, definitions, what_types, types_in}
use Rattle.task_model.specs.Checking.Typing.{HasType}
use Rattle.task_model.specs.Checking.TaskTyping.{HasTask}
use Rattle.task_model.specs.Checking.Placed.{IsPlacedIn}
use Rattle.host_types.proofs.TypingLemmas.{first, second, compared_is, typed}
use Rattle.host_types.proofs.TaskTypingLemmas.{task_typed}
use Rattle.typing_laws.specs.Assumed.{task_in_place, IsListed}
use Rattle.typing_laws.proofs.PartLemmas.{all_first, all_second, types_are}

-- ---- what may be called everywhere
-- a task that is typed where some may be named is typed where all may
pub task_opened : (k : CallsTerm) (s : List ParamTerm) (t : FullTask) (b : BasicTerm) → HasTask k s t b → HasTask (all_open k) s t b
task_opened k s (full_edit e) b h = h
task_opened k s (full_enter a) b h = h
task_opened k s (full_share x) b h = h
task_opened k s (full_fail a) b h = h
task_opened k s (full_call f es) b h =
    (h.0, record { first = h.1.first; body = h.1.body; task = h.1.task; open' = refl }, h.2, h.3)
task_opened k s (full_step t xs x u) b h = (h.0, task_opened k s t h.0 h.1, h.2)
task_opened k s (full_and t u) b h = (h.0, h.1, h.2, task_opened k s t h.0 h.3, task_opened k s u h.1 h.4)
task_opened k s (full_or t u) b h = (task_opened k s t b h.0, task_opened k s u b h.1)
task_opened k s (full_xor xs t ys u) b h = h
task_opened k s (full_let x e t) b h = (h.0, h.1, task_opened k (bind_value s x h.0) t b h.2)
task_opened k s (full_if e t u) b h = (h.0, task_opened k s t b h.1, task_opened k s u b h.2)
task_opened k s (full_case e t x y u) b h = (
  h.0,
  h.1,
  h.2,
  h.3,
  task_opened k s t b h.4,
  task_opened k (bind_value
      (bind_value s x h.0) y h.1) u b h.5,
)
task_opened k s (full_new x e t) b h = (h.0, h.1, task_opened k (bind_place s x h.0) t b h.2)
task_opened k s (full_put x e t) b h = (h.0, h.1, h.2, task_opened k s t b h.3)
task_opened k s full_absent b h = absurd h

module _ (p : ProgramTerm) where
  -- the demands of a definition's body are met
  abbrev pub BodyMet : Numbered → Type 0
  BodyMet d = (n : ℕ) × IsMet (body_demands p d.index d.def.params n d.def.result d.def.what)

  parameters_met : (i m : ℕ) (d : DefTerm) (s : List ParamTerm) (n : ℕ) (qs : List ParamTerm) → IsMet (from_parameters p i m d s n qs)
      → (n' : ℕ) × IsMet (body_demands p i (s ++ qs) n' d.result d.what)
  parameters_met i m d s n [] h =
      (n, subst (λ z. IsMet (body_demands p i z n d.result d.what)) (sym (append-nil s)) (second (second h)))
  parameters_met i m d s n (q ∷ qs) h =
      let rest = parameters_met i m d (s ++ q ∷ []) (suc n) qs (second h) in
      (rest.0, subst (λ z. IsMet (body_demands p i z rest.0 d.result d.what)) (append_assoc s (q ∷ []) qs) rest.1)

  pub definition_met : (i n : ℕ) (ds : List DefTerm) → IsMet (definitions p i n ds) → (f : Text) (d : Numbered)
      → first_named i ds f ≡ Some d
      → BodyMet d
  definition_met i n [] h f d e = absurd (cc)
  definition_met i n (x ∷ ds) h f d e = by_test (same_text x.name f) e (definition_met (suc i) _ ds (second h) f d)
    where
      by_test : (b : Bool) → cond b (Some (record { index = i; def = x })) (first_named (suc i) ds f) ≡ Some d
          → (first_named (suc i) ds f ≡ Some d → BodyMet d) → BodyMet d
      by_test false e rest = rest e
      by_test true e rest =
          let here : record { index = i; def = x } ≡ d = cc in
          subst BodyMet here (parameters_met i n x [] (suc n) x.params (second (first h)))

  pub function_typed : (i n : ℕ) (s : List ParamTerm) (b : BasicTerm) (e : HostTerm) → IsMet (body_demands p i s n b (fun_body e))
      → HasType (calls_at p i) s e b
  function_typed i n s b e h =
      subst (HasType (calls_at p i) s e) (compared_is n b (type_of p.defs s e) (second h)) (typed (calls_at p i) s n e (first (first h)))

  pub body_typed : (i n : ℕ) (s : List ParamTerm) (b : BasicTerm) (t : TaskTerm) → IsMet (body_demands p i s n b (task_body t))
      → HasTask (all_open (calls_at p i)) s (task_in_place p t) b
  body_typed i n s b t h =
      let placed = task_in_place p t in
      task_opened (calls_at p i) s placed b
      (subst (HasTask (calls_at p i) s placed) (compared_is n b (task_type p.defs s placed) (second h))
      (task_typed (calls_at p i) s n placed (first (first h))))

  -- ---- names
  pub function_found : (i n : ℕ) (ds : List DefTerm) (f : Text) (d : Numbered) (e : HostTerm) → first_named i ds f ≡ Some d
      → d.def.what ≡ fun_body e
      → def_in p (λ first x. function_of x.params x.what) n ds f ≡ Some (record { params = d.def.params; expr = e })
  function_found i n [] f d e is what = absurd (cc)
  function_found i n (x ∷ ds) f d e is what =
      by_test (same_text x.name f) is (λ z. function_found (suc i) (n + what_nodes p x.what) ds f d e z what)
    where
      by_test : (b : Bool) → cond b (Some (record { index = i; def = x })) (first_named (suc i) ds f) ≡ Some d
          → (first_named (suc i) ds f ≡ Some d → def_in p (λ first z. function_of z.params z.what) (n + what_nodes p x.what) ds f
          ≡ Some (record { params = d.def.params; expr = e }))
          → cond b (function_of x.params x.what) (def_in p (λ first z. function_of z.params z.what) (n + what_nodes p x.what) ds f)
          ≡ Some (record { params = d.def.params; expr = e })
      by_test false z rest = rest z
      by_test true z rest =
          let here : record { index = i; def = x } ≡ d = cc in
          let def : x ≡ d.def = ap (λ (q : Numbered). q.def) here in
          ap (λ (q : DefTerm). function_of q.params q.what) def ∙ ap (function_of d.def.params) what

  -- the task of a name: where its body starts, how its nodes' types are listed, and that its bodies stand there
  pub record TaskFound (types : List BasicTerm) (found : Option Callee) (d : Numbered) (t : TaskTerm) : Type 0 where
    pub first : ℕ
    pub is : found ≡ Some (record { params = d.def.params; task = t; first = first })
    pub behind : List BasicTerm
    pub lists : drop first types ≡ what_types p d.def.params d.def.what ++ behind
    pub placed : IsPlacedIn p (param_names d.def.params) d.def.what
    pub starts : All (IsListed p) (what_starts p first d.def.what)

  what_counted : (s : List ParamTerm) (xs : List Text) (w : DefBodyTerm) → IsPlacedIn p xs w → what_nodes p w ≡ length (what_types p s w)
  what_counted s xs (fun_body e) h = refl
  what_counted s xs (task_body t) h = types_are p s t xs h

  pub task_found : (types : List BasicTerm) (i n : ℕ) (ds : List DefTerm) (f : Text) (d : Numbered) (t : TaskTerm)
      → first_named i ds f ≡ Some d
      → d.def.what ≡ task_body t → drop n types ≡ types_in p ds → All (λ x. IsPlacedIn p (param_names x.params) x.what) ds
      → All (IsListed p) (defs_starts p n ds)
      → TaskFound types (def_in p (λ first x. callee_of x.params first x.what) n ds f) d t
  task_found types i n [] f d t is what lists placed starts = absurd (cc)
  task_found types i n (x ∷ ds) f d t is what lists placed starts =
      let front = what_starts p n x.what in
      let back = defs_starts p (n + what_nodes p x.what) ds in
      let here = All-head (λ z. IsPlacedIn p (param_names z.params) z.what) x ds placed in
      by_test (same_text x.name f) is here (all_first (IsListed p) front back starts)
      (λ z. task_found types (suc i) (n + what_nodes p x.what) ds f d t z what
      (sym (drop-drop (what_nodes p x.what) n types) ∙ ap (λ l. drop (what_nodes p x.what) l) lists
      ∙ ap (λ k. drop k (what_types p x.params x.what ++ types_in p ds)) (what_counted x.params (param_names x.params) x.what here)
      ∙ drop-append_seam (what_types p x.params x.what) (types_in p ds))
      (All-tail (λ z. IsPlacedIn p (param_names z.params) z.what) x ds placed) (all_second (IsListed p) front back starts))
    where
      by_test : (b : Bool) → cond b (Some (record { index = i; def = x })) (first_named (suc i) ds f) ≡ Some d
          → IsPlacedIn p (param_names x.params) x.what → All (IsListed p) (what_starts p n x.what)
          → (first_named (suc i) ds f ≡ Some d
          → TaskFound types (def_in p (λ first z. callee_of z.params first z.what) (n + what_nodes p x.what) ds f) d t)
          → TaskFound types
          (cond b (callee_of x.params n x.what) (def_in p (λ first z. callee_of z.params first z.what) (n + what_nodes p x.what) ds f)) d t
      by_test false z there front rest = rest z
      by_test true z there front rest =
          let here : record { index = i; def = x } ≡ d = cc in
          let def : x ≡ d.def = ap (λ (q : Numbered). q.def) here in
          record {
            first = n;
            is = ap (λ (q : DefTerm). callee_of q.params n q.what) def ∙ ap (callee_of d.def.params n) what;
            behind = types_in p ds;
            lists = lists ∙ ap (λ (q : DefTerm). what_types p q.params q.what ++ types_in p ds) def;
            placed = subst (λ (q : DefTerm). IsPlacedIn p (param_names q.params) q.what) def there;
            starts = subst (λ (q : DefTerm). All (IsListed p) (what_starts p n q.what)) def front;
          }
