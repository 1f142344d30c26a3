-- What may be evaluated, and the bodies of a task that stands in a program.
use Rattle.std.proofs.Common.{◌≡◌, ℕ, ◌+◌, List, [], ◌∷◌, ◌++◌, drop, Option, Some, None, refl, sym, ap, ◌∙◌, subst}
use Rattle.std.specs.Prelude.{slice_get}
use Rattle.std.specs.List.{All}
use Rattle.std.proofs.lemmas.List.{map-append}
use Rattle.std.proofs.lemmas.List.Elements.{All-head, All-tail}
use Rattle.task_model.specs.Terms.Text.{Text}
use Rattle.task_model.specs.Terms.Basic.{BasicTerm}
use Rattle.task_model.specs.Terms.Value.{ValueTerm}
use Rattle.task_model.specs.Terms.Env.{SlotTerm, plain_slot, EnvTerm}
use Rattle.task_model.specs.Terms.Task.{TaskTerm, xor_task, BodyTerm}
use Rattle.task_model.specs.Terms.Program.{plain_kind, ParamTerm, ProgramTerm}
use Rattle.task_model.specs.Running.Checked.{CheckedTerm, Start, starts_in, nodes_of, body_nodes, counts_of, param_names, names_with}
use Rattle.task_model.specs.Checking.Names.{bind_value}
use Rattle.task_model.specs.Running.Rules.{later}
use Rattle.task_model.specs.Checking.FullTask.{FullTask, full_body_numbered, step_over, sides_of}
use Rattle.task_model.specs.Checking.TypeOf.{listed_types, task_type}
use Rattle.task_model.specs.Checking.TaskDemands.{bodies_in_place}
use Rattle.task_model.specs.Checking.TaskTyping.{HasTask}
use Rattle.task_model.specs.Checking.Placed.{Placed}
use Rattle.task_model.specs.Checking.ProgramParts.{ProgramPart, task_part, body_part, in_scope, task_of_body, body_parts, type_there, parts_in, IsPart, inside}
use Rattle.task_model.specs.Checking.Fits.{StoreHas, SlotsHave, EnvHas, any_call, TaskFits, BindsAs, LaterHas}
use Rattle.task_laws.proofs.ParseLemmas.{both}
use Rattle.host_types.proofs.CountLemmas.{counted}
use Rattle.typing_laws.specs.Texts.{TaskTextsAreShort}
use Rattle.typing_laws.specs.Assumed.{task_in_place, IsListed, SidesBindNothing, StandsIn, EvaluationFits}
use Rattle.typing_laws.proofs.OperatorLemmas.{Has}
use Rattle.typing_laws.proofs.FitLemmas.{slots_push}
use Rattle.typing_laws.proofs.UniqueLemmas.{task_type_is}
use Rattle.typing_laws.proofs.PartLemmas.{drop_first, drop_second, all_first, all_second, step_there, sides_there, body_nodes_are, types_are}
use Rattle.typing_laws.proofs.ValueLemmas.{types_at}

-- ---- parts
-- what stands in a part is one
pub part_of : {p : ProgramTerm} {s : List ParamTerm} {q : ProgramPart} (k : ℕ) (s' : List ParamTerm) (q' : ProgramPart) → IsPart p s q
    → slice_get (parts_in p s q) k ≡ Some (in_scope s' q') → IsPart p s' q'
part_of {s = s} {q = q} k s' q' h e = inside s q k (in_scope s' q') s' q' h e refl refl

body_task : (s : List ParamTerm) (o : Option Text) (a : Option BasicTerm) (inner : List ParamTerm) (t : TaskTerm) → BindsAs s o a inner
    → slice_get (task_of_body s o a t) 0 ≡ Some (in_scope inner (task_part t))
body_task s None None inner t h = ap (λ z. Some (in_scope z (task_part t))) (sym h)
body_task s (Some x) (Some a) inner t h = ap (λ z. Some (in_scope z (task_part t))) (sym h)
body_task s None (Some a) inner t h = absurd h
body_task s (Some x) None inner t h = absurd h

-- and so is the task of a body
pub part_of_body : (p : ProgramTerm) (s : List ParamTerm) (j : ℕ) (a : Option BasicTerm) (d : BodyTerm) (inner : List ParamTerm)
    → IsPart p s (body_part j a) → slice_get p.bodies j ≡ Some d → BindsAs s d.binder a inner → IsPart p inner (task_part d.task)
part_of_body p s j a d inner h is binds =
    part_of 0 inner (task_part d.task) h
    (subst (λ z. slice_get (body_parts s a z) 0 ≡ Some (in_scope inner (task_part d.task))) (sym is)
    (body_task s d.binder a inner d.task binds))

-- ---- the names of a body's task, and its slots
pub names_bound : (s : List ParamTerm) (xs : List Text) (o : Option Text) (a : Option BasicTerm) (inner : List ParamTerm)
    → BindsAs s o a inner
    → xs ≡ param_names s → names_with o xs ≡ param_names inner
names_bound s xs None None inner h e = e ∙ ap param_names (sym h)
names_bound s xs (Some x) (Some a) inner h e =
    ap (λ z. z ++ x ∷ []) e ∙ sym (map-append (λ q. q.name) s (record { name = x; kind = plain_kind a } ∷ [])) ∙ ap param_names (sym h)
names_bound s xs None (Some a) inner h e = absurd h
names_bound s xs (Some x) None inner h e = absurd h

pub slots_bound : (Σ : List BasicTerm) (s : List ParamTerm) (ss : List SlotTerm) (o : Option Text) (v : ValueTerm) (a : BasicTerm)
    (inner : List ParamTerm) → BindsAs s o (Some a) inner → SlotsHave Σ ss s → Has v a → SlotsHave Σ (ss ++ plain_slot v ∷ []) inner
slots_bound Σ s ss None v a inner h q g = absurd h
slots_bound Σ s ss (Some x) v a inner h q g =
    subst (SlotsHave Σ (ss ++ plain_slot v ∷ [])) (sym h) (slots_push Σ ss s (plain_slot v) (record { name = x; kind = plain_kind a }) q g)

pub slots_kept : (Σ : List BasicTerm) (s : List ParamTerm) (ss : List SlotTerm) (o : Option Text) (inner : List ParamTerm)
    → BindsAs s o None inner → SlotsHave Σ ss s → SlotsHave Σ ss inner
slots_kept Σ s ss None inner h q = subst (SlotsHave Σ ss) (sym h) q
slots_kept Σ s ss (Some x) inner h q = absurd h

module _ (c : CheckedTerm) where
  -- a task with the program's bodies in place
  abbrev pub placed_task : TaskTerm → FullTask
  placed_task t = task_in_place c.program t

  abbrev pub listed : List ParamTerm → FullTask → List BasicTerm
  listed s t = listed_types c.program.defs s t

  abbrev pub Typed : List ParamTerm → FullTask → BasicTerm → Type 0
  Typed s t b = HasTask (any_call c.program) s t b

  pub evaluation : (Σ : List BasicTerm) (t : TaskTerm) (env : EnvTerm) (σ : List ValueTerm) (s : List ParamTerm) (b : BasicTerm)
      → IsPart c.program s (task_part t) → TaskFits c s env.first (placed_task t) b → StandsIn c.program env.names env.first t
      → EnvHas Σ env s → StoreHas σ Σ → EvaluationFits c (types_at Σ b) t env σ
  evaluation Σ t env σ s b q f g n h = record { scope = s; part = q; fits = f; stands = g; names = n; store = h }

  -- ---- two parts, the second behind the first
  pub two_fit : (s s' : List ParamTerm) (n : ℕ) (t u : TaskTerm) (xs : List Text) (a d : BasicTerm) (behind : List BasicTerm)
      → drop n c.types ≡ (listed s (placed_task t) ++ listed s' (placed_task u)) ++ behind → Placed xs (placed_task t)
      → Typed s (placed_task t) a → Typed s' (placed_task u) d
      → TaskFits c s n (placed_task t) a × TaskFits c s' (n + nodes_of c.program t) (placed_task u) d
  two_fit s s' n t u xs a d behind e p h q = (
    record {
      typed = h;
      behind = listed s' (placed_task u) ++ behind;
      lists = drop_first (listed s (placed_task t)) (listed s' (placed_task u)) behind c.types n e;
    },
    record {
      typed = q;
      behind = behind;
      lists = drop_second (listed s (placed_task t)) (listed s' (placed_task u)) behind c.types n (nodes_of c.program t)
          (types_are c.program s t xs p) e;
    },
  )

  pub two_stand : (xs ys : List Text) (n : ℕ) (t u : TaskTerm) → Placed xs (placed_task t) → Placed ys (placed_task u)
      → All (IsListed c.program) (starts_in c.program n t ++ starts_in c.program (n + nodes_of c.program t) u)
      → SidesBindNothing c.program t × SidesBindNothing c.program u → TaskTextsAreShort t × TaskTextsAreShort u
      → StandsIn c.program xs n t × StandsIn c.program ys (n + nodes_of c.program t) u
  two_stand xs ys n t u p q a s x =
      let left = starts_in c.program n t in
      let right = starts_in c.program (n + nodes_of c.program t) u in (
        record { placed = p; starts = all_first (IsListed c.program) left right a; sides = s.0; texts = x.0 },
        record { placed = q; starts = all_second (IsListed c.program) left right a; sides = s.1; texts = x.1 },
      )

  -- ---- a step, and its body
  pub step_parts : (Σ : List BasicTerm) (t : TaskTerm) (j : ℕ) (env : EnvTerm) (σ : List ValueTerm) (s : List ParamTerm) (b : BasicTerm)
      → IsPart c.program s (task_part t) → IsPart c.program s (body_part j (Some (type_there c.program s t)))
      → TaskFits c s env.first (step_over (placed_task t) (full_body_numbered 0 (bodies_in_place c.program) j)) b
      → Placed env.names (step_over (placed_task t) (full_body_numbered 0 (bodies_in_place c.program) j))
      → All (IsListed c.program)
      (starts_in c.program env.first t ++ record { body = j; first = env.first + nodes_of c.program t } ∷ [])
      → SidesBindNothing c.program t → TaskTextsAreShort t → EnvHas Σ env s → StoreHas σ Σ
      → (a : BasicTerm) × EvaluationFits c (types_at Σ a) t env σ × LaterHas c Σ (later j env) (Some a) b
  step_parts Σ t j env σ s b left right f p starts sides texts n h =
      let T = placed_task t in
      let o = full_body_numbered 0 (bodies_in_place c.program) j in
      let there = step_there env.names T o p in
      let u = there.body.task in
      let typed = subst (λ z. Typed s z b) there.same f.typed in
      let a = typed.0 in
      let lists = subst (λ z. drop env.first c.types ≡ listed s z ++ f.behind) there.same f.lists in
      let placed = subst (Placed env.names) there.same p in
      let ts = listed s T in
      let us = listed (bind_value s there.name (task_type c.program.defs s T)) u in
      let front = starts_in c.program env.first t in
      let start : Start = record { body = j; first = env.first + nodes_of c.program t } in (
        a,
        evaluation Σ t env σ s a left
            (record { typed = typed.1; behind = us ++ f.behind; lists = drop_first ts us f.behind c.types env.first lists })
            (record {
              placed = placed.0;
              starts = all_first (IsListed c.program) front
                  (start ∷ []) starts;
              sides = sides;
              texts = texts;
            }) n h,
        record {
          body = there.body;
          is = there.is;
          scope = s;
          part = subst (λ z. IsPart c.program s (body_part j (Some z))) (sym (task_type_is (any_call c.program) s T a typed.1)) right;
          names = placed.1 ∙ n.names;
          slots = n.slots;
          inner = bind_value s there.name a;
          binds = subst (λ x. BindsAs s x (Some a) (bind_value s there.name a)) (sym there.binder) refl;
          first = env.first + nodes_of c.program t;
          starts = All-head (IsListed c.program) start [] (all_second (IsListed c.program) front (start ∷ []) starts);
          fits = record {
            typed = typed.2;
            behind = f.behind;
            lists = subst (λ z. drop (env.first + nodes_of c.program t) c.types ≡ listed (bind_value s there.name z) u ++ f.behind)
                (sym (task_type_is (any_call c.program) s T a typed.1))
                (drop_second ts us f.behind c.types env.first (nodes_of c.program t) (types_are c.program s t env.names placed.0) lists);
          };
        },
      )

  -- ---- both sides of a choice
  pub side_parts : (Σ : List BasicTerm) (j k : ℕ) (env : EnvTerm) (s : List ParamTerm) (b : BasicTerm)
      → IsPart c.program s (task_part (xor_task j k))
      → TaskFits c s env.first (placed_task (xor_task j k)) b → StandsIn c.program env.names env.first (xor_task j k) → EnvHas Σ env s
      → LaterHas c Σ (later j env) None b × LaterHas c Σ (later k env) None b
  side_parts Σ j k env s b q f g n =
      let all = bodies_in_place c.program in
      let there = sides_there env.names (full_body_numbered 0 all j) (full_body_numbered 0 all k) g.placed in
      let same = both sides_of there.first there.second in
      let typed = subst (λ z. Typed s z b) same f.typed in
      let lists = subst (λ z. drop env.first c.types ≡ listed s z ++ f.behind) same f.lists in
      let placed = subst (Placed env.names) same g.placed in
      let ts = listed s there.left.task in
      let us = listed s there.right.task in
      let m = body_nodes (counts_of c.program) 0 j in
      let many = body_nodes_are c.program.bodies 0 j there.left env.names there.first placed.1
      ∙ sym (counted c.program.defs s there.left.task) in
      let left : Start = record { body = j; first = env.first } in
      let right : Start = record { body = k; first = env.first + m } in (
        record {
          body = there.left;
          is = there.first;
          scope = s;
          part = part_of 0 s (body_part j None) q refl;
          names = placed.0 ∙ n.names;
          slots = n.slots;
          inner = s;
          binds = subst (λ x. BindsAs s x None s) (sym (g.sides.0 there.left there.first)) refl;
          first = env.first;
          starts = All-head (IsListed c.program) left (right ∷ []) g.starts;
          fits = record { typed = typed.0; behind = us ++ f.behind; lists = drop_first ts us f.behind c.types env.first lists };
        },
        record {
          body = there.right;
          is = there.second;
          scope = s;
          part = part_of 1 s (body_part k None) q refl;
          names = placed.2 ∙ n.names;
          slots = n.slots;
          inner = s;
          binds = subst (λ x. BindsAs s x None s) (sym (g.sides.1 there.right there.second)) refl;
          first = env.first + m;
          starts = All-head (IsListed c.program) right [] (All-tail (IsListed c.program) left (right ∷ []) g.starts);
          fits = record { typed = typed.1; behind = f.behind; lists = drop_second ts us f.behind c.types env.first m many lists };
        },
      )
