-- Each body of a program that is written has a parse, and stands in the program as it does in the parse.
use Rattle.std.proofs.Common.{◌≡◌, ◌⊎◌, inl, inr, false, ℕ, suc, ◌+◌, ◌<◌, ◌≤◌, List, [], ◌∷◌, ◌++◌, length, Option, Some, None, refl, sym, ap, ◌∙◌, subst, arith, le_refl}
use Rattle.std.specs.Prelude.{slice_get, ◌==◌}
use Rattle.std.proofs.lemmas.Bool.Decides.{nat_tests}
use Rattle.std.specs.List.{All}
use Rattle.std.proofs.lemmas.Bool.{cases_lt}
use Rattle.std.proofs.lemmas.List.Elements.{All-nil, All-push}
use Rattle.task_model.specs.Terms.Text.{Text}
use Rattle.task_model.specs.Terms.Task.{BodyTerm}
use Rattle.task_model.specs.Terms.Program.{DefBodyTerm, fun_body, task_body, DefTerm, ProgramTerm}
use Rattle.task_model.specs.Running.Checked.{starts_in, param_names, names_with, body_first}
use Rattle.task_model.specs.Syntax.Grammar as grammar
use Rattle.task_model.specs.Syntax.Grammar.{Form, task, task_atom, series, choice, chain, internal, external, Parse, no_definitions, more_definitions, function, task_named, task_let, task_if, task_case, task_new, task_put, task_plain, task_then, task_next, task_edit, task_enter, task_share, task_fail, task_call, task_group, single, joined, tokens}
use Rattle.task_model.specs.Syntax.Meaning.{Meaning, meaning, bodies, bodies_of, program_of}
use Rattle.task_model.specs.Checking.FullTask.{FullBody, full_body_numbered, full_in, full_body, full_bodies}
use Rattle.task_model.specs.Checking.TaskDemands.{bodies_in_place}
use Rattle.task_model.specs.Checking.Placed.{Placed, edit_nodes, task_firsts, what_firsts, firsts_in, firsts_of}
use Rattle.task_model.specs.Syntax.Written.{IsWritten}
use Rattle.task_model.proofs.BodyCounts.{bodies_count}
use Rattle.task_laws.proofs.ParseLemmas.{IsTask, term_at, whole, body_of, body_here, in_place}
use Rattle.task_laws.proofs.CountLemmas.{lists_head, items_head}
use Rattle.task_laws.proofs.StartLemmas.{Stands, stands_first, stands_second, stands_tail, halves, parts, sides, right_starts}
use Rattle.task_laws.proofs.PlacedLemmas.{placed_whole}
use Rattle.task_laws.proofs.TableLemmas.{all_edits, firsts_more, program_starts, stands_whole, nodes_before}
use Rattle.typing_laws.specs.Texts.{HasShortTexts, TaskTextsAreShort}
use Rattle.typing_laws.specs.Assumed.{task_in_place, IsListed, BindsNothing, SidesBindNothing}
use Rattle.typing_laws.specs.ProgramFacts.{BodyStands}
use Rattle.typing_laws.proofs.PartLemmas.{recursion_first, recursion_second}
use Rattle.typing_laws.proofs.TextLemmas.{Within, AllWithin, IsShort, two, three, short, tokens_within}

task_short : (f : Form) (m : Meaning f) (next : ℕ) → IsTask f → IsShort f m → TaskTextsAreShort (term_at f m next)
task_short task m next h s = s next
task_short task_atom m next h s = s next
task_short (series choice) m next h s = s next
task_short (series chain) m next h s = s next
task_short f m next h s = absurd h

module _ (program : ProgramTerm) (table : List ℕ) where
  -- a body with its parse, where it stands
  pub record IsParsed (j : ℕ) : Type 0 where
    pub form : Form
    pub inner : Parse form
    pub is : IsTask form
    pub within : AllWithin (tokens inner)
    pub scope : List Text
    pub binder : Option Text
    pub first : ℕ
    pub after : List BodyTerm
    pub stands : Stands program table j
        (record { scope = scope; binder = binder; task = term_at form (meaning inner) (suc j) }
        ∷ (bodies_of inner (names_with binder scope) (suc j) ++ after)) (first ∷ task_firsts first (whole inner (names_with binder scope)))

  -- each body of these numbers has a parse
  abbrev pub AreParsed : ℕ → ℕ → Type 0
  AreParsed next m = (j : ℕ) → next ≤ j → j < m → IsParsed j

  -- bodies side by side, and one in front of others
  both_parsed : (next l m : ℕ) → AreParsed next l → AreParsed l m → AreParsed next m
  both_parsed next l m p q = λ j le lt. by_order j le lt (cases_lt j l)
    where
      by_order : (j : ℕ) → next ≤ j → j < m → (j < l) ⊎ (l ≤ j) → IsParsed j
      by_order j le lt (inl below) = p j le below
      by_order j le lt (inr above) = q j above lt

  one_parsed : (next m : ℕ) → IsParsed next → AreParsed (suc next) m → AreParsed next m
  one_parsed next m p q = λ j le lt. by_order j le lt (cases_lt next j)
    where
      by_order : (j : ℕ) → next ≤ j → j < m → (next < j) ⊎ (j ≤ next) → IsParsed j
      by_order j le lt (inl above) = q j (omega (arith, above)) lt
      by_order j le lt (inr below) = let same : next ≡ j = omega (arith, le, below) in subst IsParsed same p

  none_parsed : (next : ℕ) → AreParsed next (next + 0)
  none_parsed next = λ j le lt. absurd (omega (arith, le, lt))

  ends_at : (next m l : ℕ) → m ≡ l → AreParsed next m → AreParsed next l
  ends_at next m l e p = subst (AreParsed next) e p

  -- the bodies inside a task have parses
  abbrev pub HasParses : {f : Form} → Parse f → List Text → ℕ → Type 0
  HasParses d xs next = (n : ℕ) (after : List BodyTerm)
      → Stands program table next (bodies_of d xs next ++ after) (task_firsts n (whole d xs)) → AreParsed next (next + bodies d)

  -- two tasks side by side
  halves_parsed : {f g : Form} (t : Parse f) → IsTask f → (u : Parse g) (xs ys : List Text) (next : ℕ) → HasParses t xs next
      → HasParses u ys (next + bodies t) → (n : ℕ) (after : List BodyTerm)
      → Stands program table next ((bodies_of t xs next ++ bodies_of u ys (next + bodies t)) ++ after)
      (task_firsts n (whole t xs) ++ task_firsts (n + edit_nodes (whole t xs)) (whole u ys))
      → AreParsed next (next + (bodies t + bodies u))
  halves_parsed t h u xs ys next one two n after s =
      let k = halves program table t h u xs ys next n after s in
      let m = next + bodies t in
      ends_at next (m + bodies u) (next + (bodies t + bodies u)) (omega arith)
      (both_parsed next m (m + bodies u) (one n (bodies_of u ys m ++ after) k.1) (two (n + edit_nodes (whole t xs)) after k.2))

  -- a step: its left, its body and what is inside that
  step_parsed : (t : Parse (series choice)) (p : ℕ) (x : Text) (q r : ℕ) (u : Parse task) (xs : List Text) (next : ℕ)
      → AllWithin (tokens u) → HasParses t xs next → HasParses u (xs ++ x ∷ []) (suc (next + bodies t))
      → HasParses (task_then t p x q r u) xs next
  step_parsed t p x q r u xs next w one two n after s =
      let m = next + bodies t in
      let c = n + edit_nodes (whole t xs) in
      let b = body_of u xs (Some x) m in
      let inner = bodies_of u (xs ++ x ∷ []) (suc m) in
      let k = parts program table t tt xs next n m refl b inner after c (task_firsts c (whole u (xs ++ x ∷ []))) s in
      ends_at next (suc m + bodies u) (next + (bodies t + suc (bodies u))) (omega arith)
      (both_parsed next m (suc m + bodies u) (one n (b ∷ inner ++ after) k.1)
      (one_parsed m (suc m + bodies u) (record {
        form = task;
        inner = u;
        is = tt;
        within = w;
        scope = xs;
        binder = Some x;
        first = c;
        after = after;
        stands = k.4;
      }) (two c after k.3)))

  -- each body inside a task has a parse
  pub parsed : {f : Form} (d : Parse f) → IsTask f → AllWithin (tokens d) → (xs : List Text) (next : ℕ) → HasParses d xs next
  parsed (task_let p x q r e i t) h w xs next n after s = parsed t tt (two (tokens e) (tokens t) _ w.1.1.1).1 (xs ++ x ∷ []) next n after s
  parsed (task_if p e q t r u) h w xs next n after s =
      let (first, second, third) = three (tokens e) (tokens t) (tokens u) _ _ w.1 in
      halves_parsed t tt u xs xs next (parsed t tt second xs next) (parsed u tt third xs (next + bodies t)) n after s
  parsed (task_case p e q r i a t b x i' j y k' c u) h w xs next n after s =
      let (first, second, third) = three (tokens e) _ _ _ _ w.1 in
      let ys = xs ++ x ∷ y ∷ [] in
      halves_parsed t tt u xs ys next (parsed t tt second.1.1.1 xs next) (parsed u tt third.1.1.1.1 ys (next + bodies t)) n after s
  parsed (task_new p x q r e i t) h w xs next n after s = parsed t tt (two (tokens e) (tokens t) _ w.1.1.1).1 (xs ++ x ∷ []) next n after s
  parsed (task_put x p q e r t) h w xs next n after s = parsed t tt (two (tokens e) (tokens t) _ w.1.1).1 xs next n after s
  parsed (task_plain t) h w xs next n after s = parsed t tt w xs next n after s
  parsed (task_then t p x q r u) h w xs next n after s =
      let (first, second) = two (tokens t) _ _ w in
      step_parsed t p x q r u xs next second.1.1 (parsed t tt first xs next)
      (parsed u tt second.1.1 (xs ++ x ∷ []) (suc (next + bodies t))) n after s
  parsed (task_next t p x q r u) h w xs next n after s =
      let (first, second) = two (tokens t) _ _ w in
      step_parsed t p x q r u xs next second.1.1 (parsed t tt first xs next)
      (parsed u tt second.1.1 (xs ++ x ∷ []) (suc (next + bodies t))) n after s
  parsed (task_edit p e) h w xs next n after s = none_parsed next
  parsed (task_enter p b) h w xs next n after s = none_parsed next
  parsed (task_share p x q) h w xs next n after s = none_parsed next
  parsed (task_fail p b) h w xs next n after s = none_parsed next
  parsed (task_call x p es) h w xs next n after s = none_parsed next
  parsed (task_group p t q) h w xs next n after s = parsed t tt (two (tokens t) [] _ w.1).0 xs next n after s
  parsed (single choice t) h w xs next n after s = parsed t tt w xs next n after s
  parsed (single chain t) h w xs next n after s = parsed t tt w xs next n after s
  parsed (joined choice t internal p u) h w xs next n after s =
      let (first, second) = two (tokens t) (tokens u) _ w in
      halves_parsed t tt u xs xs next (parsed t tt first xs next) (parsed u tt second xs (next + bodies t)) n after s
  parsed (joined choice t external p u) h w xs next n after s =
      let (before, behind) = two (tokens t) (tokens u) _ w in
      let m = suc (next + bodies t) in
      let c = n + edit_nodes (whole t xs) in
      let left = body_of t xs None next in
      let right = body_of u xs None m in
      let first = bodies_of t xs (suc next) in
      let second = bodies_of u xs (suc m) in
      let k = sides program table t p u xs next n after s in
      ends_at next (suc m + bodies u) (next + (suc (bodies t) + suc (bodies u))) (omega arith)
      (both_parsed next m (suc m + bodies u)
      (one_parsed next m (record {
        form = series choice;
        inner = t;
        is = tt;
        within = before;
        scope = xs;
        binder = None;
        first = n;
        after = right ∷ second ++ after;
        stands = k.0;
      }) (ends_at (suc next) (suc next + bodies t) m (omega arith)
      (parsed t tt before xs (suc next) n (right ∷ second ++ after)
      (stands_tail program table next left (first ++ (right ∷ second ++ after)) n (task_firsts n (whole t xs)) k.0))))
      (one_parsed m (suc m + bodies u) (record {
        form = series chain;
        inner = u;
        is = tt;
        within = behind;
        scope = xs;
        binder = None;
        first = c;
        after = after;
        stands = k.1;
      }) (parsed u tt behind xs (suc m) c after (stands_tail program table m right (second ++ after) c (task_firsts c (whole u xs)) k.1))))
  parsed (joined chain t o p u) h w xs next n after s =
      let (first, second) = two (tokens t) (tokens u) _ w in
      halves_parsed t tt u xs xs next (parsed t tt first xs next) (parsed u tt second xs (next + bodies t)) n after s
  parsed d h w xs next n after s = absurd h

  -- ---- what is found at a body's number
  -- the body in place
  body_found : (j : ℕ) (b : BodyTerm) (rest : List BodyTerm) (v : ℕ) (ns : List ℕ) → Stands program table j (b ∷ rest) (v ∷ ns)
      → full_body_numbered 0 (bodies_in_place program) j ≡ Some (full_body (suc j) (full_bodies (suc j) rest) b)
  body_found j b rest v ns h = h.0 j (le_refl j) ∙ body_here j b rest

  -- what stands at this number with no binder binds nothing
  binds_nothing : (j : ℕ) (b : BodyTerm) (rest : List BodyTerm) (v : ℕ) (ns : List ℕ) → Stands program table j (b ∷ rest) (v ∷ ns)
      → b.binder ≡ None
      → BindsNothing program j
  binds_nothing j b rest v ns h none = λ found e.
      let same : Some (full_body (suc j) (full_bodies (suc j) rest) b) ≡ Some found = sym (body_found j b rest v ns h) ∙ e in
      let is : full_body (suc j) (full_bodies (suc j) rest) b ≡ found = cc in
      sym (ap (λ (f : FullBody). f.binder) is) ∙ none

  -- the sides of choices are bodies without a binder
  abbrev pub Unbound : {f : Form} → Parse f → List Text → ℕ → Type 0
  Unbound {f} d xs next = (n : ℕ) (after : List BodyTerm)
      → Stands program table next (bodies_of d xs next ++ after) (task_firsts n (whole d xs))
      → SidesBindNothing program (term_at f (meaning d) next)

  halves_bind : {f g : Form} (t : Parse f) → IsTask f → (u : Parse g) (xs ys : List Text) (next : ℕ) → Unbound t xs next
      → Unbound u ys (next + bodies t) → (n : ℕ) (after : List BodyTerm)
      → Stands program table next ((bodies_of t xs next ++ bodies_of u ys (next + bodies t)) ++ after)
      (task_firsts n (whole t xs) ++ task_firsts (n + edit_nodes (whole t xs)) (whole u ys))
      → SidesBindNothing program (term_at f (meaning t) next) × SidesBindNothing program (term_at g (meaning u) (next + bodies t))
  halves_bind t h u xs ys next one two n after s =
      let k = halves program table t h u xs ys next n after s in
      (one n (bodies_of u ys (next + bodies t) ++ after) k.1, two (n + edit_nodes (whole t xs)) after k.2)

  over_bind : (t : Parse (series choice)) (p : ℕ) (x : Text) (q r : ℕ) (u : Parse task) (xs : List Text) (next : ℕ)
      → Unbound t xs next → Unbound (task_then t p x q r u) xs next
  over_bind t p x q r u xs next one n after s =
      let m = next + bodies t in
      let c = n + edit_nodes (whole t xs) in
      let b = body_of u xs (Some x) m in
      let inner = bodies_of u (xs ++ x ∷ []) (suc m) in
      one n (b ∷ inner ++ after)
      (parts program table t tt xs next n m refl b inner after c (task_firsts c (whole u (xs ++ x ∷ []))) s).1

  pub sides_bind : {f : Form} (d : Parse f) → IsTask f → (xs : List Text) (next : ℕ) → Unbound d xs next
  sides_bind (task_let p x q r e i t) h xs next n after s = sides_bind t tt (xs ++ x ∷ []) next n after s
  sides_bind (task_if p e q t r u) h xs next n after s =
      halves_bind t tt u xs xs next (sides_bind t tt xs next) (sides_bind u tt xs (next + bodies t)) n after s
  sides_bind (task_case p e q r i a t b x i' j y k' c u) h xs next n after s =
      let ys = xs ++ x ∷ y ∷ [] in
      halves_bind t tt u xs ys next (sides_bind t tt xs next) (sides_bind u tt ys (next + bodies t)) n after s
  sides_bind (task_new p x q r e i t) h xs next n after s = sides_bind t tt (xs ++ x ∷ []) next n after s
  sides_bind (task_put x p q e r t) h xs next n after s = sides_bind t tt xs next n after s
  sides_bind (task_plain t) h xs next n after s = sides_bind t tt xs next n after s
  sides_bind (task_then t p x q r u) h xs next n after s = over_bind t p x q r u xs next (sides_bind t tt xs next) n after s
  sides_bind (task_next t p x q r u) h xs next n after s = over_bind t p x q r u xs next (sides_bind t tt xs next) n after s
  sides_bind (task_edit p e) h xs next n after s = tt
  sides_bind (task_enter p b) h xs next n after s = tt
  sides_bind (task_share p x q) h xs next n after s = tt
  sides_bind (task_fail p b) h xs next n after s = tt
  sides_bind (task_call x p es) h xs next n after s = tt
  sides_bind (task_group p t q) h xs next n after s = sides_bind t tt xs next n after s
  sides_bind (single choice t) h xs next n after s = sides_bind t tt xs next n after s
  sides_bind (single chain t) h xs next n after s = sides_bind t tt xs next n after s
  sides_bind (joined choice t internal p u) h xs next n after s =
      halves_bind t tt u xs xs next (sides_bind t tt xs next) (sides_bind u tt xs (next + bodies t)) n after s
  sides_bind (joined choice t external p u) h xs next n after s =
      let m = suc (next + bodies t) in
      let c = n + edit_nodes (whole t xs) in
      let right = body_of u xs None m in
      let second = bodies_of u xs (suc m) ++ after in
      let k = sides program table t p u xs next n after s in (
        binds_nothing next (body_of t xs None next) (bodies_of t xs (suc next) ++ (right ∷ second)) n (task_firsts n (whole t xs)) k.0 refl,
        binds_nothing m right second c (task_firsts c (whole u xs)) k.1 refl,
      )
  sides_bind (joined chain t o p u) h xs next n after s =
      halves_bind t tt u xs xs next (sides_bind t tt xs next) (sides_bind u tt xs (next + bodies t)) n after s
  sides_bind d h xs next n after s = absurd h

-- ---- bodies
-- a body that has a parse stands in the program
pub body_stands : (p : ProgramTerm) → ((i n : ℕ) → slice_get (firsts_of p) i ≡ Some n → body_first p i ≡ n) → (j : ℕ) (b : FullBody)
    → full_body_numbered 0 (bodies_in_place p) j ≡ Some b → IsParsed p (firsts_of p) j → BodyStands p j b
body_stands p reads j b e k =
    let table = firsts_of p in
    let xs = names_with k.binder k.scope in
    let body : BodyTerm = record { scope = k.scope; binder = k.binder; task = term_at k.form (meaning k.inner) (suc j) } in
    let inside = bodies_of k.inner xs (suc j) ++ k.after in
    let ns = task_firsts k.first (whole k.inner xs) in
    let there = stands_tail p table j body inside k.first ns k.stands in
    let later = full_bodies (suc j) inside in
    let found : Some (full_body (suc j) later body) ≡ Some b = sym (body_found p table j body inside k.first ns k.stands) ∙ e in
    let is : full_body (suc j) later body ≡ b = cc in
    let here : full_in (suc j) later body.task ≡ whole k.inner xs = in_place k.inner k.is xs (suc j) k.after (suc j) later (λ i le. refl) in
    let task : task_in_place p body.task ≡ whole k.inner xs = in_place k.inner k.is xs (suc j) k.after 0 (bodies_in_place p) there.0 in
    let entry = lists_head table j k.first ns k.stands.2 in
    let first = reads j k.first entry in
    record {
      body = body;
      is = items_head p.bodies j body inside k.stands.3;
      scope = ap (λ (f : FullBody). f.scope) is;
      binder = ap (λ (f : FullBody). f.binder) is;
      task = task ∙ sym here ∙ ap (λ (f : FullBody). f.task) is;
      entry = entry ∙ ap Some (sym first);
      stands = record {
        placed = subst (Placed xs) (sym task) (placed_whole k.inner k.is xs);
        starts = subst (λ n. All (IsListed p) (starts_in p n body.task)) (sym first)
            (right_starts p table k.inner k.is xs (suc j) k.first k.after there);
        sides = sides_bind p table k.inner k.is xs (suc j) k.first k.after there;
        texts = task_short k.form (meaning k.inner) (suc j) k.is (short k.inner k.within);
      };
    }

-- ---- definitions
-- what a definition is has sides that bind nothing, and texts within the limit
abbrev pub WhatStands : ProgramTerm → DefBodyTerm → Type 0
WhatStands p (fun_body e) = HasShortTexts e
WhatStands p (task_body t) = SidesBindNothing p t × TaskTextsAreShort t

module _ (p : ProgramTerm) (table : List ℕ) where
  definition_parsed : (d : Parse grammar.definition) → AllWithin (tokens d) → (next n : ℕ) (after : List BodyTerm)
      → Stands p table next (bodies_of d [] next ++ after) (what_firsts p n (meaning d next).what)
      → AreParsed p table next (next + bodies d) × WhatStands p (meaning d next).what
  definition_parsed (function q x r ps s b i e) w next n after h = (none_parsed p table next, short (function q x r ps s b i e) w next)
  definition_parsed (task_named q x r ps s b i t) w next n after h =
      let xs = param_names (meaning ps) in
      let is = in_place t tt xs next after 0 (bodies_in_place p) h.0 in
      let there = subst (λ z. Stands p table next (bodies_of t xs next ++ after) (task_firsts n z)) is h in
      let within = (three (tokens ps) (tokens b) (tokens t) _ _ w.1.1).2 in (
        parsed p table t tt within xs next n after there,
        (sides_bind p table t tt xs next n after there, short t within next),
      )

  definitions_parsed : (ds : Parse grammar.program) → AllWithin (tokens ds) → (after : List BodyTerm)
      → Stands p table 0 (bodies_of ds [] 0 ++ after) (firsts_in p 0 (meaning ds))
      → AreParsed p table 0 (0 + bodies ds) × All (λ d. WhatStands p d.what) (meaning ds)
  definitions_parsed no_definitions w after h = (none_parsed p table 0, All-nil (λ d. WhatStands p d.what))
  definitions_parsed (more_definitions ds d) w after h =
      let n = bodies ds in
      let def : DefTerm = meaning d n in
      let e = 0 + all_edits p (meaning ds) in
      let bs = bodies_of ds [] 0 in
      let cs = bodies_of d [] n in
      let fs = firsts_in p 0 (meaning ds) in
      let gs = what_firsts p e def.what in
      let same : 0 + n ≡ n = omega arith in
      let numbered = subst (λ k. Stands p table 0 ((bs ++ bodies_of d [] k) ++ after) (firsts_in p 0 (meaning ds ++ def ∷ []))) same h in
      let there : Stands p table 0 ((bs ++ cs) ++ after) (fs ++ gs) =
      subst (λ l. Stands p table 0 ((bs ++ cs) ++ after) l) (firsts_more p 0 (meaning ds) def) numbered in
      let front = stands_first p table 0 bs cs after fs gs there in
      let many = bodies_count ds [] 0 in
      let long = (program_starts p table ds (cs ++ after) front).long in
      let left = definitions_parsed ds (recursion_first Within (tokens ds) (tokens d) w) (cs ++ after) front in
      let right = definition_parsed d (recursion_second Within (tokens ds) (tokens d) w) n e after
      (stands_second p table 0 n bs cs after fs gs (omega (arith, many)) (omega (arith, long)) there) in (
        ends_at p table 0 (n + bodies d) (0 + (n + bodies d)) (omega arith)
            (both_parsed p table 0 n (n + bodies d) (ends_at p table 0 (0 + n) n same left.0) right.0),
        All-push (λ d. WhatStands p d.what) (meaning ds) def left.1 right.1,
      )

-- no body has a number outside
numbered_nowhere : (i : ℕ) (bs : List BodyTerm) (j : ℕ) → (j < i) ⊎ (i + length bs ≤ j) → full_body_numbered i (full_bodies i bs) j ≡ None
numbered_nowhere i [] j out = refl
numbered_nowhere i (b ∷ bs) j (inl below) =
    let apart : (j == i) ≡ false = grind (arith, nat_tests) in rw apart (numbered_nowhere (suc i) bs j (inl (omega (arith, below))))
numbered_nowhere i (b ∷ bs) j (inr above) =
    let apart : (j == i) ≡ false = grind (arith, nat_tests, above) in
    rw apart (numbered_nowhere (suc i) bs j (inr (omega (arith, above))))

-- a body that is found has one of the numbers
numbered_within : (bs : List BodyTerm) (i j : ℕ) (b : FullBody) → full_body_numbered i (full_bodies i bs) j ≡ Some b → (n : ℕ)
    → length bs ≡ n
    → j < i + n
numbered_within bs i j b e n many = by_place (numbered_nowhere i bs j) (cases_lt j (i + n))
  where
    by_place : ((j < i) ⊎ (i + length bs ≤ j) → full_body_numbered i (full_bodies i bs) j ≡ None) → (j < i + n) ⊎ (i + n ≤ j) → j < i + n
    by_place out (inl below) = below
    by_place out (inr above) = let none = out (inr (omega (arith, above, many))) in absurd (cc)

-- ---- programs
module _ (ds : Parse grammar.program) (within : AllWithin (tokens ds)) where
  program_parsed : AreParsed (program_of ds) (firsts_of (program_of ds)) 0 (0 + bodies ds)
      × All (λ d. WhatStands (program_of ds) d.what) (meaning ds)
  program_parsed = definitions_parsed (program_of ds) (firsts_of (program_of ds)) ds within [] (stands_whole ds)

written_within : (p : ProgramTerm) → (w : IsWritten p) → AllWithin (tokens w.1.parse)
written_within p w = tokens_within _ w.1.terms (tokens w.1.parse) w.1.has w.1.reads

-- each definition of a program that is written
pub written_definitions : (p : ProgramTerm) → IsWritten p → All (λ d. WhatStands p d.what) p.defs
written_definitions p w =
    subst (λ q. All (λ d. WhatStands q d.what) q.defs) w.1.stands_for (program_parsed w.1.parse (written_within p w)).1

-- each body of a program that is written
pub written_bodies : (p : ProgramTerm) → IsWritten p → (j : ℕ) (b : FullBody) → full_body_numbered 0 (bodies_in_place p) j ≡ Some b
    → BodyStands p j b
written_bodies p w =
    let ds = w.1.parse in
    let reads = nodes_before p w in
    subst (λ q. ((i n : ℕ) → slice_get (firsts_of q) i ≡ Some n → body_first q i ≡ n) → (j : ℕ) (b : FullBody)
    → full_body_numbered 0 (bodies_in_place q) j ≡ Some b → BodyStands q j b) w.1.stands_for
    (λ here j b e. body_stands (program_of ds) here j b e
    ((program_parsed ds (written_within p w)).0 j (omega arith) (numbered_within (bodies_of ds [] 0) 0 j b e (bodies ds)
    (bodies_count ds [] 0)))) reads
