-- What a table that holds has of the texts that the rules read.
use Rattle.std.proofs.Common.{◌≡◌, ℕ, zero, suc, ◌+◌, Bool, true, false, cond, List, [], ◌∷◌, ◌++◌, length, map, Option, Some, refl, sym, ap, subst, arith}
use Rattle.std.specs.Prelude.{slice_get}
use Rattle.task_model.specs.Terms.Text.{Text, same_text}
use Rattle.task_model.specs.Terms.Task.{BodyTerm}
use Rattle.task_model.specs.Terms.Program.{ParamTerm, DefBodyTerm, fun_body, task_body, DefTerm, ProgramTerm}
use Rattle.task_model.specs.Running.Checked.{what_nodes, Function, Callee, def_in, function_of, callee_of}
use Rattle.task_model.specs.Checking.Names.{Numbered, first_named}
use Rattle.task_model.specs.Checking.Accepted.{typed_program}
use Rattle.stride_bound.specs.declared.bounds.Bound.{Bound}
use Rattle.stride_bound.specs.declared.figures.Figures.{Figures}
use Rattle.stride_bound.specs.Figures.{Tables, texts_of, figures_of_number, tables_of, AtMost, IsAmple, text_figures, text_tests, greatest_test}
use Rattle.bound_laws.proofs.CutLemmas.{Under, under_self, either_first, either_second}
use Rattle.bound_laws.proofs.Holds.{Holds}

-- ---- lists
get_front : {A : Type 0} (xs ys : List A) (n : ℕ) (x : A) → slice_get xs n ≡ Some x → slice_get (xs ++ ys) n ≡ Some x
get_front [] ys n x e = absurd (cc)
get_front (y ∷ xs) ys zero x e = e
get_front (y ∷ xs) ys (suc n) x e = get_front xs ys n x e

get_behind : {A B : Type 0} (f : A → B) (xs : List A) (ys : List B) (n : ℕ) (y : B) → slice_get ys n ≡ Some y
    → slice_get (map f xs ++ ys) (length xs + n) ≡ Some y
get_behind {A = A} f [] ys n y e = let z : length {A = A} [] + n ≡ n = omega arith in subst (λ m. slice_get ys m ≡ Some y) (sym z) e
get_behind f (x ∷ xs) ys n y e =
    let z : length (x ∷ xs) + n ≡ suc (length xs + n) = omega arith in
    subst (λ m. slice_get (f x ∷ (map f xs ++ ys)) m ≡ Some y) (sym z) (get_behind f xs ys n y e)

get_map : {A B : Type 0} (f : A → B) (xs : List A) (n : ℕ) (x : A) → slice_get xs n ≡ Some x → slice_get (map f xs) n ≡ Some (f x)
get_map f [] n x e = absurd (cc)
get_map f (y ∷ xs) zero x e = let same : y ≡ x = cc in ap (λ z. Some (f z)) same
get_map f (y ∷ xs) (suc n) x e = get_map f xs n x e

-- ---- definitions
-- the text of a name's first definition: its number among these, of which the first has number i
record TextOf (ds : List DefTerm) (o : Option Numbered) (i : ℕ) (w : DefBodyTerm) : Type 0 where
  number : ℕ
  first : Numbered
  is_first : o ≡ Some first
  index : first.index ≡ i + number
  is : slice_get (map (λ (d : DefTerm). d.what) ds) number ≡ Some w

module _ (p : ProgramTerm) (i : ℕ) (x : DefTerm) (ds : List DefTerm) (f : Text) (w : DefBodyTerm) {A : Type 0} (here : Option A) (behind : Option A) (d : A)
    (says : here ≡ Some d → Some x.what ≡ Some w) (rest : behind ≡ Some d → TextOf ds (first_named (suc i) ds f) (suc i) w) where
  text_by : (b : Bool) → cond b here behind ≡ Some d → TextOf (x ∷ ds) (cond b (Some (record { index = i; def = x })) (first_named (suc i) ds f)) i w
  text_by true e = record { number = 0; first = record { index = i; def = x }; is_first = refl; index = omega arith; is = says e }
  text_by false e =
      let r = rest e in
      let at = r.index in
      record { number = suc r.number; first = r.first; is_first = r.is_first; index = omega (arith, at); is = r.is }

function_says : (params : List ParamTerm) (w : DefBodyTerm) (d : Function) → function_of params w ≡ Some d → Some w ≡ Some (fun_body d.expr)
function_says params (fun_body e) d is = let same : record { params = params; expr = e } ≡ d = cc in ap (λ (z : Function). Some (fun_body z.expr)) same
function_says params (task_body t) d is = absurd (cc)

task_says : (params : List ParamTerm) (first : ℕ) (w : DefBodyTerm) (d : Callee) → callee_of params first w ≡ Some d → Some w ≡ Some (task_body d.task)
task_says params first (fun_body e) d is = absurd (cc)
task_says params first (task_body t) d is =
    let same : record { params = params; task = t; first = first } ≡ d = cc in ap (λ (z : Callee). Some (task_body z.task)) same

module _ (p : ProgramTerm) where
  function_text : (first i : ℕ) (ds : List DefTerm) (f : Text) (d : Function)
      → def_in p (λ first d. function_of d.params d.what) first ds f ≡ Some d → TextOf ds (first_named i ds f) i (fun_body d.expr)
  function_text first i [] f d e = absurd (cc)
  function_text first i (x ∷ ds) f d e =
      text_by p i x ds f (fun_body d.expr) (function_of x.params x.what) _ d (function_says x.params x.what d)
      (function_text (first + what_nodes p x.what) (suc i) ds f d) (same_text x.name f) e

  callee_text : (first i : ℕ) (ds : List DefTerm) (f : Text) (d : Callee)
      → def_in p (λ first d. callee_of d.params first d.what) first ds f ≡ Some d → TextOf ds (first_named i ds f) i (task_body d.task)
  callee_text first i [] f d e = absurd (cc)
  callee_text first i (x ∷ ds) f d e =
      text_by p i x ds f (task_body d.task) (callee_of x.params first x.what) _ d (task_says x.params first x.what d)
      (callee_text (first + what_nodes p x.what) (suc i) ds f d) (same_text x.name f) e

-- ---- tests
-- a text of these makes no greater test than the greatest of them
tests_under : (T : Tables) (ws : List DefBodyTerm) (n : ℕ) (w : DefBodyTerm) → slice_get ws n ≡ Some w → Under (text_tests T w) (greatest_test T ws)
tests_under T [] n w e = absurd (cc)
tests_under T (x ∷ ws) zero w e =
    let same : x ≡ w = cc in
    either_first (text_tests T w) (text_tests T x) (greatest_test T ws) (subst (λ z. Under (text_tests T w) (text_tests T z)) (sym same) (under_self _))
tests_under T (x ∷ ws) (suc n) w e = either_second (text_tests T w) (text_tests T x) (greatest_test T ws) (tests_under T ws n w e)

module _ (p : ProgramTerm) (table : ℕ → Figures) (ample : IsAmple p table) where
  abbrev T : Tables
  T = tables_of p table

  abbrev G : Bound
  G = greatest_test T (texts_of p)

  definition_has : (f : Text) (w : DefBodyTerm) → TextOf p.defs (first_named 0 p.defs f) 0 w → AtMost (text_figures T w) (T.definition f)
  definition_has f w r =
      let at = r.index in
      let same : r.number ≡ r.first.index = omega (arith, at) in
      subst (λ o. AtMost (text_figures T w) (figures_of_number table o)) (sym r.is_first)
      (subst (λ n. AtMost (text_figures T w) (table n)) same
      (ample r.number w (get_front (map (λ (d : DefTerm). d.what) p.defs) (map (λ (b : BodyTerm). task_body b.task) p.bodies) r.number w r.is)))

  definition_tests : (f : Text) (w : DefBodyTerm) → TextOf p.defs (first_named 0 p.defs f) 0 w → Under (text_tests T w) G
  definition_tests f w r =
      tests_under T (texts_of p) r.number w (get_front (map (λ (d : DefTerm). d.what) p.defs) (map (λ (b : BodyTerm). task_body b.task) p.bodies) r.number w r.is)

  body_text : (i : ℕ) (b : BodyTerm) → slice_get p.bodies i ≡ Some b → slice_get (texts_of p) (length p.defs + i) ≡ Some (task_body b.task)
  body_text i b is =
      get_behind (λ (d : DefTerm). d.what) p.defs (map (λ (b : BodyTerm). task_body b.task) p.bodies) i (task_body b.task)
      (get_map (λ (b : BodyTerm). task_body b.task) p.bodies i b is)

  pub table_holds : Holds (typed_program p) T G
  table_holds = record {
    function = λ f d is. (definition_has f (fun_body d.expr) (function_text p 0 0 p.defs f d is)).evaluating;
    task = λ f d is. definition_has f (task_body d.task) (callee_text p 0 0 p.defs f d is);
    task_within = λ f d is. definition_tests f (task_body d.task) (callee_text p 0 0 p.defs f d is);
    body = λ i b is. ample (length p.defs + i) (task_body b.task) (body_text i b is);
    body_within = λ i b is. tests_under T (texts_of p) (length p.defs + i) (task_body b.task) (body_text i b is);
  }
