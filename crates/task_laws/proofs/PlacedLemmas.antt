-- The bodies of programs that are written are placed.
use Rattle.std.proofs.Common.{◌≡◌, ℕ, ◌+◌, List, [], ◌∷◌, ◌++◌, refl, sym, subst, arith, append_assoc, append-nil}
use Rattle.std.specs.List.{All}
use Rattle.std.proofs.lemmas.List.Elements.{All-nil, All-push}
use Rattle.task_model.specs.Terms.Text.{Text}
use Rattle.task_model.specs.Terms.Task.{BodyTerm}
use Rattle.task_model.specs.Terms.Program.{DefTerm, ProgramTerm}
use Rattle.task_model.specs.Running.Checked.{param_names}
use Rattle.task_model.specs.Syntax.Grammar.{Form, program, choice, chain, internal, external, Parse, no_definitions, more_definitions, function, task_named, task_let, task_if, task_case, task_new, task_put, task_plain, task_then, task_next, task_edit, task_enter, task_share, task_fail, task_call, task_group, single, joined}
use Rattle.task_model.specs.Syntax.Meaning.{meaning, bodies, bodies_of, program_of}
use Rattle.task_model.specs.Checking.FullTask.{full_in}
use Rattle.task_model.specs.Checking.TaskDemands.{bodies_in_place}
use Rattle.task_model.specs.Checking.Placed.{Placed, IsPlacedIn, IsPlaced}
use Rattle.task_model.specs.Syntax.Written.{IsWritten}
use Rattle.task_model.proofs.BodyCounts.{bodies_count}
use Rattle.task_laws.proofs.ParseLemmas.{IsTask, whole, Places, places_first, places_second, in_place}

pub placed_whole : {f : Form} (d : Parse f) → IsTask f → (xs : List Text) → Placed xs (whole d xs)
placed_whole (task_let p x q r e s t) h xs = placed_whole t tt (xs ++ x ∷ [])
placed_whole (task_if p e q t r u) h xs = (placed_whole t tt xs, placed_whole u tt xs)
placed_whole (task_case p e q r s a t b x i j y k c u) h xs =
    let inner = xs ++ x ∷ y ∷ [] in (
      placed_whole t tt xs,
      subst (λ ys. Placed ys (whole u inner)) (sym (append_assoc xs (x ∷ []) (y ∷ []))) (placed_whole u tt inner),
    )
placed_whole (task_new p x q r e s t) h xs = placed_whole t tt (xs ++ x ∷ [])
placed_whole (task_put x p q e r t) h xs = placed_whole t tt xs
placed_whole (task_plain t) h xs = placed_whole t tt xs
placed_whole (task_then t p x q r u) h xs = (placed_whole t tt xs, refl, placed_whole u tt (xs ++ x ∷ []))
placed_whole (task_next t p x q r u) h xs = (placed_whole t tt xs, refl, placed_whole u tt (xs ++ x ∷ []))
placed_whole (task_edit p e) h xs = tt
placed_whole (task_enter p b) h xs = tt
placed_whole (task_share p x q) h xs = tt
placed_whole (task_fail p b) h xs = tt
placed_whole (task_call x p es) h xs = tt
placed_whole (task_group p t q) h xs = placed_whole t tt xs
placed_whole (single choice t) h xs = placed_whole t tt xs
placed_whole (single chain t) h xs = placed_whole t tt xs
placed_whole (joined choice t internal p u) h xs = (placed_whole t tt xs, placed_whole u tt xs)
placed_whole (joined choice t external p u) h xs = (refl, placed_whole t tt xs, refl, placed_whole u tt xs)
placed_whole (joined chain t o p u) h xs = (placed_whole t tt xs, placed_whole u tt xs)
placed_whole d h xs = absurd h

-- ---- definitions
module _ (p : ProgramTerm) where
  -- from this number on, the program has these bodies
  abbrev pub PlacesFrom : ℕ → List BodyTerm → Type 0
  PlacesFrom next bs = Places 0 (bodies_in_place p) next bs

  -- the bodies of a definition are placed where its parameters are in scope
  abbrev IsPlacedHere : DefTerm → Type 0
  IsPlacedHere d = IsPlacedIn p (param_names d.params) d.what

  placed_definitions : (ds : Parse program) (after : List BodyTerm) → PlacesFrom 0 (bodies_of ds [] 0 ++ after)
      → All IsPlacedHere (meaning ds)
  placed_definitions no_definitions after k = All-nil IsPlacedHere
  placed_definitions (more_definitions ds (function q x r ps s b i e)) after k =
      All-push IsPlacedHere (meaning ds) (meaning (function q x r ps s b i e) (bodies ds))
      (placed_definitions ds after (places_first 0 (bodies_in_place p) 0 (bodies_of ds [] 0) [] after k)) tt
  placed_definitions (more_definitions ds (task_named q x r ps s b i t)) after k =
      let xs = param_names (meaning ps) in
      let n = 0 + bodies ds in
      let same : n ≡ bodies ds = omega arith in
      let many = bodies_count ds [] 0 in
      let there = places_second 0 (bodies_in_place p) 0 n (bodies_of ds [] 0) (bodies_of t xs n) after (omega (arith, many)) k in
      let is = in_place t tt xs n after 0 (bodies_in_place p) there in
      let last : Placed xs (full_in 0 (bodies_in_place p) (meaning t (bodies ds))) =
      subst (λ m. Placed xs (full_in 0 (bodies_in_place p) (meaning t m))) same (subst (Placed xs) (sym is) (placed_whole t tt xs)) in
      All-push IsPlacedHere (meaning ds) (meaning (task_named q x r ps s b i t) (bodies ds))
      (placed_definitions ds (bodies_of t xs n ++ after)
      (places_first 0 (bodies_in_place p) 0 (bodies_of ds [] 0) (bodies_of t xs n) after k)) last

pub written_placed : (p : ProgramTerm) → IsWritten p → IsPlaced p
written_placed p w =
    let ds = w.1.parse in
    let here : IsPlaced (program_of ds) =
    placed_definitions (program_of ds) ds []
    (subst (λ l. PlacesFrom (program_of ds) 0 l) (sym (append-nil (bodies_of ds [] 0))) (λ j le. refl)) in
    subst IsPlaced w.1.stands_for here
