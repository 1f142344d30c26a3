-- The table of a written program has at each body's number how many nodes stand before the body, as the rules read it.
use Rattle.std.proofs.Common.{◌≡◌, ℕ, ◌+◌, ◌-◌, List, [], ◌∷◌, ◌++◌, length, refl, sym, ap, ◌∙◌, subst, arith, append_assoc, append-nil, length-append}
use Rattle.std.specs.Prelude.{Some, slice_get}
use Rattle.std.specs.List.{All}
use Rattle.std.proofs.lemmas.List.Elements.{All-nil, All-append, recursion_from_All}
use Rattle.std.proofs.lemmas.Option.{slice_get_within}
use Rattle.task_model.specs.Terms.Task.{BodyTerm}
use Rattle.task_model.specs.Terms.Program.{DefBodyTerm, DefTerm, ProgramTerm}
use Rattle.task_model.specs.Running.Checked.{Start, start_of, all_starts, counts_of, what_nodes, defs_nodes, what_starts, defs_starts, body_first, param_names}
use Rattle.task_model.specs.Syntax.Grammar as grammar
use Rattle.task_model.specs.Syntax.Grammar.{Parse, no_definitions, more_definitions, function, task_named}
use Rattle.task_model.specs.Syntax.Meaning.{meaning, bodies, bodies_of, program_of}
use Rattle.task_model.specs.Checking.TaskDemands.{bodies_in_place}
use Rattle.task_model.specs.Checking.Placed.{edit_nodes, task_firsts, what_edits, what_firsts, firsts_in, firsts_of}
use Rattle.task_model.specs.Syntax.Written.{IsWritten}
use Rattle.task_model.proofs.BodyCounts.{bodies_count}
use Rattle.task_laws.proofs.ParseLemmas.{both, in_place}
use Rattle.task_laws.proofs.CountLemmas.{counted, firsts_long}
use Rattle.task_laws.proofs.StartLemmas.{Known, known_second, Walked, Right, start_found, Stands, stands_first, stands_second, right_starts, stay, composed, relisted}
use Rattle.task_laws.proofs.WalkLemmas.{Covers, cover_first, walked}

-- ---- one definition more
module _ (program : ProgramTerm) where
  -- how many `edit` and `share` nodes these definitions have
  abbrev pub all_edits : List DefTerm → ℕ
  all_edits [] = 0
  all_edits (d ∷ ds) = what_edits program d.what + all_edits ds

  pub edits_more : (ds : List DefTerm) (d : DefTerm) → all_edits (ds ++ d ∷ []) ≡ all_edits ds + what_edits program d.what
  edits_more [] d = omega arith
  edits_more (c ∷ ds) d = let e = edits_more ds d in omega (arith, e)

  nodes_more : (ds : List DefTerm) (d : DefTerm) → defs_nodes program (ds ++ d ∷ []) ≡ defs_nodes program ds + what_nodes program d.what
  nodes_more [] d = omega arith
  nodes_more (c ∷ ds) d = let e = nodes_more ds d in omega (arith, e)

  pub firsts_more : (n : ℕ) (ds : List DefTerm) (d : DefTerm)
      → firsts_in program n (ds ++ d ∷ []) ≡ firsts_in program n ds ++ what_firsts program (n + all_edits ds) d.what
  firsts_more n [] d =
      let e : n ≡ n + 0 = omega arith in append-nil (what_firsts program n d.what) ∙ ap (λ k. what_firsts program k d.what) e
  firsts_more n (c ∷ ds) d =
      let m = n + what_edits program c.what in
      let front = what_firsts program n c.what in
      let e : m + all_edits ds ≡ n + (what_edits program c.what + all_edits ds) = omega arith in
      ap (λ l. front ++ l) (firsts_more m ds d)
      ∙ sym (append_assoc front (firsts_in program m ds) (what_firsts program (m + all_edits ds) d.what))
      ∙ ap (λ k. (front ++ firsts_in program m ds) ++ what_firsts program k d.what) e

  starts_more : (n : ℕ) (ds : List DefTerm) (d : DefTerm)
      → defs_starts program n (ds ++ d ∷ []) ≡ defs_starts program n ds ++ what_starts program (n + defs_nodes program ds) d.what
  starts_more n [] d =
      let e : n ≡ n + 0 = omega arith in append-nil (what_starts program n d.what) ∙ ap (λ k. what_starts program k d.what) e
  starts_more n (c ∷ ds) d =
      let m = n + what_nodes program c.what in
      let front = what_starts program n c.what in
      let e : m + defs_nodes program ds ≡ n + (what_nodes program c.what + defs_nodes program ds) = omega arith in
      ap (λ l. front ++ l) (starts_more m ds d)
      ∙ sym (append_assoc front (defs_starts program m ds) (what_starts program (m + defs_nodes program ds) d.what))
      ∙ ap (λ k. (front ++ defs_starts program m ds) ++ what_starts program k d.what) e

-- ---- definitions
-- What holds of what a definition is, where n nodes stand before it and its bodies have the numbers from one to another: its nodes are
-- counted, its starts are right, and its bodies are passed.
record DefinitionStarts (program : ProgramTerm) (table : List ℕ) (w : DefBodyTerm) (next n m : ℕ) (bs after : List BodyTerm) : Type 0 where
  pub nodes : what_nodes program w ≡ what_edits program w
  pub long : next + length (what_firsts program n w) ≡ m
  pub right : All (Right program table) (what_starts program n w)
  pub walks : (ss : List Start) → All (Right program table) ss → Covers program table ss (what_starts program n w)
      → Walked program table ss next m bs after

-- the same of a program's first definitions
pub record ProgramStarts (program : ProgramTerm) (table : List ℕ) (ds : List DefTerm) (count : ℕ) (bs after : List BodyTerm) : Type 0 where
  pub nodes : defs_nodes program ds ≡ all_edits program ds
  pub long : length (firsts_in program 0 ds) ≡ count
  pub right : All (Right program table) (defs_starts program 0 ds)
  pub walks : (ss : List Start) → All (Right program table) ss → Covers program table ss (defs_starts program 0 ds)
      → Walked program table ss 0 count bs after

module _ (program : ProgramTerm) (table : List ℕ) where
  definition_starts : (d : Parse grammar.definition) (next n : ℕ) (after : List BodyTerm)
      → Stands program table next (bodies_of d [] next ++ after) (what_firsts program n (meaning d next).what)
      → DefinitionStarts program table (meaning d next).what next n (next + bodies d) (bodies_of d [] next ++ after) after
  definition_starts (function q x r ps s b i e) next n after st = record {
    nodes = refl;
    long = refl;
    right = All-nil (Right program table);
    walks = λ ss a cov. stay program table ss next (next + 0) after (omega arith) a;
  }
  definition_starts (task_named q x r ps s b i t) next n after st =
      let xs = param_names (meaning ps) in
      let is = in_place t tt xs next after 0 (bodies_in_place program) st.0 in
      let there = subst (λ z. Stands program table next (bodies_of t xs next ++ after) (task_firsts n z)) is st in
      record {
        nodes = counted t tt xs next after 0 (counts_of program) st.1 ∙ ap (λ z. edit_nodes z) (sym is);
        long = ap (λ z. next + length (task_firsts n z)) is ∙ ap (λ k. next + k) (firsts_long t tt xs n);
        right = right_starts program table t tt xs next n after there;
        walks = λ ss a cov. walked program table t tt xs next n after (next + bodies t) refl there ss a cov;
      }

  pub program_starts : (ds : Parse grammar.program) (after : List BodyTerm)
      → Stands program table 0 (bodies_of ds [] 0 ++ after) (firsts_in program 0 (meaning ds))
      → ProgramStarts program table (meaning ds) (bodies ds) (bodies_of ds [] 0 ++ after) after
  program_starts no_definitions after st = record {
    nodes = refl;
    long = refl;
    right = All-nil (Right program table);
    walks = λ ss a cov. stay program table ss 0 0 after refl a;
  }
  program_starts (more_definitions ds d) after st =
      let n = bodies ds in
      let m = n + bodies d in
      let def : DefTerm = meaning d n in
      let e = 0 + all_edits program (meaning ds) in
      let bs = bodies_of ds [] 0 in
      let cs = bodies_of d [] n in
      let fs = firsts_in program 0 (meaning ds) in
      let gs = what_firsts program e def.what in
      let same : 0 + n ≡ n = omega arith in
      let more = firsts_more program 0 (meaning ds) def in
      let starts = starts_more program 0 (meaning ds) def in
      let numbered = subst (λ k. Stands program table 0 ((bs ++ bodies_of d [] k) ++ after) (firsts_in program 0 (meaning ds ++ def ∷ [])))
      same st in
      let there : Stands program table 0 ((bs ++ cs) ++ after) (fs ++ gs) =
      subst (λ l. Stands program table 0 ((bs ++ cs) ++ after) l) more numbered in
      let left = program_starts ds (cs ++ after) (stands_first program table 0 bs cs after fs gs there) in
      let many = bodies_count ds [] 0 in
      let long = left.long in
      let right = definition_starts d n e after
      (stands_second program table 0 n bs cs after fs gs (omega (arith, many)) (omega (arith, long)) there) in
      let front = defs_starts program 0 (meaning ds) in
      let back = what_starts program (0 + defs_nodes program (meaning ds)) def.what in
      record {
        nodes = nodes_more program (meaning ds) def ∙ both (λ y z. y + z) left.nodes right.nodes
            ∙ sym (edits_more program (meaning ds) def);
        long = ap (λ l. length l) more ∙ length-append fs gs ∙ ap (λ k. k + length gs) long ∙ right.long;
        right = subst (λ l. All (Right program table) l) (sym starts) (All-append (Right program table) front back left.right
            (subst (λ k. All (Right program table) (what_starts program (0 + k) def.what)) (sym left.nodes) right.right));
        walks = λ ss a cov.
            let both_covered : Covers program table ss (front ++ back) = subst (λ l. Covers program table ss l) starts cov in
            let w = left.walks ss a (cover_first program table ss front back both_covered) in
            let v = right.walks w.starts w.right (λ j z. w.keeps j (both_covered j (known_second front back j
            (subst (λ k. Known (what_starts program (0 + k) def.what) j) (sym left.nodes) z)))) in
            relisted program table ss 0 m ((bs ++ bodies_of d [] (0 + n)) ++ after) (bs ++ (cs ++ after)) after
            (ap (λ k. (bs ++ bodies_of d [] k) ++ after) same ∙ append_assoc bs cs after)
            (composed program table ss 0 n m (bs ++ (cs ++ after)) (cs ++ after) after w v);
      }

-- ---- programs
module _ (ds : Parse grammar.program) where
  -- its bodies and its table stand from number 0 on
  pub stands_whole : Stands (program_of ds) (firsts_of (program_of ds)) 0 (bodies_of ds [] 0 ++ []) (firsts_of (program_of ds))
  stands_whole =
      let table = firsts_of (program_of ds) in
      subst (λ l. Stands (program_of ds) table 0 l table) (sym (append-nil (bodies_of ds [] 0))) (
        λ j le. refl,
        λ j le. refl,
        λ k v e. let same : k ≡ 0 + k = omega arith in subst (λ j. slice_get table j ≡ Some v) same e,
        λ j le. let same : j ≡ j - 0 = omega arith in ap (λ k. slice_get (bodies_of ds [] 0) k) same,
      )

  all_starts_there : ProgramStarts (program_of ds) (firsts_of (program_of ds)) (meaning ds) (bodies ds) (bodies_of ds [] 0 ++ []) []
  all_starts_there = program_starts (program_of ds) (firsts_of (program_of ds)) ds [] stands_whole

  parsed_firsts : (i n : ℕ) → slice_get (firsts_of (program_of ds)) i ≡ Some n → body_first (program_of ds) i ≡ n
  parsed_firsts i n e =
      let table = firsts_of (program_of ds) in
      let all = all_starts_there in
      let front = defs_starts (program_of ds) 0 (meaning ds) in
      let w = all.walks front all.right (λ j k. k) in
      let within = slice_get_within table i n e in
      let long = all.long in
      ap (λ l. start_of (all_starts (program_of ds) front 0 l) i) (sym (append-nil (bodies_of ds [] 0))) ∙ ap (λ l. start_of l i) w.same
      ∙ start_found (program_of ds) table w.starts (recursion_from_All (Right (program_of ds) table) w.starts w.right) i n
      (w.knows i (omega arith) (omega (arith, within, long))) e

pub nodes_before : (p : ProgramTerm) → IsWritten p → (i n : ℕ) → slice_get (firsts_of p) i ≡ Some n → body_first p i ≡ n
nodes_before p w =
    subst (λ q. (i n : ℕ) → slice_get (firsts_of q) i ≡ Some n → body_first q i ≡ n) w.1.stands_for (parsed_firsts w.1.parse)

pub entries : (p : ProgramTerm) → IsWritten p → length (firsts_of p) ≡ length p.bodies
entries p w =
    let ds = w.1.parse in
    subst (λ q. length (firsts_of q) ≡ length q.bodies) w.1.stands_for ((all_starts_there ds).long ∙ sym (bodies_count ds [] 0))

-- each start of a body in a definition is the table's entry
pub starts_there : (p : ProgramTerm) → IsWritten p → All (Right p (firsts_of p)) (defs_starts p 0 p.defs)
starts_there p w =
    subst (λ q. All (Right q (firsts_of q)) (defs_starts q 0 q.defs)) w.1.stands_for (all_starts_there w.1.parse).right
