-- Tables that are made item by item.
use Rattle.std.proofs.Common.{◌≡◌, ℕ, zero, suc, ◌+◌, ◌<◌, ◌≤◌, Bool, true, false, cond, List, [], ◌∷◌, length, drop, get_or, map, Option, None, Some, refl, sym, ap, ◌∙◌, subst, arith, drop-cons}
use Rattle.std.specs.Prelude.{slice_get, slice_set, IsSome}
use Rattle.task_model.specs.Terms.Text.{Text, same_text}
use Rattle.task_model.specs.Terms.Task.{body_term}
use Rattle.task_model.specs.Terms.Host.{HostTerm}
use Rattle.task_model.specs.Terms.Program.{fun_body, DefTerm, def_term, ProgramTerm}
use Rattle.task_model.specs.Checking.Names.{first_named, Numbered}
use Rattle.task_model.specs.Running.Checked.{Callee, callee_of, counts_from, nodes_in, what_nodes, def_in}
use Rattle.task_model.specs.declared.task.Body.{Body}
use Rattle.task_model.specs.declared.program.Def.{Def}
use Rattle.host_eval.proofs.ListLemmas.{in_front, empty}
use Rattle.host_eval.proofs.RunLemmas.{tail_of}
use Rattle.task_evaluation.specs.Tables.{definition_firsts}
use Rattle.task_evaluation.specs.Called.{as_callee}

-- ---- a list that is filled from its end
pub drop_set : {A : Type 0} (xs : List A) (i : ℕ) (x : A) → i < length xs → drop i (slice_set xs i x) ≡ x ∷ drop (suc i) xs
drop_set [] i x lt = absurd (omega arith)
drop_set (y ∷ ys) zero x lt = refl
drop_set (y ∷ ys) (suc i) x lt = drop_set ys i x (omega arith)

-- the counts of the bodies from one number on
pub counts_next : (bodies : List Body) (i : ℕ) (d : Body) → i < length bodies → d ≡ get_or bodies i d
    → counts_from i (map body_term (drop i bodies))
    ≡ nodes_in (counts_from (suc i) (map body_term (drop (suc i) bodies))) (suc i) (body_term d).task
    ∷ counts_from (suc i) (map body_term (drop (suc i) bodies))
counts_next bodies i d lt e =
    ap (λ l. counts_from i (map body_term l)) (drop-cons bodies i d lt ∙ ap (λ z. z ∷ drop (suc i) bodies) (sym e))

-- past its end nothing is left of a list
pub drop_past : {A : Type 0} (xs : List A) (i : ℕ) → length xs ≤ i → drop i xs ≡ []
drop_past [] zero le = refl
drop_past [] (suc i) le = refl
drop_past (x ∷ xs) zero le = absurd (omega arith)
drop_past (x ∷ xs) (suc i) le = drop_past xs i (omega arith)

-- ---- definitions, one after another
pub firsts_front : (p : ProgramTerm) (n : ℕ) (defs : List Def) (d : Def) → 1 ≤ length defs → d ≡ get_or defs 0 d
    → definition_firsts p n (map def_term defs) ≡ n ∷ definition_firsts p (n + what_nodes p (def_term d).what) (map def_term (tail_of defs))
firsts_front p n defs d le e = ap (λ l. definition_firsts p n (map def_term l)) (in_front defs d le e)

pub firsts_none : (p : ProgramTerm) (n : ℕ) (defs : List Def) → length defs < 1 → definition_firsts p n (map def_term defs) ≡ []
firsts_none p n defs lt = ap (λ l. definition_firsts p n (map def_term l)) (empty defs lt)

-- a call of a definition that was found, where those from number i on are listed and so many nodes stand before them
pub record CalledAt (p : ProgramTerm) (n i : ℕ) (ds : List DefTerm) (called : Option Callee) (d : Numbered) : Type 0 where
  pub from : ℕ
  pub at : d.index ≡ i + from
  pub here : slice_get ds from ≡ Some d.def
  pub listed : IsSome (slice_get (definition_firsts p n ds) from)
  pub is : (first : ℕ) → slice_get (definition_firsts p n ds) from ≡ Some first → called ≡ as_callee first d.def

called_by : (p : ProgramTerm) (n i : ℕ) (e : DefTerm) (ds : List DefTerm) (d : Numbered) (o : Option Numbered) (rest : Option Callee)
    (b : Bool)
    → (o ≡ Some d → CalledAt p (n + what_nodes p e.what) (suc i) ds rest d)
    → cond b (Some (record { index = i; def = e })) o ≡ Some d → CalledAt p n i (e ∷ ds) (cond b (as_callee n e) rest) d
called_by p n i e ds d o rest true k h =
    let same : record { index = i; def = e } ≡ d = cc in
    let number = ap (λ (z : Numbered). z.index) same in record {
      from = 0;
      at = omega (arith, number);
      here = ap (λ (z : Numbered). Some z.def) same;
      listed = refl;
      is = λ first q. let start : n ≡ first = cc in ap (λ m. as_callee m e) start ∙ ap (λ (z : Numbered). as_callee first z.def) same;
    }
called_by p n i e ds d o rest false k h =
    let c = k h in
    let number = c.at in
    record { from = suc c.from; at = omega (arith, number); here = c.here; listed = c.listed; is = c.is }

pub called_at : (p : ProgramTerm) (n i : ℕ) (ds : List DefTerm) (f : Text) (d : Numbered) → first_named i ds f ≡ Some d
    → CalledAt p n i ds (def_in p as_callee n ds f) d
called_at p n i [] f d h = absurd cc
called_at p n i (e ∷ ds) f d h =
    called_by p n i e ds d (first_named (suc i) ds f) (def_in p as_callee (n + what_nodes p e.what) ds f) (same_text e.name f)
    (called_at p (n + what_nodes p e.what) (suc i) ds f d) h

-- the same of all definitions
module _ (p : ProgramTerm) (f : Text) (d : Numbered) (found : first_named 0 p.defs f ≡ Some d) where
  called_all : CalledAt p 0 0 p.defs (def_in p as_callee 0 p.defs f) d
  called_all = called_at p 0 0 p.defs f d found

  number : d.index ≡ called_all.from
  number = let e = called_all.at in omega (arith, e)

  pub called_here : slice_get p.defs d.index ≡ Some d.def
  called_here = ap (slice_get p.defs) number ∙ called_all.here

  pub called_listed : IsSome (slice_get (definition_firsts p 0 p.defs) d.index)
  called_listed = subst (λ k. IsSome (slice_get (definition_firsts p 0 p.defs) k)) (sym number) called_all.listed

  pub called_is : (first : ℕ) → slice_get (definition_firsts p 0 p.defs) d.index ≡ Some first
      → def_in p as_callee 0 p.defs f ≡ as_callee first d.def
  called_is first e = called_all.is first (ap (λ k. slice_get (definition_firsts p 0 p.defs) k) (sym number) ∙ e)

  pub called_fun : (e : HostTerm) → d.def.what ≡ fun_body e → def_in p as_callee 0 p.defs f ≡ None
  called_fun e is = by_get (slice_get (definition_firsts p 0 p.defs) d.index) refl called_listed
    where
      by_get : (o : Option ℕ) → slice_get (definition_firsts p 0 p.defs) d.index ≡ o → IsSome o → def_in p as_callee 0 p.defs f ≡ None
      by_get None g s = absurd cc
      by_get (Some m) g s = called_is m g ∙ ap (λ w. callee_of d.def.params m w) is

-- no call of a name that no definition has
pub called_none : (p : ProgramTerm) (n i : ℕ) (ds : List DefTerm) (f : Text) → first_named i ds f ≡ None → def_in p as_callee n ds f ≡ None
called_none p n i [] f h = refl
called_none p n i (e ∷ ds) f h = by_test (same_text e.name f) (called_none p (n + what_nodes p e.what) (suc i) ds f) h
  where
    by_test : (b : Bool) → (first_named (suc i) ds f ≡ None → def_in p as_callee (n + what_nodes p e.what) ds f ≡ None)
        → cond b (Some (record { index = i; def = e })) (first_named (suc i) ds f) ≡ None
        → cond b (as_callee n e) (def_in p as_callee (n + what_nodes p e.what) ds f) ≡ None
    by_test true k q = absurd cc
    by_test false k q = k q
