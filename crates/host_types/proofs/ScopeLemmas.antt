-- Look-ups of names and of definitions.
use Rattle.std.proofs.Common.{◌≡◌, ℕ, suc, ◌+◌, ◌-◌, ◌<◌, ◌≤◌, Bool, true, false, cond, Option, None, Some, List, [], ◌∷◌, ◌++◌, length, get_or, map, refl, sym, ap, ◌∙◌, arith}
use Rattle.std.specs.Option.{option_map, option_or}
use Rattle.task_model.specs.Terms.Text.{Text, same_text}
use Rattle.task_model.specs.Terms.Program.{ParamTerm, DefTerm, def_term}
use Rattle.std.proofs.Math.ListN.{get_or-map}
use Rattle.task_model.specs.declared.program.Def.{Def}
use Rattle.task_model.specs.Checking.Names.{kind_in, first_named, Numbered}

or_cond : {A : Type 0} (b : Bool) (o q : Option A) (a : A) → option_or (cond b (Some a) o) q ≡ cond b (Some a) (option_or o q)
or_cond true o q a = refl
or_cond false o q a = refl

-- the innermost name of all
pub kind_in-named : (s : List ParamTerm) (q : ParamTerm) (x : Text)
    → kind_in (s ++ q ∷ []) x ≡ cond (same_text q.name x) (Some q.kind) (kind_in s x)
kind_in-named [] q x = refl
kind_in-named (p ∷ s) q x =
    ap (λ o. option_or o (cond (same_text p.name x) (Some p.kind) None)) (kind_in-named s q x)
    ∙ or_cond (same_text q.name x) (kind_in s x) (cond (same_text p.name x) (Some p.kind) None) q.kind

-- ---- definitions
map_cond : (b : Bool) (d : Numbered) (o : Option Numbered)
    → option_map (λ d. d.index) (cond b (Some d) o) ≡ cond b (Some d.index) (option_map (λ d. d.index) o)
map_cond true d o = refl
map_cond false d o = refl

-- a definition that was found stands at its number
pub record StandsAt (first : ℕ) (ds : List DefTerm) (o : Option Numbered) (n : ℕ) : Type 0 where
  pub from : first ≤ n
  pub within : n < first + length ds
  pub is : (d : DefTerm) → o ≡ Some (record { index = n; def = get_or ds (n - first) d })

stands_head : (i : ℕ) (d : DefTerm) (ds : List DefTerm) (n : ℕ) → i ≡ n → StandsAt i (d ∷ ds) (Some (record { index = i; def = d })) n
stands_head i d ds n e = record {
  from = omega arith;
  within = omega arith;
  is =
      λ other. let z : n - i ≡ 0 = omega arith in ap (λ k. Some (record { index = k; def = d })) e
      ∙ ap (λ k. Some (record { index = n; def = get_or (d ∷ ds) k other })) (sym z);
}

stands_tail : (i : ℕ) (d : DefTerm) (ds : List DefTerm) (o : Option Numbered) (n : ℕ) → StandsAt (suc i) ds o n → StandsAt i (d ∷ ds) o n
stands_tail i d ds o n s = let from = s.from in let within = s.within in record {
  from = omega arith;
  within = omega arith;
  is =
      λ other. let z : n - i ≡ suc (n - suc i) = omega arith in s.is other
      ∙ ap (λ k. Some (record { index = n; def = get_or (d ∷ ds) k other })) (sym z);
}

stands_by : (i : ℕ) (d : DefTerm) (ds : List DefTerm) (n : ℕ) (o : Option Numbered) (b : Bool)
    → (option_map (λ d. d.index) o ≡ Some n → StandsAt (suc i) ds o n)
    → option_map (λ d. d.index) (cond b (Some (record { index = i; def = d })) o) ≡ Some n
    → StandsAt i (d ∷ ds) (cond b (Some (record { index = i; def = d })) o) n
stands_by i d ds n o true rest e = let same : i ≡ n = cc in stands_head i d ds n same
stands_by i d ds n o false rest e = stands_tail i d ds o n (rest e)

pub stands_at : (i : ℕ) (ds : List DefTerm) (f : Text) (n : ℕ) → option_map (λ d. d.index) (first_named i ds f) ≡ Some n
    → StandsAt i ds (first_named i ds f) n
stands_at i [] f n e = absurd cc
stands_at i (d ∷ ds) f n e = stands_by i d ds n (first_named (suc i) ds f) (same_text d.name f) (stands_at (suc i) ds f n) e

-- one definition more in front
pub index-cons : (i : ℕ) (d : DefTerm) (ds : List DefTerm) (f : Text)
    → option_map (λ d. d.index) (first_named i (d ∷ ds) f) ≡ cond (same_text d.name f) (Some i)
    (option_map (λ d. d.index) (first_named (suc i) ds f))
index-cons i d ds f = map_cond (same_text d.name f) (record { index = i; def = d }) (first_named (suc i) ds f)

abbrev numbered : ℕ → DefTerm → Numbered
numbered n d = record { index = n; def = d }

pub found_is : (defs : List Def) (n : ℕ) (d : Def) (o : Option Numbered) → StandsAt 0 (map def_term defs) o n → d ≡ get_or defs n d
    → o ≡ Some (record { index = n; def = def_term d })
found_is defs n d o at e =
    let z : n - 0 ≡ n = omega arith in
    let same : get_or (map def_term defs) (n - 0) (def_term d) ≡ def_term d = ap (λ k. get_or (map def_term defs) k (def_term d)) z
    ∙ get_or-map def_term defs n d ∙ ap def_term (sym e) in
    at.is (def_term d) ∙ ap (λ t. Some (numbered n t)) same
