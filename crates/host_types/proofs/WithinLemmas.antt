-- What is met is within the limits.
use Rattle.std.proofs.Common.{◌≡◌, ℕ, suc, ◌+◌, ◌-◌, ◌≤◌, Bool, true, false, Option, List, [], ◌∷◌, length, refl, arith}
use Rattle.std.specs.Prelude.{nat_le, not}
use Rattle.std.proofs.lemmas.Bool.Decides.{nat_tests}
use Rattle.task_model.specs.Terms.Text.{Text, same_text}
use Rattle.task_model.specs.Terms.Basic.{BasicTerm}
use Rattle.task_model.specs.Terms.Host.{HostTerm, HostTerms, call_expr, pair_expr, list_expr, neg_expr, not_expr, fst_expr, snd_expr, len_expr, op_expr, let_expr, if_expr, case_expr, no_exprs, more_exprs}
use Rattle.task_model.specs.Terms.Program.{KindTerm, plain_kind, ref_kind, ParamTerm}
use Rattle.task_model.specs.Checking.TypeParts.{symbols_of, item_part}
use Rattle.task_model.specs.Checking.Names.{bind_value, CallsTerm, called_definition, params_of}
use Rattle.task_model.specs.Checking.TypeFault.{Demands, IsMet, sized, big_type, too_many_names, duplicate}
use Rattle.task_model.specs.Checking.NodeCounts.{nodes}
use Rattle.task_model.specs.Checking.TypeOf.{type_of}
use Rattle.task_model.specs.Checking.Demands.{demands, elements, arguments, argument, has_place, two_names}
use Rattle.task_model.specs.Running.Rules.{bare_name}
use Rattle.task_model.specs.Checking.Limits.{IsSmall, WithinKind, IsWithin, AreWithin, AreWithinKinds}
use Rattle.host_types.proofs.TypingLemmas.{first, second, demanded_true}

pub small : (n : ℕ) (b : BasicTerm) → IsMet (sized n b) → IsSmall b
small n b m = let e = demanded_true (nat_le (symbols_of b) 64) n big_type m in grind (arith, nat_tests, e)

pub room : (n most : ℕ) (s : List ParamTerm) (more : ℕ) → most ≡ 200 - more → IsMet (has_place n s more) → length s ≤ most
room n most s more is m = let e = demanded_true (nat_le (length s) (200 - more)) n too_many_names m in grind (arith, nat_tests, e, is)

not_true : (b : Bool) → not b ≡ true → b ≡ false
not_true true e = absurd cc
not_true false e = refl

pub apart : (n : ℕ) (x y : Text) → IsMet (two_names n x y) → same_text x y ≡ false
apart n x y m = not_true (same_text x y) (demanded_true (not (same_text x y)) n duplicate m)

within_kind : (n : ℕ) (s : List ParamTerm) (kind : KindTerm) (name : Option Text) (t : BasicTerm) (ds : Demands) (Q : Type 0)
    → (IsMet ds → Q) → IsMet (argument n s kind name t ds) → WithinKind kind (Q × IsSmall t)
within_kind n s (plain_kind b) name t ds Q step m = (step (first (first m)), small n t (second (first m)))
within_kind n s (ref_kind b) name t ds Q step m = tt

module _ (k : CallsTerm) where
  mutual
    pub within : (s : List ParamTerm) (n : ℕ) (e : HostTerm) → IsMet (demands k s n e) → IsWithin k s e
    within s n (call_expr f es) m = within_kinds s (suc n) es (params_of (called_definition k f)) (second m)
    within s n (pair_expr a b) m = (
      within s (suc n) a (first (first m)),
      small (suc n) (type_of k.defs s a) (second (first m)),
      within s (suc n + nodes a) b
          (first (second m)),
      small (suc n + nodes a) (type_of k.defs s b) (second (second m)),
    )
    within s n (list_expr no_exprs) m = tt
    within s n (list_expr (more_exprs e es)) m = (
      within s (suc n) e (first (first m)),
      small (suc n) (type_of k.defs s e) (second (first m)),
      each_within s (suc n + nodes e)
          (type_of k.defs s e) es (second m),
    )
    within s n (neg_expr a) m = (within s (suc n) a (first (first m)), small (suc n) (type_of k.defs s a) (second (first m)))
    within s n (not_expr a) m = (within s (suc n) a (first (first m)), small (suc n) (type_of k.defs s a) (second (first m)))
    within s n (fst_expr a) m = (within s (suc n) a (first (first m)), small (suc n) (type_of k.defs s a) (second (first m)))
    within s n (snd_expr a) m = (within s (suc n) a (first (first m)), small (suc n) (type_of k.defs s a) (second (first m)))
    within s n (len_expr a) m = (within s (suc n) a (first (first m)), small (suc n) (type_of k.defs s a) (second (first m)))
    within s n (op_expr o a b) m =
        let i = suc n + nodes a in (
          within s (suc n) a (first (first (first m))),
          small (suc n) (type_of k.defs s a) (second (first (first m))),
          within s i b
              (first (first (second m))),
          small i (type_of k.defs s b) (second (first (second m))),
        )
    within s n (let_expr x a b) m =
        let i = suc n + nodes a in
        let inner = bind_value s x (type_of k.defs s a) in (
          room n 199 s 1 refl (first m),
          within s (suc n) a (first (first (second m))),
          small (suc n) (type_of k.defs s a) (second (first (second m))),
          within inner i b (first (second (second m))),
          small i (type_of k.defs inner b) (second (second (second m))),
        )
    within s n (if_expr c a b) m =
        let i = suc n + nodes c in (
          within s (suc n) c (first (first (first m))),
          small (suc n) (type_of k.defs s c) (second (first (first m))),
          within s i a (first (first (second m))),
          small i (type_of k.defs s a) (second (first (second m))),
          within s (i + nodes a) b (first (first (second (second m)))),
          small (i + nodes a) (type_of k.defs s b) (second (first (second (second m)))),
        )
    within s n (case_expr l a x y b) m =
        let i = suc n + nodes l in
        let t = type_of k.defs s l in
        let inner = bind_value (bind_value s x (item_part t)) y t in
        let rest = second (second m) in
        let branches = second rest in (
          apart n x y (first m),
          room n 198 s 2 refl (first (second m)),
          within s (suc n) l (first (first (first rest))),
          small (suc n) t (second (first (first rest))),
          within s i a (first (first branches)),
          small i (type_of k.defs s a) (second (first branches)),
          within inner (i + nodes a) b (first (first (second branches))),
          small (i + nodes a) (type_of k.defs inner b) (second (first (second branches))),
        )
    within s n e m = tt

    each_within : (s : List ParamTerm) (n : ℕ) (t : BasicTerm) (es : HostTerms) → IsMet (elements k s n t es) → AreWithin k s es
    each_within s n t no_exprs m = tt
    each_within s n t (more_exprs e es) m = (
      within s n e (first (first (first m))),
      small n (type_of k.defs s e) (second (first (first m))),
      each_within s (n + nodes e) t es
          (second m),
    )

    pub within_kinds : (s : List ParamTerm) (n : ℕ) (es : HostTerms) (ps : List ParamTerm) → IsMet (arguments k s n es ps)
        → AreWithinKinds k s es ps
    within_kinds s n no_exprs ps m = tt
    within_kinds s n (more_exprs e es) [] m = tt
    within_kinds s n (more_exprs e es) (p ∷ ps) m = (
      within_kind n s p.kind (bare_name e) (type_of k.defs s e) (demands k s n e) (IsWithin k s e) (λ h. within s n e h) (first m),
      within_kinds s (n + nodes e) es ps (second m),
    )
