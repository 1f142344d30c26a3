-- Demands that are met, and the first fault of a list of them.
use Rattle.std.proofs.Common.{◌≡◌, ℕ, ◌≤◌, Bool, true, false, cond, Option, None, Some, List, [], ◌∷◌, ◌++◌, refl, sym, ap, ◌∙◌, subst, arith}
use Rattle.std.specs.Option.{option_or}
use Rattle.std.specs.Prelude.{nat_le}
use Rattle.std.proofs.lemmas.Bool.Decides.{nat_tests}
use Rattle.task_model.specs.Terms.Basic.{BasicTerm, unit_type, bool_type, int_type, text_type, pair_type, list_type}
use Rattle.task_model.specs.Checking.TypeParts.{symbols_of, same_type}
use Rattle.task_model.specs.Checking.TypeFault.{TypeKindTerm, TypeFaultTerm, Demands, met, unmet, ◌⨾◌, IsMet, first_fault, first_unmet, listed, demanded, compared, whole, wanted, sized, mismatch, big_type}

both_none : {A : Type 0} (o q : Option A) → o ≡ None → q ≡ None → option_or o q ≡ None
both_none o q e f = rw e f

pub both : {ds es : Demands} → IsMet ds → IsMet es → IsMet (ds ⨾ es)
both {ds} {es} m n = record { none = both_none (first_fault ds) (first_fault es) m.none n.none }

pub nothing : IsMet met
nothing = record { none = refl }

pub when_true : (b : Bool) (n : ℕ) (k : TypeKindTerm) → b ≡ true → IsMet (demanded b n k)
when_true true n k e = nothing
when_true false n k e = absurd cc

same_both : (b c : Bool) → b ≡ true → c ≡ true → cond b c false ≡ true
same_both b c e f = rw e f

same_self : (b : BasicTerm) → same_type b b ≡ true
same_self unit_type = refl
same_self bool_type = refl
same_self int_type = refl
same_self text_type = refl
same_self (pair_type a b) = same_both (same_type a a) (same_type b b) (same_self a) (same_self b)
same_self (list_type a) = same_self a

pub compared_met : (n : ℕ) (want got : BasicTerm) → got ≡ want → IsMet (compared n want got)
compared_met n want got e =
    subst (λ b. IsMet (compared n want b)) (sym e) (when_true (same_type want want) n (mismatch want want) (same_self want))

pub sized_met : (n : ℕ) (b : BasicTerm) → symbols_of b ≤ 64 → IsMet (sized n b)
sized_met n b small = when_true (nat_le (symbols_of b) 64) n big_type (grind (arith, nat_tests, small))

pub whole_met : (n : ℕ) (b : BasicTerm) (ds : Demands) → IsMet ds → symbols_of b ≤ 64 → IsMet (whole n b ds)
whole_met n b ds m small = both m (sized_met n b small)

pub wanted_met : (n : ℕ) (want b : BasicTerm) (ds : Demands) → IsMet ds → symbols_of b ≤ 64 → b ≡ want → IsMet (wanted n want b ds)
wanted_met n want b ds m small e = both (whole_met n b ds m small) (compared_met n want b e)

-- ---- the list of demands
or_assoc : {A : Type 0} (a b c : Option A) → option_or a (option_or b c) ≡ option_or (option_or a b) c
or_assoc None b c = refl
or_assoc (Some x) b c = refl

first_unmet-append : (os qs : List (Option TypeFaultTerm)) → first_unmet (os ++ qs) ≡ option_or (first_unmet os) (first_unmet qs)
first_unmet-append [] qs = refl
first_unmet-append (o ∷ os) qs =
    ap (λ z. option_or o z) (first_unmet-append os qs) ∙ or_assoc o (first_unmet os) (first_unmet qs)

-- the first demand of the list that isn't met
pub first_unmet-listed : (ds : Demands) → first_unmet (listed ds) ≡ first_fault ds
first_unmet-listed met = refl
first_unmet-listed (unmet n k) = refl
first_unmet-listed (ds ⨾ es) =
    first_unmet-append (listed ds) (listed es) ∙ ap (λ z. option_or z (first_unmet (listed es))) (first_unmet-listed ds)
    ∙ ap (λ z. option_or (first_fault ds) z) (first_unmet-listed es)
