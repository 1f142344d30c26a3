-- How long the body of a request is.
use Rattle.std.proofs.Common.{◌≡◌, ◌⊎◌, ℕ, ◌≤◌, nat_lt, Bool, true, false, cond, Option, Some, inl, inr, refl, sym, ap, subst, arith}
use Rattle.std.proofs.lemmas.Bool.{cases_Bool}
use Rattle.std.proofs.lemmas.Bool.Decides.{nat_tests}
use Rattle.http_heads.specs.declared.check.Check.{Check}
use Rattle.http_heads.specs.declared.check.Check.TheVariants.{OneHost, NoCoding, OneLength, ShortBody}
use Rattle.http_heads.specs.Heads.{HeadTerm, body_length}
use Rattle.http_heads.specs.Checks.{is_end, ends_connection, body_taken}

-- a body that is too long is refused by one of the checks that end the connection
long_ends : (p q r : Bool) (rest : Option Check) (size : ℕ) → nat_lt 65536 size ≡ true
    → is_end (cond p (Some OneHost) (cond q (Some NoCoding) (cond r (Some OneLength) (cond (nat_lt 65536 size) (Some ShortBody) rest))))
    ≡ true
long_ends true q r rest size long = refl
long_ends false true r rest size long = refl
long_ends false false true rest size long = refl
long_ends false false false rest size long = ap (λ s. is_end (cond s (Some ShortBody) rest)) long

-- a request has at most 65,536 bytes of a body
pub taken_within : (h : HeadTerm) → body_taken h ≤ 65536
taken_within h = go (cases_Bool (nat_lt 65536 (body_length h))) (cases_Bool (ends_connection h))
  where
    go : ((nat_lt 65536 (body_length h) ≡ true) ⊎ (nat_lt 65536 (body_length h) ≡ false))
        → ((ends_connection h ≡ true) ⊎ (ends_connection h ≡ false)) → body_taken h ≤ 65536
    go long (inl ends) = subst (λ e. cond e 0 (body_length h) ≤ 65536) (sym ends) (omega arith)
    go (inl long) (inr on) = subst (λ e. cond e 0 (body_length h) ≤ 65536) (sym (long_ends _ _ _ _ (body_length h) long)) (omega arith)
    go (inr short) (inr on) =
        let le : body_length h ≤ 65536 = grind (arith, nat_tests, short) in
        subst (λ e. cond e 0 (body_length h) ≤ 65536) (sym on) le
