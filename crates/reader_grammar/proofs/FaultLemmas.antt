-- A list of tokens has at most one first fault, where its language has any word.
use Rattle.std.proofs.Common.{◌≡◌, ℕ, ◌<◌, List, [], ◌∷◌, ◌++◌, length, refl, sym, ap, ◌∙◌, subst, arith, append_assoc}
use Rattle.exact_reading.specs.declared.stop.FaultKind.{FaultKind}
use Rattle.exact_reading.specs.declared.stop.FaultKind.TheVariants.{Unexpected, TooNested}
use Rattle.exact_reading.specs.Reading.{Language, IsViablePrefix, Always}
use Rattle.exact_reading.specs.Whole.{IsFault, IsFirstFault}

-- of two beginnings of a list the longer one goes on with the rest of the other
pub record Longer {T : Type 0} (front back front' back' : List T) : Type 0 where
  pub token : T
  pub more : List T
  pub longer : front' ≡ front ++ (token ∷ more)
  pub rest : back ≡ token ∷ (more ++ back')

longer_front : {T : Type 0} (front back front' back' : List T) → front ++ back ≡ front' ++ back' → length front < length front'
    → Longer front back front' back'
longer_front front back [] back' e lt = absurd (omega arith)
longer_front [] back (t ∷ ts) back' e lt = record { token = t; more = ts; longer = refl; rest = e }
longer_front (s ∷ ss) back (t ∷ ts) back' e lt =
    let head : s ≡ t = cc in
    let tail : ss ++ back ≡ ts ++ back' = cc in
    let q = longer_front ss back ts back' tail (omega arith) in
    record { token = q.token; more = q.more; longer = ap (λ x. x ∷ ts) (sym head) ∙ ap (λ l. s ∷ l) q.longer; rest = q.rest }

same_front : {T : Type 0} (front back front' back' : List T) → front ++ back ≡ front' ++ back' → length front ≡ length front'
    → (front ≡ front') × (back ≡ back')
same_front [] back [] back' e n = (refl, e)
same_front [] back (t ∷ ts) back' e n = absurd (omega (arith, n))
same_front (s ∷ ss) back [] back' e n = absurd (omega (arith, n))
same_front (s ∷ ss) back (t ∷ ts) back' e n =
    let head : s ≡ t = cc in
    let tail : ss ++ back ≡ ts ++ back' = cc in
    let q = same_front ss back ts back' tail (omega (arith, n)) in
    (ap (λ x. x ∷ ss) head ∙ ap (λ l. t ∷ l) q.0, q.1)

module _ {T X : Type 0} (A : Language T X) (F : X → Type 0) where
  shorter_alive : (front : List T) (token : T) (more : List T) → IsViablePrefix A F (front ++ (token ∷ more))
      → IsViablePrefix A F (front ++ (token ∷ []))
  shorter_alive front token more h =
      let e : (front ++ (token ∷ more)) ++ h.0 ≡ (front ++ (token ∷ [])) ++ (more ++ h.0) =
      append_assoc front (token ∷ more) h.0 ∙ sym (append_assoc front (token ∷ []) (more ++ h.0)) in
      (more ++ h.0, h.1, subst (λ l. A l h.1) e h.2, h.3)

  at_any_limit : (front : List T) → IsViablePrefix A F front → IsViablePrefix A Always front
  at_any_limit front h = (h.0, h.1, h.2, tt)

  -- where something goes on with a token, there is no fault at it
  no_fault : (front back : List T) (token : T) (rest : List T) (kind : FaultKind) → back ≡ token ∷ rest
      → IsViablePrefix A F (front ++ (token ∷ []))
      → IsFault A F front back kind → ⊥
  no_fault front [] token rest kind e alive fault = absurd cc
  no_fault front (t ∷ back) token rest Unexpected e alive fault =
      let same : token ≡ t = cc in
      fault (at_any_limit (front ++ (t ∷ [])) (subst (λ x. IsViablePrefix A F (front ++ (x ∷ []))) same alive))
  no_fault front (t ∷ back) token rest TooNested e alive fault =
      let same : token ≡ t = cc in
      fault.1 (subst (λ x. IsViablePrefix A F (front ++ (x ∷ []))) same alive)

  one_kind : (front back : List T) (kind kind' : FaultKind) → IsFault A F front back kind → IsFault A F front back kind' → kind ≡ kind'
  one_kind front back Unexpected Unexpected f g = refl
  one_kind front back TooNested TooNested f g = refl
  one_kind front [] Unexpected TooNested f g = absurd g
  one_kind front (t ∷ back) Unexpected TooNested f g = absurd (f g.0)
  one_kind front [] TooNested Unexpected f g = absurd f
  one_kind front (t ∷ back) TooNested Unexpected f g = absurd (g f.0)

  module _ (some : IsViablePrefix A F []) (ts : List T) where
    not_before : {kind kind' : FaultKind} {place place' : ℕ} → IsFirstFault A F ts kind place → IsFirstFault A F ts kind' place'
        → place < place'
        → ⊥
    not_before {kind = kind} f g lt =
        let at = f.at in
        let at' = g.at in
        let q = longer_front f.front f.back g.front g.back (sym f.split ∙ g.split) (omega (arith, at, at', lt)) in
        no_fault f.front f.back q.token (q.more ++ g.back) kind q.rest
        (shorter_alive f.front q.token q.more (subst (λ l. IsViablePrefix A F l) q.longer (g.begins some))) f.stops

    pub one_fault : {kind kind' : FaultKind} {place place' : ℕ} → IsFirstFault A F ts kind place → IsFirstFault A F ts kind' place'
        → (kind ≡ kind') × (place ≡ place')
    one_fault {kind = kind} {kind' = kind'} {place = place} {place' = place'} f g = (by_place, same)
      where
        same : place ≡ place'
        same = omega (arith, not_before f g, not_before g f)

        by_place : kind ≡ kind'
        by_place =
            let at = f.at in
            let at' = g.at in
            let e = same in
            let q = same_front f.front f.back g.front g.back (sym f.split ∙ g.split) (omega (arith, at, at', e)) in
            one_kind f.front f.back kind kind' f.stops (subst (λ l. IsFault A F l f.back kind') (sym q.0)
            (subst (λ l. IsFault A F g.front l kind') (sym q.1) g.stops))
