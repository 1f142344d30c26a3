-- What a reader answers where memory is ample, and what that decides of all tokens.
use Rattle.std.proofs.Common.{◌≡◌, ◌⊎◌, ℕ, ◌-◌, ◌<◌, List, [], ◌∷◌, ◌++◌, length, Ok, Err, refl, sym, ap, ◌∙◌, subst, arith, inl, inr, append_assoc}
use Rattle.std.proofs.lemmas.Bool.{cases_order}
use Rattle.exact_reading.specs.declared.stop.FaultKind.TheVariants.{Unexpected}
use Rattle.exact_reading.specs.declared.stop.ParseStop.TheVariants.{Fault}
use Rattle.exact_reading.specs.Reading.{Language, IsViablePrefix, Always, Answer, Right}
use Rattle.exact_reading.specs.Whole.{IsFault, IsFirstFault}
use Rattle.exact_reading.proofs.Whole.{whole_found, whole_only, trailing, refused, left_within, rest_within, no_word}

-- a front is read, or the first fault is found
pub data Decided {T X : Type 0} (A : Language T X) (E : List T → Type 0) (ts : List T) : Type 0 where
  reads : (x : X) (rest : List T) → Right A Always E ts (Ok (x, rest)) → Decided A E ts
  fails : (left : ℕ) → Right A Always E ts (Err (Fault Unexpected left)) → Decided A E ts

-- the same answer for another language
pub onto : {T X : Type 0} {A C : Language T X} {E E' : List T → Type 0} {ts ts' : List T}
    → ((r : Answer T X) → Right A Always E ts r → Right C Always E' ts' r) → Decided A E ts → Decided C E' ts'
onto by (reads x rest h) = reads x rest (by (Ok (x, rest)) h)
onto by (fails left h) = fails left (by (Err (Fault Unexpected left)) h)

-- a part, and what comes after it
pub followed : {T X Y : Type 0} {A : Language T X} {C : Language T Y} {E E' : List T → Type 0} {ts ts' : List T}
    → ((left : ℕ) → Right A Always E ts (Err (Fault Unexpected left)) → Right C Always E' ts' (Err (Fault Unexpected left)))
    → ((x : X) (rest : List T) → Right A Always E ts (Ok (x, rest)) → Decided C E' ts') → Decided A E ts → Decided C E' ts'
followed stop next (reads x rest h) = next x rest h
followed stop next (fails left h) = fails left (stop left h)

-- the tokens are a word, or have a first fault
abbrev pub WordOrFault : {T X : Type 0} → Language T X → List T → Type 0
WordOrFault {T} {X} A ts = ((x : X) × A ts x) ⊎ ((place : ℕ) × IsFirstFault A Always ts Unexpected place)

module _ {T X : Type 0} {A : Language T X} {E : List T → Type 0} {ts : List T} (end : E []) where
  pub word_or_fault : Decided A E ts → WordOrFault A ts
  word_or_fault (reads x [] h) = inl (x, (whole_found refl h).0)
  word_or_fault (reads x (t ∷ rest) h) =
      let le = rest_within h in inr (length ts - length (t ∷ rest), trailing end (λ e. cc) h (omega (arith, le)))
  word_or_fault (fails left h) = let le = left_within h in inr (length ts - left, refused end h (omega (arith, le)))

  -- a word stands for one value
  pub one_value : (x y : X) → A ts x → A ts y → Decided A E ts → x ≡ y
  one_value x y h k (reads z rest r) = (whole_only end r h).1 ∙ sym (whole_only end r k).1
  one_value x y h k (fails left r) =
      let le = left_within r in absurd (no_word (refused {place = length ts - left} end r (omega (arith, le))) h tt)

-- ---- the place of the first fault is one number
shorter : {T : Type 0} (a b c d : List T) → a ++ b ≡ c ++ d → length a < length c → (t : T) × (u v : List T) × (b ≡ t ∷ u)
    × (c ≡ a ++ (t ∷ v))
shorter [] b [] d e lt = absurd (omega arith)
shorter [] b (t ∷ c) d e lt = (t, c ++ d, c, e, refl)
shorter (s ∷ a) b [] d e lt = absurd (omega arith)
shorter (s ∷ a) b (t ∷ c) d e lt =
    let rest : a ++ b ≡ c ++ d = cc in
    let same : t ≡ s = cc in
    let (q, u, v, e', e'') = shorter a b c d rest (omega arith) in
    (q, u, v, e', ap (λ l. t ∷ l) e'' ∙ ap (λ r. r ∷ (a ++ (q ∷ v))) same)

module _ {T X : Type 0} {A : Language T X} {ts : List T} where
  -- what begins a word at the later fault goes on past the earlier one
  no_earlier : {p q : ℕ} → IsFirstFault A Always ts Unexpected p → IsFirstFault A Always ts Unexpected q → p < q → ⊥
  no_earlier {p = p} {q = q} f g lt =
      let m = f.at in
      let n = g.at in
      let (t, u, v, e, e') = shorter f.front f.back g.front g.back (sym f.split ∙ g.split) (omega (arith, m, n, lt)) in
      let stops : IsViablePrefix A Always (f.front ++ (t ∷ [])) → ⊥ = subst (λ l. IsFault A Always f.front l Unexpected) e f.stops in
      let past : IsViablePrefix A Always g.front → ⊥ = λ (w, x, h, _).
      stops (
        v ++ w,
        x,
        subst (λ l. A l x)
            (ap (λ l. l ++ w) (e' ∙ sym (append_assoc f.front (t ∷ []) v)) ∙ append_assoc (f.front ++ (t ∷ [])) v w) h,
        tt,
      ) in
      let none : g.front ≡ [] = g.nothing (λ some. past (g.begins some)) in
      let zero' = ap length none in
      omega (arith, n, lt, zero')

  pub one_place : (p q : ℕ) → IsFirstFault A Always ts Unexpected p → IsFirstFault A Always ts Unexpected q → p ≡ q
  one_place p q f g = go (cases_order p q)
    where
      go : (p ≡ q) ⊎ ((p < q) ⊎ (q < p)) → p ≡ q
      go (inl e) = e
      go (inr (inl lt)) = absurd (no_earlier f g lt)
      go (inr (inr lt)) = absurd (no_earlier g f lt)
