-- How texts are read from where they stand, and filled from where they break off.
use Rattle.std.proofs.Common.{◌≡◌, ℕ, suc, ◌+◌, ◌≤◌, List, [], ◌∷◌, ◌++◌, length, refl, sym, ap, ◌∙◌, subst, arith, append_assoc, length-append}
use Rattle.task_model.specs.Terms.Text.{Text}
use Rattle.input_lines.specs.declared.next.Next.{Next}
use Rattle.input_lines.specs.declared.bracket.Bracket.{Bracket}
use Rattle.input_lines.specs.declared.standing.Standing.{Standing}
use Rattle.input_lines.specs.ShortestRest.{shortest_rest, behind_byte, behind_bytes}

abbrev pub standing : Next → List Bracket → Standing
standing n bs = record { next = n; brackets = bs }

pub behind_append : (s : Standing) (a b : Text) → behind_bytes s (a ++ b) ≡ behind_bytes (behind_bytes s a) b
behind_append s [] b = refl
behind_append s (c ∷ a) b = behind_append (behind_byte s c) a b

-- ---- where two ways to part a text meet
-- the first part ends within the other first part, or behind it
pub data Cut (p w a b : Text) : Type 0 where
  within : (m : Text) → a ≡ p ++ m → w ≡ m ++ b → Cut p w a b
  past : (m : Text) → p ≡ a ++ m → b ≡ m ++ w → Cut p w a b

pub cut : (p w a b : Text) → p ++ w ≡ a ++ b → Cut p w a b
cut [] w a b e = within a refl e
cut (c ∷ p) w [] b e = past (c ∷ p) refl (sym e)
cut (c ∷ p) w (d ∷ a) b e = let rest : p ++ w ≡ a ++ b = cc in go (cc) (cut p w a b rest)
  where
    go : c ≡ d → Cut p w a b → Cut (c ∷ p) w (d ∷ a) b
    go same (within m f g) = within m (ap (λ q. q ∷ a) (sym same) ∙ ap (λ l. c ∷ l) f) g
    go same (past m f g) = past m (ap (λ q. q ∷ p) same ∙ ap (λ l. d ∷ l) f) g

-- ---- texts that are read and filled
-- A text of the language leads from one standing to the other, and each front of it begins a text of the language with a rest that is
-- as short as the front's standing tells.
pub record Fills (s e : Standing) (A : Text → Type 0) (t : Text) : Type 0 where
  pub is : A t
  pub leads : behind_bytes s t ≡ e
  pub fills : (p w : Text) → p ++ w ≡ t → (v : Text) × A (p ++ v) × (length v + shortest_rest e ≤ shortest_rest (behind_bytes s p))

-- one text, and then another
pub record Both (A B : Text → Type 0) (t : Text) : Type 0 where
  pub front : Text
  pub back : Text
  pub are : t ≡ front ++ back
  pub first : A front
  pub next : B back

pub both_are : {A B : Text → Type 0} {t a b : Text} (h : Both A B t) → h.front ≡ a → h.back ≡ b → t ≡ a ++ b
both_are {a = a} h e f = h.are ∙ ap (λ l. l ++ h.back) e ∙ ap (λ l. a ++ l) f

-- exactly this text
abbrev pub Is : Text → Text → Type 0
Is a t = t ≡ a

pub both : {s m e : Standing} {A B : Text → Type 0} {a b : Text} → Fills s m A a → Fills m e B b → Fills s e (Both A B) (a ++ b)
both {s} {m} {e} {A} {B} {a} {b} f g = record {
  is = record { front = a; back = b; are = refl; first = f.is; next = g.is };
  leads = behind_append s a b ∙ ap (λ q. behind_bytes q b) f.leads ∙ g.leads;
  fills = λ p w h. go p w (cut p w a b h);
}
  where
    go : (p w : Text) → Cut p w a b → (v : Text) × Both A B (p ++ v) × (length v + shortest_rest e ≤ shortest_rest (behind_bytes s p))
    go p w (within k h i) =
        let (v, is, le) = f.fills p k (sym h) in
        let (u, more, few) = g.fills [] b refl in (
          v ++ u,
          record { front = p ++ v; back = u; are = sym (append_assoc p v u); first = is; next = more },
          let long = length-append v u in omega (arith, le, few, long),
        )
    go p w (past k h i) =
        let (v, is, le) = g.fills k w (sym i) in
        let at : behind_bytes s p ≡ behind_bytes m k = ap (behind_bytes s) h ∙ behind_append s a k ∙ ap (λ q. behind_bytes q k) f.leads in (
          v,
          record { front = a; back = k ++ v; are = ap (λ l. l ++ v) h ∙ append_assoc a k v; first = f.is; next = is },
          subst (λ q. length v + shortest_rest e ≤ shortest_rest q) (sym at) le,
        )

-- a language within another
pub widen : {s e : Standing} {A B : Text → Type 0} {t : Text} → ((a : Text) → A a → B a) → Fills s e A t → Fills s e B t
widen {t = t} h f = record {
  is = h t f.is;
  leads = f.leads;
  fills = λ p w i. let (v, is, le) = f.fills p w i in (v, h (p ++ v) is, le);
}

-- no bytes
pub none : {s : Standing} {A : Text → Type 0} → A [] → Fills s s A []
none {s} {A} is = record { is = is; leads = refl; fills = go }
  where
    go : (p w : Text) → p ++ w ≡ [] → (v : Text) × A (p ++ v) × (length v + shortest_rest s ≤ shortest_rest (behind_bytes s p))
    go [] w h = ([], is, omega arith)
    go (c ∷ p) w h = absurd (cc)

-- a byte and then more; in front of it, this rest is short enough
pub first : {s m e : Standing} {A : Text → Type 0} {t : Text} (c : ℕ) (v : Text) → behind_byte s c ≡ m → A v
    → length v + shortest_rest e ≤ shortest_rest s → Fills m e (λ a. A (c ∷ a)) t → Fills s e A (c ∷ t)
first {s} {m} {e} {A} {t} c v to is le f = record {
  is = f.is;
  leads = ap (λ q. behind_bytes q t) to ∙ f.leads;
  fills = go;
}
  where
    go : (p w : Text) → p ++ w ≡ c ∷ t → (v : Text) × A (p ++ v) × (length v + shortest_rest e ≤ shortest_rest (behind_bytes s p))
    go [] w h = (v, is, le)
    go (d ∷ p) w h =
        let rest : p ++ w ≡ t = cc in
        let same : c ≡ d = cc in
        let (u, more, few) = f.fills p w rest in (
          u,
          subst (λ q. A (q ∷ (p ++ u))) same more,
          subst (λ q. length u + shortest_rest e ≤ shortest_rest (behind_bytes s (q ∷ p))) same
              (subst (λ q. length u + shortest_rest e ≤ shortest_rest (behind_bytes q p)) (sym to) few),
        )

-- one byte that every text of the language has here
pub token : {s m : Standing} (c : ℕ) → behind_byte s c ≡ m → suc (shortest_rest m) ≤ shortest_rest s → Fills s m (Is (c ∷ [])) (c ∷ [])
token c to le = first c (c ∷ []) to refl (omega (arith, le)) (none refl)

-- bytes that are counted down
pub counted : (S : ℕ → Standing) → ((n c : ℕ) → behind_byte (S (suc n)) c ≡ S n)
    → ((n : ℕ) → shortest_rest (S n) ≡ n + shortest_rest (S 0)) → (t : Text) → Fills (S (length t)) (S 0) (Is t) t
counted S down rests [] = none refl
counted S down rests (c ∷ t) =
    let far = rests (length (c ∷ t)) in
    first c (c ∷ t) (down (length t) c) refl (omega (arith, far)) (widen (λ a e. ap (λ l. c ∷ l) e) (counted S down rests t))
