-- What the two writes of an event make of an image, whole or torn.
use Rattle.std.proofs.Common.{◌≡◌, inl, inr, ℕ, ◌+◌, ◌≤◌, min, List, [], ◌∷◌, ◌++◌, length, get_or, take, drop, refl, sym, ◌∙◌, ap, subst, arith, append_assoc, length-append, take-append-drop}
use Rattle.std.specs.List.{AllByRecursion}
use Rattle.std.proofs.lemmas.List.{take_at, drop_at, drop_more, take_all}
use Rattle.std.proofs.lemmas.Bool.{cases_eq}
use Rattle.outer_disks.specs.Writing.{IsWithPiece, IsTorn}
use Rattle.journal_bytes.specs.Records.{record_bytes, open_records, FitsRecord, IsImageOf}
use Rattle.history_journal.specs.Appending.{group_piece, FitTogether, IsNoneOrAll}

pub open-append : (h : List (List ℕ)) (r : List ℕ) (more : List (List ℕ)) (rest : List ℕ)
    → open_records (h ++ r ∷ more) ++ rest ≡ open_records h ++ 1 ∷ (record_bytes r ++ (open_records more ++ rest))
open-append [] r more rest = ap (λ (l : List ℕ). 1 ∷ l) (append_assoc (record_bytes r) (open_records more) rest)
open-append (q ∷ h) r more rest = ap (λ (l : List ℕ). 1 ∷ l)
    (append_assoc (record_bytes q) (open_records (h ++ r ∷ more)) rest ∙ (ap (λ (l : List ℕ). record_bytes q ++ l) (open-append h r more rest)
    ∙ sym (append_assoc (record_bytes q) (open_records h) (1 ∷ (record_bytes r ++ (open_records more ++ rest))))))

pub fits-append : (h : List (List ℕ)) (r : List ℕ) (more : List (List ℕ)) → AllByRecursion FitsRecord h → FitTogether r more → AllByRecursion FitsRecord (h ++ r ∷ more)
fits-append [] r more all fits = fits
fits-append (q ∷ h) r more all fits = (all.0, fits-append h r more all.1 fits)

-- the records behind a gate, with a closed gate at their end
abbrev pub staged : List (List ℕ) → ℕ → List ℕ → List (List ℕ) → List ℕ → List ℕ
staged rs g r more rest = open_records rs ++ g ∷ (record_bytes r ++ (open_records more ++ 0 ∷ rest))

-- whatever the gate is, they count or they don't
pub staged_image : (rs : List (List ℕ)) (g : ℕ) (r : List ℕ) (more : List (List ℕ)) (rest : List ℕ) → AllByRecursion FitsRecord rs → FitTogether r more
    → IsNoneOrAll rs r more (staged rs g r more rest)
staged_image rs g r more rest all fits = elim (cases_eq g 1) [
  | inl open_gate ↦ inr (record {
    fit = fits-append rs r more all fits;
    gate = 0;
    closed = omega arith;
    rest = rest;
    are = ap (λ (k : ℕ). open_records rs ++ k ∷ (record_bytes r ++ (open_records more ++ 0 ∷ rest))) open_gate ∙ sym (open-append rs r more (0 ∷ rest));
  })
  | inr shut ↦ inl (record { fit = all; gate = g; closed = shut; rest = record_bytes r ++ (open_records more ++ 0 ∷ rest); are = refl })
]

module _ (rs : List (List ℕ)) (bytes : List ℕ) (image : IsImageOf bytes rs) where
  abbrev before : ℕ
  before = length (open_records rs)

  whole : bytes ≡ (open_records rs ++ image.gate ∷ []) ++ image.rest
  whole = image.are ∙ sym (append_assoc (open_records rs) (image.gate ∷ []) image.rest)

  front_len : length (open_records rs ++ image.gate ∷ []) ≡ before + 1
  front_len = length-append (open_records rs) (image.gate ∷ [])

  pub image_long : before + 1 ≤ length bytes
  image_long = omega (arith, ap length whole, length-append (open_records rs ++ image.gate ∷ []) image.rest, front_len)

  front : take (before + 1) bytes ≡ open_records rs ++ image.gate ∷ []
  front = ap (λ (l : List ℕ). take (before + 1) l) whole ∙ take_at (open_records rs ++ image.gate ∷ []) image.rest (before + 1) front_len

  -- the closed gate stands in each outcome of a write behind it
  pub torn_behind : (n : ℕ) (c : List ℕ) → IsTorn (before + 1) n bytes c → IsImageOf c rs
  torn_behind n c torn =
      let least : min (before + 1) (length bytes) ≡ before + 1 = omega (arith, image_long) in
      let start : take (before + 1) c ≡ open_records rs ++ image.gate ∷ [] =
      sym (ap (λ (k : ℕ). take k c) least) ∙ (torn.before ∙ (ap (λ (k : ℕ). take k bytes) least ∙ front)) in
      record {
        fit = image.fit;
        gate = image.gate;
        closed = image.closed;
        rest = drop (before + 1) c;
        are = sym (take-append-drop (before + 1) c) ∙ (ap (λ (l : List ℕ). l ++ drop (before + 1) c) start
            ∙ append_assoc (open_records rs) (image.gate ∷ []) (drop (before + 1) c));
      }

  -- the records with a closed gate stand behind it
  pub written_behind : (r : List ℕ) (more : List (List ℕ)) (piece d : List ℕ) → piece ≡ group_piece r more → IsWithPiece bytes (before + 1) piece d
      → d ≡ staged rs image.gate r more (drop (before + 1 + length piece) bytes)
  written_behind r more piece d is written =
      let end = drop (before + 1 + length piece) bytes in
      written
      ∙ (ap (λ (l : List ℕ). (l ++ piece) ++ end) front
      ∙ (append_assoc (open_records rs ++ image.gate ∷ []) piece end
      ∙ (append_assoc (open_records rs) (image.gate ∷ []) (piece ++ end)
      ∙ (ap (λ (l : List ℕ). open_records rs ++ image.gate ∷ (l ++ end)) is
      ∙ (ap (λ (l : List ℕ). open_records rs ++ image.gate ∷ l) (append_assoc (record_bytes r) (open_records more ++ 0 ∷ []) end)
      ∙ ap (λ (l : List ℕ). open_records rs ++ image.gate ∷ (record_bytes r ++ l)) (append_assoc (open_records more) (0 ∷ []) end))))))

module _ (rs : List (List ℕ)) (g : ℕ) (r : List ℕ) (more : List (List ℕ)) (end : List ℕ) where
  abbrev at : ℕ
  at = length (open_records rs)

  abbrev tail : List ℕ
  tail = record_bytes r ++ (open_records more ++ 0 ∷ end)

  abbrev now : List ℕ
  now = staged rs g r more end

  pub staged_long : length (staged rs g r more end) ≡ at + 1 + length (record_bytes r ++ (open_records more ++ 0 ∷ end))
  staged_long = omega (arith, length-append (open_records rs) (g ∷ tail))

  front_is : take at now ≡ open_records rs
  front_is = take_at (open_records rs) (g ∷ tail) at refl

  back_is : drop (at + 1) now ≡ tail
  back_is = ap (λ (l : List ℕ). drop (at + 1) l) (sym (append_assoc (open_records rs) (g ∷ []) tail))
      ∙ drop_at (open_records rs ++ g ∷ []) tail (at + 1) (length-append (open_records rs) (g ∷ []))

  -- the records stand whole in each outcome of a write of their gate
  pub torn_gate : (c : List ℕ) → AllByRecursion FitsRecord rs → FitTogether r more → IsTorn at 1 (staged rs g r more end) c → IsNoneOrAll rs r more c
  torn_gate c all fits torn =
      let least : min at (length now) ≡ at = omega (arith, staged_long) in
      let start : take at c ≡ open_records rs = sym (ap (λ (k : ℕ). take k c) least) ∙ (torn.before ∙ (ap (λ (k : ℕ). take k now) least ∙ front_is)) in
      let same : take (length now) c ≡ c = take_all (length now) c (omega (arith, torn.no_longer, staged_long)) in
      let ending : drop (at + 1) c ≡ tail = sym (ap (λ (l : List ℕ). drop (at + 1) l) same) ∙ (torn.after ∙ back_is) in
      let rest : drop at c ≡ get_or c at 0 ∷ tail = drop_more c at 0 (omega (arith, torn.no_shorter, staged_long)) ∙ ap (λ (l : List ℕ). get_or c at 0 ∷ l) ending in
      let is : c ≡ staged rs (get_or c at 0) r more end =
      sym (take-append-drop at c) ∙ (ap (λ (l : List ℕ). l ++ drop at c) start ∙ ap (λ (l : List ℕ). open_records rs ++ l) rest) in
      subst (λ (l : List ℕ). IsNoneOrAll rs r more l) (sym is) (staged_image rs (get_or c at 0) r more end all fits)

  -- with their gate open they count
  pub written_gate : (e : List ℕ) → AllByRecursion FitsRecord rs → FitTogether r more → IsWithPiece (staged rs g r more end) at (1 ∷ []) e → IsImageOf e (rs ++ r ∷ more)
  written_gate e all fits written = record {
    fit = fits-append rs r more all fits;
    gate = 0;
    closed = omega arith;
    rest = end;
    are = written
        ∙ (ap (λ (l : List ℕ). (l ++ 1 ∷ []) ++ drop (at + 1) now) front_is
        ∙ (ap (λ (l : List ℕ). (open_records rs ++ 1 ∷ []) ++ l) back_is
        ∙ (append_assoc (open_records rs) (1 ∷ []) tail
        ∙ sym (open-append rs r more (0 ∷ end)))));
  }
