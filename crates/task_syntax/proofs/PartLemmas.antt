-- Parts of texts: there is one way to read them.
use Rattle.std.proofs.Common.{◌≡◌, ◌≢◌, ◌⊎◌, ℕ, ◌+◌, ◌*◌, ◌<◌, List, [], ◌∷◌, ◌++◌, refl, sym, ap, ◌∙◌, arith, inl, inr, append_assoc, append-nil}
use Rattle.std.specs.Prelude.{encode_utf8, if◌then◌else◌, ◌==◌}
use Rattle.task_model.specs.Terms.Text.{Text}
use Rattle.task_model.specs.Terms.Token.{TextPart, raw, letter, hex, part_spelling, spelled, PartIs, PartsAre, Escapes, quote, backslash, line_feed, tab, carriage_return, IsText, hex_value}
use Rattle.task_syntax.specs.Fault.{IsNotRaw, IsNoEscape}
use Rattle.task_syntax.proofs.Bytes.{same_head, begins_same, begins_byte, no_char}

-- ---- escapes by a letter
abbrev escape_byte : ℕ → ℕ
escape_byte c = if c == 34 then 34 else if c == 92 then 92 else if c == 110 then 10 else if c == 116 then 9 else if c == 114 then 13 else 0

escape_is : {c b : ℕ} → Escapes c b → escape_byte c ≡ b
escape_is quote = refl
escape_is backslash = refl
escape_is line_feed = refl
escape_is tab = refl
escape_is carriage_return = refl

escape_some : {c b : ℕ} → Escapes c b → b ≢ 0
escape_some quote e = cc
escape_some backslash e = cc
escape_some line_feed e = cc
escape_some tab e = cc
escape_some carriage_return e = cc

pub escape_not : (c b : ℕ) → Escapes c b → escape_byte c ≡ 0 → ⊥
escape_not c b e bad = escape_some e (sym (escape_is e) ∙ bad)

-- ---- one part
-- no part stands first
abbrev pub Stuck : Text → Type 0
Stuck r = (p : TextPart) (t back : Text) → PartIs p t → r ≡ part_spelling p ++ back → ⊥

pub raw_not : (c b : ℕ) (bs r t : Text) → PartIs (raw c) t → b < 128 → b ∷ bs ≡ encode_utf8 c ++ r
    → ((b < 32) ⊎ ((b ≡ 34) ⊎ ((b ≡ 92) ⊎ (b ≡ 127)))) → ⊥
raw_not c b bs r t is lt e low = let same : c ≡ b = (begins_byte b bs c r lt e).0 in go low same
  where
    go : ((b < 32) ⊎ ((b ≡ 34) ⊎ ((b ≡ 92) ⊎ (b ≡ 127)))) → c ≡ b → ⊥
    go (inl h) same = absurd (omega (arith, is.1, same, h))
    go (inr (inl h)) same = is.2 (same ∙ h)
    go (inr (inr (inl h))) same = is.3 (same ∙ h)
    go (inr (inr (inr h))) same = is.4 (same ∙ h)

part_same : (p q : TextPart) (t u r s : Text) → PartIs p t → PartIs q u → part_spelling p ++ r ≡ part_spelling q ++ s → (p ≡ q) × (t ≡ u)
    × (r ≡ s)
part_same (raw c) (raw d) t u r s h k e =
    let same = begins_same _ c d r s refl e in
    (ap raw same.0, h.5 ∙ ap encode_utf8 same.0 ∙ sym k.5, same.1)
part_same (raw c) (letter d) t u r s h k e = absurd (raw_not c 92 (d ∷ s) r t h (omega arith) (sym e) (inr (inr (inl refl))))
part_same (raw c) (hex a b) t u r s h k e = absurd (raw_not c 92 (120 ∷ a ∷ b ∷ s) r t h (omega arith) (sym e) (inr (inr (inl refl))))
part_same (letter d) (raw c) t u r s h k e = absurd (raw_not c 92 (d ∷ r) s u k (omega arith) e (inr (inr (inl refl))))
part_same (letter c) (letter d) t u r s (b, h, t_is) (a, k, u_is) e =
    let same : c ≡ d = cc in
    let later : r ≡ s = cc in
    let bytes : b ≡ a = sym (escape_is h) ∙ ap escape_byte same ∙ escape_is k in
    (ap letter same, t_is ∙ ap (λ x. x ∷ []) bytes ∙ sym u_is, later)
part_same (letter c) (hex a b) t u r s (x, h, t_is) k e =
    let same : c ≡ 120 = cc in
    absurd (escape_not c x h (ap escape_byte same))
part_same (hex a b) (raw c) t u r s h k e = absurd (raw_not c 92 (120 ∷ a ∷ b ∷ r) s u k (omega arith) e (inr (inr (inl refl))))
part_same (hex a b) (letter c) t u r s h (x, k, u_is) e =
    let same : c ≡ 120 = cc in
    absurd (escape_not c x k (ap escape_byte same))
part_same (hex a b) (hex c d) t u r s h k e =
    let one : a ≡ c = cc in
    let two : b ≡ d = cc in
    let later : r ≡ s = cc in (
      ap (λ x. hex x b) one ∙ ap (λ x. hex c x) two,
      h.3 ∙ ap (λ x. (hex_value x * 16 + hex_value b) ∷ []) one
          ∙ ap (λ x. (hex_value c * 16 + hex_value x) ∷ []) two ∙ sym k.3,
      later,
    )

-- ---- several parts
pub parts_same : (ps qs : List TextPart) (c d r s : Text) → PartsAre ps c → PartsAre qs d → spelled ps ++ r ≡ spelled qs ++ s → Stuck r
    → Stuck s → (ps ≡ qs) × (c ≡ d) × (r ≡ s)
parts_same [] [] c d r s h k e stuck stuck' = (refl, h ∙ sym k, e)
parts_same [] (q ∷ qs) c d r s h (u, rest, is, later, _) e stuck stuck' = absurd
    (stuck q u (spelled qs ++ s) is (e ∙ append_assoc (part_spelling q) (spelled qs) s))
parts_same (p ∷ ps) [] c d r s (t, rest, is, later, _) k e stuck stuck' = absurd
    (stuck' p t (spelled ps ++ r) is (sym e ∙ append_assoc (part_spelling p) (spelled ps) r))
parts_same (p ∷ ps) (q ∷ qs) c d r s (t, v, is, later, c_is) (u, w, is', later', d_is) e stuck stuck' =
    let first = part_same p q t u (spelled ps ++ r) (spelled qs ++ s) is is' (sym (append_assoc (part_spelling p) (spelled ps) r) ∙ e
    ∙ append_assoc (part_spelling q) (spelled qs) s) in
    let more = parts_same ps qs v w r s later later' first.2 stuck stuck' in
    (ap (λ x. x ∷ ps) first.0 ∙ ap (λ x. q ∷ x) more.0, c_is ∙ ap (λ x. x ++ v) first.1 ∙ ap (λ x. u ++ x) more.1 ∙ sym d_is, more.2)

pub parts_push : (ps : List TextPart) (c : Text) (p : TextPart) (t : Text) → PartsAre ps c → PartIs p t → PartsAre (ps ++ p ∷ []) (c ++ t)
parts_push [] c p t h is = (t, [], is, refl, ap (λ x. x ++ t) h ∙ sym (append-nil t))
parts_push (q ∷ ps) c p t (u, v, is', later, c_is) is = (
  u,
  v ++ t,
  is',
  parts_push ps v p t later is,
  ap (λ x. x ++ t) c_is
      ∙ append_assoc u v t,
)

pub spelled_push : (ps : List TextPart) (p : TextPart) → spelled (ps ++ p ∷ []) ≡ spelled ps ++ part_spelling p
spelled_push [] p = append-nil (part_spelling p)
spelled_push (q ∷ ps) p = ap (λ x. part_spelling q ++ x) (spelled_push ps p)
    ∙ sym (append_assoc (part_spelling q) (spelled ps) (part_spelling p))

-- ---- where no part stands
pub stuck_end : Stuck []
stuck_end (raw c) t back h e = no_char c back e
stuck_end (letter c) t back h e = cc
stuck_end (hex a b) t back h e = cc

pub stuck_quote : (rest : Text) → Stuck (34 ∷ rest)
stuck_quote rest (raw c) t back h e = raw_not c 34 rest back t h (omega arith) e (inr (inl refl))
stuck_quote rest (letter c) t back h e = absurd (omega (arith, same_head 34 92 rest (c ∷ back) e))
stuck_quote rest (hex a b) t back h e = absurd (omega (arith, same_head 34 92 rest (120 ∷ a ∷ b ∷ back) e))

pub stuck_bad : (rest : Text) → IsNotRaw rest → Stuck rest
stuck_bad [] bad p t back h e = absurd bad
stuck_bad (b ∷ bs) (inl low) (raw c) t back h e = raw_not c b bs back t h (omega (arith, low)) e (inl low)
stuck_bad (b ∷ bs) (inl low) (letter c) t back h e = let same : b ≡ 92 = cc in absurd (omega (arith, low, same))
stuck_bad (b ∷ bs) (inl low) (hex x y) t back h e = let same : b ≡ 92 = cc in absurd (omega (arith, low, same))
stuck_bad (b ∷ bs) (inr del) (raw c) t back h e = raw_not c b bs back t h (omega (arith, del)) e (inr (inr (inr del)))
stuck_bad (b ∷ bs) (inr del) (letter c) t back h e = let same : b ≡ 92 = cc in absurd (omega (arith, del, same))
stuck_bad (b ∷ bs) (inr del) (hex x y) t back h e = let same : b ≡ 92 = cc in absurd (omega (arith, del, same))

pub stuck_escape : (rest : Text) → IsNoEscape rest → Stuck rest
stuck_escape [] bad p t back h e = absurd bad
stuck_escape (b ∷ bs) bad p t back h e = bad.1 p t back h e

-- ---- whole texts
pub text_before : (t back content : Text) (ps : List TextPart) → t ≡ 34 ∷ spelled ps ++ 34 ∷ [] → t ++ back ≡ 34 ∷ spelled ps ++ 34 ∷ back
text_before t back content ps e = ap (λ x. x ++ back) e ∙ ap (λ x. 34 ∷ x) (append_assoc (spelled ps) (34 ∷ []) back)

-- a text in front is the one that its parts say
pub text_same :
    (text t back content inside tail : Text) (qs : List TextPart)
    → text ≡ t ++ back
    → IsText t content
    → text ≡ 34 ∷ spelled qs ++ tail
    → PartsAre qs inside
    → Stuck tail
    → (content ≡ inside) × (34 ∷ back ≡ tail)
text_same text t back content inside tail qs e (ps, t_is, are) f are' stuck =
    let both : 34 ∷ (spelled ps ++ 34 ∷ back) ≡ 34 ∷ (spelled qs ++ tail) = sym (e ∙ text_before t back content ps t_is) ∙ f in
    let inner : spelled ps ++ 34 ∷ back ≡ spelled qs ++ tail = cc in
    let same = parts_same ps qs content inside (34 ∷ back) tail are are' inner (stuck_quote back) stuck in
    (same.1, same.2)
