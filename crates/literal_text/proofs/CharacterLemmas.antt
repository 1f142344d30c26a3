-- Characters as their bytes.
use Rattle.std.specs.Prelude.{encode_utf8}
use Rattle.std.specs.Char.{IsScalar}
use Rattle.std.specs.Str.{all_scalars}
use Rattle.std.specs.Str.Lossy.{second_byte_min, second_byte_max}
use Rattle.std.proofs.str.Laws as laws
use Rattle.std.proofs.lemmas.Bool.Decides.{nat_tests}
use Rattle.std.proofs.Common.{◌≡◌, ℕ, ◌+◌, ◌-◌, ◌*◌, ◌/◌, ◌%◌, ◌<◌, ◌≤◌, Bool, true, false, ◌&&◌, ◌⊎◌, inl, inr, [], ◌∷◌, length, refl, sym, ap, ◌∙◌, arith}
use lib.Utf8.{scalar_cases}
use Rattle.task_model.specs.Terms.Text.{Text}
use Rattle.literal_text.specs.LiteralReading.{width_of}

both : (a b : Bool) → (a && b) ≡ true → a ≡ true
both true b e = refl
both false b e = e

pub only_scalar : (c : ℕ) → all_scalars (c ∷ []) ≡ true → IsScalar c
only_scalar c e = both _ _ e

and_true : (a : Bool) → a ≡ true → (a && true) ≡ true
and_true a e = ap (λ q. q && true) e

pub is_only_scalar : (c : ℕ) → IsScalar c → all_scalars (c ∷ []) ≡ true
is_only_scalar c e = and_true _ e

pub shape_of : (c : ℕ) → IsScalar c → laws.Shape c
shape_of c e = laws.shape c (scalar_cases c e)

-- ---- what the first byte of a character tells
pub width_two : (a : ℕ) → width_of a ≡ 2 → (194 ≤ a) × (a < 224)
width_two a e = (grind (arith, nat_tests), grind (arith, nat_tests))

pub width_three : (a : ℕ) → width_of a ≡ 3 → (224 ≤ a) × (a < 240)
width_three a e = (grind (arith, nat_tests), grind (arith, nat_tests))

pub width_four : (a : ℕ) → width_of a ≡ 4 → (240 ≤ a) × (a < 245)
width_four a e = (grind (arith, nat_tests), grind (arith, nat_tests))

pub is_width_two : (a : ℕ) → 194 ≤ a → a < 224 → width_of a ≡ 2
is_width_two a l h = grind (arith, nat_tests)

pub is_width_three : (a : ℕ) → 224 ≤ a → a < 240 → width_of a ≡ 3
is_width_three a l h = grind (arith, nat_tests)

pub is_width_four : (a : ℕ) → 240 ≤ a → a < 245 → width_of a ≡ 4
is_width_four a l h = grind (arith, nat_tests)

-- a character of more than one byte: its first byte tells how many it has
pub record WideShape (c : ℕ) : Type 0 where
  pub lead : ℕ
  pub rest : Text
  pub are : encode_utf8 c ≡ lead ∷ rest
  pub width : length (encode_utf8 c) ≡ width_of lead
  pub some : 2 ≤ width_of lead
  pub least : 194 ≤ lead

pub wide_shape : (c : ℕ) → IsScalar c → 128 ≤ c → WideShape c
wide_shape c s high = go (shape_of c s)
  where
    go : laws.Shape c → WideShape c
    go (laws.of1 h e) = absurd (omega arith)
    go (laws.of2 a b l h f k e) = let w = is_width_two a (omega (arith, f.0, f.1)) h in record {
      lead = a;
      rest = b ∷ [];
      are = e;
      width = ap length e ∙ sym w;
      some = omega (arith, w);
      least = omega (arith, f.0, f.1);
    }
    go (laws.of3 a b d l h f g k e) = let w = is_width_three a l h in record {
      lead = a;
      rest = b ∷ (d ∷ []);
      are = e;
      width = ap length e ∙ sym w;
      some = omega (arith, w);
      least = omega arith;
    }
    go (laws.of4 a b d x l h f g i k e) =
        let top : c < 1114112 = below (scalar_cases c s) in
        let w = is_width_four a l (omega (arith, f.0, g.0, i.0)) in record {
          lead = a;
          rest = b ∷ (d ∷ (x ∷ []));
          are = e;
          width = ap length e ∙ sym w;
          some = omega (arith, w);
          least = omega arith;
        }
      where
        below : (c < 55296) ⊎ ((57344 ≤ c) × (c < 1114112)) → c < 1114112
        below (inl h) = omega arith
        below (inr h) = h.1

pub narrow_shape : (c : ℕ) → c < 128 → encode_utf8 c ≡ c ∷ []
narrow_shape c h = laws.one c h

-- a character of one byte or of more
pub order : (c n : ℕ) → (c < n) ⊎ (n ≤ c)
order c n = laws.order c n

-- ---- characters of two, three and four bytes
pub encode_two : (a b : ℕ) → width_of a ≡ 2 → 128 ≤ b → b ≤ 191 → let c = (a - 192) * 64 + (b - 128) in (encode_utf8 c ≡ a ∷ (b ∷ []))
    × IsScalar c × (128 ≤ c)
encode_two a b w low high =
    let range = width_two a w in
    let c : ℕ = (a - 192) * 64 + (b - 128) in
    let e0 : 192 + c / 64 ≡ a = omega (arith, range.0, range.1) in
    let e1 : 128 + c % 64 ≡ b = omega (arith, range.0, range.1) in
    let e = laws.two c (omega (arith, range.0, range.1)) (omega (arith, range.0, range.1)) in (
      e ∙ ap (λ q. q ∷ ((128 + c % 64) ∷ [])) e0 ∙ ap (λ q. a ∷ (q ∷ [])) e1,
      scalar_low c (omega (arith, range.0, range.1)),
      omega (arith, range.0, range.1),
    )
  where
    scalar_low : (c : ℕ) → c < 55296 → IsScalar c
    scalar_low c h = grind (arith, nat_tests)

pub decode_two : (c a : ℕ) (t : Text) → IsScalar c → 128 ≤ c → width_of a ≡ 2 → encode_utf8 c ≡ a ∷ t → (b : ℕ) × (t ≡ b ∷ []) × (128 ≤ b)
    × (b ≤ 191)
decode_two c a t s high w is = go (shape_of c s)
  where
    range : (194 ≤ a) × (a < 224)
    range = width_two a w

    go : laws.Shape c → (b : ℕ) × (t ≡ b ∷ []) × (128 ≤ b) × (b ≤ 191)
    go (laws.of1 h e) = absurd (omega arith)
    go (laws.of2 a' b l h f k e) = let same : a ∷ t ≡ a' ∷ (b ∷ []) = sym is ∙ e in (b, cc, f.0, omega (arith, f.1))
    go (laws.of3 a' b d l h f g k e) = let same : a ∷ t ≡ a' ∷ (b ∷ (d ∷ [])) = sym is ∙ e in let a_is : a ≡ a' = cc in
        absurd (omega (arith, range.1))
    go (laws.of4 a' b d x l h f g i k e) = let same : a ∷ t ≡ a' ∷ (b ∷ (d ∷ (x ∷ []))) = sym is ∙ e in let a_is : a ≡ a' = cc in
        absurd (omega (arith, range.1))

pub three_second : (a b : ℕ) → width_of a ≡ 3 → second_byte_min a ≤ b → b ≤ second_byte_max a → (128 ≤ b) × (b ≤ 191) × (a ≡ 224 → 160 ≤ b)
    × (a ≡ 237 → b ≤ 159)
three_second a b w low high = let range = width_three a w in
    (grind (arith, nat_tests), grind (arith, nat_tests), λ e. grind (arith, nat_tests), λ e. grind (arith, nat_tests))

pub four_second : (a b : ℕ) → width_of a ≡ 4 → second_byte_min a ≤ b → b ≤ second_byte_max a → (128 ≤ b) × (b ≤ 191) × (a ≡ 240 → 144 ≤ b)
    × (a ≡ 244 → b ≤ 143)
four_second a b w low high = let range = width_four a w in
    (grind (arith, nat_tests), grind (arith, nat_tests), λ e. grind (arith, nat_tests), λ e. grind (arith, nat_tests))

is_three_second : (a b : ℕ) → 224 ≤ a → a < 240 → 128 ≤ b → b ≤ 191 → (a ≡ 224 → 160 ≤ b) → (a ≡ 237 → b ≤ 159) → (second_byte_min a ≤ b)
    × (b ≤ second_byte_max a)
is_three_second a b l h low high first last = (grind (arith, nat_tests), grind (arith, nat_tests))

is_four_second : (a b : ℕ) → 240 ≤ a → a < 245 → 128 ≤ b → b ≤ 191 → (a ≡ 240 → 144 ≤ b) → (a ≡ 244 → b ≤ 143) → (second_byte_min a ≤ b)
    × (b ≤ second_byte_max a)
is_four_second a b l h low high first last = (grind (arith, nat_tests), grind (arith, nat_tests))

scalar_by : (c : ℕ) → (c < 55296) ⊎ (57344 ≤ c) → c < 1114112 → IsScalar c
scalar_by c (inl h) top = grind (arith, nat_tests)
scalar_by c (inr h) top = grind (arith, nat_tests)

pub encode_three : (a b d : ℕ) → width_of a ≡ 3 → second_byte_min a ≤ b → b ≤ second_byte_max a → 128 ≤ d → d ≤ 191
    → let c = ((a - 224) * 64 + (b - 128)) * 64 + (d - 128) in (encode_utf8 c ≡ a ∷ (b ∷ (d ∷ []))) × IsScalar c × (128 ≤ c)
encode_three a b d w low high dl dh =
    let range = width_three a w in
    let f = three_second a b w low high in
    let c : ℕ = ((a - 224) * 64 + (b - 128)) * 64 + (d - 128) in
    let sum : c + 925824 ≡ a * 4096 + b * 64 + d = omega (arith, range.0, f.0) in
    let least : 2048 ≤ c = at_least (order a 225) in
    let e0 : 224 + c / 4096 ≡ a = omega (arith, range.0, range.1, f.0, f.1, sum) in
    let e1 : 128 + (c / 64) % 64 ≡ b = omega (arith, range.0, range.1, f.0, f.1, sum) in
    let e2 : 128 + c % 64 ≡ d = omega (arith, range.0, range.1, f.0, f.1, sum) in
    let e = laws.three c least (omega (arith, range.0, range.1, f.0, f.1, sum)) in (
      e ∙ ap (λ q. q ∷ ((128 + (c / 64) % 64) ∷ ((128 + c % 64) ∷ []))) e0 ∙ ap (λ q. a ∷ (q ∷ ((128 + c % 64) ∷ []))) e1
          ∙ ap (λ q. a ∷ (b ∷ (q ∷ []))) e2,
      scalar_by c (gap (order a 237) (order a 238)) (omega (arith, range.1, f.1, sum)),
      omega (arith, least),
    )
  where
    sides : (128 ≤ b) × (b ≤ 191) × (a ≡ 224 → 160 ≤ b) × (a ≡ 237 → b ≤ 159)
    sides = three_second a b w low high

    at_least : (a < 225) ⊎ (225 ≤ a) → 2048 ≤ ((a - 224) * 64 + (b - 128)) * 64 + (d - 128)
    at_least (inl h) = let range = width_three a w in let e : a ≡ 224 = omega (arith, range.0) in let more = sides.2 e in
        omega (arith, more, e)
    at_least (inr l) = omega (arith, sides.0)

    gap : (a < 237) ⊎ (237 ≤ a) → (a < 238) ⊎ (238 ≤ a) → ((((a - 224) * 64 + (b - 128)) * 64 + (d - 128)) < 55296)
        ⊎ (57344 ≤ (((a - 224) * 64 + (b - 128)) * 64 + (d - 128)))
    gap (inl h) _ = inl (let range = width_three a w in omega (arith, range.0, sides.1))
    gap (inr l) (inl h) = inl (let e : a ≡ 237 = omega arith in let top = sides.3 e in omega (arith, top))
    gap (inr _) (inr l) = inr (omega (arith, sides.0))

pub decode_three : (c a : ℕ) (t : Text) → IsScalar c → 128 ≤ c → width_of a ≡ 3 → encode_utf8 c ≡ a ∷ t → (b : ℕ) × (d : ℕ)
    × (t ≡ b ∷ (d ∷ [])) × (second_byte_min a ≤ b) × (b ≤ second_byte_max a) × (128 ≤ d) × (d ≤ 191)
decode_three c a t s high w is = go (shape_of c s) (scalar_cases c s)
  where
    range : (224 ≤ a) × (a < 240)
    range = width_three a w

    -- three bytes are not written for a character of fewer
    at_least : (c a' b d : ℕ) → 224 ≤ a' → a' < 240 → 128 ≤ b → b < 192 → 128 ≤ d → d < 192 → c + 925824 ≡ a' * 4096 + b * 64 + d
        → encode_utf8 c ≡ a' ∷ (b ∷ (d ∷ [])) → 2048 ≤ c
    at_least c a' b d l h f0 f1 g0 g1 k e = by (order c 128) (order c 2048)
      where
        by : (c < 128) ⊎ (128 ≤ c) → (c < 2048) ⊎ (2048 ≤ c) → 2048 ≤ c
        by (inl small) _ = let same : c ∷ [] ≡ a' ∷ (b ∷ (d ∷ [])) = sym (laws.one c small) ∙ e in cc
        by (inr big) (inl small) = let same : (192 + c / 64) ∷ ((128 + c % 64) ∷ []) ≡ a' ∷ (b ∷ (d ∷ [])) = sym (laws.two c big small) ∙ e
            in cc
        by (inr _) (inr big) = big

    go : laws.Shape c → (c < 55296) ⊎ ((57344 ≤ c) × (c < 1114112)) → (b : ℕ) × (d : ℕ) × (t ≡ b ∷ (d ∷ [])) × (second_byte_min a ≤ b)
        × (b ≤ second_byte_max a) × (128 ≤ d) × (d ≤ 191)
    go (laws.of1 h e) _ = absurd (omega arith)
    go (laws.of2 a' b l h f k e) _ = let same : a ∷ t ≡ a' ∷ (b ∷ []) = sym is ∙ e in let a_is : a ≡ a' = cc in
        absurd (omega (arith, range.0))
    go (laws.of3 a' b d l h f g k e) (inl low) =
        let same : a ∷ t ≡ a' ∷ (b ∷ (d ∷ [])) = sym is ∙ e in
        let a_is : a ≡ a' = cc in
        let least = at_least c a' b d l h f.0 f.1 g.0 g.1 k e in
        let q = is_three_second a b range.0 range.1 f.0 (omega (arith, f.1)) (λ is0. omega (arith, least, is0, a_is, k, g.1))
        (λ is0. omega (arith, low, is0, a_is, k, g.0)) in
        (b, d, cc, q.0, q.1, g.0, omega (arith, g.1))
    go (laws.of3 a' b d l h f g k e) (inr high) =
        let same : a ∷ t ≡ a' ∷ (b ∷ (d ∷ [])) = sym is ∙ e in
        let a_is : a ≡ a' = cc in
        let q = is_three_second a b range.0 range.1 f.0 (omega (arith, f.1)) (λ is0. omega (arith, high.0, is0, a_is, k, f.1, g.1))
        (λ is0. omega (arith, high.0, is0, a_is, k, f.1, g.1)) in
        (b, d, cc, q.0, q.1, g.0, omega (arith, g.1))
    go (laws.of4 a' b d x l h f g i k e) _ = let same : a ∷ t ≡ a' ∷ (b ∷ (d ∷ (x ∷ []))) = sym is ∙ e in let a_is : a ≡ a' = cc in
        absurd (omega (arith, range.1))

pub encode_four : (a b d x : ℕ) → width_of a ≡ 4 → second_byte_min a ≤ b → b ≤ second_byte_max a → 128 ≤ d → d ≤ 191 → 128 ≤ x → x ≤ 191
    → let c = (((a - 240) * 64 + (b - 128)) * 64 + (d - 128)) * 64 + (x - 128) in (encode_utf8 c ≡ a ∷ (b ∷ (d ∷ (x ∷ [])))) × IsScalar c
    × (128 ≤ c)
encode_four a b d x w low high dl dh xl xh =
    let range = width_four a w in
    let f = four_second a b w low high in
    let c : ℕ = (((a - 240) * 64 + (b - 128)) * 64 + (d - 128)) * 64 + (x - 128) in
    let sum : c + 63447168 ≡ a * 262144 + b * 4096 + d * 64 + x = omega (arith, range.0, f.0) in
    let least : 65536 ≤ c = at_least (order a 241) in
    let top : c < 1114112 = at_most (order a 244) in
    let e0 : 240 + c / 262144 ≡ a = omega (arith, range.0, range.1, f.0, f.1, sum) in
    let e1 : 128 + (c / 4096) % 64 ≡ b = omega (arith, range.0, range.1, f.0, f.1, sum) in
    let e2 : 128 + (c / 64) % 64 ≡ d = omega (arith, range.0, range.1, f.0, f.1, sum) in
    let e3 : 128 + c % 64 ≡ x = omega (arith, range.0, range.1, f.0, f.1, sum) in
    let e = laws.four c least in (
      e ∙ ap (λ q. q ∷ ((128 + (c / 4096) % 64) ∷ ((128 + (c / 64) % 64) ∷ ((128 + c % 64) ∷ [])))) e0
          ∙ ap (λ q. a ∷ (q ∷ ((128 + (c / 64) % 64) ∷ ((128 + c % 64) ∷ [])))) e1 ∙ ap (λ q. a ∷ (b ∷ (q ∷ ((128 + c % 64) ∷ [])))) e2
          ∙ ap (λ q. a ∷ (b ∷ (d ∷ (q ∷ [])))) e3,
      scalar_by c (inr (omega (arith, least))) top,
      omega (arith, least),
    )
  where
    sides : (128 ≤ b) × (b ≤ 191) × (a ≡ 240 → 144 ≤ b) × (a ≡ 244 → b ≤ 143)
    sides = four_second a b w low high

    range : (240 ≤ a) × (a < 245)
    range = width_four a w

    at_least : (a < 241) ⊎ (241 ≤ a) → 65536 ≤ (((a - 240) * 64 + (b - 128)) * 64 + (d - 128)) * 64 + (x - 128)
    at_least (inl h) = let e : a ≡ 240 = omega (arith, range.0) in let more = sides.2 e in omega (arith, more, e)
    at_least (inr l) = omega (arith, sides.0)

    at_most : (a < 244) ⊎ (244 ≤ a) → (((a - 240) * 64 + (b - 128)) * 64 + (d - 128)) * 64 + (x - 128) < 1114112
    at_most (inl h) = omega (arith, sides.1)
    at_most (inr l) = let e : a ≡ 244 = omega (arith, range.1) in let less = sides.3 e in omega (arith, less, e)

pub decode_four : (c a : ℕ) (t : Text) → IsScalar c → 128 ≤ c → width_of a ≡ 4 → encode_utf8 c ≡ a ∷ t → (b : ℕ) × (d : ℕ) × (x : ℕ)
    × (t ≡ b ∷ (d ∷ (x ∷ []))) × (second_byte_min a ≤ b) × (b ≤ second_byte_max a) × (128 ≤ d) × (d ≤ 191) × (128 ≤ x) × (x ≤ 191)
decode_four c a t s high w is = go (shape_of c s)
  where
    range : (240 ≤ a) × (a < 245)
    range = width_four a w

    top : (c < 55296) ⊎ ((57344 ≤ c) × (c < 1114112)) → c < 1114112
    top (inl h) = omega arith
    top (inr h) = h.1

    -- four bytes are not written for a character of fewer
    at_least : (a' b d x : ℕ) → encode_utf8 c ≡ a' ∷ (b ∷ (d ∷ (x ∷ []))) → 65536 ≤ c
    at_least a' b d x e = by (order c 128) (order c 2048) (order c 65536)
      where
        by : (c < 128) ⊎ (128 ≤ c) → (c < 2048) ⊎ (2048 ≤ c) → (c < 65536) ⊎ (65536 ≤ c) → 65536 ≤ c
        by (inl small) _ _ = let same : c ∷ [] ≡ a' ∷ (b ∷ (d ∷ (x ∷ []))) = sym (laws.one c small) ∙ e in cc
        by (inr big) (inl small) _ = let same : (192 + c / 64) ∷ ((128 + c % 64) ∷ []) ≡ a' ∷ (b ∷ (d ∷ (x ∷ []))) = sym
            (laws.two c big small) ∙ e in cc
        by (inr _) (inr big) (inl small) = let same : (224 + c / 4096) ∷ ((128 + (c / 64) % 64) ∷ ((128 + c % 64) ∷ [])) ≡ a'
            ∷ (b ∷ (d ∷ (x ∷ []))) = sym (laws.three c big small) ∙ e in cc
        by (inr _) (inr _) (inr big) = big

    go : laws.Shape c → (b : ℕ) × (d : ℕ) × (x : ℕ) × (t ≡ b ∷ (d ∷ (x ∷ []))) × (second_byte_min a ≤ b) × (b ≤ second_byte_max a)
        × (128 ≤ d) × (d ≤ 191) × (128 ≤ x) × (x ≤ 191)
    go (laws.of1 h e) = absurd (omega arith)
    go (laws.of2 a' b l h f k e) = let same : a ∷ t ≡ a' ∷ (b ∷ []) = sym is ∙ e in let a_is : a ≡ a' = cc in
        absurd (omega (arith, range.0))
    go (laws.of3 a' b d l h f g k e) = let same : a ∷ t ≡ a' ∷ (b ∷ (d ∷ [])) = sym is ∙ e in let a_is : a ≡ a' = cc in
        absurd (omega (arith, range.0))
    go (laws.of4 a' b d x l h f g i k e) =
        let same : a ∷ t ≡ a' ∷ (b ∷ (d ∷ (x ∷ []))) = sym is ∙ e in
        let a_is : a ≡ a' = cc in
        let least = at_least a' b d x e in
        let most = top (scalar_cases c s) in
        let q = is_four_second a b range.0 range.1 f.0 (omega (arith, f.1)) (λ is0. omega (arith, least, is0, a_is, k, g.1, i.1))
        (λ is0. omega (arith, most, is0, a_is, k, g.0, i.0)) in
        (b, d, x, cc, q.0, q.1, g.0, omega (arith, g.1), i.0, omega (arith, i.1))
