-- Paths below other paths.
use Rattle.std.proofs.Common.{◌≡◌, ◌<◌, ◌-◌, List, [], ◌∷◌, ◌++◌, map, length, length-append, take, refl, sym, ap, ◌∙◌, append_assoc, append-nil, arith}
use Rattle.std.proofs.Math.Seq.{take-append_seam}
use Rattle.task_model.specs.Running.Offer.{OfferTerm, turned, both_offers}
use Rattle.task_model.specs.Showing.Widget.{WidgetTerm, shifted, both_widgets}
use Rattle.task_model.specs.declared.input.Turn.{Turn}
use Rattle.task_model.specs.declared.input.Turn.TheVariants as turns
use Rattle.task_tree.specs.Below.{offer_below, widget_below, IsInto}

-- ---- at the root
pub offers_at_root : (os : List OfferTerm) → map (offer_below []) os ≡ os
offers_at_root [] = refl
offers_at_root (o ∷ os) = ap (λ z. o ∷ z) (offers_at_root os)

pub widgets_at_root : (ws : List WidgetTerm) → map (widget_below []) ws ≡ ws
widgets_at_root [] = refl
widgets_at_root (w ∷ ws) = ap (λ z. w ∷ z) (widgets_at_root ws)

-- ---- one turn further
one_turn : (p q : List Turn) (t : Turn) → (p ++ t ∷ []) ++ q ≡ p ++ (t ∷ q)
one_turn p q t = append_assoc p (t ∷ []) q

pub offers_turned : (p : List Turn) (t : Turn) (os : List OfferTerm) → map (offer_below (p ++ t ∷ [])) os
    ≡ map (offer_below p) (map (turned t) os)
offers_turned p t [] = refl
offers_turned p t (o ∷ os) =
    ap (λ path. record { path = path; kind = o.kind; answer = o.answer } ∷ map (offer_below (p ++ t ∷ [])) os) (one_turn p o.path t)
    ∙ ap (λ z. offer_below p (turned t o) ∷ z) (offers_turned p t os)

pub widgets_shifted : (p : List Turn) (t : Turn) (ws : List WidgetTerm)
    → map (widget_below (p ++ t ∷ [])) ws ≡ map (widget_below p) (map (shifted t) ws)
widgets_shifted p t [] = refl
widgets_shifted p t (w ∷ ws) =
    ap (λ path. record { path = path; shape = w.shape } ∷ map (widget_below (p ++ t ∷ [])) ws) (one_turn p w.path t)
    ∙ ap (λ z. widget_below p (shifted t w) ∷ z) (widgets_shifted p t ws)

-- ---- two parts
pub offers_append : (p : List Turn) (os us : List OfferTerm) → map (offer_below p) (os ++ us)
    ≡ map (offer_below p) os ++ map (offer_below p) us
offers_append p [] us = refl
offers_append p (o ∷ os) us = ap (λ z. offer_below p o ∷ z) (offers_append p os us)

pub widgets_append : (p : List Turn) (ws us : List WidgetTerm)
    → map (widget_below p) (ws ++ us) ≡ map (widget_below p) ws ++ map (widget_below p) us
widgets_append p [] us = refl
widgets_append p (w ∷ ws) us = ap (λ z. widget_below p w ∷ z) (widgets_append p ws us)

-- the offers of both parts of a pair or of a choice
pub offers_of_both : (p : List Turn) (xs ys : List OfferTerm)
    → map (offer_below p) (both_offers xs ys) ≡ map (offer_below (p ++ turns.First ∷ [])) xs ++ map
    (offer_below (p ++ turns.Second ∷ [])) ys
offers_of_both p xs ys =
    offers_append p (map (turned turns.First) xs) (map (turned turns.Second) ys)
    ∙ ap (λ z. z ++ map (offer_below p) (map (turned turns.Second) ys)) (sym (offers_turned p turns.First xs))
    ∙ ap (λ z. map (offer_below (p ++ turns.First ∷ [])) xs ++ z) (sym (offers_turned p turns.Second ys))

-- their widgets
pub widgets_of_both : (p : List Turn) (xs ys : List WidgetTerm)
    → map (widget_below p) (both_widgets xs ys) ≡ map (widget_below (p ++ turns.First ∷ [])) xs ++ map
    (widget_below (p ++ turns.Second ∷ [])) ys
widgets_of_both p xs ys =
    widgets_append p (map (shifted turns.First) xs) (map (shifted turns.Second) ys)
    ∙ ap (λ z. z ++ map (widget_below p) (map (shifted turns.Second) ys)) (sym (widgets_shifted p turns.First xs))
    ∙ ap (λ z. map (widget_below (p ++ turns.First ∷ [])) xs ++ z) (sym (widgets_shifted p turns.Second ys))

-- ---- into a part
-- a path leads into the part that it leads to
pub into_own : (p : List Turn) → IsInto p p
into_own p = ([], sym (append-nil p))

-- what is in a part of a part is in the part
pub into_outer : (p path : List Turn) (t : Turn) → IsInto (p ++ t ∷ []) path → IsInto p path
into_outer p path t q = (t ∷ q.0, q.1 ∙ one_turn p q.0 t)

-- what is in the second part isn't in the first
pub first_apart : (p path : List Turn) → IsInto (p ++ turns.First ∷ []) ((p ++ turns.Second ∷ []) ++ path) → ⊥
first_apart p path q = apart p path q.0 (sym (one_turn p path turns.Second) ∙ q.1 ∙ one_turn p q.0 turns.First)
  where
    apart : (p x y : List Turn) → p ++ (turns.Second ∷ x) ≡ p ++ (turns.First ∷ y) → ⊥
    apart [] x y e = cc
    apart (r ∷ p) x y e = apart p x y (cc)

-- ---- back by a turn
pub back_by_one : (p : List Turn) (t : Turn) → take (length (p ++ t ∷ []) - 1) (p ++ t ∷ []) ≡ p
back_by_one p t =
    let one : length (p ++ t ∷ []) - 1 ≡ length p = omega (arith, length-append p (t ∷ [])) in
    ap (λ n. take n (p ++ t ∷ [])) one ∙ take-append_seam p (t ∷ [])

pub some_turn : (p : List Turn) (t : Turn) → 0 < length (p ++ t ∷ [])
some_turn p t = omega (arith, length-append p (t ∷ []))

-- a path that adds nothing to another adds no turn
pub append_same : (p q : List Turn) → p ++ q ≡ p → q ≡ []
append_same [] q e = e
append_same (t ∷ p) q e = append_same p q (cc)
