-- What was written is one outcome of the write.
use Rattle.std.proofs.Common.{◌≡◌, inl, inr, ℕ, ◌+◌, ◌≤◌, min, max, List, ◌++◌, length, take, drop, refl, sym, ◌∙◌, ap, subst, arith, length-append, append_assoc}
use Rattle.std.proofs.lemmas.Bool.{cases_lt}
use Rattle.std.proofs.lemmas.List.{take_at, drop_at, length-take, length-drop, take_all, drop_all}
use Rattle.outer_disks.specs.Writing.{IsWithPiece, IsTorn}

-- a file with a piece at an offset
module _ (old : List ℕ) (at : ℕ) (piece : List ℕ) (le : at ≤ length old) where
  abbrev new : List ℕ
  new = take at old ++ piece ++ drop (at + length piece) old

  front_len : length (take at old) ≡ at
  front_len = omega (arith, length-take at old, le)

  pub long : length new ≡ max (length old) (at + length piece)
  long = omega (arith, front_len, length-append (take at old ++ piece) (drop (at + length piece) old), length-append (take at old) piece, length-drop (at + length piece) old)

  behind : drop (at + length piece) new ≡ drop (at + length piece) old
  behind = drop_at (take at old ++ piece) (drop (at + length piece) old) (at + length piece) (omega (arith, front_len, length-append (take at old) piece))

  front : take at new ≡ take at old
  front = ap (λ (l : List ℕ). take at l) (append_assoc (take at old) piece (drop (at + length piece) old)) ∙ take_at (take at old) (piece ++ drop (at + length piece) old) at front_len

-- what was written is one outcome of the write
pub written_torn : (old : List ℕ) (at : ℕ) (piece new : List ℕ) → at ≤ length old → IsWithPiece old at piece new → IsTorn at (length piece) old new
written_torn old at piece new le is = subst (λ (x : List ℕ). IsTorn at (length piece) old x) (sym is) (record {
  before = ap (λ (n : ℕ). take n (take at old ++ piece ++ drop (at + length piece) old)) least ∙ (front old at piece le ∙ ap (λ (n : ℕ). take n old) (sym least));
  after = after;
  no_shorter = omega (arith, long old at piece le);
  no_longer = omega (arith, long old at piece le);
})
  where
    least : min at (length old) ≡ at
    least = omega (arith, le)

    after : drop (at + length piece) (take (length old) (take at old ++ piece ++ drop (at + length piece) old)) ≡ drop (at + length piece) old
    after = elim (cases_lt (length old) (at + length piece)) [
      | inr within ↦ ap (λ (l : List ℕ). drop (at + length piece) l) (take_all (length old) (take at old ++ piece ++ drop (at + length piece) old) (omega (arith, within, long old at piece le)))
          ∙ behind old at piece le
      | inl past ↦ drop_all (at + length piece) (take (length old) (take at old ++ piece ++ drop (at + length piece) old)) (omega (arith, past, length-take (length old) (take at old ++ piece ++ drop (at + length piece) old)))
          ∙ sym (drop_all (at + length piece) old (omega (arith, past)))
    ]

-- a write that changed nothing
pub same_torn : (at n : ℕ) (old : List ℕ) → IsTorn at n old old
same_torn at n old = record {
  before = refl;
  after = ap (λ (l : List ℕ). drop (at + n) l) (take_all (length old) old (omega arith));
  no_shorter = omega arith;
  no_longer = omega arith;
}

-- pieces of one length in bytes of one length leave them at one length
pub same_length : (a b p q : List ℕ) (at : ℕ) (x y : List ℕ) → at ≤ length a → length b ≡ length a → length q ≡ length p
    → IsWithPiece a at p x → IsWithPiece b at q y → length y ≡ length x
same_length a b p q at x y le same pieces is other =
    omega (arith, le, same, pieces, ap length is, ap length other, long a at p le, long b at q (omega (arith, le, same)))
