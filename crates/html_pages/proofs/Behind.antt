-- Texts that stand behind room.
use Rattle.std.specs.Str.{IsUtf8, IsCharBoundary}
use Rattle.std.proofs.Common.{◌≡◌, ◌+◌, ◌++◌, length, take, drop, sym, ap, ◌∙◌, subst, arith, append_assoc, length-append}
use Rattle.std.proofs.Math.Seq.{drop-append_seam, take-append_seam}
use Rattle.std.proofs.lemmas.Str.{IsCharBoundary-from_take}
use Rattle.task_model.specs.Terms.Text.{Text}

parts : (room a b d : Text) → ((room ++ a) ++ b) ++ d ≡ room ++ ((a ++ b) ++ d)
parts room a b d = ap (λ (l : Text). l ++ d) (append_assoc room a b) ∙ append_assoc room (a ++ b) d

-- the text is what stands behind the room
pub text_behind : (bytes room a b d : Text) → bytes ≡ ((room ++ a) ++ b) ++ d → drop (length room) bytes ≡ (a ++ b) ++ d
text_behind bytes room a b d is =
    ap (λ (l : Text). drop (length room) l) (is ∙ parts room a b d) ∙ drop-append_seam room ((a ++ b) ++ d)

-- it begins with a character
pub text_begins : (bytes room a b d : Text) → bytes ≡ ((room ++ a) ++ b) ++ d → IsUtf8 bytes → IsUtf8 room
    → IsCharBoundary bytes (length room)
text_begins bytes room a b d is whole front =
    let rest = (a ++ b) ++ d in
    let behind : bytes ≡ room ++ rest = is ∙ parts room a b d in
    let count : length bytes ≡ length room + length rest = ap (λ (l : Text). length l) behind ∙ length-append room rest in
    let first : take (length room) bytes ≡ room = ap (λ (l : Text). take (length room) l) behind ∙ take-append_seam room rest in
    IsCharBoundary-from_take bytes (length room) whole (omega arith) (subst IsUtf8 (sym first) front)
