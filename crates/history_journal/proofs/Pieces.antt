-- A disk that is read in pieces.
use Rattle.std.proofs.Common.{◌≡◌, ℕ, ◌+◌, ◌≤◌, List, ◌++◌, length, take, drop, refl, sym, ◌∙◌, ap, subst, arith, length-append, take-append-drop, append_assoc, IsTrue}
use Rattle.std.proofs.lemmas.List.{take_at, take_all, length-take, append-nil}
use Rattle.outer_disks.specs.Disks.{DiskTold, IsHonest, Rests, Syncs}
use Rattle.history_journal.specs.Making.{Looks}

-- what was read is the front of what is there, and so it is with the next piece
pub read_more : (seen bytes part : List ℕ) → take (length bytes) seen ≡ bytes → take (length part) (drop (length bytes) seen) ≡ part
    → take (length (bytes ++ part)) seen ≡ bytes ++ part
read_more seen bytes part front next =
    let rest = drop (length part) (drop (length bytes) seen) in
    let whole : seen ≡ (bytes ++ part) ++ rest =
    sym (take-append-drop (length bytes) seen) ∙ (ap (λ (l : List ℕ). l ++ drop (length bytes) seen) front
    ∙ (ap (λ (l : List ℕ). bytes ++ l) (sym (take-append-drop (length part) (drop (length bytes) seen)) ∙ ap (λ (l : List ℕ). l ++ rest) next)
    ∙ sym (assoc bytes part rest))) in
    ap (λ (l : List ℕ). take (length (bytes ++ part)) l) whole ∙ take_at (bytes ++ part) rest (length (bytes ++ part)) refl
  where
    assoc : (a b c : List ℕ) → (a ++ b) ++ c ≡ a ++ (b ++ c)
    assoc a b c = append_assoc a b c

pub all_read : (seen bytes : List ℕ) → take (length bytes) seen ≡ bytes → length seen ≤ length bytes → bytes ≡ seen
all_read seen bytes front long = sym front ∙ take_all (length bytes) seen long

pub looks_rests : (a b c : DiskTold) → Looks a b → Rests b c → Looks a c
looks_rests a b c looks rests = record {
  honest = rests.honest ∙ looks.honest;
  seen = λ h. (rests.keeps (there h)).seen ∙ looks.seen h;
  crash = λ h l left. looks.crash h l ((rests.keeps (there h)).crash l left);
}
  where
    there : IsHonest a → IsHonest b
    there h = subst IsTrue (sym looks.honest) h

pub no_looks : (a : DiskTold) → Looks a a
no_looks a = record { honest = refl; seen = λ h. refl; crash = λ h c left. left }
