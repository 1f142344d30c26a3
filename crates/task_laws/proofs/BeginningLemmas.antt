-- A list that begins a history: its prefix of that version.
use Rattle.std.proofs.Common.{◌≡◌, ◌≢◌, ℕ, zero, suc, ◌≤◌, List, [], ◌∷◌, ◌++◌, refl, sym, ap, ◌∙◌, subst, arith}
use mathlib.Core.List.{IsPrefix}
use Rattle.task_model.specs.Terms.Item.{ItemTerm, opened, took}
use Rattle.task_model.specs.Running.State.{version_of, AreEntries, IsLegal, history_prefix}
use Rattle.task_laws.proofs.HistoryLemmas.{prefix_whole, prefix_legal}
use Rattle.task_laws.proofs.EntryLemmas.{version_behind}

pub version_later : (H K : List ItemTerm) → IsPrefix H K → version_of H ≤ version_of K
version_later H K h = let sum = version_behind H h.0 in let same = ap version_of h.1 in omega (arith, sum, same)

pub prefix_begins : (H : List ItemTerm) (m : ℕ) → IsPrefix (history_prefix H m) H
prefix_begins [] m = ([], refl)
prefix_begins (opened p budget ∷ H) m = let rest = prefix_begins H m in (rest.0, ap (λ z. opened p budget ∷ z) rest.1)
prefix_begins (took e ∷ H) zero = (took e ∷ H, refl)
prefix_begins (took e ∷ H) (suc m) = let rest = prefix_begins H m in (rest.0, ap (λ z. took e ∷ z) rest.1)

-- ---- entries, one behind the other
none_at_zero : (K : List ItemTerm) → AreEntries K → history_prefix K 0 ≡ []
none_at_zero [] h = refl
none_at_zero (opened p budget ∷ K) h = absurd h
none_at_zero (took e ∷ K) h = refl

entries_same : (H K : List ItemTerm) (m : ℕ) → AreEntries (H ++ K) → m ≤ version_of H → history_prefix (H ++ K) m ≡ history_prefix H m
entries_same [] K zero h le = none_at_zero K h
entries_same [] K (suc m) h le = absurd (omega arith)
entries_same (opened p budget ∷ H) K m h le = absurd h
entries_same (took e ∷ H) K zero h le = refl
entries_same (took e ∷ H) K (suc m) h le = ap (λ z. took e ∷ z) (entries_same H K m h.1 (omega arith))

-- ---- behind the opening
behind_same : (H K : List ItemTerm) (m : ℕ) → IsLegal (H ++ K) → H ≢ [] → m ≤ version_of H → history_prefix (H ++ K) m ≡ history_prefix H m
behind_same [] K m legal some le = absurd (some refl)
behind_same (took e ∷ H) K m legal some le = absurd legal
behind_same (opened p budget ∷ H) K m legal some le = ap (λ z. opened p budget ∷ z) (entries_same H K m legal.1 le)

pub begins_same : (H K : List ItemTerm) (m : ℕ) → IsLegal K → IsPrefix H K → H ≢ [] → m ≤ version_of H
    → history_prefix K m ≡ history_prefix H m
begins_same H K m legal h some le =
    ap (λ z. history_prefix z m) (sym h.1) ∙ behind_same H h.0 m (subst IsLegal (sym h.1) legal) some le

pub begins_prefix : (H K : List ItemTerm) → IsLegal K → IsPrefix H K → H ≢ [] → history_prefix K (version_of H) ≡ H
begins_prefix H K legal h some = begins_same H K (version_of H) legal h some (omega arith) ∙ prefix_whole H

pub begins_legal : (H K : List ItemTerm) → IsLegal K → IsPrefix H K → H ≢ [] → IsLegal H
begins_legal H K legal h some = subst IsLegal (begins_prefix H K legal h some) (prefix_legal K (version_of H) legal)

pub begins_once : (H J K : List ItemTerm) → IsLegal K → IsPrefix H K → H ≢ [] → IsPrefix J K → J ≢ [] → version_of H ≡ version_of J → H ≡ J
begins_once H J K legal h some g other e =
    sym (begins_prefix H K legal h some) ∙ ap (history_prefix K) e ∙ begins_prefix J K legal g other
