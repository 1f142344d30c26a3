-- What marks tell of a number, by the parts.
use Rattle.std.proofs.Common.{◌≡◌, ℕ, zero, suc, Bool, List, [], ◌∷◌, ◌++◌, map, Some, refl, sym, ap, ◌∙◌}
use Rattle.std.specs.Prelude.{slice_get, Result, Ok, Err}
use Rattle.task_model.specs.Terms.Tree.{TreeTerm, edit_tree, enter_tree, share_tree, then_tree, next_tree, fail_tree, and_tree, or_tree, xor_tree}
use Rattle.task_model.specs.Running.Address.{DownTerm, Address, into_left, into_first, into_second}
use Rattle.kept_nodes.specs.Kept.{addresses}
use Rattle.kept_nodes.specs.KeptMarks.{told}
use Rattle.kept_nodes.specs.NodeNumbers.{numbered}
use Rattle.kept_nodes.specs.NodeParts.{leaf_parts, step_parts, pair_parts, node_parts}
use Rattle.kept_nodes.specs.declared.marks.Marks.{Marks}
use Rattle.kept_nodes.proofs.MarkLemmas.{not_step, not_pair, pair_step, step_same, pair_first, pair_second}

-- what the one list tells, or else the other one
abbrev pub or_behind : Result Bool ℕ → (ℕ → Result Bool ℕ) → Result Bool ℕ
or_behind (Ok b) f = Ok b
or_behind (Err n) f = f n

numbered_map : (m n : Marks) (d : DownTerm) (xs : List Address) (k : ℕ) → ((a : Address) → told n a ≡ told m (d ∷ a))
    → numbered m (map (λ a. d ∷ a) xs) k ≡ numbered n xs k
numbered_map m n d [] k e = refl
numbered_map m n d (a ∷ xs) zero e = ap Ok (sym (e a))
numbered_map m n d (a ∷ xs) (suc k) e = numbered_map m n d xs k e

numbered_append : (m : Marks) (xs ys : List Address) (k : ℕ) → numbered m (xs ++ ys) k
    ≡ or_behind (numbered m xs k) (λ j. numbered m ys j)
numbered_append m [] ys k = refl
numbered_append m (x ∷ xs) ys zero = refl
numbered_append m (x ∷ xs) ys (suc k) = numbered_append m xs ys k

pub numbered_root : (m : Marks) (t : TreeTerm) → numbered m (addresses t) 0 ≡ Ok (told m [])
numbered_root m (edit_tree b v) = refl
numbered_root m (enter_tree b) = refl
numbered_root m (share_tree b n) = refl
numbered_root m (then_tree t k) = refl
numbered_root m (next_tree t k) = refl
numbered_root m fail_tree = refl
numbered_root m (and_tree t u) = refl
numbered_root m (or_tree t u) = refl
numbered_root m (xor_tree i j) = refl

pub numbered_leaf : (t : TreeTerm) (m : Marks) (k : ℕ) → node_parts t ≡ leaf_parts → numbered m (addresses t) (suc k) ≡ Err k
numbered_leaf (edit_tree b v) m k e = refl
numbered_leaf (enter_tree b) m k e = refl
numbered_leaf (share_tree b n) m k e = refl
numbered_leaf fail_tree m k e = refl
numbered_leaf (xor_tree i j) m k e = refl
numbered_leaf (then_tree t l) m k e = absurd (not_step e)
numbered_leaf (next_tree t l) m k e = absurd (not_step e)
numbered_leaf (and_tree t u) m k e = absurd (not_pair e)
numbered_leaf (or_tree t u) m k e = absurd (not_pair e)

pub numbered_step : (t l : TreeTerm) (m n : Marks) (k : ℕ) → node_parts t ≡ step_parts l
    → ((a : Address) → told n a ≡ told m (into_left ∷ a))
    → numbered m (addresses t) (suc k) ≡ numbered n (addresses l) k
numbered_step (then_tree u j) l m n k e f =
    numbered_map m n into_left (addresses u) k f ∙ ap (λ z. numbered n (addresses z) k) (step_same e)
numbered_step (next_tree u j) l m n k e f =
    numbered_map m n into_left (addresses u) k f ∙ ap (λ z. numbered n (addresses z) k) (step_same e)
numbered_step (edit_tree b v) l m n k e f = absurd (not_step (sym e))
numbered_step (enter_tree b) l m n k e f = absurd (not_step (sym e))
numbered_step (share_tree b v) l m n k e f = absurd (not_step (sym e))
numbered_step fail_tree l m n k e f = absurd (not_step (sym e))
numbered_step (xor_tree i j) l m n k e f = absurd (not_step (sym e))
numbered_step (and_tree u v) l m n k e f = absurd (pair_step e)
numbered_step (or_tree u v) l m n k e f = absurd (pair_step e)

-- a number in the first part, and one behind that
in_first_part : (u v : TreeTerm) (m n : Marks) (k : ℕ) (b : Bool) → ((a : Address) → told n a ≡ told m (into_first ∷ a))
    → numbered n (addresses u) k ≡ Ok b
    → numbered m (map (λ a. into_first ∷ a) (addresses u) ++ map (λ a. into_second ∷ a) (addresses v)) k ≡ Ok b
in_first_part u v m n k b first e =
    numbered_append m (map (λ a. into_first ∷ a) (addresses u)) (map (λ a. into_second ∷ a) (addresses v)) k
    ∙ ap (λ r. or_behind r (λ j. numbered m (map (λ a. into_second ∷ a) (addresses v)) j))
    (numbered_map m n into_first (addresses u) k first ∙ e)

in_second_part : (u v : TreeTerm) (m n w : Marks) (k j : ℕ) → ((a : Address) → told n a ≡ told m (into_first ∷ a))
    → ((a : Address) → told w a ≡ told m (into_second ∷ a)) → numbered n (addresses u) k ≡ Err j
    → numbered m (map (λ a. into_first ∷ a) (addresses u) ++ map (λ a. into_second ∷ a) (addresses v)) k ≡ numbered w (addresses v) j
in_second_part u v m n w k j first second e =
    numbered_append m (map (λ a. into_first ∷ a) (addresses u)) (map (λ a. into_second ∷ a) (addresses v)) k
    ∙ ap (λ r. or_behind r (λ i. numbered m (map (λ a. into_second ∷ a) (addresses v)) i))
    (numbered_map m n into_first (addresses u) k first ∙ e)
    ∙ numbered_map m w into_second (addresses v) j second

pub numbered_first : (t x y : TreeTerm) (m n : Marks) (k : ℕ) (b : Bool) → node_parts t ≡ pair_parts x y
    → ((a : Address) → told n a ≡ told m (into_first ∷ a)) → numbered n (addresses x) k ≡ Ok b → numbered m (addresses t) (suc k) ≡ Ok b
numbered_first (and_tree u v) x y m n k b e f is =
    in_first_part u v m n k b f (ap (λ z. numbered n (addresses z) k) (pair_first e) ∙ is)
numbered_first (or_tree u v) x y m n k b e f is =
    in_first_part u v m n k b f (ap (λ z. numbered n (addresses z) k) (pair_first e) ∙ is)
numbered_first (edit_tree d v) x y m n k b e f is = absurd (not_pair (sym e))
numbered_first (enter_tree d) x y m n k b e f is = absurd (not_pair (sym e))
numbered_first (share_tree d v) x y m n k b e f is = absurd (not_pair (sym e))
numbered_first fail_tree x y m n k b e f is = absurd (not_pair (sym e))
numbered_first (xor_tree i j) x y m n k b e f is = absurd (not_pair (sym e))
numbered_first (then_tree u j) x y m n k b e f is = absurd (pair_step (sym e))
numbered_first (next_tree u j) x y m n k b e f is = absurd (pair_step (sym e))

pub numbered_second : (t x y : TreeTerm) (m n w : Marks) (k j : ℕ) → node_parts t ≡ pair_parts x y
    → ((a : Address) → told n a ≡ told m (into_first ∷ a)) → ((a : Address) → told w a ≡ told m (into_second ∷ a))
    → numbered n (addresses x) k ≡ Err j → numbered m (addresses t) (suc k) ≡ numbered w (addresses y) j
numbered_second (and_tree u v) x y m n w k j e f g is =
    in_second_part u v m n w k j f g (ap (λ z. numbered n (addresses z) k) (pair_first e) ∙ is)
    ∙ ap (λ z. numbered w (addresses z) j) (pair_second e)
numbered_second (or_tree u v) x y m n w k j e f g is =
    in_second_part u v m n w k j f g (ap (λ z. numbered n (addresses z) k) (pair_first e) ∙ is)
    ∙ ap (λ z. numbered w (addresses z) j) (pair_second e)
numbered_second (edit_tree d v) x y m n w k j e f g is = absurd (not_pair (sym e))
numbered_second (enter_tree d) x y m n w k j e f g is = absurd (not_pair (sym e))
numbered_second (share_tree d v) x y m n w k j e f g is = absurd (not_pair (sym e))
numbered_second fail_tree x y m n w k j e f g is = absurd (not_pair (sym e))
numbered_second (xor_tree d i) x y m n w k j e f g is = absurd (not_pair (sym e))
numbered_second (then_tree u i) x y m n w k j e f g is = absurd (pair_step (sym e))
numbered_second (next_tree u i) x y m n w k j e f g is = absurd (pair_step (sym e))

pub numbered_there : (m : Marks) (xs : List Address) (k : ℕ) (a : Address) → slice_get xs k ≡ Some a → numbered m xs k ≡ Ok (told m a)
numbered_there m [] k a e = absurd (cc)
numbered_there m (x ∷ xs) zero a e = let same : x ≡ a = cc in ap (λ z. Ok (told m z)) same
numbered_there m (x ∷ xs) (suc k) a e = numbered_there m xs k a e

pub ok_same : (r s : Result Bool ℕ) (b d : Bool) → r ≡ Ok b → s ≡ Ok d → r ≡ s → b ≡ d
ok_same r s b d e f g = cc

pub err_ok : (r s : Result Bool ℕ) (n : ℕ) (b : Bool) → r ≡ Err n → s ≡ Ok b → r ≡ s → ⊥
err_ok r s n b e f g = cc
