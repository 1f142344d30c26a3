-- Where the writing of a history's entries stands.
use Rattle.std.proofs.Common.{◌≡◌, ◌∙◌, ℕ, ◌+◌, ◌<◌, List, [], ◌∷◌, ◌++◌, Option, ap, refl, sym, subst, length, drop, get_or, append_assoc}
use Rattle.std.proofs.lemmas.List.{drop_more}
use Rattle.std.specs.Io.KnownBytes.{Appends}
use Rattle.std.proofs.KnownBytes.{Appends-trans}
use Rattle.task_model.specs.Terms.Item.{ItemTerm, opened, took, history_term, item_term}
use Rattle.task_model.specs.declared.item.Item.{Item}
use Rattle.input_lines.specs.EntryText.{entry_text}
use Rattle.outer_io.specs.Links.{Beside}
use Rattle.history_lines.specs.EntryLines.{WroteEntries, entries_text}
use Rattle.history_lines.specs.declared.entries_written.EntriesWritten.TheVariants.{Whole, Failed, Memory}

-- the lines of these items were written, and those of the rest are left
pub record HasWritten (old now : Option (List ℕ)) (before count : ℕ) (first beside : Beside) (items rest : List ItemTerm) : Type 0 where
  pub done : List ItemTerm
  pub split : items ≡ done ++ rest
  pub taken : Appends old now (entries_text done)
  pub same : count ≡ before
  pub keeps : beside ≡ first

-- the lines of two histories, one behind the other
pub entries_text-append : (xs ys : List ItemTerm) → entries_text (xs ++ ys) ≡ entries_text xs ++ entries_text ys
entries_text-append [] ys = refl
entries_text-append (opened p budget ∷ xs) ys = entries_text-append xs ys
entries_text-append (took e ∷ xs) ys =
    ap (λ t. entry_text e ++ t) (entries_text-append xs ys) ∙ sym (append_assoc (entry_text e) (entries_text xs) (entries_text ys))

-- the next item is in front of the others that are left
next_of : (done rest : List ItemTerm) (item : ItemTerm) → done ++ (item ∷ rest) ≡ (done ++ (item ∷ [])) ++ rest
next_of done rest item = sym (append_assoc done (item ∷ []) rest)

-- the item at a place is the next one that is left
pub at_item : (old now : Option (List ℕ)) (before count : ℕ) (first beside : Beside) (items : List Item) (i : ℕ) (item : Item)
    → i < length items → item ≡ get_or items i item
    → HasWritten old now before count first beside (history_term items) (history_term (drop i items))
    → HasWritten old now before count first beside (history_term items) (item_term item ∷ history_term (drop (i + 1) items))
at_item old now before count first beside items i item lt is w =
    let front : history_term (drop i items) ≡ item_term item ∷ history_term (drop (i + 1) items) =
    ap history_term (drop_more items i item lt ∙ ap (λ x. x ∷ drop (i + 1) items) (sym is)) in
    subst (λ (rest : List ItemTerm). HasWritten old now before count first beside (history_term items) rest) front w

-- the next item was written
pub written_next : (old mid new : Option (List ℕ)) (before now later : ℕ) (first next last : Beside) (items rest : List ItemTerm)
    (item : ItemTerm) → HasWritten old mid before now first next items (item ∷ rest) → WroteEntries mid new (item ∷ []) Whole
    → later ≡ now → last ≡ next → HasWritten old new before later first last items rest
written_next old mid new before now later first next last items rest item w t e b = record {
  done = w.done ++ (item ∷ []);
  split = w.split ∙ next_of w.done rest item;
  taken = rw (entries_text-append w.done (item ∷ []))
      (Appends-trans old mid new (entries_text w.done) (entries_text (item ∷ [])) w.taken t);
  same = e ∙ w.same;
  keeps = b ∙ w.keeps;
}

-- a write failed at the next item
pub failed_next : (old mid new : Option (List ℕ)) (before count : ℕ) (first beside : Beside) (items rest : List ItemTerm) (item : ItemTerm)
    → HasWritten old mid before count first beside items (item ∷ rest) → WroteEntries mid new (item ∷ []) Failed
    → WroteEntries old new items Failed
failed_next old mid new before count first beside items rest item w f = (
  entries_text w.done ++ f.0,
  (
    f.1.0 ++ entries_text rest,
    ap entries_text (w.split ∙ next_of w.done rest item)
        ∙ entries_text-append (w.done ++ (item ∷ [])) rest
        ∙ ap (λ t. t ++ entries_text rest) (entries_text-append w.done (item ∷ []))
        ∙ ap (λ t. (entries_text w.done ++ t) ++ entries_text rest) f.1.1
        ∙ ap (λ t. t ++ entries_text rest) (sym (append_assoc (entries_text w.done) f.0 f.1.0))
        ∙ append_assoc (entries_text w.done ++ f.0) f.1.0 (entries_text rest),
  ),
  Appends-trans old mid new (entries_text w.done) f.0 w.taken f.2,
)

-- memory ran out at the next item
pub ran_out_next : (old mid new : Option (List ℕ)) (before count : ℕ) (first beside : Beside) (items rest : List ItemTerm) (item : ItemTerm)
    → HasWritten old mid before count first beside items (item ∷ rest) → WroteEntries mid new (item ∷ []) Memory
    → WroteEntries old new items Memory
ran_out_next old mid new before count first beside items rest item w m = (
  w.done ++ m.0,
  (
    m.1.0,
    m.1.1 ++ rest,
    w.split ∙ next_of w.done rest item
        ∙ ap (λ xs. (w.done ++ xs) ++ rest) m.1.2
        ∙ ap (λ xs. xs ++ rest) (sym (append_assoc w.done m.0 (took m.1.0 ∷ m.1.1)))
        ∙ append_assoc (w.done ++ m.0) (took m.1.0 ∷ m.1.1) rest,
  ),
  rw (entries_text-append w.done m.0) (Appends-trans old mid new (entries_text w.done) (entries_text m.0) w.taken m.2),
)
