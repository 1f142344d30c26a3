-- A machine by the lines that it runs, part by part.
use Rattle.std.proofs.Common.{◌≡◌, ◌⊎◌, inl, inr, ℕ, List, [], ◌∷◌, ◌++◌, Option, refl, sym, ◌∙◌, ap, subst, append_assoc, append-nil}
use Rattle.std.specs.Io.KnownBytes.{Appends}
use Rattle.std.proofs.KnownBytes.{Appends-nil, Appends-trans}
use Rattle.outer_io.specs.Sink.{IsStart, Wrote}
use Rattle.outer_io.specs.declared.sink.Written.{Written}
use Rattle.outer_io.specs.declared.sink.Written.TheVariants as written
use Rattle.line_frame.specs.Due.{JoinsDue, EndsDue}
use Rattle.line_frame.specs.Machines.{Taking, LeadsOver, RanMachine, GoesOver, StopsOver}
use Rattle.line_frame.specs.declared.finish.Finish.{Finish}

module _ {M : Type 0} (takes : Taking M) (stops : M → M → Type 0) where
  leads_then : (a b d : M) (lines more : List (List ℕ)) (x y : List ℕ) → LeadsOver takes a lines x b → LeadsOver takes b more y d
      → LeadsOver takes a (lines ++ more) (x ++ y) d
  leads_then a b d [] more x y one two =
      subst (λ (m : M). LeadsOver takes m more (x ++ y) d) one.1 (subst (λ (z : List ℕ). LeadsOver takes b more (z ++ y) d) (sym one.0) two)
  leads_then a b d (line ∷ lines) more x y one two = (
    one.0,
    one.1,
    one.2 ++ y,
    one.3,
    ap (λ (z : List ℕ). z ++ y) one.4 ∙ append_assoc one.1 one.2 y,
    leads_then one.0 b d lines more one.2 y one.5 two,
  )

  leads_one : (a b : M) (line text : List ℕ) → takes a line text b → LeadsOver takes a (line ∷ []) text b
  leads_one a b line text step = (b, text, [], step, sym (append-nil text), (refl, refl))

  -- ---- within a run
  pub goes_nowhere : (a : M) (out : Option (List ℕ)) (due : List ℕ) → GoesOver takes a a out out due due
  goes_nowhere a out due = record {
    lines = [];
    text = [];
    leads = (refl, refl);
    shown = [];
    took = Appends-nil out;
    left = sym (append-nil due);
  }

  pub machine_then : (a b d : M) (o p q : Option (List ℕ)) (x y z : List ℕ) → GoesOver takes a b o p x y → GoesOver takes b d p q y z → GoesOver takes a d o q x z
  machine_then a b d o p q x y z one two = record {
    lines = one.lines ++ two.lines;
    text = one.text ++ two.text;
    leads = leads_then a b d one.lines two.lines one.text two.text one.leads two.leads;
    shown = one.shown ++ two.shown;
    took = Appends-trans o p q one.shown two.shown one.took two.took;
    left = append_assoc one.shown two.shown z
        ∙ (ap (λ (l : List ℕ). one.shown ++ l) two.left
        ∙ (sym (append_assoc one.shown y two.text)
        ∙ (ap (λ (l : List ℕ). l ++ two.text) one.left
        ∙ append_assoc x one.text two.text)));
  }

  pub machine_stops_then : (a b d : M) (o p q : Option (List ℕ)) (x y : List ℕ) → GoesOver takes a b o p x y → StopsOver takes stops b d p q y → StopsOver takes stops a d o q x
  machine_stops_then a b d o p q x y one two = record {
    lines = one.lines ++ two.lines;
    text = one.text ++ two.text;
    last = two.last;
    leads = leads_then a b two.last one.lines two.lines one.text two.text one.leads two.leads;
    ends = two.ends;
    written = one.shown ++ two.written;
    took = Appends-trans o p q one.shown two.written one.took two.took;
    begins = (
      two.begins.0,
      sym (append_assoc x one.text two.text)
          ∙ (ap (λ (l : List ℕ). l ++ two.text) (sym one.left)
          ∙ (append_assoc one.shown y two.text
          ∙ (ap (λ (l : List ℕ). one.shown ++ l) two.begins.1
          ∙ sym (append_assoc one.shown two.written two.begins.0)))),
    );
  }

  -- ---- one line
  pub goes_line : (a b : M) (o p : Option (List ℕ)) (x y line answer : List ℕ) → takes a line answer b → JoinsDue o p x y answer written.Whole
      → GoesOver takes a b o p x y
  goes_line a b o p x y line answer step joins = record {
    lines = line ∷ [];
    text = answer;
    leads = leads_one a b line answer step;
    shown = joins.0;
    took = joins.2;
    left = joins.1;
  }

  -- its answer wasn't written
  pub stops_line : (a b : M) (o p : Option (List ℕ)) (x y line answer : List ℕ) → takes a line answer b → JoinsDue o p x y answer written.Failed
      → StopsOver takes stops a b o p x
  stops_line a b o p x y line answer step joins = record {
    lines = line ∷ [];
    text = answer;
    last = b;
    leads = leads_one a b line answer step;
    ends = inl refl;
    written = joins.0;
    took = joins.2;
    begins = joins.1;
  }

  wrote_start : (how : Written) (o p : Option (List ℕ)) (x : List ℕ) → Wrote o p x how → (part : List ℕ) × IsStart part x × Appends o p part
  wrote_start written.Whole o p x took = (x, ([], sym (append-nil x)), took)
  wrote_start written.Failed o p x part = part

  -- ---- the end
  ends_so : (a b : M) (o p : Option (List ℕ)) (x : List ℕ) (how : Written) → (b ≡ a) ⊎ stops a b → Wrote o p x how → StopsOver takes stops a b o p x
  ends_so a b o p x how ends wrote =
      let part = wrote_start how o p x wrote in
      record {
        lines = [];
        text = [];
        last = a;
        leads = (refl, refl);
        ends = ends;
        written = part.0;
        took = part.2;
        begins = (part.1.0, append-nil x ∙ part.1.1);
      }

  -- where what was due was written, or that failed
  pub stops_here : (a : M) (o p : Option (List ℕ)) (x : List ℕ) (finish result : Finish) → EndsDue o p x finish result → StopsOver takes stops a a o p x
  stops_here a o p x finish result ends = ends_so a a o p x ends.0 (inl refl) ends.1

  pub stops_unwritten : (a : M) (o p : Option (List ℕ)) (x : List ℕ) → Wrote o p x written.Failed → StopsOver takes stops a a o p x
  stops_unwritten a o p x wrote = ends_so a a o p x written.Failed (inl refl) wrote

  pub goes_written : (a : M) (o p : Option (List ℕ)) (x y : List ℕ) → y ≡ [] → Wrote o p x written.Whole → GoesOver takes a a o p x y
  goes_written a o p x y none wrote = record {
    lines = [];
    text = [];
    leads = (refl, refl);
    shown = x;
    took = wrote;
    left = ap (λ (l : List ℕ). x ++ l) none;
  }

  -- at a line that has no answer
  pub stops_unanswered : (a b : M) (o p : Option (List ℕ)) (x : List ℕ) (finish result : Finish) → stops a b → EndsDue o p x finish result
      → StopsOver takes stops a b o p x
  stops_unanswered a b o p x finish result step ends = ends_so a b o p x ends.0 (inr step) ends.1

  -- ---- a whole run
  pub ran_machine : (a b : M) (o p : Option (List ℕ)) → StopsOver takes stops a b o p [] → RanMachine takes stops a b o p
  ran_machine a b o p run = record {
    lines = run.lines;
    text = run.text;
    last = run.last;
    leads = run.leads;
    ends = run.ends;
    written = run.written;
    took = run.took;
    begins = run.begins;
  }

  -- one that a read ended
  pub ran_unread : (a b : M) (o p : Option (List ℕ)) → GoesOver takes a b o p [] [] → RanMachine takes stops a b o p
  ran_unread a b o p run = record {
    lines = run.lines;
    text = run.text;
    last = b;
    leads = run.leads;
    ends = inl refl;
    written = run.shown;
    took = run.took;
    begins = ([], sym run.left);
  }
