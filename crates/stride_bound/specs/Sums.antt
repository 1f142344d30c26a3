-- Numbers of units and heights, and how those of a form come of its parts' (docs/RULES.md, "A printed bound on work"). Each number above
-- 1,000,000 is 1,000,001.
use Rattle.std.specs.Prelude.{ℕ, ◌+◌, ◌*◌, min, max}
use Rattle.stride_bound.specs.declared.bounds.Bound.{Bound}
use Rattle.stride_bound.specs.declared.figures.Figures.{Figures}

-- ---- numbers
abbrev pub cut : ℕ → ℕ
cut n = min n 1000001

abbrev pub plus : ℕ → ℕ → ℕ
plus a b = cut (a + b)

abbrev pub times : ℕ → ℕ → ℕ
times a b = cut (a * b)

-- one more
abbrev pub higher : ℕ → ℕ
higher a = cut (a + 1)

-- ---- units and heights
-- of a rule with no parts
abbrev pub single_rule : Bound
single_rule = record { units = 0; height = 1 }

-- of nothing at all
abbrev pub naught : Bound
naught = record { units = 0; height = 0 }

-- of two parts that are both derived
abbrev pub beside : Bound → Bound → Bound
beside a b = record { units = plus a.units b.units; height = max a.height b.height }

-- of two parts of which one is derived
abbrev pub either : Bound → Bound → Bound
either a b = record { units = max a.units b.units; height = max a.height b.height }

-- of a rule over this
abbrev pub over_parts : Bound → Bound
over_parts a = record { units = a.units; height = higher a.height }

-- with one unit more
abbrev pub once : Bound → Bound
once a = record { units = higher a.units; height = a.height }

-- ---- what a text comes to
-- of a text that isn't there
abbrev pub nothing : Figures
nothing = record { evaluating = naught; fires = 0; striding = naught; failing = naught }

-- of an expression
abbrev pub plain : Bound → Figures
plain e = record { evaluating = e; fires = 0; striding = naught; failing = naught }

-- of an editor, and of a task that fails
abbrev pub still : Bound → Figures
still e = record { evaluating = e; fires = 0; striding = single_rule; failing = single_rule }

-- of a call with such arguments
abbrev pub called : Bound → Figures → Figures
called args d = record { evaluating = over_parts (once (beside args d.evaluating)); fires = d.fires; striding = d.striding; failing = d.failing }

-- behind an expression that is evaluated first
abbrev pub after_first : Bound → Figures → Figures
after_first e t = record { evaluating = over_parts (beside e t.evaluating); fires = t.fires; striding = t.striding; failing = t.failing }

-- the greater number of each
abbrev pub greater : Figures → Figures → Figures
greater t u = record {
  evaluating = either t.evaluating u.evaluating;
  fires = max t.fires u.fires;
  striding = either t.striding u.striding;
  failing = either t.failing u.failing;
}

-- of two tasks side by side
abbrev pub pair : Figures → Figures → Figures
pair t u = record {
  evaluating = over_parts (beside t.evaluating u.evaluating);
  fires = plus t.fires u.fires;
  striding = over_parts (beside t.striding u.striding);
  failing = over_parts (beside t.failing u.failing);
}

-- of an internal choice
abbrev pub choice : Figures → Figures → Figures
choice t u = record {
  evaluating = over_parts (beside t.evaluating u.evaluating);
  fires = higher (plus t.fires u.fires);
  striding = over_parts (beside t.striding u.striding);
  failing = over_parts (beside t.failing u.failing);
}

-- of an internal step: a stride tries its body, and once it fires what the body leads to is there
abbrev pub then : Figures → Figures → Figures
then t b = record {
  evaluating = over_parts t.evaluating;
  fires = higher (plus t.fires b.fires);
  striding = either (over_parts (beside t.striding (beside b.evaluating b.failing))) b.striding;
  failing = either (over_parts t.failing) b.failing;
}

-- of a user step: its left part, or what its body leads to
abbrev pub next : Figures → Figures → Figures
next t b = record {
  evaluating = over_parts t.evaluating;
  fires = max t.fires b.fires;
  striding = either (over_parts t.striding) b.striding;
  failing = either (over_parts t.failing) b.failing;
}

-- all strides of settling: one more than may fire, each with a unit of its own
abbrev pub strides : Figures → Bound
strides t = record { units = times (higher t.fires) (higher t.striding.units); height = t.striding.height }

-- normalising
abbrev pub normal : Figures → Bound
normal t = over_parts (beside t.evaluating (strides t))

-- a test: normalising, and then the test for failing
abbrev pub test_bound : Figures → Bound
test_bound t = beside (normal t) t.failing

-- of an external choice of two sides: its test for failing tests both
abbrev pub sides : Figures → Figures → Figures
sides t u = record {
  evaluating = single_rule;
  fires = max t.fires u.fires;
  striding = either single_rule (either t.striding u.striding);
  failing = over_parts (beside (test_bound t) (test_bound u));
}
