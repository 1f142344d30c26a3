-- What is read of queries and forms (docs/FORMATS.md, "Query and form").
use Rattle.std.specs.Prelude.{◌≡◌, ℕ, ◌<◌, ◌≤◌, Option, None, length}
use Rattle.task_model.specs.Terms.Text.{Text}
use Rattle.task_model.specs.Terms.Basic.{BasicTerm}
use Rattle.task_model.specs.Terms.Value.{ValueTerm, text_value}
use Rattle.task_model.specs.Terms.Input.{ActTerm}
use Rattle.task_model.specs.declared.widget.Face.{Face}
use Rattle.exact_reading.specs.declared.stop.FaultKind.TheVariants.{Unexpected}
use Rattle.exact_reading.specs.Reading.{Always}
use Rattle.exact_reading.specs.Whole.{IsFirstFault}
use Rattle.literal_text.specs.Literals.{IsLiteralOf}
use Rattle.literal_text.specs.Types.{IsTypeName}
use Rattle.http_forms.specs.declared.page_query.PageQuery.{PageQuery}
use Rattle.http_forms.specs.declared.query_stop.QueryStop.{QueryStop}
use Rattle.http_forms.specs.declared.query_stop.QueryStop.TheVariants as queries
use Rattle.http_forms.specs.declared.form_stop.FormStop.{FormStop}
use Rattle.http_forms.specs.declared.form_stop.FormStop.TheVariants.{Malformed, Bad, Memory}
use Rattle.http_forms.specs.Forms.{GivesAct, HasBadValue, HasBadLiteral, IsMalformed}

-- A query that was read, as its face and its version.
abbrev pub query_parts : PageQuery → Face × Option ℕ
query_parts q = (q.face, q.at_least)

-- Nothing is asked for, unless memory ran out, which says nothing of the query.
abbrev pub AsksNothing : {X : Type 0} → Option X → QueryStop → Type 0
AsksNothing asked queries.Malformed = asked ≡ None
AsksNothing asked queries.Memory = Unit {0}

-- Why a form gives no input: it is malformed, or its literal is bad at a place. Want of memory says nothing of it.
abbrev pub IsFormStop : Text → FormStop → Type 0
IsFormStop form Malformed = IsMalformed form
IsFormStop form (Bad bad) = HasBadLiteral form bad.place
IsFormStop form Memory = Unit {0}

-- `act`, `as` and `value` give no act, and the value isn't bad either.
pub record HasNoAct (form : Text) : Type 0 where
  pub no_act : (a : ActTerm) → GivesAct form a → ⊥
  pub no_value : (place : ℕ) → HasBadValue form place → ⊥

-- Why they give no act.
abbrev pub IsActStop : Text → FormStop → Type 0
IsActStop form Malformed = HasNoAct form
IsActStop form (Bad bad) = HasBadValue form bad.place
IsActStop form Memory = Unit {0}

-- The value is a text as it stands, and why a text is none.
pub record IsRawValue (text : Text) (v : ValueTerm) : Type 0 where
  pub is : v ≡ text_value text
  pub short : length text ≤ 65536

abbrev pub IsRawStop : Text → FormStop → Type 0
IsRawStop text Malformed = 65536 < length text
IsRawStop text (Bad bad) = ⊥
IsRawStop text Memory = Unit {0}

-- The value is that of a literal of the type that is named, and why a literal gives none.
pub record IsNamedLiteral (name literal : Text) (v : ValueTerm) : Type 0 where
  pub basic : BasicTerm
  pub is_type : IsTypeName name basic
  pub is : IsLiteralOf basic literal v

pub record IsNamedFault (name literal : Text) (place : ℕ) : Type 0 where
  pub basic : BasicTerm
  pub is_type : IsTypeName name basic
  pub bad : IsFirstFault (IsLiteralOf basic) Always literal Unexpected place

abbrev pub IsLiteralStop : Text → Text → FormStop → Type 0
IsLiteralStop name literal Malformed = (b : BasicTerm) → IsTypeName name b → ⊥
IsLiteralStop name literal (Bad bad) = IsNamedFault name literal bad.place
IsLiteralStop name literal Memory = Unit {0}
