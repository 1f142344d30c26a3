-- The parts of an HTML form (docs/FORMATS.md, "HTML pages").
use Rattle.std.specs.Prelude.{◌++◌, codes}
use Rattle.task_model.specs.Terms.Text.{Text}

-- a form up to its own fields
abbrev pub form_start : Text → Text → Text
form_start path act =
    codes "<form method=\"post\" action=\"/\"><input type=\"hidden\" name=\"path\" value=\"" ++ path
    ++ codes "\"><input type=\"hidden\" name=\"act\" value=\"" ++ act
    ++ codes "\">"

-- a form's button and its end
abbrev pub form_end : Text → Text
form_end button = codes "<button>" ++ button ++ codes "</button></form>\n"

-- the field of an editor of text
abbrev pub text_field : Text → Text
text_field shown = codes "<input type=\"hidden\" name=\"as\" value=\"raw\"><textarea name=\"value\">\n" ++ shown ++ codes "</textarea>"

-- the fields of an editor of another type
abbrev pub literal_fields : Text → Text → Text
literal_fields basic shown =
    codes "<input type=\"hidden\" name=\"as\" value=\"" ++ basic ++ codes "\"><input name=\"value\" value=\"" ++ shown ++ codes "\">"
