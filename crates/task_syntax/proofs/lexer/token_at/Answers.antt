use Rattle.std.proofs.Common.{sym, ◌∙◌, refl, inl, arith}
use Rattle.task_syntax.proofs.Leading.{text_leads, symbol_leads, bad_char}
use Rattle.task_syntax.proofs.lexer.token_at.Goals as goal

pub returns-in-Ok : goal.returns-in-Ok
returns-in-Ok c = text_leads c.args.text.now c.in-Ok.content c.in-Ok.rest.now c.in-Ok.ensures

pub returns-in-Some : goal.returns-in-Some
returns-in-Some c = symbol_leads c.args.text.now c.in-Some.rest.now c.in-Some.symbol c.in-Some.ensures.0 c.in-Some.ensures.1

pub returns-in-None : goal.returns-in-None
returns-in-None c = (
  0,
  inl (
    bad_char c.args.text.now c.args.more.now c.args.first c.requires.begins c.requires.no_blank c.requires.no_comment
        (sym c.is_xid_start.ensures.value ∙ c.if-is_xid_start.false) (sym c.is_ascii_digit.ensures.value ∙ c.if-is_ascii_digit.false)
        c.if-first-eq34.false c.in-None.ensures,
    refl,
  ),
  omega arith,
)
