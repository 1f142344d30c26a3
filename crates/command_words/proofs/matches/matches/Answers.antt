use Rattle.std.proofs.Common.{◌∙◌, ap, codes, subst, ⊎_elim}
use Rattle.clap.specs.Kinds.{IsAmong}
use Rattle.clap.specs.Walk.{texts}
use Rattle.clap.specs.Words.{app_of, is_simple, is_simple_and_free, kind_of}
use Rattle.command_words.proofs.ClapCommand.{is_simple_command, simple}
use Rattle.command_words.proofs.Found.{found, outside}
use Rattle.command_words.proofs.matches.matches.Goals as goal

pub returns-in-Ok-try_get_matches_from : goal.returns-in-Ok-try_get_matches_from
returns-in-Ok-try_get_matches_from c =
    let arguments = texts c.args.arguments.now in
    let options = texts c.args.options.now in
    let is = c.in-Ok.ensures in
    let parse = c.in-Ok-try_get_matches_from.ensures in
    let free = ap is_simple_and_free is ∙ is_simple_command (codes "tophat") arguments options in
    let rows = parse.matches (ap is_simple is ∙ simple (codes "tophat") arguments options) in
    found (codes "tophat") arguments options c.requires.table c.args.words.now c.requires.texts c.in-Ok-try_get_matches_from.matches
    (app_of c.in-Ok.command) is (parse.kinds free) rows.0

pub returns : goal.returns
returns c =
    let arguments = texts c.args.arguments.now in
    let options = texts c.args.options.now in
    let is = c.in-Ok.ensures in
    let error = c.in-Err-try_get_matches_from.error in
    let fails = c.in-Err-try_get_matches_from.ensures.kinds
    (ap is_simple_and_free is ∙ is_simple_command (codes "tophat") arguments options) in
    outside (codes "tophat") arguments options c.requires.table c.args.words.now c.requires.texts (app_of c.in-Ok.command) is
    (λ none. ⊎_elim (λ memory. c.in_default.not-OutOfMemory (c.kind.ensures ∙ memory))
    (λ among. subst (IsAmong (kind_of error)) none among) fails)
