use Rattle.std.proofs.Common.{◌≡◌}
use Rattle.form_urlencoded.specs.Parse.{raw_pairs_left}
use Rattle.http_forms.specs.Forms.{first_among, text_at}
use Rattle.http_forms.proofs.first_text.first_text.Given as goal

abbrev pub invariant-loop-name : goal.invariant-loop-name
invariant-loop-name l = first_among l.key (raw_pairs_left l.name-iterator) ≡ text_at l.key l.pairs
