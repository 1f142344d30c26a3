use Rattle.std.specs.Prelude.{string_bytes}
use Rattle.std.proofs.Common.{◌≡◌, ◌++◌, drop}
use Rattle.html_pages.specs.Fragments.{fragments_text}
use Rattle.html_pages.proofs.framing.push_texts.Given as goal

abbrev pub invariant-loop-fragment : goal.invariant-loop-fragment
invariant-loop-fragment l =
    string_bytes l.text ++ fragments_text l.face (drop l.fragment-index l.fragments)
    ≡ string_bytes l.fn.text ++ fragments_text l.face l.fragments
