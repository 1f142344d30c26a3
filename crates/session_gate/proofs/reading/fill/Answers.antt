use Rattle.std.proofs.Common.{ℕ, length, ◌+◌, take, ap, ◌∙◌}
use Rattle.session_gate.proofs.ReadingLemmas.{in_front, written_over, fill_reading, fill_filled}
use Rattle.session_gate.proofs.reading.fill.Goals as goal

pub returns-clause-reading : goal.returns-clause-reading
returns-clause-reading g c =
    let over = written_over c.resize.new.self.items c.read_behind-got.new.bytes
    (c.read_behind-got.ensures.stays.1 ∙ ap length c.as_mut_slice.ensures.value) in
    let front = c.read_behind-got.ensures.stays.0 ∙ ap (take c.len-held.result) (c.as_mut_slice.ensures.value ∙ c.in-Ok.ensures.ok)
    ∙ in_front c.args.kept.now.items _ 8192 c.len-held.result c.len-held.ensures.value in
    fill_reading _ _ _ c.read_behind-got.new.bytes _ c.len-held.result c.read_behind-got.result front c.read_behind-got.ensures.read
    (c.truncate.ensures.items ∙ ap (take (c.len-held.result + c.given.result)) over
    ∙ ap (λ (n : ℕ). take (c.len-held.result + n) c.read_behind-got.new.bytes) c.given.ensures)

pub returns-clause-filled : goal.returns-clause-filled
returns-clause-filled g c =
    let over = written_over c.resize.new.self.items c.read_behind-got.new.bytes
    (c.read_behind-got.ensures.stays.1 ∙ ap length c.as_mut_slice.ensures.value) in
    let front = c.read_behind-got.ensures.stays.0 ∙ ap (take c.len-held.result) (c.as_mut_slice.ensures.value ∙ c.in-Ok.ensures.ok)
    ∙ in_front c.args.kept.now.items _ 8192 c.len-held.result c.len-held.ensures.value in
    rw c.of.ensures
    (fill_filled _ _ _ c.read_behind-got.new.bytes _ c.len-held.result c.read_behind-got.result front c.len-held.ensures.value
    c.read_behind-got.ensures.read
    (c.truncate.ensures.items ∙ ap (take (c.len-held.result + c.given.result)) over
    ∙ ap (λ (n : ℕ). take (c.len-held.result + n) c.read_behind-got.new.bytes) c.given.ensures))
