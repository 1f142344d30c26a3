use Rattle.std.proofs.Common.{◌+◌, sym, ◌∙◌, subst, arith}
use Rattle.std.proofs.lemmas.Bool.{false≢true}
use Rattle.std.proofs.lemmas.List.{take_all}
use Rattle.input_lines.proofs.RoomLemmas.{HasRoom}
use Rattle.input_lines.proofs.FrontLemmas.{one_more, room_behind, stops_before, stops_behind}
use Rattle.input_lines.proofs.room.longest_front.Goals as goal

pub returns-then-not-ends_within : goal.returns-then-not-ends_within
returns-then-not-ends_within c =
    let t = c.args.bytes.now in
    let place = c.loop-place.place in
    let (at, room) = c.loop-place.invariant in
    let lt = c.loop-place-test.true in
    let within = c.requires.within in
    let more = one_more t place c.loop-place.standing c.take.new.self lt at c.in_ok-take.ensures in
    let here = (room_behind c.args.longest t place c.loop-place.standing (omega (arith, lt)) at).0 room in
    let there = (room_behind c.args.longest t (place + 1) c.take.new.self (omega (arith, lt)) more).1 in
    stops_before c.args.longest t place c.requires.begins lt here (λ le.
    let few = there le in false≢true (sym c.if-not-ends_within.true ∙ c.ends_within.ensures.1 (omega (arith, few))))

pub loop-place-preserved : goal.loop-place-preserved
loop-place-preserved c =
    let (at, room) = c.loop-place.invariant in
    let lt = c.loop-place-test.true in
    let within = c.requires.within in
    let few = c.ends_within.ensures.0 c.if-not-ends_within.false in (
      one_more c.args.bytes.now c.loop-place.place c.loop-place.standing c.take.new.self lt at c.in_ok-take.ensures,
      omega (arith, few, lt, within),
    )

pub returns : goal.returns
returns c =
    let t = c.args.bytes.now in
    let (at, room) = c.loop-place.invariant in
    let end = c.loop-place-test.false in
    let most = c.loop-place.auto.place-end in
    let all = (room_behind c.args.longest t c.loop-place.place c.loop-place.standing most at).0 room in
    stops_behind c.args.longest t c.requires.begins (subst (HasRoom c.args.longest) (take_all c.loop-place.place t end) all)
