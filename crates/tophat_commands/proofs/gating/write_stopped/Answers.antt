use Rattle.std.proofs.Common.{Err, subst, inr}
use Rattle.task_server.specs.Results.{IsResult}
use Rattle.task_server.specs.declared.gate_state.GateState.TheVariants as states
use Rattle.task_server.specs.declared.serving.ServeStop.{ServeStop}
use Rattle.tophat_commands.specs.Courses.{port_line}
use Rattle.tophat_commands.proofs.Written.{course_whole}
use Rattle.tophat_commands.proofs.gating.write_stopped.Goals as goal

pub returns-in-GateFault-clause-course : goal.returns-in-GateFault-clause-course
returns-in-GateFault-clause-course g c = λ start asked entry now first is begun.
    let served = subst (λ (s : ServeStop). IsResult start asked.seats 0 asked.connections entry now (Err s)) c.in-GateFault.is is in
    inr (course_whole start asked entry now first _ states.Failed c.in-GateFault.served c.write_served.result served
    (c.write_served.ensures.wrote states.Failed (port_line asked.port) first tt begun))
