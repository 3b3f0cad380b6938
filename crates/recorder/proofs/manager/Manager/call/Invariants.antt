use Rattle.std.proofs.Common.{◌≡◌}
use Rattle.recorder.specs.Passes.{IsPassOf}
use Rattle.recorder.proofs.manager.Manager.call.Given as goal

abbrev pub invariant-loop : goal.invariant-loop
invariant-loop g l = record {
  of : IsPassOf l.self l.pass;
  thread : l.pass.thread ≡ l.initial.pass.thread;
  granted : l.pass.granted ≡ l.initial.pass.granted;
}
