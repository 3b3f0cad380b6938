use Rattle.std.proofs.Common.{◌≡◌, Bool, true, false, not, refl, eqb-true, sym, ◌∙◌, subst, arith}
use Rattle.trace_laws.specs.Trace.{Writes}
use Rattle.trace_laws.specs.Traces.{History}
use Rattle.replayer.specs.Replayed.{IsRaceOf}
use Rattle.replayer.proofs.ThreeWrites.{three_writes}
use Rattle.replayer.proofs.replay_tests.race_of_writes.Goals as goal

-- the two variables are one
same_number : (b : Bool) → false ≡ not b → b ≡ true
same_number true h = refl
same_number false h = absurd (cc)

pub returns : goal.returns
returns c =
    let h : History = c.trace-trace.result.now in
    let len = c.len.ensures.value in
    let threads = c.threads.ensures in
    let size_three = c.if-len-ne3.false in
    let threads_two = c.if-threads-ne2.false in
    let same : c.in_ok-later.later ≡ c.in_ok-earlier.earlier = sym (eqb-true c.in_ok-earlier.earlier c.in_ok-later.later (same_number _ c.if-ne.ensures)) in
    let writes = subst (λ x. Writes h.events 2 x) same c.in_ok-later.ensures.writes in
    let race = three_writes h c.in_ok-written.field-0 c.in_ok-earlier.earlier (omega arith) (omega arith) c.in_ok-written.ensures.own c.in_ok-written.ensures.writes
    c.in_ok-earlier.ensures.own c.in_ok-earlier.ensures.writes c.in_ok-later.ensures.own writes in
    let is : IsRaceOf h (record { later = 2; earlier = 1; keep = c.in-Ok.keep }) = rw (c.in-Ok.ensures ∙ c.as_slice.ensures) race in
    subst (λ z. IsRaceOf z (record { later = 2; earlier = 1; keep = c.in-Ok.keep })) c.trace-trace.ensures.value is
