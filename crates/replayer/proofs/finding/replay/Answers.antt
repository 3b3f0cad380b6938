use Rattle.std.proofs.Common.{◌≡◌, ◌<◌, ℕ, Some, All, length, sym, subst, ◌∙◌}
use Rattle.std.specs.List.{AllZip}
use Rattle.trace_laws.specs.Kept.{AreKept}
use Rattle.trace_laws.specs.Trace.{thread_at}
use Rattle.trace_laws.specs.Traces.{History}
use Rattle.script_machine.specs.Held.{Held, meaning}
use Rattle.replayer.specs.Reorders.{FollowsKeep}
use Rattle.replayer.specs.Replays.{ReplaysTo}
use Rattle.replayer.specs.Replayed.{keep_in, picks_in}
use Rattle.replayer.proofs.KeptFindings.{keep_long, kept_correct, finding_within, is_replay_of, threads_run}
use Rattle.replayer.proofs.finding.replay.Goals as goal

pub reorder-requires : goal.reorder-requires
reorder-requires c = rw c.keep_of-keep.ensures (rw c.trace-trace.ensures.value (keep_long c.args.recording.now.trace c.args.finding.now c.requires.finding))

pub machine_along-requires-clause-correct : goal.machine_along-requires-clause-correct
machine_along-requires-clause-correct c =
    let h = c.args.recording.now.trace in
    let f = c.args.finding.now in
    let kept = c.in_ok-kept.kept.items in
    let least = subst (λ x. FollowsKeep x (keep_in f) kept) c.trace-trace.ensures.value
    (subst (λ k. FollowsKeep c.trace-trace.result.now k kept) c.keep_of-keep.ensures c.in_ok-kept.ensures.least) in
    rw c.deref.ensures.value (kept_correct h f kept c.requires.finding least)

pub threads_of-requires : goal.threads_of-requires
threads_of-requires c =
    let h = c.args.recording.now.trace in
    let f = c.args.finding.now in
    let kept = c.in_ok-kept.kept.items in
    let least = subst (λ x. FollowsKeep x (keep_in f) kept) c.trace-trace.ensures.value
    (subst (λ k. FollowsKeep c.trace-trace.result.now k kept) c.keep_of-keep.ensures c.in_ok-kept.ensures.least) in
    subst (λ (t : History). All (λ p. p < length t.events) c.deref-2.result.now) (sym c.trace-trace.ensures.value)
    (subst (All (λ p. p < length h.events)) (sym (c.deref-2.ensures.value ∙ c.in_ok-picks.ensures)) (finding_within h f kept c.requires.finding least))

pub made-requires : goal.made-requires
made-requires c =
    let script = c.args.script.now in
    let h = c.args.recording.now.trace in
    let f = c.args.finding.now in
    let same = c.trace-trace.ensures.value in
    let kept = c.in_ok-kept.kept.items in
    let m : Held = c.in_ok-machine.machine in
    let are = subst (λ (t : History). AreKept t.events (keep_in f) kept) same
    (subst (λ k. AreKept c.trace-trace.result.now.events k kept) c.keep_of-keep.ensures c.in_ok-kept.ensures.kept) in
    let least = subst (λ x. FollowsKeep x (keep_in f) kept) same
    (subst (λ k. FollowsKeep c.trace-trace.result.now k kept) c.keep_of-keep.ensures c.in_ok-kept.ensures.least) in
    let replayed = subst (λ ps. ReplaysTo script h.events ps (meaning m)) c.deref.ensures.value c.in_ok-machine.ensures.replayed in
    let zip = subst (λ (t : History). AllZip (λ p u. thread_at t.events p ≡ Some u) (picks_in f) c.in_ok-threads.threads.items) same
    (subst (λ ps. AllZip (λ p u. thread_at c.trace-trace.result.now.events p ≡ Some u) ps c.in_ok-threads.threads.items) (c.deref-2.ensures.value ∙ c.in_ok-picks.ensures) c.in_ok-threads.ensures) in
    threads_run script h f (record { machine = m; threads = c.in_ok-threads.threads.items })
    (is_replay_of script h f m kept c.in_ok-threads.threads.items c.in_ok-machine.ensures.script c.requires.finding are least replayed zip)

pub returns : goal.returns
returns c =
    let script = c.args.script.now in
    let h = c.args.recording.now.trace in
    let f = c.args.finding.now in
    let same = c.trace-trace.ensures.value in
    let kept = c.in_ok-kept.kept.items in
    let m : Held = c.in_ok-machine.machine in
    let are = subst (λ (t : History). AreKept t.events (keep_in f) kept) same
    (subst (λ k. AreKept c.trace-trace.result.now.events k kept) c.keep_of-keep.ensures c.in_ok-kept.ensures.kept) in
    let least = subst (λ x. FollowsKeep x (keep_in f) kept) same
    (subst (λ k. FollowsKeep c.trace-trace.result.now k kept) c.keep_of-keep.ensures c.in_ok-kept.ensures.least) in
    let replayed = subst (λ ps. ReplaysTo script h.events ps (meaning m)) c.deref.ensures.value c.in_ok-machine.ensures.replayed in
    let zip = subst (λ (t : History). AllZip (λ p u. thread_at t.events p ≡ Some u) (picks_in f) c.in_ok-threads.threads.items) same
    (subst (λ ps. AllZip (λ p u. thread_at c.trace-trace.result.now.events p ≡ Some u) ps c.in_ok-threads.threads.items) (c.deref-2.ensures.value ∙ c.in_ok-picks.ensures) c.in_ok-threads.ensures) in
    rw c.made.ensures (is_replay_of script h f m kept c.in_ok-threads.threads.items c.in_ok-machine.ensures.script c.requires.finding are least replayed zip)
