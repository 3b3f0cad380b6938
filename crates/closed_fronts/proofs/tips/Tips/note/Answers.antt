use Rattle.std.proofs.Common.{◌≡◌, ◌+◌, ℕ, List, Option, length, Some, sym, ap, subst, ◌∙◌, arith}
use Rattle.std.specs.Prelude.{slice_set}
use Rattle.std.proofs.Math.ListN.{length-set}
use Rattle.trace_laws.proofs.Places.{thread_from_event, op_from_event}
use Rattle.closed_fronts.specs.Tables.{AreTips, with_fork}
use Rattle.closed_fronts.proofs.Leads.{fork_below, tips_next}
use Rattle.closed_fronts.proofs.tips.Tips.note.Goals as goal

pub note_fork-requires : goal.note_fork-requires
note_fork-requires c = λ u is.
    let less = fork_below c.args.event.now.op c.args.places.now.threads u c.requires.named is in
    let size = c.requires.noted.size in
    let grown : length c.note_own.new.self.places.items ≡ length c.args.self.now.places.items = ap (λ (xs : List (Option ℕ)). length xs) c.note_own.ensures ∙ length-set c.args.self.now.places.items c.args.event.now.thread (Some c.args.place) in
    omega arith

pub returns : goal.returns
returns c =
    let events = c.args.places.now.events in
    let threads = c.args.places.now.threads in
    let event = c.args.event.now in
    let place = c.args.place in
    let tips = c.args.self.now.places.items in
    let less = c.requires.thread in
    let size = c.requires.noted.size in
    let is : c.note_fork.new.self.places.items ≡ with_fork (slice_set tips event.thread (Some place)) event.op place = c.note_fork.ensures ∙ ap (λ (xs : List (Option ℕ)). with_fork xs event.op place) c.note_own.ensures in
    subst (λ (xs : List (Option ℕ)). AreTips events threads (place + 1) xs) (sym is)
    (tips_next events place event.thread event.op (thread_from_event events place event c.requires.event) (op_from_event events place event c.requires.event) threads tips (omega arith) c.requires.named c.requires.noted)
