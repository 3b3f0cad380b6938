use Rattle.std.proofs.Common.{◌≡◌, ◌+◌, Some}
use Rattle.trace_laws.specs.Trace.{thread_at, op_at}
use Rattle.trace_laws.proofs.Places.{thread_from_event, op_from_event}
use Rattle.closed_fronts.specs.Tables.{IsLatest, IsOwnBefore, IsJoinBefore, IsOuter, IsOpened}
use Rattle.closed_fronts.proofs.Told.{told_one, size_one}
use Rattle.closed_fronts.proofs.Leads.{own_told, joined_any}
use Rattle.closed_fronts.proofs.Opens.{of_thread}
use Rattle.closed_fronts.proofs.links.Links.note.Goals as goal

pub returns : goal.returns
returns c =
    let events = c.args.places.now.events in
    let threads = c.args.places.now.threads in
    let event = c.args.event.now in
    let place = c.args.place in
    let old = c.args.self.now in
    let linked = c.requires.linked in
    let own : thread_at events place ≡ Some event.thread = thread_from_event events place event c.requires.event in
    let does : op_at events place ≡ Some event.op = op_from_event events place event c.requires.event in
    record {
      tips = c.note.ensures;
      heads = c.note-2.ensures;
      own_size = size_one old.own.items c.push.new.self.items c.own.result place c.in_ok-push.ensures.items linked.own_size;
      joined_size = size_one old.joined.items c.push-2.new.self.items c.joined.result place c.in_ok-push-2.ensures.items linked.joined_size;
      outer_size = size_one old.outer.items c.push-3.new.self.items c.head.result place c.in_ok-push-3.ensures.items linked.outer_size;
      opened_size = size_one old.opened.items c.push-4.new.self.items c.head-2.result place c.in_ok-push-4.ensures.items linked.opened_size;
      own_places = told_one (λ p o. IsLatest (IsOwnBefore events p) o) old.own.items c.push.new.self.items c.own.result place c.in_ok-push.ensures.items linked.own_size linked.own_places
          (own_told events place event.thread event.op own does c.own.result (linked.tips.latest event.thread c.own.result c.own.ensures));
      joined_places = told_one (λ p o. IsLatest (IsJoinBefore events p) o) old.joined.items c.push-2.new.self.items c.joined.result place c.in_ok-push-2.ensures.items linked.joined_size linked.joined_places
          (joined_any events threads place event.op old.tips.places.items c.joined.result does linked.tips c.joined.ensures.some c.joined.ensures.none);
      outer_places = told_one (IsOuter events) old.outer.items c.push-3.new.self.items c.head.result place c.in_ok-push-3.ensures.items linked.outer_size linked.outer_places
          (of_thread events place event.thread place c.head.result own (linked.heads.latest event.thread c.head.result c.head.ensures));
      opened_places = told_one (IsOpened events) old.opened.items c.push-4.new.self.items c.head-2.result place c.in_ok-push-4.ensures.items linked.opened_size linked.opened_places
          (of_thread events place event.thread (place + 1) c.head-2.result own (c.note-2.ensures.latest event.thread c.head-2.result c.head-2.ensures));
    }
