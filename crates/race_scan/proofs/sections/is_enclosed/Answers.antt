use Rattle.closed_fronts.proofs.Told.{if_some_at}
use Rattle.race_scan.specs.Enclosed.{IsBegun}
use Rattle.race_scan.proofs.Outside.{section_out}
use Rattle.race_scan.proofs.Pointers.{thread_within}
use Rattle.race_scan.proofs.Enclosing.{begun_opened}
use Rattle.race_scan.proofs.sections.is_enclosed.Goals as goal

pub loop-section-init : goal.loop-section-init
loop-section-init c =
    let events = c.args.index.now.events in
    let own = thread_within events c.args.place c.requires.place in
    begun_opened events own.0 c.args.place c.opened-section.result own.1 c.opened-section.ensures

pub encloses-requires-clause-acquire : goal.encloses-requires-clause-acquire
encloses-requires-clause-acquire c = (if_some_at (IsBegun c.args.index.now.events c.args.place) c.loop-section.section c.in-Some.acquire c.loop-section.invariant c.in-Some.is).acquire

pub returns-then-encloses : goal.returns-then-encloses
returns-then-encloses c = λ _.
    let events = c.args.index.now.events in
    let place = c.args.place in
    let own = thread_within events place c.requires.place in
    let begun = if_some_at (IsBegun events place) c.loop-section.section c.in-Some.acquire c.loop-section.invariant c.in-Some.is in
    section_out events c.args.later c.thread_of-thread.result own.0 c.in-Some.acquire place c.thread_of-thread.ensures own.1 begun (c.encloses.ensures.again c.if-encloses.true) (c.encloses.ensures.ends c.if-encloses.true)
