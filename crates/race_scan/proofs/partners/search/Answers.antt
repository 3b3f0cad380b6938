use Rattle.std.proofs.Common.{◌≡◌, ℕ, List, [], ◌∷◌, Some, sym, subst, ◌∙◌, arith}
use Rattle.std.specs.Prelude.{slice_get, slice_index, slice_index_or}
use Rattle.std.proofs.lemmas.Option.{slice_get-get_or}
use Rattle.trace_laws.specs.Trace.{Lawful}
use Rattle.trace_laws.specs.Traces.{History}
use Rattle.trace_laws.specs.Closed.{IsClosureBefore}
use Rattle.trace_laws.proofs.Places.{within_from_thread}
use Rattle.sp_closure.specs.Members.{has}
use Rattle.race_scan.proofs.Pointers.{step, partner_found, none_below, thread_within}
use Rattle.race_scan.proofs.partners.search.Goals as goal

pub returns-then-not-has-clause-some : goal.returns-then-not-has-clause-some
returns-then-not-has-clause-some c =
    let events = c.args.index.now.events in
    let head = c.in-Some.head in
    let set = has c.raise.new.self.members in
    let closure = subst (λ (h : History). IsClosureBefore h.events (head.place ∷ c.args.later ∷ []) set) c.loop-head.invariant.trace c.raise.ensures.closure in
    partner_found events (subst (λ (h : History). Lawful h.events) c.trace.ensures.value c.len.ensures.trace.lawful) c.args.later head.group head.place c.args.groups.now c.loop-head.passed set c.requires.groups c.requires.all c.loop-head.invariant.passed c.loop-head.invariant.ready c.in-Some.ensures.some closure (sym c.has.ensures ∙ c.if-not-has.true)

pub pass_tried-next-requires-clause-places : goal.pass_tried-next-requires-clause-places
pass_tried-next-requires-clause-places c = λ k e at.
    let groups = c.args.groups.now in
    let i = c.in-Some.head.group in
    let g = slice_index_or groups i c.index-groups-head.result in
    let group_at : slice_get groups i ≡ Some g = slice_get-get_or groups i c.index-groups-head.result c.in-Some.ensures.group in
    within_from_thread c.args.index.now.events e g.thread ((c.requires.groups i g group_at).of_thread k e (subst (λ (xs : List ℕ). slice_get xs k ≡ Some e) c.deref.ensures.value at))

pub loop-head-smaller : goal.loop-head-smaller
loop-head-smaller c =
    let events = c.args.index.now.events in
    let groups = c.args.groups.now in
    let passed = c.loop-head.passed in
    let head = c.in-Some.head in
    let g = slice_index_or groups head.group c.index-groups-head.result in
    let set = has c.raise.new.self.members in
    let size = c.loop-head.invariant.passed.size in
    let closure = subst (λ (h : History). IsClosureBefore h.events (head.place ∷ c.args.later ∷ []) set) c.loop-head.invariant.trace c.raise.ensures.closure in
    let group_at : slice_get groups head.group ≡ Some g = slice_get-get_or groups head.group c.index-groups-head.result c.in-Some.ensures.group in
    let start_at : slice_get passed head.group ≡ Some (slice_index passed head.group) = slice_get-get_or passed head.group 0 (let b = c.in-Some.ensures.group in omega arith) in
    let of = thread_within events c.args.later c.requires.later in
    let s = step events c.args.later head.group head.place of.0 (slice_index passed head.group) c.pass_tried-next.result groups passed c.deref.result.now g set c.requires.groups c.loop-head.invariant.passed c.loop-head.invariant.ready c.in-Some.ensures.some.head group_at start_at c.deref.ensures.value
    of.1 closure c.pass_tried-next.ensures.from (sym c.has.ensures ∙ c.if-not-has.false) c.in-Some.ensures.some.before c.pass_tried-next.ensures.passed c.pass_tried-next.ensures.conflict in
    s.less

pub loop-head-preserved : goal.loop-head-preserved
loop-head-preserved c =
    let events = c.args.index.now.events in
    let groups = c.args.groups.now in
    let passed = c.loop-head.passed in
    let head = c.in-Some.head in
    let g = slice_index_or groups head.group c.index-groups-head.result in
    let set = has c.raise.new.self.members in
    let size = c.loop-head.invariant.passed.size in
    let closure = subst (λ (h : History). IsClosureBefore h.events (head.place ∷ c.args.later ∷ []) set) c.loop-head.invariant.trace c.raise.ensures.closure in
    let group_at : slice_get groups head.group ≡ Some g = slice_get-get_or groups head.group c.index-groups-head.result c.in-Some.ensures.group in
    let start_at : slice_get passed head.group ≡ Some (slice_index passed head.group) = slice_get-get_or passed head.group 0 (let b = c.in-Some.ensures.group in omega arith) in
    let of = thread_within events c.args.later c.requires.later in
    let s = step events c.args.later head.group head.place of.0 (slice_index passed head.group) c.pass_tried-next.result groups passed c.deref.result.now g set c.requires.groups c.loop-head.invariant.passed c.loop-head.invariant.ready c.in-Some.ensures.some.head group_at start_at c.deref.ensures.value
    of.1 closure c.pass_tried-next.ensures.from (sym c.has.ensures ∙ c.if-not-has.false) c.in-Some.ensures.some.before c.pass_tried-next.ensures.passed c.pass_tried-next.ensures.conflict in
    record {
      trace = c.raise.ensures.trace ∙ c.loop-head.invariant.trace;
      passed = s.passed;
      ready = s.ready;
    }

pub returns-clause-none : goal.returns-clause-none
returns-clause-none c = none_below c.args.index.now.events c.args.later c.args.later c.args.groups.now c.loop-head.passed c.requires.groups c.requires.all c.loop-head.invariant.passed c.in_default.ensures.none
