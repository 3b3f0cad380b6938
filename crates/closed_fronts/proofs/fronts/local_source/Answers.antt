use Rattle.std.proofs.Common.{◌≡◌, ◌<◌, ℕ, length, false, Option, Some, None, refl, sym, subst, ◌∙◌, arith}
use Rattle.std.specs.Prelude.{is_some}
use Rattle.trace_laws.specs.declared.event.Op.TheVariants.{Acquire}
use Rattle.trace_laws.proofs.Places.{op_from_event}
use Rattle.closed_fronts.specs.Tables.{IsLatest, IsOwnBefore, IsJoinBefore}
use Rattle.closed_fronts.proofs.Told.{latest_has}
use Rattle.closed_fronts.proofs.Sharing.{row_told}
use Rattle.closed_fronts.proofs.fronts.local_source.Goals as goal

-- what is not some is none
none_from : (o : Option ℕ) → is_some o ≡ false → o ≡ None
none_from None h = refl
none_from (Some x) h = cc

-- the source has a row
within : (c : goal.In-Some) → c.in-Some.source < length c.args.rows.now
within c = let earlier = (latest_has (IsOwnBefore c.args.ties.now.events c.args.place) c.own.result c.in-Some.source c.own.ensures c.in-Some.is).before.earlier in let made = c.requires.made in omega arith

pub has_writer-requires-clause-source : goal.has_writer-requires-clause-source
has_writer-requires-clause-source c = within c

pub has_writer-requires-clause-size : goal.has_writer-requires-clause-size
has_writer-requires-clause-size c = (row_told c.args.ties.now.events c.args.ties.now.threads c.args.rows.now c.in-Some.source c.requires.rows (within c)).steady.size

pub returns : goal.returns
returns c =
    let events = c.args.ties.now.events in
    let place = c.args.place in
    let event = c.event-event.result in
    let does = op_from_event events place event c.event-event.ensures.event in
    record {
      source = subst (λ (o : Option ℕ). IsLatest (IsOwnBefore events place) o) c.in-Some.is c.own.ensures;
      unjoined = subst (λ (o : Option ℕ). IsLatest (IsJoinBefore events place) o) (none_from c.joined.result (sym c.is_some.ensures ∙ c.if-is_some.false)) c.joined.ensures;
      writer = c.has_writer.ensures c.if-not-has_writer.false;
      plain = λ l acquires. c.is_acquire.ensures c.if-is_acquire.false l (let same : event.op ≡ Acquire l = cc in same);
    }
