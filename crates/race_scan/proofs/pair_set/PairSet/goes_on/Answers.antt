use Rattle.std.proofs.Common.{◌<◌, length, sym, subst}
use Rattle.trace_laws.specs.Traces.{History}
use Rattle.sp_closure.specs.Members.{PlaceSet, has}
use Rattle.race_scan.specs.PairSets.{IsUpToEither, IsWithin}
use Rattle.race_scan.proofs.GoingOn.{part_of_later}
use Rattle.race_scan.proofs.pair_set.PairSet.goes_on.Goals as goal

pub returns-then-is_up_to_either : goal.returns-then-is_up_to_either
returns-then-is_up_to_either c = λ second_is.
    let s = c.self.inside in
    let pair = c.in-Some.last in
    let a = c.args.first in
    let b = c.args.second in
    let known = c.self.invariant.last pair c.in-Some.is in
    let within_a = subst (λ (set : PlaceSet). a < length set.trace.events) (sym c.self.view_is) c.requires.first in
    let within_b = subst (λ (set : PlaceSet). b < length set.trace.events) (sym c.self.view_is) c.requires.second in
    let first_up = subst (λ (h : History). IsUpToEither h.events pair.first a b) (sym c.self.invariant.same) (c.is_up_to_either.ensures c.if-is_up_to_either.true) in
    let second_up = subst (λ (h : History). IsUpToEither h.events pair.second a b) (sym c.self.invariant.same) (c.is_up_to_either-then-is_up_to_either.ensures second_is) in
    subst (λ (set : PlaceSet). IsWithin set.trace.events (has set.members) a b) c.self.view_is (part_of_later s.cursor.trace.events pair.first pair.second a b (has s.cursor.members) within_a within_b known.closure first_up second_up)
