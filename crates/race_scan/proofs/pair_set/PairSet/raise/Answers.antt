use Rattle.std.proofs.Common.{ap, sym, subst, ◌∙◌}
use Rattle.sp_closure.specs.Members.{PlaceSet, has}
use Rattle.race_scan.specs.PairSets.{IsWithin}
use Rattle.race_scan.proofs.Pairs.{closure_of_cursor}
use Rattle.race_scan.proofs.GoingOn.{set_of_pair}
use Rattle.race_scan.proofs.pair_set.PairSet.raise.Goals as goal

pub invariant_of-self : goal.invariant_of-self
invariant_of-self c =
    let is = ap (λ (set : PlaceSet). set.trace) c.self.view_is ∙ c.begin.ensures.trace in
    let same = c.raise-2.ensures.trace ∙ c.raise.ensures.trace in
    let within = subst (λ (set : PlaceSet). IsWithin c.args.self.now.trace.events (has set.members) c.args.first c.args.second) (sym c.self.view_is) c.begin.ensures.within in
    record {
      same = same ∙ c.self.invariant.same;
      last = set_of_pair c.args.self.now.trace c.raise-2.new.self c.args.first c.args.second (same ∙ is) c.requires.first c.requires.second (closure_of_cursor c.args.self.now.trace c.args.first c.args.second c.self.inside.cursor c.raise.new.self c.raise-2.new.self is c.raise.ensures.trace within c.raise.ensures.closure c.raise-2.ensures.closure);
    }

pub returns-clause-closure : goal.returns-clause-closure
returns-clause-closure c =
    let is = ap (λ (set : PlaceSet). set.trace) c.self.view_is ∙ c.begin.ensures.trace in
    let within = subst (λ (set : PlaceSet). IsWithin c.args.self.now.trace.events (has set.members) c.args.first c.args.second) (sym c.self.view_is) c.begin.ensures.within in
    closure_of_cursor c.args.self.now.trace c.args.first c.args.second c.self.inside.cursor c.raise.new.self c.raise-2.new.self is c.raise.ensures.trace within c.raise.ensures.closure c.raise-2.ensures.closure
