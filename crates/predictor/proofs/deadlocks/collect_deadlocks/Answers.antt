use Rattle.std.proofs.Common.{◌≡◌, ◌+◌, ◌≤◌, ℕ, List, [], ◌∷◌, ◌++◌, map, refl, ap, sym, subst, ◌∙◌, arith}
use Rattle.std.proofs.lemmas.List.{map-append}
use Rattle.trace_laws.specs.Findings.{FoundDeadlock}
use Rattle.trace_laws.proofs.Places.{contains_at}
use Rattle.pattern_walk.specs.Cycles.{classes_of}
use Rattle.pattern_walk.specs.Instances.{IsLeastDeadlock}
use Rattle.predictor.specs.Parts.{deadlock_found}
use Rattle.predictor.specs.Searches.{AreDeadlocks}
use Rattle.predictor.proofs.Deadly.{no_pattern, classes_at, past_one, one_more}
use Rattle.predictor.proofs.deadlocks.collect_deadlocks.Goals as goal

pub loop-n-init : goal.loop-n-init
loop-n-init c = record {
  trace = c.requires.trace;
  deadlocks = subst (λ (xs : List (List ℕ × List ℕ)). AreDeadlocks c.args.classes.now.trace (map (classes_of c.args.classes.now.classes) c.args.patterns.now) c.args.from c.args.from (map deadlock_found xs)) (sym c.new-found.ensures.items)
      (no_pattern c.args.classes.now.trace (map (classes_of c.args.classes.now.classes) c.args.patterns.now) c.args.from c.args.from refl);
}

pub check-requires-clause-pattern : goal.check-requires-clause-pattern
check-requires-clause-pattern c = c.requires.ranked.each c.get.result.now (contains_at c.args.patterns.now c.loop-n.n c.get.result.now c.get.ensures)

pub loop-n-preserved-in_default : goal.loop-n-preserved-in_default
loop-n-preserved-in_default c =
    let graph = c.args.classes.now in
    let at = c.loop-n in
    let next = classes_of graph.classes c.get.result.now in
    let none = subst (IsLeastDeadlock graph.trace next) c.in_default.is c.in_ok-deadlock.ensures.found in
    record {
      trace = c.in_ok-deadlock.ensures.trace ∙ at.invariant.trace;
      deadlocks = past_one graph.trace (map (classes_of graph.classes) c.args.patterns.now) c.args.from at.n next (map deadlock_found at.found.items) (classes_at graph.classes c.args.patterns.now at.n c.get.result.now c.get.ensures) none at.invariant.deadlocks;
    }

pub loop-n-preserved : goal.loop-n-preserved
loop-n-preserved c =
    let graph = c.args.classes.now in
    let patterns = map (classes_of graph.classes) c.args.patterns.now in
    let at = c.loop-n in
    let from = c.args.from in
    let next = classes_of graph.classes c.get.result.now in
    let one : FoundDeadlock = record { picks = c.in-Some.deadlock; keep = c.in-Some.keep } in
    let is = subst (IsLeastDeadlock graph.trace next) c.in-Some.is c.in_ok-deadlock.ensures.found in
    let order = c.requires.order in
    let after : from ≤ at.n = (let least = c.loop-n.auto.n in omega arith) in
    let added : map deadlock_found c.push.new.self.items ≡ map deadlock_found at.found.items ++ one ∷ [] = ap (map deadlock_found) c.in-Ok.ensures.items ∙ map-append deadlock_found at.found.items ((c.in-Some.deadlock, c.in-Some.keep) ∷ []) in
    record {
      trace = c.in_ok-deadlock.ensures.trace ∙ at.invariant.trace;
      deadlocks = subst (AreDeadlocks graph.trace patterns from (at.n + 1)) (sym added)
          (one_more graph.trace patterns from at.n next (map deadlock_found at.found.items) one after c.requires.ranked.order (classes_at graph.classes c.args.patterns.now at.n c.get.result.now c.get.ensures) is at.invariant.deadlocks);
    }

pub returns : goal.returns
returns c =
    let graph = c.args.classes.now in
    let past = c.loop-n-test.false in
    let order = c.requires.order in
    let end = c.loop-n.auto.n-end in
    let all : c.loop-n.n ≡ c.args.to = omega arith in
    subst (λ (n : ℕ). AreDeadlocks graph.trace (map (classes_of graph.classes) c.args.patterns.now) c.args.from n (map deadlock_found c.loop-n.found.items)) all c.loop-n.invariant.deadlocks
