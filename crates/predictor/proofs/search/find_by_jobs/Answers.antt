use Rattle.std.proofs.Common.{List, ℕ, length, map, subst, IfOk}
use Rattle.lock_graph.specs.Classes.{Graph}
use Rattle.pattern_walk.specs.Cycles.{classes_of}
use Rattle.predictor.specs.Searches.{AreRaces, AreDeadlocks}
use Rattle.predictor.proofs.search.find_by_jobs.Goals as goal

pub returns-clause-races : goal.returns-clause-races
returns-clause-races g c = subst (λ (graph : Graph). IfOk c.join.result (λ found. AreRaces graph.trace found.races)) c.in_ok-search.ensures.classes c.join.ensures.races

pub returns-clause-deadlocks : goal.returns-clause-deadlocks
returns-clause-deadlocks g c =
    subst (λ (s : Graph × List (List ℕ)). IfOk c.join.result (λ found. AreDeadlocks s.0.trace (map (classes_of s.0.classes) s.1) 0 (length s.1) found.deadlocks))
    (λ i. (c.in_ok-search.ensures.classes i, c.in_ok-search.ensures.patterns i)) c.join.ensures.deadlocks
