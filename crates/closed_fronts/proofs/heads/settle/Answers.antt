use Rattle.std.proofs.Common.{◌+◌, ◌<◌, ℕ, Option, sym, subst}
use Rattle.std.specs.Option.{option_map_or}
use Rattle.closed_fronts.specs.Tables.{IsCandidate, AreCandidates}
use Rattle.closed_fronts.proofs.Told.{if_some_at}
use Rattle.closed_fronts.proofs.Opens.{settled, candidates_next, candidate_next, candidate_less}
use Rattle.closed_fronts.proofs.heads.settle.Goals as goal

pub returns-then-not-has_ended : goal.returns-then-not-has_ended
returns-then-not-has_ended c =
    let events = c.args.places.now.events in
    let t = c.args.thread in
    let p = c.args.place in
    let a = c.in-Some.acquire in
    let is = c.in-Some.is in
    let candidate = if_some_at (IsCandidate events t p) c.loop-head.head a c.loop-head.invariant.candidate is in
    let all = subst (λ (o : Option ℕ). AreCandidates events t p o) is c.loop-head.invariant.all in
    settled events t p a candidate (λ ended. let yes_there = c.has_ended.ensures.1 ended in let none = c.if-not-has_ended.true in cc) all

pub loop-head-smaller : goal.loop-head-smaller
loop-head-smaller c =
    let events = c.args.places.now.events in
    let t = c.args.thread in
    let p = c.args.place in
    let a = c.in-Some.acquire in
    let is = c.in-Some.is in
    let candidate = if_some_at (IsCandidate events t p) c.loop-head.head a c.loop-head.invariant.candidate is in
    subst (λ (o : Option ℕ). option_map_or (λ (k : ℕ). k + 1) c.entry-head.result 0 < option_map_or (λ (k : ℕ). k + 1) o 0) (sym is) (candidate_less events t p a c.entry-head.result candidate (c.requires.outer a c.entry-head.result c.entry-head.ensures))

pub loop-head-preserved : goal.loop-head-preserved
loop-head-preserved c =
    let events = c.args.places.now.events in
    let t = c.args.thread in
    let p = c.args.place in
    let a = c.in-Some.acquire in
    let is = c.in-Some.is in
    let o = c.entry-head.result in
    let candidate = if_some_at (IsCandidate events t p) c.loop-head.head a c.loop-head.invariant.candidate is in
    let all = subst (λ (x : Option ℕ). AreCandidates events t p x) is c.loop-head.invariant.all in
    let outer = c.requires.outer a o c.entry-head.ensures in
    record {
      candidate = candidate_next events t p a o candidate outer;
      all = candidates_next events t p a o candidate (c.has_ended.ensures.0 c.if-not-has_ended.false) all outer;
    }

pub returns : goal.returns
returns c = subst (λ (x : Option ℕ). AreCandidates c.args.places.now.events c.args.thread c.args.place x) c.in_default.is c.loop-head.invariant.all
