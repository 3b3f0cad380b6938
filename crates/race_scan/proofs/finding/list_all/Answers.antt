use Rattle.std.proofs.Common.{[], arith}
use Rattle.sp_base.specs.declared.limits.TheConstants.{MAX_VARS}
use Rattle.race_scan.proofs.Adding.{range_next, range_all, reaches}
use Rattle.race_scan.proofs.finding.list_all.Goals as goal

pub loop-number-preserved : goal.loop-number-preserved
loop-number-preserved c =
    let least = c.loop-number.invariant.least in
    let test = c.loop-number-test.true in
    record {
      trace = c.list_number.ensures.trace;
      least = omega arith;
      upto = λ more. omega arith;
      adds = range_next c.args.index.now.events c.args.from c.loop-number.number [] c.loop-number.races.items c.list_number.new.races.items least c.loop-number.invariant.adds c.in_ok-list_number.ensures.adds;
    }

pub returns-clause-races : goal.returns-clause-races
returns-clause-races c =
    let end = c.min-number-end.result in
    let is = c.min-number-end.ensures in
    let past = c.loop-number-test.false in
    range_all c.args.index.now.events c.args.from c.args.to c.loop-number.number end [] c.loop-number.races.items c.trace.ensures.variables c.loop-number.invariant.upto (omega arith) (omega arith) (reaches c.args.to MAX_VARS end is) c.loop-number.invariant.adds
