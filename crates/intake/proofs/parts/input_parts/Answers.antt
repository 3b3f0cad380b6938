use Rattle.std.proofs.Common.{refl, sym, arith}
use Rattle.intake.specs.Inputs.{scripts_in, trace_in}
use Rattle.intake.proofs.InputParts.{scripts_end, trace_begins, scripts_on, trace_on}
use Rattle.intake.proofs.parts.input_parts.Goals as goal

pub returns-then-is_mark-clause-scripts : goal.returns-then-is_mark-clause-scripts
returns-then-is_mark-clause-scripts c =
    scripts_end c.args.input.now _ c.loop-start.start c.line_len.result c.min-next.result c.line_len.ensures.value refl c.min-next.ensures (scripts_in c.args.input.now) c.loop-start.invariant.scripts (sym c.if-is_mark.ensures)

pub returns-then-is_mark-clause-trace : goal.returns-then-is_mark-clause-trace
returns-then-is_mark-clause-trace c =
    trace_begins c.args.input.now _ c.loop-start.start c.line_len.result c.min-next.result c.line_len.ensures.value refl c.min-next.ensures (trace_in c.args.input.now) c.loop-start.invariant.trace (sym c.if-is_mark.ensures)

pub loop-start-preserved : goal.loop-start-preserved
loop-start-preserved c = record {
  scripts = scripts_on c.args.input.now _ c.loop-start.start c.line_len.result c.min-next.result c.line_len.ensures.value refl c.min-next.ensures (scripts_in c.args.input.now) c.loop-start.invariant.scripts (sym c.if-is_mark.ensures);
  trace = trace_on c.args.input.now _ c.loop-start.start c.line_len.result c.min-next.result c.line_len.ensures.value refl c.min-next.ensures (trace_in c.args.input.now) c.loop-start.invariant.trace (sym c.if-is_mark.ensures);
  within = omega (arith, c.min-next.ensures);
}
