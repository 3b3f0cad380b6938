use Rattle.std.proofs.Common.{List, sym, subst}
use Rattle.shard_pool.specs.Shares.{AreAnswers}
use Rattle.predictor.specs.Jobs.{CutSearch}
use Rattle.predictor.specs.Parts.{IsPartOfJob}
use Rattle.predictor.specs.declared.cut.Border.{Border}
use Rattle.predictor.proofs.job.Search.join.Goals as goal

pub join_parts-requires-clause-parts : goal.join_parts-requires-clause-parts
join_parts-requires-clause-parts g c =
    let parts = c.args.parts.items in
    subst (λ (borders : List Border). AreAnswers (IsPartOfJob c.self.inside.classes c.self.inside.patterns borders) parts) (sym c.deref.ensures.value)
    (subst (λ (s : CutSearch). AreAnswers (IsPartOfJob s.graph s.listed s.borders) parts) (sym c.self.view_is) c.requires.parts)
