use Rattle.std.proofs.Common.{◌∙◌}
use Rattle.std.proofs.lemmas.List.Elements.{same_from_all_zip}
use Rattle.trace_laws.proofs.NameLemmas.{cloned}
use Rattle.trace_laws.proofs.names.NameSpace.copy.Goals as goal

pub returns : goal.returns
returns c =
    cloned (λ k. k.items) _ (λ v w h. same_from_all_zip _ v.items w.items h.0 (λ x y e. e)) c.self.inside.names.keys c.in_ok-names.names.keys c.in_ok-names.ensures.cases
    ∙ c.self.view_is
