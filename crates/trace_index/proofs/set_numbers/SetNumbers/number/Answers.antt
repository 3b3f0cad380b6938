use Rattle.std.proofs.Common.{◌≡◌, List, ℕ, [], ◌∷◌, ◌++◌, length, Some, slice_get, sym, ap, subst, ◌∙◌, length-append}
use Rattle.trace_laws.proofs.NameLemmas.{count}
use Rattle.trace_laws.proofs.Places.{slice_get-append_seam}
use Rattle.trace_index.specs.HeldSets.{AreAllDistinct, KeepNumbers}
use Rattle.trace_index.proofs.SetNumbering.{set_found, set_nowhere, set_last, kept_push, distinct_push}
use Rattle.trace_index.proofs.set_numbers.SetNumbers.number.Goals as goal

pub returns-in-Some-clause-number : goal.returns-in-Some-clause-number
returns-in-Some-clause-number c = set_found (λ k. k.items) c.self.inside.sets.keys c.args.self.now c.self.view_is c.args.set.now c.in-Some.number c.in-Some.ensures.found c.in-Some.ensures.index

pub returns-clause-number : goal.returns-clause-number
returns-clause-number c =
    let last = set_last (λ k. k.items) c.self.inside.sets.keys c.args.self.now c.self.view_is c.args.set.now c.in_ok-owned.owned c.insert.new.self.keys c.in_ok-owned.ensures.items c.in_default.ensures.found c.in-Ok.ensures.keys in
    let size : c.len-number.result ≡ length c.args.self.now = c.len-number.ensures.len ∙ count (λ k. k.items) c.self.inside.sets.keys c.args.self.now c.self.view_is in
    let seam : slice_get (c.args.self.now ++ c.args.set.now ∷ []) c.len-number.result ≡ Some c.args.set.now = ap (slice_get (c.args.self.now ++ c.args.set.now ∷ [])) size ∙ slice_get-append_seam c.args.self.now c.args.set.now in
    subst (λ (s : List (List ℕ)). slice_get s c.len-number.result ≡ Some c.args.set.now) (sym last) seam

pub returns-clause-distinct : goal.returns-clause-distinct
returns-clause-distinct c =
    let last = set_last (λ k. k.items) c.self.inside.sets.keys c.args.self.now c.self.view_is c.args.set.now c.in_ok-owned.owned c.insert.new.self.keys c.in_ok-owned.ensures.items c.in_default.ensures.found c.in-Ok.ensures.keys in
    subst AreAllDistinct (sym last) (distinct_push c.args.self.now c.args.set.now c.requires (set_nowhere (λ k. k.items) c.self.inside.sets.keys c.args.self.now c.self.view_is c.args.set.now c.in_default.ensures.found))

pub returns-clause-kept : goal.returns-clause-kept
returns-clause-kept c =
    let last = set_last (λ k. k.items) c.self.inside.sets.keys c.args.self.now c.self.view_is c.args.set.now c.in_ok-owned.owned c.insert.new.self.keys c.in_ok-owned.ensures.items c.in_default.ensures.found c.in-Ok.ensures.keys in
    subst (KeepNumbers c.args.self.now) (sym last) (kept_push c.args.self.now c.args.set.now)

pub returns-clause-more : goal.returns-clause-more
returns-clause-more c =
    let last = set_last (λ k. k.items) c.self.inside.sets.keys c.args.self.now c.self.view_is c.args.set.now c.in_ok-owned.owned c.insert.new.self.keys c.in_ok-owned.ensures.items c.in_default.ensures.found c.in-Ok.ensures.keys in
    λ size. ap length last ∙ length-append c.args.self.now (c.args.set.now ∷ [])
