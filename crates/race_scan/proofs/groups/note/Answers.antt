use Rattle.std.proofs.Common.{◌≡◌, ◌<◌, List, length, Some, ap, refl, sym, subst, ◌∙◌}
use Rattle.std.specs.Prelude.{slice_get}
use Rattle.std.proofs.lemmas.Option.{slice_get-get_or}
use Rattle.race_scan.specs.declared.groups.Group.{Group}
use Rattle.race_scan.specs.Grouped.{IsNoted}
use Rattle.race_scan.proofs.groups.note.Goals as goal

pub returns-in_default : goal.returns-in_default
returns-in_default c = IsNoted.further c.in_ok-group.group c.in_ok-group.ensures.thread c.in_ok-group.ensures.places c.in_ok-push.ensures.items

pub returns : goal.returns
returns c =
    let groups = c.args.groups.now.items in
    let i = c.in-Some.position in
    let g = c.index_mut.result.now in
    let within = subst (λ (xs : List Group). i < length xs) c.deref.ensures.value c.in-Some.ensures.below in
    let at : slice_get groups i ≡ Some g = slice_get-get_or groups i g within ∙ ap Some (sym c.index_mut.ensures.value) in
    IsNoted.longer i g c.add.new.group at (c.in-Some.ensures.thread g (subst (λ (xs : List Group). slice_get xs i ≡ Some g) (sym c.deref.ensures.value) at)) c.in_ok-add.ensures refl
