use Rattle.std.proofs.Common.{refl, sym, ◌∙◌, string_bytes}
use Rattle.command_words.proofs.ModeLists.{name_added, names_added}
use Rattle.command_words.proofs.mode.add_names.Goals as goal

pub loop-name-init : goal.loop-name-init
loop-name-init c = refl

pub loop-name-preserved : goal.loop-name-preserved
loop-name-preserved c =
    let ms = c.args.modes.now in
    let i = c.loop-name.name-index in
    rw (c.in_ok-push_str-2.ensures.bytes, c.in_ok-push_str.ensures.bytes) (name_added ms (string_bytes c.loop-name.list) i _ c.loop-name-test.true ∙ c.loop-name.invariant)

pub returns : goal.returns
returns c = sym (names_added c.args.modes.now (string_bytes c.loop-name.list) c.loop-name.name-index c.loop-name-test.false) ∙ c.loop-name.invariant
