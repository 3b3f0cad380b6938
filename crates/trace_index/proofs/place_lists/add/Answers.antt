use Rattle.std.proofs.Common.{refl, sym, ap, ◌∙◌, Some}
use Rattle.std.proofs.lemmas.Option.{slice_get-get_or}
use Rattle.trace_index.proofs.place_lists.add.Goals as goal

pub returns : goal.returns
returns c =
    let lists = c.pad.new.lists.items in
    let before = c.index_mut.result.now in
    record {
      padded = lists;
      padding = c.in_ok-pad.ensures.padded;
      before = before;
      after = c.push.new.self;
      at = slice_get-get_or lists c.args.number before c.in_ok-pad.ensures.number ∙ ap Some (sym c.index_mut.ensures.value);
      grown = c.in-Ok.ensures.items;
      set = refl;
    }
