use Rattle.std.proofs.Common.{◌≡◌, ◌<◌, length, sym, ◌∙◌, arith}
use Rattle.std.proofs.lemmas.Result.{on_ok_weaker}
use Rattle.closed_fronts.specs.Tables.{IsOwnBefore}
use Rattle.closed_fronts.specs.Rows.{IsRow, row_in}
use Rattle.closed_fronts.proofs.Told.{some_if, latest_has, told_one}
use Rattle.closed_fronts.proofs.Sharing.{row_told}
use Rattle.closed_fronts.proofs.fronts.note_whole.Goals as goal

pub push-requires-clause-source : goal.push-requires-clause-source
push-requires-clause-source c =
    let events = c.args.ties.now.events in
    let threads = c.args.ties.now.threads in
    let rows = c.args.rows.now in
    some_if (λ q. (q < length rows) × (length (row_in rows q) ≡ length c.grow_row.new.cuts)) c.own.result (λ q is.
    let earlier = (latest_has (IsOwnBefore events c.args.place) c.own.result q c.own.ensures is).before.earlier in
    let made = c.requires.made in
    let less : q < length rows = omega arith in
    (less, (row_told events threads rows q c.requires.rows less).steady.size ∙ sym c.grow_row.ensures.steady.size))

pub returns-clause-rows : goal.returns-clause-rows
returns-clause-rows c =
    let events = c.args.ties.now.events in
    let threads = c.args.ties.now.threads in
    on_ok_weaker c.push.result (λ is. told_one (IsRow events threads) c.args.rows.now c.push.new.self c.grow_row.new.cuts c.args.place is c.requires.made c.requires.rows c.grow_row.ensures) c.push.ensures
