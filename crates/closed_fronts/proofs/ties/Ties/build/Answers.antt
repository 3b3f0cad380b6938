use Rattle.std.proofs.Common.{◌≡◌, ℕ, sym, subst}
use Rattle.std.specs.Prelude.{Vec, length}
use Rattle.std.specs.declared.alloc.Global.{Global}
use Rattle.trace_laws.specs.Traces.{History, IsTrace}
use Rattle.closed_fronts.specs.Tables.{AreTold, IsNextRow}
use Rattle.closed_fronts.proofs.ties.Ties.build.Goals as goal

pub invariant_of-result : goal.invariant_of-result
invariant_of-result c =
    let same = sym c.in_ok-places.ensures in
    let next = c.in_ok-next.next.items in
    let linked = c.in_ok-links.ensures in
    record {
      trace = subst (λ (h : History). IsTrace h.events h.threads) same c.next_rows.ensures.trace;
      own_size = linked.own_size;
      joined_size = linked.joined_size;
      outer_size = linked.outer_size;
      opened_size = linked.opened_size;
      next_size = subst (λ (h : History). length next ≡ length h.events) same c.in_ok-next.ensures.size;
      own_places = linked.own_places;
      joined_places = linked.joined_places;
      outer_places = linked.outer_places;
      opened_places = linked.opened_places;
      next_rows = subst (λ (h : History). AreTold (λ p (v : Vec ℕ Global). IsNextRow h.events h.threads p v.items) next) same c.in_ok-next.ensures.rows;
    }
