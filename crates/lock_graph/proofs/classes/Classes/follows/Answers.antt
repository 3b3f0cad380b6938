use Rattle.std.proofs.Common.{◌≡◌, true, sym, subst}
use Rattle.std.specs.Prelude.{Contains}
use Rattle.lock_graph.proofs.Reading.{read_is}
use Rattle.lock_graph.proofs.classes.Classes.follows.Goals as goal

pub returns : goal.returns
returns c = λ x y at_x at_y.
    let both = c.apart.ensures x y at_x at_y in
    let lock : x.lock ≡ c.lock.result = read_is (λ k. k.lock) c.args.self.now.classes c.args.a c.lock.result x c.lock.ensures at_x in
    let holds : c.holds.result ≡ true = c.if-not-holds.false in
    (λ t. record { apart = both.0 t; holds = subst (Contains y.held) (sym lock) ((c.holds.ensures y at_y).0 holds) }, λ h. both.1 h.apart)
