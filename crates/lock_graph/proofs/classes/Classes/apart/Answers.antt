use Rattle.std.proofs.Common.{◌≡◌, ◌≢◌, sym, ◌∙◌}
use Rattle.std.proofs.lemmas.Bool.{eqb-false}
use Rattle.lock_graph.proofs.Reading.{read_is}
use Rattle.lock_graph.proofs.classes.Classes.apart.Goals as goal

pub returns : goal.returns
returns c = λ x y at_x at_y.
    let classes = c.args.self.now.classes in
    let both = c.held_apart.ensures x y at_x at_y in
    let thread_x : x.thread ≡ c.thread.result = read_is (λ k. k.thread) classes c.args.a c.thread.result x c.thread.ensures at_x in
    let thread_y : y.thread ≡ c.thread-2.result = read_is (λ k. k.thread) classes c.args.b c.thread-2.result y c.thread-2.ensures at_y in
    let lock_x : x.lock ≡ c.lock.result = read_is (λ k. k.lock) classes c.args.a c.lock.result x c.lock.ensures at_x in
    let lock_y : y.lock ≡ c.lock-else-eq.result = read_is (λ k. k.lock) classes c.args.b c.lock-else-eq.result y c.lock-else-eq.ensures at_y in
    let threads : x.thread ≢ y.thread = λ same. eqb-false c.thread.result c.thread-2.result (sym c.eq.ensures ∙ c.if-eq.false) (sym thread_x ∙ same ∙ thread_y) in
    let locks : x.lock ≢ y.lock = λ same. eqb-false c.lock.result c.lock-else-eq.result (sym c.eq-else-eq.ensures ∙ c.if-eq-2.false) (sym lock_x ∙ same ∙ lock_y) in
    (λ t. record { threads = threads; locks = locks; held = both.0 t }, λ h. both.1 h.held)
