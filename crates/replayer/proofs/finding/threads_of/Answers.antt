use Rattle.std.proofs.Common.{◌≡◌, ◌+◌, ℕ, Some, [], ◌∷◌, ◌++◌, take, slice_index_or, sym, ap, ◌∙◌, subst, arith, rules}
use Rattle.std.specs.List.{AllZip}
use Rattle.std.specs.Option.{option_map}
use Rattle.std.proofs.lemmas.List.{take_more}
use Rattle.std.proofs.lemmas.List.Elements.{AllZip-push}
use Rattle.trace_laws.specs.Event.{Event}
use Rattle.trace_laws.specs.Trace.{thread_at}
use Rattle.replayer.proofs.finding.threads_of.Goals as goal

pub loop-pick-preserved : goal.loop-pick-preserved
loop-pick-preserved c =
    let events = c.args.trace.now.events in
    let picks = c.args.picks.now in
    let i = c.loop-pick.pick-index in
    let pick : ℕ = slice_index_or picks i 0 in
    let R : ℕ → ℕ → Type 0 = (λ p t. thread_at events p ≡ Some t) in
    let here : thread_at events pick ≡ Some c.event.inside.thread =
    ap (option_map (λ (e : Event). e.thread)) (c.event-event.ensures ∙ ap Some (sym c.event.view_is)) in
    let more : take (i + 1) picks ≡ take i picks ++ pick ∷ [] = take_more picks i 0 (omega (arith, c.loop-pick-test.true)) in
    record {
      threads = subst (λ ps. AllZip R ps c.push_reserved.new.self.items) (sym more)
          (subst (λ ts. AllZip R (take i picks ++ pick ∷ []) ts) (sym c.push_reserved.ensures.items)
          (AllZip-push R (take i picks) c.loop-pick.threads.items pick c.event.inside.thread c.loop-pick.invariant.threads here));
      many = search rules;
      room = search rules;
    }
