-- The lines of the events at places, one more at a time.
use Rattle.std.proofs.Common.{◌≡◌, ℕ, ◌+◌, List, [], ◌∷◌, ◌++◌, take, get_or, slice_get, Some, refl, ap, ◌∙◌, append-nil}
use Rattle.std.proofs.lemmas.List.{take_more}
use Rattle.std.proofs.lemmas.List.Concat.{flat_map-append}
use Rattle.std.proofs.lemmas.List.Elements.{filter_map-append}
use Rattle.std.proofs.lemmas.Option.{get_or_from_slice_get, slice_get_within}
use Rattle.trace_laws.specs.Event.{Event}
use Rattle.trace_laws.specs.Names.{NameLists}
use Rattle.replayer.specs.Replays.{along}
use Rattle.std_text.specs.Writing.{event_line, trace_text}

-- the line of the event at the next place
pub place_more : (names : NameLists) (events : List Event) (places : List ℕ) (i p : ℕ) (e : Event) → slice_get places i ≡ Some p → slice_get events p ≡ Some e
    → trace_text names (along events (take (i + 1) places)) ≡ trace_text names (along events (take i places)) ++ event_line names e
place_more names events places i p e at there =
    let here : get_or places i p ≡ p = get_or_from_slice_get places i p p at in
    let one : along events (p ∷ []) ≡ e ∷ [] = rw there refl in
    let front = along events (take i places) in
    ap (λ ps. trace_text names (along events ps)) (take_more places i p (slice_get_within places i p at))
    ∙ ap (λ x. trace_text names (along events (take i places ++ x ∷ []))) here
    ∙ ap (trace_text names) (filter_map-append (slice_get events) (take i places) (p ∷ []))
    ∙ ap (λ l. trace_text names (front ++ l)) one
    ∙ flat_map-append (event_line names) front (e ∷ [])
    ∙ ap (λ l. trace_text names front ++ l) (append-nil (event_line names e))
