-- In a lawful trace the computed holders hold the locks.
use Rattle.std.proofs.Common.{◌≡◌, List, [], ◌∷◌, ◌++◌, sym, subst, append-nil, append_assoc}
use Rattle.trace_laws.specs.Event.{Event}
use Rattle.trace_laws.specs.Trace.{Lawful}
use Rattle.trace_laws.proofs.Following.{follows_front}
use Rattle.std_text.specs.Law.{Tells}
use Rattle.std_text.proofs.HolderLemmas.{tells_none, tells_push}

-- event by event
tells_from : (front back : List Event) → Tells front → Lawful (front ++ back) → Tells (front ++ back)
tells_from front [] tells lawful = subst Tells (sym (append-nil front)) tells
tells_from front (e ∷ back) tells lawful =
    let whole : (front ++ e ∷ []) ++ back ≡ front ++ e ∷ back = append_assoc front (e ∷ []) back in
    let law = (follows_front front back e lawful).locks in
    subst Tells whole (tells_from (front ++ e ∷ []) back (tells_push front e law tells) (subst Lawful (sym whole) lawful))

-- in a lawful trace the holders are computed rightly
pub holders_tell : (trace : List Event) → Lawful trace → Tells trace
holders_tell trace lawful = tells_from [] trace tells_none lawful
