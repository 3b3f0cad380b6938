-- The seat comes out of the struct.
use Rattle.atomic_table.proofs.Names.{◌≡◌, [], ◌∷◌, refl, a_type, Val, inst_fn, SProp, emp, ‵, raw, ◌⊛◌, ◌$◌, ◌∵◌, !, qed, by, move, keep, split, fsplit, fjoin, use0, use1, stop, fld, of_opd, returns, enter, alloc_all, pass_all, free_all, look_at, get, get_in, sets, sub, whole, tables, no, RattleType, owns, types_at, plain, nothing, param, layouts, alive, Stays, stay_dropped, walk_of, fact, fact_i}
use Rattle.atomic_table.proofs.Walks.{proved, leaves}
use Rattle.std.proofs.alloc.Calls.{Goes-blank}
use Rattle.atomic_table.specs.contracts.shared.Seat as seat
use Rattle.atomic_table.proofs.Fields.{token_val}
use Rattle.seat_lock.specs.contracts.resting.Resting as resting
use Rattle.seat_lock.specs.contracts.resting.Resting.into_seat.{ended, clauses}
use Rattle.seat_lock.specs.contracts.resting.Resting.into_seat.Key.{name as #self}
use Rattle.seat_lock.proofs.Rests.{rest_val, rest_told, taken_up}
use Rattle.seat_lock.proofs.resting.Resting.into_seat.Statement.{statement}
use Rattle.seat_lock.proofs.resting.Resting.into_seat.Code as code

pub into_seat_spec : {M : Type 1} → statement M
into_seat_spec 𝓤 𝓛 𝓜 𝓡 wired T U _ _ =
    let H = 𝓛.H in let 𝓣 = tables 𝓤 H 𝓜 𝓡 𝓡.env in let R : RattleType = param 0 T in let W : RattleType = param 1 U in
    let SeatRow : RattleType = seat.the_row R W in let RestRow : RattleType = resting.the_row R W in
    let En = ended T U in let c = clauses T U 𝓛 𝓜.mem 𝓡.returns in
    let instance = layouts (a_type ∷ a_type ∷ []) (T, (U, tt)) in let fn = inst_fn instance code.function in
    let stayed : Stays En.signature.params En.kept = (stay_dropped (plain (λ _. RestRow)) no, tt) in
    proved 𝓛 En stayed c 𝓜 𝓡 (Goes-blank 𝓛 2 (plain (λ _. RestRow)) no (λ κs x f. tt), tt) (#self instance) fn (code.unfolded 𝓤 H 𝓜 𝓡 wired (T, (U, tt)))
    (λ κs. ((λ _. rest_val ∷ []), tt)) (λ κs. ((λ x vs so. rest_told R W x vs so), tt)) (λ κs qs bounds a none are.
    let x : SeatRow.Denot = a.0.seat in
    let y : (walk_of 𝓛 En stayed c).Ghost = ((κs, qs, bounds, a, (rest_val ∷ [], tt)), none) in let Post : Val → SProp 𝓤 = (walk_of 𝓛 En stayed c).post y in
    qed 𝓛 ((raw (alive 𝓛 En.signature κs qs) ⊛ ‵ (owns (types_at En.signature.params κs) a y.0.4)) ∷ raw ((c κs a).requires none) ∷ []) ∵
    -- [what the seat at rest owns; the tokens]
    split ! $ move ! (1 ∷ []) $ fsplit ! $ keep ! (0 ∷ 2 ∷ []) $ use1 𝓛 (‵ (SeatRow.own_val x (token_val ∷ []))) (taken_up R W 𝓛 x) $
    enter ! 𝓣.C 𝓣.Λ fn (rest_val ∷ []) Post $ alloc_all ! (λ l. pass_all ! refl ((tt, ((tt, tt), tt)), tt) $
    sets ! (of_opd ! (get_in ! (fld ! refl (stop !)) (sub ! 0 refl (whole !)))) refl (tt, (tt, tt)) $ sets ! (of_opd ! (get ! refl)) refl (tt, (tt, tt)) $
    -- the `ensures`, and nothing that is left of the parameter
    use0 𝓛 (raw (fact 𝓤 (x ≡ x))) (fact_i 𝓤 (x ≡ x) (emp 𝓤) refl) $ nothing ! $ nothing ! $ fjoin ! $
    returns ! (look_at ! 0 refl) $ free_all ! refl $ keep ! (3 ∷ 0 ∷ 2 ∷ 1 ∷ []) $ by ! (leaves 𝓛 En stayed c y token_val x ((tt, tt), tt) (tt, tt))))
