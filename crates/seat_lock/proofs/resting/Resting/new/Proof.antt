-- The seat goes into the struct.
use Rattle.atomic_table.proofs.Names.{◌≡◌, [], ◌∷◌, refl, a_type, Val, inst_fn, SProp, emp, ‵, raw, ◌⊛◌, ◌$◌, ◌∵◌, !, qed, by, move, keep, split, fsplit, fjoin, use0, use1, of_opd, no_more, and_then, returns, enter, alloc_all, pass_all, free_all, look_at, get, sets, agg, tables, no, RattleType, owns, types_at, plain, nothing, param, layouts, alive, Stays, stay_dropped, walk_of, Goes-dropped, fact, fact_i}
use Rattle.atomic_table.proofs.Walks.{proved, leaves}
use Rattle.atomic_table.specs.contracts.shared.Seat as seat
use Rattle.atomic_table.proofs.Fields.{token_val, token_told}
use Rattle.seat_lock.specs.contracts.resting.Resting as resting
use Rattle.seat_lock.specs.contracts.resting.Resting.new.{ended, clauses}
use Rattle.seat_lock.specs.contracts.resting.Resting.new.Key.{name as #self}
use Rattle.seat_lock.proofs.Rests.{rest_val, laid}
use Rattle.seat_lock.proofs.resting.Resting.new.Statement.{statement}
use Rattle.seat_lock.proofs.resting.Resting.new.Code as code

pub new_spec : {M : Type 1} → statement M
new_spec 𝓤 𝓛 𝓜 𝓡 wired T U _ _ =
    let H = 𝓛.H in let 𝓣 = tables 𝓤 H 𝓜 𝓡 𝓡.env in let R : RattleType = param 0 T in let W : RattleType = param 1 U in
    let SeatRow : RattleType = seat.the_row R W in let RestRow : RattleType = resting.the_row R W in
    let En = ended T U in let c = clauses T U 𝓛 𝓜.mem 𝓡.returns in
    let instance = layouts (a_type ∷ a_type ∷ []) (T, (U, tt)) in let fn = inst_fn instance code.function in
    let stayed : Stays En.signature.params En.kept = (stay_dropped (plain (λ _. SeatRow)) no, tt) in
    proved 𝓛 En stayed c 𝓜 𝓡 (Goes-dropped 𝓛 2 (plain (λ _. SeatRow)) no (λ κs x f. refl), tt) (#self instance) fn (code.unfolded 𝓤 H 𝓜 𝓡 wired (T, (U, tt)))
    (λ κs. ((λ _. token_val ∷ []), tt)) (λ κs. ((λ x vs so. token_told R W vs so.0), tt)) (λ κs qs bounds a none are.
    let x : SeatRow.Denot = a.0 in let r : RestRow.Denot = record { seat = x } in
    let y : (walk_of 𝓛 En stayed c).Ghost = ((κs, qs, bounds, a, (token_val ∷ [], tt)), none) in let Post : Val → SProp 𝓤 = (walk_of 𝓛 En stayed c).post y in
    qed 𝓛 ((raw (alive 𝓛 En.signature κs qs) ⊛ ‵ (owns (types_at En.signature.params κs) a y.0.4)) ∷ raw ((c κs a).requires none) ∷ []) ∵
    -- [what the seat owns; the tokens]
    split ! $ move ! (1 ∷ []) $ fsplit ! $ keep ! (0 ∷ 2 ∷ []) $ use1 𝓛 (‵ (RestRow.own_val r (rest_val ∷ []))) (laid R W 𝓛 x) $
    enter ! 𝓣.C 𝓣.Λ fn (token_val ∷ []) Post $ alloc_all ! (λ l. pass_all ! refl ((tt, (tt, tt)), tt) $
    sets ! (of_opd ! (get ! refl)) refl (tt, (tt, tt)) $ sets ! (agg ! (and_then ! (get ! refl) (no_more !))) refl (tt, ((tt, tt), tt)) $
    -- the `ensures`, and nothing that is left of the parameter
    use0 𝓛 (raw (fact 𝓤 (x ≡ x))) (fact_i 𝓤 (x ≡ x) (emp 𝓤) refl) $ nothing ! $ nothing ! $ fjoin ! $
    returns ! (look_at ! 0 refl) $ free_all ! refl $ keep ! (3 ∷ 0 ∷ 2 ∷ 1 ∷ []) $ by ! (leaves 𝓛 En stayed c y rest_val r (tt, tt) (tt, tt))))
