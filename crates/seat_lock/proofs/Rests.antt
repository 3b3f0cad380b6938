-- What a seat at rest owns, which is the seat.
use Rattle.std.proofs.Common.{◌≡◌, ◌++◌, List, [], ◌∷◌, ap, refl, ◌∙◌}
use Rattle.atomic_table.proofs.Names.{Ura, Logic, Val, vstruct, vcons, vnil, of_list, RattleType, Valss, owns, Is, shows, ent, sem, fsep, ‵, ◌$◌, ◌∵◌, !, qed, done, keep, drop, move, fsplit, fsplit3, fjoin, fpick, fpack, feq_i, nothing, rewrite, peeks}
use Rattle.atomic_table.specs.contracts.shared.Seat as seat
use Rattle.atomic_table.proofs.Fields.{token_val, token_told}
use Rattle.seat_lock.specs.contracts.resting.Resting as resting

-- how the machine stores a seat at rest
abbrev pub rest_val : Val
rest_val = vstruct (vcons token_val vnil)

module _ (R W : RattleType) where
  abbrev SeatRow : RattleType
  SeatRow = seat.the_row R W

  abbrev RestRow : RattleType
  RestRow = resting.the_row R W

  -- each is stored so
  pub rest_told : (r : RestRow.Denot) (vs : List Val) → Is RestRow r vs → vs ≡ rest_val ∷ []
  rest_told r vs so = let is = so.0 in is.1.0 ∙ ap (λ (ws : List Val). vstruct (of_list (ws ++ [])) ∷ []) (token_told R W is.0.0 is.1.1.0.0)

  module _ {M : Type 1} {𝓤 : Ura M} (𝓛 : Logic 𝓤) (x : SeatRow.Denot) where
    -- a seat is laid to rest
    pub laid : ent 𝓤 (sem 𝓛 (SeatRow.own_val x (token_val ∷ []))) (sem 𝓛 (RestRow.own_val (record { seat = x }) (rest_val ∷ [])))
    laid = qed 𝓛 (‵ (SeatRow.own_val x (token_val ∷ [])) ∷ []) ∵
        nothing ! $ move ! (1 ∷ 0 ∷ []) $ fjoin ! $ feq_i ! (List Val) (rest_val ∷ []) (rest_val ∷ []) refl $ fjoin ! $
        fpack ! (Valss (SeatRow ∷ [])) (λ vss. fsep (base.Fml.feq (List Val) (rest_val ∷ []) (vstruct (of_list (vss.0 ++ [])) ∷ [])) (owns (SeatRow ∷ []) (x, tt) vss)) (token_val ∷ [], tt) $
        nothing ! $ move ! (1 ∷ 0 ∷ []) $ fjoin ! $ done !

    -- and is taken up again
    pub taken_up : ent 𝓤 (sem 𝓛 (RestRow.own_val (record { seat = x }) (rest_val ∷ []))) (sem 𝓛 (SeatRow.own_val x (token_val ∷ [])))
    taken_up = qed 𝓛 (‵ (RestRow.own_val (record { seat = x }) (rest_val ∷ [])) ∷ []) ∵
        fsplit ! $ fpick ! (λ vss. fsplit3 ! $ drop ! $ peeks ! SeatRow (Is SeatRow) (shows 𝓛 SeatRow) x vss.0 (λ so.
        rewrite ! 0 (λ (ws : List Val). ‵ (SeatRow.own_val x ws)) (token_told R W vss.0 so.0) refl $ keep ! (0 ∷ []) $ done !))
