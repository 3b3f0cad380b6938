-- Answers that are dealt out to workers and put together again.
use Rattle.std.proofs.Common.{◌≡◌, ◌≢◌, ℕ, suc, ◌+◌, ◌-◌, ◌*◌, ◌/◌, ◌%◌, ◌<◌, ◌≤◌, List, [], ◌∷◌, ◌++◌, length, get_or, map, Some, Ok, Err, IfOk, ◌⊎◌, inl, inr, refl, sym, ap, subst, ◌∙◌, arith, length-append}
use Rattle.std.specs.Prelude.{Vec, Result, slice_get, slice_set}
use Rattle.std.specs.Option.{option_map}
use Rattle.std.specs.Global.{Global}
use Rattle.std.specs.List.{ReversedBelow}
use Rattle.std.proofs.Math.ListN.{length-set}
use Rattle.std.proofs.Math.Nat.{suc-mul, mul-lt-mul_of_pos_right, lt_of_mul-lt-mul_right}
use Rattle.std.proofs.lemmas.Nat.{mod-mul-add, div-add-mod'}
use Rattle.std.proofs.lemmas.Bool.{cases_eq, cases_lt}
use Rattle.std.proofs.lemmas.Option.{slice_get_within, slice_get-get_or, slice_get-map, get_or_from_slice_get}
use Rattle.std.proofs.lemmas.List.{length-map}
use Rattle.sp_base.proofs.Items.{get_set, get_push, get_front, get_last}
use Rattle.shard_pool.specs.Shares.{AreAnswers, IsShare, AreShares}

module _ {A : Type 0} where
  -- one answer more
  pub answers_push : (answers : ℕ → A → Type 0) (xs : List A) (x : A) → AreAnswers answers xs → answers (length xs) x → AreAnswers answers (xs ++ x ∷ [])
  answers_push answers xs x before new k y at =
      elim (get_push xs x y k at) [
        | inl else ↦ before k y else
        | inr here ↦ subst (λ (z : ℕ × A). answers z.0 z.1) (λ i. (sym here.0 i, here.1 i)) new
      ]

  -- answers from the last number to the first are answers once they are reversed
  pub answers_reversed : (answers : ℕ → A → Type 0) (limit : ℕ) (xs ys : List A) → length xs ≡ limit → length ys ≡ limit → ReversedBelow xs ys limit → AreAnswers (λ k. answers (limit - 1 - k)) xs → AreAnswers answers ys
  answers_reversed answers limit xs ys many same turned each k y at =
      let less = slice_get_within ys k y at in
      let back : limit - 1 - k < length xs = omega arith in
      let read : get_or xs (limit - 1 - k) y ≡ y = sym (turned k y (omega arith)) ∙ get_or_from_slice_get ys k y y at in
      let there : slice_get xs (limit - 1 - k) ≡ Some y = slice_get-get_or xs (limit - 1 - k) y back ∙ ap Some read in
      let number : limit - 1 - (limit - 1 - k) ≡ k = omega arith in
      subst (λ n. answers n y) number (each (limit - 1 - k) y there)

  module _ (answers : ℕ → A → Type 0) (workers : ℕ) where
    -- the next number is that of the next turn, or there is none
    pub record IsDealt (limit worker number : ℕ) (share : List A) : Type 0 where
      pub next : number < limit → number ≡ length share * workers + worker
      pub most : number ≤ length share * workers + worker
      pub within : (turn : ℕ) → turn < length share → turn * workers + worker < limit
      pub each : AreAnswers (λ turn. answers (turn * workers + worker)) share

    -- after one turn more
    pub dealt_more : (limit worker number after : ℕ) (share : List A) (answer : A) → number < limit → after ≤ number + workers → (after < limit → after ≡ number + workers) → answers number answer → IsDealt limit worker number share → IsDealt limit worker after (share ++ answer ∷ [])
    dealt_more limit worker number after share answer less up step new dealt = record {
      next = next;
      most = most;
      within = within;
      each = answers_push (λ turn. answers (turn * workers + worker)) share answer dealt.each (subst (λ n. answers n answer) here new);
    }
      where
        here : number ≡ length share * workers + worker
        here = dealt.next less

        long : length (share ++ answer ∷ []) ≡ suc (length share)
        long = length-append share (answer ∷ []) ∙ omega arith

        whole : length (share ++ answer ∷ []) * workers ≡ length share * workers + workers
        whole = ap (λ n. n * workers) long ∙ suc-mul (length share) workers

        most : after ≤ length (share ++ answer ∷ []) * workers + worker
        most = let all = whole in let at = here in omega arith

        next : after < limit → after ≡ length (share ++ answer ∷ []) * workers + worker
        next below = let all = whole in let at = here in let same = step below in omega arith

        within : (turn : ℕ) → turn < length (share ++ answer ∷ []) → turn * workers + worker < limit
        within turn before = go (cases_eq turn (length share))
          where
            go : (turn ≡ length share) ⊎ (turn ≢ length share) → turn * workers + worker < limit
            go (inl same) = let at = here in let row = ap (λ n. n * workers) same in omega arith
            go (inr other) = let size = long in dealt.within turn (omega (arith, other))

    -- what all workers answered are their shares
    pub shares_done : {E : Type 0} (limit : ℕ) (done : List (Result (Vec A Global) E)) (shares : List (Vec A Global)) → length done ≡ workers → map Ok shares ≡ done
        → ((worker : ℕ) (d : Result (Vec A Global) E) → worker < workers → IfOk (get_or done worker d) (λ share. IsShare answers workers limit worker share.items))
        → AreShares answers workers limit shares
    shares_done {E} limit done shares size are each = record {
      many = sym (length-map shares ok) ∙ ap length are ∙ size;
      each = λ worker share at.
          let read : slice_get done worker ≡ Some (ok share) = subst (λ (rs : List (Result (Vec A Global) E)). slice_get rs worker ≡ Some (ok share)) are (slice_get-map ok shares worker ∙ ap (option_map ok) at) in
          let stands = slice_get_within done worker (ok share) read in
          subst (λ (r : Result (Vec A Global) E). IfOk r (λ share. IsShare answers workers limit worker share.items)) (get_or_from_slice_get done worker (ok share) (ok share) read) (each worker (ok share) (omega arith));
    }
      where
        ok : Vec A Global → Result (Vec A Global) E
        ok share = Ok share

    -- where none of them is an error
    pub shares_result : {E F : Type 0} (limit : ℕ) (done : List (Result (Vec A Global) E)) (result : Result (Vec (Vec A Global) Global) F) → length done ≡ workers
        → ((worker : ℕ) (d : Result (Vec A Global) E) → worker < workers → IfOk (get_or done worker d) (λ share. IsShare answers workers limit worker share.items))
        → IfOk result (λ shares. map Ok shares.items ≡ done) → IfOk result (λ shares. AreShares answers workers limit shares.items)
    shares_result limit done (Ok shares) size each are = shares_done limit done shares.items size are each
    shares_result limit done (Err fault) size each are = tt

    module _ (limit : ℕ) (shares : List (Vec A Global)) (all : AreShares answers workers (limit + 1) shares) (some : 0 < workers) where
      -- the last number stands behind the whole turns before it
      last_number : limit / workers * workers + limit % workers ≡ limit
      last_number = div-add-mod' limit workers

      -- the share with the last number has so many turns
      last_turn : (share : List A) → IsShare answers workers (limit + 1) (limit % workers) share → length share ≡ limit / workers + 1
      last_turn share own =
          let here = last_number in
          let reached = (own.many (limit / workers)).1 (omega arith) in
          let most = few (cases_lt (limit / workers + 1) (length share)) in
          omega arith
        where
          few : (limit / workers + 1 < length share) ⊎ (length share ≤ limit / workers + 1) → length share ≤ limit / workers + 1
          few (inl more) =
              let here = last_number in
              let over = (own.many (suc (limit / workers))).0 (omega arith) in
              let whole = suc-mul (limit / workers) workers in
              absurd (omega arith)
          few (inr less) = less

      -- that share, without its last answer
      module _ (rest : List A) (answer : A) (own : IsShare answers workers (limit + 1) (limit % workers) (rest ++ answer ∷ [])) where
        -- its turns are the whole turns before the last number
        turns : length rest ≡ limit / workers
        turns = let long = last_turn (rest ++ answer ∷ []) own in let split = length-append rest (answer ∷ []) in let one : length (answer ∷ []) ≡ 1 = refl in omega arith

        -- it is a share of the numbers before
        shorter : IsShare answers workers limit (limit % workers) rest
        shorter = record {
          many = λ turn. (before turn, after turn);
          each = λ turn x at. own.each turn x (get_front rest answer x turn at);
        }
          where
            before : (turn : ℕ) → turn < length rest → turn * workers + limit % workers < limit
            before turn less =
                let size = turns in
                let here = last_number in
                let rows : turn * workers < limit / workers * workers = mul-lt-mul_of_pos_right (omega arith) some in
                omega arith

            after : (turn : ℕ) → turn * workers + limit % workers < limit → turn < length rest
            after turn less =
                let size = turns in
                let here = last_number in
                let within : turn < limit / workers = lt_of_mul-lt-mul_right workers (omega arith) in
                omega arith

        -- its last answer answers the last number
        last : answers limit answer
        last =
            let there : slice_get (rest ++ answer ∷ []) (limit / workers) ≡ Some answer = subst (λ n. slice_get (rest ++ answer ∷ []) n ≡ Some answer) turns (get_last rest answer) in
            subst (λ n. answers n answer) last_number (own.each (limit / workers) answer there)

      -- another share is a share of the numbers before
      stays : (worker : ℕ) (share : List A) → worker < workers → worker ≢ limit % workers → IsShare answers workers (limit + 1) worker share → IsShare answers workers limit worker share
      stays worker share within other own = record {
        many = λ turn. ((λ less. let below = (own.many turn).0 less in omega (arith, apart turn)), (λ less. (own.many turn).1 (omega arith)));
        each = own.each;
      }
        where
          apart : (turn : ℕ) → turn * workers + worker ≢ limit
          apart turn same = other (sym (mod-mul-add turn workers worker within) ∙ ap (λ n. n % workers) same)

      -- the last answer of the share with the last number answers that number
      pub last_answer : (share : Vec A Global) (rest : List A) (answer : A) → slice_get shares (limit % workers) ≡ Some share → share.items ≡ rest ++ answer ∷ [] → answers limit answer
      last_answer share rest answer at parts =
          last rest answer (subst (IsShare answers workers (limit + 1) (limit % workers)) parts (all.each (limit % workers) share at))

      -- without that answer they are the shares of the numbers before
      pub shares_before : (share rest : Vec A Global) (answer : A) → slice_get shares (limit % workers) ≡ Some share → share.items ≡ rest.items ++ answer ∷ [] → AreShares answers workers limit (slice_set shares (limit % workers) rest)
      shares_before share rest answer at parts = record {
        many = length-set shares (limit % workers) rest ∙ all.many;
        each = λ worker v at_v. go worker v (get_set shares (limit % workers) worker rest v at_v);
      }
        where
          own : IsShare answers workers (limit + 1) (limit % workers) (rest.items ++ answer ∷ [])
          own = subst (IsShare answers workers (limit + 1) (limit % workers)) parts (all.each (limit % workers) share at)

          go : (worker : ℕ) (v : Vec A Global) → ((worker ≡ limit % workers) × (rest ≡ v)) ⊎ ((worker ≢ limit % workers) × (slice_get shares worker ≡ Some v)) → IsShare answers workers limit worker v.items
          go worker v (inl here) = subst (λ (z : ℕ × Vec A Global). IsShare answers workers limit z.0 z.1.items) (λ i. (sym here.0 i, here.1 i)) (shorter rest.items answer own)
          go worker v (inr there) =
              let size = all.many in
              let stands = slice_get_within shares worker v there.1 in
              stays worker v.items (omega arith) there.0 (all.each worker v there.1)
