-- The latest places that are of a thread or fork it.
use Rattle.std.proofs.Common.{◌≡◌, ◌≢◌, ℕ, ◌+◌, ◌<◌, List, length, Option, Some, None, ◌⊎◌, inl, inr, refl, sym, ap, subst, ◌∙◌, arith}
use Rattle.std.specs.Prelude.{slice_get, slice_set}
use Rattle.std.proofs.Math.ListN.{length-set}
use Rattle.std.proofs.lemmas.Bool.{cases_eq}
use Rattle.trace_laws.specs.Event.{Event}
use Rattle.trace_laws.specs.declared.event.Op.{Op}
use Rattle.trace_laws.specs.declared.event.Op.TheVariants.{Read, Write, Acquire, Release, Fork, Join}
use Rattle.trace_laws.specs.Trace.{thread_at, op_at}
use Rattle.trace_laws.specs.Traces.{NamesBelow}
use Rattle.closed_fronts.specs.Needs.{IsThreadBefore}
use Rattle.closed_fronts.specs.Tables.{IsLatest, AreTips, with_fork, IsOwnBefore, IsJoinBefore}
use Rattle.closed_fronts.proofs.Told.{told_set, latest_under}

-- a forked thread is below the number of threads
pub fork_below : (o : Op) (threads u : ℕ) → NamesBelow o threads → o ≡ Fork u → u < threads
fork_below o threads u named is = subst (λ (k : Op). NamesBelow k threads) is named

-- so is a joined one
pub join_below : (o : Op) (threads u : ℕ) → NamesBelow o threads → o ≡ Join u → u < threads
join_below o threads u named is = subst (λ (k : Op). NamesBelow k threads) is named

-- a place with its thread and operation
module _ (events : List Event) (p t : ℕ) (op : Op) (own : thread_at events p ≡ Some t) (does : op_at events p ≡ Some op) where
  -- a thread that the place is not of and does not fork keeps its latest place
  tip_stays : (v : ℕ) (o : Option ℕ) → v ≢ t → (op ≡ Fork v → ⊥) → IsLatest (IsThreadBefore events v p) o → IsLatest (IsThreadBefore events v (p + 1)) o
  tip_stays v o other unforked latest = latest_under (IsThreadBefore events v p) (IsThreadBefore events v (p + 1)) o to from latest
    where
      to : (x : ℕ) → IsThreadBefore events v p x → IsThreadBefore events v (p + 1) x
      to x h = record { earlier = let e = h.earlier in omega arith; side = h.side }

      apart : (x : ℕ) → x ≡ p → (thread_at events x ≡ Some v) ⊎ (op_at events x ≡ Some (Fork v)) → ⊥
      apart x same (inl mine) = other (let h : thread_at events p ≡ Some v = subst (λ (k : ℕ). thread_at events k ≡ Some v) same mine in let e : v ≡ t = cc in e)
      apart x same (inr fork) = unforked (let h : op_at events p ≡ Some (Fork v) = subst (λ (k : ℕ). op_at events k ≡ Some (Fork v)) same fork in let e : op ≡ Fork v = cc in e)

      from : (x : ℕ) → IsThreadBefore events v (p + 1) x → IsThreadBefore events v p x
      from x h = record { earlier = go (cases_eq x p); side = h.side }
        where
          go : (x ≡ p) ⊎ (x ≢ p) → x < p
          go (inl same) = absurd (apart x same h.side)
          go (inr less) = let e = h.earlier in omega (arith, less)

  -- the place is the latest of its thread
  tip_own : IsLatest (IsThreadBefore events t (p + 1)) (Some p)
  tip_own = (record { earlier = omega arith; side = inl own }, λ x h. let e = h.earlier in omega arith)

  -- and of a thread that it forks
  tip_forked : (u : ℕ) → op ≡ Fork u → IsLatest (IsThreadBefore events u (p + 1)) (Some p)
  tip_forked u is = (record { earlier = omega arith; side = inr (does ∙ ap Some is) }, λ x h. let e = h.earlier in omega arith)

  -- the tips behind a place that forks nothing
  tips_plain : (threads : ℕ) (tips : List (Option ℕ)) → t < length tips → ((u : ℕ) → op ≡ Fork u → ⊥) → AreTips events threads p tips → AreTips events threads (p + 1) (slice_set tips t (Some p))
  tips_plain threads tips within unforked old = record {
    size = length-set tips t (Some p) ∙ old.size;
    latest = told_set (λ v o. IsLatest (IsThreadBefore events v p) o) (λ v o. IsLatest (IsThreadBefore events v (p + 1)) o) tips t (Some p) within old.latest (λ v o other h. tip_stays v o other (unforked v) h) tip_own;
  }

  -- and behind one that forks a thread
  tips_fork : (threads u : ℕ) (tips : List (Option ℕ)) → t < length tips → u < length tips → op ≡ Fork u → AreTips events threads p tips → AreTips events threads (p + 1) (slice_set (slice_set tips t (Some p)) u (Some p))
  tips_fork threads u tips within inside forks old = record {
    size = length-set (slice_set tips t (Some p)) u (Some p) ∙ length-set tips t (Some p) ∙ old.size;
    latest = told_set (λ v o. v ≢ u → IsLatest (IsThreadBefore events v (p + 1)) o) (λ v o. IsLatest (IsThreadBefore events v (p + 1)) o) (slice_set tips t (Some p)) u (Some p) (let size = length-set tips t (Some p) in omega arith)
        (told_set (λ v o. IsLatest (IsThreadBefore events v p) o) (λ v o. v ≢ u → IsLatest (IsThreadBefore events v (p + 1)) o) tips t (Some p) within old.latest (λ v o other h unlike. tip_stays v o other (λ is. unlike (let same : Fork v ≡ Fork u = sym is ∙ forks in let e : v ≡ u = cc in e)) h) (λ unlike. tip_own))
        (λ v o other h. h other) (tip_forked u forks);
  }

  -- the tips behind the place
  pub tips_next : (threads : ℕ) (tips : List (Option ℕ)) → t < length tips → NamesBelow op threads → AreTips events threads p tips → AreTips events threads (p + 1) (with_fork (slice_set tips t (Some p)) op p)
  tips_next threads tips within named old = go op refl
    where
      plain : ((u : ℕ) → op ≡ Fork u → ⊥) → AreTips events threads (p + 1) (slice_set tips t (Some p))
      plain unforked = tips_plain threads tips within unforked old

      go : (o : Op) → op ≡ o → AreTips events threads (p + 1) (with_fork (slice_set tips t (Some p)) o p)
      go (Fork u) is = tips_fork threads u tips within (let less = fork_below op threads u named is in let size = old.size in omega arith) is old
      go (Read x) is = plain (λ u fork. cc)
      go (Write x) is = plain (λ u fork. cc)
      go (Acquire l) is = plain (λ u fork. cc)
      go (Release l) is = plain (λ u fork. cc)
      go (Join u) is = plain (λ v fork. cc)

  -- the latest place of its own thread
  pub own_told : (o : Option ℕ) → IsLatest (IsThreadBefore events t p) o → IsLatest (IsOwnBefore events p) o
  own_told o latest = latest_under (IsThreadBefore events t p) (IsOwnBefore events p) o (λ x h. record { thread = t; is_of = own; before = h }) (λ x h. let mine = h.is_of in let same : h.thread ≡ t = cc in subst (λ (k : ℕ). IsThreadBefore events k p x) same h.before) latest

-- before the first place there is none
pub tips_none : (events : List Event) (threads : ℕ) (tips : List (Option ℕ)) → length tips ≡ threads → ((t : ℕ) (o : Option ℕ) → slice_get tips t ≡ Some o → o ≡ None) → AreTips events threads 0 tips
tips_none events threads tips size none = record { size = size; latest = λ t o at. subst (λ (x : Option ℕ). IsLatest (IsThreadBefore events t 0) x) (sym (none t o at)) (λ a h. let b = h.earlier in omega arith) }

-- the latest place of the thread that a place joins, where it joins one
pub joined_any : (events : List Event) (threads p : ℕ) (op : Op) (tips : List (Option ℕ)) (o : Option ℕ) → op_at events p ≡ Some op → AreTips events threads p tips → ((u : ℕ) → op ≡ Join u → slice_get tips u ≡ Some o) → (((u : ℕ) → op ≡ Join u → ⊥) → o ≡ None) → IsLatest (IsJoinBefore events p) o
joined_any events threads p op tips o does told some none = go op refl
  where
    unjoined : ((u : ℕ) → op ≡ Join u → ⊥) → IsLatest (IsJoinBefore events p) o
    unjoined no_join = subst (λ (k : Option ℕ). IsLatest (IsJoinBefore events p) k) (sym (none no_join)) (λ x h. no_join h.thread (let mine = h.joins in let same : op ≡ Join h.thread = cc in same))

    joined : (u : ℕ) → op ≡ Join u → IsLatest (IsJoinBefore events p) o
    joined u joins = latest_under (IsThreadBefore events u p) (IsJoinBefore events p) o (λ x h. record { thread = u; joins = does ∙ ap Some joins; before = h }) (λ x h. let mine = h.joins in let same : h.thread ≡ u = cc in subst (λ (k : ℕ). IsThreadBefore events k p x) same h.before) (told.latest u o (some u joins))

    go : (k : Op) → op ≡ k → IsLatest (IsJoinBefore events p) o
    go (Join u) is = joined u is
    go (Read x) is = unjoined (λ u join. cc)
    go (Write x) is = unjoined (λ u join. cc)
    go (Acquire l) is = unjoined (λ u join. cc)
    go (Release l) is = unjoined (λ u join. cc)
    go (Fork v) is = unjoined (λ u join. cc)
