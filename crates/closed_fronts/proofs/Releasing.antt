-- Noting the releases of acquires.
use Rattle.std.proofs.Common.{◌≡◌, ◌≢◌, ℕ, ◌+◌, ◌<◌, ◌≤◌, List, length, replicate, Option, Some, None, ◌⊎◌, inl, inr, refl, sym, ap, subst, ◌∙◌, arith}
use Rattle.std.specs.Prelude.{slice_get, slice_set, ◌↔◌}
use Rattle.std.proofs.Math.ListN.{length-set}
use Rattle.std.proofs.lemmas.Bool.{cases_eq}
use Rattle.std.proofs.lemmas.List.{length-replicate}
use Rattle.std.proofs.lemmas.Option.{slice_get_within}
use Rattle.sp_base.specs.declared.limits.TheConstants.{MAX_LOCKS}
use Rattle.trace_laws.specs.Event.{Event}
use Rattle.trace_laws.specs.declared.event.Op.{Op}
use Rattle.trace_laws.specs.declared.event.Op.TheVariants.{Acquire, Release}
use Rattle.trace_laws.specs.Trace.{thread_at, op_at, Acquires, Releases, Holds, LockLaw, Lawful, IsReleaseOf}
use Rattle.trace_laws.proofs.Places.{three_way, event_of, op_from_event, thread_from_event, within_from_op}
use Rattle.trace_laws.proofs.Growing.{one_holder, slice_get-set_same, slice_get-set_other}
use Rattle.closed_fronts.proofs.Filled.{all_none}
use Rattle.closed_fronts.specs.Sections.{IsHeldSince, IsHeldOrFree, AreReleases}

-- before the first place nothing is held or released
pub releases_none : (events : List Event) (held releases : List (Option ℕ)) (n : ℕ) → held ≡ replicate MAX_LOCKS None → releases ≡ replicate n None → n ≡ length events → AreReleases events 0 held releases
releases_none events held releases n is_held is_releases size = record {
  locks = ap length is_held ∙ length-replicate {A = Option ℕ} MAX_LOCKS None;
  places = ap length is_releases ∙ length-replicate {A = Option ℕ} n None ∙ size;
  holding = λ l o at. subst (IsHeldOrFree events 0 l) (sym (all_none held MAX_LOCKS is_held l o at)) (λ t holds. let before = holds.before in omega arith);
  released = λ a l o less op at r. absurd (omega arith);
  rest = λ a o past at. all_none releases n is_releases a o at;
}

-- an acquire has one release at most
pub release_one : (events : List Event) (a q r : ℕ) → IsReleaseOf events a q → IsReleaseOf events a r → q ≡ r
release_one events a q r h k = go (three_way q r)
  where
    same_thread : h.thread ≡ k.thread
    same_thread = let x = h.acquires.thread in let y = k.acquires.thread in cc

    same_lock : h.lock ≡ k.lock
    same_lock = let x = h.acquires.op in let y = k.acquires.op in cc

    k_releases : Releases events r h.thread h.lock
    k_releases = let t = same_thread in let l = same_lock in let x = k.releases.thread in let y = k.releases.op in record { thread = cc; op = cc }

    h_releases : Releases events q k.thread k.lock
    h_releases = let t = same_thread in let l = same_lock in let x = h.releases.thread in let y = h.releases.op in record { thread = cc; op = cc }

    go : (q < r) ⊎ ((q ≡ r) ⊎ (r < q)) → q ≡ r
    go (inl less) = absurd (k.first q h_releases h.later less)
    go (inr (inl same)) = same
    go (inr (inr more)) = absurd (h.first r k_releases k.later more)

-- a lock that a place does not release stays held, since the same acquire
held_on : (events : List Event) (n l a : ℕ) → (op_at events n ≡ Some (Release l) → ⊥) → IsHeldSince events n l a → IsHeldSince events (n + 1) l a
held_on events n l a other h = record {
  thread = h.thread;
  holds = record { since = h.holds.since; acquired = h.holds.acquired; before = let before = h.holds.before in omega arith; kept = λ r releases after until. go r releases after until (cases_eq r n) };
  since = h.since;
}
  where
    go : (r : ℕ) → Releases events r h.thread l → h.holds.since < r → r < n + 1 → (r ≡ n) ⊎ (r ≢ n) → ⊥
    go r releases after until (inl same) = other (subst (λ (k : ℕ). op_at events k ≡ Some (Release l)) same releases.op)
    go r releases after until (inr less) = h.holds.kept r releases after (omega (arith, less))

-- a lock that is held behind a place that does not acquire it was acquired before the place
held_since_before : (events : List Event) (n t l : ℕ) → (op_at events n ≡ Some (Acquire l) → ⊥) → (h : Holds events ◌<◌ (n + 1) t l) → h.since < n
held_since_before events n t l other h = go (cases_eq h.since n)
  where
    go : (h.since ≡ n) ⊎ (h.since ≢ n) → h.since < n
    go (inl same) = absurd (other (subst (λ (k : ℕ). op_at events k ≡ Some (Acquire l)) same h.acquired.op))
    go (inr less) = let before = h.before in omega (arith, less)

-- and was held before it
held_before : (events : List Event) (n t l : ℕ) → (op_at events n ≡ Some (Acquire l) → ⊥) → Holds events ◌<◌ (n + 1) t l → Holds events ◌<◌ n t l
held_before events n t l other h = record {
  since = h.since;
  acquired = h.acquired;
  before = held_since_before events n t l other h;
  kept = λ r releases after until. h.kept r releases after (omega arith);
}

-- in a lawful trace a lock is held since one acquire
since_one : (events : List Event) → Lawful events → (n t u l : ℕ) (h : Holds events ◌<◌ n t l) (k : Holds events ◌<◌ n u l) → h.since ≡ k.since
since_one events lawful n t u l h k = go (three_way h.since k.since)
  where
    no_later : (v w : ℕ) (first : Holds events ◌<◌ n v l) (second : Holds events ◌<◌ n w l) → first.since < second.since → ⊥
    no_later v w first second less =
        let found = event_of events second.since (Acquire l) second.acquired.op in
        let law : LockLaw events ◌<◌ second.since found.0.thread (Acquire l) = subst (λ (o : Op). LockLaw events ◌<◌ second.since found.0.thread o) found.2 (lawful second.since found.0 found.1).locks in
        law v (record { since = first.since; acquired = first.acquired; before = less; kept = λ r releases after until. let end : second.since < n = second.before in first.kept r releases after (omega arith) })

    go : (h.since < k.since) ⊎ ((h.since ≡ k.since) ⊎ (k.since < h.since)) → h.since ≡ k.since
    go (inl less) = absurd (no_later t u h k less)
    go (inr (inl same)) = same
    go (inr (inr more)) = absurd (no_later u t k h more)

-- the releases before place n of a lawful trace
module _ (events : List Event) (lawful : Lawful events) (n : ℕ) (held releases : List (Option ℕ)) (old : AreReleases events n held releases) where
  -- what is held or free stays so where the place neither acquires nor releases the lock
  stays : (l : ℕ) (o : Option ℕ) → (op_at events n ≡ Some (Acquire l) → ⊥) → (op_at events n ≡ Some (Release l) → ⊥) → IsHeldOrFree events n l o → IsHeldOrFree events (n + 1) l o
  stays l None no_acquire no_release free = λ t holds. free t (held_before events n t l no_acquire holds)
  stays l (Some a) no_acquire no_release since = held_on events n l a no_release since

  -- where the place releases nothing, the releases stay
  released_on : ((l : ℕ) → op_at events n ≡ Some (Release l) → ⊥) → (a l : ℕ) (o : Option ℕ) → a < n + 1 → op_at events a ≡ Some (Acquire l) → slice_get releases a ≡ Some o → (r : ℕ) → (o ≡ Some r) ↔ ((r < n + 1) × IsReleaseOf events a r)
  released_on no_release a l o less op at r = go (cases_eq a n)
    where
      before : a < n → (r < n + 1) × IsReleaseOf events a r → (r ≡ n) ⊎ (r ≢ n) → o ≡ Some r
      before prior h (inl same) = absurd (no_release h.1.lock (subst (λ (k : ℕ). op_at events k ≡ Some (Release h.1.lock)) same h.1.releases.op))
      before prior h (inr other) = (old.released a l o prior op at r).1 (let within = h.0 in omega (arith, other), h.1)

      go : (a ≡ n) ⊎ (a ≢ n) → (o ≡ Some r) ↔ ((r < n + 1) × IsReleaseOf events a r)
      go (inl same) = (λ is. let none = old.rest a o (omega arith) at in cc, λ h. let within = h.0 in let later = h.1.later in absurd (omega arith))
      go (inr other) = (λ is. let known = (old.released a l o (omega (arith, other)) op at r).0 is in (let within = known.0 in omega arith, known.1), λ h. before (omega (arith, other)) h (cases_eq r n))

  -- a place that neither acquires nor releases changes nothing
  pub sections_stay : ((l : ℕ) → op_at events n ≡ Some (Acquire l) → ⊥) → ((l : ℕ) → op_at events n ≡ Some (Release l) → ⊥) → AreReleases events (n + 1) held releases
  sections_stay no_acquire no_release = record {
    locks = old.locks;
    places = old.places;
    holding = λ l o at. stays l o (no_acquire l) (no_release l) (old.holding l o at);
    released = released_on no_release;
    rest = λ a o past at. old.rest a o (omega arith) at;
  }

  -- an acquire opens a section
  pub section_opens : (t l : ℕ) → Acquires events n t l → l < length held → AreReleases events (n + 1) (slice_set held l (Some n)) releases
  section_opens t l acquires within = record {
    locks = length-set held l (Some n) ∙ old.locks;
    places = old.places;
    holding = λ k o at. holding k o at (cases_eq k l);
    released = released_on (λ k op. let own = acquires.op in cc);
    rest = λ a o past at. old.rest a o (omega arith) at;
  }
    where
      here : IsHeldSince events (n + 1) l n
      here = record {
        thread = t;
        holds = record { since = n; acquired = acquires; before = omega arith; kept = λ r releases after until. omega arith };
        since = refl;
      }

      holding : (k : ℕ) (o : Option ℕ) → slice_get (slice_set held l (Some n)) k ≡ Some o → (k ≡ l) ⊎ (k ≢ l) → IsHeldOrFree events (n + 1) k o
      holding k o at (inl same) =
          let now : slice_get (slice_set held l (Some n)) l ≡ Some (Some n) = slice_get-set_same held l (Some n) within in
          let there : slice_get (slice_set held l (Some n)) l ≡ Some o = subst (λ (i : ℕ). slice_get (slice_set held l (Some n)) i ≡ Some o) same at in
          let is : Some n ≡ o = cc in
          subst (λ (i : ℕ). IsHeldOrFree events (n + 1) i o) (sym same) (subst (IsHeldOrFree events (n + 1) l) is here)
      holding k o at (inr other) = stays k o (λ op. other (let own = acquires.op in let same : k ≡ l = cc in same)) (λ op. let own = acquires.op in cc) (old.holding k o (sym (slice_get-set_other held l k (Some n) other) ∙ at))

  -- a release is of a lock that its thread holds
  released_holds : (t l : ℕ) → Releases events n t l → Holds events ◌<◌ n t l
  released_holds t l releases =
      let found = event_of events n (Release l) releases.op in
      let law : LockLaw events ◌<◌ n found.0.thread (Release l) = subst (λ (o : Op). LockLaw events ◌<◌ n found.0.thread o) found.2 (lawful n found.0 found.1).locks in
      let own = releases.thread in
      let event = thread_from_event events n found.0 found.1 in
      let same : found.0.thread ≡ t = cc in
      subst (λ (u : ℕ). Holds events ◌<◌ n u l) same law

  -- so its section is open
  pub section_is_open : (t l : ℕ) → Releases events n t l → slice_get held l ≡ Some None → ⊥
  section_is_open t l releases at = old.holding l None at t (released_holds t l releases)

  -- a release ends the section
  pub section_ends : (t l a : ℕ) → Releases events n t l → slice_get held l ≡ Some (Some a) → AreReleases events (n + 1) (slice_set held l None) (slice_set releases a (Some n))
  section_ends t l a releasing at_lock = record {
    locks = length-set held l None ∙ old.locks;
    places = length-set releases a (Some n) ∙ old.places;
    holding = λ k o at. holding k o at (cases_eq k l);
    released = λ b k o less op at r. released b k o less op at r (cases_eq b a);
    rest = λ b o past at. old.rest b o (omega arith) (sym (slice_get-set_other releases a b (Some n) (λ same. let less = opened_before in omega arith)) ∙ at);
  }
    where
      own : Holds events ◌<◌ n t l
      own = released_holds t l releasing

      since : IsHeldSince events n l a
      since = old.holding l (Some a) at_lock

      own_since : own.since ≡ a
      own_since = since_one events lawful n t since.thread l own since.holds ∙ since.since

      opened_before : a < n
      opened_before = let before = own.before in let same = own_since in omega arith

      -- the place is the release of the acquire
      ends : IsReleaseOf events a n
      ends = subst (λ (k : ℕ). IsReleaseOf events k n) own_since (record {
        thread = t;
        lock = l;
        acquires = own.acquired;
        releases = releasing;
        later = own.before;
        first = λ q releases after until. own.kept q releases after until;
      })

      -- and of no other
      ends_one : (b : ℕ) → IsReleaseOf events b n → b ≡ a
      ends_one b h =
          let x = h.releases.thread in
          let y = releasing.thread in
          let v = h.releases.op in
          let w = releasing.op in
          let same_thread : h.thread ≡ t = cc in
          let same_lock : h.lock ≡ l = cc in
          go h.thread same_thread h.lock same_lock h.acquires h.later (λ q releases after until. h.first q releases after until)
        where
          go : (u : ℕ) → u ≡ t → (k : ℕ) → k ≡ l → Acquires events b u k → b < n → ((q : ℕ) → Releases events q u k → b < q → q < n → ⊥) → b ≡ a
          go u is_thread k is_lock acquires before first =
              let acquired : Acquires events b t l = record { thread = subst (λ (v : ℕ). thread_at events b ≡ Some v) is_thread acquires.thread; op = subst (λ (v : ℕ). op_at events b ≡ Some (Acquire v)) is_lock acquires.op } in
              let kept : (q : ℕ) → Releases events q t l → b < q → q < n → ⊥ = λ q releases after until. first q (record { thread = subst (λ (v : ℕ). thread_at events q ≡ Some v) (sym is_thread) releases.thread; op = subst (λ (v : ℕ). op_at events q ≡ Some (Release v)) (sym is_lock) releases.op }) after until in
              since_one events lawful n t since.thread l (record { since = b; acquired = acquired; before = before; kept = kept }) since.holds ∙ since.since

      -- the lock is free behind it
      freed : (u : ℕ) → Holds events ◌<◌ (n + 1) u l → ⊥
      freed u holds =
          let no_acquire : op_at events n ≡ Some (Acquire l) → ⊥ = λ op. let release = releasing.op in cc in
          let same : u ≡ t = one_holder events lawful n u t l (held_before events n u l no_acquire holds) own in
          holds.kept n (record { thread = subst (λ (v : ℕ). thread_at events n ≡ Some v) (sym same) releasing.thread; op = releasing.op }) (held_since_before events n u l no_acquire holds) (omega arith)

      holding : (k : ℕ) (o : Option ℕ) → slice_get (slice_set held l None) k ≡ Some o → (k ≡ l) ⊎ (k ≢ l) → IsHeldOrFree events (n + 1) k o
      holding k o at (inl same) =
          let now : slice_get (slice_set held l None) l ≡ Some None = slice_get-set_same held l None (slice_get_within held l (Some a) at_lock) in
          let there : slice_get (slice_set held l None) l ≡ Some o = subst (λ (i : ℕ). slice_get (slice_set held l None) i ≡ Some o) same at in
          let is : None ≡ o = cc in
          subst (λ (i : ℕ). IsHeldOrFree events (n + 1) i o) (sym same) (subst (IsHeldOrFree events (n + 1) l) is freed)
      holding k o at (inr other) = stays k o (λ op. let release = releasing.op in cc) (λ op. other (let release = releasing.op in let same : k ≡ l = cc in same)) (old.holding k o (sym (slice_get-set_other held l k None other) ∙ at))

      released : (b k : ℕ) (o : Option ℕ) → b < n + 1 → op_at events b ≡ Some (Acquire k) → slice_get (slice_set releases a (Some n)) b ≡ Some o → (r : ℕ) → (b ≡ a) ⊎ (b ≢ a) → (o ≡ Some r) ↔ ((r < n + 1) × IsReleaseOf events b r)
      released b k o less op at r (inl same) =
          let within : a < length releases = (let before = opened_before in let all = within_from_op events n (Release l) releasing.op in let size = old.places in omega arith) in
          let now : slice_get (slice_set releases a (Some n)) a ≡ Some (Some n) = slice_get-set_same releases a (Some n) within in
          let there : slice_get (slice_set releases a (Some n)) a ≡ Some o = subst (λ (i : ℕ). slice_get (slice_set releases a (Some n)) i ≡ Some o) same at in
          let is : Some n ≡ o = cc in
          subst (λ (i : ℕ). (o ≡ Some r) ↔ ((r < n + 1) × IsReleaseOf events i r)) (sym same)
          (λ h. let place : n ≡ r = cc in subst (λ (i : ℕ). (i < n + 1) × IsReleaseOf events a i) place (omega arith, ends), λ h. sym is ∙ ap Some (release_one events a n r ends h.1))
      released b k o less op at r (inr other) =
          let there : slice_get releases b ≡ Some o = sym (slice_get-set_other releases a b (Some n) other) ∙ at in
          let before : b < n = go (cases_eq b n) in
          (λ is. let known = (old.released b k o before op there r).0 is in (let within = known.0 in omega arith, known.1), λ h. back before there h (cases_eq r n))
        where
          go : (b ≡ n) ⊎ (b ≢ n) → b < n
          go (inl same) = absurd (let release = releasing.op in let own_op : op_at events n ≡ Some (Acquire k) = subst (λ (i : ℕ). op_at events i ≡ Some (Acquire k)) same op in cc)
          go (inr place) = omega (arith, place)

          back : b < n → slice_get releases b ≡ Some o → (r < n + 1) × IsReleaseOf events b r → (r ≡ n) ⊎ (r ≢ n) → o ≡ Some r
          back before there h (inl same) = absurd (other (ends_one b (subst (IsReleaseOf events b) same h.1)))
          back before there h (inr place) = (old.released b k o before op there r).1 (let within = h.0 in omega (arith, place), h.1)

-- the releases before the end of the trace are all
pub all_released : (events : List Event) (n : ℕ) (held releases : List (Option ℕ)) → AreReleases events n held releases → length events ≤ n → (a l : ℕ) (o : Option ℕ) → op_at events a ≡ Some (Acquire l) → slice_get releases a ≡ Some o → (r : ℕ) → (o ≡ Some r) ↔ IsReleaseOf events a r
all_released events n held releases old all a l o op at r =
    let within = within_from_op events a (Acquire l) op in
    let known = old.released a l o (omega arith) op at r in
    (λ is. (known.0 is).1, λ h. known.1 (let place = within_from_op events r (Release h.lock) h.releases.op in omega arith, h))

-- a place whose event releases a lock
pub releases_from_event : (events : List Event) (p l : ℕ) (e : Event) → slice_get events p ≡ Some e → e.op ≡ Release l → Releases events p e.thread l
releases_from_event events p l e at op = record { thread = thread_from_event events p e at; op = op_from_event events p e at ∙ ap Some op }
