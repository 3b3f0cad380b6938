-- Places that are grouped by thread.
use Rattle.std.proofs.Common.{◌≡◌, ◌≢◌, ℕ, zero, suc, ◌+◌, ◌<◌, ◌≤◌, List, [], ◌∷◌, ◌++◌, length, Some, ◌⊎◌, inl, inr, refl, sym, ap, subst, ◌∙◌, arith, length-append}
use Rattle.std.specs.Prelude.{slice_get, slice_set}
use Rattle.std.proofs.lemmas.Bool.{cases_eq}
use Rattle.std.proofs.lemmas.Option.{slice_get_within}
use Rattle.trace_laws.specs.Event.{Event}
use Rattle.trace_laws.specs.Trace.{thread_at}
use Rattle.trace_laws.specs.Reordering.{Rises}
use Rattle.trace_laws.proofs.Places.{three_way, index_of, slice_get-append_left, slice_get-append_seam}
use Rattle.trace_laws.proofs.Growing.{slice_get-set_same, slice_get-set_other}
use Rattle.trace_laws.proofs.Enabling.{Rises-push}
use Rattle.trace_index.specs.Accessed.{AreAccesses}
use Rattle.race_scan.specs.declared.groups.Group.{Group}
use Rattle.race_scan.specs.Grouped.{IsGroup, AreOfThreads, HasPlace, AreGroups, AreGroupsUpTo, IsLonger, IsNoted}

-- an entry of a list with one more is an old one or the last
pub pushed_cases : {A : Type 0} (xs : List A) (x : A) (k : ℕ) (y : A) → slice_get (xs ++ x ∷ []) k ≡ Some y → (slice_get xs k ≡ Some y) ⊎ ((k ≡ length xs) × (x ≡ y))
pushed_cases {A} xs x k y at = go (three_way k (length xs))
  where
    go : (k < length xs) ⊎ ((k ≡ length xs) ⊎ (length xs < k)) → (slice_get xs k ≡ Some y) ⊎ ((k ≡ length xs) × (x ≡ y))
    go (inl less) = inl (sym (slice_get-append_left xs (x ∷ []) k less) ∙ at)
    go (inr (inl same)) =
        let seam = slice_get-append_seam xs x in
        let there : slice_get (xs ++ x ∷ []) (length xs) ≡ Some y = subst (λ (i : ℕ). slice_get (xs ++ x ∷ []) i ≡ Some y) same at in
        inr (same, cc)
    go (inr (inr more)) = let within = slice_get_within (xs ++ x ∷ []) k y at in let size = length-append xs (x ∷ []) in absurd (omega arith)

-- an old entry stays
pub pushed_kept : {A : Type 0} (xs : List A) (x : A) (k : ℕ) (y : A) → slice_get xs k ≡ Some y → slice_get (xs ++ x ∷ []) k ≡ Some y
pushed_kept {A} xs x k y at = slice_get-append_left xs (x ∷ []) k (slice_get_within xs k y at) ∙ at

-- a group that gets a later place of its thread
longer_group : (events : List Event) (g h : Group) (place : ℕ) → IsGroup events g → IsLonger g place h → thread_at events place ≡ Some g.thread → ((k e : ℕ) → slice_get g.places.items k ≡ Some e → e < place) → IsGroup events h
longer_group events g h place old longer is below = record {
  order = subst (λ (xs : List ℕ). Rises xs) (sym longer.places) (Rises-push g.places.items place old.order (λ i m. let at = index_of g.places.items i m in below at.0 i at.1));
  of_thread = λ k e at. of k e (pushed_cases g.places.items place k e (subst (λ (xs : List ℕ). slice_get xs k ≡ Some e) longer.places at));
}
  where
    of : (k e : ℕ) → (slice_get g.places.items k ≡ Some e) ⊎ ((k ≡ length g.places.items) × (place ≡ e)) → thread_at events e ≡ Some h.thread
    of k e (inl there) = old.of_thread k e there ∙ ap Some (sym longer.thread)
    of k e (inr here) = subst (λ (p : ℕ). thread_at events p ≡ Some g.thread) here.1 is ∙ ap Some (sym longer.thread)

-- what noting a place does, of whatever kind
record Gets (events : List Event) (old : List Group) (place : ℕ) (new : List Group) : Type 0 where
  each : AreOfThreads events new
  cases : (e : ℕ) → HasPlace new e → HasPlace old e ⊎ (place ≡ e)
  keeps : (e : ℕ) → HasPlace old e → HasPlace new e
  gets : HasPlace new place

-- a group is longer
gets_longer : (events : List Event) (old : List Group) (thread place i : ℕ) (g h : Group) → AreOfThreads events old → thread_at events place ≡ Some thread → ((e : ℕ) → HasPlace old e → e < place) → slice_get old i ≡ Some g → g.thread ≡ thread → IsLonger g place h → Gets events old place (slice_set old i h)
gets_longer events old thread place i g h each is below at same longer = record { each = each_new; cases = cases_new; keeps = keeps_new; gets = gets_new }
  where
    within : i < length old
    within = slice_get_within old i g at

    now : slice_get (slice_set old i h) i ≡ Some h
    now = slice_get-set_same old i h within

    group : IsGroup events h
    group = longer_group events g h place (each i g at) longer (is ∙ ap Some (sym same)) (λ k e there. below e (record { group = i; member = g; at = at; index = k; is = there }))

    each_new : AreOfThreads events (slice_set old i h)
    each_new j m there = go (cases_eq j i)
      where
        go : (j ≡ i) ⊎ (j ≢ i) → IsGroup events m
        go (inl equal) =
            let here : slice_get (slice_set old i h) i ≡ Some m = subst (λ (p : ℕ). slice_get (slice_set old i h) p ≡ Some m) equal there in
            let n = now in
            let one : h ≡ m = cc in
            subst (IsGroup events) one group
        go (inr other) = each j m (sym (slice_get-set_other old i j h other) ∙ there)

    cases_new : (e : ℕ) → HasPlace (slice_set old i h) e → HasPlace old e ⊎ (place ≡ e)
    cases_new e p = go (cases_eq p.group i)
      where
        side : (slice_get g.places.items p.index ≡ Some e) ⊎ ((p.index ≡ length g.places.items) × (place ≡ e)) → HasPlace old e ⊎ (place ≡ e)
        side (inl there) = inl (record { group = i; member = g; at = at; index = p.index; is = there })
        side (inr here) = inr here.1

        go : (p.group ≡ i) ⊎ (p.group ≢ i) → HasPlace old e ⊎ (place ≡ e)
        go (inl equal) =
            let here : slice_get (slice_set old i h) i ≡ Some p.member = subst (λ (q : ℕ). slice_get (slice_set old i h) q ≡ Some p.member) equal p.at in
            let n = now in
            let one : p.member ≡ h = cc in
            side (pushed_cases g.places.items place p.index e (subst (λ (xs : List ℕ). slice_get xs p.index ≡ Some e) longer.places (subst (λ (m : Group). slice_get m.places.items p.index ≡ Some e) one p.is)))
        go (inr other) = inl (record { group = p.group; member = p.member; at = sym (slice_get-set_other old i p.group h other) ∙ p.at; index = p.index; is = p.is })

    keeps_new : (e : ℕ) → HasPlace old e → HasPlace (slice_set old i h) e
    keeps_new e p = go (cases_eq p.group i)
      where
        go : (p.group ≡ i) ⊎ (p.group ≢ i) → HasPlace (slice_set old i h) e
        go (inl equal) =
            let here : slice_get old i ≡ Some p.member = subst (λ (q : ℕ). slice_get old q ≡ Some p.member) equal p.at in
            let n = at in
            let one : p.member ≡ g = cc in
            record { group = i; member = h; at = now; index = p.index; is = subst (λ (xs : List ℕ). slice_get xs p.index ≡ Some e) (sym longer.places) (pushed_kept g.places.items place p.index e (subst (λ (m : Group). slice_get m.places.items p.index ≡ Some e) one p.is)) }
        go (inr other) = record { group = p.group; member = p.member; at = slice_get-set_other old i p.group h other ∙ p.at; index = p.index; is = p.is }

    gets_new : HasPlace (slice_set old i h) place
    gets_new = record { group = i; member = h; at = now; index = length g.places.items; is = subst (λ (xs : List ℕ). slice_get xs (length g.places.items) ≡ Some place) (sym longer.places) (slice_get-append_seam g.places.items place) }

-- a group is new
gets_further : (events : List Event) (old : List Group) (thread place : ℕ) (h : Group) → AreOfThreads events old → thread_at events place ≡ Some thread → h.thread ≡ thread → h.places.items ≡ place ∷ [] → Gets events old place (old ++ h ∷ [])
gets_further events old thread place h each is same one = record { each = each_new; cases = cases_new; keeps = keeps_new; gets = gets_new }
  where
    only : (k e : ℕ) → slice_get h.places.items k ≡ Some e → (k ≡ 0) × (place ≡ e)
    only k e at = go k (subst (λ (xs : List ℕ). slice_get xs k ≡ Some e) one at)
      where
        go : (i : ℕ) → slice_get (place ∷ []) i ≡ Some e → (i ≡ 0) × (place ≡ e)
        go zero there = (refl, cc)
        go (suc i) there = cc

    group : IsGroup events h
    group = record {
      order = λ a b i j less at_i at_j. let x = (only a i at_i).0 in let y = (only b j at_j).0 in absurd (omega arith);
      of_thread = λ k e at. subst (λ (p : ℕ). thread_at events p ≡ Some h.thread) (only k e at).1 (is ∙ ap Some (sym same));
    }

    each_new : AreOfThreads events (old ++ h ∷ [])
    each_new j m there = go (pushed_cases old h j m there)
      where
        go : (slice_get old j ≡ Some m) ⊎ ((j ≡ length old) × (h ≡ m)) → IsGroup events m
        go (inl before) = each j m before
        go (inr last) = subst (IsGroup events) last.1 group

    cases_new : (e : ℕ) → HasPlace (old ++ h ∷ []) e → HasPlace old e ⊎ (place ≡ e)
    cases_new e p = go (pushed_cases old h p.group p.member p.at)
      where
        go : (slice_get old p.group ≡ Some p.member) ⊎ ((p.group ≡ length old) × (h ≡ p.member)) → HasPlace old e ⊎ (place ≡ e)
        go (inl before) = inl (record { group = p.group; member = p.member; at = before; index = p.index; is = p.is })
        go (inr last) = inr (only p.index e (subst (λ (m : Group). slice_get m.places.items p.index ≡ Some e) (sym last.1) p.is)).1

    keeps_new : (e : ℕ) → HasPlace old e → HasPlace (old ++ h ∷ []) e
    keeps_new e p = record { group = p.group; member = p.member; at = pushed_kept old h p.group p.member p.at; index = p.index; is = p.is }

    gets_new : HasPlace (old ++ h ∷ []) place
    gets_new = record { group = length old; member = h; at = slice_get-append_seam old h; index = 0; is = subst (λ (xs : List ℕ). slice_get xs 0 ≡ Some place) (sym one) refl }

gets_noted : (events : List Event) (old new : List Group) (thread place : ℕ) → AreOfThreads events old → thread_at events place ≡ Some thread → ((e : ℕ) → HasPlace old e → e < place) → IsNoted old thread place new → Gets events old place new
gets_noted events old new thread place each is below (IsNoted.longer i g h at same longer made) = subst (λ (gs : List Group). Gets events old place gs) (sym made) (gets_longer events old thread place i g h each is below at same longer)
gets_noted events old new thread place each is below (IsNoted.further h same one made) = subst (λ (gs : List Group). Gets events old place gs) (sym made) (gets_further events old thread place h each is same one)

-- one place more is grouped
pub noted_step : (events : List Event) (places : List ℕ) (n thread place : ℕ) (old new : List Group) → Rises places → slice_get places n ≡ Some place → thread_at events place ≡ Some thread → AreGroupsUpTo events places n old → IsNoted old thread place new → AreGroupsUpTo events places (n + 1) new
noted_step events places n thread place old new order at is up noted = record {
  each = got.each;
  below = λ e j p h less there. under e j p less there (got.cases e h);
  all = λ j p less there. reached j p there (three_way j n) less;
}
  where
    got : Gets events old place new
    got = gets_noted events old new thread place up.each is (λ e h. up.below e n place h (omega arith) at) noted

    under : (e j p : ℕ) → n + 1 ≤ j → slice_get places j ≡ Some p → HasPlace old e ⊎ (place ≡ e) → e < p
    under e j p less there (inl h) = up.below e j p h (omega arith) there
    under e j p less there (inr same) = let rise : place < p = order n j place p (omega arith) at there in omega arith

    reached : (j p : ℕ) → slice_get places j ≡ Some p → (j < n) ⊎ ((j ≡ n) ⊎ (n < j)) → j < n + 1 → HasPlace new p
    reached j p there (inl first) less = got.keeps p (up.all j p first there)
    reached j p there (inr (inl same)) less =
        let here : slice_get places n ≡ Some p = subst (λ (k : ℕ). slice_get places k ≡ Some p) same there in
        let one : place ≡ p = cc in
        subst (HasPlace new) one got.gets
    reached j p there (inr (inr more)) less = absurd (omega arith)

-- all are
pub noted_all : (events : List Event) (x n : ℕ) (places : List ℕ) (groups : List Group) → AreAccesses events x places → length places ≤ n → AreGroupsUpTo events places n groups → AreGroups events x groups
noted_all events x n places groups listed past up = record {
  each = up.each;
  all = λ e access. let at = index_of places e ((listed.members e).1 access) in up.all at.0 e (let w = slice_get_within places at.0 e at.1 in omega arith) at.1;
}
