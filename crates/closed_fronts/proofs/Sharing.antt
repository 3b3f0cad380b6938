-- Rows that share what is stored.
use Rattle.std.proofs.Common.{◌≡◌, ◌≢◌, ℕ, zero, suc, ◌+◌, ◌-◌, ◌<◌, ◌≤◌, List, [], ◌∷◌, ◌++◌, length, take, drop, get_or, Some, ◌⊎◌, inl, inr, refl, sym, ap, subst, ◌∙◌, arith, get_or-set_same, get_or-set_other}
use Rattle.std.specs.Prelude.{max, slice_get, slice_index, slice_range, slice_set}
use Rattle.std.proofs.Math.ListN.{length-set}
use Rattle.std.proofs.lemmas.Bool.{cases_eq}
use Rattle.std.proofs.lemmas.List.{take-append-le, drop-append-le, drop_at, take_all, set-set, set-get_or, length-take-le, length-drop, length-append, get_or-take, get_or-drop, get_or_append_left, get_or-append-add, ext_get_or}
use Rattle.std.proofs.lemmas.Option.{slice_get-get_or}
use Rattle.sp_base.specs.declared.limits.TheConstants.{MAX_EVENTS}
use Rattle.closed_fronts.specs.declared.rows.Share.{Share}
use Rattle.trace_laws.specs.Event.{Event}
use Rattle.trace_laws.specs.Trace.{thread_at}
use Rattle.trace_laws.proofs.Places.{three_way}
use Rattle.closed_fronts.specs.Rows.{IsJoin, IsRow, AreRows, row_in}
use Rattle.closed_fronts.specs.Shares.{shared_row, rows_from, IsShare, AreShares}
use Rattle.closed_fronts.proofs.Told.{told_push}
use Rattle.closed_fronts.proofs.Joins.{none_past}
use Rattle.closed_fronts.proofs.Mends.{held_below}

-- there is a row for each share
pub rows_length : (cuts : List ℕ) (n : ℕ) (shares : List Share) → length (rows_from cuts n shares) ≡ length shares
rows_length cuts n [] = refl
rows_length cuts n (s ∷ shares) = ap suc (rows_length cuts (n + 1) shares)

-- it is that of its share
pub rows_at : (cuts : List ℕ) (n : ℕ) (shares : List Share) (k : ℕ) (s d : Share) (e : List ℕ) → k < length shares → s ≡ get_or shares k d → get_or (rows_from cuts n shares) k e ≡ shared_row cuts (n + k) s
rows_at cuts n [] k s d e less is = absurd (omega arith)
rows_at cuts n (x ∷ shares) zero s d e less is = let same : x ≡ s = sym is in let none : n ≡ n + 0 = omega arith in ap (λ (p : ℕ). shared_row cuts p x) none ∙ ap (λ (y : Share). shared_row cuts (n + 0) y) same
rows_at cuts n (x ∷ shares) (suc k) s d e less is = let more : n + 1 + k ≡ n + suc k = omega arith in subst (λ (p : ℕ). get_or (rows_from cuts (n + 1) shares) k e ≡ shared_row cuts p s) more (rows_at cuts (n + 1) shares k s d e (omega arith) is)

-- a part of a region stays where more is stored
part_kept : (cuts more : List ℕ) (i k : ℕ) → i + k ≤ length cuts → slice_range (cuts ++ more) i (i + k) ≡ slice_range cuts i (i + k)
part_kept cuts more i k within =
    let size = length-drop i cuts in
    ap (λ (xs : List ℕ). take (i + k - i) xs) (drop-append-le i cuts more (omega arith)) ∙ take-append-le (i + k - i) (drop i cuts) more (omega arith)

-- and with it the rows
pub rows_kept : (cuts more : List ℕ) (n : ℕ) (shares : List Share) → ((k : ℕ) (s : Share) → slice_get shares k ≡ Some s → s.start + s.size ≤ length cuts) → rows_from (cuts ++ more) n shares ≡ rows_from cuts n shares
rows_kept cuts more n [] within = refl
rows_kept cuts more n (s ∷ shares) within =
    ap (λ (row : List ℕ). slice_set row s.thread (n + 1) ∷ rows_from (cuts ++ more) (n + 1) shares) (part_kept cuts more s.start s.size (within zero s refl)) ∙
    ap (λ (rows : List (List ℕ)). shared_row cuts n s ∷ rows) (rows_kept cuts more (n + 1) shares (λ k t at. within (suc k) t at))

-- one share more is one row more
pub rows_push : (cuts : List ℕ) (n : ℕ) (shares : List Share) (s : Share) → rows_from cuts n (shares ++ s ∷ []) ≡ rows_from cuts n shares ++ shared_row cuts (n + length shares) s ∷ []
rows_push cuts n [] s = let same : n ≡ n + 0 = omega arith in ap (λ (p : ℕ). shared_row cuts p s ∷ []) same
rows_push cuts n (x ∷ shares) s =
    let more : n + 1 + length shares ≡ n + length (x ∷ shares) = omega arith in
    ap (λ (rows : List (List ℕ)). shared_row cuts n x ∷ rows) (rows_push cuts (n + 1) shares s ∙ ap (λ (p : ℕ). rows_from cuts (n + 1) shares ++ shared_row cuts p s ∷ []) more)

-- what is stored last is the row
part_last : (cuts row : List ℕ) → slice_range (cuts ++ row) (length cuts) (length cuts + length row) ≡ row
part_last cuts row = ap (λ (xs : List ℕ). take (length cuts + length row - length cuts) xs) (drop_at cuts row (length cuts) refl) ∙ take_all (length cuts + length row - length cuts) row (omega arith)

-- where its own cut is just behind the place
pub shared_last : (cuts row : List ℕ) (place : ℕ) (s : Share) → s.start ≡ length cuts → s.size ≡ length row → slice_index row s.thread ≡ place + 1 → shared_row (cuts ++ row) place s ≡ row
shared_last cuts row place s start size own =
    ap (λ (i : ℕ). slice_set (slice_range (cuts ++ row) i (i + s.size)) s.thread (place + 1)) start ∙
    ap (λ (k : ℕ). slice_set (slice_range (cuts ++ row) (length cuts) (length cuts + k)) s.thread (place + 1)) size ∙
    ap (λ (xs : List ℕ). slice_set xs s.thread (place + 1)) (part_last cuts row) ∙
    ap (λ (v : ℕ). slice_set row s.thread v) (sym own) ∙
    set-get_or row s.thread 0

-- the row that a later place shares is that with the own cut raised
pub shared_later : (cuts : List ℕ) (source place : ℕ) (s : Share) → slice_set (shared_row cuts source s) s.thread (place + 1) ≡ shared_row cuts place s
shared_later cuts source place s = set-set (slice_range cuts s.start (s.start + s.size)) s.thread (source + 1) (place + 1)

-- a part has so many cuts
pub part_size : (cuts : List ℕ) (i k : ℕ) → i + k ≤ length cuts → length (slice_range cuts i (i + k)) ≡ k
part_size cuts i k within = let size = length-drop i cuts in length-take-le (i + k - i) (drop i cuts) (omega arith) ∙ (omega arith)

-- a row has so many cuts
pub shared_size : (cuts : List ℕ) (place : ℕ) (s : Share) → s.start + s.size ≤ length cuts → length (shared_row cuts place s) ≡ s.size
shared_size cuts place s within = length-set (slice_range cuts s.start (s.start + s.size)) s.thread (place + 1) ∙ part_size cuts s.start s.size within

-- and a cut of it stands in the region
pub part_at : (cuts : List ℕ) (i k t : ℕ) → t < k → slice_index (slice_range cuts i (i + k)) t ≡ slice_index cuts (i + t)
part_at cuts i k t less = get_or-take (i + k - i) (drop i cuts) t 0 (omega arith) ∙ get_or-drop i cuts t 0

-- the own cut of a row
pub shared_own : (cuts : List ℕ) (place : ℕ) (s : Share) → s.start + s.size ≤ length cuts → s.thread < s.size → slice_index (shared_row cuts place s) s.thread ≡ place + 1
shared_own cuts place s within own = let size = part_size cuts s.start s.size within in get_or-set_same (slice_range cuts s.start (s.start + s.size)) s.thread (place + 1) 0 (omega arith)

-- and another
pub shared_other : (cuts : List ℕ) (place : ℕ) (s : Share) (t : ℕ) → t ≢ s.thread → t < s.size → slice_index (shared_row cuts place s) t ≡ slice_index cuts (s.start + t)
shared_other cuts place s t other less = get_or-set_other (slice_range cuts s.start (s.start + s.size)) s.thread t (place + 1) 0 other ∙ part_at cuts s.start s.size t less

-- a cut that is raised in a row is raised in the union
pub join_raised : (a row b : List ℕ) (t v : ℕ) → IsJoin a row b → t < length a → t < length row → slice_index row t ≤ v → IsJoin a (slice_set row t v) (slice_set b t (max (slice_index b t) v))
join_raised a row b t v join inside own older = record { size = length-set b t (max (slice_index b t) v) ∙ join.size; each = λ u. go u (cases_eq u t) }
  where
    here : slice_index (slice_set b t (max (slice_index b t) v)) t ≡ max (slice_index a t) (slice_index (slice_set row t v) t)
    here =
        let size = join.size in
        let new = get_or-set_same b t (max (slice_index b t) v) 0 (omega arith) in
        let raised = get_or-set_same row t v 0 own in
        let each = join.each t in
        omega arith

    go : (u : ℕ) → (u ≡ t) ⊎ (u ≢ t) → slice_index (slice_set b t (max (slice_index b t) v)) u ≡ max (slice_index a u) (slice_index (slice_set row t v) u)
    go u (inl same) = subst (λ (k : ℕ). slice_index (slice_set b t (max (slice_index b t) v)) k ≡ max (slice_index a k) (slice_index (slice_set row t v) k)) (sym same) here
    go u (inr other) =
        let left = get_or-set_other b t u (max (slice_index b t) v) 0 other in
        let right = get_or-set_other row t u v 0 other in
        let each = join.each u in
        omega arith

-- what is known of a share and of the row of its place
pub record IsShared (cuts : List ℕ) (rows : List (List ℕ)) (place : ℕ) (s : Share) : Type 0 where
  pub within : s.start + s.size ≤ length cuts
  pub own : s.thread < s.size
  pub older : slice_index cuts (s.start + s.thread) ≤ place + 1
  pub row : row_in rows place ≡ shared_row cuts place s
  pub size : length (row_in rows place) ≡ s.size

-- a share of rows is known
pub shared_known : (cuts : List ℕ) (shares : List Share) (rows : List (List ℕ)) (place : ℕ) (s : Share) → AreShares cuts shares → rows_from cuts 0 shares ≡ rows → place < length rows → s ≡ get_or shares place s → IsShared cuts rows place s
shared_known cuts shares rows place s are seen less is = record {
  within = share.within;
  own = share.own;
  older = share.older;
  row = row;
  size = ap (λ (xs : List ℕ). length xs) row ∙ shared_size cuts place s share.within;
}
  where
    inside : place < length shares
    inside = let size = ap (λ (r : List (List ℕ)). length r) (sym seen) ∙ rows_length cuts 0 shares in omega arith

    share : IsShare cuts place s
    share = are.each place s (slice_get-get_or shares place s inside ∙ ap Some (sym is))

    row : row_in rows place ≡ shared_row cuts place s
    row = ap (λ (r : List (List ℕ)). row_in r place) (sym seen) ∙ rows_at cuts 0 shares place s s [] inside is ∙ (let none : 0 + place ≡ place = omega arith in ap (λ (p : ℕ). shared_row cuts p s) none)

-- there is a share for each row
pub shares_size : (cuts : List ℕ) (shares : List Share) (rows : List (List ℕ)) → rows_from cuts 0 shares ≡ rows → length rows ≡ length shares
shares_size cuts shares rows seen = ap (λ (r : List (List ℕ)). length r) (sym seen) ∙ rows_length cuts 0 shares

-- shares stay right where more is stored
pub shares_kept : (cuts more : List ℕ) (shares : List Share) → AreShares cuts shares → AreShares (cuts ++ more) shares
shares_kept cuts more shares are = record { few = are.few; each = λ k s at. kept k s (are.each k s at) }
  where
    kept : (k : ℕ) (s : Share) → IsShare cuts k s → IsShare (cuts ++ more) k s
    kept k s share = record {
      within = (let within = share.within in let size = length-append cuts more in omega arith);
      own = share.own;
      older = (let older = share.older in let same = get_or_append_left cuts more 0 (s.start + s.thread) (let within = share.within in let own = share.own in omega arith) in omega arith);
    }

-- one share more is right
shares_push : (cuts : List ℕ) (shares : List Share) (s : Share) → length shares < MAX_EVENTS → AreShares cuts shares → IsShare cuts (length shares) s → AreShares cuts (shares ++ s ∷ [])
shares_push cuts shares s few are share = record { few = (let size = length-append shares (s ∷ []) in omega arith); each = told_push (IsShare cuts) shares s are.each share }

-- a row that is stored last
module _ (cuts row : List ℕ) (shares : List Share) (s : Share) (are : AreShares cuts shares) (few : length shares < MAX_EVENTS) (start : s.start ≡ length cuts) (size : s.size ≡ length row) (inside : s.thread < length row) (own : slice_index row s.thread ≡ length shares + 1) where
  -- has a share that is right
  pub stored_share : AreShares (cuts ++ row) (shares ++ s ∷ [])
  stored_share = shares_push (cuts ++ row) shares s few (shares_kept cuts row shares are) (record {
    within = (let both = length-append cuts row in omega arith);
    own = omega arith;
    older = (let same = ap (λ (i : ℕ). slice_index (cuts ++ row) (i + s.thread)) start in let there = get_or-append-add cuts row s.thread 0 in omega arith);
  })

  -- and is the last of the rows
  pub stored_rows : rows_from (cuts ++ row) 0 (shares ++ s ∷ []) ≡ rows_from cuts 0 shares ++ row ∷ []
  stored_rows =
      let none : 0 + length shares ≡ length shares = omega arith in
      rows_push (cuts ++ row) 0 shares s ∙
      ap (λ (p : ℕ). rows_from (cuts ++ row) 0 shares ++ shared_row (cuts ++ row) p s ∷ []) none ∙
      ap (λ (rows : List (List ℕ)). rows ++ shared_row (cuts ++ row) (length shares) s ∷ []) (rows_kept cuts row 0 shares (λ k t at. (are.each k t at).within)) ∙
      ap (λ (r : List ℕ). rows_from cuts 0 shares ++ r ∷ []) (shared_last cuts row (length shares) s start size own)

-- a share of a place that is given to the next one
module _ (cuts : List ℕ) (shares : List Share) (rows : List (List ℕ)) (source : ℕ) (s : Share) (are : AreShares cuts shares) (seen : rows_from cuts 0 shares ≡ rows) (few : length rows < MAX_EVENTS) (less : source < length rows) (is : s ≡ get_or shares source s) where
  -- is right
  pub given_share : AreShares cuts (shares ++ s ∷ [])
  given_share =
      let size = shares_size cuts shares rows seen in
      let known = shared_known cuts shares rows source s are seen less is in
      shares_push cuts shares s (omega arith) are (record { within = known.within; own = known.own; older = (let older = known.older in omega arith) })

  -- and the next row is that of the place with the own cut raised
  pub given_rows : rows_from cuts 0 (shares ++ s ∷ []) ≡ rows ++ slice_set (row_in rows source) s.thread (length rows + 1) ∷ []
  given_rows =
      let size : 0 + length shares ≡ length rows = (let size = shares_size cuts shares rows seen in omega arith) in
      let known = shared_known cuts shares rows source s are seen less is in
      rows_push cuts 0 shares s ∙
      ap (λ (p : ℕ). rows_from cuts 0 shares ++ shared_row cuts p s ∷ []) size ∙
      ap (λ (r : List (List ℕ)). r ++ shared_row cuts (length rows) s ∷ []) seen ∙
      ap (λ (r : List ℕ). rows ++ r ∷ []) (sym (shared_later cuts source (length rows) s) ∙ ap (λ (r : List ℕ). slice_set r s.thread (length rows + 1)) (sym known.row))

-- the row of a place is right
pub row_told : (events : List Event) (threads : ℕ) (rows : List (List ℕ)) (place : ℕ) → AreRows events threads rows → place < length rows → IsRow events threads place (row_in rows place)
row_told events threads rows place told less = told place (row_in rows place) (slice_get-get_or rows place [] less)

-- its own cut is just behind the place
pub row_own : (events : List Event) (threads place t : ℕ) (row : List ℕ) → IsRow events threads place row → thread_at events place ≡ Some t → slice_index row t ≡ place + 1
row_own events threads place t row is own = let within = is.within t in let below = held_below events row t place own is.holds in omega arith

-- sets that are the same but for a cut are the same where that is set too
pub alike_set : (row cuts : List ℕ) (t : ℕ) → length row ≡ length cuts → ((u : ℕ) → u ≢ t → slice_index row u ≡ slice_index cuts u) → slice_set row t (slice_index cuts t) ≡ cuts
alike_set row cuts t size others = ext_get_or 0 (slice_set row t (slice_index cuts t)) cuts (length-set row t (slice_index cuts t) ∙ size) (λ u less. go u less (cases_eq u t))
  where
    go : (u : ℕ) → u < length (slice_set row t (slice_index cuts t)) → (u ≡ t) ⊎ (u ≢ t) → slice_index (slice_set row t (slice_index cuts t)) u ≡ slice_index cuts u
    go u less (inl same) =
        let size = length-set row t (slice_index cuts t) in
        subst (λ (k : ℕ). slice_index (slice_set row t (slice_index cuts t)) k ≡ slice_index cuts k) (sym same) (get_or-set_same row t (slice_index cuts t) 0 (omega arith))
    go u less (inr other) = get_or-set_other row t u (slice_index cuts t) 0 other ∙ others u other

-- all other cuts are the same
pub alike_all : (row cuts : List ℕ) (t n : ℕ) → length row ≡ length cuts → length cuts ≤ n → ((u : ℕ) → u < n → u ≢ t → slice_index row u ≡ slice_index cuts u) → (u : ℕ) → u ≢ t → slice_index row u ≡ slice_index cuts u
alike_all row cuts t n size past below u other = go (three_way u n)
  where
    go : (u < n) ⊎ ((u ≡ n) ⊎ (n < u)) → slice_index row u ≡ slice_index cuts u
    go (inl less) = below u less other
    go (inr (inl same)) = none_past row u (omega arith) ∙ sym (none_past cuts u (omega arith))
    go (inr (inr more)) = none_past row u (omega arith) ∙ sym (none_past cuts u (omega arith))
