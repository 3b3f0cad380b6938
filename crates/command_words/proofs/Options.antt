-- What a parse of the command leaves for its options.
use Rattle.std.proofs.Common.{◌≡◌, ◌∙◌, ◌<◌, ◌≤◌, ◌&&◌, true≢false, ℕ, zero, suc, Bool, true, false, not, List, [], ◌∷◌, length, map, is_some, Option, Some, None, refl, sym, ap, subst, inl, inr, arith, codes}
use Rattle.std.specs.List.{All, slice_index_or, list_all}
use Rattle.std.specs.Str.{bytes_eq}
use Rattle.std.specs.Prelude.{find, option_map}
use Rattle.std.specs.Borrow.{Bor}
use Rattle.std.proofs.lemmas.Bool.{and_parts}
use Rattle.std.proofs.lemmas.List.{get_or-map, length-map}
use Rattle.std.proofs.lemmas.Slice.Eq.{bytes_eq-Decides}
use Rattle.clap.proofs.CallerLemmas.{default_present, entry_by_id, same_rules_by_id}
use Rattle.clap.proofs.SimpleLemmas.{is_false, is_nil}
use Rattle.clap.proofs.TakesLemmas.{each_rule}
use Rattle.clap.specs.Built.{IsAuto, IsParsedFrom, NamesNoGroup, SameRules}
use Rattle.clap.specs.Facts.{Entry, EntryPasses, HasReading, PassesArg, ValuesPass, WantsDefault, args_of, groups_of, least_values, parser_of, parser_of_value, unwrap_or_range}
use Rattle.clap.specs.Matches.{found_of, matched_of}
use Rattle.clap.specs.Simple.{App, app_of, has_plain_fields}
use Rattle.clap.specs.Texts.{items_of}
use Rattle.clap.specs.Values.{Accepts, IsUnsignedIn, reading_of}
use Rattle.clap.specs.Walk.{Rule, Text, rule_of, texts}
use Rattle.clap.specs.declared.builder.action.ArgAction.TheVariants.{Set, Count}
use Rattle.clap.specs.declared.builder.arg.Arg.{Arg}
use Rattle.clap.specs.declared.builder.command.Command.{Command}
use Rattle.clap.specs.declared.builder.command.Command.TheViews.{out-Command}
use Rattle.clap.specs.declared.builder.value_parser.Reading.{Reading}
use Rattle.clap.specs.declared.builder.value_parser.Reading.TheVariants.{AsWritten}
use Rattle.clap.specs.declared.builder.value_parser.ValueParser.{ValueParser}
use Rattle.clap.specs.declared.builder.value_parser.ValueParser.TheVariants.{Unsigned}
use Rattle.clap.specs.declared.builder.range.ValueRange.{ValueRange}
use Rattle.clap.specs.declared.parser.matches.ArgMatches.{ArgMatches}
use Rattle.clap.specs.declared.parser.matches.Found.{Found}
use Rattle.clap.specs.declared.parser.matches.MatchedArg.{MatchedArg}
use Rattle.sp_base.specs.declared.limits.TheConstants.{MAX_SIZE, MAX_WORKERS, MIN_SIZE}
use Rattle.command_words.specs.Parsed.{HasNumbers, IsNumber}
use Rattle.command_words.specs.Words.{number_rule, the_command}
use Rattle.command_words.specs.declared.command.TheConstants.{MAX_DRAWN_EVENTS, MAX_FINDING, MAX_SEED, MIN_DRAWN_EVENTS}

-- the rule of an argument of the command
rule_at : (old : Command) → app_of old ≡ the_command → (k : ℕ) (d : Arg) → k < length (args_of old)
    → rule_of (slice_index_or (args_of old) k d) ≡ slice_index_or the_command.top.rules k (rule_of d)
rule_at old same k d lt = sym (get_or-map rule_of (args_of old) k d (rule_of d) lt) ∙ ap (λ (a : App). slice_index_or a.top.rules k (rule_of d)) same

-- an entry with an id is found under it
found_under : (xs : List Entry) (id : Text) (i : ℕ) → i < length xs → ((d : Entry) → bytes_eq (slice_index_or xs i d).0.now id ≡ true)
    → is_some (option_map (λ e. e.1) (find (λ e. bytes_eq e.0.now id) xs)) ≡ true
found_under [] id i lt has = absurd (omega arith)
found_under (x ∷ xs) id i lt has = go (bytes_eq x.0.now id) refl (found_under xs id) i lt has
  where
    go : (t : Bool) → bytes_eq x.0.now id ≡ t
        → ((i : ℕ) → i < length xs → ((d : Entry) → bytes_eq (slice_index_or xs i d).0.now id ≡ true) → is_some (option_map (λ e. e.1) (find (λ e. bytes_eq e.0.now id) xs)) ≡ true)
        → (i : ℕ) → i < length (x ∷ xs) → ((d : Entry) → bytes_eq (slice_index_or (x ∷ xs) i d).0.now id ≡ true)
        → is_some (option_map (λ e. e.1) (find (λ e. bytes_eq e.0.now id) (x ∷ xs))) ≡ true
    go true t rest i lt has = rw t refl
    go false t rest zero lt has =
        let bad : false ≡ true = sym t ∙ has x in
        cc
    go false t rest (suc i) lt has = rw t (rest i (omega arith) has)

-- what an argument of the built command of the id of `a` takes, and how it is read
passed_number : (c : Command) (a : Arg) (least most : ℕ) → a.value_parser ≡ Some (Unsigned least most)
    → ((j : ℕ) (x : Arg) → j < length (args_of c) → slice_index_or (args_of c) j x ≡ x → bytes_eq x.id.now a.id.now ≡ true → SameRules a x)
    → (value : Text) → PassesArg c a.id.now value → IsUnsignedIn least most value
passed_number c a least most parser rules value pass =
    let same = rules pass.0 pass.1 pass.2 pass.3 pass.4.0 in
    let is : parser_of pass.1 ≡ Unsigned least most = ap parser_of_value (same.parser (Unsigned least most) parser) in
    subst (λ (q : ValueParser). Accepts pass.1.ignore_case q value) is pass.4.1

read_plainly : (c : Command) (a : Arg) (least most : ℕ) → a.value_parser ≡ Some (Unsigned least most)
    → ((j : ℕ) (x : Arg) → j < length (args_of c) → slice_index_or (args_of c) j x ≡ x → bytes_eq x.id.now a.id.now ≡ true → SameRules a x)
    → (r : Reading) → HasReading c a.id.now r → r ≡ AsWritten
read_plainly c a least most parser rules r any =
    let same = rules any.0 any.1 any.2 any.3 any.4.0 in
    let is : parser_of any.1 ≡ Unsigned least most = ap parser_of_value (same.parser (Unsigned least most) parser) in
    sym any.4.1 ∙ ap reading_of is

-- the entry of an id gives a number, where its values passed and are read as they stand
number_of_entry : (f : Found) (id : Text) (least most : ℕ) (x : MatchedArg) → matched_of f id ≡ Some x → x.reading ≡ AsWritten → 0 < length x.vals.items
    → All (λ v. IsUnsignedIn least most v.now) x.vals.items → IsNumber f id least most
number_of_entry f id least most x found plain filled all = go x.vals.items refl filled all
  where
    go : (vs : List (Bor Text)) → x.vals.items ≡ vs → 0 < length vs → All (λ v. IsUnsignedIn least most v.now) vs → IsNumber f id least most
    go [] is lt all = absurd (omega arith)
    go (v ∷ vs) is lt all = record {
      text = v.now;
      first = rw (found, is) refl;
      one = rw (found, plain, is) refl;
      range = all 0 v (omega arith);
    }

-- the command of those rules has no group, and nothing in it is global
plain_fields : (old : Command) → app_of old ≡ the_command → (groups_of old ≡ []) × ((out-Command old).has_globals ≡ false)
plain_fields old same =
    let plain : has_plain_fields (out-Command old) ≡ true = ap (λ (a : App). a.top.is_plain) same in
    let p = and_parts _ _ plain in
    let q = and_parts _ _ p.1 in
    let r = and_parts _ _ q.1 in
    (is_nil _ p.0, is_false _ r.0)

-- and no argument names a group
names_no_group : (old : Command) → app_of old ≡ the_command → NamesNoGroup old
names_no_group old same = λ k d lt.
    let all : list_all (λ (r : Rule). r.is_simple) (map rule_of (args_of old)) ≡ true = ap (λ (a : App). list_all (λ (r : Rule). r.is_simple) a.top.rules) same in
    let p = and_parts _ _ (each_rule (λ r. r.is_simple) (args_of old) all k d lt) in
    let q = and_parts _ _ p.1 in
    let r = and_parts _ _ q.1 in
    is_nil _ r.0

-- where the built command has no group, an entry of an option is no group's, and is filled
filled_entry : (c : Command) (a : Arg) (e : Entry) → groups_of c ≡ [] → (a.id.now ≡ [] → ⊥) → e.0.now ≡ a.id.now
    → a.action ≡ Some Set → a.val_delim ≡ None → 1 ≤ least_values a
    → ((j : ℕ) (x : Arg) → j < length (args_of c) → slice_index_or (args_of c) j x ≡ x → bytes_eq x.id.now a.id.now ≡ true → SameRules a x)
    → EntryPasses c e → (e.1.is_group ≡ true → ⊥) × (0 < length e.1.vals.items)
filled_entry c a e no_groups named key set delimiter least rules pass =
    let no_group : e.1.is_group ≡ true → ⊥ = λ g. elim (pass.3 g) [
      | inl empty ↦ named (sym key ∙ empty)
      | inr lots ↦
          let bad : 0 < 0 = rw no_groups at lots in
          absurd (omega arith)
    ] in (
      no_group,
      elim pass.1 [
        | inl group ↦ absurd (no_group group.0)
        | inr (inl filled) ↦ filled
        | inr (inr (inl counted)) ↦
            let any = counted.1 in
            let same = rules any.0 any.1 any.2 any.3 (rw key at any.4.0) in
            let is_set : any.1.action ≡ Some Set = same.action Set set in
            let bad : Set ≡ Count = rw is_set at any.4.1 in
            cc
        | inr (inr (inr none)) ↦
            let same = rules none.0 none.1 none.2 none.3 (rw key at none.4.0) in
            elim none.4.1 [
              | inl zero_values ↦
                  let one = same.least set least in
                  absurd (omega arith)
              | inr splits ↦
                  let bad : false ≡ true = rw (same.val_delim, delimiter) at splits in
                  cc
            ]
      ],
    )

-- the entry of an option gives its number
entry_number : (c : Command) (f : Found) (a : Arg) (least most : ℕ) → ValuesPass c f → groups_of c ≡ [] → (a.id.now ≡ [] → ⊥)
    → a.value_parser ≡ Some (Unsigned least most) → a.action ≡ Some Set → a.val_delim ≡ None → 1 ≤ least_values a
    → ((j : ℕ) (x : Arg) → j < length (args_of c) → slice_index_or (args_of c) j x ≡ x → bytes_eq x.id.now a.id.now ≡ true → SameRules a x)
    → is_some (matched_of f a.id.now) ≡ true → IsNumber f a.id.now least most
entry_number c f a least most values no_groups named parser set delimiter one rules has = go (matched_of f a.id.now) refl has
  where
    step : (x : MatchedArg) → matched_of f a.id.now ≡ Some x
        → ((e : Entry) × (e.1 ≡ x) × (bytes_eq e.0.now a.id.now ≡ true) × EntryPasses c e) → IsNumber f a.id.now least most
    step x found got =
        let key : got.0.0.now ≡ a.id.now = (bytes_eq-Decides got.0.0.now a.id.now).0 got.2 in
        let filled = filled_entry c a got.0 no_groups named key set delimiter one rules got.3 in
        let passes : All (λ v. PassesArg c a.id.now v.now) got.0.1.vals.items = elim got.3.0 [
          | inl g ↦ absurd (filled.0 g)
          | inr all ↦ subst (λ (w : Text). All (λ v. PassesArg c w v.now) got.0.1.vals.items) key all
        ] in
        let plain : got.0.1.reading ≡ AsWritten = elim got.3.4 [
          | inl g ↦ absurd (filled.0 g)
          | inr h ↦ read_plainly c a least most parser rules got.0.1.reading (subst (λ (w : Text). HasReading c w got.0.1.reading) key h)
        ] in
        number_of_entry f a.id.now least most got.0.1 (found ∙ ap (λ (y : MatchedArg). Some y) (sym got.1)) plain filled.1
        (λ k d lt. passed_number c a least most parser rules (slice_index_or got.0.1.vals.items k d).now (passes k d lt))

    go : (o : Option MatchedArg) → matched_of f a.id.now ≡ o → is_some (matched_of f a.id.now) ≡ true → IsNumber f a.id.now least most
    go None e h =
        let bad : false ≡ true = rw e at h in
        cc
    go (Some x) e h = step x e (entry_by_id (EntryPasses c) f.entries.items a.id.now x values e)

-- the test on a delimiter says that there is none
no_delimiter : (a : Arg) → not (is_some a.val_delim) ≡ true → a.val_delim ≡ None
no_delimiter a e = go a.val_delim e
  where
    go : (o : Option ℕ) → not (is_some o) ≡ true → o ≡ None
    go None e = refl
    go (Some x) e =
        let bad : false ≡ true = e in
        cc

-- an argument that leaves its number of values out takes one
takes_one : (a : Arg) → a.num_vals ≡ None → 1 ≤ least_values a
takes_one a is = subst (λ (o : Option ValueRange). 1 ≤ (unwrap_or_range o).start_inclusive) (sym is) (omega arith)

-- the texts of an option's default are some
has_default : (a : Arg) (default : Text) → texts (items_of a.default_vals) ≡ default ∷ [] → 0 < length (items_of a.default_vals)
has_default a default is = go (items_of a.default_vals) is
  where
    go : (xs : List (Bor Text)) → texts xs ≡ default ∷ [] → 0 < length xs
    go [] is = cc
    go (x ∷ xs) is = omega arith

-- an option of the command has its number after a parse
option_number : (old : Command) (m : ArgMatches) → IsParsedFrom old m → app_of old ≡ the_command
    → (k : ℕ) (d : Arg) → k < length (args_of old) → (name default : Text) (least most : ℕ)
    → rule_of (slice_index_or (args_of old) k d) ≡ number_rule name least most default
    → ((j : ℕ) (e : Arg) → j < length (args_of old) → bytes_eq (slice_index_or (args_of old) j e).id.now (slice_index_or (args_of old) k d).id.now ≡ true → j ≡ k)
    → (name ≡ [] → ⊥) → (name ≡ codes "help" → ⊥) → (name ≡ codes "version" → ⊥)
    → IsNumber (found_of m) name least most
option_number old m p same k d lt name default least most rule unique named help version =
    let a = slice_index_or (args_of old) k d in
    let id_is : a.id.now ≡ name = ap (λ (r : Rule). r.id) rule in
    let plain = plain_fields old same in
    let parsed = p.parsed (p.from.globals ∙ plain.1) in
    let no_groups : groups_of p.built ≡ [] = (p.from.same_groups (names_no_group old same)).1 ∙ plain.0 in
    let simple = and_parts _ _ (ap (λ (r : Rule). r.is_simple) rule) in
    let without_ifs = and_parts _ _ simple.1 in
    let without_groups = and_parts _ _ without_ifs.1 in
    let without_delimiter = and_parts _ _ without_groups.1 in
    let wants : WantsDefault a = (is_nil _ without_ifs.0, has_default a default (ap (λ (r : Rule). r.defaults) rule)) in
    let has = default_present old m p plain.1 k d lt wants in
    let auto : IsAuto a → ⊥ = λ auto. elim auto [ inl h ↦ help (sym id_is ∙ h) | inr h ↦ version (sym id_is ∙ h) ] in
    let one = takes_one a (ap (λ (r : Rule). r.range) rule) in
    let number = entry_number p.built (found_of m) a least most parsed.values no_groups (λ empty. named (sym id_is ∙ empty))
    (ap (λ (r : Rule). r.parser) rule) (ap (λ (r : Rule). r.action) rule) (no_delimiter a without_delimiter.0) one
    (same_rules_by_id old m p k d lt unique auto)
    (found_under (found_of m).entries.items a.id.now has.0 has.1 has.2) in
    subst (λ (w : Text). IsNumber (found_of m) w least most) id_is number

-- none but the rule in place k passes a test
abbrev is_only : (Rule → Bool) → List Rule → ℕ → Bool
is_only p [] k = true
is_only p (r ∷ rest) zero = is_only p rest (length rest)
is_only p (r ∷ rest) (suc k) = not (p r) && is_only p rest k

only_place : (p : Rule → Bool) (rules : List Rule) (k : ℕ) → is_only p rules k ≡ true
    → (j : ℕ) (e : Rule) → j < length rules → p (slice_index_or rules j e) ≡ true → j ≡ k
only_place p [] k only j e lt test = absurd (omega arith)
only_place p (r ∷ rest) zero only zero e lt test = refl
only_place p (r ∷ rest) zero only (suc j) e lt test =
    let there = only_place p rest (length rest) only j e (omega arith) test in
    absurd (omega arith)
only_place p (r ∷ rest) (suc k) only zero e lt test = absurd (true≢false (sym test ∙ is_false _ (and_parts _ _ only).0))
only_place p (r ∷ rest) (suc k) only (suc j) e lt test = ap suc (only_place p rest k (and_parts _ _ only).1 j e (omega arith) test)

-- two texts that a test tells apart are not the same
different : (a b : Text) → bytes_eq a b ≡ false → a ≡ b → ⊥
different a b off same = true≢false (sym ((bytes_eq-Decides a b).1 same) ∙ off)

-- the command has six arguments
six : (old : Command) → app_of old ≡ the_command → length (args_of old) ≡ 6
six old same = sym (length-map (args_of old) rule_of) ∙ ap (λ (a : App). length a.top.rules) same

-- the option of a place of the command has its number after a parse
number_at : (old : Command) (m : ArgMatches) → IsParsedFrom old m → app_of old ≡ the_command → (d : Arg)
    → (k : ℕ) (name default : Text) (least most : ℕ) → k < 6
    → ((e : Rule) → slice_index_or the_command.top.rules k e ≡ number_rule name least most default)
    → is_only (λ r. bytes_eq r.id name) the_command.top.rules k ≡ true
    → bytes_eq name [] ≡ false → bytes_eq name (codes "help") ≡ false → bytes_eq name (codes "version") ≡ false
    → IsNumber (found_of m) name least most
number_at old m p same d k name default least most lt rule only named help version =
    let size = six old same in
    let here : k < length (args_of old) = omega arith in
    let is = rule_at old same k d here ∙ rule (rule_of d) in
    let id_is : (slice_index_or (args_of old) k d).id.now ≡ name = ap (λ (r : Rule). r.id) is in
    option_number old m p same k d here name default least most is
    (λ j e low test.
    let there = rule_at old same j e low in
    let as_name : bytes_eq (slice_index_or (args_of old) j e).id.now name ≡ true = subst (λ (w : Text). bytes_eq (slice_index_or (args_of old) j e).id.now w ≡ true) id_is test in
    let as_rule : bytes_eq (slice_index_or the_command.top.rules j (rule_of e)).id name ≡ true = subst (λ (r : Rule). bytes_eq r.id name ≡ true) there as_name in
    only_place (λ r. bytes_eq r.id name) the_command.top.rules k only j (rule_of e) (omega arith) as_rule)
    (different name [] named) (different name (codes "help") help) (different name (codes "version") version)

-- each option of the command has its number after a parse
pub numbers : (old : Command) (m : ArgMatches) → IsParsedFrom old m → app_of old ≡ the_command → HasNumbers (found_of m)
numbers old m p same = go (args_of old) refl
  where
    with_argument : (d : Arg) → HasNumbers (found_of m)
    with_argument d = record {
      size = number_at old m p same d 1 (codes "size") _ MIN_SIZE MAX_SIZE (omega arith) (λ e. refl) refl refl refl refl;
      workers = number_at old m p same d 2 (codes "workers") _ 1 MAX_WORKERS (omega arith) (λ e. refl) refl refl refl refl;
      seed = number_at old m p same d 3 (codes "seed") _ 0 MAX_SEED (omega arith) (λ e. refl) refl refl refl refl;
      events = number_at old m p same d 4 (codes "events") _ MIN_DRAWN_EVENTS MAX_DRAWN_EVENTS (omega arith) (λ e. refl) refl refl refl refl;
      finding = number_at old m p same d 5 (codes "finding") _ 1 MAX_FINDING (omega arith) (λ e. refl) refl refl refl refl;
    }

    go : (xs : List Arg) → args_of old ≡ xs → HasNumbers (found_of m)
    go [] is =
        let size = six old same in
        let none : length (args_of old) ≡ 0 = ap length is in
        absurd (omega arith)
    go (d ∷ rest) is = with_argument d
