-- Deletions in turn: which data sets go, how many were there at their turn, and what the blocks stand for then.
use Rattle.std.proofs.Common.{◌≡◌, ◌≢◌, ◌<◌, ◌≤◌, ◌+◌, ◌∙◌, ◌∷◌, ◌++◌, ℕ, suc, Bool, true, false, not, List, [], length, map, Option, None, Some, is_some, Result, Ok, Err, refl, ap, ap₂, sym, subst, arith}
use Rattle.std.specs.Prelude.{◌&&◌, ◌||◌, nat_lt, slice_get, if◌then◌else◌}
use Rattle.std.specs.List.{find, list_any}
use Rattle.std.specs.Str.{bytes_eq}
use Rattle.std.proofs.lemmas.Bool.Decides.{nat_tests}
use Rattle.list_laws.proofs.Places.{got-map}
use Rattle.sv_base.specs.declared.config.Config.{Config}
use Rattle.bay_model.specs.declared.request.SetName.{SetName}
use Rattle.bay_model.specs.Deletions.{gone, in_use_from, is_deletable, matched}
use Rattle.bay_model.specs.Lookups.{reference_of}
use Rattle.bay_model.specs.Model.{Block, DataSet, Model}
use Rattle.bay_model.specs.Named.{configured_model}
use Rattle.bay_model.specs.Parameters.{parameters_at}
use Rattle.bay_model.specs.Points.{Past}
use Rattle.bay_model.specs.Sets.{is_named, set_named, without, without_all}
use Rattle.bay_model.specs.Singles.{arrival}
use Rattle.data_sets.specs.declared.book.DeleteFault.{DeleteFault}
use Rattle.data_sets.specs.declared.book.DeleteFault.TheVariants as faults
use Rattle.data_sets.specs.Books.{deletion_of, is_name, number_named, set_at}
use Rattle.data_sets.specs.Standing.{data_set}
use Rattle.data_sets.specs.Turns.{is_going, is_there}
use Rattle.data_sets.proofs.BookLaws.{IsPlace, is_place, removed_is}
use Rattle.data_sets.proofs.DeleteLaws.{is_below, in_front, kept_front, some_there}
use Rattle.report_block.specs.declared.block.ReportBlock.{ReportBlock}
use Rattle.report_block.specs.Standing.{Stands as BlockStands, BlocksStand}
use Rattle.report_block.specs.Writes.{renumbered}
use Rattle.bay_core.specs.Asked.{IsKept}
use Rattle.bay_core.specs.Deleted.{after_deletion, after_deletions, deleted_in, deletion_at, is_reported, matched_in, unless_used}
use Rattle.bay_values.specs.Marked.{one_if}
use Rattle.bay_core.specs.State.{State, IsBooked}
use Rattle.bay_core.proofs.RemoveLaws.{booked-deleted, name-same, name-there}
use Rattle.list_laws.proofs.Options.{none_is}

-- ---- what is used by blocks

used-told : (m : Model) (past : Past) (r : List ℕ) (parts : List ReportBlock) (ks : List Block) (b : ℕ) → length parts ≡ length ks
    → ((i : ℕ) (part : ReportBlock) → slice_get parts i ≡ Some part → part.block.options.dat_set ≡ (parameters_at m (b + i) past).dat_set)
    → list_any (λ (p : ReportBlock). bytes_eq p.block.options.dat_set r) parts ≡ in_use_from m past r b ks
used-told m past r [] [] b count each = refl
used-told m past r [] (k ∷ ks) b count each = absurd (omega (arith, count))
used-told m past r (p ∷ parts) [] b count each = absurd (omega (arith, count))
used-told m past r (p ∷ parts) (k ∷ ks) b count each =
    let first : b + 0 ≡ b = omega arith in
    ap₂ (λ x y. x || y) (ap (λ d. bytes_eq d r) (each 0 p refl ∙ ap (λ j. (parameters_at m j past).dat_set) first))
    (used-told m past r parts ks (suc b) (omega (arith, count)) (λ i q at. (let next : b + suc i ≡ suc b + i = omega arith in each (suc i) q at ∙ ap (λ j. (parameters_at m j past).dat_set) next)))

-- the DatSets of blocks are those of a history
abbrev pub AreUses : Model → Past → List ReportBlock → Type 0
AreUses m past parts = (n : SetName) → is_reported parts n ≡ in_use_from m past (reference_of n.domain n.item) 0 m.blocks

pub uses-told : (m : Model) (n t : ℕ) (past : Past) (parts : List ReportBlock) → length parts ≡ length m.blocks → BlocksStand m (arrival n t ∷ past) parts → AreUses m past parts
uses-told m n t past parts count st = λ name. used-told m past (reference_of name.domain name.item) parts m.blocks 0 count
    (λ i part at. (let same : i ≡ 0 + i = omega arith in ap (λ o. o.dat_set) (st i part at).block.options ∙ ap (λ j. (parameters_at m j past).dat_set) same))

-- the numbers of their sets are of no account
any-renumbered : (k : ℕ) (r : List ℕ) (parts : List ReportBlock) → list_any (λ (p : ReportBlock). bytes_eq p.block.options.dat_set r) (map (renumbered k) parts) ≡ list_any (λ (p : ReportBlock). bytes_eq p.block.options.dat_set r) parts
any-renumbered k r [] = refl
any-renumbered k r (p ∷ parts) = ap (λ x. bytes_eq p.block.options.dat_set r || x) (any-renumbered k r parts)

pub stands-renumbered : (k : ℕ) (m : Model) (past : Past) (parts : List ReportBlock) → BlocksStand m past parts → BlocksStand m past (map (renumbered k) parts)
stands-renumbered k m past parts st = λ b part at.
    let was = got-map (renumbered k) parts b part at in
    let s = st b was.0 was.1 in
    subst (λ (p : ReportBlock). BlockStands p m b past) was.2 (record { block = s.block; ring = s.ring; window = s.window; origin = s.origin; readable = s.readable; group = s.group })

-- ---- one deletion

-- what is known of the state before it; dyn are the sets that clients defined
pub record IsBefore (c : Config) (past : Past) (s : State) (all dyn : List DataSet) : Type 0 where
  pub booked : IsBooked c s.book
  pub sets : map data_set s.book.sets ≡ all
  pub split : all ≡ (configured_model c).sets ++ dyn
  pub configured : s.book.configured ≡ length (configured_model c).sets
  pub uses : AreUses (configured_model c) past s.parts

pub record IsGoing (s : State) (n : SetName) (k : ℕ) : Type 0 where
  pub number : number_named n s.book ≡ Some k
  pub from : s.book.configured ≤ k
  pub unused : is_reported s.parts n ≡ false

going-by : (s : State) (n : SetName) (k : ℕ) (o : Option ℕ) → number_named n s.book ≡ o → unless_used (is_reported s.parts n) (deletion_of s.book o) ≡ Ok k → IsGoing s n k
going-by s n k None at is = cc
going-by s n k (Some j) at is = by (nat_lt j s.book.configured) (nat_lt 0 (set_at s.book j).holds) (is_reported s.parts n) refl refl is
  where
    number : ◌≡◌ {A = Result ℕ DeleteFault} (Ok j) (Ok k) → number_named n s.book ≡ Some k
    number e = at ∙ ap (λ (r : Result ℕ DeleteFault). first r) e
      where
        first : Result ℕ DeleteFault → Option ℕ
        first (Ok i) = Some i
        first (Err f) = None

    by : (x h u : Bool) → nat_lt j s.book.configured ≡ x → is_reported s.parts n ≡ u → ◌≡◌ {A = Result ℕ DeleteFault} (unless_used u (if x then Err faults.NotDeletable else (if h then Err faults.InUse else Ok j))) (Ok k) → IsGoing s n k
    by true h u one two e = cc
    by false true u one two e = cc
    by false false true one two e = cc
    by false false false one two e =
        let same : j ≡ k = ap (λ (r : Result ℕ DeleteFault). value r) e in
        let from : s.book.configured ≤ j = grind (arith, nat_tests, one) in
        record { number = number e; from = omega (arith, from, same); unused = two }
      where
        value : Result ℕ DeleteFault → ℕ
        value (Ok i) = i
        value (Err f) = j

pub going-is : (s : State) (n : SetName) (k : ℕ) → deletion_at s n ≡ Ok k → IsGoing s n k
going-is s n k is = going-by s n k (number_named n s.book) refl is

module _ (c : Config) (past : Past) (s : State) (all dyn : List DataSet) (before : IsBefore c past s all dyn) (n : SetName) where
  abbrev m : Model
  m = configured_model c

  front : is_some (find (is_named n) m.sets) ≡ is_below (number_named n s.book) (length m.sets)
  front = in_front n s.book.sets m.sets dyn (before.sets ∙ before.split)

  -- it goes where the model has it go
  goes-by : (o : Option ℕ) → number_named n s.book ≡ o → IsPlace (λ b. is_name n b.name) s.book.sets o → is_some (find (is_named n) m.sets) ≡ is_below o (length m.sets)
      → (is_some o && is_deletable m past n) ≡ is_going (unless_used (is_reported s.parts n) (deletion_of s.book o))
  goes-by None at place first = refl
  goes-by (Some k) at place first =
      ap₂ (λ x y. x && not y) (none_is (set_named n m.sets) ∙ ap not (first ∙ ap (λ q. nat_lt k q) (sym before.configured))) (sym (before.uses n))
      ∙ (last (nat_lt k s.book.configured) (is_reported s.parts n) ∙ ap (λ h. is_going (unless_used (is_reported s.parts n) (if nat_lt k s.book.configured then Err faults.NotDeletable else (if nat_lt 0 h then Err faults.InUse else Ok k)))) (sym (before.booked.free k place.0)))
    where
      last : (x u : Bool) → (not x && not u) ≡ is_going (unless_used u (if x then Err faults.NotDeletable else (if nat_lt 0 0 then Err faults.InUse else Ok k)))
      last true u = refl
      last false true = refl
      last false false = refl

  pub one-goes : (is_some (set_named n all) && is_deletable m past n) ≡ is_going (deletion_at s n)
  one-goes = ap (λ x. x && is_deletable m past n) (some_there s.book all n before.sets) ∙ goes-by (number_named n s.book) refl (is_place (λ b. is_name n b.name) s.book.sets) front

  there-by : (o : Option ℕ) (u : Bool) → is_some o ≡ is_there (unless_used u (deletion_of s.book o))
  there-by None u = refl
  there-by (Some k) u = by (nat_lt k s.book.configured) (nat_lt 0 (set_at s.book k).holds) u
    where
      by : (x h u : Bool) → true ≡ is_there (unless_used u (if x then Err faults.NotDeletable else (if h then Err faults.InUse else Ok k)))
      by true h u = refl
      by false true u = refl
      by false false true = refl
      by false false false = refl

  pub one-there : is_some (set_named n all) ≡ is_there (deletion_at s n)
  one-there = some_there s.book all n before.sets ∙ there-by (number_named n s.book) (is_reported s.parts n)

  module _ (k : ℕ) (is : deletion_at s n ≡ Ok k) where
    facts : IsGoing s n k
    facts = going-is s n k is

    named : (k < length s.book.sets) × (n ≡ (set_at s.book k).name)
    named = name-there s.book n k facts.number

    place : (k < length s.book.sets) × (is_name n (set_at s.book k).name ≡ true)
    place = subst (IsPlace (λ b. is_name n b.name) s.book.sets) facts.number (is_place (λ b. is_name n b.name) s.book.sets)

    others : (j : ℕ) → j < length s.book.sets → j ≢ k → is_name n (set_at s.book j).name ≡ false
    others j below apart = by (is_name n (set_at s.book j).name) refl where
      by : (t : Bool) → is_name n (set_at s.book j).name ≡ t → t ≡ false
      by true same = absurd (apart (before.booked.apart j k below facts.from named.0 (sym (name-same n (set_at s.book j).name same) ∙ named.1)))
      by false same = refl

    out : is_some (find (is_named n) m.sets) ≡ false
    out = front ∙ (ap (λ o. is_below o (length m.sets)) facts.number ∙ (let past_them : nat_lt k (length m.sets) ≡ false = grind (arith, nat_tests, facts.from, before.configured) in past_them))

    pub next-before : IsBefore c past (after_deletion (Ok k) s) (without n all) (without n dyn)
    next-before = record {
      booked = booked-deleted c s.book k before.booked facts.from;
      sets = removed_is n s.book.sets k place.0 place.1 others ∙ ap (without n) before.sets;
      split = ap (without n) before.split ∙ kept_front n m.sets dyn out;
      configured = before.configured;
      uses = λ name. any-renumbered k (reference_of name.domain name.item) s.parts ∙ before.uses name;
    }

-- ---- deletions in turn

abbrev pub going_in : List SetName → State → List SetName
going_in [] s = []
going_in (n ∷ ns) s = (if is_going (deletion_at s n) then n ∷ [] else []) ++ going_in ns (after_deletion (deletion_at s n) s)

pub record AreGone (c : Config) (past : Past) (ns : List SetName) (s : State) (all dyn : List DataSet) : Type 0 where
  pub gone : gone (configured_model c) past ns all ≡ going_in ns s
  pub matched : matched (configured_model c) past ns all ≡ matched_in ns s
  pub count : length (going_in ns s) ≡ deleted_in ns s
  pub sets : map data_set (after_deletions ns s).book.sets ≡ (configured_model c).sets ++ without_all (going_in ns s) dyn
  pub configured : (after_deletions ns s).book.configured ≡ s.book.configured
  pub others : after_deletions ns s ≡ record s { book = (after_deletions ns s).book; parts = (after_deletions ns s).parts }
  pub blocks : (p : Past) → BlocksStand (configured_model c) p s.parts → BlocksStand (configured_model c) p (after_deletions ns s).parts

pub are-gone : (c : Config) (past : Past) (ns : List SetName) (s : State) (all dyn : List DataSet) → IsBefore c past s all dyn → AreGone c past ns s all dyn
are-gone c past [] s all dyn before = record {
  gone = refl;
  matched = refl;
  count = refl;
  sets = before.sets ∙ before.split;
  configured = refl;
  others = refl;
  blocks = λ p st. st;
}
are-gone c past (n ∷ ns) s all dyn before = by (deletion_at s n) refl (one-goes c past s all dyn before n) (one-there c past s all dyn before n) (are-gone c past ns)
  where
    m : Model
    m = configured_model c

    by : (r : Result ℕ DeleteFault) → deletion_at s n ≡ r → (is_some (set_named n all) && is_deletable m past n) ≡ is_going (deletion_at s n) → is_some (set_named n all) ≡ is_there (deletion_at s n)
        → ((s' : State) (all' dyn' : List DataSet) → IsBefore c past s' all' dyn' → AreGone c past ns s' all' dyn') → AreGone c past (n ∷ ns) s all dyn
    by (Ok k) is test here go =
        let after : State = after_deletion (Ok k) s in
        let rest = go after (without n all) (without n dyn) (next-before c past s all dyn before n k is) in
        let state : after_deletions (n ∷ ns) s ≡ after_deletions ns after = ap (λ r. after_deletions ns (after_deletion r s)) is in
        let names : going_in (n ∷ ns) s ≡ n ∷ going_in ns after = ap (λ r. (if is_going r then n ∷ [] else []) ++ going_in ns (after_deletion r s)) is in
        record {
          gone = ap (λ t. (if t then n ∷ [] else []) ++ gone m past ns (if t then without n all else all)) (test ∙ ap is_going is) ∙ (ap (λ l. n ∷ l) rest.gone ∙ sym names);
          matched = ap₂ (λ t u. (if t then 1 else 0) + matched m past ns (if u then without n all else all)) (here ∙ ap is_there is) (test ∙ ap is_going is)
              ∙ (ap (λ x. 1 + x) rest.matched ∙ sym (ap (λ r. one_if (is_there r) + matched_in ns (after_deletion r s)) is));
          count = ap length names ∙ (ap suc rest.count ∙ (let one : suc (deleted_in ns after) ≡ 1 + deleted_in ns after = omega arith in one ∙ sym (ap (λ r. one_if (is_going r) + deleted_in ns (after_deletion r s)) is)));
          sets = ap (λ (t : State). map data_set t.book.sets) state ∙ (rest.sets ∙ ap (λ l. m.sets ++ without_all l dyn) (sym names));
          configured = ap (λ (t : State). t.book.configured) state ∙ rest.configured;
          others = state ∙ (rest.others ∙ ap (λ (t : State). record s { book = t.book; parts = t.parts }) (sym state));
          blocks = λ p st. subst (λ (t : State). BlocksStand m p t.parts) (sym state) (rest.blocks p (stands-renumbered k m p s.parts st));
        }
    by (Err f) is test here go =
        let rest = go s all dyn before in
        let state : after_deletions (n ∷ ns) s ≡ after_deletions ns s = ap (λ r. after_deletions ns (after_deletion r s)) is in
        let names : going_in (n ∷ ns) s ≡ going_in ns s = ap (λ r. (if is_going r then n ∷ [] else []) ++ going_in ns (after_deletion r s)) is in
        record {
          gone = ap (λ t. (if t then n ∷ [] else []) ++ gone m past ns (if t then without n all else all)) (test ∙ ap is_going is) ∙ (rest.gone ∙ sym names);
          matched = ap₂ (λ t u. (if t then 1 else 0) + matched m past ns (if u then without n all else all)) (here ∙ ap is_there is) (test ∙ ap is_going is)
              ∙ (ap (λ x. one_if (is_there (Err f)) + x) rest.matched ∙ sym (ap (λ r. one_if (is_there r) + matched_in ns (after_deletion r s)) is));
          count = ap length names ∙ (rest.count ∙ (let none : deleted_in ns s ≡ 0 + deleted_in ns s = omega arith in none ∙ sym (ap (λ r. one_if (is_going r) + deleted_in ns (after_deletion r s)) is)));
          sets = ap (λ (t : State). map data_set t.book.sets) state ∙ (rest.sets ∙ ap (λ l. m.sets ++ without_all l dyn) (sym names));
          configured = ap (λ (t : State). t.book.configured) state ∙ rest.configured;
          others = state ∙ (rest.others ∙ ap (λ (t : State). record s { book = t.book; parts = t.parts }) (sym state));
          blocks = λ p st. subst (λ (t : State). BlocksStand m p t.parts) (sym state) (rest.blocks p st);
        }

-- what waits for associations and the count of steps are as before
kept-one : (r : Result ℕ DeleteFault) (s : State) → IsKept s (after_deletion r s)
kept-one (Ok k) s = record { config = refl; steps = refl; rows = refl }
kept-one (Err f) s = record { config = refl; steps = refl; rows = refl }

pub kept-deleted : (ns : List SetName) (s : State) → IsKept s (after_deletions ns s)
kept-deleted [] s = record { config = refl; steps = refl; rows = refl }
kept-deleted (n ∷ ns) s =
    let first = kept-one (deletion_at s n) s in
    let later = kept-deleted ns (after_deletion (deletion_at s n) s) in
    record { config = later.config ∙ first.config; steps = later.steps ∙ first.steps; rows = later.rows ∙ first.rows }
