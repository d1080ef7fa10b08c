-- A data set that goes from the book: what is found then, and the blocks with their numbers.
use Rattle.std.proofs.Common.{◌≡◌, ◌≢◌, ◌<◌, ◌≤◌, ◌-◌, ◌∙◌, ◌∷◌, ◌++◌, ℕ, zero, suc, Bool, true, false, List, [], length, map, take, drop, Option, None, Some, is_some, refl, ap, ap₂, sym, subst, arith, inl, inr, true≢false}
use Rattle.std.specs.Prelude.{◌||◌, nat_lt, slice_get, slice_index_or, if◌then◌else◌}
use Rattle.std.specs.List.{list_any}
use Rattle.std.specs.Option.{option_map}
use Rattle.std.specs.Str.{bytes_eq}
use Rattle.std.proofs.lemmas.Bool.Decides.{nat_tests}
use Rattle.std.proofs.lemmas.List.{length-map}
use Rattle.list_laws.proofs.Places.{got-map}
use Rattle.sv_base.specs.declared.config.Config.{Config}
use Rattle.sv_base.specs.Filled.{Filled}
use Rattle.bay_model.specs.declared.flags.Trg.{Trg}
use Rattle.bay_model.specs.declared.request.SetName.{SetName}
use Rattle.bay_model.specs.Lookups.{reference_of}
use Rattle.object_model.specs.Nodes.{node_rows}
use Rattle.set_view.specs.Shapes.{shapes_of}
use Rattle.data_sets.specs.Books.{Booked, Book, after_delete, is_name, no_set, nodes_in, number_named, number_referred, place_of, reference, set_at}
use Rattle.data_sets.specs.Standing.{IsNamed, data_set}
use Rattle.data_sets.proofs.BookLaws.{IsPlace, at_removed, is_place, old, old_below, old_one}
use Rattle.brcb_state.specs.Components.{trg_of}
use Rattle.value_store.specs.Stored.{Stored}
use Rattle.setting_groups.specs.Grouped.{Grouped}
use Rattle.touch_index.specs.Indexed.{block_at, pairs}
use Rattle.touch_index.specs.Gathered.{IsSetOf}
use Rattle.report_block.specs.declared.block.ReportBlock.{ReportBlock}
use Rattle.report_block.specs.declared.events.EventRoom.{EventRoom}
use Rattle.report_block.specs.Writes.{moved, renumbered}
use Rattle.bay_config.specs.Servable.{IsServedSet}
use Rattle.block_watch.specs.declared.watch.Watch.{Watch}
use Rattle.bay_core.specs.Deleted.{is_reported}
use Rattle.bay_core.specs.State.{IsBooked, IsFurnished}
use Rattle.block_watch.specs.Watched.{AreBlank, members_in, options_in}
use Rattle.bay_core.specs.Whole.{IsWhole}
use Rattle.control_core.specs.Tables.{Table}
use Rattle.block_events.proofs.QuietLaws.{quiet-map}
use Rattle.data_sets.proofs.RoomLaws.{old_above}
use Rattle.list_laws.proofs.Truths.{and-left, and-right}
use Rattle.list_laws.proofs.Distinct.{octets_same}
use Rattle.list_laws.proofs.Options.{some_mapped}

-- ---- the places before and after

old-low : (k i : ℕ) → i < k → old k i ≡ i
old-low zero i h = absurd (omega (arith, h))
old-low (suc k) zero h = refl
old-low (suc k) (suc i) h = ap suc (old-low k i (omega (arith, h)))

old-high : (k i : ℕ) → k ≤ i → old k i ≡ suc i
old-high zero i h = refl
old-high (suc k) zero h = absurd (omega (arith, h))
old-high (suc k) (suc i) h = ap suc (old-high k i (omega (arith, h)))

-- a place that stays is found again
old-moved : (k j : ℕ) → j ≢ k → old k (if nat_lt k j then j - 1 else j) ≡ j
old-moved k j apart = by (nat_lt k j) refl where
  by : (t : Bool) → nat_lt k j ≡ t → old k (if t then j - 1 else j) ≡ j
  by true is = let above : k < j = grind (arith, nat_tests, is) in let next : suc (j - 1) ≡ j = omega (arith, above) in old-high k (j - 1) (omega (arith, above)) ∙ next
  by false is = let below : j ≤ k = grind (arith, nat_tests, is) in old-low k j (omega (arith, below, apart))

moved-first : (o : Option ℕ) → o ≡ moved 0 (option_map suc o)
moved-first None = refl
moved-first (Some j) =
    let above : nat_lt 0 (suc j) ≡ true = grind (arith, nat_tests) in
    let less : j ≡ suc j - 1 = omega arith in
    ap Some less ∙ ap (λ t. Some (if t then suc j - 1 else suc j)) (sym above)

moved-next : (k : ℕ) (o : Option ℕ) → option_map suc (moved k o) ≡ moved (suc k) (option_map suc o)
moved-next k None = refl
moved-next k (Some j) =
    let same : nat_lt (suc k) (suc j) ≡ nat_lt k j = grind (arith, nat_tests) in
    by (nat_lt k j) refl ∙ ap (λ t. Some (if t then suc j - 1 else suc j)) (sym same)
  where
    by : (t : Bool) → nat_lt k j ≡ t → Some (suc (if t then j - 1 else j)) ≡ Some (if t then suc j - 1 else suc j)
    by true is = let above : k < j = grind (arith, nat_tests, is) in let e : suc (j - 1) ≡ suc j - 1 = omega (arith, above) in ap Some e
    by false is = refl

-- what is found of a test that the one which goes doesn't pass
pub moved-place : (p : Booked → Bool) (bs : List Booked) (k : ℕ) → p (slice_index_or bs k no_set) ≡ false → place_of p (take k bs ++ drop (suc k) bs) ≡ moved k (place_of p bs)
moved-place p [] zero none = refl
moved-place p [] (suc k) none = refl
moved-place p (b ∷ bs) zero none = moved-first (place_of p bs) ∙ ap (λ t. moved 0 (if t then Some 0 else option_map suc (place_of p bs))) (sym none)
moved-place p (b ∷ bs) (suc k) none = by (p b) (moved-place p bs k none) where
  by : (t : Bool) → place_of p (take k bs ++ drop (suc k) bs) ≡ moved k (place_of p bs)
      → (if t then Some 0 else option_map suc (place_of p (take k bs ++ drop (suc k) bs))) ≡ moved (suc k) (if t then Some 0 else option_map suc (place_of p bs))
  by true later = let least : nat_lt (suc k) 0 ≡ false = grind (arith, nat_tests) in ap (λ t. Some (if t then 0 - 1 else 0)) (sym least)
  by false later = ap (option_map suc) later ∙ moved-next k (place_of p bs)

-- the nodes of a set that stays
nodes-moved : (book : Book) (k : ℕ) (o : Option ℕ) → (o ≡ Some k → ⊥) → nodes_in (after_delete k book) (moved k o) ≡ nodes_in book o
nodes-moved book k None apart = refl
nodes-moved book k (Some j) apart = ap (λ (s : Booked). s.nodes) (at_removed book.sets k (if nat_lt k j then j - 1 else j) ∙ ap (λ i. slice_index_or book.sets i no_set) (old-moved k j (λ e. apart (ap Some e))))

-- ---- the name of what goes

pub name-same : (n m : SetName) → is_name n m ≡ true → n ≡ m
name-same n m is = ap₂ (λ (d i : List ℕ). record { domain = d; item = i }) (octets_same n.domain m.domain (and-left _ _ is)) (octets_same n.item m.item (and-right _ _ is))

pub name-there : (book : Book) (n : SetName) (k : ℕ) → number_named n book ≡ Some k → (k < length book.sets) × (n ≡ (set_at book k).name)
name-there book n k is =
    let place = subst (IsPlace (λ (s : Booked). is_name n s.name) book.sets) is (is_place (λ (s : Booked). is_name n s.name) book.sets) in
    (place.0, name-same n (set_at book k).name place.1)

-- ---- no block reports it

none-reports : (parts : List ReportBlock) (r : List ℕ) (b : ℕ) (part : ReportBlock) → list_any (λ (p : ReportBlock). bytes_eq p.block.options.dat_set r) parts ≡ false → slice_get parts b ≡ Some part
    → bytes_eq part.block.options.dat_set r ≡ false
none-reports [] r b part none at = cc
none-reports (p ∷ parts) r b part none at = by (bytes_eq p.block.options.dat_set r) refl none (none-reports parts r) b at where
  by : (t : Bool) → bytes_eq p.block.options.dat_set r ≡ t → (t || list_any (λ (p : ReportBlock). bytes_eq p.block.options.dat_set r) parts) ≡ false
      → ((i : ℕ) (q : ReportBlock) → list_any (λ (p : ReportBlock). bytes_eq p.block.options.dat_set r) parts ≡ false → slice_get parts i ≡ Some q → bytes_eq q.block.options.dat_set r ≡ false)
      → (b : ℕ) → slice_get (p ∷ parts) b ≡ Some part → bytes_eq part.block.options.dat_set r ≡ false
  by true is none later b at = cc
  by false is none later zero at = let same : p ≡ part = cc in ap (λ (q : ReportBlock). bytes_eq q.block.options.dat_set r) (sym same) ∙ is
  by false is none later (suc b) at = later b part none at

-- ---- the book without it

module _ (c : Config) (book : Book) (k : ℕ) (was : IsBooked c book) (from : book.configured ≤ k) where
  abbrev rest : List Booked
  rest = take k book.sets ++ drop (suc k) book.sets

  each-left : (P : Booked → Type 0) → ((j : ℕ) → j < length book.sets → P (set_at book j)) → (j : ℕ) → j < length rest → P (slice_index_or rest j no_set)
  each-left P all j below = subst P (sym (at_removed book.sets k j)) (all (old k j) (old_below book.sets k j below))

  pub booked-deleted : IsBooked c (after_delete k book)
  booked-deleted = record {
    served = each-left (λ s. IsServedSet c (data_set s)) was.served;
    named = each-left (λ s. s.name.item ≢ []) was.named;
    apart = λ i j li first lj e. old_one k i j (was.apart (old k i) (old k j) (old_below book.sets k i li) (omega (arith, first, old_above k j)) (old_below book.sets k j lj)
        (ap (λ (s : Booked). s.name) (sym (at_removed book.sets k i)) ∙ (e ∙ ap (λ (s : Booked). s.name) (at_removed book.sets k j))));
    free = each-left (λ s. s.holds ≡ 0) was.free;
  }

-- ---- the parts then

module _ (c : Config) (stored : List Stored) (book : Book) (parts : List ReportBlock) (w : Watch) (octets : Filled ℕ) (room : ℕ) (f : IsFurnished c stored book parts w octets room)
    (n : SetName) (k : ℕ) (is : number_named n book ≡ Some k) (from : book.configured ≤ k) (unused : is_reported parts n ≡ false) where
  -- the DatSet of a part isn't its reference
  other : (b : ℕ) (part : ReportBlock) → slice_get parts b ≡ Some part → bytes_eq part.block.options.dat_set (reference (set_at book k)) ≡ false
  other b part at = ap (λ (m : SetName). bytes_eq part.block.options.dat_set (reference_of m.domain m.item)) (sym (name-there book n k is).1) ∙ none-reports parts (reference_of n.domain n.item) b part unused at

  found : (b : ℕ) (part : ReportBlock) → slice_get parts b ≡ Some part → number_referred part.block.options.dat_set (after_delete k book) ≡ moved k (number_referred part.block.options.dat_set book)
  found b part at = moved-place (λ s. bytes_eq part.block.options.dat_set (reference s)) book.sets k (other b part at)

  -- so its number is another
  apart-of : (b : ℕ) (part : ReportBlock) → slice_get parts b ≡ Some part → part.set ≡ Some k → ⊥
  apart-of b part at e =
      let d = part.block.options.dat_set in
      let place = subst (IsPlace (λ s. bytes_eq d (reference s)) book.sets) (sym (f.sets b part at) ∙ e) (is_place (λ s. bytes_eq d (reference s)) book.sets) in
      true≢false (sym place.1 ∙ other b part at)

  abbrev after : List ReportBlock
  after = map (renumbered k) parts

  options-same : (ps : List ReportBlock) → options_in ps ≡ options_in (map (renumbered k) ps)
  options-same [] = refl
  options-same (p ∷ ps) = ap (λ (ts : List Trg). trg_of p.block.options.trg_ops ∷ ts) (options-same ps)

  members-same : (b : ℕ) (part : ReportBlock) → slice_get parts b ≡ Some part → members_in (node_rows c) book part ≡ members_in (node_rows c) (after_delete k book) (renumbered k part)
  members-same b part at = ap (shapes_of (node_rows c)) (sym (nodes-moved book k part.set (apart-of b part at)))

  still-named : (b : ℕ) (part : ReportBlock) → slice_get parts b ≡ Some part → IsNamed book part.block.options.dat_set → IsNamed (after_delete k book) part.block.options.dat_set
  still-named b part at (inl e) = inl e
  still-named b part at (inr some) = inr (ap is_some (found b part at) ∙ (some_mapped (λ j. if nat_lt k j then j - 1 else j) (number_referred part.block.options.dat_set book) ∙ some))

  pub furnished-deleted : IsFurnished c stored (after_delete k book) after w octets room
  furnished-deleted = record {
    servable = f.servable;
    values = f.values;
    count = length-map parts (renumbered k) ∙ f.count;
    booked = booked-deleted c book k f.booked from;
    sets = λ b part at. (let was = got-map (renumbered k) parts b part at in
        subst (λ (p : ReportBlock). p.set ≡ number_referred p.block.options.dat_set (after_delete k book)) was.2 (ap (moved k) (f.sets b was.0 was.1) ∙ sym (found b was.0 was.1)));
    dat_sets = λ b part at. (let was = got-map (renumbered k) parts b part at in
        subst (λ (p : ReportBlock). IsNamed (after_delete k book) p.block.options.dat_set) was.2 (still-named b was.0 was.1 (f.dat_sets b was.0 was.1)));
    windows = λ b part at. (let was = got-map (renumbered k) parts b part at in subst (λ (p : ReportBlock). p.window.members ≡ 256) was.2 (f.windows b was.0 was.1));
    watch = record {
      index = record {
        attrs = f.watch.index.attrs;
        count = f.watch.index.count ∙ sym (length-map parts (renumbered k));
        touches = λ b part at. (let was = got-map (renumbered k) parts b part at in
            subst (λ (p : ReportBlock). IsSetOf w.index.blocks b (members_in (node_rows c) (after_delete k book) p)) was.2 (subst (IsSetOf w.index.blocks b) (members-same b was.0 was.1) (f.watch.index.touches b was.0 was.1)));
        roomy = λ b j within below. subst (λ (s : Booked). pairs (shapes_of (node_rows c) s.nodes) ≤ (block_at w.index.blocks b).room) (sym (at_removed book.sets k j)) (f.watch.index.roomy b (old k j) within (old_below book.sets k j below));
      };
      options = f.watch.options ∙ options-same parts;
      notes = subst (λ q. AreBlank q w.notes) (sym (length-map parts (renumbered k))) f.watch.notes;
    };
    entry = f.entry;
    changes = f.changes;
  }

pub whole-deleted : (c : Config) (stored : List Stored) (groups : Grouped) (book : Book) (parts new : List ReportBlock) (w : Watch) (octets : Filled ℕ) (room latest : ℕ) (dues : List (Option ℕ)) (events : EventRoom) (controls : Table) (n : SetName) (k : ℕ)
    → number_named n book ≡ Some k → book.configured ≤ k → is_reported parts n ≡ false → new ≡ map (renumbered k) parts
    → IsWhole c stored groups book parts w octets room latest dues events controls → IsWhole c stored groups (after_delete k book) new w octets room latest dues events controls
whole-deleted c stored groups book parts new w octets room latest dues events controls n k is from unused are whole = record {
  furnished = subst (λ ps. IsFurnished c stored (after_delete k book) ps w octets room) (sym are) (furnished-deleted c stored book parts w octets room whole.furnished n k is from unused);
  quiet = quiet-map latest dues (renumbered k) (λ p. refl) parts new are whole.quiet;
  grouped = whole.grouped;
  roomy = whole.roomy;
  controls = whole.controls;
}
