-- A data set that a client defines: the book, the blocks and the index with it, and why one is refused.
use Rattle.std.proofs.Common.{◌≡◌, ◌≢◌, ◌<◌, ◌≤◌, ◌-◌, ◌∙◌, ◌∷◌, ◌++◌, ℕ, zero, suc, Bool, true, false, not, List, [], length, map, Option, None, Some, is_some, refl, ap, ap₂, sym, subst, arith, inl, inr, true≢false, ◌⊎◌}
use Rattle.std.specs.Prelude.{◌==◌, ◌&&◌, ◌||◌, unwrap_or, nat_le, nat_lt, slice_get, slice_index_or, if◌then◌else◌}
use Rattle.std.specs.List.{All, list_all, after_first}
use Rattle.std.specs.Option.{option_map}
use Rattle.std.specs.Str.{bytes_eq}
use Rattle.std.proofs.lemmas.Bool.{and_parts, or_parts}
use Rattle.std.proofs.lemmas.Bool.Decides.{leb_tells, nat_tests}
use Rattle.std.proofs.lemmas.List.{length-map}
use Rattle.std.proofs.lemmas.List.Elements.{All-nil, All-cons}
use Rattle.std.proofs.lemmas.Option.{slice_get-get_or}
use Rattle.std.proofs.lemmas.Slice.Eq.{bytes_eq-Decides}
use Rattle.sv_base.specs.declared.config.Config.{Config}
use Rattle.sv_base.specs.declared.numbers.NodeId.{NodeId}
use Rattle.sv_base.specs.Filled.{Filled}
use Rattle.bay_model.specs.declared.request.SetName.{SetName}
use Rattle.bay_model.specs.declared.request.Target.{Target}
use Rattle.bay_model.specs.declared.request.Target.TheVariants as targets
use Rattle.bay_model.specs.declared.tables.NodeRow.{NodeRow}
use Rattle.bay_model.specs.Breaks.{is_empty}
use Rattle.bay_model.specs.Definitions.{has_node, is_name as is_name_text, is_set_name}
use Rattle.bay_model.specs.Lookups.{node_of}
use Rattle.bay_model.specs.Model.{Node, several, structure, none}
use Rattle.bay_model.specs.Named.{configured_model, nodes}
use Rattle.bay_model.specs.Reports.{reference_at}
use Rattle.object_model.specs.Nodes.{node_rows}
use Rattle.object_model.proofs.TableLaws.{count-rows, rows-are-nodes}
use Rattle.set_view.specs.Shapes.{no_row}
use Rattle.data_sets.specs.declared.book.DefineFault.TheVariants as define
use Rattle.data_sets.specs.Books.{Booked, Book, IsSet, define_fault, defined_set, is_member, is_name, no_set, node_in, number_named, number_referred, place_of, reference, set_at, with_set}
use Rattle.data_sets.specs.Standing.{IsNamed, data_set}
use Rattle.data_sets.specs.Turns.{AreRows}
use Rattle.data_sets.proofs.BookLaws.{IsPlace, at_front, at_last, is_place, length_more, no-reference}
use Rattle.data_sets.proofs.PlaceLaws.{no_place}
use Rattle.value_store.specs.Stored.{Stored}
use Rattle.setting_groups.specs.Grouped.{Grouped}
use Rattle.report_block.specs.declared.block.ReportBlock.{ReportBlock}
use Rattle.report_block.specs.declared.events.EventRoom.{EventRoom}
use Rattle.touch_index.specs.Indexed.{block_at, pairs}
use Rattle.set_view.specs.Shapes.{shapes_of}
use Rattle.bay_config.specs.Servable.{IsMember, IsServable, IsServedSet}
use Rattle.block_watch.specs.declared.watch.Watch.{Watch}
use Rattle.bay_core.specs.Deleted.{IsNewSet}
use Rattle.bay_core.specs.State.{IsBooked}
use Rattle.block_watch.specs.Watched.{IsRoomier, IsWatching}
use Rattle.bay_core.specs.Whole.{IsWhole}
use Rattle.control_core.specs.Tables.{Table}
use Rattle.block_watch.proofs.BookLaws.{number-there}
use Rattle.block_watch.proofs.RoomLaws.{indexed-defined, indexed-roomier}
use Rattle.list_laws.proofs.Truths.{not-false}
use Rattle.list_laws.proofs.Options.{none_of}

-- ---- what is found as before

place-kept : (p : Booked → Bool) (bs : List Booked) (x : Booked) (k : ℕ) → place_of p bs ≡ Some k → place_of p (bs ++ x ∷ []) ≡ Some k
place-kept p [] x k is = cc
place-kept p (b ∷ bs) x k is = by (p b) (place-kept p bs x) is
  where
    from : (o : Option ℕ) → place_of p bs ≡ o → ((j : ℕ) → place_of p bs ≡ Some j → place_of p (bs ++ x ∷ []) ≡ Some j) → option_map suc o ≡ Some k → option_map suc (place_of p (bs ++ x ∷ [])) ≡ Some k
    from None at go e = cc
    from (Some j) at go e = ap (option_map suc) (go j at) ∙ e

    by : (t : Bool) → ((j : ℕ) → place_of p bs ≡ Some j → place_of p (bs ++ x ∷ []) ≡ Some j) → (if t then Some 0 else option_map suc (place_of p bs)) ≡ Some k
        → (if t then Some 0 else option_map suc (place_of p (bs ++ x ∷ []))) ≡ Some k
    by true go e = e
    by false go e = from (place_of p bs) refl go (e)

-- nothing is referred to by an empty DatSet
pub empty-refers : (book : Book) → number_referred [] book ≡ None
empty-refers book = no_place (λ s. bytes_eq [] (reference s)) book.sets (λ j below. no-reference (set_at book j).name.domain (set_at book j).name.item)

pub referred-kept : (book : Book) (s : Booked) (d : List ℕ) → IsNamed book d → number_referred d (with_set s book) ≡ number_referred d book
referred-kept book s d (inl e) = ap (λ x. number_referred x (with_set s book)) e ∙ (empty-refers (with_set s book) ∙ (sym (empty-refers book) ∙ ap (λ x. number_referred x book) (sym e)))
referred-kept book s d (inr some) = by (number_referred d book) refl some
  where
    by : (o : Option ℕ) → number_referred d book ≡ o → is_some o ≡ true → number_referred d (with_set s book) ≡ o
    by None at is = cc
    by (Some k) at is = place-kept (λ b. bytes_eq d (reference b)) book.sets s k at

pub named-kept : (book : Book) (s : Booked) (d : List ℕ) → IsNamed book d → IsNamed (with_set s book) d
named-kept book s d (inl e) = inl e
named-kept book s d (inr some) = inr (ap is_some (referred-kept book s d (inr some)) ∙ some)

-- ---- the book with the set

same-is-name : (n m : SetName) → n ≡ m → is_name n m ≡ true
same-is-name n m e = subst (λ x. is_name n x ≡ true) e (ap₂ (λ x y. x && y) (own n.domain) (own n.item))
  where
    own : (t : List ℕ) → bytes_eq t t ≡ true
    own t = grind (arith, bytes_eq-Decides t t)

module _ (c : Config) (book : Book) (s : Booked) (old : IsBooked c book) (new : IsNewSet c book s) where
  abbrev more : List Booked
  more = book.sets ++ s ∷ []

  -- an old set, or the new one
  abbrev At : ℕ → Type 0
  At k = ((k < length book.sets) × (slice_index_or more k no_set ≡ set_at book k)) ⊎ ((k ≡ length book.sets) × (slice_index_or more k no_set ≡ s))

  which : (k : ℕ) → k < length more → At k
  which k below = elim (leb_tells (suc k) (length book.sets)) [
    | inl t ↦ inl (t.1, at_front book.sets s no_set k t.1)
    | inr t ↦ let last : k ≡ length book.sets = omega (arith, t.1, below, length_more book.sets s) in inr (last, ap (λ i. slice_index_or more i no_set) last ∙ at_last book.sets s no_set)
  ]

  nobody : (k : ℕ) → k < length book.sets → is_name s.name (set_at book k).name ≡ false
  nobody = subst (IsPlace (λ b. is_name s.name b.name) book.sets) new.name (is_place (λ b. is_name s.name b.name) book.sets)

  other-name : (k : ℕ) → k < length book.sets → s.name ≡ (set_at book k).name → ⊥
  other-name k below e = true≢false (sym (same-is-name s.name (set_at book k).name e) ∙ nobody k below)

  alone : (j k : ℕ) → At j → At k → book.configured ≤ k → (slice_index_or more j no_set).name ≡ (slice_index_or more k no_set).name → j ≡ k
  alone j k (inl x) (inl y) from e = old.apart j k x.0 from y.0 (sym (ap (λ (b : Booked). b.name) x.1) ∙ (e ∙ ap (λ (b : Booked). b.name) y.1))
  alone j k (inl x) (inr y) from e = absurd (other-name j x.0 (sym (ap (λ (b : Booked). b.name) y.1) ∙ (sym e ∙ ap (λ (b : Booked). b.name) x.1)))
  alone j k (inr x) (inl y) from e = absurd (other-name k y.0 (sym (ap (λ (b : Booked). b.name) x.1) ∙ (e ∙ ap (λ (b : Booked). b.name) y.1)))
  alone j k (inr x) (inr y) from e = x.0 ∙ sym y.0

  -- what each set has, the new one has too
  each : (P : Booked → Type 0) → ((k : ℕ) → k < length book.sets → P (set_at book k)) → P s → (k : ℕ) → k < length more → P (slice_index_or more k no_set)
  each P all own k below = by (which k below) where
    by : At k → P (slice_index_or more k no_set)
    by (inl x) = subst P (sym x.1) (all k x.0)
    by (inr x) = subst P (sym x.1) own

  pub booked-defined : IsBooked c (with_set s book)
  booked-defined = record {
    served = each (λ b. IsServedSet c (data_set b)) old.served new.served;
    named = each (λ b. b.name.item ≢ []) old.named new.named;
    apart = λ j k lj from lk e. alone j k (which j lj) (which k lk) from e;
    free = each (λ b. b.holds ≡ 0) old.free new.free;
  }

-- ---- the parts with it

pub whole-defined : (c : Config) (stored : List Stored) (groups : Grouped) (book : Book) (s : Booked) (parts : List ReportBlock) (w v : Watch) (octets : Filled ℕ) (room latest : ℕ) (dues : List (Option ℕ)) (events : EventRoom) (controls : Table)
    → IsNewSet c book s → v ≡ record w { index = v.index } → IsRoomier w.index v.index → ((b : ℕ) → b < length w.index.blocks → pairs (shapes_of (node_rows c) s.nodes) ≤ (block_at v.index.blocks b).room)
    → IsWhole c stored groups book parts w octets room latest dues events controls → IsWhole c stored groups (with_set s book) parts v octets room latest dues events controls
whole-defined c stored groups book s parts w v octets room latest dues events controls new same more roomy whole =
    let f = whole.furnished in
    record {
      furnished = record {
        servable = f.servable;
        values = f.values;
        count = f.count;
        booked = booked-defined c book s f.booked new;
        sets = λ b part at. f.sets b part at ∙ sym (referred-kept book s part.block.options.dat_set (f.dat_sets b part at));
        dat_sets = λ b part at. named-kept book s part.block.options.dat_set (f.dat_sets b part at);
        windows = f.windows;
        watch = subst (IsWatching (node_rows c) (with_set s book) (length stored) parts) (sym same) (record {
          index = indexed-defined (node_rows c) book s (length stored) parts w.index v.index f.watch.index more (λ b part at. subst (IsSet book) (sym (f.sets b part at)) (number-there part.block.options.dat_set book)) roomy;
          options = f.watch.options;
          notes = f.watch.notes;
        });
        entry = f.entry;
        changes = f.changes;
      };
      quiet = whole.quiet;
      grouped = whole.grouped;
      roomy = whole.roomy;
      controls = whole.controls;
    }

-- more capacity alone leaves a bay whole
pub whole-roomier : (c : Config) (stored : List Stored) (groups : Grouped) (book : Book) (parts : List ReportBlock) (w v : Watch) (octets : Filled ℕ) (room latest : ℕ) (dues : List (Option ℕ)) (events : EventRoom) (controls : Table)
    → v ≡ record w { index = v.index } → IsRoomier w.index v.index → IsWhole c stored groups book parts w octets room latest dues events controls → IsWhole c stored groups book parts v octets room latest dues events controls
whole-roomier c stored groups book parts w v octets room latest dues events controls same more whole =
    let f = whole.furnished in
    record {
      furnished = record {
        servable = f.servable;
        values = f.values;
        count = f.count;
        booked = f.booked;
        sets = f.sets;
        dat_sets = f.dat_sets;
        windows = f.windows;
        watch = subst (IsWatching (node_rows c) book (length stored) parts) (sym same) (record {
          index = indexed-roomier (node_rows c) book (length stored) parts w.index v.index more f.watch.index;
          options = f.watch.options;
          notes = f.watch.notes;
        });
        entry = f.entry;
        changes = f.changes;
      };
      quiet = whole.quiet;
      grouped = whole.grouped;
      roomy = whole.roomy;
      controls = whole.controls;
    }

-- ---- what is asked of a definition

no-fault : (p r t : Bool) → (if p then Some define.Exists else (if r then Some define.NoSuchMember else (if t then Some define.Full else None))) ≡ None → (p ≡ false) × (r ≡ false) × (t ≡ false)
no-fault true r t is = cc
no-fault false true t is = cc
no-fault false false true is = cc
no-fault false false false is = (refl, refl, refl)

-- the rows have the right of nodes to be members
out-of-rows : (rows : List NodeRow) (n : ℕ) → length rows ≤ n → slice_index_or rows n no_row ≡ no_row
out-of-rows [] n past = refl
out-of-rows (r ∷ rows) zero past = absurd (omega (arith, past))
out-of-rows (r ∷ rows) (suc n) past = out-of-rows rows n (omega (arith, past))

abbrev no_node : Node
no_node = record { domain = []; item = []; role = several; tree = structure none; attrs = []; allowed = false }

out-of-nodes : (ns : List Node) (n : ℕ) → length ns ≤ n → slice_get ns n ≡ None
out-of-nodes [] n past = refl
out-of-nodes (m ∷ ns) zero past = absurd (omega (arith, past))
out-of-nodes (m ∷ ns) (suc n) past = out-of-nodes ns n (omega (arith, past))

pub are-rows : (c : Config) → AreRows (configured_model c) (node_rows c)
are-rows c = λ n. elim (leb_tells (suc n.0) (length (node_rows c))) [
  | inl t ↦ sym (rows-are-nodes c n.0 (slice_index_or (node_rows c) n.0 no_row) (slice_get-get_or (node_rows c) n.0 no_row t.1)).allowed
  | inr t ↦
      let past : length (node_rows c) ≤ n.0 = omega (arith, t.1) in
      let gone : (node_of (configured_model c) n.0).allowed ≡ false = ap (λ (o : Option Node). (unwrap_or o no_node).allowed) (out-of-nodes (nodes c) n.0 (omega (arith, past, count-rows c))) in
      gone ∙ sym (ap (λ (r : NodeRow). r.allowed && nat_le r.octets 500) (out-of-rows (node_rows c) n.0 past))
]

-- each member can be one
module _ (c : Config) (served : IsServable c) where
  abbrev IsShort : ℕ → Type 0
  IsShort n = length (reference_at (configured_model c) n) ≤ 129

  allowed-of : (t : Target) → is_member (node_rows c) t ≡ true → (node_of (configured_model c) (node_in t).0).allowed ≡ true
  allowed-of (targets.Node n name) is = are-rows c n ∙ is
  allowed-of (targets.Missing name) is = cc
  allowed-of (targets.Alternate name) is = cc

  members-of : (ts : List Target) → list_all (is_member (node_rows c)) ts ≡ true → All (IsMember c) (map (λ (n : NodeId). n.0) (map node_in ts)) × All IsShort (map (λ (n : NodeId). n.0) (map node_in ts))
  members-of [] is = (All-nil (IsMember c), All-nil IsShort)
  members-of (t ∷ ts) is =
      let parts = and_parts (is_member (node_rows c) t) (list_all (is_member (node_rows c)) ts) is in
      let own = served.allowed (node_in t).0 (allowed-of t parts.0) in
      let others = members-of ts parts.1 in
      (All-cons (IsMember c) (node_in t).0 (map (λ (n : NodeId). n.0) (map node_in ts)) own.member others.0, All-cons IsShort (node_in t).0 (map (λ (n : NodeId). n.0) (map node_in ts)) own.short others.1)

  some-item : (name : SetName) → is_set_name (configured_model c) name ≡ true → name.item ≢ []
  some-item name is e =
      let parts = and_parts (has_node (configured_model c) name.domain _ && is_name_text (after_first (λ o. o == 36) name.item)) _ is in
      let text = (and_parts (has_node (configured_model c) name.domain _) (is_name_text (after_first (λ o. o == 36) name.item)) parts.0).1 in
      true≢false (sym text ∙ ap (λ (t : List ℕ). is_name_text (after_first (λ o. o == 36) t)) e)

  pub new-set : (book : Book) (name : SetName) (named : Bool) (ts : List Target) → named ≡ is_set_name (configured_model c) name → define_fault book name named (node_rows c) ts ≡ None → IsNewSet c book (defined_set name ts)
  new-set book name named ts is fine =
      let tests = no-fault (is_some (number_named name book)) (not named || is_empty ts || not (list_all (is_member (node_rows c)) ts)) (nat_lt 256 (length ts) || nat_le 64 (length book.sets - book.configured)) fine in
      let fit = or_parts (not named || is_empty ts) (not (list_all (is_member (node_rows c)) ts)) tests.1 in
      let front = or_parts (not named) (is_empty ts) fit.0 in
      let few = or_parts (nat_lt 256 (length ts)) (nat_le 64 (length book.sets - book.configured)) tests.2 in
      let members = members-of ts (not-false (list_all (is_member (node_rows c)) ts) fit.1) in
      let most : length ts ≤ 256 = grind (arith, nat_tests, few.0) in
      let room : length book.sets - book.configured < 64 = grind (arith, nat_tests, few.1) in
      record {
        few = room;
        served = record { few = omega (arith, most, length-map (map node_in ts) (λ (n : NodeId). n.0), length-map ts node_in); members = members.0; short = members.1 };
        name = none_of (number_named name book) tests.0;
        named = some-item name (sym is ∙ not-false named front.0);
        free = refl;
      }
