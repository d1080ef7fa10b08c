-- The reply to a definition and to deletions, and the bay after it.
use Rattle.std.proofs.Common.{◌≡◌, ◌∙◌, ◌∷◌, ◌++◌, ℕ, suc, max, Bool, true, false, List, [], length, map, Option, None, Some, is_some, refl, ap, ap₂, sym, subst, append_assoc}
use Rattle.std.specs.Prelude.{◌==◌, slice_get, if◌then◌else◌}
use Rattle.std.specs.Option.{option_map, option_map_or}
use Rattle.std.proofs.lemmas.List.{length-map}
use Rattle.sv_base.specs.declared.config.Config.{Config}
use Rattle.sv_base.specs.declared.numbers.NodeId.{NodeId}
use Rattle.bay_model.specs.declared.deletion_scopes.TheConstants.{SPECIFIC}
use Rattle.bay_model.specs.declared.service_errors.TheConstants.{ACCESS, OBJECT_ACCESS_DENIED}
use Rattle.bay_model.specs.declared.reply.Reply.TheVariants as replies
use Rattle.bay_model.specs.declared.request.Service.TheVariants as services
use Rattle.bay_model.specs.declared.request.SetName.{SetName}
use Rattle.bay_model.specs.declared.request.Target.{Target}
use Rattle.bay_model.specs.declared.request.Target.TheVariants as targets
use Rattle.bay_model.specs.declared.tables.NodeRow.{NodeRow}
use Rattle.bay_model.specs.Configured.{block_defined}
use Rattle.bay_model.specs.Definitions.{definition_change, definition_error, is_set_name, number_of}
use Rattle.bay_model.specs.Deletions.{deletion_change}
use Rattle.bay_model.specs.Model.{DataSet}
use Rattle.bay_model.specs.Named.{configured_model}
use Rattle.bay_model.specs.Points.{Change, Past, answered, defined, deleted, unchanged}
use Rattle.bay_model.specs.Services.{set_name}
use Rattle.bay_model.specs.Sets.{dynamic, sets}
use Rattle.bay_model.specs.Singles.{arrival}
use Rattle.object_model.specs.Nodes.{node_rows}
use Rattle.data_sets.specs.declared.book.DefineFault.{DefineFault}
use Rattle.data_sets.specs.Books.{Booked, Book, IsSet, define_fault, defined_set, node_in, with_set}
use Rattle.data_sets.specs.Standing.{data_set}
use Rattle.data_sets.specs.Turns.{error_of}
use Rattle.data_sets.proofs.DeleteLaws.{errors_told}
use Rattle.value_store.specs.Stored.{Stored}
use Rattle.report_block.specs.declared.block.ReportBlock.{ReportBlock}
use Rattle.report_block.specs.Alls.{all_pieces, for_integrity}
use Rattle.report_block.specs.Coming.{arrived}
use Rattle.report_block.specs.Standing.{BlocksStand}
use Rattle.assoc_table.specs.Tables.{IsNumber}
use Rattle.window_core.specs.Points.{at}
use Rattle.bay_core.specs.Asked.{IsReplied, replied}
use Rattle.bay_core.specs.Deleted.{after_deletions, deleted_in, matched_in}
use Rattle.bay_core.specs.Standing.{StandsAt}
use Rattle.bay_core.specs.State.{State, IsBooked}
use Rattle.block_events.specs.Timed.{arrived_all, arrived_part}
use Rattle.bay_core.specs.Timed.{at_arrival}
use Rattle.bay_core.proofs.ArriveLaws.{HasAll, arrived-count, arrives}
use Rattle.bay_core.proofs.AskLaws.{answered-at, changed-at}
use Rattle.bay_core.proofs.DefineLaws.{are-rows}
use Rattle.bay_core.proofs.DeletionLaws.{AreGone, are-gone, going_in, uses-told}
use Rattle.block_watch.proofs.RoomLaws.{members-kept}

-- ---- a definition

-- time passes as before for blocks of the sets that were there
map-same : {A B : Type 0} (f g : A → B) (xs : List A) → ((i : ℕ) (x : A) → slice_get xs i ≡ Some x → f x ≡ g x) → map f xs ≡ map g xs
map-same f g [] same = refl
map-same f g (x ∷ xs) same = ap₂ (λ y ys. y ∷ ys) (same 0 x refl) (map-same f g xs (λ i y at. same (suc i) y at))

arrived-kept : (rows : List NodeRow) (book : Book) (s : Booked) (stored : List Stored) (was now step : ℕ) (parts : List ReportBlock) → ((b : ℕ) (part : ReportBlock) → slice_get parts b ≡ Some part → IsSet book part.set)
    → arrived_all rows (with_set s book) stored was now step parts ≡ arrived_all rows book stored was now step parts
arrived-kept rows book s stored was now step parts sets_are = map-same (arrived_part rows (with_set s book) stored was now step) (arrived_part rows book stored was now step) parts
    (λ b part at. ap (λ shapes. arrived was now step (all_pieces stored shapes for_integrity) part) (members-kept rows book s part.set (sets_are b part at)))

numbers-same : (ts : List Target) → map (λ (n : NodeId). n.0) (map node_in ts) ≡ map number_of ts
numbers-same [] = refl
numbers-same (targets.Node n name ∷ ts) = ap (λ l. n.0 ∷ l) (numbers-same ts)
numbers-same (targets.Missing name ∷ ts) = ap (λ l. 0 ∷ l) (numbers-same ts)
numbers-same (targets.Alternate name ∷ ts) = ap (λ l. 0 ∷ l) (numbers-same ts)

map-end : (bs : List Booked) (s : Booked) → map data_set (bs ++ s ∷ []) ≡ map data_set bs ++ data_set s ∷ []
map-end [] s = refl
map-end (b ∷ bs) s = ap (λ l. data_set b ∷ l) (map-end bs s)

module _ (old : State) (moment a : ℕ) (domain item : List ℕ) (ts : List Target) (number : IsNumber a) (all : HasAll old.config old.stored old.book old.parts) (named : Bool) (is : named ≡ is_set_name (configured_model old.config) (set_name domain item)) where
  abbrev name : SetName
  name = set_name domain item

  abbrev fault : Option DefineFault
  fault = define_fault old.book name named (node_rows old.config) ts

  -- the error of the model is that of the book
  error-told : (c : Config) (n : ℕ) (past : Past) → StandsAt old c n past → definition_error (configured_model c) past name ts ≡ option_map error_of fault
  error-told c n past st =
      errors_told old.book (configured_model c) past (node_rows c) name ts st.sets st.configured (are-rows c)
      ∙ (ap (λ b. option_map error_of (define_fault old.book name b (node_rows c) ts)) (ap (λ (d : Config). is_set_name (configured_model d) name) (sym st.is_config) ∙ sym is)
      ∙ ap (λ (d : Config). option_map error_of (define_fault old.book name named (node_rows d) ts)) (sym st.is_config))

  pub definition-refused : (new : State) (f : DefineFault) → fault ≡ Some f → new ≡ at_arrival moment old → IsReplied old new moment a (services.Define domain item ts) (replies.Error (error_of f).0 (error_of f).1)
  definition-refused new f fails behind = (
    λ c n past st. ap (λ o. option_map_or (λ (e : ℕ × ℕ). replies.Error e.0 e.1) o replies.Defined) (sym (error-told c n past st ∙ ap (option_map error_of) fails)),
    λ c n past output st fresh.
        let m = configured_model c in
        let change : definition_change m past name ts ≡ unchanged = ap (λ (o : Option (ℕ × ℕ)). if is_some o then unchanged else defined name (map number_of ts)) (error-told c n past st ∙ ap (option_map error_of) fails) in
        subst (λ (k : Change). StandsAt (replied new a output) c n (at n moment (answered a output k) ∷ past)) (sym change)
        (subst (λ (z : State). StandsAt (replied z a output) c n (at n moment (answered a output unchanged) ∷ past)) (sym behind)
        (answered-at (at_arrival moment old) c n moment a output past fresh number (arrives old c n moment past all st))),
  )

  pub definition-done : (new : State) → fault ≡ None → ((b : ℕ) (part : ReportBlock) → slice_get old.parts b ≡ Some part → IsSet old.book part.set)
      → new ≡ at_arrival moment (record old { book = with_set (defined_set name ts) old.book }) → IsReplied old new moment a (services.Define domain item ts) replies.Defined
  definition-done new fine sets_are behind = (
    λ c n past st. ap (λ o. option_map_or (λ (e : ℕ × ℕ). replies.Error e.0 e.1) o replies.Defined) (sym (error-told c n past st ∙ ap (option_map error_of) fine)),
    λ c n past output st fresh.
        let m = configured_model c in
        let change : definition_change m past name ts ≡ defined name (map number_of ts) = ap (λ (o : Option (ℕ × ℕ)). if is_some o then unchanged else defined name (map number_of ts)) (error-told c n past st ∙ ap (option_map error_of) fine) in
        let z : State = at_arrival moment old in
        let here = arrives old c n moment past all st in
        let s : Booked = defined_set name ts in
        let w : State = at_arrival moment (record old { book = with_set s old.book }) in
        let parts : w.parts ≡ z.parts = arrived-kept (node_rows old.config) old.book s old.stored old.latest (max old.latest moment) old.steps old.parts sets_are in
        let one : DataSet = record { domain = domain; item = item; nodes = map number_of ts } in
        let sets_then : map data_set w.book.sets ≡ m.sets ++ (dynamic past ++ one ∷ [])
        = map-end old.book.sets s ∙ (ap₂ (λ (l : List DataSet) (d : DataSet). l ++ d ∷ []) st.sets (ap (λ l. record { domain = domain; item = item; nodes = l }) (numbers-same ts)) ∙ append_assoc m.sets (dynamic past) (one ∷ [])) in
        subst (λ (k : Change). StandsAt (replied new a output) c n (at n moment (answered a output k) ∷ past)) (sym change)
        (subst (λ (v : State). StandsAt (replied v a output) c n (at n moment (answered a output (defined name (map number_of ts))) ∷ past)) (sym behind)
        (changed-at z w c n moment a output (defined name (map number_of ts)) past fresh number here refl (subst (BlocksStand m (arrival n moment ∷ past)) (sym parts) here.blocks) sets_then refl)),
  )

-- ---- deletions

pub scope-refused : (old new : State) (moment a scope : ℕ) (names : List SetName) → IsNumber a → (scope == SPECIFIC) ≡ false
    → ((c : Config) (n : ℕ) (past : Past) → StandsAt old c n past → StandsAt new c n (arrival n moment ∷ past)) → IsReplied old new moment a (services.Delete scope names) (replies.Error ACCESS OBJECT_ACCESS_DENIED)
scope-refused old new moment a scope names number other arrived_ = (
  λ c n past st. rw other refl,
  λ c n past output st fresh.
      let change : deletion_change (configured_model c) past scope names ≡ unchanged = rw other refl in
      subst (λ (k : Change). StandsAt (replied new a output) c n (at n moment (answered a output k) ∷ past)) (sym change) (answered-at new c n moment a output past fresh number (arrived_ c n past st)),
)

pub deletions-done : (old z : State) (moment a scope : ℕ) (names : List SetName) → length old.parts ≡ length old.config.blocks → IsBooked old.config old.book → IsNumber a → (scope == SPECIFIC) ≡ true
    → z ≡ at_arrival moment old → ((c : Config) (n : ℕ) (past : Past) → StandsAt old c n past → StandsAt z c n (arrival n moment ∷ past))
    → IsReplied old (after_deletions names z) moment a (services.Delete scope names) (replies.Deleted (matched_in names z) (deleted_in names z))
deletions-done old z moment a scope names count booked number all_ behind arrived_ = (
  λ c n past st.
      let m = configured_model c in
      let went = are c n past st in
      rw all_ (ap₂ (λ k l. replies.Deleted k l) (sym went.matched) (sym (ap length went.gone ∙ went.count))),
  λ c n past output st fresh.
      let m = configured_model c in
      let went = are c n past st in
      let here = arrived_ c n past st in
      let change : deletion_change m past scope names ≡ deleted (going_in names z) = rw all_ (ap deleted went.gone) in
      subst (λ (k : Change). StandsAt (replied (after_deletions names z) a output) c n (at n moment (answered a output k) ∷ past)) (sym change)
      (changed-at z (after_deletions names z) c n moment a output (deleted (going_in names z)) past fresh number here went.others (went.blocks (arrival n moment ∷ past) here.blocks) went.sets went.configured),
)
  where
    are : (c : Config) (n : ℕ) (past : Past) → StandsAt old c n past → AreGone c past names z (sets (configured_model c) past) (dynamic past)
    are c n past st =
        let here = arrived_ c n past st in
        let book : z.book ≡ old.book = ap (λ (t : State). t.book) behind in
        let parts : length z.parts ≡ length (configured_model c).blocks = ap (λ (t : State). length t.parts) behind ∙ (arrived-count old moment ∙ (count ∙ (ap (λ (d : Config). length d.blocks) st.is_config ∙ sym (length-map c.blocks block_defined)))) in
        are-gone c past names z (sets (configured_model c) past) (dynamic past) (record {
          booked = subst (IsBooked c) (sym book) (subst (λ (d : Config). IsBooked d old.book) st.is_config booked);
          sets = here.sets;
          split = refl;
          configured = here.configured;
          uses = uses-told (configured_model c) n moment past z.parts parts here.blocks;
        })
