-- The parts fit the configuration as long as each has the number of the data set that its DatSet names.
use Rattle.std.proofs.Common.{◌≡◌, ◌≤◌, ◌*◌, ℕ, List, Some, ◌∙◌, length, map, ap, sym, subst, inl, inr, arith}
use Rattle.std.specs.Prelude.{slice_get, slice_set}
use Rattle.std.proofs.lemmas.List.{length-map, length-set}
use Rattle.list_laws.proofs.Places.{got-map, got-set}
use Rattle.sv_base.specs.declared.config.Config.{Config}
use Rattle.sv_base.specs.Filled.{Filled}
use Rattle.bay_model.specs.Model.{Parameters}
use Rattle.object_model.specs.Nodes.{node_rows}
use Rattle.data_sets.specs.Books.{Book, number_referred}
use Rattle.data_sets.specs.Standing.{IsNamed}
use Rattle.value_store.specs.Stored.{Stored}
use Rattle.report_block.specs.declared.block.ReportBlock.{ReportBlock}
use Rattle.block_watch.specs.declared.watch.Watch.{Watch}
use Rattle.bay_core.specs.State.{IsFurnished}
use Rattle.block_watch.specs.Watched.{IsLent, IsWatching, members_in}
use Rattle.block_watch.proofs.BookLaws.{part-lent, part-members}
use Rattle.block_watch.proofs.ShapeLaws.{served_members}
use Rattle.block_watch.proofs.WatchLaws.{watching-map}

module _ (c : Config) (stored : List Stored) (book : Book) (parts : List ReportBlock) (w : Watch) (octets : Filled ℕ) (room : ℕ) (old : IsFurnished c stored book parts w octets room) where
  -- a part has the number of the data set that its DatSet names
  abbrev pub HasSet : ReportBlock → Type 0
  HasSet p = p.set ≡ number_referred p.block.options.dat_set book

  pub furnished-map : (f : ReportBlock → ReportBlock) → ((p : ReportBlock) → (f p).set ≡ p.set) → ((p : ReportBlock) → (f p).window.members ≡ p.window.members)
      → ((p : ReportBlock) → (f p).block.options ≡ p.block.options) → IsFurnished c stored book (map f parts) w octets room
  furnished-map f same rooms options = record {
    servable = old.servable;
    values = old.values;
    count = length-map parts f ∙ old.count;
    booked = old.booked;
    sets = λ b part there. (let was = got-map f parts b part there in
        subst HasSet was.2 (same was.0 ∙ (old.sets b was.0 was.1 ∙ ap (λ (o : Parameters). number_referred o.dat_set book) (sym (options was.0)))));
    dat_sets = λ b part there. (let was = got-map f parts b part there in
        subst (λ (p : ReportBlock). IsNamed book p.block.options.dat_set) was.2 (subst (λ (o : Parameters). IsNamed book o.dat_set) (sym (options was.0)) (old.dat_sets b was.0 was.1)));
    windows = λ b part there. (let was = got-map f parts b part there in subst (λ (p : ReportBlock). p.window.members ≡ 256) was.2 (rooms was.0 ∙ old.windows b was.0 was.1));
    watch = watching-map (node_rows c) book (length stored) parts w f same options old.watch;
    entry = old.entry;
    changes = old.changes;
  }

  pub furnished-set : (i : ℕ) (x y : ReportBlock) (v : Watch) → slice_get parts i ≡ Some x → HasSet y → IsNamed book y.block.options.dat_set → y.window.members ≡ x.window.members → IsWatching (node_rows c) book (length stored) (slice_set parts i y) v
      → IsFurnished c stored book (slice_set parts i y) v octets room
  furnished-set i x y v there has named rooms watch = record {
    servable = old.servable;
    values = old.values;
    count = length-set parts i y ∙ old.count;
    booked = old.booked;
    sets = λ b part at. elim (got-set parts i b y part at) [
      | inl e ↦ subst HasSet (sym e.1) has
      | inr e ↦ old.sets b part e.1
    ];
    dat_sets = λ b part at. elim (got-set parts i b y part at) [
      | inl e ↦ subst (λ (p : ReportBlock). IsNamed book p.block.options.dat_set) (sym e.1) named
      | inr e ↦ old.dat_sets b part e.1
    ];
    windows = λ b part at. elim (got-set parts i b y part at) [
      | inl e ↦ subst (λ (p : ReportBlock). p.window.members ≡ 256) (sym e.1) (rooms ∙ old.windows b x (ap (slice_get parts) e.0 ∙ there))
      | inr e ↦ old.windows b part e.1
    ];
    watch = watch;
    entry = old.entry;
    changes = old.changes;
  }

  module _ (b : ℕ) (part : ReportBlock) (there : slice_get parts b ≡ Some part) where
    -- the members of a part are lent, and they are those of the data set that its DatSet names
    pub part-fits : IsLent (node_rows c) book part × (members_in (node_rows c) book part ≡ served_members c book part.block.options.dat_set)
    part-fits = (part-lent c book old.booked.served part (old.sets b part there), part-members c book old.booked.served part (old.sets b part there))

    -- there is capacity for what a part has gathered
    pub entry-room : 504 * part.window.members ≤ octets.room
    entry-room = omega (arith, old.windows b part there, old.entry)
