-- The parts fit the configuration after a write of a component.
use Rattle.std.proofs.Common.{◌≡◌, ◌<◌, ◌∙◌, ℕ, List, Option, Some, length, refl, ap, sym, subst, arith, slice_set}
use Rattle.std.specs.Prelude.{slice_get}
use Rattle.std.proofs.lemmas.List.{length-map}
use Rattle.std.proofs.lemmas.Option.{slice_get_within}
use Rattle.sv_base.specs.declared.config.Config.{Config}
use Rattle.sv_base.specs.declared.numbers.AssocNo.{AssocNo}
use Rattle.sv_base.specs.declared.value.Value.{Value}
use Rattle.sv_base.specs.Filled.{Filled}
use Rattle.sv_base.specs.declared.components.Comp.{Comp}
use Rattle.object_model.specs.Nodes.{node_rows}
use Rattle.data_sets.specs.Books.{Book, number_referred}
use Rattle.data_sets.specs.Standing.{IsNamed}
use Rattle.brcb_state.specs.Components.{trg_of}
use Rattle.value_store.specs.Stored.{Stored}
use Rattle.touch_index.specs.Indexed.{AreAmong}
use Rattle.report_block.specs.declared.block.ReportBlock.{ReportBlock}
use Rattle.report_block.specs.Components.{after_writing}
use Rattle.report_block.specs.Writes.{write_answer}
use Rattle.window_core.specs.Pieces.{Piece}
use Rattle.block_watch.specs.declared.watch.Watch.{Watch}
use Rattle.bay_core.specs.State.{IsFurnished}
use Rattle.block_watch.specs.Watched.{IsFollowed, members_in, index_after}
use Rattle.bay_core.specs.Written.{named_by}
use Rattle.block_watch.proofs.BookLaws.{part-lent}
use Rattle.block_watch.proofs.IndexLaws.{watchable}
use Rattle.bay_core.proofs.FurnishLaws.{furnished-set}
use Rattle.block_watch.proofs.WatchLaws.{KeepsSet, room-for, watching-written}
use Rattle.bay_core.proofs.WriteLaws.{keeps-set, has-named, has-set, windows-stay}

-- what is known where the part of a place was written to be another
pub record IsWrittenAt (c : Config) (stored : List Stored) (book : Book) (parts : List ReportBlock) (w : Watch) (octets : Filled ℕ) (most : ℕ) (b : ℕ) (comp : Comp) (new : ReportBlock) : Type 0 where
  pub follows : IsFollowed (node_rows c) book w b new
  pub furnished : (u : Watch) → u.index ≡ index_after comp b (members_in (node_rows c) book new) w.index → u.notes ≡ w.notes → u.options.items ≡ slice_set w.options.items b (trg_of new.block.options.trg_ops)
      → IsFurnished c stored book (slice_set parts b new) u octets most

module _ (c : Config) (stored : List Stored) (book : Book) (parts : List ReportBlock) (w : Watch) (octets : Filled ℕ) (most : ℕ) (old : IsFurnished c stored book parts w octets most)
    (b : ℕ) (part new : ReportBlock) (there : slice_get parts b ≡ Some part) (a : AssocNo) (owner : List ℕ) (comp : Comp) (v : Value) (named : Option ℕ) (all : List Piece) (is_named : named ≡ named_by comp v book) (now step : ℕ)
    (written : new ≡ after_writing a owner comp v named now step all part (write_answer a owner now comp v named part)) where
  -- the block has the number of the data set that its DatSet names by then
  has : new.set ≡ number_referred new.block.options.dat_set book
  has = subst (λ (q : ReportBlock). q.set ≡ number_referred q.block.options.dat_set book) (sym written) (has-set now step a owner comp v named all part book (write_answer a owner now comp v named part) (old.sets b part there) is_named refl)

  -- which is empty or names one
  named-then : IsNamed book new.block.options.dat_set
  named-then = subst (λ (q : ReportBlock). IsNamed book q.block.options.dat_set) (sym written) (has-named now step a owner comp v named all part book (write_answer a owner now comp v named part) (old.dat_sets b part there) is_named refl)

  within : b < length parts
  within = slice_get_within parts b part there

  keeps : KeepsSet comp part.set new.set
  keeps = subst (λ (q : ReportBlock). KeepsSet comp part.set q.set) (sym written) (keeps-set now step a owner comp v named all part (write_answer a owner now comp v named part))

  rooms : new.window.members ≡ part.window.members
  rooms = ap (λ (q : ReportBlock). q.window.members) written ∙ windows-stay now step a owner comp v named all part (write_answer a owner now comp v named part)

  pub written-at : IsWrittenAt c stored book parts w octets most b comp new
  written-at =
      let lent = part-lent c book old.booked.served new has in
      let fits = watchable c (length stored) book new old.booked.served has old.values.count in
      let indexed : b < length w.index.blocks = omega (arith, within, old.watch.index.count) in
      record {
        follows = record {
          lent = lent;
          indexed = indexed;
          optional = omega (arith, within, ap length old.watch.options, length-map parts (λ (p : ReportBlock). trg_of p.block.options.trg_ops));
          room = room-for (node_rows c) book (length stored) parts w.index b new old.watch.index indexed lent.set;
          few = fits.few;
          among = subst (λ n. AreAmong n (members_in (node_rows c) book new)) (sym old.watch.index.attrs) fits.among;
        };
        furnished = λ u index notes options.
            furnished-set c stored book parts w octets most old b part new u there has named-then rooms (watching-written (node_rows c) book (length stored) parts w u b comp part new there keeps index notes options old.watch);
      }
