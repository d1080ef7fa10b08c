-- The index of members can hold the data set of a block.
use Rattle.std.proofs.Common.{◌≡◌, ◌<◌, ℕ, List, [], ◌∷◌, length, ap, sym, subst, arith}
use Rattle.std.specs.List.{All}
use Rattle.std.proofs.lemmas.List.{length-map, get_or-map}
use Rattle.std.proofs.lemmas.List.Elements.{All-head, All-tail}
use Rattle.sv_base.specs.declared.config.Config.{Config}
use Rattle.sv_base.specs.declared.numbers.AttrId.{AttrId}
use Rattle.bay_model.specs.Attributes.{attributes}
use Rattle.object_model.specs.Nodes.{node_rows}
use Rattle.data_sets.specs.Books.{Book, number_referred}
use Rattle.touch_index.specs.Indexed.{AreAmong}
use Rattle.report_block.specs.declared.block.ReportBlock.{ReportBlock}
use Rattle.bay_config.specs.Servable.{IsMember}
use Rattle.block_watch.specs.Watched.{IsWatchable, members_in}
use Rattle.block_watch.specs.Served.{AreServedSets}
use Rattle.block_watch.proofs.BookLaws.{part-lent, part-members}
use Rattle.block_watch.proofs.ShapeLaws.{node_shape, node_shapes, nodes_named, member-shape, served-few, served-set, sets_in}

-- each attribute of a member is one of the configuration
among-shapes : (c : Config) (ns : List ℕ) → All (IsMember c) ns → AreAmong (length (attributes c)) (node_shapes c ns)
among-shapes c [] are = tt
among-shapes c (n ∷ ns) are =
    let member = All-head (IsMember c) n ns are in
    let shape = node_shape c n in
    let within = subst (All (λ x. x < length (attributes c))) (sym (member-shape c n member).attrs) member.within in (
      (λ k d below. subst (λ x. x < length (attributes c)) (get_or-map (λ (x : AttrId). x.0) shape.attrs k d d.0 below) (within k d.0 (omega (arith, below, length-map shape.attrs (λ (x : AttrId). x.0))))),
      among-shapes c ns (All-tail (IsMember c) n ns are),
    )

-- the index can hold the data set of a part that has the number of the data set which its DatSet names
pub watchable : (c : Config) (n : ℕ) (book : Book) (part : ReportBlock) → AreServedSets c book → part.set ≡ number_referred part.block.options.dat_set book → n ≡ length (attributes c)
    → IsWatchable (node_rows c) book n part
watchable c n book part are has count =
    let members = part-members c book are part has in
    let reference = part.block.options.dat_set in
    record {
      lent = part-lent c book are part has;
      few = omega (arith, served-few c book are reference, ap length members);
      among = subst (λ k. AreAmong k (members_in (node_rows c) book part)) (sym count)
          (subst (AreAmong (length (attributes c))) (sym members) (among-shapes c (nodes_named (sets_in book) reference) (served-set c book reference are).members));
    }
