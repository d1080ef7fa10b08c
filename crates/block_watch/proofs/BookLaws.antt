-- The book of data sets: what is found by a DatSet, and whose nodes its members are.
use Rattle.std.proofs.Common.{◌≡◌, ◌<◌, ℕ, true, List, [], ◌∷◌, map, length, Option, None, Some, is_some, unwrap_or, refl, ap, sym, ◌∙◌, subst, arith}
use Rattle.std.specs.Option.{option_map}
use Rattle.std.specs.List.{All}
use Rattle.std.specs.Str.{bytes_eq}
use Rattle.std.proofs.lemmas.List.Elements.{All-nil, All-cons, All-head, All-tail}
use Rattle.sv_base.specs.declared.config.Config.{Config}
use Rattle.sv_base.specs.declared.numbers.NodeId.{NodeId}
use Rattle.bay_model.specs.declared.tables.NodeRow.{NodeRow}
use Rattle.bay_model.specs.Lookups.{node_of, reference_of}
use Rattle.bay_model.specs.Model.{DataSet}
use Rattle.bay_model.specs.Named.{configured_model}
use Rattle.bay_model.specs.Sets.{set_referred}
use Rattle.set_view.specs.Shapes.{AreThere, shapes_of}
use Rattle.object_model.specs.Nodes.{node_rows}
use Rattle.object_model.specs.Tables.{node_id}
use Rattle.object_model.proofs.TableLaws.{count-rows}
use Rattle.data_sets.specs.Books.{Booked, Book, IsSet, nodes_in, number_referred, reference, set_at}
use Rattle.data_sets.specs.Standing.{data_set}
use Rattle.data_sets.proofs.PlaceLaws.{within}
use Rattle.data_sets.proofs.HistoryLaws as history
use Rattle.report_block.specs.declared.block.ReportBlock.{ReportBlock}
use Rattle.bay_config.specs.Servable.{IsMember}
use Rattle.block_watch.specs.Served.{AreServedSets}
use Rattle.block_watch.specs.Watched.{AreLent, IsLent, members_in}
use Rattle.block_watch.proofs.ShapeLaws.{nodes_named, served_members, sets_in}
use Rattle.list_laws.proofs.Options.{some_mapped}

-- ---- the data set of a reference

pub ids-back : (ns : List NodeId) → map node_id (map (λ (n : NodeId). n.0) ns) ≡ ns
ids-back [] = refl
ids-back (n ∷ ns) = ap (λ l. n ∷ l) (ids-back ns)

-- what has a number is found among the model's sets
found-referred : (ref : List ℕ) (book : Book) → option_map (λ k. data_set (set_at book k)) (number_referred ref book) ≡ set_referred ref (sets_in book)
found-referred ref book = history.found (λ (s : Booked). bytes_eq ref (reference s)) (λ (s : DataSet). bytes_eq ref (reference_of s.domain s.item)) (λ s. refl) book.sets

pub nodes-booked : (ref : List ℕ) (book : Book) → nodes_in book (number_referred ref book) ≡ map node_id (nodes_named (sets_in book) ref)
nodes-booked ref book = by (number_referred ref book) (set_referred ref (sets_in book)) (found-referred ref book)
  where
    by : (o : Option ℕ) (f : Option DataSet) → option_map (λ k. data_set (set_at book k)) o ≡ f → nodes_in book o ≡ map node_id (unwrap_or (option_map (λ (s : DataSet). s.nodes) f) [])
    by None f is = ap (λ (g : Option DataSet). map node_id (unwrap_or (option_map (λ (s : DataSet). s.nodes) g) [])) is
    by (Some k) f is = sym (ids-back (set_at book k).nodes) ∙ ap (λ (g : Option DataSet). map node_id (unwrap_or (option_map (λ (s : DataSet). s.nodes) g) [])) is

pub known-booked : (ref : List ℕ) (book : Book) → is_some (number_referred ref book) ≡ is_some (set_referred ref (sets_in book))
known-booked ref book = sym (some_mapped (λ k. data_set (set_at book k)) (number_referred ref book)) ∙ ap is_some (found-referred ref book)

-- the number is that of a set
pub number-there : (ref : List ℕ) (book : Book) → IsSet book (number_referred ref book)
number-there ref book = by (number_referred ref book) refl
  where
    by : (o : Option ℕ) → number_referred ref book ≡ o → IsSet book o
    by None is = tt
    by (Some k) is = within (λ s. bytes_eq ref (reference s)) book.sets k is

-- ---- the nodes of all sets

pub lent-nodes : (c : Config) (ns : List NodeId) → All (IsMember c) (map (λ (n : NodeId). n.0) ns) → AreThere (length (node_rows c)) ns
lent-nodes c [] are = All-nil (λ (n : NodeId). n.0 < length (node_rows c))
lent-nodes c (n ∷ ns) are = All-cons (λ (n : NodeId). n.0 < length (node_rows c)) n ns
    (omega (arith, (All-head (IsMember c) n.0 (map (λ (n : NodeId). n.0) ns) are).there, count-rows c))
    (lent-nodes c ns (All-tail (IsMember c) n.0 (map (λ (n : NodeId). n.0) ns) are))

-- they are among those of the configuration
pub sets-lent : (c : Config) (book : Book) → AreServedSets c book → AreLent (node_rows c) book
sets-lent c book are = λ k below. lent-nodes c (set_at book k).nodes (are k below).members

-- and may be members
allowed-nodes : (c : Config) (ns : List NodeId) → All (IsMember c) (map (λ (n : NodeId). n.0) ns) → All (λ (n : NodeId). (node_of (configured_model c) n.0).allowed ≡ true) ns
allowed-nodes c [] are = All-nil (λ (n : NodeId). (node_of (configured_model c) n.0).allowed ≡ true)
allowed-nodes c (n ∷ ns) are = All-cons (λ (n : NodeId). (node_of (configured_model c) n.0).allowed ≡ true) n ns (All-head (IsMember c) n.0 (map (λ (n : NodeId). n.0) ns) are).allowed
    (allowed-nodes c ns (All-tail (IsMember c) n.0 (map (λ (n : NodeId). n.0) ns) are))

pub sets-allowed : (c : Config) (book : Book) → AreServedSets c book → (k : ℕ) → k < length book.sets → All (λ (n : NodeId). (node_of (configured_model c) n.0).allowed ≡ true) (set_at book k).nodes
sets-allowed c book are k below = allowed-nodes c (set_at book k).nodes (are k below).members

-- ---- a part that has the number of the data set that its DatSet names

lent-of : (rows : List NodeRow) (book : Book) (o : Option ℕ) → AreLent rows book → IsSet book o → AreThere (length rows) (nodes_in book o)
lent-of rows book None lent is = All-nil (λ (n : NodeId). n.0 < length rows)
lent-of rows book (Some k) lent is = lent k is

module _ (c : Config) (book : Book) (are : AreServedSets c book) (part : ReportBlock) (has : part.set ≡ number_referred part.block.options.dat_set book) where
  pub part-lent : IsLent (node_rows c) book part
  part-lent =
      let set = subst (IsSet book) (sym has) (number-there part.block.options.dat_set book) in
      record { set = set; there = lent-of (node_rows c) book part.set (sets-lent c book are) set }

  -- its members are those of the data set that its DatSet names
  pub part-members : members_in (node_rows c) book part ≡ served_members c book part.block.options.dat_set
  part-members = ap (shapes_of (node_rows c)) (ap (nodes_in book) has ∙ nodes-booked part.block.options.dat_set book)
