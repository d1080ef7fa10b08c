-- What is lent to a reply, what it stands for, and the reply that the model gives.
use Rattle.std.specs.Prelude.{◌≡◌, ◌≢◌, ◌<◌, ℕ, true, max, List, [], map, length}
use Rattle.std.specs.List.{All}
use Rattle.sv_base.specs.declared.numbers.NodeId.{NodeId}
use Rattle.bay_model.specs.Lookups.{node_of}
use Rattle.sv_base.specs.declared.config.Config.{Config}
use Rattle.bay_model.specs.declared.reply.Reply.{Reply}
use Rattle.bay_model.specs.declared.request.Service.{Service}
use Rattle.bay_model.specs.Attributes.{attributes}
use Rattle.bay_model.specs.Model.{Model}
use Rattle.bay_model.specs.Named.{configured_model}
use Rattle.bay_model.specs.Points.{Past, now}
use Rattle.bay_model.specs.Services.{reply, singles_of}
use Rattle.bay_model.specs.Sets.{sets}
use Rattle.bay_model.specs.Singles.{outcomes}
use Rattle.object_model.specs.Nodes.{node_rows}
use Rattle.set_view.specs.Shapes.{AreThere}
use Rattle.data_sets.specs.Books.{Book, set_at}
use Rattle.data_sets.specs.Standing.{data_set}
use Rattle.value_store.specs.Stored.{Stored}
use Rattle.value_store.specs.Wholes.{Stands as ValuesStand}
use Rattle.setting_groups.specs.Frames.{IsFramed}
use Rattle.setting_groups.specs.Grouped.{Grouped}
use Rattle.setting_groups.specs.Opened.{IsGrouped}
use Rattle.setting_groups.specs.Standing.{Stands as GroupsStand}
use Rattle.report_block.specs.declared.block.ReportBlock.{ReportBlock}
use Rattle.report_block.specs.Standing.{BlocksStand}

-- The parts are those of a configuration: its attributes, its setting groups and report blocks, and data sets whose members are nodes
-- that are there, each with a name.
pub record IsServed (c : Config) (stored : List Stored) (groups : Grouped) (parts : List ReportBlock) (book : Book) : Type 0 where
  pub grouped : IsGrouped c
  pub framed : IsFramed c groups
  pub values : length stored ≡ length (attributes c)
  pub blocks : length parts ≡ length c.blocks
  pub lent : (k : ℕ) → k < length book.sets → AreThere (length (node_rows c)) (set_at book k).nodes
  pub named : (k : ℕ) → k < length book.sets → (set_at book k).name.item ≢ []
  -- what may be a member selects nothing when it is read
  pub plain : (k : ℕ) → k < length book.sets → All (λ (n : NodeId). (node_of (configured_model c) n.0).allowed ≡ true) (set_at book k).nodes

-- the book has the data sets of a history, the first of which are configured
pub record SetsStand (book : Book) (c : Model) (past : Past) : Type 0 where
  pub sets : map data_set book.sets ≡ sets c past
  pub count : book.configured ≡ length c.sets

-- the parts stand for a past, up to the newest moment
pub record StandAt (c : Config) (stored : List Stored) (groups : Grouped) (parts : List ReportBlock) (book : Book) (latest : ℕ) (past : Past) : Type 0 where
  pub values : ValuesStand stored (configured_model c) past
  pub blocks : BlocksStand (configured_model c) past parts
  pub sets : SetsStand book (configured_model c) past
  pub is_latest : latest ≡ now past
  pub settings : GroupsStand groups (configured_model c) past

-- the reply to a's request as step n at moment m, by which it is now, after any past for which the parts stand
abbrev pub IsReplyTo : Config → List Stored → Grouped → List ReportBlock → Book → (was now size : ℕ) → Service → Reply → Type 0
IsReplyTo c stored groups parts book was now size service r = (a n m : ℕ) (past : Past)
    → StandAt c stored groups parts book was past → now ≡ max m was
    → r ≡ reply (configured_model c) past size service (outcomes (configured_model c) a n m (singles_of (configured_model c) past service) past)
