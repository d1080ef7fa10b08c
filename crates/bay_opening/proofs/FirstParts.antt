-- The blocks as they are opened: what each has, and what it stands for.
use Rattle.std.proofs.Common.{◌≡◌, ℕ, List, [], length, map, get_or, Some, unwrap_or, ap, sym, subst, ◌∙◌}
use Rattle.std.specs.Prelude.{slice_get}
use Rattle.std.specs.List.{All}
use Rattle.std.specs.Option.{option_map}
use Rattle.std.proofs.lemmas.Option.{slice_get-get_or, slice_get-map}
use Rattle.list_laws.proofs.Places.{all-at, got-map}
use Rattle.sv_base.specs.declared.config.Config.{Config}
use Rattle.sv_base.specs.declared.config.BlockDef.{BlockDef}
use Rattle.bay_model.specs.Attributes.{attributes}
use Rattle.bay_model.specs.Configured.{block_defined}
use Rattle.bay_model.specs.Lookups.{block_of, no_parameters}
use Rattle.bay_model.specs.Model.{Block}
use Rattle.bay_model.specs.Named.{configured_model}
use Rattle.object_model.specs.Nodes.{node_rows}
use Rattle.object_model.specs.Tables.{set_rows}
use Rattle.data_sets.specs.Books.{Book, number_referred, opened as booked}
use Rattle.data_sets.specs.Standing.{IsNamed}
use Rattle.bay_config.specs.Servable.{IsReferred, IsServable}
use Rattle.brcb_state.specs.Changes.{configured}
use Rattle.entry_ring.specs.Standing.{empty}
use Rattle.window_core.specs.Windows.{Windowed, empty as empty_window}
use Rattle.report_block.proofs.StandLaws.{opened}
use Rattle.report_block.specs.declared.block.ReportBlock.{ReportBlock}
use Rattle.block_watch.specs.Watched.{IsWatchable}
use Rattle.block_watch.specs.Served.{AreServedSets}
use Rattle.block_watch.proofs.IndexLaws.{watchable}
use Rattle.bay_opening.specs.Opened.{PartSeen, seen, part_defined}
use Rattle.bay_opening.proofs.FirstBook.{opened-served, referred-first}
use Rattle.report_block.specs.Standing.{BlocksStand}

-- ---- a block by its number

looked-up : {A B : Type 0} (f : A → B) (xs : List A) (n : ℕ) (x : A) (other : B) → slice_get xs n ≡ Some x → unwrap_or (slice_get (map f xs) n) other ≡ f x
looked-up f xs n x other is = ap (λ o. unwrap_or o other) (slice_get-map f xs n ∙ ap (option_map f) is)

pub block-defined : (c : Config) (b : ℕ) (def : BlockDef) → slice_get c.blocks b ≡ Some def → block_of (configured_model c) b ≡ block_defined def
block-defined c b def is = looked-up block_defined c.blocks b def (record { reference = []; initial = no_parameters; conf_rev = 1; capacity = 0 }) is

-- ---- the parts

-- the part of a number is that of the block of this number
part-at : (c : Config) (book : Book) (parts : List ReportBlock) → map seen parts ≡ map (part_defined book) c.blocks → (b : ℕ) (part : ReportBlock) → slice_get parts b ≡ Some part
    → (def : BlockDef) × (slice_get c.blocks b ≡ Some def) × (part_defined book def ≡ seen part)
part-at c book parts are b part at = got-map (part_defined book) c.blocks b (seen part) (ap (λ l. slice_get l b) (sym are) ∙ (slice_get-map seen parts b ∙ ap (option_map seen) at))

pub parts-sets : (c : Config) (book : Book) (parts : List ReportBlock) → map seen parts ≡ map (part_defined book) c.blocks → (b : ℕ) (part : ReportBlock) → slice_get parts b ≡ Some part → part.set ≡ number_referred part.block.options.dat_set book
parts-sets c book parts are b part at =
    let known = part-at c book parts are b part at in
    ap (λ (s : PartSeen). s.set) (sym known.2) ∙ ap (λ (s : PartSeen). number_referred s.block.options.dat_set book) known.2

pub parts-named : (c : Config) (book : Book) (parts : List ReportBlock) → IsServable c → book ≡ booked (set_rows c) → map seen parts ≡ map (part_defined book) c.blocks
    → (b : ℕ) (part : ReportBlock) → slice_get parts b ≡ Some part → IsNamed book part.block.options.dat_set
parts-named c book parts served is are b part at =
    let known = part-at c book parts are b part at in
    subst (λ (s : PartSeen). IsNamed book s.block.options.dat_set) known.2 (referred-first c book known.0.dat_set is (all-at (λ (d : BlockDef). IsReferred c d.dat_set) c.blocks b known.0 served.named known.1))

pub parts-windows : (c : Config) (book : Book) (parts : List ReportBlock) → map seen parts ≡ map (part_defined book) c.blocks → (b : ℕ) (part : ReportBlock) → slice_get parts b ≡ Some part → part.window.members ≡ 256
parts-windows c book parts are b part at =
    let known = part-at c book parts are b part at in
    ap (λ (s : PartSeen). s.window.members) (sym known.2)

pub parts-stand : (c : Config) (book : Book) (parts : List ReportBlock) → map seen parts ≡ map (part_defined book) c.blocks → BlocksStand (configured_model c) [] parts
parts-stand c book parts are = λ b part at.
    let known = part-at c book parts are b part at in
    let is = block-defined c b known.0 known.1 in
    opened (configured_model c) b part (ap (λ (s : PartSeen). s.block) (sym known.2) ∙ ap configured (sym is)) (ap (λ (s : PartSeen). s.ring) (sym known.2) ∙ ap (λ (k : Block). empty k.capacity) (sym is))
    (ap (λ (w : Windowed). record w { members = part.window.members }) (ap (λ (s : PartSeen). s.window) (sym known.2)) ∙ ap (λ (k : Block). empty_window part.window.members k.initial.buf_tm) (sym is))
    (ap (λ (s : PartSeen). s.origin) (sym known.2))

-- an index can hold the data set of each
pub watchable-first : (c : Config) (n : ℕ) (book : Book) (parts : List ReportBlock) → IsServable c → book ≡ booked (set_rows c) → map seen parts ≡ map (part_defined book) c.blocks → n ≡ length (attributes c)
    → All (IsWatchable (node_rows c) book n) parts
watchable-first c n book parts served is are count = λ b d below.
    let part = get_or parts b d in
    watchable c n book part (subst (AreServedSets c) (sym is) (opened-served c served)) (parts-sets c book parts are b part (slice_get-get_or parts b d below)) count
