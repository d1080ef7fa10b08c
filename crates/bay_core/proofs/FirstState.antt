-- The state of a bay that was opened: its parts fit the configuration, and it stands for the history of no step.
use Rattle.std.proofs.Common.{◌≡◌, ◌≤◌, ℕ, List, [], ◌∷◌, arith, map, replicate, refl, ap, sym, ◌∙◌, subst, length, append-nil}
use Rattle.std.proofs.lemmas.List.{length-map}
use Rattle.bay_model.specs.Configured.{control_defined}
use Rattle.bay_model.specs.Model.{Control}
use Rattle.object_model.specs.Nodes.{node_rows}
use Rattle.object_model.specs.Tables.{set_rows}
use Rattle.data_sets.specs.Books.{Book, booked as in_book, opened as booked}
use Rattle.sv_base.specs.declared.config.Config.{Config}
use Rattle.bay_model.specs.Named.{configured_model}
use Rattle.bay_model.specs.Points.{now}
use Rattle.sv_base.specs.Filled.{Filled}
use Rattle.assoc_table.specs.Seats.{closed}
use Rattle.assoc_table.specs.Standing.{Stands as AssociationsStand}
use Rattle.assoc_table.proofs.StandLaws.{stands-empty}
use Rattle.control_core.specs.Controls.{ControlState, idle}
use Rattle.control_core.specs.Tables.{opened_of}
use Rattle.control_core.specs.Standing.{Stands as ControlsStand}
use Rattle.control_core.proofs.StandLaws.{stands-opened}
use Rattle.value_store.specs.Opened.{opened}
use Rattle.value_store.specs.Stored.{Stored}
use Rattle.value_store.specs.Wholes.{Stands as ValuesStand}
use Rattle.value_store.proofs.OpenedLaws.{opened_stands}
use Rattle.bay_model.specs.NamedLines.{domains}
use Rattle.setting_groups.specs.Opened.{opened as grouped}
use Rattle.setting_groups.specs.Standing.{Stands as GroupsStand}
use Rattle.setting_groups.proofs.OpenLaws.{opened_stands as groups_stand}
use Rattle.report_block.specs.declared.block.ReportBlock.{ReportBlock}
use Rattle.block_watch.specs.declared.watch.Watch.{Watch}
use Rattle.block_watch.specs.Watched.{IsWatching}
use Rattle.bay_opening.specs.Opened.{seen, part_defined}
use Rattle.bay_config.specs.Servable.{IsServable}
use Rattle.bay_core.specs.Standing.{StandsFor}
use Rattle.data_sets.specs.Standing.{data_set}
use Rattle.data_sets.proofs.OpenLaws.{opened_at}
use Rattle.bay_replies.proofs.OpenedLaws.{items-named}
use Rattle.bay_core.specs.State.{State, IsBooked, IsFurnished}
use Rattle.bay_values.specs.Held.{AreHeld}
use Rattle.bay_values.proofs.FirstValues.{opened-held}
use Rattle.bay_opening.proofs.FirstBook.{opened-served, count-back, sets-back}
use Rattle.bay_opening.proofs.FirstParts.{parts-named, parts-sets, parts-windows, parts-stand}

-- each data set can be served and has a name, and no block is counted
booked-first : (c : Config) → IsServable c → IsBooked c (booked (set_rows c))
booked-first c served = record {
  served = opened-served c served;
  named = items-named c;
  apart = λ j k first from below same. absurd (omega (arith, from, below, length-map (set_rows c) in_book));
  free = λ k below. opened_at (set_rows c) k;
}

pub furnished-first : (c : Config) (stored : List Stored) (book : Book) (parts : List ReportBlock) (w : Watch) (octets : Filled ℕ) (room : ℕ) → IsServable c → stored ≡ opened c → book ≡ booked (set_rows c)
    → map seen parts ≡ map (part_defined (booked (set_rows c))) c.blocks → IsWatching (node_rows c) book (length stored) parts w → octets.room ≡ 129024 → length stored ≤ room → IsFurnished c stored book parts w octets room
furnished-first c stored book parts w octets room served values is are watch kept enough =
    let own = are ∙ ap (λ b. map (part_defined b) c.blocks) (sym is) in
    record {
      servable = served;
      values = subst (AreHeld c) (sym values) (opened-held c served);
      count = sym (length-map parts seen) ∙ (ap length are ∙ length-map c.blocks (part_defined (booked (set_rows c))));
      booked = subst (IsBooked c) (sym is) (booked-first c served);
      sets = parts-sets c book parts own;
      dat_sets = parts-named c book parts served is own;
      windows = parts-windows c book parts own;
      watch = watch;
      entry = kept;
      changes = enough;
    }

-- controls as they are opened have their configurations
pub configs-opened : (cs : List Control) → map (λ (s : ControlState). s.config) (map idle cs) ≡ cs
configs-opened [] = refl
configs-opened (c ∷ cs) = ap (λ l. c ∷ l) (configs-opened cs)

pub stands-first : (s : State) (c : Config) → IsServable c → s.config ≡ c → s.steps ≡ 0 → s.latest ≡ now [] → s.stored ≡ opened c → s.book ≡ booked (set_rows c)
    → map seen s.parts ≡ map (part_defined (booked (set_rows c))) c.blocks → s.rows ≡ replicate 16 closed → s.controls ≡ opened_of (map control_defined c.controls) → s.groups ≡ grouped c (domains c) → StandsFor s c []
stands-first s c served config steps latest values book are rows controls groups = (
  tt,
  record {
    is_config = config;
    is_steps = steps;
    is_latest = latest;
    values = subst (λ all. ValuesStand all (configured_model c) []) (sym values) (opened_stands c served.domains);
    associations = subst (λ all. AssociationsStand all (configured_model c) []) (sym rows) (stands-empty (configured_model c));
    groups = subst (λ g. GroupsStand g (configured_model c) []) (sym groups) (groups_stand c served.grouped);
    controls = subst (λ t. ControlsStand t (configured_model c) []) (sym controls) (stands-opened (configured_model c));
    sets = ap (λ (b : Book). map data_set b.sets) book ∙ (sets-back c ∙ sym (append-nil (configured_model c).sets));
    configured = ap (λ (b : Book). b.configured) book ∙ count-back c;
    blocks = parts-stand c (booked (set_rows c)) s.parts are;
  },
)
