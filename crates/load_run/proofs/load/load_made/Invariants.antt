-- what the loop of `load::load_made` keeps
use Rattle.std.proofs.Common.{◌≡◌, ◌≤◌, ◌+◌, ◌*◌}
use Rattle.std.specs.Prelude.{Ok}
use Rattle.sv_base.specs.declared.config.Config.{Config}
use Rattle.cfg_parser.specs.Looking.{config_at}
use Rattle.made_records.specs.Made.{first_draw, draw_after}
use Rattle.made_records.specs.Texts.{configuration}
use Rattle.load_run.specs.Loads.{Loads, IsFew}
use Rattle.load_run.proofs.RecordLaws.{read_so}
use Rattle.load_run.proofs.load.load_made.Given as goal

abbrev pub invariant-loop-turn : goal.invariant-loop-turn
invariant-loop-turn l = record {
  loads : (c : Config) × (config_at configuration ≡ Ok c) × Loads l.loading c (read_so l.turn l.fn.seed);
  few : IsFew l.loading (l.turn + 2);
  draw : l.draw ≡ draw_after l.turn (first_draw l.fn.seed);
  moment : l.draw.moment ≤ 441763200000 + 499 * l.turn;
}
