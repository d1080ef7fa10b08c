-- The lines of a configuration in runs, each of one domain.
use Rattle.std.specs.Prelude.{◌≡◌, true, List, [], ◌∷◌, flat_map}
use Rattle.std.specs.List.{All}
use Rattle.std.specs.Str.{bytes_eq}
use Rattle.bay_model.specs.NamedLines.{Line}
use Rattle.object_model.specs.declared.runs.Run.{Run}

-- all their lines, one run after another
abbrev pub lines_in : List Run → List Line
lines_in runs = flat_map (λ (r : Run). r.lines.now) runs

abbrev pub IsRun : Run → Type 0
IsRun r = All (λ (l : Line). bytes_eq l.domain r.domain.now ≡ true) r.lines.now

abbrev pub AreRuns : List Run → Type 0
AreRuns [] = Unit {0}
AreRuns (r ∷ rs) = IsRun r × AreRuns rs
