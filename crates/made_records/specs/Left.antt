-- What is left of a made record.
use Rattle.std.specs.Prelude.{ℕ, List, [], ◌++◌}
use Rattle.made_records.specs.declared.draw.Draw.{Draw}
use Rattle.made_records.specs.declared.made_record.Part.{Part}
use Rattle.made_records.specs.declared.made_record.Part.TheVariants.{Opening, Lines, Nothing}
use Rattle.made_records.specs.Texts.{opening, lines_text, ending}

abbrev pub octets_left : Part → Draw → ℕ → List ℕ
octets_left Opening d n = opening ++ (lines_text n d ++ ending)
octets_left Lines d n = lines_text n d ++ ending
octets_left Nothing d n = []
