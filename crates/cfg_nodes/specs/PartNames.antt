-- The names of a structure's parts as the code holds them.
use Rattle.std.specs.Prelude.{ℕ, List, [], Option}
use Rattle.std.specs.Borrow.{Bor}
use Rattle.std.specs.Option.{option_to_list}
use Rattle.text_words.specs.Words.{texts}

-- those of several, else of the only one
abbrev pub part_names : Option (Bor (List ℕ)) → List (Bor (List ℕ)) → List (List ℕ)
part_names one [] = texts (option_to_list one)
part_names one several = texts several
