-- What the program's contexts are seen as.
use Rattle.std.specs.Prelude.{ℕ, List, Option, Some, None, bytes_eq, if◌then◌else◌}
use Rattle.std.specs.Option.{option_map}
use Rattle.session_pres.specs.declared.contexts.Definition.{Definition}
use Rattle.session_pres.specs.declared.contexts.Offer.{Offer}
use Rattle.ber_grammar.specs.Reader.{first_of_two}
use Rattle.session_pres.specs.ContextList.{Context, Chosen}
use Rattle.session_pres.specs.ContextReading.{Offered}

abbrev pub context : Definition → Context
context d = record { number = d.number; syntax = d.syntax.now; has_ber = d.has_ber }

abbrev pub candidate : ℕ × Definition → ℕ × Context
candidate x = (x.0, context x.1)

abbrev pub offer : Offer → Offered
offer o = record { count = o.count; acse = option_map candidate o.acse; mms = option_map candidate o.mms }

abbrev pub chosen : ℕ × ℕ → Chosen
chosen x = record { place = x.0; number = x.1 }

-- the first of a syntax, with one context more
abbrev pub if_first : List ℕ → Option (ℕ × Context) → ℕ × Context → Option (ℕ × Context)
if_first syntax found next = first_of_two found (if bytes_eq next.1.syntax syntax then Some next else None)
