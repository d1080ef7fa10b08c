-- Reading a context definition list from left to right.
use Rattle.std.specs.Prelude.{ℕ, suc, Bool, true, false, List, [], ◌∷◌, length, Option, Some, None, bytes_eq, ◌==◌, if◌then◌else◌}
use Rattle.std.specs.Option.{option_map}
use Rattle.ber_grammar.specs.Place.{Spot, Piece, content_piece}
use Rattle.ber_grammar.specs.Reader.{and_then}
use Rattle.session_pres.specs.declared.codes.TheConstants.{INTEGER, OBJECT_IDENTIFIER, SEQUENCE}
use Rattle.ber_grammar.specs.Fields.{fields_in}
use Rattle.session_pres.specs.UserData.{context_at}
use Rattle.session_pres.specs.ContextList.{Context, ber, acse, mms, Chosen}

abbrev pub has_ber : List Spot → Bool
has_ber [] = false
has_ber (s ∷ ss) = if s.element.tag == OBJECT_IDENTIFIER then (if bytes_eq s.element.content ber then true else has_ber ss) else has_ber ss

unfoldable pub context_fields_at : List Spot → Option Context
context_fields_at [] = None
context_fields_at (a ∷ []) = None
context_fields_at (a ∷ b ∷ []) = None
context_fields_at (a ∷ b ∷ c ∷ []) =
    if a.element.tag == INTEGER then
    (if b.element.tag == OBJECT_IDENTIFIER then
    (if c.element.tag == SEQUENCE then and_then (context_at a.element.content) (λ n. and_then (fields_in (content_piece c)) (λ syntaxes. Some (record { number = n; syntax = b.element.content; has_ber = has_ber syntaxes })))
    else None) else None) else None
context_fields_at (a ∷ b ∷ c ∷ d ∷ more) = None

unfoldable pub definition_at : Spot → Option Context
definition_at s = if s.element.tag == SEQUENCE then and_then (fields_in (content_piece s)) context_fields_at else None

abbrev pub definitions_at : List Spot → Option (List Context)
definitions_at [] = Some []
definitions_at (s ∷ ss) = and_then (definition_at s) (λ d. and_then (definitions_at ss) (λ ds. Some (d ∷ ds)))

unfoldable pub context_list_at : Piece → Option (List Context)
context_list_at content = and_then (fields_in content) definitions_at

-- the same one place further on
abbrev pub further : ℕ × Context → ℕ × Context
further x = (suc x.0, x.1)

-- the first of this syntax, and its place
abbrev pub first_of : List ℕ → List Context → Option (ℕ × Context)
first_of syntax [] = None
first_of syntax (c ∷ cs) = if bytes_eq c.syntax syntax then Some (0, c) else option_map further (first_of syntax cs)

abbrev pub chosen_of : Option (ℕ × Context) → Option Chosen
chosen_of found = and_then found (λ x. if x.1.has_ber then Some (record { place = x.0; number = x.1.number }) else None)

abbrev pub chosen_at : List ℕ → List Context → Option Chosen
chosen_at syntax contexts = chosen_of (first_of syntax contexts)

-- what is to be known of a list: how many there are, and the first of each abstract syntax
pub record Offered : Type 0 where
  pub count : ℕ
  pub acse : Option (ℕ × Context)
  pub mms : Option (ℕ × Context)

abbrev pub offered : List Context → Offered
offered contexts = record { count = length contexts; acse = first_of acse contexts; mms = first_of mms contexts }
