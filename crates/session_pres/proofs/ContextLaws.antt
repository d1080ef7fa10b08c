-- The context definition list.
use Rattle.std.proofs.Common.{◌≡◌, ℕ, zero, suc, ◌+◌, ◌<◌, ◌≤◌, Bool, true, false, cond, eqb, List, [], ◌∷◌, ◌++◌, length, Option, Some, None, refl, sym, ap, ◌∙◌, append_assoc, append-nil, arith}
use Rattle.std.specs.Prelude.{bytes_eq, ◌||◌, slice_get}
use Rattle.std.specs.Option.{option_map}
use Rattle.std.proofs.lemmas.List.{length-append}
use Rattle.std.proofs.lemmas.Option.{slice_get_past}
use Rattle.ber_grammar.specs.Element.{Element, IsRow}
use Rattle.ber_grammar.specs.Place.{Spot, Piece, placed}
use Rattle.ber_grammar.specs.Reader.{and_then}
use Rattle.ber_grammar.proofs.ElementLaws.{Begins-shorter}
use Rattle.ber_grammar.specs.Fields.{fields_in}
use Rattle.ber_grammar.specs.Reader.{first_of_two}
use Rattle.session_pres.specs.ContextList.{Context, acse, mms, flags_from}
use Rattle.session_pres.specs.ContextReading.{definition_at, definitions_at, context_list_at, first_of, further, Offered, offered}
use Rattle.ber_grammar.proofs.FieldLaws.{fields_found}
use Rattle.session_pres.specs.ViewOfContexts.{if_first}

-- ---- the first of an abstract syntax

map_first : (a b : Option (ℕ × Context)) → option_map further (first_of_two a b) ≡ first_of_two (option_map further a) (option_map further b)
map_first (Some x) b = refl
map_first None b = refl

map_cond : (b : Bool) (n : ℕ) (d : Context) → option_map further (cond b (Some (n, d)) None) ≡ cond b (Some (suc n, d)) None
map_cond true n d = refl
map_cond false n d = refl

none_first : (b : Bool) (x : ℕ × Context) → cond b (Some x) (option_map further None) ≡ cond b (Some x) None
none_first true x = refl
none_first false x = refl

other_first : (b : Bool) (x : ℕ × Context) (o p : Option (ℕ × Context)) → cond b (Some x) (first_of_two o p) ≡ first_of_two (cond b (Some x) o) p
other_first true x o p = refl
other_first false x o p = refl

first_of-more : (syntax : List ℕ) (before : List Context) (d : Context) → first_of syntax (before ++ d ∷ []) ≡ if_first syntax (first_of syntax before) (length before, d)
first_of-more syntax [] d = none_first (bytes_eq d.syntax syntax) (0, d)
first_of-more syntax (c ∷ cs) d =
    ap (λ (r : Option (ℕ × Context)). cond (bytes_eq c.syntax syntax) (Some (0, c)) r)
    (ap (λ (r : Option (ℕ × Context)). option_map further r) (first_of-more syntax cs d)
    ∙ map_first (first_of syntax cs) (cond (bytes_eq d.syntax syntax) (Some (length cs, d)) None)
    ∙ ap (λ (r : Option (ℕ × Context)). first_of_two (option_map further (first_of syntax cs)) r) (map_cond (bytes_eq d.syntax syntax) (length cs) d))
    ∙ other_first (bytes_eq c.syntax syntax) (0, c) (option_map further (first_of syntax cs)) (cond (bytes_eq d.syntax syntax) (Some (suc (length cs), d)) None)

-- ---- how many elements there can be

pub row_length : (octets : List ℕ) (es : List Element) → IsRow octets es → length es ≤ length octets
row_length octets [] row = omega arith
row_length octets (e ∷ es) (before, rest, s, p, row) = omega (arith, Begins-shorter octets e rest (before, s, p), row_length rest es row)

length-placed : (from : ℕ × ℕ) (es : List Element) → length (placed from es) ≡ length es
length-placed from [] = refl
length-placed from (e ∷ es) = omega (arith, length-placed (from.0, from.1 + (e.head + length e.content)) es)

pub elements_few : (content : Piece) (spots : List Spot) → fields_in content ≡ Some spots → length spots ≤ length content.octets
elements_few content spots h =
    let found = fields_found content spots h in
    omega (arith, row_length content.octets found.0 found.1, ap (λ (x : List Spot). length x) found.2, length-placed (content.block, content.place) found.0)

-- ---- a loop over the list

-- the contexts before the rest, and what is known of them
abbrev pub ListGoes : List Spot → List Spot → Offered → Type 0
ListGoes all rest known = (before : List Context) × (definitions_at all ≡ and_then (definitions_at rest) (λ ds. Some (before ++ ds))) × (known ≡ offered before) × (length before + length rest ≡ length all)

none_before : (r : Option (List Context)) → r ≡ and_then r (λ ds. Some ([] ++ ds))
none_before (Some ds) = refl
none_before None = refl

abbrev pub nothing : Offered
nothing = record { count = 0; acse = None; mms = None }

pub ListGoes-none : (all : List Spot) → ListGoes all all nothing
ListGoes-none all = ([], none_before (definitions_at all), refl, omega arith)

one_before : (before : List Context) (d : Context) (r : Option (List Context)) → and_then (and_then r (λ ds. Some (d ∷ ds))) (λ ds. Some (before ++ ds)) ≡ and_then r (λ ds. Some ((before ++ d ∷ []) ++ ds))
one_before before d (Some ds) = ap (λ (x : List Context). Some x) (sym (append_assoc before (d ∷ []) ds))
one_before before d None = refl

-- with one context more
abbrev pub with_next : Offered → Context → Offered
with_next o d = record { count = o.count + 1; acse = if_first acse o.acse (o.count, d); mms = if_first mms o.mms (o.count, d) }

offered-more : (before : List Context) (d : Context) → with_next (offered before) d ≡ offered (before ++ d ∷ [])
offered-more before d = rw (first_of-more acse before d, first_of-more mms before d, length-append before (d ∷ [])) refl

pub ListGoes-more : (all rest after : List Spot) (s : Spot) (d : Context) (known : Offered) → ListGoes all rest known → rest ≡ s ∷ after → definition_at s ≡ Some d → ListGoes all after (with_next known d)
ListGoes-more all rest after s d known (before, h, is, count) step this = (
  before ++ d ∷ [],
  h ∙ ap (λ (r : Option (List Context)). and_then r (λ ds. Some (before ++ ds))) (ap definitions_at step ∙ ap (λ (r : Option Context). and_then r (λ d. and_then (definitions_at after) (λ ds. Some (d ∷ ds)))) this) ∙ one_before before d (definitions_at after),
  ap (λ (o : Offered). with_next o d) is ∙ offered-more before d,
  omega (arith, count, ap (λ (x : List Spot). length x) step, length-append before (d ∷ [])),
)

pub ListGoes-same : (all rest : List Spot) (known : Offered) (a m : Option (ℕ × Context)) → ListGoes all rest known → a ≡ known.acse → m ≡ known.mms → ListGoes all rest (record { count = known.count; acse = a; mms = m })
ListGoes-same all rest known a m h p q = rw (p, q) h

pub ListGoes-refused : (all rest after : List Spot) (s : Spot) (known : Offered) → ListGoes all rest known → rest ≡ s ∷ after → definition_at s ≡ None → definitions_at all ≡ None
ListGoes-refused all rest after s known (before, h, is, count) step this =
    h ∙ ap (λ (r : Option (List Context)). and_then r (λ ds. Some (before ++ ds))) (ap definitions_at step ∙ ap (λ (r : Option Context). and_then r (λ d. and_then (definitions_at after) (λ ds. Some (d ∷ ds)))) this)

pub ListGoes-all : (all rest : List Spot) (known : Offered) → ListGoes all rest known → rest ≡ [] → option_map offered (definitions_at all) ≡ Some known
ListGoes-all all rest known (before, h, is, count) end =
    ap (λ (r : Option (List Context)). option_map offered r) (h ∙ ap (λ (r : List Spot). and_then (definitions_at r) (λ ds. Some (before ++ ds))) end ∙ ap (λ (x : List Context). Some x) (append-nil before)) ∙ ap (λ (o : Offered). Some o) (sym is)

pub ListGoes-room : (all rest after : List Spot) (s : Spot) (known : Offered) → ListGoes all rest known → rest ≡ s ∷ after → known.count < length all
ListGoes-room all rest after s known (before, h, is, count) step = omega (arith, count, ap (λ (x : List Spot). length x) step, ap (λ (o : Offered). o.count) is)

pub list_none : (content : Piece) → fields_in content ≡ None → context_list_at content ≡ None
unfolding context_list_at
list_none content h = rw h refl

pub list_at : (content : Piece) (spots : List Spot) → fields_in content ≡ Some spots → context_list_at content ≡ definitions_at spots
unfolding context_list_at
list_at content spots h = rw h refl

-- ---- which are accepted

pub length-flags : (place n a b : ℕ) → length (flags_from place n a b) ≡ n
length-flags place zero a b = refl
length-flags place (suc n) a b = omega (arith, length-flags (place + 1) n a b)

pub flag_there : (place n a b i : ℕ) → i < n → slice_get (flags_from place n a b) i ≡ Some (eqb (place + i) a || eqb (place + i) b)
flag_there place zero a b i lt = absurd (omega (arith, lt))
flag_there place (suc n) a b zero lt = let same : place + 0 ≡ place = omega arith in rw same refl
flag_there place (suc n) a b (suc i) lt =
    let same : place + 1 + i ≡ place + suc i = omega arith in
    flag_there (place + 1) n a b i (omega (arith, lt)) ∙ rw same refl

pub no_flag : (place n a b i : ℕ) → n ≤ i → slice_get (flags_from place n a b) i ≡ None
no_flag place n a b i le = slice_get_past (flags_from place n a b) i (omega (arith, le, length-flags place n a b))
