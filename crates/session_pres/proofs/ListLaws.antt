-- What a context definition list says, and what is chosen of it.
use Rattle.std.proofs.Common.{◌≡◌, ◌≢◌, ℕ, zero, suc, Bool, true, false, cond, eqb, ◌⊎◌, inl, inr, List, [], ◌∷◌, Option, Some, None, refl, sym, subst}
use Rattle.std.specs.Prelude.{bytes_eq}
use Rattle.std.specs.Option.{option_map}
use Rattle.std.proofs.lemmas.Bool.{eqb-true, eq-eqb, cond_both}
use Rattle.list_laws.proofs.Options.{some_is, chosen, sides, map_some}
use Rattle.list_laws.proofs.Distinct.{octets_same, octets_equal}
use Rattle.ber_grammar.specs.Place.{Spot, Piece, content_piece}
use Rattle.ber_grammar.specs.Reader.{and_then}
use Rattle.ber_grammar.proofs.OptionLaws.{then_some}
use Rattle.session_pres.specs.declared.codes.TheConstants.{INTEGER, OBJECT_IDENTIFIER, SEQUENCE}
use Rattle.ber_grammar.specs.Fields.{fields_in}
use Rattle.session_pres.specs.UserData.{context_at}
use Rattle.session_pres.specs.ContextList.{Context, Chosen, ber, HasBer, SaysBer, AreContextFields, IsDefinition, AreDefinitions, IsContextList, IsFirst, IsChosen}
use Rattle.session_pres.specs.ContextReading.{has_ber, context_fields_at, definition_at, definitions_at, context_list_at, further, first_of, chosen_at}
use Rattle.ber_grammar.proofs.FieldLaws.{fields_found, fields_again}
use Rattle.session_pres.proofs.UserDataLaws.{context_found, context_again}

-- ---- the same octets

pub other_octets : (xs ys : List ℕ) → bytes_eq xs ys ≡ false → xs ≢ ys
other_octets xs ys e same = let true_too = octets_equal xs ys same in cc

not_same_at : (xs ys : List ℕ) (b : Bool) → bytes_eq xs ys ≡ b → xs ≢ ys → b ≡ false
not_same_at xs ys true e other = absurd (other (octets_same xs ys e))
not_same_at xs ys false e other = refl

pub octets_other : (xs ys : List ℕ) → xs ≢ ys → bytes_eq xs ys ≡ false
octets_other xs ys other = not_same_at xs ys (bytes_eq xs ys) refl other

-- ---- transfer syntaxes

abbrev BerTells : List Spot → Bool → Type 0
BerTells ss true = HasBer ss
BerTells ss false = Unit {0}

later_tells : (s : Spot) (ss : List Spot) (b : Bool) → BerTells ss b → BerTells (s ∷ ss) b
later_tells s ss true h = inr h
later_tells s ss false h = tt

has_ber_tells : (ss : List Spot) → BerTells ss (has_ber ss)
has_ber_tells [] = tt
has_ber_tells (s ∷ ss) =
    cond_both (eqb s.element.tag OBJECT_IDENTIFIER) (cond (bytes_eq s.element.content ber) true (has_ber ss)) (has_ber ss) (λ b. BerTells (s ∷ ss) b)
    (λ t. cond_both (bytes_eq s.element.content ber) true (has_ber ss) (λ b. BerTells (s ∷ ss) b)
    (λ e. inl (eqb-true s.element.tag OBJECT_IDENTIFIER t, octets_same s.element.content ber e))
    (λ e. later_tells s ss (has_ber ss) (has_ber_tells ss)))
    (λ t. later_tells s ss (has_ber ss) (has_ber_tells ss))

either_way : (a b : Bool) → cond a (cond b true true) true ≡ true
either_way true true = refl
either_way true false = refl
either_way false b = refl

has_ber_again : (ss : List Spot) → HasBer ss → has_ber ss ≡ true
has_ber_again [] h = absurd h
has_ber_again (s ∷ ss) (inl (t, e)) = rw (eq-eqb s.element.tag OBJECT_IDENTIFIER t, octets_equal s.element.content ber e) refl
has_ber_again (s ∷ ss) (inr h) = rw (has_ber_again ss h) (either_way (eqb s.element.tag OBJECT_IDENTIFIER) (bytes_eq s.element.content ber))

says_found : (ss : List Spot) (b : Bool) → has_ber ss ≡ b → SaysBer b ss
says_found ss true e = subst (λ (b : Bool). BerTells ss b) e (has_ber_tells ss)
says_found ss false e = λ h. let is = has_ber_again ss h in cc

says_at : (ss : List Spot) (b : Bool) → has_ber ss ≡ b → ¬ HasBer ss → b ≡ false
says_at ss true e none = absurd (none (says_found ss true e))
says_at ss false e none = refl

says_again : (ss : List Spot) (b : Bool) → SaysBer b ss → has_ber ss ≡ b
says_again ss true h = has_ber_again ss h
says_again ss false h = says_at ss (has_ber ss) refl h

-- ---- one context

abbrev of_three : Spot → Spot → Spot → Option Context
of_three a b c = and_then (context_at a.element.content) (λ n. and_then (fields_in (content_piece c)) (λ syntaxes. Some (record { number = n; syntax = b.element.content; has_ber = has_ber syntaxes })))

context_fields_found : (fields : List Spot) (d : Context) → context_fields_at fields ≡ Some d → AreContextFields fields d
unfolding context_fields_at
context_fields_found [] d h = absurd cc
context_fields_found (a ∷ []) d h = absurd cc
context_fields_found (a ∷ b ∷ []) d h = absurd cc
context_fields_found (a ∷ b ∷ c ∷ []) d h =
    let ta = chosen (eqb a.element.tag INTEGER) (cond (eqb b.element.tag OBJECT_IDENTIFIER) (cond (eqb c.element.tag SEQUENCE) (of_three a b c) None) None) d h in
    let tb = chosen (eqb b.element.tag OBJECT_IDENTIFIER) (cond (eqb c.element.tag SEQUENCE) (of_three a b c) None) d ta.1 in
    let tc = chosen (eqb c.element.tag SEQUENCE) (of_three a b c) d tb.1 in
    let n = then_some (context_at a.element.content) (λ n. and_then (fields_in (content_piece c)) (λ syntaxes. Some (record { number = n; syntax = b.element.content; has_ber = has_ber syntaxes }))) d tc.1 in
    let ss = then_some (fields_in (content_piece c)) (λ syntaxes. Some (record { number = n.0; syntax = b.element.content; has_ber = has_ber syntaxes })) d n.2 in
    subst (λ (x : Context). AreContextFields (a ∷ b ∷ c ∷ []) x) (some_is (record { number = n.0; syntax = b.element.content; has_ber = has_ber ss.0 }) d ss.2)
    (eqb-true a.element.tag INTEGER ta.0, context_found a.element.content n.0 n.1, eqb-true b.element.tag OBJECT_IDENTIFIER tb.0, refl, eqb-true c.element.tag SEQUENCE tc.0, ss.0, fields_found (content_piece c) ss.0 ss.1, says_found ss.0 (has_ber ss.0) refl)
context_fields_found (a ∷ b ∷ c ∷ e ∷ more) d h = absurd cc

context_fields_again : (fields : List Spot) (d : Context) → AreContextFields fields d → context_fields_at fields ≡ Some d
unfolding context_fields_at
context_fields_again [] d h = absurd h
context_fields_again (a ∷ []) d h = absurd h
context_fields_again (a ∷ b ∷ []) d h = absurd h
context_fields_again (a ∷ b ∷ c ∷ []) d (ta, n, tb, syntax, tc, ss, are, says) =
    rw (eq-eqb a.element.tag INTEGER ta, eq-eqb b.element.tag OBJECT_IDENTIFIER tb, eq-eqb c.element.tag SEQUENCE tc, context_again a.element.content d.number n, fields_again (content_piece c) ss are, says_again ss d.has_ber says, sym syntax) refl
context_fields_again (a ∷ b ∷ c ∷ e ∷ more) d h = absurd h

definition_found : (s : Spot) (d : Context) → definition_at s ≡ Some d → IsDefinition s d
unfolding definition_at
definition_found s d h =
    let t = chosen (eqb s.element.tag SEQUENCE) (and_then (fields_in (content_piece s)) context_fields_at) d h in
    let fields = then_some (fields_in (content_piece s)) context_fields_at d t.1 in
    (eqb-true s.element.tag SEQUENCE t.0, fields.0, fields_found (content_piece s) fields.0 fields.1, context_fields_found fields.0 d fields.2)

definition_again : (s : Spot) (d : Context) → IsDefinition s d → definition_at s ≡ Some d
unfolding definition_at
definition_again s d (t, fields, are, is) = rw (eq-eqb s.element.tag SEQUENCE t, fields_again (content_piece s) fields are) (context_fields_again fields d is)

-- ---- the list

definitions_found : (ss : List Spot) (ds : List Context) → definitions_at ss ≡ Some ds → AreDefinitions ss ds
definitions_found [] ds h = subst (λ (x : List Context). AreDefinitions [] x) (some_is [] ds h) tt
definitions_found (s ∷ ss) ds h =
    let d = then_some (definition_at s) (λ d. and_then (definitions_at ss) (λ others. Some (d ∷ others))) ds h in
    let others = then_some (definitions_at ss) (λ others. Some (d.0 ∷ others)) ds d.2 in
    subst (λ (x : List Context). AreDefinitions (s ∷ ss) x) (some_is (d.0 ∷ others.0) ds others.2) (definition_found s d.0 d.1, definitions_found ss others.0 others.1)

definitions_again : (ss : List Spot) (ds : List Context) → AreDefinitions ss ds → definitions_at ss ≡ Some ds
definitions_again [] [] h = refl
definitions_again [] (d ∷ ds) h = absurd h
definitions_again (s ∷ ss) [] h = absurd h
definitions_again (s ∷ ss) (d ∷ ds) h = rw (definition_again s d h.0, definitions_again ss ds h.1) refl

pub context_list_found : (content : Piece) (contexts : List Context) → context_list_at content ≡ Some contexts → IsContextList content contexts
unfolding context_list_at
context_list_found content contexts h =
    let spots = then_some (fields_in content) definitions_at contexts h in
    (spots.0, fields_found content spots.0 spots.1, definitions_found spots.0 contexts spots.2)

pub context_list_again : (content : Piece) (contexts : List Context) → IsContextList content contexts → context_list_at content ≡ Some contexts
unfolding context_list_at
context_list_again content contexts (spots, are, is) = rw (fields_again content spots are) (definitions_again spots contexts is)

-- ---- what is chosen

first_at : (syntax : List ℕ) (c : Context) (cs : List Context) (x : ℕ × Context) → ((bytes_eq c.syntax syntax ≡ true) × (Some (0, c) ≡ Some x)) ⊎ ((bytes_eq c.syntax syntax ≡ false) × (option_map further (first_of syntax cs) ≡ Some x))
    → ((y : ℕ × Context) → first_of syntax cs ≡ Some y → IsFirst syntax cs y.0 y.1) → IsFirst syntax (c ∷ cs) x.0 x.1
first_at syntax c cs x (inl (t, e)) ih = subst (λ (y : ℕ × Context). IsFirst syntax (c ∷ cs) y.0 y.1) (some_is (0, c) x e) (octets_same c.syntax syntax t, refl)
first_at syntax c cs x (inr (t, e)) ih =
    let z = map_some further (first_of syntax cs) x e in
    subst (λ (y : ℕ × Context). IsFirst syntax (c ∷ cs) y.0 y.1) z.2 (other_octets c.syntax syntax t, ih z.0 z.1)

first_found : (syntax : List ℕ) (cs : List Context) (x : ℕ × Context) → first_of syntax cs ≡ Some x → IsFirst syntax cs x.0 x.1
first_found syntax [] x h = absurd cc
first_found syntax (c ∷ cs) x h = first_at syntax c cs x (sides (bytes_eq c.syntax syntax) (Some (0, c)) (option_map further (first_of syntax cs)) (Some x) h) (first_found syntax cs)

first_again : (syntax : List ℕ) (cs : List Context) (place : ℕ) (d : Context) → IsFirst syntax cs place d → first_of syntax cs ≡ Some (place, d)
first_again syntax [] place d h = absurd h
first_again syntax (c ∷ cs) zero d h = rw (octets_equal c.syntax syntax h.0, h.1) refl
first_again syntax (c ∷ cs) (suc n) d h = rw (octets_other c.syntax syntax h.0, first_again syntax cs n d h.1) refl

pub chosen_found : (syntax : List ℕ) (contexts : List Context) (x : Chosen) → chosen_at syntax contexts ≡ Some x → IsChosen syntax contexts x
chosen_found syntax contexts x h =
    let first = then_some (first_of syntax contexts) (λ x. cond x.1.has_ber (Some (record { place = x.0; number = x.1.number })) None) x h in
    let b = chosen first.0.1.has_ber (Some (record { place = first.0.0; number = first.0.1.number })) x first.2 in
    subst (λ (y : Chosen). IsChosen syntax contexts y) (some_is (record { place = first.0.0; number = first.0.1.number }) x b.1)
    (first.0.1, first_found syntax contexts first.0 first.1, b.0, refl)

pub chosen_again : (syntax : List ℕ) (contexts : List Context) (x : Chosen) → IsChosen syntax contexts x → chosen_at syntax contexts ≡ Some x
chosen_again syntax contexts x (d, first, has, is) = rw (first_again syntax contexts x.place d first, has, sym is) refl
