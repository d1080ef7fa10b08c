-- What is read of a variable is what it spells, and what it spells is read.
use Rattle.std.proofs.Common.{◌≡◌, ℕ, Bool, true, false, eqb, List, [], ◌∷◌, map, Some, refl, sym, subst}
use Rattle.std.proofs.lemmas.Bool.{eqb-true, eq-eqb}
use Rattle.list_laws.proofs.Options.{some_is, chosen}
use Rattle.ber_grammar.specs.Element.{Element, IsRow}
use Rattle.ber_grammar.specs.Octets.{IsBytes}
use Rattle.ber_grammar.specs.Place.{Spot, Piece, content_piece, elements}
use Rattle.ber_grammar.specs.Reader.{and_then}
use Rattle.ber_grammar.proofs.OptionLaws.{then_some}
use Rattle.mms_pdu.specs.Each.{Each, each_in}
use Rattle.ber_grammar.specs.Fields.{fields_in, only_in, spot_in, spots}
use Rattle.mms_pdu.specs.ObjectName.{Name, name_octets, IsName, IsOnlyName, name_at}
use Rattle.mms_pdu.specs.Variable.{Variable, variable_octets, IsAlternate, IsSpecified, IsVariable, AreVariables, alternate_at, named_at, specified_at, variable_at}
use Rattle.ber_grammar.proofs.FieldLaws.{elements_found, elements_again, in_place, only_found, only_again}
use Rattle.mms_pdu.proofs.EachLaws.{each_found, each_again}
use Rattle.mms_pdu.proofs.ObjectNameLaws.{name_found, name_again}

-- ---- a name alone

pub only_name_found : (p : Piece) (n : Name Piece) → and_then (only_in p) name_at ≡ Some n → IsOnlyName p.octets (name_octets n)
only_name_found p n h =
    let a = then_some (only_in p) name_at n h in
    (a.0.element, only_found p a.0 a.1, name_found a.0 n a.2)

pub only_name_again : (p : Piece) (n : Name (List ℕ)) → IsOnlyName p.octets n → (x : Name Piece) × (and_then (only_in p) name_at ≡ Some x) × (name_octets x ≡ n)
only_name_again p n (e, row, is) =
    let x = name_again (spot_in p e) n is in
    (x.0, rw (only_again p e row, x.1) refl, x.2)

pub named_found : (tag : ℕ) (s : Spot) (n : Name Piece) → named_at tag s ≡ Some n → (s.element.tag ≡ tag) × IsOnlyName s.element.content (name_octets n)
unfolding named_at
named_found tag s n h =
    let a = chosen (eqb s.element.tag tag) (and_then (only_in (content_piece s)) name_at) n h in
    (eqb-true s.element.tag tag a.0, only_name_found (content_piece s) n a.1)

pub named_again : (tag : ℕ) (s : Spot) (n : Name (List ℕ)) → s.element.tag ≡ tag → IsOnlyName s.element.content n → (x : Name Piece) × (named_at tag s ≡ Some x) × (name_octets x ≡ n)
unfolding named_at
named_again tag s n t h =
    let x = only_name_again (content_piece s) n h in
    (x.0, rw (eq-eqb s.element.tag tag t, x.1) refl, x.2)

-- ---- a variable

alternate_found : (ss : List Spot) (b : Bool) → alternate_at ss ≡ Some b → IsAlternate (elements ss) b
alternate_found [] b h = sym (some_is false b h)
alternate_found (s ∷ []) b h =
    let a = chosen (eqb s.element.tag 165) (Some true) b h in
    (eqb-true s.element.tag 165 a.0, sym (some_is true b a.1))
alternate_found (s ∷ t ∷ more) b h = absurd cc

alternate_again : (ss : List Spot) (b : Bool) → IsAlternate (elements ss) b → alternate_at ss ≡ Some b
alternate_again [] b h = rw h refl
alternate_again (s ∷ []) b h = rw (eq-eqb s.element.tag 165 h.0, h.1) refl
alternate_again (s ∷ t ∷ more) b h = absurd h

specified_found : (ss : List Spot) (v : Variable Piece) → specified_at ss ≡ Some v → IsSpecified (elements ss) (variable_octets v)
unfolding specified_at
specified_found [] v h = absurd cc
specified_found (s ∷ more) v h =
    let x = then_some (named_at 160 s) (λ name. and_then (alternate_at more) (λ alternate. Some (record { name = name; alternate = alternate }))) v h in
    let y = then_some (alternate_at more) (λ alternate. Some (record { name = x.0; alternate = alternate })) v x.2 in
    let made : Variable Piece = record { name = x.0; alternate = y.0 } in
    let n = named_found 160 s x.0 x.1 in
    subst (λ (w : Variable Piece). IsSpecified (elements (s ∷ more)) (variable_octets w)) (some_is made v y.2) (n.0, n.1, alternate_found more y.0 y.1)

specified_again : (ss : List Spot) (v : Variable (List ℕ)) → IsSpecified (elements ss) v → (x : Variable Piece) × (specified_at ss ≡ Some x) × (variable_octets x ≡ v)
unfolding specified_at
specified_again [] v h = absurd h
specified_again (s ∷ more) v (tag, named, alternate) =
    let x = named_again 160 s v.name tag named in
    (record { name = x.0; alternate = v.alternate }, rw (x.1, alternate_again more v.alternate alternate) refl, rw x.2 refl)

pub variable_found : (s : Spot) (v : Variable Piece) → variable_at s ≡ Some v → IsVariable s.element (variable_octets v)
unfolding variable_at
variable_found s v h =
    let a = chosen (eqb s.element.tag 48) (and_then (fields_in (content_piece s)) specified_at) v h in
    let b = then_some (fields_in (content_piece s)) specified_at v a.1 in
    (eqb-true s.element.tag 48 a.0, elements b.0, elements_found (content_piece s) b.0 b.1, specified_found b.0 v b.2)

pub variable_again : (s : Spot) (v : Variable (List ℕ)) → IsVariable s.element v → (x : Variable Piece) × (variable_at s ≡ Some x) × (variable_octets x ≡ v)
unfolding variable_at
variable_again s v (tag, es, row, h) =
    let x = specified_again (spots (content_piece s) es) v (in_place (λ ds. IsSpecified ds v) (content_piece s) es h) in
    (x.0, rw (eq-eqb s.element.tag 48 tag, elements_again (content_piece s) es row, x.1) refl, x.2)

-- ---- lists

pub variables_found : (p : Piece) (vs : List (Variable Piece)) → IsBytes p.octets → each_in variable_at p ≡ Some vs → AreVariables p.octets (map variable_octets vs)
variables_found p vs fits h = each_found variable_at IsVariable variable_octets (λ s x b e. variable_found s x e) p vs fits h

pub variables_again : (p : Piece) (vs : List (Variable (List ℕ))) → IsBytes p.octets → AreVariables p.octets vs → (xs : List (Variable Piece)) × (each_in variable_at p ≡ Some xs) × (map variable_octets xs ≡ vs)
variables_again p vs fits (es, row, h) = each_again variable_at IsVariable variable_octets (λ s y b is. variable_again s y is) p es vs fits row h

pub names_found : (p : Piece) (ns : List (Name Piece)) → IsBytes p.octets → each_in name_at p ≡ Some ns → (es : List Element) × IsRow p.octets es × Each IsName es (map name_octets ns)
names_found p ns fits h = each_found name_at IsName name_octets (λ s x b e. name_found s x e) p ns fits h

pub names_again : (p : Piece) (es : List Element) (ns : List (Name (List ℕ))) → IsBytes p.octets → IsRow p.octets es → Each IsName es ns → (xs : List (Name Piece)) × (each_in name_at p ≡ Some xs) × (map name_octets xs ≡ ns)
names_again p es ns fits row h = each_again name_at IsName name_octets (λ s y b is. name_again s y is) p es ns fits row h
