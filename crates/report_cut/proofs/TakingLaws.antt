-- Fields in front are taken as the octets say them.
use Rattle.std.proofs.Common.{◌≡◌, ℕ, cond, eqb, Bool, true, false, List, refl, sym, ap, subst, ◌∙◌, Option, Some, None, Ok}
use Rattle.std.proofs.lemmas.Bool.{eqb-true, eq-eqb}
use Rattle.list_laws.proofs.Options.{some_is, chosen}
use Rattle.ber_grammar.specs.Octets.{IsBytes}
use Rattle.ber_grammar.specs.Element.{Element, Begins, Spells}
use Rattle.ber_grammar.specs.Reader.{kept, and_then}
use Rattle.ber_grammar.specs.Reading.{first_at}
use Rattle.ber_grammar.specs.Fields.{whole_at}
use Rattle.ber_grammar.proofs.OptionLaws.{kept_some, then_some}
use Rattle.ber_grammar.proofs.ElementLaws.{first_again}
use Rattle.ber_grammar.proofs.FieldLaws.{begins_of, whole_again, whole_found}
use Rattle.ber_grammar.proofs.OctetLaws.{Begins-bytes}
use Rattle.report_cut.specs.Part.{Takes}
use Rattle.report_cut.specs.PartReading.{enclosed_at, field_at, said, taken_at}
use Rattle.report_cut.proofs.ContentLaws.{IsFound, IsAgain}

pub enclosed_found : (tag : ℕ) (octets content : List ℕ) → enclosed_at tag octets ≡ Some content → (e : Element) × Spells octets e × (e.tag ≡ tag) × (e.content ≡ content)
unfolding enclosed_at
enclosed_found tag octets content h =
    let a = then_some (whole_at octets) (λ e. cond (eqb e.tag tag) (Some e.content) None) content h in
    let b = chosen (eqb a.0.tag tag) (Some a.0.content) content a.2 in
    (a.0, whole_found octets a.0 a.1, eqb-true a.0.tag tag b.0, some_is a.0.content content b.1)

pub enclosed_again : (tag : ℕ) (octets content : List ℕ) (e : Element) → Spells octets e → e.tag ≡ tag → e.content ≡ content → enclosed_at tag octets ≡ Some content
unfolding enclosed_at
enclosed_again tag octets content e s is_tag holds = rw (whole_again octets e s, eq-eqb e.tag tag is_tag) (ap (λ (c : List ℕ). Some c) holds)

-- the element of a field that is asked for
pub field_found : (tag : ℕ) (octets : List ℕ) (y : Option (List ℕ) × List ℕ) → field_at tag true octets ≡ Some y → (e : Element) × Begins octets e y.1 × (e.tag ≡ tag) × (y.0 ≡ Some e.content)
unfolding field_at
field_found tag octets y h =
    let a = then_some (kept (first_at octets)) (λ x. cond (eqb x.0.tag tag) (Some (Some x.0.content, x.1)) None) y h in
    let b = chosen (eqb a.0.0.tag tag) (Some (Some a.0.0.content, a.0.1)) y a.2 in
    let both : (Some a.0.0.content, a.0.1) ≡ y = some_is (Some a.0.0.content, a.0.1) y b.1 in (
      a.0.0,
      subst (λ (x : List ℕ). Begins octets a.0.0 x) (ap (λ (x : Option (List ℕ) × List ℕ). x.1) both) (begins_of octets a.0 (kept_some (first_at octets) a.0 a.1)),
      eqb-true a.0.0.tag tag b.0,
      sym (ap (λ (x : Option (List ℕ) × List ℕ). x.0) both),
    )

pub field_again : (tag : ℕ) (octets rest : List ℕ) (e : Element) → Begins octets e rest → e.tag ≡ tag → field_at tag true octets ≡ Some (Some e.content, rest)
unfolding field_at
field_again tag octets rest e (front, s, p) is_tag = let first : first_at octets ≡ Ok (e, rest) = ap first_at p ∙ first_again front rest e s in rw (first, eq-eqb e.tag tag is_tag) refl

unasked : (tag : ℕ) (octets : List ℕ) → field_at tag false octets ≡ Some (None, octets)
unfolding field_at
unasked tag octets = refl

said_none : {A : Type 0} (read : List ℕ → Option A) (none v : A) (o : Option (List ℕ)) → o ≡ None → said read none o ≡ Some v → none ≡ v
said_none read none v None e h = some_is none v h
said_none read none v (Some c) e h = absurd cc

pub said_some : {A : Type 0} (read : List ℕ → Option A) (none v : A) (c : List ℕ) (o : Option (List ℕ)) → o ≡ Some c → said read none o ≡ Some v → read c ≡ Some v
said_some read none v c None e h = absurd cc
said_some read none v c (Some d) e h = ap read (sym (some_is d c e)) ∙ h

module _ {A : Type 0} (tag : ℕ) (read : List ℕ → Option A) (Is : List ℕ → A → Type 0) (found : IsFound read Is) (again : IsAgain read Is) where
  pub takes_found : (asked : Bool) (none : A) (octets : List ℕ) (x : A × List ℕ) → IsBytes octets → taken_at tag read asked none octets ≡ Some x → Takes tag Is asked none octets x.1 x.0 × IsBytes x.1
  unfolding taken_at
  takes_found true none octets x fits h =
      let a = then_some (field_at tag true octets) (λ y. and_then (said read none y.0) (λ v. Some (v, y.1))) x h in
      let b = then_some (said read none a.0.0) (λ v. Some (v, a.0.1)) x a.2 in
      let f = field_found tag octets a.0 a.1 in
      let bytes = Begins-bytes octets f.0 a.0.1 fits f.1 in
      let is : Is f.0.content b.0 = found f.0.content b.0 bytes.0 (said_some read none b.0 f.0.content a.0.0 f.3 b.1) in
      subst (λ (y : A × List ℕ). Takes tag Is true none octets y.1 y.0 × IsBytes y.1) (some_is (b.0, a.0.1) x b.2) ((f.0, f.1, f.2, is), bytes.1)
  takes_found false none octets x fits h =
      let a = then_some (field_at tag false octets) (λ y. and_then (said read none y.0) (λ v. Some (v, y.1))) x h in
      let b = then_some (said read none a.0.0) (λ v. Some (v, a.0.1)) x a.2 in
      let e : (None, octets) ≡ a.0 = some_is (None, octets) a.0 (sym (unasked tag octets) ∙ a.1) in
      let none_is : none ≡ b.0 = said_none read none b.0 a.0.0 (sym (ap (λ (y : Option (List ℕ) × List ℕ). y.0) e)) b.1 in
      let rest_is : octets ≡ a.0.1 = ap (λ (y : Option (List ℕ) × List ℕ). y.1) e in
      subst (λ (y : A × List ℕ). Takes tag Is false none octets y.1 y.0 × IsBytes y.1) (some_is (b.0, a.0.1) x b.2) ((sym none_is, sym rest_is), subst (λ (o : List ℕ). IsBytes o) rest_is fits)

  pub takes_again : (asked : Bool) (none : A) (octets rest : List ℕ) (x : A) → Takes tag Is asked none octets rest x → taken_at tag read asked none octets ≡ Some (x, rest)
  unfolding taken_at
  takes_again true none octets rest x (e, begins, is_tag, is) = rw (field_again tag octets rest e begins is_tag, again e.content x is) refl
  takes_again false none octets rest x (is, same) = rw (unasked tag octets, is, same) refl

  pub takes_bytes : (asked : Bool) (none : A) (octets rest : List ℕ) (x : A) → IsBytes octets → Takes tag Is asked none octets rest x → IsBytes rest
  takes_bytes true none octets rest x fits (e, begins, is_tag, is) = (Begins-bytes octets e rest fits begins).1
  takes_bytes false none octets rest x fits (is, same) = subst (λ (o : List ℕ). IsBytes o) (sym same) fits
