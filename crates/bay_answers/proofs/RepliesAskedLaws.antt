-- What was read, where it is written back, is told to the client as it was asked for.
use Rattle.std.proofs.Common.{◌≡◌, ℕ, ◌^◌, ◌<◌, false, List, [], ◌∷◌, ◌++◌, length, refl, sym, subst, arith, map}
use Rattle.std.specs.List.{AllByRecursion, flat_map}
use Rattle.std.proofs.lemmas.List.{length-append}
use Rattle.ber_grammar.specs.Element.{Element, IsRow}
use Rattle.ber_write.specs.Minimal.{octets_of, written}
use Rattle.ber_write.proofs.ElementLaws.{is_spelling}
use Rattle.ber_write.proofs.LengthLaws.{inside}
use Rattle.ber_write.proofs.WrittenLaws.{written_more, one_octet, whole_last}
use Rattle.mms_pdu.specs.ObjectName.{Name, IsName, IsOnlyName}
use Rattle.mms_pdu.specs.ObjectName as mms
use Rattle.mms_pdu.specs.Variable.{IsVariable}
use Rattle.mms_pdu.specs.Each.{Each}
use Rattle.mms_pdu.specs.Access.{variables, named}
use Rattle.mms_pdu.specs.AskingOctets.{AreVisible, domain_name}
use Rattle.bay_model.specs.declared.request.ObjName.{ObjName}
use Rattle.bay_model.specs.declared.request.ObjName.TheVariants as names
use Rattle.bay_model.specs.declared.request.Target.{Target}
use Rattle.bay_model.specs.declared.request.Target.TheVariants as targets
use Rattle.bay_model.specs.declared.request.SetName.{SetName}
use Rattle.bay_model.specs.declared.reply.Asked.TheVariants as asked
use Rattle.bay_answers.specs.RepliesVariables.{name_octets, target_octets, asked_octets}
use Rattle.bay_answers.specs.RepliesTold.{name_told, target_told, IsVisibleName, IsVisibleTarget, TellsAsked}

domain_told : (d i : List ℕ) → AreVisible d → AreVisible i → length (domain_name d i) < 2 ^ 32 → IsOnlyName (domain_name d i) (mms.domain d i)
domain_told d i vd vi small =
    let both : List ℕ = octets_of 26 d ++ octets_of 26 i in
    let inner : length both < 2 ^ 32 = inside 161 both (2 ^ 32) small in
    let first : length (octets_of 26 d) < 2 ^ 32 = omega (arith, inner, length-append (octets_of 26 d) (octets_of 26 i)) in
    let second : length (octets_of 26 i) < 2 ^ 32 = omega (arith, inner, length-append (octets_of 26 d) (octets_of 26 i)) in
    let row : IsRow both (written 26 d ∷ written 26 i ∷ []) =
    written_more 26 d (octets_of 26 i) (written 26 i ∷ []) (one_octet 26 (omega arith) (λ e. omega (arith, e))) (inside 26 d (2 ^ 32) first) (whole_last 26 i (omega arith) (λ e. omega (arith, e)) second) in
    (written 161 both, whole_last 161 both (omega arith) (λ e. omega (arith, e)) small, (refl, written 26 d, written 26 i, row, (refl, (refl, vd)), (refl, (refl, vi))))

only_told : (n : ObjName) → IsVisibleName n → length (name_octets n) < 2 ^ 32 → IsOnlyName (name_octets n) (name_told n)
only_told (names.Vmd o) v small = (written 128 o, whole_last 128 o (omega arith) (λ e. omega (arith, e)) small, (refl, refl))
only_told (names.Domain d i) v small = domain_told d i v.0 v.1 small
only_told (names.Assoc o) v small = (written 130 o, whole_last 130 o (omega arith) (λ e. omega (arith, e)) small, (refl, refl))

-- an item, which has no alternate access
plain_told : (n : ObjName) → IsVisibleName n → length (octets_of 160 (name_octets n)) < 2 ^ 32
    → IsVariable (written 48 (octets_of 160 (name_octets n))) (record { name = name_told n; alternate = false })
plain_told n v small =
    let row : IsRow (octets_of 160 (name_octets n)) (written 160 (name_octets n) ∷ []) = whole_last 160 (name_octets n) (omega arith) (λ e. omega (arith, e)) small in
    (refl, written 160 (name_octets n) ∷ [], row, (refl, only_told n v (inside 160 (name_octets n) (2 ^ 32) small), refl))

abbrev item : Target → List ℕ
item (targets.Node n name) = octets_of 160 (name_octets name)
item (targets.Missing name) = octets_of 160 (name_octets name)
item (targets.Alternate name) = octets_of 160 (name_octets name)

itemised : (t : Target) → target_octets t ≡ octets_of 48 (item t)
unfolding target_octets
itemised (targets.Node n name) = refl
itemised (targets.Missing name) = refl
itemised (targets.Alternate name) = refl

item_told : (t : Target) → IsVisibleTarget t → length (item t) < 2 ^ 32 → IsVariable (written 48 (item t)) (target_told t)
item_told (targets.Node n name) v small = plain_told name v small
item_told (targets.Missing name) v small = plain_told name v small
item_told (targets.Alternate name) v small = plain_told name v small

items_told : (ts : List Target) → AllByRecursion IsVisibleTarget ts → length (flat_map target_octets ts) < 2 ^ 32 → (es : List Element) × IsRow (flat_map target_octets ts) es × Each IsVariable es (map target_told ts)
items_told [] v small = ([], refl, tt)
items_told (t ∷ ts) v small =
    let rest : List ℕ = flat_map target_octets ts in
    let first : length (target_octets t) < 2 ^ 32 = omega (arith, small, length-append (target_octets t) rest) in
    let one : length (octets_of 48 (item t)) < 2 ^ 32 = subst (λ (o : List ℕ). length o < 2 ^ 32) (itemised t) first in
    let few : length (item t) < 2 ^ 32 = inside 48 (item t) (2 ^ 32) one in
    let r : (es : List Element) × IsRow rest es × Each IsVariable es (map target_told ts) = items_told ts v.1 (omega (arith, small, length-append (target_octets t) rest)) in (
      written 48 (item t) ∷ r.0,
      subst (λ (o : List ℕ). IsRow (o ++ rest) (written 48 (item t) ∷ r.0)) (sym (itemised t)) (written_more 48 (item t) rest r.0 (one_octet 48 (omega arith) (λ e. omega (arith, e))) few r.1),
      (item_told t v.0 few, r.2),
    )

pub variables_told : (ts : List Target) → AllByRecursion IsVisibleTarget ts → length (asked_octets (asked.Vars ts)) < 2 ^ 32 → TellsAsked (asked_octets (asked.Vars ts)) (variables (map target_told ts))
unfolding asked_octets
variables_told ts v small =
    let list : List ℕ = flat_map target_octets ts in
    let outer : length (octets_of 160 list) < 2 ^ 32 = inside 160 (octets_of 160 list) (2 ^ 32) small in
    let r : (es : List Element) × IsRow list es × Each IsVariable es (map target_told ts) = items_told ts v (inside 160 list (2 ^ 32) outer) in (
      written 160 (octets_of 160 list),
      is_spelling 160 (octets_of 160 list) (one_octet 160 (omega arith) (λ e. omega (arith, e))) outer,
      refl,
      written 160 list,
      whole_last 160 list (omega arith) (λ e. omega (arith, e)) outer,
      (refl, (r.0, r.1, r.2)),
    )

pub set_told : (n : SetName) → AreVisible n.domain → AreVisible n.item → length (asked_octets (asked.Set n)) < 2 ^ 32 → TellsAsked (asked_octets (asked.Set n)) (named (mms.domain n.domain n.item))
unfolding asked_octets
set_told n vd vi small =
    let name : List ℕ = domain_name n.domain n.item in
    let outer : length (octets_of 161 name) < 2 ^ 32 = inside 160 (octets_of 161 name) (2 ^ 32) small in (
      written 160 (octets_of 161 name),
      is_spelling 160 (octets_of 161 name) (one_octet 160 (omega arith) (λ e. omega (arith, e))) outer,
      refl,
      written 161 name,
      whole_last 161 name (omega arith) (λ e. omega (arith, e)) outer,
      (refl, domain_told n.domain n.item vd vi (inside 161 name (2 ^ 32) outer)),
    )
