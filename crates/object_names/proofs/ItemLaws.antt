-- The references of attributes have the items that the lines name.
use Rattle.std.proofs.Common.{◌≡◌, ◌<◌, ℕ, suc, ◌+◌, Bool, true, false, List, [], ◌∷◌, ◌++◌, length, map, filter, drop, get_or, Some, refl, sym, ap, ap₂, subst, ◌∙◌, arith, append_assoc, length-append, if◌then◌else◌}
use Rattle.std.specs.Prelude.{codes, slice_get, flat_map}
use Rattle.std.proofs.Math.Seq.{get_or-append_seam}
use Rattle.std.proofs.lemmas.List.{length-map, map-append, drop_more}
use Rattle.std.proofs.lemmas.Option.{slice_get_read}
use Rattle.sv_base.specs.declared.config.Config.{Config}
use Rattle.sv_base.specs.declared.config.AttrDef.{AttrDef}
use Rattle.sv_base.specs.declared.config.CtlDef.{CtlDef}
use Rattle.bay_model.specs.Generated.{parameters}
use Rattle.bay_model.specs.Lookups.{reference_of}
use Rattle.bay_model.specs.NamedLines.{is_setting}
use Rattle.name_leaves.specs.Attributes.{Attribute, line_attr, twin_attr, parameter_attr, control_attrs, references_of}
use Rattle.name_leaves.specs.References.{attr_references}
use Rattle.object_names.specs.Items.{HasReference, AreReferenced}

-- ---- the item of a reference

pub behind_domain : (domain item : List ℕ) → drop (length domain + 1) (reference_of domain item) ≡ item
behind_domain [] item = refl
behind_domain (o ∷ domain) item = let e : suc (length domain) + 1 ≡ suc (length domain + 1) = omega arith in ap (λ n. drop n (o ∷ reference_of domain item)) e ∙ behind_domain domain item

pub item_is : (reference domain item : List ℕ) → reference ≡ reference_of domain item → drop (length domain + 1) reference ≡ item
item_is reference domain item is = ap (drop (length domain + 1)) is ∙ behind_domain domain item

pub reference_longer : (reference domain item : List ℕ) → reference ≡ reference_of domain item → length domain < length reference
reference_longer reference domain item is = omega (arith, ap length is, length-append domain (47 ∷ item))

-- ---- the references of the attributes of lines

abbrev firsts : List AttrDef → List (List ℕ)
firsts as_ = references_of (map line_attr as_)

abbrev twins : List AttrDef → List (List ℕ)
twins as_ = references_of (map twin_attr (filter is_setting as_))

count_firsts : (as_ : List AttrDef) → length (firsts as_) ≡ length as_
count_firsts as_ = length-map (map line_attr as_) (λ (a : Attribute). a.reference) ∙ length-map as_ line_attr

at_seam : (pre rest : List (List ℕ)) (r : List ℕ) → slice_get (pre ++ r ∷ rest) (length pre) ≡ Some r
at_seam pre rest r = slice_get_read (pre ++ r ∷ rest) (length (pre ++ r ∷ rest)) (length pre) r refl (omega (arith, length-append pre (r ∷ rest))) (sym (get_or-append_seam pre r rest r))

-- those of the lines stand after pre, and their twins after mid
referenced_from : (refs pre mid : List (List ℕ)) (x t : ℕ) (as_ : List AttrDef) → refs ≡ pre ++ (firsts as_ ++ (mid ++ twins as_)) → x ≡ length pre → t ≡ length pre + (length as_ + length mid) → AreReferenced refs x t as_
referenced_from refs pre mid x t [] is n m = tt
referenced_from refs pre mid x t (a ∷ as_) is n m = (own, twin, next (λ pre mid x t. referenced_from refs pre mid x t as_) (is_setting a) refl)
  where
    r : List ℕ
    r = (line_attr a).reference

    s : List ℕ
    s = (twin_attr a).reference

    front : List (List ℕ)
    front = firsts (a ∷ as_) ++ mid

    own : HasReference refs x a a.fc
    own = ap₂ slice_get is n ∙ at_seam pre (firsts as_ ++ (mid ++ twins (a ∷ as_))) r

    split : (b : Bool) → is_setting a ≡ b → twins (a ∷ as_) ≡ references_of (map twin_attr (if b then a ∷ filter is_setting as_ else filter is_setting as_))
    split b e = ap (λ b. references_of (map twin_attr (if b then a ∷ filter is_setting as_ else filter is_setting as_))) e

    twin : is_setting a ≡ true → HasReference refs t a (codes "SE")
    twin e =
        let whole = is ∙ (ap (λ z. pre ++ (firsts (a ∷ as_) ++ (mid ++ z))) (split true e)
        ∙ sym (append_assoc pre front (s ∷ twins as_) ∙ ap (λ z. pre ++ z) (append_assoc (firsts (a ∷ as_)) mid (s ∷ twins as_)))) in
        let place : t ≡ length (pre ++ front) = omega (arith, m, length-append pre front, length-append (firsts (a ∷ as_)) mid, count_firsts as_) in
        ap₂ slice_get whole place ∙ at_seam (pre ++ front) (twins as_) s

    next : ((pre mid : List (List ℕ)) (x t : ℕ) → refs ≡ pre ++ (firsts as_ ++ (mid ++ twins as_)) → x ≡ length pre → t ≡ length pre + (length as_ + length mid) → AreReferenced refs x t as_)
        → (b : Bool) → is_setting a ≡ b → AreReferenced refs (x + 1) (if b then t + 1 else t) as_
    next from true e = from (pre ++ r ∷ []) (mid ++ s ∷ []) (x + 1) (t + 1)
        (is ∙ (ap (λ z. pre ++ (r ∷ (firsts as_ ++ (mid ++ z)))) (split true e)
        ∙ sym (append_assoc pre (r ∷ []) (firsts as_ ++ ((mid ++ s ∷ []) ++ twins as_)) ∙ ap (λ z. pre ++ (r ∷ (firsts as_ ++ z))) (append_assoc mid (s ∷ []) (twins as_)))))
        (omega (arith, n, length-append pre (r ∷ []))) (omega (arith, m, length-append pre (r ∷ []), length-append mid (s ∷ [])))
    next from false e = from (pre ++ r ∷ []) mid (x + 1) t
        (is ∙ (ap (λ z. pre ++ (r ∷ (firsts as_ ++ (mid ++ z)))) (split false e) ∙ sym (append_assoc pre (r ∷ []) (firsts as_ ++ (mid ++ twins as_)))))
        (omega (arith, n, length-append pre (r ∷ []))) (omega (arith, m, length-append pre (r ∷ [])))

count_generated : (ks : List CtlDef) → length (flat_map control_attrs ks) ≡ length (flat_map parameters ks)
count_generated [] = refl
count_generated (k ∷ ks) = omega (arith, length-append (control_attrs k) (flat_map control_attrs ks), length-append (parameters k) (flat_map parameters ks), length-map (parameters k) (parameter_attr k), count_generated ks)

pub referenced : (c : Config) (refs : List (List ℕ)) (t : ℕ) → refs ≡ attr_references c → t ≡ length c.attrs + length (flat_map parameters c.controls) → AreReferenced refs 0 t c.attrs
referenced c refs t is n =
    let gens = flat_map control_attrs c.controls in
    let ends = map twin_attr (filter is_setting c.attrs) in
    let ref = λ (a : Attribute). a.reference in
    referenced_from refs [] (references_of gens) 0 t c.attrs (is ∙ (map-append ref (map line_attr c.attrs) (gens ++ ends) ∙ ap (λ z. firsts c.attrs ++ z) (map-append ref gens ends))) refl
    (omega (arith, n, length-map gens ref, count_generated c.controls))

-- the attribute of the line at a place, and those of the lines after it
pub referenced_at : (refs : List (List ℕ)) (x t i : ℕ) (as_ : List AttrDef) (a : AttrDef) → i < length as_ → a ≡ get_or as_ i a → AreReferenced refs x t (drop i as_) → AreReferenced refs x t (a ∷ drop (i + 1) as_)
referenced_at refs x t i as_ a h is are = subst (AreReferenced refs x t) (drop_more as_ i a h ∙ ap (λ z. z ∷ drop (i + 1) as_) (sym is)) are
