-- A domain is there where a logical node is of it.
use Rattle.std.proofs.Common.{◌≡◌, ℕ, Bool, true, false, List, [], ◌∷◌, ◌++◌, drop, refl, sym, ap, ◌∙◌}
use Rattle.std.specs.Prelude.{◌||◌, if◌then◌else◌}
use Rattle.std.specs.List.{list_any}
use Rattle.std.specs.Str.{bytes_eq}
use Rattle.sv_base.specs.declared.config.Config.{Config}
use Rattle.sv_base.specs.declared.config.LnDef.{LnDef}
use Rattle.bay_model.specs.Configured.{with_domain, domains_after}
use Rattle.bay_model.specs.Named.{configured_model}
use Rattle.bay_model.specs.Names.{is_domain}
use Rattle.list_laws.proofs.Distinct.{octets_same}

module _ (domain : List ℕ) where
  abbrev has : List (List ℕ) → Bool
  has ds = list_any (λ d. bytes_eq d domain) ds

  abbrev has_node : List LnDef → Bool
  has_node ns = list_any (λ (n : LnDef). bytes_eq n.domain domain) ns

  has-more : (ds : List (List ℕ)) (d : List ℕ) → has (ds ++ d ∷ []) ≡ (has ds || bytes_eq d domain)
  has-more [] d = by (bytes_eq d domain)
    where
      by : (t : Bool) → (t || false) ≡ (false || t)
      by true = refl
      by false = refl
  has-more (e ∷ ds) d = by (bytes_eq e domain) (has-more ds d)
    where
      by : (t : Bool) → has (ds ++ d ∷ []) ≡ (has ds || bytes_eq d domain) → (t || has (ds ++ d ∷ [])) ≡ ((t || has ds) || bytes_eq d domain)
      by true go = refl
      by false go = go

  -- a domain that is there already adds nothing
  already : (ds : List (List ℕ)) (d : List ℕ) → list_any (bytes_eq d) ds ≡ true → (has ds || bytes_eq d domain) ≡ has ds
  already ds d is = by (bytes_eq d domain) refl
    where
      there : (es : List (List ℕ)) → list_any (bytes_eq d) es ≡ true → bytes_eq d domain ≡ true → has es ≡ true
      there [] h same = h
      there (e ∷ es) h same = either (bytes_eq d e) refl h (λ k. there es k same)
        where
          either : (t : Bool) → bytes_eq d e ≡ t → (t || list_any (bytes_eq d) es) ≡ true → (list_any (bytes_eq d) es ≡ true → has es ≡ true) → (bytes_eq e domain || has es) ≡ true
          either true is h go = ap (λ x. bytes_eq x domain || has es) (sym (octets_same d e is)) ∙ ap (λ t. t || has es) same
          either false is h go = last (bytes_eq e domain) (go h)
            where
              last : (t : Bool) → has es ≡ true → (t || has es) ≡ true
              last true k = refl
              last false k = k

      by : (t : Bool) → bytes_eq d domain ≡ t → (has ds || t) ≡ has ds
      by true same = all (has ds) (there ds is same)
        where
          all : (x : Bool) → x ≡ true → (x || true) ≡ x
          all true k = refl
          all false k = sym k
      by false same = none (has ds)
        where
          none : (x : Bool) → (x || false) ≡ x
          none true = refl
          none false = refl

  with-one : (ds : List (List ℕ)) (d : List ℕ) → has (with_domain ds d) ≡ (has ds || bytes_eq d domain)
  with-one ds d = by (list_any (bytes_eq d) ds) refl
    where
      by : (t : Bool) → list_any (bytes_eq d) ds ≡ t → has (if t then ds else ds ++ d ∷ []) ≡ (has ds || bytes_eq d domain)
      by true is = sym (already ds d is)
      by false is = has-more ds d

  or-both : (x y z : Bool) → ((x || y) || z) ≡ (x || (y || z))
  or-both true y z = refl
  or-both false y z = refl

  or-none : (x : Bool) → (x || false) ≡ x
  or-none true = refl
  or-none false = refl

  after-all : (ds : List (List ℕ)) (ns : List LnDef) → has (domains_after ds ns) ≡ (has ds || has_node ns)
  after-all ds [] = sym (or-none (has ds))
  after-all ds (n ∷ ns) = after-all (with_domain ds n.domain) ns ∙ (ap (λ t. t || has_node ns) (with-one ds n.domain) ∙ or-both (has ds) (bytes_eq n.domain domain) (has_node ns))

  pub domain_is : (c : Config) → is_domain (configured_model c) domain ≡ has_node c.nodes
  domain_is c = after-all [] c.nodes

-- ---- for the loop

pub any-next : (p : LnDef → Bool) (ns : List LnDef) (i : ℕ) (n : LnDef) (rest : List LnDef) → drop i ns ≡ n ∷ rest → list_any p (drop i ns) ≡ (p n || list_any p rest)
any-next p ns i n rest is = ap (list_any p) is
