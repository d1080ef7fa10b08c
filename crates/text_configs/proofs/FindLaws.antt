-- The first element that passes a test, and the domains of a configuration.
use Rattle.std.proofs.Common.{◌≡◌, ℕ, suc, ◌+◌, Bool, true, false, cond, ◌⊎◌, inl, inr, List, [], ◌∷◌, Some, position, refl, sym, ap, subst, ◌∙◌, arith, true≢false}
use Rattle.std.specs.Option.{option_map}
use Rattle.list_laws.proofs.Places.{place-cons}
use Rattle.sv_base.specs.declared.config.LnDef.{LnDef}
use Rattle.bay_model.specs.Configured.{with_domain, domains_after}
use Rattle.list_laws.proofs.Among.{Among, At}
use Rattle.text_configs.proofs.NamedLaws.{with-old, with-new, with-back}

pub record IsFound {X : Type 0} (p : X → Bool) (xs : List X) : Type 0 where
  pub number : ℕ
  pub element : X
  pub is : position p xs ≡ Some number
  pub at : At number element xs
  pub passes : p element ≡ true

pub found : {X : Type 0} (p : X → Bool) (x : X) (xs : List X) → Among x xs → p x ≡ true → IsFound p xs
found p x [] i is = absurd i
found {X} p x (y ∷ ys) i is = by (p y) refl i (λ j. found p x ys j is)
  where
    here : p y ≡ true → IsFound p (y ∷ ys)
    here e = record { number = 0; element = y; is = place-cons p y ys ∙ ap (λ b. cond b (Some 0) (option_map (λ n. n + 1) (position p ys))) e; at = refl; passes = e }

    further : p y ≡ false → IsFound p ys → IsFound p (y ∷ ys)
    further e g = let next : g.number + 1 ≡ suc g.number = omega arith in record {
      number = suc g.number;
      element = g.element;
      is = place-cons p y ys ∙ (ap (λ b. cond b (Some 0) (option_map (λ n. n + 1) (position p ys))) e ∙ (ap (option_map (λ n. n + 1)) g.is ∙ ap Some next));
      at = g.at;
      passes = g.passes;
    }

    by : (b : Bool) → p y ≡ b → (x ≡ y) ⊎ Among x ys → (Among x ys → IsFound p ys) → IsFound p (y ∷ ys)
    by true e j go = here e
    by false e (inl s) go = absurd (true≢false (sym (ap p (sym s) ∙ is) ∙ e))
    by false e (inr j) go = further e (go j)

-- ---- domains

domains-old : (d : List ℕ) (ds : List (List ℕ)) (ns : List LnDef) → Among d ds → Among d (domains_after ds ns)
domains-old d ds [] i = i
domains-old d ds (n ∷ ns) i = domains-old d (with_domain ds n.domain) ns (with-old d ds n.domain i)

-- the domain of a logical node is there
pub domain-there : (n : LnDef) (ds : List (List ℕ)) (ns : List LnDef) → Among n ns → Among n.domain (domains_after ds ns)
domain-there n ds [] i = absurd i
domain-there n ds (m ∷ ns) (inl e) = domains-old n.domain (with_domain ds m.domain) ns (subst (λ (k : LnDef). Among n.domain (with_domain ds k.domain)) e (with-new ds n.domain))
domain-there n ds (m ∷ ns) (inr i) = domain-there n (with_domain ds m.domain) ns i

-- each domain is that of a logical node
pub domain-of : (d : List ℕ) (ds : List (List ℕ)) (ns : List LnDef) → Among d (domains_after ds ns) → Among d ds ⊎ ((n : LnDef) × Among n ns × (d ≡ n.domain))
domain-of d ds [] i = inl i
domain-of d ds (m ∷ ns) i = by (domain-of d (with_domain ds m.domain) ns i)
  where
    here : Among d ds ⊎ (d ≡ m.domain) → Among d ds ⊎ ((n : LnDef) × Among n (m ∷ ns) × (d ≡ n.domain))
    here (inl j) = inl j
    here (inr e) = inr (m, inl refl, e)

    by : Among d (with_domain ds m.domain) ⊎ ((n : LnDef) × Among n ns × (d ≡ n.domain)) → Among d ds ⊎ ((n : LnDef) × Among n (m ∷ ns) × (d ≡ n.domain))
    by (inl j) = here (with-back d ds m.domain j)
    by (inr h) = inr (h.0, inr h.1, h.2)
