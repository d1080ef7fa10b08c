-- Below a name of a place's item, in a tree that is as deep as its items are long.
use Rattle.std.proofs.Common.{◌≡◌, ℕ, zero, suc, ◌⊎◌, inl, inr, List, [], ◌∷◌, ◌++◌, sym, ap, ◌∙◌, append_assoc}
use Rattle.std.proofs.lemmas.List.{append_cancel_left}
use Rattle.bay_model.specs.Generated.{Named}
use Rattle.bay_model.specs.NameTree.{below, grown}
use Rattle.bay_model.specs.Places.{Place, places}
use Rattle.list_laws.proofs.Among.{Among}
use Rattle.text_configs.proofs.JoinedLaws.{NoDollar, joined, first, first-alone, first-before, first-joined}
use Rattle.text_configs.proofs.NamedLaws.{place_at, deeper}
use Rattle.text_configs.proofs.PlaceLaws.{descend-one, item-behind}
use Rattle.text_configs.proofs.DataLaws.{AreWithin, within-below}

pub record IsUnder (before : List ℕ) (ns : List Named) (p : Place) (a : List ℕ) : Type 0 where
  pub depth : ℕ
  pub within : AreWithin depth (below a ns)
  pub there : Among p (places (before ++ a ++ 36 ∷ []) (grown (suc depth) (below a ns)))

pub under : (before : List ℕ) (l : ℕ) (ns : List Named) (p : Place) (a b : List ℕ) (more : List (List ℕ)) → NoDollar a → p.item ≡ before ++ joined (a ∷ b ∷ more) → AreWithin l ns → Among p (places before (grown (suc l) ns)) → IsUnder before ns p a
under before l ns p a b more plain is within i = by l within (descend-one before l ns p a b more plain is i)
  where
    by : (l : ℕ) → AreWithin l ns → Among p (places (before ++ a ++ 36 ∷ []) (grown l (below a ns))) → IsUnder before ns p a
    by zero within j = absurd j
    by (suc k) within j = record { depth = k; within = within-below k ns a within; there = j }

-- the name at which a place stands is the first of what is left of its item
pub same-name : (before : List ℕ) (l : ℕ) (ns : List Named) (p : Place) (f b : List ℕ) (more : List (List ℕ)) → NoDollar f → NoDollar b → p.item ≡ before ++ joined (b ∷ more) → (p ≡ place_at before l ns f) ⊎ Among p (deeper before l ns f) → f ≡ b
same-name before l ns p f b more without plain is (inl e) =
    let tail : f ≡ joined (b ∷ more) = append_cancel_left before f (joined (b ∷ more)) (sym (ap (λ (q : Place). q.item) e) ∙ is) in
    sym (first-alone f without) ∙ (ap first tail ∙ first-joined b more plain)
same-name before l ns p f b more without plain is (inr j) =
    let g = item-behind (before ++ f ++ 36 ∷ []) (grown l (below f ns)) p j in
    let tail : f ++ 36 ∷ g.0 ≡ joined (b ∷ more) = append_cancel_left before (f ++ 36 ∷ g.0) (joined (b ∷ more)) (sym (g.1 ∙ (append_assoc (before ++ f) (36 ∷ []) g.0 ∙ append_assoc before f (36 ∷ g.0))) ∙ is) in
    sym (first-before f g.0 without) ∙ (ap first tail ∙ first-joined b more plain)
