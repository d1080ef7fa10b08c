-- Where the lines of a text stand: in a domain, and in one of its logical nodes.
use Rattle.std.proofs.Common.{◌≡◌, ℕ, ◌⊎◌, inl, inr, true, List, [], ◌∷◌, ◌++◌, refl, ap, subst, ◌∙◌}
use Rattle.sv_base.specs.declared.config.LnDef.{LnDef}
use Rattle.text_words.specs.Names.{is_name}
use Rattle.cfg_lines.specs.Before.{place_of, domain_of, node_of}
use Rattle.cfg_lines.specs.Configs.{config_of}
use Rattle.cfg_grammar.specs.Follows.{IsInNode}
use Rattle.cfg_grammar.specs.Texts.{AreLines}
use Rattle.cfg_lines.specs.declared.line.Line.{Line}
use Rattle.cfg_lines.specs.declared.line.Line.TheVariants as lines
use Rattle.cfg_lines.specs.declared.line.Place.{Place}
use Rattle.cfg_lines.specs.declared.line.Place.TheVariants as places
use Rattle.list_laws.proofs.Among.{Among, left, right, ending}

-- a logical node of these, in a domain
pub record IsIn (nodes : List LnDef) (domain ln : List ℕ) : Type 0 where
  pub node : LnDef
  pub there : Among node nodes
  pub domain_is : node.domain ≡ domain
  pub ln_is : node.ln ≡ ln
  pub domain_name : is_name domain ≡ true
  pub ln_name : is_name ln ≡ true

pub in-more : (nodes : List LnDef) (node : LnDef) (domain ln : List ℕ) → IsIn nodes domain ln → IsIn (nodes ++ node ∷ []) domain ln
in-more nodes node domain ln h = record { node = h.node; there = left h.node nodes (node ∷ []) h.there; domain_is = h.domain_is; ln_is = h.ln_is; domain_name = h.domain_name; ln_name = h.ln_name }

abbrev pub Stands : Place → List LnDef → List ℕ → List ℕ → Type 0
Stands places.InDomain nodes domain ln = is_name domain ≡ true
Stands places.InNode nodes domain ln = IsIn nodes domain ln
Stands places.InSet nodes domain ln = IsIn nodes domain ln
Stands places.InMembers nodes domain ln = IsIn nodes domain ln
Stands _ nodes domain ln = Unit {0}

module _ (nodes : List LnDef) (domain ln : List ℕ) where
  in-node-of : (p : Place) → Stands p nodes domain ln → (p ≡ places.InNode) ⊎ (p ≡ places.InMembers) → IsIn nodes domain ln
  in-node-of p h (inl e) = subst (λ q. Stands q nodes domain ln) e h
  in-node-of p h (inr e) = subst (λ q. Stands q nodes domain ln) e h

  in-set-of : (p : Place) → Stands p nodes domain ln → (p ≡ places.InSet) ⊎ (p ≡ places.InMembers) → IsIn nodes domain ln
  in-set-of p h (inl e) = subst (λ q. Stands q nodes domain ln) e h
  in-set-of p h (inr e) = subst (λ q. Stands q nodes domain ln) e h

  domain-name : (p : Place) → Stands p nodes domain ln → (p ≡ places.InDomain) ⊎ ((p ≡ places.InNode) ⊎ (p ≡ places.InMembers)) → is_name domain ≡ true
  domain-name p h (inl e) = subst (λ q. Stands q nodes domain ln) e h
  domain-name p h (inr e) = (in-node-of p h e).domain_name

abbrev pub StandsIn : List Line → Type 0
StandsIn told = Stands (place_of told) (config_of told).nodes (domain_of told) (node_of told)

pub stands : (told : List Line) (text : List ℕ) → AreLines text told → StandsIn told
stands [] text h = tt
stands (lines.Skip ∷ before) text h = stands before h.0 h.3
stands (lines.Config ∷ before) text h = tt
stands (lines.Server v m r ∷ before) text h = tt
stands (lines.Ld name ∷ before) text h = h.4.follows.2
stands (lines.Ln node ∷ before) text h = let f = h.4.follows in record {
  node = node;
  there = right node (config_of before).nodes (node ∷ []) (inl refl);
  domain_is = ap (λ (n : LnDef). n.domain) f.here;
  ln_is = refl;
  domain_name = domain-name (config_of before).nodes (domain_of before) (node_of before) (place_of before) (stands before h.0 h.3) f.stands;
  ln_name = f.name;
}
stands (lines.Member reference ∷ before) text h = in-set-of (config_of before).nodes (domain_of before) (node_of before) (place_of before) (stands before h.0 h.3) h.4.follows.stands
stands (lines.Sgcb groups ∷ before) text h = in-node-of (config_of before).nodes (domain_of before) (node_of before) (place_of before) (stands before h.0 h.3) h.4.follows.stands.0
stands (lines.End ∷ before) text h = tt
stands (line ∷ before) text h = in-node-of (config_of before).nodes (domain_of before) (node_of before) (place_of before) (stands before h.0 h.3) h.4.follows.stands

pub in-node : (told : List Line) (text : List ℕ) → AreLines text told → IsInNode told → IsIn (config_of told).nodes (domain_of told) (node_of told)
in-node told text h i = in-node-of (config_of told).nodes (domain_of told) (node_of told) (place_of told) (stands told text h) i

-- the logical nodes
pub nodes-read : (told : List Line) (text : List ℕ) → AreLines text told → (n : LnDef) → Among n (config_of told).nodes → (is_name n.ln ≡ true) × (is_name n.domain ≡ true)
nodes-read [] text h n i = absurd i
nodes-read (lines.Ln node ∷ before) text h n i = by (ending n (config_of before).nodes node i) (nodes-read before h.0 h.3 n)
  where
    by : Among n (config_of before).nodes ⊎ (n ≡ node) → (Among n (config_of before).nodes → (is_name n.ln ≡ true) × (is_name n.domain ≡ true)) → (is_name n.ln ≡ true) × (is_name n.domain ≡ true)
    by (inl j) go = go j
    by (inr e) go = let f = h.4.follows in let d = domain-name (config_of before).nodes (domain_of before) (node_of before) (place_of before) (stands before h.0 h.3) f.stands in
        (ap (λ (m : LnDef). is_name m.ln) e ∙ f.name, ap (λ (m : LnDef). is_name m.domain) e ∙ (ap (λ (m : LnDef). is_name m.domain) f.here ∙ d))
nodes-read (line ∷ before) text h n i = nodes-read before h.0 h.3 n i
