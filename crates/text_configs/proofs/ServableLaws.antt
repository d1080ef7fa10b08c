-- What a configuration's text spells can be served by a bay.
use Rattle.std.proofs.Common.{◌≡◌, ◌⊎◌, inl, inr, ℕ, ◌≤◌, Bool, true, false, not, ◌||◌, List, [], ◌∷◌, length, map, nat_lt, is_some, position, refl, sym, ap, subst, ◌∙◌, arith, true≢false}
use Rattle.std.specs.List.{All}
use Rattle.std.specs.Str.{bytes_eq}
use Rattle.std.proofs.lemmas.Bool.{and_parts}
use Rattle.std.proofs.lemmas.Bool.Decides.{nat_tests}
use Rattle.std.proofs.lemmas.List.{length-map}
use Rattle.std.proofs.lemmas.List.Elements.{All-head, All-tail}
use Rattle.sv_base.specs.declared.config.Config.{Config}
use Rattle.sv_base.specs.declared.config.AttrDef.{AttrDef}
use Rattle.sv_base.specs.declared.config.SetDef.{SetDef}
use Rattle.bay_model.specs.Configured.{block_defined}
use Rattle.bay_model.specs.NamedLines.{domains}
use Rattle.bay_model.specs.Reports.{reference_at}
use Rattle.bay_model.specs.Named.{nodes, member_number, set_defined, configured_model}
use Rattle.value_store.specs.Opened.{HasValue, place_in}
use Rattle.cfg_lines.specs.Sizes.{leaf_octets, children, octets_of}
use Rattle.cfg_lines.specs.Nodes.{leaves, leaf_names, closed, reaches}
use Rattle.cfg_lines.specs.Configs.{config_of}
use Rattle.cfg_grammar.specs.Texts.{AreLines, IsFound, AreFound, SpellsConfig}
use Rattle.cfg_lines.specs.declared.leaf.Leaf.{Leaf}
use Rattle.cfg_lines.specs.declared.line.Line.{Line}
use Rattle.cfg_lines.specs.declared.line.Line.TheVariants as lines
use Rattle.sv_base.specs.declared.config.BlockDef.{BlockDef}
use Rattle.bay_model.specs.Model.{Block}
use Rattle.bay_model.specs.Sets.{set_referred}
use Rattle.data_sets.specs.Opening.{AreNamed}
use Rattle.text_configs.proofs.SetNameLaws.{sets-named, few-told}
use Rattle.bay_config.specs.Servable.{IsMember, IsReferred, IsServedSet, IsServedBlock, HasSoundValues, IsServable}
use Rattle.list_laws.proofs.Among.{Among, all-of, mapped, source}
use Rattle.text_configs.proofs.GroupLaws.{are-grouped, begins, first-value}
use Rattle.text_configs.proofs.FindLaws.{found, domain-there}
use Rattle.text_configs.proofs.SetLaws.{sets-read, member-named, found-of}
use Rattle.text_values.proofs.ValueLaws.{all-sound}
use Rattle.text_configs.proofs.PathLaws.{IsReference, reference-of}
use Rattle.text_configs.proofs.ControlLaws.{are-ctl-kinds, are-in-range, are-timed, few-controls}
use Rattle.text_configs.proofs.ParameterLaws.{own-attr}
use Rattle.text_configs.proofs.ToldLaws.{IsTold, is-told, told-leaves}
use Rattle.text_configs.proofs.CountLaws.{leaf_keys, counted}
use Rattle.text_configs.proofs.AllowedLaws.{allowed-member}
use Rattle.text_configs.proofs.ReferenceLaws.{member, member-reference}
use Rattle.list_laws.proofs.Distinct.{octets_equal}
use Rattle.list_laws.proofs.Truths.{not-true}

all-among : {X : Type 0} (P : X → Type 0) (xs : List X) → All P xs → (x : X) → Among x xs → P x
all-among P [] all x i = absurd i
all-among P (y ∷ ys) all x (inl e) = subst P (sym e) (All-head P y ys all)
all-among P (y ∷ ys) all x (inr i) = all-among P ys (All-tail P y ys all) x i

or-second : (a b : Bool) → (a || b) ≡ true → b ≡ false → a ≡ true
or-second true b h e = refl
or-second false b h e = absurd (true≢false (sym h ∙ e))

at-most : (n : ℕ) → nat_lt 500 n ≡ false → n ≤ 500
at-most n h = grind (arith, nat_tests)

module _ (told : List Line) (text : List ℕ) (are : AreLines text told) (found_all : AreFound told told) where
  abbrev facts : IsTold (config_of told)
  facts = is-told told text are

  -- a member's line has a reference that reaches an attribute
  module _ (r : List ℕ) (i : Among (lines.Member r) told) where
    line-found : IsFound told (lines.Member r)
    line-found = found-of told told (lines.Member r) found_all i

    apart : (not (reaches (closed told) r) ≡ true) × (not (nat_lt 500 (octets_of 10 (leaf_octets (leaves told)) (children (leaf_names told)) r)) ≡ true)
    apart = and_parts (not (reaches (closed told) r)) (not (nat_lt 500 (octets_of 10 (leaf_octets (leaves told)) (children (leaf_names told)) r))) line-found.1

    reach : reaches (leaf_keys (config_of told) facts) r ≡ true
    reach = ap (λ ls. reaches (map (λ (l : Leaf). l.name) ls) r) (told-leaves told text are) ∙ or-second (reaches (leaf_names told) r) (reaches (closed told) r) line-found.0 (not-true (reaches (closed told) r) apart.0)

    few : counted (config_of told) facts 10 r ≤ 500
    few = subst (λ ls. octets_of 10 (leaf_octets ls) (children (map (λ (l : Leaf). l.name) ls)) r ≤ 500) (sym (told-leaves told text are)) (at-most (octets_of 10 (leaf_octets (leaves told)) (children (leaf_names told)) r) (not-true _ apart.1))

    line-reference : IsReference r
    line-reference = reference-of r (member-named told text r are i).0

    member-served : IsMember (config_of told) (member_number (nodes (config_of told)) r)
    member-served = member (config_of told) facts r line-reference reach few

    member-short : length (reference_at (configured_model (config_of told)) (member_number (nodes (config_of told)) r)) ≤ 129
    member-short = omega (arith, ap length (member-reference (config_of told) facts r line-reference reach), (member-named told text r are i).1)

  abbrev IsShort : ℕ → Type 0
  IsShort n = length (reference_at (configured_model (config_of told)) n) ≤ 129

  set-served : (s : SetDef) → Among s (config_of told).sets → IsServedSet (config_of told) (set_defined (nodes (config_of told)) s)
  set-served s i = let h = sets-read told text are s i in record {
    few = omega (arith, h.few, length-map s.members (member_number (nodes (config_of told))));
    members = all-of (IsMember (config_of told)) (map (member_number (nodes (config_of told))) s.members) (λ n j. let r = source (member_number (nodes (config_of told))) n s.members j in subst (IsMember (config_of told)) (sym r.2) (member-served r.0 (h.told_of r.0 r.1)));
    short = all-of IsShort (map (member_number (nodes (config_of told))) s.members) (λ n j. let r = source (member_number (nodes (config_of told))) n s.members j in subst IsShort (sym r.2) (member-short r.0 (h.told_of r.0 r.1)));
  }

  has-domain : (a : AttrDef) → Among a (config_of told).attrs → is_some (position (bytes_eq a.domain) (domains (config_of told))) ≡ true
  has-domain a i = let n = (facts.attrs a (own-attr (config_of told) a i)).node in
      let d : Among a.domain (domains (config_of told)) = subst (λ d. Among d (domains (config_of told))) n.domain_is (domain-there n.node [] (config_of told).nodes n.there) in
      ap is_some (found (bytes_eq a.domain) a.domain (domains (config_of told)) d (octets_equal a.domain a.domain refl)).is

  pub served : AreNamed (configured_model (config_of told)) → IsServable (config_of told)
  served names = record {
    controls = are-ctl-kinds told text are;
    few_controls = let k = few-controls told text are in omega (arith, k.0, k.1);
    timeouts = are-timed told text are;
    grouped = are-grouped told text are;
    storable = record {
      lines = all-of (λ a. HasValue a (place_in (config_of told) a)) (config_of told).attrs (begins told text are);
      twins = all-of (λ a. HasValue a 0) (config_of told).attrs (first-value told text are);
      controls = are-in-range told text are;
    };
    sound = all-of HasSoundValues (config_of told).attrs (λ a i. all-sound a.kind _ (facts.attrs a (own-attr (config_of told) a i)).values);
    domains = all-of (λ (a : AttrDef). is_some (position (bytes_eq a.domain) (domains (config_of told))) ≡ true) (config_of told).attrs has-domain;
    blocks = all-of IsServedBlock (config_of told).blocks (λ b i. let h = facts.blocks b i in record { opt_flds = h.opt_flds; trg_ops = h.trg_ops });
    few = let f = few-told told text are in omega (arith, f.0, f.1);
    named = all-of (λ (b : BlockDef). IsReferred (config_of told) b.dat_set) (config_of told).blocks (λ b i.
        all-among (λ (k : Block). (k.initial.dat_set ≡ []) ⊎ (is_some (set_referred k.initial.dat_set (configured_model (config_of told)).sets) ≡ true)) (configured_model (config_of told)).blocks names.named (block_defined b) (mapped block_defined b (config_of told).blocks i));
    allowed = allowed-member (config_of told) facts;
    sets = all-of (IsServedSet (config_of told)) (configured_model (config_of told)).sets (λ s i. let d = source (set_defined (nodes (config_of told))) s (config_of told).sets i in subst (IsServedSet (config_of told)) (sym d.2) (set-served d.0 d.1));
  }

pub texts-are-served : (text : List ℕ) (c : Config) → SpellsConfig text c → IsServable c
texts-are-served text c h = subst IsServable (sym h.makes) (served h.told text h.are h.found (subst (λ (d : Config). AreNamed (configured_model d)) h.makes (sets-named text c h)))
