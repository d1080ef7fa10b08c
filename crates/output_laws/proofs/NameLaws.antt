-- How long the names are that the lines of a text have.
use Rattle.std.proofs.Common.{◌≡◌, ◌≤◌, ℕ, ◌+◌, ◌⊎◌, inl, inr, Bool, true, false, ◌&&◌, List, [], ◌∷◌, ◌++◌, length, is_some, refl, sym, ap, subst, ◌∙◌, arith, true≢false, length-append}
use Rattle.std.specs.Prelude.{codes, nat_le, Some, if◌then◌else◌}
use Rattle.std.specs.List.{list_all}
use Rattle.std.specs.Str.{bytes_eq}
use Rattle.std.proofs.lemmas.Bool.{and_parts, leb-true}
use Rattle.sv_base.specs.CtlServices.{service_name}
use Rattle.sv_base.specs.declared.ctl_services.CtlService.TheVariants.{Oper}
use Rattle.sv_base.specs.declared.config.Config.{Config}
use Rattle.sv_base.specs.declared.config.BlockDef.{BlockDef}
use Rattle.sv_base.specs.declared.config.CtlDef.{CtlDef}
use Rattle.sv_base.specs.declared.config.SetDef.{SetDef}
use Rattle.bay_model.specs.Configured.{block_defined}
use Rattle.bay_model.specs.Generated.{within}
use Rattle.bay_model.specs.Lookups.{reference_of}
use Rattle.bay_model.specs.Model.{DataSet}
use Rattle.bay_model.specs.Named.{nodes, set_defined, configured_model}
use Rattle.bay_model.specs.NamedLines.{path_item}
use Rattle.bay_model.specs.Sets.{set_referred}
use Rattle.bay_config.specs.Servable.{IsServable, IsReferred}
use Rattle.text_words.specs.Names.{is_letter, is_name_octet, is_name}
use Rattle.cfg_lines.specs.Before.{domain_of}
use Rattle.cfg_lines.specs.Configs.{with_member, config_of}
use Rattle.cfg_lines.specs.declared.line.Line.{Line}
use Rattle.cfg_lines.specs.declared.line.Line.TheVariants as lines
use Rattle.cfg_grammar.specs.Follows.{IsBlock, IsSet}
use Rattle.cfg_grammar.specs.Texts.{AreLines, SpellsConfig}
use Rattle.list_laws.proofs.Among.{Among, all-of, of-all, ending, source}
use Rattle.list_laws.proofs.Distinct.{octets_same}
use Rattle.text_configs.proofs.StandLaws.{in-node}
use Rattle.text_configs.proofs.ControlLaws.{controls-read}
use Rattle.text_configs.proofs.SetNameLaws.{ref}
use Rattle.output_laws.specs.Names.{IsShortBlock, IsShortControl, HasShortNames}

-- a name has at most 32 octets
pub name-short : (name : List ℕ) → is_name name ≡ true → length name ≤ 32
name-short [] h = omega arith
name-short (o ∷ os) h =
    let b = and_parts (is_letter o && list_all is_name_octet os) (nat_le (length os) 31) h in
    omega (arith, leb-true (length os) 31 b.1)

-- ---- controls

item-length : (ln path : List ℕ) → length (path_item ln (codes "CO") path) ≤ 44 → length ln + length path ≤ 40
item-length ln path h = omega (arith, h, length-append (within ln (codes "CO")) (36 ∷ path), length-append ln (36 ∷ codes "CO"))

control-short : (k : CtlDef) → length k.domain ≤ 32 → length k.ln + length k.path ≤ 40 → IsShortControl k
control-short k domain few = record {
  oper = record {
    domain = omega (arith, domain);
    item = omega (arith, few, length-append k.ln (codes "$CO$" ++ (k.path ++ 36 ∷ service_name Oper)), length-append (codes "$CO$") (k.path ++ 36 ∷ service_name Oper), length-append k.path (36 ∷ service_name Oper));
  };
  reference = omega (arith, few, domain, length-append k.domain (47 ∷ (k.ln ++ codes "$CO$" ++ k.path)), length-append (k.ln ++ codes "$CO$") k.path, length-append k.ln (codes "$CO$"));
}

-- ---- data sets

abbrev IsShortSet : SetDef → Type 0
IsShortSet s = length (ref s) ≤ 129

set-short : (before : List Line) (text : List ℕ) (set : SetDef) → AreLines text before → IsSet before set → IsShortSet set
set-short before text set are h =
    let d = name-short (domain_of before) (in-node before text are h.stands).domain_name in
    let l = name-short set.ln (ap is_name (ap (λ (s : SetDef). s.ln) h.here) ∙ (in-node before text are h.stands).ln_name) in
    let n = name-short set.name h.name in
    omega (arith, d, l, n, ap (λ (s : SetDef). length s.domain) h.here, length-append set.domain (47 ∷ within set.ln set.name), length-append set.ln (36 ∷ set.name))

-- with one more member the names are those that were there
same-name : (all : List SetDef) (r : List ℕ) (s : SetDef) → Among s (with_member all r) → (t : SetDef) × Among t all × (ref s ≡ ref t)
same-name [] r s i = absurd i
same-name (t ∷ []) r s (inl e) = (t, inl refl, ap (λ (x : SetDef). ref x) e)
same-name (t ∷ []) r s (inr i) = absurd i
same-name (t ∷ u ∷ all) r s (inl e) = (t, inl refl, ap (λ (x : SetDef). ref x) e)
same-name (t ∷ u ∷ all) r s (inr i) = let g = same-name (u ∷ all) r s i in (g.0, inr g.1, g.2)

sets-short : (told : List Line) (text : List ℕ) → AreLines text told → (s : SetDef) → Among s (config_of told).sets → IsShortSet s
sets-short [] text h s i = absurd i
sets-short (lines.Set set ∷ before) text h s i = by (ending s (config_of before).sets set i) (sets-short before h.0 h.3 s)
  where
    by : Among s (config_of before).sets ⊎ (s ≡ set) → (Among s (config_of before).sets → IsShortSet s) → IsShortSet s
    by (inl j) go = go j
    by (inr e) go = subst IsShortSet (sym e) (set-short before h.0 set h.3 h.4.follows)
sets-short (lines.Member reference ∷ before) text h s i =
    let g = same-name (config_of before).sets reference s i in
    subst (λ r. length r ≤ 129) (sym g.2) (sets-short before h.0 h.3 g.0 g.1)
sets-short (line ∷ before) text h s i = sets-short before h.0 h.3 s i

-- a reference that names one of some sets is that set's
referred : (d : List ℕ) (all : List DataSet) → is_some (set_referred d all) ≡ true → (s : DataSet) × Among s all × (d ≡ reference_of s.domain s.item)
referred d [] h = absurd (true≢false (sym h))
referred d (s ∷ all) h = by (bytes_eq d (reference_of s.domain s.item)) refl h (referred d all)
  where
    by : (b : Bool) → bytes_eq d (reference_of s.domain s.item) ≡ b → is_some (if b then Some s else set_referred d all) ≡ true
        → (is_some (set_referred d all) ≡ true → (t : DataSet) × Among t all × (d ≡ reference_of t.domain t.item)) → (t : DataSet) × Among t (s ∷ all) × (d ≡ reference_of t.domain t.item)
    by true is h go = (s, inl refl, octets_same d (reference_of s.domain s.item) is)
    by false is h go = let g = go h in (g.0, inr g.1, g.2)

module _ (told : List Line) (text : List ℕ) (are : AreLines text told) where
  abbrev c : Config
  c = config_of told

  dat-set-short : (d : List ℕ) → IsReferred c d → length d ≤ 129
  dat-set-short d (inl none) = omega (arith, ap length none)
  dat-set-short d (inr some) =
      let r = referred d (configured_model c).sets some in
      let s = source (set_defined (nodes c)) r.0 c.sets r.1 in
      let same : d ≡ ref s.0 = r.2 ∙ ap (λ (t : DataSet). reference_of t.domain t.item) s.2 in
      omega (arith, ap length same, sets-short told text are s.0 s.1)

-- ---- blocks

pub record IsShortRead (b : BlockDef) : Type 0 where
  pub reference : length (block_defined b).reference ≤ 129
  pub rpt_id : length b.rpt_id ≤ 129

block-short : (before : List Line) (text : List ℕ) (b : BlockDef) → AreLines text before → IsBlock before b → IsShortRead b
block-short before text b are h =
    let d = name-short (domain_of before) (in-node before text are h.stands).domain_name in
    let l = name-short b.ln (ap is_name (ap (λ (x : BlockDef). x.ln) h.here) ∙ (in-node before text are h.stands).ln_name) in
    let n = name-short b.name h.name in
    record {
      reference = omega (arith, d, l, n, ap (λ (x : BlockDef). length x.domain) h.here, length-append b.domain (47 ∷ (b.ln ++ codes "$BR$" ++ b.name)), length-append (b.ln ++ codes "$BR$") b.name, length-append b.ln (codes "$BR$"));
      rpt_id = h.rpt_id.0;
    }

blocks-short : (told : List Line) (text : List ℕ) → AreLines text told → (b : BlockDef) → Among b (config_of told).blocks → IsShortRead b
blocks-short [] text h b i = absurd i
blocks-short (lines.Brcb block ∷ before) text h b i = by (ending b (config_of before).blocks block i) (blocks-short before h.0 h.3 b)
  where
    by : Among b (config_of before).blocks ⊎ (b ≡ block) → (Among b (config_of before).blocks → IsShortRead b) → IsShortRead b
    by (inl j) go = go j
    by (inr e) go = subst IsShortRead (sym e) (block-short before h.0 block h.3 h.4.follows)
blocks-short (line ∷ before) text h b i = blocks-short before h.0 h.3 b i

-- ---- all of them

told-short : (told : List Line) (text : List ℕ) → AreLines text told → IsServable (config_of told) → HasShortNames (config_of told)
told-short told text are served = record {
  blocks = all-of IsShortBlock (config_of told).blocks (λ b i. let s = blocks-short told text are b i in record {
    reference = s.reference;
    rpt_id = s.rpt_id;
    dat_set = dat-set-short told text are b.dat_set (of-all (λ (k : BlockDef). IsReferred (config_of told) k.dat_set) (config_of told).blocks b served.named i);
  });
  controls = all-of IsShortControl (config_of told).controls (λ k i. let r = controls-read told text are k i in control-short k (name-short k.domain r.node.domain_name) (item-length k.ln k.path r.short));
}

pub names-short : (text : List ℕ) (c : Config) → SpellsConfig text c → IsServable c → HasShortNames c
names-short text c h served = subst HasShortNames (sym h.makes) (told-short h.told text h.are (subst IsServable h.makes served))
