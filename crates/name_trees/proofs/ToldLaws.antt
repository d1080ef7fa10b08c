-- Lines of a configuration, what is collected of them, and the domains in which they stand.
use Rattle.std.proofs.Common.{◌≡◌, ℕ, ◌⊎◌, inl, inr, List, [], ◌∷◌, ◌++◌, refl, sym, ap, subst, append-nil}
use Rattle.std.specs.Prelude.{codes}
use Rattle.sv_base.specs.declared.config.LnDef.{LnDef}
use Rattle.sv_base.specs.declared.config.AttrDef.{AttrDef}
use Rattle.sv_base.specs.declared.config.BlockDef.{BlockDef}
use Rattle.sv_base.specs.declared.config.CtlDef.{CtlDef}
use Rattle.sv_base.specs.declared.config.SgDef.{SgDef}
use Rattle.cfg_lines.specs.Before.{domain_of, node_of}
use Rattle.cfg_lines.specs.Configs.{config_of}
use Rattle.cfg_grammar.specs.Follows.{Follows}
use Rattle.cfg_grammar.specs.Texts.{AreLines}
use Rattle.cfg_lines.specs.declared.line.Line.{Line}
use Rattle.cfg_lines.specs.declared.line.Line.TheVariants as lines
use Rattle.list_laws.proofs.Among.{Among, left, right, either}
use Rattle.text_configs.proofs.StandLaws.{IsIn, in-more, in-node}

-- ---- what is collected of lines, line by line

module _ {X : Type 0} (all : List Line → List X) (by_line : Line → List X) (none : all [] ≡ []) (more : (line : Line) (before : List Line) → all (line ∷ before) ≡ all before ++ by_line line) where
  pub told-of : (told : List Line) (x : X) → Among x (all told) → (line : Line) × Among line told × Among x (by_line line)
  told-of [] x i = absurd (subst (Among x) none i)
  told-of (line ∷ before) x i = by (either x (all before) (by_line line) (subst (Among x) (more line before) i)) (told-of before x)
    where
      by : Among x (all before) ⊎ Among x (by_line line) → (Among x (all before) → (l : Line) × Among l before × Among x (by_line l)) → (l : Line) × Among l (line ∷ before) × Among x (by_line l)
      by (inl j) go = let g = go j in (g.0, inr g.1, g.2)
      by (inr j) go = (line, inl refl, j)

  pub told-in : (told : List Line) (line : Line) (x : X) → Among line told → Among x (by_line line) → Among x (all told)
  told-in [] line x i j = absurd i
  told-in (l ∷ before) line x (inl e) j = subst (Among x) (sym (more l before)) (right x (all before) (by_line l) (subst (λ k. Among x (by_line k)) e j))
  told-in (l ∷ before) line x (inr i) j = subst (Among x) (sym (more l before)) (left x (all before) (by_line l) (told-in before line x i j))

abbrev pub attrs_by : Line → List AttrDef
attrs_by (lines.Attr attr) = attr ∷ []
attrs_by line = []

pub more-attrs : (line : Line) (before : List Line) → (config_of (line ∷ before)).attrs ≡ (config_of before).attrs ++ attrs_by line
more-attrs (lines.Attr attr) before = refl
more-attrs line before = sym (append-nil (config_of before).attrs)

abbrev pub blocks_by : Line → List BlockDef
blocks_by (lines.Brcb block) = block ∷ []
blocks_by line = []

pub more-blocks : (line : Line) (before : List Line) → (config_of (line ∷ before)).blocks ≡ (config_of before).blocks ++ blocks_by line
more-blocks (lines.Brcb block) before = refl
more-blocks line before = sym (append-nil (config_of before).blocks)

abbrev pub controls_by : Line → List CtlDef
controls_by (lines.Ctl control) = control ∷ []
controls_by line = []

pub more-controls : (line : Line) (before : List Line) → (config_of (line ∷ before)).controls ≡ (config_of before).controls ++ controls_by line
more-controls (lines.Ctl control) before = refl
more-controls line before = sym (append-nil (config_of before).controls)

abbrev pub groups_by : Line → List SgDef
groups_by (lines.Sgcb groups) = groups ∷ []
groups_by line = []

pub more-groups : (line : Line) (before : List Line) → (config_of (line ∷ before)).groups ≡ (config_of before).groups ++ groups_by line
more-groups (lines.Sgcb groups) before = refl
more-groups line before = sym (append-nil (config_of before).groups)

-- ---- the logical node in which a line stands

abbrev pub IsHome : List LnDef → Line → Type 0
IsHome nodes (lines.Attr attr) = IsIn nodes attr.domain attr.ln
IsHome nodes (lines.Brcb block) = IsIn nodes block.domain block.ln
IsHome nodes (lines.Ctl control) = IsIn nodes control.domain control.ln
IsHome nodes (lines.Sgcb groups) = IsIn nodes groups.domain (codes "LLN0")
IsHome nodes line = Unit {0}

home-more : (nodes : List LnDef) (node : LnDef) (line : Line) → IsHome nodes line → IsHome (nodes ++ node ∷ []) line
home-more nodes node (lines.Attr attr) h = in-more nodes node attr.domain attr.ln h
home-more nodes node (lines.Brcb block) h = in-more nodes node block.domain block.ln h
home-more nodes node (lines.Ctl control) h = in-more nodes node control.domain control.ln h
home-more nodes node (lines.Sgcb groups) h = in-more nodes node groups.domain (codes "LLN0") h
home-more nodes node line h = tt

home-on : (l : Line) (before : List Line) (line : Line) → IsHome (config_of before).nodes line → IsHome (config_of (l ∷ before)).nodes line
home-on (lines.Ln node) before line h = home-more (config_of before).nodes node line h
home-on l before line h = h

moved : (nodes : List LnDef) (d e l m : List ℕ) → d ≡ e → l ≡ m → IsIn nodes e m → IsIn nodes d l
moved nodes d e l m p q h = subst (λ x. IsIn nodes x l) (sym p) (subst (λ y. IsIn nodes e y) (sym q) h)

home-here : (before : List Line) (text : List ℕ) (line : Line) → AreLines text before → Follows before line → IsHome (config_of (line ∷ before)).nodes line
home-here before text (lines.Attr attr) h f = moved (config_of before).nodes attr.domain (domain_of before) attr.ln (node_of before) (ap (λ (a : AttrDef). a.domain) f.here) (ap (λ (a : AttrDef). a.ln) f.here) (in-node before text h f.stands)
home-here before text (lines.Brcb block) h f = moved (config_of before).nodes block.domain (domain_of before) block.ln (node_of before) (ap (λ (b : BlockDef). b.domain) f.here) (ap (λ (b : BlockDef). b.ln) f.here) (in-node before text h f.stands)
home-here before text (lines.Ctl control) h f = moved (config_of before).nodes control.domain (domain_of before) control.ln (node_of before) (ap (λ (k : CtlDef). k.domain) f.here) (ap (λ (k : CtlDef). k.ln) f.here) (in-node before text h f.stands)
home-here before text (lines.Sgcb groups) h f = moved (config_of before).nodes groups.domain (domain_of before) (codes "LLN0") (node_of before) (ap (λ (g : SgDef). g.domain) f.here) (sym f.stands.1) (in-node before text h f.stands.0)
home-here before text line h f = tt

pub home : (told : List Line) (text : List ℕ) (line : Line) → AreLines text told → Among line told → IsHome (config_of told).nodes line
home [] text line h i = absurd i
home (l ∷ before) text line h (inl e) = subst (IsHome (config_of (l ∷ before)).nodes) (sym e) (home-here before h.0 l h.3 h.4.follows)
home (l ∷ before) text line h (inr i) = home-on l before line (home before h.0 line h.3 i)

-- ---- what the configuration has of each kind

attr-is : (line : Line) (a : AttrDef) → Among a (attrs_by line) → lines.Attr a ≡ line
attr-is (lines.Attr attr) a (inl e) = ap lines.Attr e
attr-is (lines.Attr attr) a (inr i) = absurd i
attr-is line a i = absurd i

block-is : (line : Line) (b : BlockDef) → Among b (blocks_by line) → lines.Brcb b ≡ line
block-is (lines.Brcb block) b (inl e) = ap lines.Brcb e
block-is (lines.Brcb block) b (inr i) = absurd i
block-is line b i = absurd i

control-is : (line : Line) (k : CtlDef) → Among k (controls_by line) → lines.Ctl k ≡ line
control-is (lines.Ctl control) k (inl e) = ap lines.Ctl e
control-is (lines.Ctl control) k (inr i) = absurd i
control-is line k i = absurd i

groups-is : (line : Line) (g : SgDef) → Among g (groups_by line) → lines.Sgcb g ≡ line
groups-is (lines.Sgcb groups) g (inl e) = ap lines.Sgcb e
groups-is (lines.Sgcb groups) g (inr i) = absurd i
groups-is line g i = absurd i

module _ (told : List Line) where
  pub attr-told : (a : AttrDef) → Among a (config_of told).attrs → Among (lines.Attr a) told
  attr-told a i = let t = told-of (λ all. (config_of all).attrs) attrs_by refl more-attrs told a i in subst (λ l. Among l told) (sym (attr-is t.0 a t.2)) t.1

  pub block-told : (b : BlockDef) → Among b (config_of told).blocks → Among (lines.Brcb b) told
  block-told b i = let t = told-of (λ all. (config_of all).blocks) blocks_by refl more-blocks told b i in subst (λ l. Among l told) (sym (block-is t.0 b t.2)) t.1

  pub control-told : (k : CtlDef) → Among k (config_of told).controls → Among (lines.Ctl k) told
  control-told k i = let t = told-of (λ all. (config_of all).controls) controls_by refl more-controls told k i in subst (λ l. Among l told) (sym (control-is t.0 k t.2)) t.1

  pub groups-told : (g : SgDef) → Among g (config_of told).groups → Among (lines.Sgcb g) told
  groups-told g i = let t = told-of (λ all. (config_of all).groups) groups_by refl more-groups told g i in subst (λ l. Among l told) (sym (groups-is t.0 g t.2)) t.1

  pub attr-in : (a : AttrDef) → Among (lines.Attr a) told → Among a (config_of told).attrs
  attr-in a i = told-in (λ all. (config_of all).attrs) attrs_by refl more-attrs told (lines.Attr a) a i (inl refl)

  pub block-in : (b : BlockDef) → Among (lines.Brcb b) told → Among b (config_of told).blocks
  block-in b i = told-in (λ all. (config_of all).blocks) blocks_by refl more-blocks told (lines.Brcb b) b i (inl refl)

  pub control-in : (k : CtlDef) → Among (lines.Ctl k) told → Among k (config_of told).controls
  control-in k i = told-in (λ all. (config_of all).controls) controls_by refl more-controls told (lines.Ctl k) k i (inl refl)

  pub groups-in : (g : SgDef) → Among (lines.Sgcb g) told → Among g (config_of told).groups
  groups-in g i = told-in (λ all. (config_of all).groups) groups_by refl more-groups told (lines.Sgcb g) g i (inl refl)
