-- No attribute of a text stands at or above the setting group block of its domain, nor below it.
use Rattle.std.proofs.Common.{◌≡◌, ℕ, ◌⊎◌, false, inl, inr, List, [], ◌∷◌, sym, ap, subst, ◌∙◌}
use Rattle.std.specs.Prelude.{codes}
use Rattle.sv_base.specs.declared.config.AttrDef.{AttrDef}
use Rattle.sv_base.specs.declared.config.SgDef.{SgDef}
use Rattle.cfg_lines.specs.Paths.{is_taken}
use Rattle.cfg_lines.specs.Claims.{claims, group_key}
use Rattle.cfg_lines.specs.Configs.{config_of}
use Rattle.cfg_grammar.specs.Texts.{AreLines}
use Rattle.cfg_lines.specs.declared.line.Line.{Line}
use Rattle.cfg_lines.specs.declared.line.Line.TheVariants as lines
use Rattle.list_laws.proofs.Among.{Among, ending}
use Rattle.text_configs.proofs.AttrLaws.{AreBeside, beside, beside-turned, claimed, key_of, new-attribute, not-taken}
use Rattle.text_configs.proofs.GroupLaws.{group-claimed}

abbrev block_of : SgDef → List ℕ
block_of g = group_key g.domain (codes "LLN0")

pub groups-beside : (told : List Line) (text : List ℕ) → AreLines text told → (g : SgDef) → Among g (config_of told).groups → (a : AttrDef) → Among a (config_of told).attrs → AreBeside (key_of a) (block_of g)
groups-beside [] text h g i a j = absurd i
groups-beside (lines.Attr attr ∷ before) text h g i a j = by (ending a (config_of before).attrs attr j) (groups-beside before h.0 h.3 g i a)
  where
    by : Among a (config_of before).attrs ⊎ (a ≡ attr) → (Among a (config_of before).attrs → AreBeside (key_of a) (block_of g)) → AreBeside (key_of a) (block_of g)
    by (inl k) go = go k
    by (inr e) go = subst (λ (b : AttrDef). AreBeside (key_of b) (block_of g)) (sym e) (beside (key_of attr) (block_of g) (not-taken (claims before) (key_of attr) (block_of g) (new-attribute before attr h.4.follows) (group-claimed before g i)))
groups-beside (lines.Sgcb groups ∷ before) text h g i a j = by (ending g (config_of before).groups groups i) (λ k. groups-beside before h.0 h.3 g k a j)
  where
    new : is_taken (claims before) (block_of groups) ≡ false
    new = ap (λ d. is_taken (claims before) (group_key d (codes "LLN0"))) (ap (λ (q : SgDef). q.domain) h.4.follows.here) ∙ h.4.follows.new

    by : Among g (config_of before).groups ⊎ (g ≡ groups) → (Among g (config_of before).groups → AreBeside (key_of a) (block_of g)) → AreBeside (key_of a) (block_of g)
    by (inl k) go = go k
    by (inr e) go = subst (λ (q : SgDef). AreBeside (key_of a) (block_of q)) (sym e) (beside-turned (block_of groups) (key_of a) (beside (block_of groups) (key_of a) (not-taken (claims before) (block_of groups) (key_of a) new (claimed before a j))))
groups-beside (line ∷ before) text h g i a j = groups-beside before h.0 h.3 g i a j
