-- The data sets of the lines are those of the model.
use Rattle.std.proofs.Common.{◌≡◌, ℕ, ◌||◌, ◌⊎◌, inl, inr, List, [], ◌∷◌, ◌++◌, map, refl, sym, ap, ap₂, subst, ◌∙◌}
use Rattle.std.specs.List.{list_any}
use Rattle.std.specs.Str.{bytes_eq}
use Rattle.std.proofs.lemmas.List.{map-append}
use Rattle.sv_base.specs.declared.config.SetDef.{SetDef}
use Rattle.bay_model.specs.Model.{Node, DataSet}
use Rattle.bay_model.specs.Lookups.{reference_of}
use Rattle.bay_model.specs.Named.{nodes, set_defined, configured_model}
use Rattle.cfg_lines.specs.Keys.{is_among}
use Rattle.cfg_lines.specs.Claims.{set_key, sets}
use Rattle.cfg_lines.specs.Configs.{with_member, config_of}
use Rattle.cfg_lines.specs.declared.line.Line.{Line}
use Rattle.cfg_lines.specs.declared.line.Line.TheVariants as lines
use Rattle.list_laws.proofs.Among.{Among, left, right, ending, some-passes, passes}
use Rattle.name_trees.specs.ByModel.{has_set}
use Rattle.name_trees.proofs.ItemLaws.{key-within}
use Rattle.list_laws.proofs.Truths.{both-ways}

abbrev key_of : SetDef → List ℕ
key_of s = set_key s.domain s.ln s.name

keys-stay : (all : List SetDef) (reference : List ℕ) → map key_of (with_member all reference) ≡ map key_of all
keys-stay [] reference = refl
keys-stay (s ∷ []) reference = refl
keys-stay (s ∷ t ∷ all) reference = ap (λ l. key_of s ∷ l) (keys-stay (t ∷ all) reference)

there : (told : List Line) (k : List ℕ) → Among k (sets told) → Among k (map key_of (config_of told).sets)
there [] k i = i
there (lines.Set set ∷ before) k i = subst (Among k) (sym (map-append key_of (config_of before).sets (set ∷ []))) (by i (there before k))
  where
    by : (k ≡ key_of set) ⊎ Among k (sets before) → (Among k (sets before) → Among k (map key_of (config_of before).sets)) → Among k (map key_of (config_of before).sets ++ key_of set ∷ [])
    by (inl e) go = right k (map key_of (config_of before).sets) (key_of set ∷ []) (inl e)
    by (inr j) go = left k (map key_of (config_of before).sets) (key_of set ∷ []) (go j)
there (lines.Member reference ∷ before) k i = subst (Among k) (sym (keys-stay (config_of before).sets reference)) (there before k i)
there (line ∷ before) k i = there before k i

back : (told : List Line) (k : List ℕ) → Among k (map key_of (config_of told).sets) → Among k (sets told)
back [] k i = i
back (lines.Set set ∷ before) k i = by (ending k (map key_of (config_of before).sets) (key_of set) (subst (Among k) (map-append key_of (config_of before).sets (set ∷ [])) i)) (back before k)
  where
    by : Among k (map key_of (config_of before).sets) ⊎ (k ≡ key_of set) → (Among k (map key_of (config_of before).sets) → Among k (sets before)) → (k ≡ key_of set) ⊎ Among k (sets before)
    by (inl j) go = inr (go j)
    by (inr e) go = inl e
back (lines.Member reference ∷ before) k i = back before k (subst (Among k) (keys-stay (config_of before).sets reference) i)
back (line ∷ before) k i = back before k i

by-keys : (ns : List Node) (reference : List ℕ) (all : List SetDef) → list_any (λ (s : DataSet). bytes_eq reference (reference_of s.domain s.item)) (map (set_defined ns) all) ≡ is_among (map key_of all) reference
by-keys ns reference [] = refl
by-keys ns reference (s ∷ all) = ap₂ (λ a b. a || b) (ap (bytes_eq reference) (key-within s.domain s.ln s.name)) (by-keys ns reference all)

pub sets-agree : (told : List Line) (reference : List ℕ) → is_among (sets told) reference ≡ has_set (configured_model (config_of told)) reference
sets-agree told reference = both-ways (is_among (sets told) reference) (is_among (map key_of (config_of told).sets) reference)
    (λ h. let s = some-passes (bytes_eq reference) (sets told) h in passes (bytes_eq reference) s.0 (map key_of (config_of told).sets) (there told s.0 s.1) s.2)
    (λ h. let s = some-passes (bytes_eq reference) (map key_of (config_of told).sets) h in passes (bytes_eq reference) s.0 (sets told) (back told s.0 s.1) s.2)
    ∙ sym (by-keys (nodes (config_of told)) reference (config_of told).sets)
