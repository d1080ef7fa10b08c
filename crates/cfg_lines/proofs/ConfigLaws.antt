-- The configuration that lines make, from the first line on and from the last.
use Rattle.std.proofs.Common.{◌≡◌, ℕ, List, [], ◌∷◌, ◌++◌, reverse, refl, sym, ap, ◌∙◌}
use Rattle.std.proofs.lemmas.List.{reverse-append}
use Rattle.sv_base.specs.declared.config.Config.{Config}
use Rattle.sv_base.specs.declared.config.SetDef.{SetDef}
use Rattle.cfg_lines.specs.declared.line.Line.{Line}
use Rattle.cfg_lines.specs.Configs.{with_member, with_line, config_of, config_on, no_config}

abbrev member_added : SetDef → List ℕ → SetDef
member_added set reference = record set { members = set.members ++ reference ∷ [] }

pub with_member-last : (sets : List SetDef) (set : SetDef) (reference : List ℕ) → with_member (sets ++ set ∷ []) reference ≡ sets ++ member_added set reference ∷ []
with_member-last [] set reference = refl
with_member-last (s ∷ []) set reference = refl
with_member-last (s ∷ next ∷ sets) set reference = ap (λ (rest : List SetDef). s ∷ rest) (with_member-last (next ∷ sets) set reference)

on-append : (c : Config) (xs : List Line) (line : Line) → config_on c (xs ++ line ∷ []) ≡ with_line line (config_on c xs)
on-append c [] line = refl
on-append c (x ∷ xs) line = on-append (with_line x c) xs line

from-first : (before : List Line) → config_on no_config (reverse before) ≡ config_of before
from-first [] = refl
from-first (line ∷ before) = ap (config_on no_config) (reverse-append (line ∷ []) before) ∙ (on-append no_config (reverse before) line ∙ ap (with_line line) (from-first before))

twice : (xs : List Line) → reverse (reverse xs) ≡ xs
twice [] = refl
twice (x ∷ xs) = ap reverse (reverse-append (x ∷ []) xs) ∙ (reverse-append (reverse xs) (x ∷ []) ∙ ap (λ (ys : List Line). x ∷ ys) (twice xs))

pub config-on : (lines : List Line) → config_on no_config lines ≡ config_of (reverse lines)
config-on lines = ap (config_on no_config) (sym (twice lines)) ∙ from-first (reverse lines)
