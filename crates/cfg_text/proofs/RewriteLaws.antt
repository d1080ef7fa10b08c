-- What is written of a configuration that a text spells reads as the same but for the numbers of lines.
use Rattle.std.proofs.Common.{◌≡◌, ◌≤◌, ℕ, inl, inr, List, [], ◌∷◌, ◌++◌, length, length-append, map, append-nil, refl, sym, ap, subst, ◌∙◌, arith}
use Rattle.std.proofs.lemmas.List.{map-append}
use Rattle.sv_base.specs.declared.config.Config.{Config}
use Rattle.sv_base.specs.declared.config.LnDef.{LnDef}
use Rattle.sv_base.specs.declared.config.AttrDef.{AttrDef}
use Rattle.sv_base.specs.declared.config.SetDef.{SetDef}
use Rattle.sv_base.specs.declared.config.BlockDef.{BlockDef}
use Rattle.sv_base.specs.declared.config.CtlDef.{CtlDef}
use Rattle.sv_base.specs.declared.config.SgDef.{SgDef}
use Rattle.cfg_lines.specs.declared.line.Line.{Line}
use Rattle.cfg_lines.specs.declared.line.Line.TheVariants as lines
use Rattle.cfg_lines.specs.Keys.{is_among}
use Rattle.cfg_lines.specs.Before.{number_of}
use Rattle.cfg_lines.specs.Configs.{with_member, with_line, config_of}
use Rattle.cfg_lines.specs.Nodes.{is_node, is_member_node}
use Rattle.cfg_lines.specs.Spelled.{spelled}
use Rattle.cfg_writing.specs.Written.{line_text, text_of, lines_of, written}
use Rattle.cfg_text.specs.Numbered.{unnumbered, ReadsAs}
use Rattle.cfg_grammar.specs.Texts.{AreLines, IsFound, AreFound, SpellsConfig}
use Rattle.cfg_writing.proofs.TextOfLaws.{text-append}
use Rattle.cfg_grammar.proofs.FreshLaws.{renumbered, fresh, place-fresh, set-keys-fresh, leaves-fresh, closed-fresh}
use Rattle.cfg_grammar.proofs.AgainLaws.{shorter, again}
use Rattle.cfg_text.proofs.KeptLaws.{kept, lines-kept}
use Rattle.cfg_text.proofs.WholeLaws.{config-read}

-- the lines that are written
text-kept : (before : List Line) (line : Line) → text_of (kept before ++ line ∷ []) ≡ text_of (kept before) ++ (spelled line ++ 10 ∷ [])
text-kept before line = text-append (kept before) (line ∷ []) ∙ ap (λ t. text_of (kept before) ++ t) (append-nil (line_text line))

again-lines : (text : List ℕ) (told : List Line) → AreLines text told → AreLines (text_of (kept told)) (fresh told)
again-lines text [] are = refl
again-lines text (lines.Skip ∷ before) are = again-lines are.0 before are.3
again-lines text (lines.Config ∷ before) are = (text_of (kept before), spelled lines.Config, text-kept before lines.Config, again-lines are.0 before are.3, again before are.1 lines.Config are.4)
again-lines text (lines.Server vendor model revision ∷ before) are = (text_of (kept before), spelled (lines.Server vendor model revision), text-kept before (lines.Server vendor model revision), again-lines are.0 before are.3, again before are.1 (lines.Server vendor model revision) are.4)
again-lines text (lines.Ld name ∷ before) are = (text_of (kept before), spelled (lines.Ld name), text-kept before (lines.Ld name), again-lines are.0 before are.3, again before are.1 (lines.Ld name) are.4)
again-lines text (lines.Ln node ∷ before) are = (text_of (kept before), spelled (lines.Ln node), text-kept before (lines.Ln node), again-lines are.0 before are.3, again before are.1 (lines.Ln node) are.4)
again-lines text (lines.Attr attr ∷ before) are = (text_of (kept before), spelled (lines.Attr attr), text-kept before (lines.Attr attr), again-lines are.0 before are.3, again before are.1 (lines.Attr attr) are.4)
again-lines text (lines.Set set ∷ before) are = (text_of (kept before), spelled (lines.Set set), text-kept before (lines.Set set), again-lines are.0 before are.3, again before are.1 (lines.Set set) are.4)
again-lines text (lines.Member reference ∷ before) are = (text_of (kept before), spelled (lines.Member reference), text-kept before (lines.Member reference), again-lines are.0 before are.3, again before are.1 (lines.Member reference) are.4)
again-lines text (lines.Brcb block ∷ before) are = (text_of (kept before), spelled (lines.Brcb block), text-kept before (lines.Brcb block), again-lines are.0 before are.3, again before are.1 (lines.Brcb block) are.4)
again-lines text (lines.Ctl control ∷ before) are = (text_of (kept before), spelled (lines.Ctl control), text-kept before (lines.Ctl control), again-lines are.0 before are.3, again before are.1 (lines.Ctl control) are.4)
again-lines text (lines.Sgcb groups ∷ before) are = (text_of (kept before), spelled (lines.Sgcb groups), text-kept before (lines.Sgcb groups), again-lines are.0 before are.3, again before are.1 (lines.Sgcb groups) are.4)
again-lines text (lines.End ∷ before) are = (text_of (kept before), spelled lines.End, text-kept before lines.End, again-lines are.0 before are.3, again before are.1 lines.End are.4)

-- no spelling is shorter
line-shorter : (before : List Line) (line : Line) (text front last : List ℕ) → text ≡ front ++ (last ++ 10 ∷ []) → length (text_of (kept before)) ≤ length front → length (spelled line) ≤ length last
    → length (text_of (kept before ++ line ∷ [])) ≤ length text
line-shorter before line text front last is front_le last_le =
    omega (arith, ap length is, ap length (text-kept before line), length-append (text_of (kept before)) (spelled line ++ 10 ∷ []), length-append (spelled line) (10 ∷ []), length-append front (last ++ 10 ∷ []), length-append last (10 ∷ []), front_le, last_le)

lines-shorter : (text : List ℕ) (told : List Line) → AreLines text told → length (text_of (kept told)) ≤ length text
lines-shorter text [] are = omega arith
lines-shorter text (lines.Skip ∷ before) are = omega (arith, ap length are.2, length-append are.0 (are.1 ++ 10 ∷ []), lines-shorter are.0 before are.3)
lines-shorter text (lines.Config ∷ before) are = line-shorter before lines.Config text are.0 are.1 are.2 (lines-shorter are.0 before are.3) (shorter are.1 lines.Config are.4.spelled)
lines-shorter text (lines.Server vendor model revision ∷ before) are = line-shorter before (lines.Server vendor model revision) text are.0 are.1 are.2 (lines-shorter are.0 before are.3) (shorter are.1 (lines.Server vendor model revision) are.4.spelled)
lines-shorter text (lines.Ld name ∷ before) are = line-shorter before (lines.Ld name) text are.0 are.1 are.2 (lines-shorter are.0 before are.3) (shorter are.1 (lines.Ld name) are.4.spelled)
lines-shorter text (lines.Ln node ∷ before) are = line-shorter before (lines.Ln node) text are.0 are.1 are.2 (lines-shorter are.0 before are.3) (shorter are.1 (lines.Ln node) are.4.spelled)
lines-shorter text (lines.Attr attr ∷ before) are = line-shorter before (lines.Attr attr) text are.0 are.1 are.2 (lines-shorter are.0 before are.3) (shorter are.1 (lines.Attr attr) are.4.spelled)
lines-shorter text (lines.Set set ∷ before) are = line-shorter before (lines.Set set) text are.0 are.1 are.2 (lines-shorter are.0 before are.3) (shorter are.1 (lines.Set set) are.4.spelled)
lines-shorter text (lines.Member reference ∷ before) are = line-shorter before (lines.Member reference) text are.0 are.1 are.2 (lines-shorter are.0 before are.3) (shorter are.1 (lines.Member reference) are.4.spelled)
lines-shorter text (lines.Brcb block ∷ before) are = line-shorter before (lines.Brcb block) text are.0 are.1 are.2 (lines-shorter are.0 before are.3) (shorter are.1 (lines.Brcb block) are.4.spelled)
lines-shorter text (lines.Ctl control ∷ before) are = line-shorter before (lines.Ctl control) text are.0 are.1 are.2 (lines-shorter are.0 before are.3) (shorter are.1 (lines.Ctl control) are.4.spelled)
lines-shorter text (lines.Sgcb groups ∷ before) are = line-shorter before (lines.Sgcb groups) text are.0 are.1 are.2 (lines-shorter are.0 before are.3) (shorter are.1 (lines.Sgcb groups) are.4.spelled)
lines-shorter text (lines.End ∷ before) are = line-shorter before lines.End text are.0 are.1 are.2 (lines-shorter are.0 before are.3) (shorter are.1 lines.End are.4.spelled)

-- what they name
node-again : (all : List Line) (node : List ℕ) → is_node (fresh all) node ≡ is_node all node
node-again all node = rw (leaves-fresh all, closed-fresh all) refl

member-again : (all : List Line) (node : List ℕ) → is_member_node (fresh all) node ≡ is_member_node all node
member-again all node = rw (leaves-fresh all, closed-fresh all) refl

found-again : (all before : List Line) → AreFound all before → AreFound (fresh all) (fresh before)
found-again all [] found = tt
found-again all (lines.Skip ∷ before) found = found-again all before found.0
found-again all (lines.Config ∷ before) found = (found-again all before found.0, tt)
found-again all (lines.Server vendor model revision ∷ before) found = (found-again all before found.0, tt)
found-again all (lines.Ld name ∷ before) found = (found-again all before found.0, tt)
found-again all (lines.Ln node ∷ before) found = (found-again all before found.0, tt)
found-again all (lines.Attr attr ∷ before) found = (found-again all before found.0, tt)
found-again all (lines.Set set ∷ before) found = (found-again all before found.0, tt)
found-again all (lines.Member reference ∷ before) found = (found-again all before found.0, (node-again all reference ∙ found.1.0, member-again all reference ∙ found.1.1))
found-again all (lines.Brcb block ∷ before) found = (found-again all before found.0, set-again found.1)
  where
    set-again : IsFound all (lines.Brcb block) → IsFound (fresh all) (lines.Brcb block)
    set-again (inl none) = inl none
    set-again (inr there) = inr (ap (λ ks. is_among ks block.dat_set) (set-keys-fresh all) ∙ there)
found-again all (lines.Ctl control ∷ before) found = (found-again all before found.0, tt)
found-again all (lines.Sgcb groups ∷ before) found = (found-again all before found.0, tt)
found-again all (lines.End ∷ before) found = (found-again all before found.0, tt)

-- what they make
abbrev set_unnumbered : SetDef → SetDef
set_unnumbered set = record set { line = 0 }

members-unnumbered : (sets : List SetDef) (reference : List ℕ) → map set_unnumbered (with_member sets reference) ≡ with_member (map set_unnumbered sets) reference
members-unnumbered [] reference = refl
members-unnumbered (set ∷ []) reference = refl
members-unnumbered (set ∷ next ∷ sets) reference = ap (λ (ss : List SetDef). set_unnumbered set ∷ ss) (members-unnumbered (next ∷ sets) reference)

-- with one more line, and with it under another number
line-unnumbered : (line : Line) (c : Config) → unnumbered (with_line line c) ≡ with_line (renumbered 0 line) (unnumbered c)
line-unnumbered lines.Skip c = refl
line-unnumbered lines.Config c = refl
line-unnumbered (lines.Server vendor model revision) c = refl
line-unnumbered (lines.Ld name) c = refl
line-unnumbered (lines.Ln node) c = ap (λ xs. record (unnumbered c) { nodes = xs }) (map-append (λ (x : LnDef). record x { line = 0 }) c.nodes (node ∷ []))
line-unnumbered (lines.Attr attr) c = ap (λ xs. record (unnumbered c) { attrs = xs }) (map-append (λ (x : AttrDef). record x { line = 0 }) c.attrs (attr ∷ []))
line-unnumbered (lines.Set set) c = ap (λ xs. record (unnumbered c) { sets = xs }) (map-append (λ (x : SetDef). record x { line = 0 }) c.sets (set ∷ []))
line-unnumbered (lines.Member reference) c = ap (λ xs. record (unnumbered c) { sets = xs }) (members-unnumbered c.sets reference)
line-unnumbered (lines.Brcb block) c = ap (λ xs. record (unnumbered c) { blocks = xs }) (map-append (λ (x : BlockDef). record x { line = 0 }) c.blocks (block ∷ []))
line-unnumbered (lines.Ctl control) c = ap (λ xs. record (unnumbered c) { controls = xs }) (map-append (λ (x : CtlDef). record x { line = 0 }) c.controls (control ∷ []))
line-unnumbered (lines.Sgcb groups) c = ap (λ xs. record (unnumbered c) { groups = xs }) (map-append (λ (x : SgDef). record x { line = 0 }) c.groups (groups ∷ []))
line-unnumbered lines.End c = refl

line-renumbered : (n : ℕ) (line : Line) (c : Config) → unnumbered (with_line (renumbered n line) c) ≡ with_line (renumbered 0 line) (unnumbered c)
line-renumbered n lines.Skip c = refl
line-renumbered n lines.Config c = refl
line-renumbered n (lines.Server vendor model revision) c = refl
line-renumbered n (lines.Ld name) c = refl
line-renumbered n (lines.Ln node) c = ap (λ xs. record (unnumbered c) { nodes = xs }) (map-append (λ (x : LnDef). record x { line = 0 }) c.nodes (record node { line = n } ∷ []))
line-renumbered n (lines.Attr attr) c = ap (λ xs. record (unnumbered c) { attrs = xs }) (map-append (λ (x : AttrDef). record x { line = 0 }) c.attrs (record attr { line = n } ∷ []))
line-renumbered n (lines.Set set) c = ap (λ xs. record (unnumbered c) { sets = xs }) (map-append (λ (x : SetDef). record x { line = 0 }) c.sets (record set { line = n } ∷ []))
line-renumbered n (lines.Member reference) c = ap (λ xs. record (unnumbered c) { sets = xs }) (members-unnumbered c.sets reference)
line-renumbered n (lines.Brcb block) c = ap (λ xs. record (unnumbered c) { blocks = xs }) (map-append (λ (x : BlockDef). record x { line = 0 }) c.blocks (record block { line = n } ∷ []))
line-renumbered n (lines.Ctl control) c = ap (λ xs. record (unnumbered c) { controls = xs }) (map-append (λ (x : CtlDef). record x { line = 0 }) c.controls (record control { line = n } ∷ []))
line-renumbered n (lines.Sgcb groups) c = ap (λ xs. record (unnumbered c) { groups = xs }) (map-append (λ (x : SgDef). record x { line = 0 }) c.groups (record groups { line = n } ∷ []))
line-renumbered n lines.End c = refl

same-line : (n : ℕ) (line : Line) (c d : Config) → unnumbered c ≡ unnumbered d → unnumbered (with_line (renumbered n line) c) ≡ unnumbered (with_line line d)
same-line n line c d e = line-renumbered n line c ∙ (ap (with_line (renumbered 0 line)) e ∙ sym (line-unnumbered line d))

same-config : (told : List Line) → unnumbered (config_of (fresh told)) ≡ unnumbered (config_of told)
same-config [] = refl
same-config (lines.Skip ∷ before) = same-config before
same-config (lines.Config ∷ before) = same-line (number_of (fresh before)) lines.Config (config_of (fresh before)) (config_of before) (same-config before)
same-config (lines.Server vendor model revision ∷ before) = same-line (number_of (fresh before)) (lines.Server vendor model revision) (config_of (fresh before)) (config_of before) (same-config before)
same-config (lines.Ld name ∷ before) = same-line (number_of (fresh before)) (lines.Ld name) (config_of (fresh before)) (config_of before) (same-config before)
same-config (lines.Ln node ∷ before) = same-line (number_of (fresh before)) (lines.Ln node) (config_of (fresh before)) (config_of before) (same-config before)
same-config (lines.Attr attr ∷ before) = same-line (number_of (fresh before)) (lines.Attr attr) (config_of (fresh before)) (config_of before) (same-config before)
same-config (lines.Set set ∷ before) = same-line (number_of (fresh before)) (lines.Set set) (config_of (fresh before)) (config_of before) (same-config before)
same-config (lines.Member reference ∷ before) = same-line (number_of (fresh before)) (lines.Member reference) (config_of (fresh before)) (config_of before) (same-config before)
same-config (lines.Brcb block ∷ before) = same-line (number_of (fresh before)) (lines.Brcb block) (config_of (fresh before)) (config_of before) (same-config before)
same-config (lines.Ctl control ∷ before) = same-line (number_of (fresh before)) (lines.Ctl control) (config_of (fresh before)) (config_of before) (same-config before)
same-config (lines.Sgcb groups ∷ before) = same-line (number_of (fresh before)) (lines.Sgcb groups) (config_of (fresh before)) (config_of before) (same-config before)
same-config (lines.End ∷ before) = same-line (number_of (fresh before)) lines.End (config_of (fresh before)) (config_of before) (same-config before)

pub rewritten : (text : List ℕ) (config : Config) → SpellsConfig text config → ReadsAs (written config) config
unfolding written
rewritten text config is =
    let all = fresh is.told in
    let lines = again-lines text is.told is.are in
    let whole : written config ≡ text_of (kept is.told) = ap (λ c. text_of (lines_of c)) is.makes ∙ ap text_of (lines-kept text is.told is.are is.ended) in
    let spells : SpellsConfig (written config) (config_of all) = record {
      told = all;
      are = subst (λ t. AreLines t all) (sym whole) lines;
      ended = place-fresh is.told ∙ is.ended;
      found = found-again is.told is.told is.found;
      makes = refl;
    } in
    (config_of all, config-read (written config) (config_of all) spells, same-config is.told ∙ ap unnumbered (sym is.makes))

pub shortest : (text : List ℕ) (config : Config) → SpellsConfig text config → length (written config) ≤ length text
unfolding written
shortest text config is =
    let whole : written config ≡ text_of (kept is.told) = ap (λ c. text_of (lines_of c)) is.makes ∙ ap text_of (lines-kept text is.told is.are is.ended) in
    omega (arith, ap length whole, lines-shorter text is.told is.are)
