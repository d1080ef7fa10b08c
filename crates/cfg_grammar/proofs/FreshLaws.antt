-- The lines of a text as they are read again where it is written anew: no empty lines and remarks, and other numbers.
use Rattle.std.proofs.Common.{◌≡◌, ℕ, ◌≤◌, List, [], ◌∷◌, ◌++◌, length, refl, sym, ap, ap₂, append-nil, ◌∙◌, arith}
use Rattle.cfg_lines.specs.Before.{number_of, place_of, domain_of, node_of, groups_of, has_settings, domains, nodes, attributes, sets, blocks, controls, members}
use Rattle.cfg_lines.specs.Facts.{Facts, facts_of, after}
use Rattle.cfg_lines.specs.Claims.{heads_by, heads, sets_by, claims_by, claims}
use Rattle.cfg_lines.specs.Claims as claimed
use Rattle.cfg_lines.specs.Nodes.{leaves_by, leaves, closed_by, closed}
use Rattle.cfg_lines.specs.Spelled.{words, spelled}
use Rattle.cfg_lines.specs.declared.leaf.Leaf.{Leaf}
use Rattle.cfg_lines.specs.declared.line.Line.{Line}
use Rattle.cfg_lines.specs.declared.line.Line.TheVariants as lines
use Rattle.cfg_lines.proofs.FactLaws.{facts-more}

-- with another number
abbrev pub renumbered : ℕ → Line → Line
renumbered n (lines.Ln node) = lines.Ln (record node { line = n })
renumbered n (lines.Attr attr) = lines.Attr (record attr { line = n })
renumbered n (lines.Set set) = lines.Set (record set { line = n })
renumbered n (lines.Brcb block) = lines.Brcb (record block { line = n })
renumbered n (lines.Ctl control) = lines.Ctl (record control { line = n })
renumbered n (lines.Sgcb groups) = lines.Sgcb (record groups { line = n })
renumbered n line = line

abbrev pub fresh : List Line → List Line
fresh [] = []
fresh (lines.Skip ∷ before) = fresh before
fresh (line ∷ before) = renumbered (number_of (fresh before)) line ∷ fresh before

-- a line says what it says under any number
renumbered-facts : (n : ℕ) (line : Line) (f : Facts) → after (renumbered n line) f ≡ after line f
renumbered-facts n lines.Skip f = refl
renumbered-facts n lines.Config f = refl
renumbered-facts n (lines.Server vendor model revision) f = refl
renumbered-facts n (lines.Ld name) f = refl
renumbered-facts n (lines.Ln node) f = refl
renumbered-facts n (lines.Attr attr) f = refl
renumbered-facts n (lines.Set set) f = refl
renumbered-facts n (lines.Member reference) f = refl
renumbered-facts n (lines.Brcb block) f = refl
renumbered-facts n (lines.Ctl control) f = refl
renumbered-facts n (lines.Sgcb groups) f = refl
renumbered-facts n lines.End f = refl

pub facts-fresh : (before : List Line) → facts_of (fresh before) ≡ facts_of before
facts-fresh [] = refl
facts-fresh (lines.Skip ∷ before) = facts-fresh before
facts-fresh (line ∷ before) =
    facts-more (renumbered (number_of (fresh before)) line) (fresh before)
    ∙ (renumbered-facts (number_of (fresh before)) line (facts_of (fresh before)) ∙ (ap (after line) (facts-fresh before) ∙ sym (facts-more line before)))

pub place-fresh : (before : List Line) → place_of (fresh before) ≡ place_of before
place-fresh before = ap (λ (f : Facts). f.place) (facts-fresh before)

pub domain-fresh : (before : List Line) → domain_of (fresh before) ≡ domain_of before
domain-fresh before = ap (λ (f : Facts). f.domain) (facts-fresh before)

pub node-fresh : (before : List Line) → node_of (fresh before) ≡ node_of before
node-fresh before = ap (λ (f : Facts). f.node) (facts-fresh before)

pub groups-fresh : (before : List Line) → groups_of (fresh before) ≡ groups_of before
groups-fresh before = ap (λ (f : Facts). f.groups) (facts-fresh before)

pub settings-fresh : (before : List Line) → has_settings (fresh before) ≡ has_settings before
settings-fresh before = ap (λ (f : Facts). f.settings) (facts-fresh before)

pub domains-fresh : (before : List Line) → domains (fresh before) ≡ domains before
domains-fresh before = ap (λ (f : Facts). f.domains) (facts-fresh before)

pub nodes-fresh : (before : List Line) → nodes (fresh before) ≡ nodes before
nodes-fresh before = ap (λ (f : Facts). f.nodes) (facts-fresh before)

pub attributes-fresh : (before : List Line) → attributes (fresh before) ≡ attributes before
attributes-fresh before = ap (λ (f : Facts). f.attributes) (facts-fresh before)

pub sets-fresh : (before : List Line) → sets (fresh before) ≡ sets before
sets-fresh before = ap (λ (f : Facts). f.sets) (facts-fresh before)

pub blocks-fresh : (before : List Line) → blocks (fresh before) ≡ blocks before
blocks-fresh before = ap (λ (f : Facts). f.blocks) (facts-fresh before)

pub controls-fresh : (before : List Line) → controls (fresh before) ≡ controls before
controls-fresh before = ap (λ (f : Facts). f.controls) (facts-fresh before)

pub members-fresh : (before : List Line) → members (fresh before) ≡ members before
members-fresh before = ap (λ (f : Facts). f.members) (facts-fresh before)

-- the names that lines take, and the nodes that they make
record Makes : Type 0 where
  heads : List (List ℕ)
  sets : List (List ℕ)
  claims : List (List ℕ)
  leaves : List Leaf
  closed : List (List ℕ)

abbrev makes_of : List Line → Makes
makes_of all = record { heads = heads all; sets = claimed.sets all; claims = claims all; leaves = leaves all; closed = closed all }

abbrev making : Line → Makes → Makes
making line m = record {
  heads = heads_by line ++ m.heads;
  sets = sets_by line ++ m.sets;
  claims = claims_by line ++ m.claims;
  leaves = m.leaves ++ leaves_by line;
  closed = m.closed ++ closed_by line;
}

renumbered-makes : (n : ℕ) (line : Line) (m : Makes) → making (renumbered n line) m ≡ making line m
renumbered-makes n lines.Skip m = refl
renumbered-makes n lines.Config m = refl
renumbered-makes n (lines.Server vendor model revision) m = refl
renumbered-makes n (lines.Ld name) m = refl
renumbered-makes n (lines.Ln node) m = refl
renumbered-makes n (lines.Attr attr) m = refl
renumbered-makes n (lines.Set set) m = refl
renumbered-makes n (lines.Member reference) m = refl
renumbered-makes n (lines.Brcb block) m = refl
renumbered-makes n (lines.Ctl control) m = refl
renumbered-makes n (lines.Sgcb groups) m = refl
renumbered-makes n lines.End m = refl

makes-skip : (m : Makes) → m ≡ making lines.Skip m
makes-skip m = ap₂ (λ ls cs. record { heads = m.heads; sets = m.sets; claims = m.claims; leaves = ls; closed = cs }) (sym (append-nil m.leaves)) (sym (append-nil m.closed))

makes-fresh : (before : List Line) → makes_of (fresh before) ≡ makes_of before
makes-fresh [] = refl
makes-fresh (lines.Skip ∷ before) = makes-fresh before ∙ makes-skip (makes_of before)
makes-fresh (line ∷ before) = renumbered-makes (number_of (fresh before)) line (makes_of (fresh before)) ∙ ap (making line) (makes-fresh before)

pub heads-fresh : (before : List Line) → heads (fresh before) ≡ heads before
heads-fresh before = ap (λ (m : Makes). m.heads) (makes-fresh before)

pub set-keys-fresh : (before : List Line) → claimed.sets (fresh before) ≡ claimed.sets before
set-keys-fresh before = ap (λ (m : Makes). m.sets) (makes-fresh before)

pub claims-fresh : (before : List Line) → claims (fresh before) ≡ claims before
claims-fresh before = ap (λ (m : Makes). m.claims) (makes-fresh before)

pub leaves-fresh : (before : List Line) → leaves (fresh before) ≡ leaves before
leaves-fresh before = ap (λ (m : Makes). m.leaves) (makes-fresh before)

pub closed-fresh : (before : List Line) → closed (fresh before) ≡ closed before
closed-fresh before = ap (λ (m : Makes). m.closed) (makes-fresh before)

pub length-fresh : (before : List Line) → length (fresh before) ≤ length before
length-fresh [] = omega arith
length-fresh (lines.Skip ∷ before) = omega (arith, length-fresh before)
length-fresh (line ∷ before) = omega (arith, length-fresh before)

pub spelled-renumbered : (n : ℕ) (line : Line) → spelled (renumbered n line) ≡ spelled line
unfolding words
spelled-renumbered n lines.Skip = refl
spelled-renumbered n lines.Config = refl
spelled-renumbered n (lines.Server vendor model revision) = refl
spelled-renumbered n (lines.Ld name) = refl
spelled-renumbered n (lines.Ln node) = refl
spelled-renumbered n (lines.Attr attr) = refl
spelled-renumbered n (lines.Set set) = refl
spelled-renumbered n (lines.Member reference) = refl
spelled-renumbered n (lines.Brcb block) = refl
spelled-renumbered n (lines.Ctl control) = refl
spelled-renumbered n (lines.Sgcb groups) = refl
spelled-renumbered n lines.End = refl
