-- What a text says of its blocks and its data sets.
use Rattle.std.proofs.Common.{◌≡◌, ℕ, ◌+◌, ◌≤◌, ◌⊎◌, inl, inr, true, List, [], ◌∷◌, ◌++◌, length, refl, sym, ap, subst, ◌∙◌, arith, length-append}
use Rattle.sv_base.specs.declared.config.SetDef.{SetDef}
use Rattle.sv_base.specs.declared.config.BlockDef.{BlockDef}
use Rattle.text_words.specs.Names.{is_name, is_member}
use Rattle.cfg_lines.specs.Before.{blocks, members}
use Rattle.cfg_lines.specs.Configs.{with_member, config_of}
use Rattle.cfg_grammar.specs.Follows.{Follows}
use Rattle.cfg_grammar.specs.Texts.{AreLines, IsFound, AreFound}
use Rattle.cfg_lines.specs.declared.line.Line.{Line}
use Rattle.cfg_lines.specs.declared.line.Line.TheVariants as lines
use Rattle.list_laws.proofs.Among.{Among, ending}
use Rattle.text_configs.proofs.StandLaws.{in-node}
use Rattle.text_configs.proofs.SetNameLaws.{few-told}

-- ---- blocks

pub record IsReadBlock (b : BlockDef) : Type 0 where
  pub opt_flds : length b.opt_flds ≡ 10
  pub trg_ops : length b.trg_ops ≡ 6
  pub ln : is_name b.ln ≡ true
  pub name : is_name b.name ≡ true

pub blocks-read : (told : List Line) (text : List ℕ) → AreLines text told → (b : BlockDef) → Among b (config_of told).blocks → IsReadBlock b
blocks-read [] text h b i = absurd i
blocks-read (lines.Brcb block ∷ before) text h b i = by (ending b (config_of before).blocks block i) (blocks-read before h.0 h.3 b)
  where
    new : IsReadBlock block
    new = record {
      opt_flds = h.4.follows.bits.0;
      trg_ops = h.4.follows.bits.1;
      ln = ap is_name (ap (λ (d : BlockDef). d.ln) h.4.follows.here) ∙ (in-node before h.0 h.3 h.4.follows.stands).ln_name;
      name = h.4.follows.name;
    }

    by : Among b (config_of before).blocks ⊎ (b ≡ block) → (Among b (config_of before).blocks → IsReadBlock b) → IsReadBlock b
    by (inl j) go = go j
    by (inr e) go = subst IsReadBlock (sym e) new
blocks-read (line ∷ before) text h b i = blocks-read before h.0 h.3 b i

-- ---- data sets

-- how many members the last has
abbrev last_members : List SetDef → ℕ
last_members [] = 0
last_members (set ∷ []) = length set.members
last_members (set ∷ next ∷ sets) = last_members (next ∷ sets)

last-set : (sets : List SetDef) (set : SetDef) → last_members (sets ++ set ∷ []) ≡ length set.members
last-set [] set = refl
last-set (s ∷ []) set = refl
last-set (s ∷ t ∷ sets) set = last-set (t ∷ sets) set

last-member : (sets : List SetDef) (reference : List ℕ) → last_members (with_member sets reference) ≤ last_members sets + 1
last-member [] reference = omega arith
last-member (s ∷ []) reference = omega (arith, length-append s.members (reference ∷ []))
last-member (s ∷ t ∷ []) reference = last-member (t ∷ []) reference
last-member (s ∷ t ∷ u ∷ sets) reference = last-member (t ∷ u ∷ sets) reference

pub few-members : (told : List Line) (text : List ℕ) → AreLines text told → last_members (config_of told).sets ≤ members told
few-members [] text h = omega arith
few-members (lines.Set set ∷ before) text h = omega (arith, last-set (config_of before).sets set, ap (λ (s : SetDef). length s.members) h.4.follows.here)
few-members (lines.Member reference ∷ before) text h = omega (arith, last-member (config_of before).sets reference, few-members before h.0 h.3)
few-members (line ∷ before) text h = few-members before h.0 h.3

-- a set of those that have one more member: one that was there, or the last
pub record IsGrownSet (sets : List SetDef) (reference : List ℕ) (s : SetDef) : Type 0 where
  pub old : SetDef
  pub there : Among old sets
  pub members : s.members ≡ old.members ++ reference ∷ []
  pub last : length s.members ≤ last_members sets + 1

grown-set : (sets : List SetDef) (reference : List ℕ) (s : SetDef) → Among s (with_member sets reference) → Among s sets ⊎ IsGrownSet sets reference s
grown-set [] reference s i = inl i
grown-set (t ∷ []) reference s (inl e) = inr (record { old = t; there = inl refl; members = ap (λ (x : SetDef). x.members) e; last = omega (arith, ap (λ (x : SetDef). length x.members) e, length-append t.members (reference ∷ [])) })
grown-set (t ∷ []) reference s (inr i) = absurd i
grown-set (t ∷ u ∷ sets) reference s (inl e) = inl (inl e)
grown-set (t ∷ u ∷ sets) reference s (inr i) = by (grown-set (u ∷ sets) reference s i)
  where
    by : Among s (u ∷ sets) ⊎ IsGrownSet (u ∷ sets) reference s → Among s (t ∷ u ∷ sets) ⊎ IsGrownSet (t ∷ u ∷ sets) reference s
    by (inl j) = inl (inr j)
    by (inr g) = inr (record { old = g.old; there = inr g.there; members = g.members; last = g.last })

pub record IsReadSet (told : List Line) (s : SetDef) : Type 0 where
  pub few : length s.members ≤ 256
  pub told_of : (r : List ℕ) → Among r s.members → Among (lines.Member r) told

read-on : (told : List Line) (line : Line) (s : SetDef) → IsReadSet told s → IsReadSet (line ∷ told) s
read-on told line s h = record { few = h.few; told_of = λ r i. inr (h.told_of r i) }

pub sets-read : (told : List Line) (text : List ℕ) → AreLines text told → (s : SetDef) → Among s (config_of told).sets → IsReadSet told s
sets-read [] text h s i = absurd i
sets-read (lines.Set set ∷ before) text h s i = by (ending s (config_of before).sets set i) (sets-read before h.0 h.3 s)
  where
    empty : s ≡ set → s.members ≡ []
    empty e = ap (λ (x : SetDef). x.members) e ∙ ap (λ (x : SetDef). x.members) h.4.follows.here

    by : Among s (config_of before).sets ⊎ (s ≡ set) → (Among s (config_of before).sets → IsReadSet before s) → IsReadSet (lines.Set set ∷ before) s
    by (inl j) go = read-on before (lines.Set set) s (go j)
    by (inr e) go = record { few = omega (arith, ap length (empty e)); told_of = λ r j. absurd (subst (Among r) (empty e) j) }
sets-read (lines.Member reference ∷ before) text h s i = by (grown-set (config_of before).sets reference s i) (sets-read before h.0 h.3)
  where
    by : Among s (config_of before).sets ⊎ IsGrownSet (config_of before).sets reference s → ((t : SetDef) → Among t (config_of before).sets → IsReadSet before t) → IsReadSet (lines.Member reference ∷ before) s
    by (inl j) go = read-on before (lines.Member reference) s (go s j)
    by (inr g) go = record {
      few = omega (arith, g.last, few-members before h.0 h.3, h.4.follows.few);
      told_of = λ r j. member r (ending r g.old.members reference (subst (Among r) g.members j)) (go g.old g.there);
    }
      where
        member : (r : List ℕ) → Among r g.old.members ⊎ (r ≡ reference) → IsReadSet before g.old → Among (lines.Member r) (lines.Member reference ∷ before)
        member r (inl k) old = inr (old.told_of r k)
        member r (inr e) old = inl (ap lines.Member e)
sets-read (line ∷ before) text h s i = read-on before line s (sets-read before h.0 h.3 s i)

-- what a member's line has
pub member-named : (told : List Line) (text : List ℕ) (r : List ℕ) → AreLines text told → Among (lines.Member r) told → (is_member r ≡ true) × (length r ≤ 129)
member-named [] text r h i = absurd i
member-named (line ∷ before) text r h (inr i) = member-named before h.0 r h.3 i
member-named (line ∷ before) text r h (inl e) = named line h.4.follows e
  where
    named : (line : Line) → Follows before line → lines.Member r ≡ line → (is_member r ≡ true) × (length r ≤ 129)
    named line f e = let m : Follows before (lines.Member r) = subst (Follows before) (sym e) f in (m.name, m.short.0)

pub found-of : (all told : List Line) (line : Line) → AreFound all told → Among line told → IsFound all line
found-of all [] line h i = absurd i
found-of all (l ∷ before) line h (inl e) = subst (IsFound all) (sym e) h.1
found-of all (l ∷ before) line h (inr i) = found-of all before line h.0 i
