-- The note of a block, gathered from what the changed attributes touch.
use Rattle.std.specs.Prelude.{◌≡◌, ℕ, zero, suc, ◌+◌, ◌<◌, ◌≤◌, ◌==◌, Bool, ◌||◌, false, List, [], ◌∷◌, cond, None}
use Rattle.sv_base.specs.declared.numbers.AttrId.{AttrId}
use Rattle.bay_model.specs.declared.flags.Change.{Change}
use Rattle.bay_model.specs.declared.flags.Trg.{Trg}
use Rattle.bay_model.specs.declared.note.Mention.{Mention}
use Rattle.bay_model.specs.declared.report.Reasons.{Reasons}
use Rattle.bay_model.specs.Notes.{is_any}
use Rattle.bay_model.specs.Mentions.{add}
use Rattle.trigger_core.specs.Noted.{reasons_by, change_of}
use Rattle.touch_index.specs.declared.touch.Touch.{Touch}
use Rattle.sv_base.specs.Filled.{Filled}
use Rattle.bay_model.specs.declared.tables.MemberShape.{MemberShape}
use Rattle.touch_index.specs.Indexed.{block_at, touches_from}
use Rattle.touch_index.specs.Spread.{of_attr}

-- of touches, the members of block b
abbrev pub add_touches : ℕ → Reasons → List Touch → List Mention → List Mention
add_touches b r [] ms = ms
add_touches b r (t ∷ ts) ms = add_touches b r ts (cond (t.block.0 == b) (add t.member.0 r ms) ms)

-- what a change that gives a reason adds
abbrev pub add_change : ℕ → Trg → List Touch → Change → List Mention → List Mention
add_change b trg all ch ms = cond (is_any (reasons_by trg ch)) (add_touches b (reasons_by trg ch) (of_attr ch.attr.0 all) ms) ms

abbrev pub add_changes : ℕ → Trg → List Touch → List Change → List Mention → List Mention
add_changes b trg all [] ms = ms
add_changes b trg all (ch ∷ chs) ms = add_changes b trg all chs (add_change b trg all ch ms)

-- the attribute is one of these
abbrev pub holds : ℕ → List AttrId → Bool
holds x [] = false
holds x (y ∷ ys) = (y.0 == x) || holds x ys

-- no two changes are of one attribute
abbrev pub AreOnce : List Change → Type 0
AreOnce [] = Unit {0}
AreOnce (ch ∷ chs) = (change_of chs ch.attr ≡ None) × AreOnce chs

-- the members from number i on, that many, that have a reason
abbrev pub noted_by : (ℕ → Reasons) → ℕ → ℕ → List Mention
noted_by f i zero = []
noted_by f i (suc n) = cond (is_any (f i)) (record { member = record { 0 = i }; reasons = f i } ∷ noted_by f (suc i) n) (noted_by f (suc i) n)

-- the members of block b that touches name are among those from i on, that many
abbrev pub InRange : ℕ → ℕ → ℕ → List Touch → Type 0
InRange b i n [] = Unit {0}
InRange b i n (t ∷ ts) = (t.block.0 ≡ b → (i ≤ t.member.0) × (t.member.0 < i + n)) × InRange b i n ts

-- a note of n members at most, which these touches name, has capacity
abbrev pub CanAdd : ℕ → List Touch → Filled Mention → Type 0
CanAdd b ts out = (f : ℕ → Reasons) × (i : ℕ) × (n : ℕ) × (out.items ≡ noted_by f i n) × InRange b i n ts × (n ≤ out.room)

-- the members of block b are these
abbrev pub IsSetOf : List (Filled Touch) → ℕ → List MemberShape → Type 0
IsSetOf bs b ms = (block_at bs b).items ≡ touches_from b 1 ms

-- none of these touches is of block b
abbrev pub NoneOf : ℕ → List Touch → Type 0
NoneOf b [] = Unit {0}
NoneOf b (t ∷ ts) = (t.block.0 ≡ b → ⊥) × NoneOf b ts

-- no change touches block b
abbrev pub AreApart : ℕ → List Touch → List Change → Type 0
AreApart b all [] = Unit {0}
AreApart b all (ch ∷ chs) = NoneOf b (of_attr ch.attr.0 all) × AreApart b all chs
