-- One walk over the touches of a change gives each block what it would get by itself.
use Rattle.std.proofs.Common.{◌≡◌, ◌≢◌, refl, ap, ap₂, sym, ◌∙◌, subst, ℕ, zero, suc, ◌+◌, ◌<◌, ◌≤◌, ◌==◌, Bool, true, false, cond, List, [], ◌∷◌, length, get_or, drop, arith, ◌⊎◌, inl, inr}
use Rattle.std.specs.List.{All}
use Rattle.std.proofs.lemmas.Bool.{cases_eq}
use Rattle.std.proofs.lemmas.Bool.Decides.{nat_tests}
use Rattle.std.proofs.lemmas.List.{drop_more, get_or-set_same, get_or-set_other}
use Rattle.std.proofs.lemmas.List.Elements.{All-append, All-filter}
use Rattle.sv_base.specs.Filled.{Filled}
use Rattle.bay_model.specs.declared.flags.Change.{Change}
use Rattle.bay_model.specs.declared.flags.Trg.{Trg}
use Rattle.bay_model.specs.declared.note.Mention.{Mention}
use Rattle.bay_model.specs.declared.report.Reasons.{Reasons}
use Rattle.bay_model.specs.Mentions.{add}
use Rattle.bay_model.specs.Notes.{is_any}
use Rattle.trigger_core.specs.Noted.{reasons_by}
use Rattle.touch_index.specs.declared.touch.Touch.{Touch}
use Rattle.touch_index.specs.Spread.{of_attr, no_touch}
use Rattle.touch_index.specs.Indexed.{touches_in, IsOwnedFrom}
use Rattle.touch_index.specs.Gathered.{add_touches, InRange, CanAdd}
use Rattle.touch_index.specs.Gathering.{no_note, note_at, trg_at, with_items, add_touched}
use Rattle.touch_index.proofs.GatherLaws.{touches_step, next_fits, noted_few}

pub trg_there : (l : List Trg) (k : ℕ) (d : Trg) → k < length l → get_or l k d ≡ trg_at l k
trg_there [] k d h = absurd (omega (arith, h))
trg_there (x ∷ xs) zero d h = refl
trg_there (x ∷ xs) (suc k) d h = trg_there xs k d (omega (arith, h))

-- what one touch adds to the note of block b
abbrev pub one_touched : ℕ → Trg → Change → Touch → List Mention → List Mention
one_touched b trg ch t ms = cond (is_any (reasons_by trg ch)) (cond (t.block.0 == b) (add t.member.0 (reasons_by trg ch) ms) ms) ms

pub touched_step : (b : ℕ) (trg : Trg) (ch : Change) (ts : List Touch) (k : ℕ) (ms : List Mention) → k < length ts
    → add_touched b trg ch (drop k ts) ms ≡ add_touched b trg ch (drop (k + 1) ts) (one_touched b trg ch (get_or ts k no_touch) ms)
touched_step b trg ch ts k ms h = by (is_any (reasons_by trg ch)) where
  by : (a : Bool) → cond a (add_touches b (reasons_by trg ch) (drop k ts) ms) ms
      ≡ cond a (add_touches b (reasons_by trg ch) (drop (k + 1) ts) (cond a (cond ((get_or ts k no_touch).block.0 == b) (add (get_or ts k no_touch).member.0 (reasons_by trg ch) ms) ms) ms)) (cond a (cond ((get_or ts k no_touch).block.0 == b) (add (get_or ts k no_touch).member.0 (reasons_by trg ch) ms) ms) ms)
  by true = touches_step b (reasons_by trg ch) ts k ms h
  by false = refl

-- a touch of another block
pub other_touched : (b : ℕ) (trg : Trg) (ch : Change) (t : Touch) (ms : List Mention) → b ≢ t.block.0 → one_touched b trg ch t ms ≡ ms
other_touched b trg ch t ms h = ap (λ c. cond (is_any (reasons_by trg ch)) (cond c (add t.member.0 (reasons_by trg ch) ms) ms) ms) e ∙ by (is_any (reasons_by trg ch)) where
  e : (t.block.0 == b) ≡ false
  e = grind (arith, nat_tests, h)

  by : (a : Bool) → cond a ms ms ≡ ms
  by true = refl
  by false = refl

-- one of this block, which gives a reason or none
pub own_touched : (b : ℕ) (trg : Trg) (ch : Change) (t : Touch) (ms : List Mention) (a : Bool) → b ≡ t.block.0 → is_any (reasons_by trg ch) ≡ a
    → one_touched b trg ch t ms ≡ cond a (add t.member.0 (reasons_by trg ch) ms) ms
own_touched b trg ch t ms a h is = ap₂ (λ x c. cond x (cond c (add t.member.0 (reasons_by trg ch) ms) ms) ms) is (let e : (t.block.0 == b) ≡ true = grind (arith, nat_tests, h) in e)

-- the touches after the next one
fits_rest : (b i n k : ℕ) (ts : List Touch) → k < length ts → InRange b i n (drop k ts) → InRange b i n (drop (k + 1) ts)
fits_rest b i n k ts h range = (subst (InRange b i n) (drop_more ts k no_touch h) range).1

pub fits_on : (b k : ℕ) (ts : List Touch) (f g : Filled Mention) → k < length ts → CanAdd b (drop k ts) f → g.items ≡ f.items → g.room ≡ f.room → CanAdd b (drop (k + 1) ts) g
fits_on b k ts f g h can same room = (can.0, can.1, can.2, same ∙ can.3, fits_rest b can.1 can.2 k ts h can.4, (let r : can.2 ≤ g.room = omega (arith, can.5, room) in r))

pub fits_more : (b k : ℕ) (r : Reasons) (ts : List Touch) (f g : Filled Mention) → k < length ts → CanAdd b (drop k ts) f → (get_or ts k no_touch).block.0 ≡ b → is_any r ≡ true
    → g.items ≡ add (get_or ts k no_touch).member.0 r f.items → g.room ≡ f.room → CanAdd b (drop (k + 1) ts) g
fits_more b k r ts f g h can same any is room =
    let range = (subst (InRange b can.1 can.2) (drop_more ts k no_touch h) can.4).0 in
    let next = next_fits b r (get_or ts k no_touch) f.items can.0 can.1 can.2 can.3 range any same in
    (next.0, can.1, can.2, is ∙ next.1, fits_rest b can.1 can.2 k ts h can.4, (let q : can.2 ≤ g.room = omega (arith, can.5, room) in q))

pub room_for : (b k : ℕ) (r : Reasons) (ts : List Touch) (f : Filled Mention) → k < length ts → CanAdd b (drop k ts) f → (get_or ts k no_touch).block.0 ≡ b → is_any r ≡ true
    → length (add (get_or ts k no_touch).member.0 r f.items) ≤ f.room
room_for b k r ts f h can same any =
    let range = (subst (InRange b can.1 can.2) (drop_more ts k no_touch h) can.4).0 in
    let next = next_fits b r (get_or ts k no_touch) f.items can.0 can.1 can.2 can.3 range any same in
    omega (arith, ap length next.1, noted_few next.0 can.1 can.2, can.5)

-- ---- the notes after a touch

module _ (notes : List (Filled Mention)) (i : ℕ) (ms : List Mention) (below : i < length notes) where
  pub items_here : (b : ℕ) → b ≡ i → (note_at (with_items i ms notes) b).items ≡ ms
  items_here b e = ap (λ k. (note_at (with_items i ms notes) k).items) e ∙ ap (λ (f : Filled Mention). f.items) (get_or-set_same notes i (record { items = ms; room = (note_at notes i).room }) no_note below)

  pub items_there : (b : ℕ) → b ≢ i → (note_at (with_items i ms notes) b).items ≡ (note_at notes b).items
  items_there b e = ap (λ (f : Filled Mention). f.items) (get_or-set_other notes i b (record { items = ms; room = (note_at notes i).room }) no_note e)

  pub room_same : (b : ℕ) → (note_at (with_items i ms notes) b).room ≡ (note_at notes b).room
  room_same b = by (cases_eq b i) where
    by : (b ≡ i) ⊎ (b ≢ i) → (note_at (with_items i ms notes) b).room ≡ (note_at notes b).room
    by (inl e) = ap (λ k. (note_at (with_items i ms notes) k).room) e
        ∙ (ap (λ (f : Filled Mention). f.room) (get_or-set_same notes i (record { items = ms; room = (note_at notes i).room }) no_note below) ∙ ap (λ k. (note_at notes k).room) (sym e))
    by (inr e) = ap (λ (f : Filled Mention). f.room) (get_or-set_other notes i b (record { items = ms; room = (note_at notes i).room }) no_note e)

-- ---- each touch is of a block that is there

all_owned : (k n : ℕ) (ts : List Touch) → k < n → All (λ (t : Touch). t.block.0 ≡ k) ts → All (λ (t : Touch). t.block.0 < n) ts
all_owned k n ts h own = λ j d below. omega (arith, own j d below, h)

owned_within : (k n : ℕ) (bs : List (Filled Touch)) → k + length bs ≤ n → IsOwnedFrom k bs → All (λ (t : Touch). t.block.0 < n) (touches_in bs)
owned_within k n [] h own = λ j d below. absurd (omega (arith, below))
owned_within k n (f ∷ bs) h own = All-append (λ (t : Touch). t.block.0 < n) f.items (touches_in bs) (all_owned k n f.items (omega (arith, h)) own.0) (owned_within (suc k) n bs (omega (arith, h)) own.1)

pub touched_within : (x n : ℕ) (bs : List (Filled Touch)) → length bs ≡ n → IsOwnedFrom 0 bs → All (λ (t : Touch). t.block.0 < n) (of_attr x (touches_in bs))
touched_within x n bs h own = All-filter (λ (t : Touch). t.attr.0 == x) (λ (t : Touch). t.block.0 < n) (touches_in bs) (owned_within 0 n bs (omega (arith, h)) own)
