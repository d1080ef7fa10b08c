-- Which blocks are touched stays known as notes gain members and lose them.
use Rattle.std.proofs.Common.{◌≡◌, ◌≢◌, refl, ap, sym, ◌∙◌, subst, ℕ, zero, suc, ◌+◌, ◌*◌, ◌<◌, ◌≤◌, ◌==◌, nat_lt, Bool, true, false, cond, List, [], ◌∷◌, ◌++◌, length, set, get_or, replicate, arith, ◌⊎◌, inl, inr}
use Rattle.std.specs.List.{All, sum_by}
use Rattle.std.proofs.lemmas.Bool.{cases_eq}
use Rattle.std.proofs.lemmas.Bool.Decides.{nat_tests}
use Rattle.std.proofs.lemmas.List.{length-set, length-append, get_or-set_same, get_or-set_other}
use Rattle.std.proofs.lemmas.List.Sums.{sum_by-set, sum_by-le}
use Rattle.std.proofs.lemmas.List.Folds.{sum_by-replicate}
use Rattle.std.proofs.lemmas.List.Elements.{All-push, All-cons, All-head, All-tail}
use Rattle.sv_base.specs.declared.numbers.BlockNo.{BlockNo}
use Rattle.sv_base.specs.Filled.{Filled}
use Rattle.bay_model.specs.declared.note.Mention.{Mention}
use Rattle.bay_model.specs.declared.report.Reasons.{Reasons}
use Rattle.bay_model.specs.Mentions.{add}
use Rattle.bay_model.specs.Notes.{union}
use Rattle.touch_index.specs.Gathering.{no_note, note_at, weight, occurs, IsCovered}

-- a note that was added to has a member
pub add_some : (i : ℕ) (r : Reasons) (ms : List Mention) → 0 < length (add i r ms)
add_some i r [] = omega arith
add_some i r (m ∷ ms) = by (union m.reasons r) (nat_lt m.member.0 i) (m.member.0 == i) where
  by : (u : Reasons) (a b : Bool) → 0 < length (cond a (m ∷ add i r ms) (cond b (record { member = record { 0 = i }; reasons = u } ∷ ms) (record { member = record { 0 = i }; reasons = r } ∷ m ∷ ms)))
  by u true b = omega arith
  by u false true = omega arith
  by u false false = omega arith

abbrev pub weight_of : Bool → ℕ
weight_of c = cond c 0 1

pub weighs_none : (n : Filled Mention) → n.items ≡ [] → weight n ≡ 0
weighs_none n is = ap (λ (l : List Mention). cond (length l == 0) 0 1) is

pub weighs_by : (n : Filled Mention) (b : Bool) → b ≡ (length n.items == 0) → weight n ≡ weight_of b
weighs_by n b is = ap weight_of (sym is)

pub weighs_one : (n : Filled Mention) → 0 < length n.items → weight n ≡ 1
weighs_one n some = ap (λ b. cond b 0 1) (let e : (length n.items == 0) ≡ false = grind (arith, nat_tests, some) in e)

least : (n : Filled Mention) → weight n ≤ 1
least n = by (length n.items == 0) where
  by : (c : Bool) → weight_of c ≤ 1
  by true = omega arith
  by false = omega arith

pub none_weighs : (n : Filled Mention) → weight n ≡ 0 → n.items ≡ []
none_weighs n is = by n.items (λ some. omega (arith, is, weighs_one n some)) where
  by : (l : List Mention) → (0 < length l → ⊥) → l ≡ []
  by [] e = refl
  by (m ∷ ms) e = absurd (e (omega arith))

-- whether a block is the one that is counted
abbrev is_one : BlockNo → ℕ → ℕ
is_one x b = cond (x.0 == b) 1 0

occurs_push : (b : ℕ) (xs : List BlockNo) (x : BlockNo) → occurs b (xs ++ x ∷ []) ≡ occurs b xs + is_one x b
occurs_push b [] x = let e : is_one x b + 0 ≡ 0 + is_one x b = omega arith in e
occurs_push b (y ∷ ys) x = let h = occurs_push b ys x in let e : is_one y b + occurs b (ys ++ x ∷ []) ≡ is_one y b + occurs b ys + is_one x b = omega (arith, h) in e

one_here : (b : ℕ) (x : BlockNo) → x.0 ≡ b → is_one x b ≡ 1
one_here b x h = ap (λ c. cond c 1 0) (let e : (x.0 == b) ≡ true = grind (arith, nat_tests, h) in e)

none_there : (b : ℕ) (x : BlockNo) → b ≢ x.0 → is_one x b ≡ 0
none_there b x h = ap (λ c. cond c 1 0) (let e : (x.0 == b) ≡ false = grind (arith, nat_tests, h) in e)

module _ (notes : List (Filled Mention)) (touched : List BlockNo) (are : IsCovered notes touched) (i : ℕ) (y : Filled Mention) (below : i < length notes) where
  sum : sum_by weight (set notes i y) + weight (note_at notes i) ≡ sum_by weight notes + weight y
  sum = sum_by-set weight notes i y no_note below

  here : weight (note_at (set notes i y) i) ≡ weight y
  here = ap weight (get_or-set_same notes i y no_note below)

  there : (b : ℕ) → b ≢ i → weight (note_at (set notes i y) b) ≡ weight (note_at notes b)
  there b h = ap weight (get_or-set_other notes i b y no_note h)

  within : All (λ (b : BlockNo). b.0 < length notes) touched → All (λ (b : BlockNo). b.0 < length (set notes i y)) touched
  within all = subst (λ n. All (λ (b : BlockNo). b.0 < n) touched) (sym (length-set notes i y)) all

  -- a note with as many members as before, if any
  pub covered_same : weight (note_at notes i) ≡ weight y → IsCovered (set notes i y) touched
  covered_same same = record {
    once = λ b h. by b (omega (arith, h, length-set notes i y)) (cases_eq b i);
    counted = omega (arith, sum, same, are.counted);
    within = within are.within;
  } where
    by : (b : ℕ) → b < length notes → (b ≡ i) ⊎ (b ≢ i) → occurs b touched ≡ weight (note_at (set notes i y) b)
    by b h (inl e) = are.once b h ∙ (ap (λ k. weight (note_at notes k)) e ∙ (same ∙ (sym here ∙ ap (λ k. weight (note_at (set notes i y) k)) (sym e))))
    by b h (inr e) = are.once b h ∙ sym (there b e)

  -- memory for one more
  pub covered_room : weight (note_at notes i) ≡ 0 → weight y ≡ 1 → length touched < length notes
  covered_room was now = omega (arith, sum, was, now, are.counted, sum_by-le weight 1 (set notes i y) (λ k d h. least (get_or (set notes i y) k d)), length-set notes i y)

  -- the first member of a note
  pub covered_more : weight (note_at notes i) ≡ 0 → weight y ≡ 1 → (x : BlockNo) → x.0 ≡ i → IsCovered (set notes i y) (touched ++ x ∷ [])
  covered_more was now x is = record {
    once = λ b h. by b (omega (arith, h, length-set notes i y)) (cases_eq b i);
    counted = omega (arith, sum, was, now, are.counted, length-append touched (x ∷ []));
    within = All-push (λ (b : BlockNo). b.0 < length (set notes i y)) touched x (within are.within) (omega (arith, below, is, length-set notes i y));
  } where
    by : (b : ℕ) → b < length notes → (b ≡ i) ⊎ (b ≢ i) → occurs b (touched ++ x ∷ []) ≡ weight (note_at (set notes i y) b)
    by b h (inl e) =
        let one = one_here b x (is ∙ sym e) in
        let w : weight (note_at notes b) ≡ 0 = ap (λ k. weight (note_at notes k)) e ∙ was in
        let v : weight (note_at (set notes i y) b) ≡ 1 = ap (λ k. weight (note_at (set notes i y) k)) e ∙ (here ∙ now) in
        omega (arith, occurs_push b touched x, one, are.once b h, w, v)
    by b h (inr e) =
        let none = none_there b x (λ h. e (h ∙ is)) in
        omega (arith, occurs_push b touched x, none, are.once b h, there b e)

all_front : {X : Type 0} (P : X → Type 0) (xs : List X) (x : X) → All P (xs ++ x ∷ []) → All P xs
all_front P [] x all = λ i d h. absurd (omega (arith, h))
all_front P (y ∷ ys) x all = All-cons P y ys (All-head P y (ys ++ x ∷ []) all) (all_front P ys x (All-tail P y (ys ++ x ∷ []) all))

all_last : {X : Type 0} (P : X → Type 0) (xs : List X) (x : X) → All P (xs ++ x ∷ []) → P x
all_last P [] x all = All-head P x [] all
all_last P (y ∷ ys) x all = all_last P ys x (All-tail P y (ys ++ x ∷ []) all)

pub last_within : (notes : List (Filled Mention)) (touched front : List BlockNo) (x : BlockNo) → IsCovered notes touched → touched ≡ front ++ x ∷ [] → x.0 < length notes
last_within notes touched front x are is = all_last (λ (b : BlockNo). b.0 < length notes) front x (subst (All (λ (b : BlockNo). b.0 < length notes)) is are.within)

-- the note of the last one is emptied
pub covered_less : (notes : List (Filled Mention)) (touched front : List BlockNo) (x : BlockNo) (y : Filled Mention) → IsCovered notes touched → touched ≡ front ++ x ∷ [] → weight y ≡ 0 → IsCovered (set notes x.0 y) front
covered_less notes touched front x y are is none = record {
  once = λ b h. by b (omega (arith, h, length-set notes x.0 y)) (cases_eq b x.0);
  counted = omega (arith, sum_by-set weight notes x.0 y no_note below, was, none, are.counted, ap length is, length-append front (x ∷ []));
  within = subst (λ n. All (λ (b : BlockNo). b.0 < n) front) (sym (length-set notes x.0 y)) (all_front (λ (b : BlockNo). b.0 < length notes) front x (subst (All (λ (b : BlockNo). b.0 < length notes)) is are.within));
} where
  below : x.0 < length notes
  below = last_within notes touched front x are is

  occurred : (b : ℕ) → b < length notes → occurs b front + is_one x b ≡ weight (note_at notes b)
  occurred b h = sym (occurs_push b front x) ∙ (ap (occurs b) (sym is) ∙ are.once b h)

  was : weight (note_at notes x.0) ≡ 1
  was = omega (arith, occurred x.0 below, one_here x.0 x refl, least (note_at notes x.0))

  by : (b : ℕ) → b < length notes → (b ≡ x.0) ⊎ (b ≢ x.0) → occurs b front ≡ weight (note_at (set notes x.0 y) b)
  by b h (inl e) =
      let now : weight (note_at (set notes x.0 y) b) ≡ 0 = ap (λ k. weight (note_at (set notes x.0 y) k)) e ∙ (ap weight (get_or-set_same notes x.0 y no_note below) ∙ none) in
      let one = one_here b x (sym e) in
      omega (arith, occurred b h, one, least (note_at notes b), now)
  by b h (inr e) =
      let same : weight (note_at (set notes x.0 y) b) ≡ weight (note_at notes b) = ap weight (get_or-set_other notes x.0 b y no_note e) in
      omega (arith, occurred b h, none_there b x e, same)

pub note_there : (l : List (Filled Mention)) (k : ℕ) (d : Filled Mention) → k < length l → get_or l k d ≡ note_at l k
note_there [] k d h = absurd (omega (arith, h))
note_there (n ∷ ns) zero d h = refl
note_there (n ∷ ns) (suc k) d h = note_there ns k d (omega (arith, h))

-- where none is touched, no note has a member
pub covered_none : (notes : List (Filled Mention)) (touched : List BlockNo) → IsCovered notes touched → touched ≡ [] → All (λ (n : Filled Mention). n.items ≡ []) notes
covered_none notes touched are is = λ i d h. none_weighs (get_or notes i d) (by i d h) where
  by : (i : ℕ) (d : Filled Mention) → i < length notes → weight (get_or notes i d) ≡ 0
  by i d h = ap weight (note_there notes i d h) ∙ sym (ap (occurs i) (sym is) ∙ are.once i h)

-- empty notes
pub covered_empty : (n : ℕ) (y : Filled Mention) → y.items ≡ [] → IsCovered (replicate n y) []
covered_empty n y is = record {
  once = λ b h. sym (ap weight (at n b h) ∙ weighs_none y is);
  counted = sym (sums n);
  within = λ i d h. absurd (omega (arith, h));
} where
  at : (n b : ℕ) → b < length (replicate n y) → note_at (replicate n y) b ≡ y
  at zero b h = absurd (omega (arith, h))
  at (suc n) zero h = refl
  at (suc n) (suc b) h = at n b (omega (arith, h))

  sums : (n : ℕ) → sum_by weight (replicate n y) ≡ 0
  sums n = sum_by-replicate weight n y ∙ (ap (λ w. n * w) (weighs_none y is) ∙ (let e : n * 0 ≡ 0 = omega arith in e))
