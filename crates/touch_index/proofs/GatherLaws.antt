-- What is gathered from touches is what is noted of the members.
use Rattle.std.proofs.Common.{◌≡◌, ◌≢◌, refl, ap, ap₂, sym, ◌∙◌, subst, ℕ, zero, suc, ◌+◌, ◌<◌, ◌≤◌, ◌==◌, nat_lt, Bool, true, false, cond, ◌||◌, ◌&&◌, List, [], ◌∷◌, ◌++◌, length, drop, get_or, arith, ◌⊎◌, inl, inr, Option, Some, None, unwrap_or, if◌then◌else◌}
use Rattle.std.specs.Option.{option_map}
use Rattle.std.proofs.lemmas.Bool.{cases_eq}
use Rattle.std.proofs.lemmas.Bool.Decides.{nat_tests}
use Rattle.sv_base.specs.declared.numbers.AttrId.{AttrId}
use Rattle.bay_model.specs.declared.flags.Change.{Change}
use Rattle.bay_model.specs.declared.flags.Trg.{Trg}
use Rattle.bay_model.specs.declared.note.Mention.{Mention}
use Rattle.bay_model.specs.declared.report.Reasons.{Reasons}
use Rattle.bay_model.specs.declared.tables.MemberShape.{MemberShape}
use Rattle.bay_model.specs.Notes.{no_reason, union, is_any}
use Rattle.trigger_core.specs.Noted.{reasons_by, change_of, reasons_in, noted}
use Rattle.touch_index.specs.declared.touch.Touch.{Touch}
use Rattle.std.proofs.lemmas.List.{drop_more}
use Rattle.touch_index.specs.Spread.{of_attr, no_touch}
use Rattle.std.specs.List.{All}
use Rattle.std.proofs.lemmas.List.Elements.{filter-append}
use Rattle.sv_base.specs.Filled.{Filled}
use Rattle.touch_index.specs.Indexed.{touches_of, touches_from, touches_in, block_at, IsOwnedFrom}
use Rattle.bay_model.specs.Mentions.{add}
use Rattle.touch_index.specs.Gathered.{add_touches, add_change, add_changes, holds, AreOnce, noted_by, InRange, IsSetOf, NoneOf, AreApart}
use Rattle.list_laws.proofs.Truths.{or-none, or-group}
use Rattle.trigger_core.proofs.ReasonLaws.{none_more, union_assoc}

-- ---- reasons

pub more_none : (r : Reasons) → union no_reason r ≡ r
more_none r = grind arith

pub union_same : (r s : Reasons) → union (union r s) s ≡ union r s
union_same r s = grind arith

pub union_self : (r : Reasons) → union r r ≡ r
union_self r = grind arith

or_comm : (a b : Bool) → (a || b) ≡ (b || a)
or_comm true true = refl
or_comm true false = refl
or_comm false true = refl
or_comm false false = refl

abbrev five : Bool → Bool → Bool → Bool → Bool → Reasons
five d q u i g = record { dchg = d; qchg = q; dupd = u; intg = i; gi = g }

pub union_comm : (r s : Reasons) → union r s ≡ union s r
union_comm r s =
    ap (λ x. five x (r.qchg || s.qchg) (r.dupd || s.dupd) (r.intg || s.intg) (r.gi || s.gi)) (or_comm r.dchg s.dchg)
    ∙ (ap (λ x. five (s.dchg || r.dchg) x (r.dupd || s.dupd) (r.intg || s.intg) (r.gi || s.gi)) (or_comm r.qchg s.qchg)
    ∙ (ap (λ x. five (s.dchg || r.dchg) (s.qchg || r.qchg) x (r.intg || s.intg) (r.gi || s.gi)) (or_comm r.dupd s.dupd)
    ∙ (ap (λ x. five (s.dchg || r.dchg) (s.qchg || r.qchg) (s.dupd || r.dupd) x (r.gi || s.gi)) (or_comm r.intg s.intg)
    ∙ ap (λ x. five (s.dchg || r.dchg) (s.qchg || r.qchg) (s.dupd || r.dupd) (s.intg || r.intg) x) (or_comm r.gi s.gi))))

pub union_swap : (r s t : Reasons) → union (union r s) t ≡ union (union r t) s
union_swap r s t = union_assoc r s t ∙ (ap (λ (x : Reasons). union r x) (union_comm s t) ∙ sym (union_assoc r t s))

pub any_more : (r s : Reasons) → is_any s ≡ true → is_any (union r s) ≡ true
any_more r s h = grind (arith, h)

pub not_any : (r : Reasons) → is_any r ≡ false → r ≡ no_reason
not_any r h = grind (arith, h)

-- ---- one member more

-- reasons of the member of one number
abbrev pub given : ℕ → Reasons → (ℕ → Reasons) → ℕ → Reasons
given k r f j = cond (j == k) (union (f j) r) (f j)

-- a list from after a number doesn't change
noted_alike : (f g : ℕ → Reasons) (i n : ℕ) → ((j : ℕ) → i ≤ j → f j ≡ g j) → noted_by f i n ≡ noted_by g i n
noted_alike f g i zero same = refl
noted_alike f g i (suc n) same = ap₂ (λ (r : Reasons) l. cond (is_any r) (record { member = record { 0 = i }; reasons = r } ∷ l) l) (same i (omega arith)) (noted_alike f g (suc i) n (λ j h. same j (omega (arith, h))))

-- all of it is after
add_front : (k : ℕ) (r : Reasons) (f : ℕ → Reasons) (i n : ℕ) → k < i → add k r (noted_by f i n) ≡ record { member = record { 0 = k }; reasons = r } ∷ noted_by f i n
add_front k r f i zero h = refl
add_front k r f i (suc n) h = by (is_any (f i)) (add_front k r f (suc i) n (omega (arith, h))) where
  by : (b : Bool) → add k r (noted_by f (suc i) n) ≡ record { member = record { 0 = k }; reasons = r } ∷ noted_by f (suc i) n
      → add k r (cond b (record { member = record { 0 = i }; reasons = f i } ∷ noted_by f (suc i) n) (noted_by f (suc i) n))
      ≡ record { member = record { 0 = k }; reasons = r } ∷ cond b (record { member = record { 0 = i }; reasons = f i } ∷ noted_by f (suc i) n) (noted_by f (suc i) n)
  by true rest =
      let a : nat_lt i k ≡ false = grind (arith, nat_tests, h) in
      let e : (i == k) ≡ false = grind (arith, nat_tests, h) in
      ap₂ (λ x y. cond x (record { member = record { 0 = i }; reasons = f i } ∷ add k r (noted_by f (suc i) n)) (cond y (record { member = record { 0 = k }; reasons = union (f i) r } ∷ noted_by f (suc i) n) (record { member = record { 0 = k }; reasons = r } ∷ record { member = record { 0 = i }; reasons = f i } ∷ noted_by f (suc i) n))) a e
  by false rest = rest

abbrev here : ℕ → Reasons → Mention
here j s = record { member = record { 0 = j }; reasons = s }

given_there : (k : ℕ) (r : Reasons) (f : ℕ → Reasons) → given k r f k ≡ union (f k) r
given_there k r f = ap (λ b. cond b (union (f k) r) (f k)) (let e : (k == k) ≡ true = grind (arith, nat_tests) in e)

given_apart : (k : ℕ) (r : Reasons) (f : ℕ → Reasons) (j : ℕ) → j ≢ k → given k r f j ≡ f j
given_apart k r f j h = ap (λ b. cond b (union (f j) r) (f j)) (let e : (j == k) ≡ false = grind (arith, nat_tests, h) in e)

-- the member stands here
add_here : (k : ℕ) (r : Reasons) (f : ℕ → Reasons) (n : ℕ) → is_any r ≡ true → (b : Bool) → is_any (f k) ≡ b
    → add k r (cond b (here k (f k) ∷ noted_by f (suc k) n) (noted_by f (suc k) n)) ≡ here k (given k r f k) ∷ noted_by (given k r f) (suc k) n
add_here k r f n any true is =
    let a : nat_lt k k ≡ false = grind (arith, nat_tests) in
    let e : (k == k) ≡ true = grind (arith, nat_tests) in
    ap₂ (λ x y. cond x (here k (f k) ∷ add k r (noted_by f (suc k) n)) (cond y (here k (union (f k) r) ∷ noted_by f (suc k) n) (here k r ∷ here k (f k) ∷ noted_by f (suc k) n))) a e
    ∙ ap₂ (λ s l. here k s ∷ l) (sym (given_there k r f)) (noted_alike f (given k r f) (suc k) n (λ j h. sym (given_apart k r f j (λ e. omega (arith, h, e)))))
add_here k r f n any false is =
    add_front k r f (suc k) n (omega arith)
    ∙ ap₂ (λ s l. here k s ∷ l) (sym (given_there k r f ∙ (ap (λ s. union s r) (not_any (f k) is) ∙ more_none r))) (noted_alike f (given k r f) (suc k) n (λ j h. sym (given_apart k r f j (λ e. omega (arith, h, e)))))

-- another stands here
add_there : (k : ℕ) (r : Reasons) (f : ℕ → Reasons) (i n : ℕ) → i < k → add k r (noted_by f (suc i) n) ≡ noted_by (given k r f) (suc i) n → (b : Bool)
    → add k r (cond b (here i (f i) ∷ noted_by f (suc i) n) (noted_by f (suc i) n)) ≡ cond b (here i (f i) ∷ noted_by (given k r f) (suc i) n) (noted_by (given k r f) (suc i) n)
add_there k r f i n h rest true =
    let a : nat_lt i k ≡ true = grind (arith, nat_tests, h) in
    ap (λ x. cond x (here i (f i) ∷ add k r (noted_by f (suc i) n)) (cond (i == k) (here k (union (f i) r) ∷ noted_by f (suc i) n) (here k r ∷ here i (f i) ∷ noted_by f (suc i) n))) a
    ∙ ap (λ l. here i (f i) ∷ l) rest
add_there k r f i n h rest false = rest

-- one member with reasons more
pub add_noted : (k : ℕ) (r : Reasons) (f : ℕ → Reasons) (i n : ℕ) → i ≤ k → k < i + n → is_any r ≡ true → add k r (noted_by f i n) ≡ noted_by (given k r f) i n
add_noted k r f i zero low high any = absurd (omega (arith, low, high))
add_noted k r f i (suc n) low high any = by (cases_eq i k) (λ h. add_noted k r f (suc i) n (omega (arith, low, h)) (omega (arith, high)) any) where
  by : (i ≡ k) ⊎ (i ≢ k) → (i ≢ k → add k r (noted_by f (suc i) n) ≡ noted_by (given k r f) (suc i) n) → add k r (noted_by f i (suc n)) ≡ noted_by (given k r f) i (suc n)
  by (inl e) rest = subst (λ j. add j r (noted_by f i (suc n)) ≡ noted_by (given j r f) i (suc n)) e
      (add_here i r f n any (is_any (f i)) refl
      ∙ ap (λ b. cond b (here i (given i r f i) ∷ noted_by (given i r f) (suc i) n) (noted_by (given i r f) (suc i) n)) (sym (ap is_any (given_there i r f) ∙ any_more (f i) r any)))
  by (inr e) rest = add_there k r f i n (omega (arith, low, e)) (rest e) (is_any (f i))
      ∙ ap (λ s. cond (is_any s) (here i s ∷ noted_by (given k r f) (suc i) n) (noted_by (given k r f) (suc i) n)) (sym (given_apart k r f i e))

-- ---- the members that touches name

-- a touch of member j of block b is among these
abbrev pub meets : ℕ → ℕ → List Touch → Bool
meets b j [] = false
meets b j (t ∷ ts) = ((t.block.0 == b) && (t.member.0 == j)) || meets b j ts

abbrev pub given_all : ℕ → Reasons → List Touch → (ℕ → Reasons) → ℕ → Reasons
given_all b r ts f j = cond (meets b j ts) (union (f j) r) (f j)

one_then_all : (b : ℕ) (r : Reasons) (t : Touch) (ts : List Touch) (f : ℕ → Reasons) (j : ℕ) → t.block.0 ≡ b
    → given_all b r ts (given t.member.0 r f) j ≡ given_all b r (t ∷ ts) f j
one_then_all b r t ts f j h = by (meets b j ts) (cases_eq t.member.0 j) where
  same : (t.block.0 == b) ≡ true
  same = grind (arith, nat_tests, h)

  by : (m : Bool) → (t.member.0 ≡ j) ⊎ (t.member.0 ≢ j)
      → cond m (union (cond (j == t.member.0) (union (f j) r) (f j)) r) (cond (j == t.member.0) (union (f j) r) (f j)) ≡ cond (((t.block.0 == b) && (t.member.0 == j)) || m) (union (f j) r) (f j)
  by m (inl e) =
      let x : (j == t.member.0) ≡ true = grind (arith, nat_tests, e) in
      let y : (t.member.0 == j) ≡ true = grind (arith, nat_tests, e) in
      ap (λ c. cond m (union (cond c (union (f j) r) (f j)) r) (cond c (union (f j) r) (f j))) x ∙ (at m ∙ ap₂ (λ c d. cond ((c && d) || m) (union (f j) r) (f j)) (sym same) (sym y))
    where
      at : (m : Bool) → cond m (union (union (f j) r) r) (union (f j) r) ≡ union (f j) r
      at true = union_same (f j) r
      at false = refl
  by m (inr e) =
      let x : (j == t.member.0) ≡ false = grind (arith, nat_tests, e) in
      let y : (t.member.0 == j) ≡ false = grind (arith, nat_tests, e) in
      ap (λ c. cond m (union (cond c (union (f j) r) (f j)) r) (cond c (union (f j) r) (f j))) x ∙ ap₂ (λ c d. cond ((c && d) || m) (union (f j) r) (f j)) (sym same) (sym y)

other_then_all : (b : ℕ) (r : Reasons) (t : Touch) (ts : List Touch) (f : ℕ → Reasons) (j : ℕ) → t.block.0 ≢ b → given_all b r ts f j ≡ given_all b r (t ∷ ts) f j
other_then_all b r t ts f j h = ap (λ c. cond ((c && (t.member.0 == j)) || meets b j ts) (union (f j) r) (f j)) (let e : false ≡ (t.block.0 == b) = grind (arith, nat_tests, h) in e)

pub touches_noted : (b : ℕ) (r : Reasons) (ts : List Touch) (f : ℕ → Reasons) (i n : ℕ) → InRange b i n ts → is_any r ≡ true → add_touches b r ts (noted_by f i n) ≡ noted_by (given_all b r ts f) i n
touches_noted b r [] f i n range any = refl
touches_noted b r (t ∷ ts) f i n range any = by (cases_eq t.block.0 b) (touches_noted b r ts (given t.member.0 r f) i n range.1 any) (touches_noted b r ts f i n range.1 any) where
  by : (t.block.0 ≡ b) ⊎ (t.block.0 ≢ b) → add_touches b r ts (noted_by (given t.member.0 r f) i n) ≡ noted_by (given_all b r ts (given t.member.0 r f)) i n
      → add_touches b r ts (noted_by f i n) ≡ noted_by (given_all b r ts f) i n → add_touches b r (t ∷ ts) (noted_by f i n) ≡ noted_by (given_all b r (t ∷ ts) f) i n
  by (inl e) rest _ =
      ap (λ c. add_touches b r ts (cond c (add t.member.0 r (noted_by f i n)) (noted_by f i n))) (let x : (t.block.0 == b) ≡ true = grind (arith, nat_tests, e) in x)
      ∙ (ap (add_touches b r ts) (add_noted t.member.0 r f i n (range.0 e).0 (range.0 e).1 any) ∙ (rest ∙ noted_alike (given_all b r ts (given t.member.0 r f)) (given_all b r (t ∷ ts) f) i n (λ j h. one_then_all b r t ts f j e)))
  by (inr e) _ rest =
      ap (λ c. add_touches b r ts (cond c (add t.member.0 r (noted_by f i n)) (noted_by f i n))) (let x : (t.block.0 == b) ≡ false = grind (arith, nat_tests, e) in x)
      ∙ (rest ∙ noted_alike (given_all b r ts f) (given_all b r (t ∷ ts) f) i n (λ j h. other_then_all b r t ts f j e))

-- ---- one change after another

abbrev pub given_changes : ℕ → Trg → List Touch → List Change → (ℕ → Reasons) → ℕ → Reasons
given_changes b trg all [] f j = f j
given_changes b trg all (ch ∷ chs) f j = given_changes b trg all chs (given_all b (reasons_by trg ch) (of_attr ch.attr.0 all) f) j

pub given_nothing : (b : ℕ) (r : Reasons) (ts : List Touch) (f : ℕ → Reasons) (j : ℕ) → is_any r ≡ false → f j ≡ given_all b r ts f j
given_nothing b r ts f j h = by (meets b j ts) where
  by : (m : Bool) → f j ≡ cond m (union (f j) r) (f j)
  by true = sym (ap (λ (x : Reasons). union (f j) x) (not_any r h) ∙ none_more (f j))
  by false = refl

pub change_noted : (b : ℕ) (trg : Trg) (all : List Touch) (ch : Change) (f : ℕ → Reasons) (i n : ℕ) → InRange b i n (of_attr ch.attr.0 all)
    → add_change b trg all ch (noted_by f i n) ≡ noted_by (given_all b (reasons_by trg ch) (of_attr ch.attr.0 all) f) i n
change_noted b trg all ch f i n range = by (is_any (reasons_by trg ch)) refl where
  by : (a : Bool) → is_any (reasons_by trg ch) ≡ a → cond a (add_touches b (reasons_by trg ch) (of_attr ch.attr.0 all) (noted_by f i n)) (noted_by f i n) ≡ noted_by (given_all b (reasons_by trg ch) (of_attr ch.attr.0 all) f) i n
  by true h = touches_noted b (reasons_by trg ch) (of_attr ch.attr.0 all) f i n range h
  by false h = noted_alike f (given_all b (reasons_by trg ch) (of_attr ch.attr.0 all) f) i n (λ j k. given_nothing b (reasons_by trg ch) (of_attr ch.attr.0 all) f j h)

pub changes_noted : (b : ℕ) (trg : Trg) (all : List Touch) (chs : List Change) (f : ℕ → Reasons) (i n : ℕ) → ((x : ℕ) → InRange b i n (of_attr x all))
    → add_changes b trg all chs (noted_by f i n) ≡ noted_by (given_changes b trg all chs f) i n
changes_noted b trg all [] f i n range = refl
changes_noted b trg all (ch ∷ chs) f i n range = ap (add_changes b trg all chs) (change_noted b trg all ch f i n (range ch.attr.0))
    ∙ changes_noted b trg all chs (given_all b (reasons_by trg ch) (of_attr ch.attr.0 all) f) i n range

-- ---- the reasons of a member's attributes, change by change

if_cond : {X : Type 0} (b : Bool) (x y : X) → (if b then x else y) ≡ cond b x y
if_cond true x y = refl
if_cond false x y = refl

-- what one change gives to a member that holds its attribute
abbrev pub gives_if : Bool → Reasons → Reasons
gives_if true r = r
gives_if false r = no_reason

found_or : (c : Bool) (ch : Change) (trg : Trg) (rest : Option Change) (h : Bool) (others : Reasons) → (c ≡ true → rest ≡ None)
    → union (unwrap_or (option_map (reasons_by trg) (if c then Some ch else rest)) no_reason) (union (gives_if h (reasons_by trg ch)) others)
    ≡ union (gives_if (c || h) (reasons_by trg ch)) (union (unwrap_or (option_map (reasons_by trg) rest) no_reason) others)
found_or true ch trg rest true others none =
    let r : Reasons = reasons_by trg ch in
    sym (union_assoc (reasons_by trg ch) (reasons_by trg ch) others) ∙ (ap (λ (x : Reasons). union x others) (union_self (reasons_by trg ch))
    ∙ ap (λ (x : Reasons). union (reasons_by trg ch) x) (sym (ap (λ o. union (unwrap_or (option_map (reasons_by trg) o) no_reason) others) (none refl) ∙ more_none others)))
found_or true ch trg rest false others none =
    ap (λ (x : Reasons). union (reasons_by trg ch) x) (more_none others ∙ sym (ap (λ o. union (unwrap_or (option_map (reasons_by trg) o) no_reason) others) (none refl) ∙ more_none others))
found_or false ch trg rest h others none =
    sym (union_assoc (unwrap_or (option_map (reasons_by trg) rest) no_reason) (gives_if h (reasons_by trg ch)) others)
    ∙ (ap (λ (x : Reasons). union x others) (union_comm (unwrap_or (option_map (reasons_by trg) rest) no_reason) (gives_if h (reasons_by trg ch)))
    ∙ union_assoc (gives_if h (reasons_by trg ch)) (unwrap_or (option_map (reasons_by trg) rest) no_reason) others)

pub reasons_more : (ch : Change) (chs : List Change) (trg : Trg) (xs : List AttrId) → change_of chs ch.attr ≡ None
    → reasons_in (ch ∷ chs) trg xs ≡ union (gives_if (holds ch.attr.0 xs) (reasons_by trg ch)) (reasons_in chs trg xs)
reasons_more ch chs trg [] none = sym (none_more no_reason)
reasons_more ch chs trg (x ∷ xs) none =
    ap (λ (s : Reasons). union (unwrap_or (option_map (reasons_by trg) (change_of (ch ∷ chs) x)) no_reason) s) (reasons_more ch chs trg xs none)
    ∙ (found_or (ch.attr.0 == x.0) ch trg (change_of chs x) (holds ch.attr.0 xs) (reasons_in chs trg xs) (λ same. ap (λ n. change_of chs (record { 0 = n })) (let e : x.0 ≡ ch.attr.0 = grind (arith, nat_tests, same) in e) ∙ none)
    ∙ ap (λ c. union (gives_if (c || holds ch.attr.0 xs) (reasons_by trg ch)) (reasons_in chs trg (x ∷ xs))) (let e : (ch.attr.0 == x.0) ≡ (x.0 == ch.attr.0) = grind (arith, nat_tests) in e))

give_cond : (m : Bool) (r s : Reasons) → cond m (union s r) s ≡ union s (gives_if m r)
give_cond true r s = refl
give_cond false r s = sym (none_more s)

pub given_reasons : (b : ℕ) (trg : Trg) (all : List Touch) (xs : List AttrId) (j : ℕ) → ((x : ℕ) → meets b j (of_attr x all) ≡ holds x xs)
    → (chs : List Change) (f : ℕ → Reasons) → AreOnce chs → given_changes b trg all chs f j ≡ union (f j) (reasons_in chs trg xs)
given_reasons b trg all xs j met [] f once = sym (nothing_in xs (f j)) where
  nothing : (xs : List AttrId) → reasons_in [] trg xs ≡ no_reason
  nothing [] = refl
  nothing (x ∷ xs) = ap (λ (s : Reasons). union no_reason s) (nothing xs)

  nothing_in : (xs : List AttrId) (r : Reasons) → union r (reasons_in [] trg xs) ≡ r
  nothing_in xs r = ap (λ (s : Reasons). union r s) (nothing xs) ∙ none_more r
given_reasons b trg all xs j met (ch ∷ chs) f once =
    given_reasons b trg all xs j met chs (given_all b (reasons_by trg ch) (of_attr ch.attr.0 all) f) once.1
    ∙ (ap (λ c. union (cond c (union (f j) (reasons_by trg ch)) (f j)) (reasons_in chs trg xs)) (met ch.attr.0)
    ∙ (ap (λ (s : Reasons). union s (reasons_in chs trg xs)) (give_cond (holds ch.attr.0 xs) (reasons_by trg ch) (f j))
    ∙ (union_assoc (f j) (gives_if (holds ch.attr.0 xs) (reasons_by trg ch)) (reasons_in chs trg xs)
    ∙ ap (λ (s : Reasons). union (f j) s) (sym (reasons_more ch chs trg xs once.0)))))

-- ---- the members of a set

-- the attributes of member j of those numbered from i on
abbrev pub attrs_from : ℕ → List MemberShape → ℕ → List AttrId
attrs_from i [] j = []
attrs_from i (m ∷ ms) j = cond (j == i) m.attrs (attrs_from (suc i) ms j)

attrs_before : (i : ℕ) (ms : List MemberShape) (j : ℕ) → j < i → attrs_from i ms j ≡ []
attrs_before i [] j h = refl
attrs_before i (m ∷ ms) j h = ap (λ c. cond c m.attrs (attrs_from (suc i) ms j)) (let e : (j == i) ≡ false = grind (arith, nat_tests, h) in e) ∙ attrs_before (suc i) ms j (omega (arith, h))

attrs_here : (i : ℕ) (m : MemberShape) (ms : List MemberShape) → attrs_from i (m ∷ ms) i ≡ m.attrs
attrs_here i m ms = ap (λ c. cond c m.attrs (attrs_from (suc i) ms i)) (let e : (i == i) ≡ true = grind (arith, nat_tests) in e)

attrs_later : (i : ℕ) (m : MemberShape) (ms : List MemberShape) (j : ℕ) → suc i ≤ j → attrs_from i (m ∷ ms) j ≡ attrs_from (suc i) ms j
attrs_later i m ms j h = ap (λ c. cond c m.attrs (attrs_from (suc i) ms j)) (let e : (j == i) ≡ false = grind (arith, nat_tests, h) in e)

pub noted_members : (chs : List Change) (trg : Trg) (i : ℕ) (ms : List MemberShape) → noted chs trg i ms ≡ noted_by (λ j. reasons_in chs trg (attrs_from i ms j)) i (length ms)
noted_members chs trg i [] = refl
noted_members chs trg i (m ∷ ms) = by (is_any (reasons_in chs trg m.attrs)) refl (noted_members chs trg (suc i) ms
    ∙ noted_alike (λ j. reasons_in chs trg (attrs_from (suc i) ms j)) (λ j. reasons_in chs trg (attrs_from i (m ∷ ms) j)) (suc i) (length ms) (λ j h. ap (reasons_in chs trg) (sym (attrs_later i m ms j h)))) where
      f : ℕ → Reasons
      f j = reasons_in chs trg (attrs_from i (m ∷ ms) j)

      by : (a : Bool) → is_any (reasons_in chs trg m.attrs) ≡ a → noted chs trg (suc i) ms ≡ noted_by (λ j. reasons_in chs trg (attrs_from i (m ∷ ms) j)) (suc i) (length ms)
          → (if a then record { member = record { 0 = i }; reasons = reasons_in chs trg m.attrs } ∷ [] else []) ++ noted chs trg (suc i) ms
          ≡ cond (is_any (reasons_in chs trg (attrs_from i (m ∷ ms) i))) (record { member = record { 0 = i }; reasons = reasons_in chs trg (attrs_from i (m ∷ ms) i) } ∷ noted_by (λ j. reasons_in chs trg (attrs_from i (m ∷ ms) j)) (suc i) (length ms)) (noted_by (λ j. reasons_in chs trg (attrs_from i (m ∷ ms) j)) (suc i) (length ms))
      by true h rest = ap₂ (λ (r : Reasons) l. here i r ∷ l) (sym (ap (reasons_in chs trg) (attrs_here i m ms))) rest
          ∙ ap (λ c. cond c (here i (reasons_in chs trg (attrs_from i (m ∷ ms) i)) ∷ noted_by (λ j. reasons_in chs trg (attrs_from i (m ∷ ms) j)) (suc i) (length ms)) (noted_by (λ j. reasons_in chs trg (attrs_from i (m ∷ ms) j)) (suc i) (length ms)))
          (sym (ap (λ l. is_any (reasons_in chs trg l)) (attrs_here i m ms) ∙ h))
      by false h rest = rest
          ∙ ap (λ c. cond c (here i (reasons_in chs trg (attrs_from i (m ∷ ms) i)) ∷ noted_by (λ j. reasons_in chs trg (attrs_from i (m ∷ ms) j)) (suc i) (length ms)) (noted_by (λ j. reasons_in chs trg (attrs_from i (m ∷ ms) j)) (suc i) (length ms)))
          (sym (ap (λ l. is_any (reasons_in chs trg l)) (attrs_here i m ms) ∙ h))

-- ---- the touches of an attribute name the members that hold it

meets_append : (b j : ℕ) (xs ys : List Touch) → meets b j (xs ++ ys) ≡ (meets b j xs || meets b j ys)
meets_append b j [] ys = refl
meets_append b j (t ∷ ts) ys = ap (λ c. ((t.block.0 == b) && (t.member.0 == j)) || c) (meets_append b j ts ys) ∙ sym (or-group ((t.block.0 == b) && (t.member.0 == j)) (meets b j ts) (meets b j ys))

meets_of : (b i j x : ℕ) (xs : List AttrId) → meets b j (of_attr x (touches_of b i xs)) ≡ (holds x xs && (j == i))
meets_of b i j x [] = refl
meets_of b i j x (y ∷ ys) = by (y.0 == x) (meets_of b i j x ys) where
  by : (c : Bool) → meets b j (of_attr x (touches_of b i ys)) ≡ (holds x ys && (j == i))
      → meets b j (cond c (record { attr = y; block = record { 0 = b }; member = record { 0 = i } } ∷ of_attr x (touches_of b i ys)) (of_attr x (touches_of b i ys))) ≡ ((c || holds x ys) && (j == i))
  by false rest = rest
  by true rest =
      let e : (b == b) ≡ true = grind (arith, nat_tests) in
      let g : (i == j) ≡ (j == i) = grind (arith, nat_tests) in
      ap₂ (λ p q. (p && q) || meets b j (of_attr x (touches_of b i ys))) e g ∙ (ap (λ q. (j == i) || q) rest ∙ at (j == i) (holds x ys))
    where
      at : (p h : Bool) → (p || (h && p)) ≡ p
      at true h = refl
      at false true = refl
      at false false = refl

pub meets_from : (b i j x : ℕ) (ms : List MemberShape) → meets b j (of_attr x (touches_from b i ms)) ≡ holds x (attrs_from i ms j)
meets_from b i j x [] = refl
meets_from b i j x (m ∷ ms) =
    ap (meets b j) (filter-append (λ (t : Touch). t.attr.0 == x) (touches_of b i m.attrs) (touches_from b (suc i) ms))
    ∙ (meets_append b j (of_attr x (touches_of b i m.attrs)) (of_attr x (touches_from b (suc i) ms))
    ∙ (ap₂ (λ p q. p || q) (meets_of b i j x m.attrs) (meets_from b (suc i) j x ms) ∙ by (cases_eq j i))) where
      by : (j ≡ i) ⊎ (j ≢ i) → ((holds x m.attrs && (j == i)) || holds x (attrs_from (suc i) ms j)) ≡ holds x (cond (j == i) m.attrs (attrs_from (suc i) ms j))
      by (inl e) =
          let g : (j == i) ≡ true = grind (arith, nat_tests, e) in
          ap₂ (λ c l. (holds x m.attrs && c) || holds x l) g (attrs_before (suc i) ms j (omega (arith, e))) ∙ (at (holds x m.attrs) ∙ ap (λ c. holds x (cond c m.attrs (attrs_from (suc i) ms j))) (sym g))
        where
          at : (h : Bool) → ((h && true) || false) ≡ h
          at true = refl
          at false = refl
      by (inr e) =
          let g : (j == i) ≡ false = grind (arith, nat_tests, e) in
          ap (λ c. (holds x m.attrs && c) || holds x (attrs_from (suc i) ms j)) g ∙ (at (holds x m.attrs) ∙ ap (λ c. holds x (cond c m.attrs (attrs_from (suc i) ms j))) (sym g))
        where
          at : (h : Bool) → ((h && false) || holds x (attrs_from (suc i) ms j)) ≡ holds x (attrs_from (suc i) ms j)
          at true = refl
          at false = refl

-- ---- of all blocks' touches, those of one block

apart : (b j k x : ℕ) (ts : List Touch) → k ≢ b → All (λ (t : Touch). t.block.0 ≡ k) ts → meets b j (of_attr x ts) ≡ false
apart b j k x [] h own = refl
apart b j k x (t ∷ ts) h own = by (t.attr.0 == x) (apart b j k x ts h (λ i d l. own (suc i) d (omega (arith, l)))) where
  by : (c : Bool) → meets b j (of_attr x ts) ≡ false → meets b j (cond c (t ∷ of_attr x ts) (of_attr x ts)) ≡ false
  by true rest = ap₂ (λ p q. (p && (t.member.0 == j)) || q) (let e : (t.block.0 == b) ≡ false = grind (arith, nat_tests, h, own 0 t (omega arith)) in e) rest
  by false rest = rest

all_apart : (b j k x : ℕ) (bs : List (Filled Touch)) → b < k → IsOwnedFrom k bs → meets b j (of_attr x (touches_in bs)) ≡ false
all_apart b j k x [] h own = refl
all_apart b j k x (f ∷ bs) h own = ap (meets b j) (filter-append (λ (t : Touch). t.attr.0 == x) f.items (touches_in bs))
    ∙ (meets_append b j (of_attr x f.items) (of_attr x (touches_in bs)) ∙ ap₂ (λ p q. p || q) (apart b j k x f.items (λ e. omega (arith, e, h)) own.0) (all_apart b j (suc k) x bs (omega (arith, h)) own.1))

pub meets_block : (b k x j : ℕ) (bs : List (Filled Touch)) → IsOwnedFrom k bs → meets (k + b) j (of_attr x (touches_in bs)) ≡ meets (k + b) j (of_attr x (block_at bs b).items)
meets_block b k x j [] own = refl
meets_block zero k x j (f ∷ bs) own = ap (meets (k + 0) j) (filter-append (λ (t : Touch). t.attr.0 == x) f.items (touches_in bs))
    ∙ (meets_append (k + 0) j (of_attr x f.items) (of_attr x (touches_in bs))
    ∙ (ap (λ q. meets (k + 0) j (of_attr x f.items) || q) (all_apart (k + 0) j (suc k) x bs (omega arith) own.1) ∙ or-none (meets (k + 0) j (of_attr x f.items))))
meets_block (suc b) k x j (f ∷ bs) own = ap (meets (k + suc b) j) (filter-append (λ (t : Touch). t.attr.0 == x) f.items (touches_in bs))
    ∙ (meets_append (k + suc b) j (of_attr x f.items) (of_attr x (touches_in bs))
    ∙ (ap (λ p. p || meets (k + suc b) j (of_attr x (touches_in bs))) (apart (k + suc b) j k x f.items (λ e. omega (arith, e)) own.0)
    ∙ subst (λ c. meets c j (of_attr x (touches_in bs)) ≡ meets c j (of_attr x (block_at bs b).items)) (let e : suc k + b ≡ k + suc b = omega arith in e) (meets_block b (suc k) x j bs own.1)))

-- ---- the members that touches name are those of the set

range_append : (b i n : ℕ) (xs ys : List Touch) → InRange b i n xs → InRange b i n ys → InRange b i n (xs ++ ys)
range_append b i n [] ys f g = g
range_append b i n (t ∷ ts) ys f g = (f.0, range_append b i n ts ys f.1 g)

range_apart : (b i n k x : ℕ) (ts : List Touch) → k ≢ b → All (λ (t : Touch). t.block.0 ≡ k) ts → InRange b i n (of_attr x ts)
range_apart b i n k x [] h own = tt
range_apart b i n k x (t ∷ ts) h own = by (t.attr.0 == x) (range_apart b i n k x ts h (λ j d l. own (suc j) d (omega (arith, l)))) where
  by : (c : Bool) → InRange b i n (of_attr x ts) → InRange b i n (cond c (t ∷ of_attr x ts) (of_attr x ts))
  by true rest = ((λ e. absurd (h (sym (own 0 t (omega arith)) ∙ e))), rest)
  by false rest = rest

range_member : (b low n i x : ℕ) (xs : List AttrId) → low ≤ i → i < low + n → InRange b low n (of_attr x (touches_of b i xs))
range_member b low n i x [] f g = tt
range_member b low n i x (y ∷ ys) f g = by (y.0 == x) (range_member b low n i x ys f g) where
  by : (c : Bool) → InRange b low n (of_attr x (touches_of b i ys)) → InRange b low n (cond c (record { attr = y; block = record { 0 = b }; member = record { 0 = i } } ∷ of_attr x (touches_of b i ys)) (of_attr x (touches_of b i ys)))
  by true rest = ((λ e. (f, g)), rest)
  by false rest = rest

range_members : (b low n i x : ℕ) (ms : List MemberShape) → low ≤ i → i + length ms ≤ low + n → InRange b low n (of_attr x (touches_from b i ms))
range_members b low n i x [] f g = tt
range_members b low n i x (m ∷ ms) f g = subst (InRange b low n) (sym (filter-append (λ (t : Touch). t.attr.0 == x) (touches_of b i m.attrs) (touches_from b (suc i) ms)))
    (range_append b low n (of_attr x (touches_of b i m.attrs)) (of_attr x (touches_from b (suc i) ms)) (range_member b low n i x m.attrs f (omega (arith, g))) (range_members b low n (suc i) x ms (omega (arith, f)) (omega (arith, g))))

range_all_apart : (b i n k x : ℕ) (bs : List (Filled Touch)) → b < k → IsOwnedFrom k bs → InRange b i n (of_attr x (touches_in bs))
range_all_apart b i n k x [] h own = tt
range_all_apart b i n k x (f ∷ bs) h own = subst (InRange b i n) (sym (filter-append (λ (t : Touch). t.attr.0 == x) f.items (touches_in bs)))
    (range_append b i n (of_attr x f.items) (of_attr x (touches_in bs)) (range_apart b i n k x f.items (λ e. omega (arith, e, h)) own.0) (range_all_apart b i n (suc k) x bs (omega (arith, h)) own.1))

range_block : (b k i n x : ℕ) (bs : List (Filled Touch)) → IsOwnedFrom k bs → InRange (k + b) i n (of_attr x (block_at bs b).items) → InRange (k + b) i n (of_attr x (touches_in bs))
range_block b k i n x [] own these = tt
range_block zero k i n x (f ∷ bs) own these = subst (InRange (k + 0) i n) (sym (filter-append (λ (t : Touch). t.attr.0 == x) f.items (touches_in bs)))
    (range_append (k + 0) i n (of_attr x f.items) (of_attr x (touches_in bs)) these (range_all_apart (k + 0) i n (suc k) x bs (omega arith) own.1))
range_block (suc b) k i n x (f ∷ bs) own these = subst (InRange (k + suc b) i n) (sym (filter-append (λ (t : Touch). t.attr.0 == x) f.items (touches_in bs)))
    (range_append (k + suc b) i n (of_attr x f.items) (of_attr x (touches_in bs)) (range_apart (k + suc b) i n k x f.items (λ e. omega (arith, e)) own.0)
    (let e : suc k + b ≡ k + suc b = omega arith in
    subst (λ c. InRange c i n (of_attr x (touches_in bs))) e (range_block b (suc k) i n x bs own.1 (subst (λ c. InRange c i n (of_attr x (block_at bs b).items)) (sym e) these))))

-- ---- the whole

pub range_of : (bs : List (Filled Touch)) (b x : ℕ) (ms : List MemberShape) → IsOwnedFrom 0 bs → IsSetOf bs b ms → InRange b 1 (length ms) (of_attr x (touches_in bs))
range_of bs b x ms own is =
    let e : 0 + b ≡ b = omega arith in
    subst (λ c. InRange c 1 (length ms) (of_attr x (touches_in bs))) e (range_block b 0 1 (length ms) x bs own
    (subst (λ c. InRange c 1 (length ms) (of_attr x (block_at bs b).items)) (sym e) (subst (λ l. InRange b 1 (length ms) (of_attr x l)) (sym is) (range_members b 1 (length ms) 1 x ms (omega arith) (omega arith)))))

pub met_of : (bs : List (Filled Touch)) (b x j : ℕ) (ms : List MemberShape) → IsOwnedFrom 0 bs → IsSetOf bs b ms → meets b j (of_attr x (touches_in bs)) ≡ holds x (attrs_from 1 ms j)
met_of bs b x j ms own is =
    let e : 0 + b ≡ b = omega arith in
    subst (λ c. meets c j (of_attr x (touches_in bs)) ≡ meets c j (of_attr x (block_at bs b).items)) e (meets_block b 0 x j bs own)
    ∙ (ap (λ l. meets b j (of_attr x l)) is ∙ meets_from b 1 j x ms)

pub noted_none : (i n : ℕ) → noted_by (λ j. no_reason) i n ≡ []
noted_none i zero = refl
noted_none i (suc n) = noted_none (suc i) n

-- what is gathered from the touches is what is noted of the members
pub gathered_is_noted : (bs : List (Filled Touch)) (b : ℕ) (trg : Trg) (chs : List Change) (ms : List MemberShape) → IsOwnedFrom 0 bs → IsSetOf bs b ms → AreOnce chs
    → add_changes b trg (touches_in bs) chs [] ≡ noted chs trg 1 ms
gathered_is_noted bs b trg chs ms own is once =
    ap (add_changes b trg (touches_in bs) chs) (sym (noted_none 1 (length ms)))
    ∙ (changes_noted b trg (touches_in bs) chs (λ j. no_reason) 1 (length ms) (λ x. range_of bs b x ms own is)
    ∙ (noted_alike (given_changes b trg (touches_in bs) chs (λ j. no_reason)) (λ j. reasons_in chs trg (attrs_from 1 ms j)) 1 (length ms)
    (λ j h. given_reasons b trg (touches_in bs) (attrs_from 1 ms j) j (λ x. met_of bs b x j ms own is) chs (λ k. no_reason) once ∙ more_none (reasons_in chs trg (attrs_from 1 ms j)))
    ∙ sym (noted_members chs trg 1 ms)))

-- ---- a change in front of others

no_reason_in : (trg : Trg) (xs : List AttrId) → reasons_in [] trg xs ≡ no_reason
no_reason_in trg [] = refl
no_reason_in trg (x ∷ xs) = ap (λ (s : Reasons). union no_reason s) (no_reason_in trg xs)

pub noted_nothing : (trg : Trg) (i : ℕ) (ms : List MemberShape) → noted [] trg i ms ≡ []
noted_nothing trg i [] = refl
noted_nothing trg i (m ∷ ms) = ap (λ (r : Reasons). (if is_any r then here i r ∷ [] else []) ++ noted [] trg (suc i) ms) (no_reason_in trg m.attrs) ∙ noted_nothing trg (suc i) ms

pub once_behind : (chs : List Change) (k : ℕ) (d : Change) → k < length chs → AreOnce chs → change_of (drop (suc k) chs) (get_or chs k d).attr ≡ None
once_behind [] k d h once = absurd (omega (arith, h))
once_behind (ch ∷ chs) zero d h once = once.0
once_behind (ch ∷ chs) (suc k) d h once = once_behind chs k d (omega (arith, h)) once.1

-- it is noted with them
pub noted_in_front : (bs : List (Filled Touch)) (b : ℕ) (trg : Trg) (ch : Change) (chs : List Change) (ms : List MemberShape) → IsOwnedFrom 0 bs → IsSetOf bs b ms → change_of chs ch.attr ≡ None
    → add_change b trg (touches_in bs) ch (noted chs trg 1 ms) ≡ noted (ch ∷ chs) trg 1 ms
noted_in_front bs b trg ch chs ms own is none =
    let f : ℕ → Reasons = λ j. reasons_in chs trg (attrs_from 1 ms j) in
    let more : (j : ℕ) → given_all b (reasons_by trg ch) (of_attr ch.attr.0 (touches_in bs)) f j ≡ reasons_in (ch ∷ chs) trg (attrs_from 1 ms j) = λ j.
    ap (λ c. cond c (union (f j) (reasons_by trg ch)) (f j)) (met_of bs b ch.attr.0 j ms own is)
    ∙ (give_cond (holds ch.attr.0 (attrs_from 1 ms j)) (reasons_by trg ch) (f j)
    ∙ (union_comm (f j) (gives_if (holds ch.attr.0 (attrs_from 1 ms j)) (reasons_by trg ch)) ∙ sym (reasons_more ch chs trg (attrs_from 1 ms j) none))) in
    ap (add_change b trg (touches_in bs) ch) (noted_members chs trg 1 ms)
    ∙ (change_noted b trg (touches_in bs) ch f 1 (length ms) (range_of bs b ch.attr.0 ms own is)
    ∙ (noted_alike (given_all b (reasons_by trg ch) (of_attr ch.attr.0 (touches_in bs)) f) (λ j. reasons_in (ch ∷ chs) trg (attrs_from 1 ms j)) 1 (length ms) (λ j h. more j)
    ∙ sym (noted_members (ch ∷ chs) trg 1 ms)))

pub noted_few : (f : ℕ → Reasons) (i n : ℕ) → length (noted_by f i n) ≤ n
noted_few f i zero = omega arith
noted_few f i (suc n) = by (is_any (f i)) (noted_few f (suc i) n) where
  by : (c : Bool) → length (noted_by f (suc i) n) ≤ n → length (cond c (here i (f i) ∷ noted_by f (suc i) n) (noted_by f (suc i) n)) ≤ suc n
  by true h = omega (arith, h)
  by false h = omega (arith, h)

-- ---- memory

-- one touch more
pub next_fits : (b : ℕ) (r : Reasons) (t : Touch) (ms : List Mention) (f : ℕ → Reasons) (i n : ℕ) → ms ≡ noted_by f i n → (t.block.0 ≡ b → (i ≤ t.member.0) × (t.member.0 < i + n)) → is_any r ≡ true → t.block.0 ≡ b
    → (g : ℕ → Reasons) × (add t.member.0 r ms ≡ noted_by g i n)
next_fits b r t ms f i n is range any same = (given t.member.0 r f, ap (add t.member.0 r) is ∙ add_noted t.member.0 r f i n (range same).0 (range same).1 any)

pub range_at : (b i n k : ℕ) (ts : List Touch) (d : Touch) → k < length ts → InRange b i n ts → (get_or ts k d).block.0 ≡ b → (i ≤ (get_or ts k d).member.0) × ((get_or ts k d).member.0 < i + n)
range_at b i n k [] d h range = absurd (omega (arith, h))
range_at b i n zero (t ∷ ts) d h range = range.0
range_at b i n (suc k) (t ∷ ts) d h range = range_at b i n k ts d (omega (arith, h)) range.1

-- ---- the steps of the loops

pub touches_step : (b : ℕ) (r : Reasons) (ts : List Touch) (k : ℕ) (ms : List Mention) → k < length ts
    → add_touches b r (drop k ts) ms ≡ add_touches b r (drop (k + 1) ts) (cond ((get_or ts k no_touch).block.0 == b) (add (get_or ts k no_touch).member.0 r ms) ms)
touches_step b r ts k ms h = ap (λ l. add_touches b r l ms) (drop_more ts k no_touch h)

pub changes_step : (b : ℕ) (trg : Trg) (all : List Touch) (chs : List Change) (k : ℕ) (d : Change) (ms : List Mention) → k < length chs
    → add_changes b trg all (drop k chs) ms ≡ add_changes b trg all (drop (k + 1) chs) (add_change b trg all (get_or chs k d) ms)
changes_step b trg all chs k d ms h = ap (λ l. add_changes b trg all l ms) (drop_more chs k d h)

-- there is capacity for the touch that comes next
pub touch_fits : (b : ℕ) (r : Reasons) (ts : List Touch) (k : ℕ) (ms : List Mention) (i n room : ℕ) → k < length ts → (get_or ts k no_touch).block.0 ≡ b → is_any r ≡ true → InRange b i n ts → n ≤ room
    → (g : ℕ → Reasons) × (ms ≡ noted_by g i n) → length (add (get_or ts k no_touch).member.0 r ms) ≤ room
touch_fits b r ts k ms i n room h same any range few some =
    let next = next_fits b r (get_or ts k no_touch) ms some.0 i n some.1 (range_at b i n k ts no_touch h range) any same in
    omega (arith, ap length next.1, noted_few next.0 i n, few)

-- ---- blocks that no change touches

skip_touches : (b : ℕ) (r : Reasons) (ts : List Touch) (ms : List Mention) → NoneOf b ts → add_touches b r ts ms ≡ ms
skip_touches b r [] ms none = refl
skip_touches b r (t ∷ ts) ms none = ap (λ c. add_touches b r ts (cond c (add t.member.0 r ms) ms)) (let e : (t.block.0 == b) ≡ false = grind (arith, nat_tests, none.0) in e) ∙ skip_touches b r ts ms none.1

skip_change : (b : ℕ) (trg : Trg) (all : List Touch) (ch : Change) (ms : List Mention) → NoneOf b (of_attr ch.attr.0 all) → add_change b trg all ch ms ≡ ms
skip_change b trg all ch ms none = by (is_any (reasons_by trg ch)) where
  by : (c : Bool) → cond c (add_touches b (reasons_by trg ch) (of_attr ch.attr.0 all) ms) ms ≡ ms
  by true = skip_touches b (reasons_by trg ch) (of_attr ch.attr.0 all) ms none
  by false = refl

skip_changes : (b : ℕ) (trg : Trg) (all : List Touch) (chs : List Change) (ms : List Mention) → AreApart b all chs → add_changes b trg all chs ms ≡ ms
skip_changes b trg all [] ms apart = refl
skip_changes b trg all (ch ∷ chs) ms apart = ap (add_changes b trg all chs) (skip_change b trg all ch ms apart.0) ∙ skip_changes b trg all chs ms apart.1

pub apart_is_quiet : (bs : List (Filled Touch)) (b : ℕ) (trg : Trg) (chs : List Change) (ms : List MemberShape) → IsOwnedFrom 0 bs → IsSetOf bs b ms → AreOnce chs → AreApart b (touches_in bs) chs → noted chs trg 1 ms ≡ []
apart_is_quiet bs b trg chs ms own is once apart = sym (gathered_is_noted bs b trg chs ms own is once) ∙ skip_changes b trg (touches_in bs) chs [] apart

-- ---- changes of which no two are of one attribute

none_found : (x : AttrId) (chs : List Change) → ((j : ℕ) (d : Change) → j < length chs → (get_or chs j d).attr.0 ≢ x.0) → change_of chs x ≡ None
none_found x [] no_one = refl
none_found x (ch ∷ chs) no_one = ap (λ c. if c then Some ch else change_of chs x) (let e : (ch.attr.0 == x.0) ≡ false = grind (arith, nat_tests, no_one 0 ch (omega arith)) in e) ∙ none_found x chs (λ j d h. no_one (suc j) d (omega (arith, h)))

pub once_where_distinct : (chs : List Change) → ((k j : ℕ) (d : Change) → k < j → j < length chs → (get_or chs k d).attr.0 ≢ (get_or chs j d).attr.0) → AreOnce chs
once_where_distinct [] distinct = tt
once_where_distinct (ch ∷ chs) distinct = (none_found ch.attr chs (λ j d h e. distinct 0 (suc j) d (omega arith) (omega (arith, h)) (sym e)), once_where_distinct chs (λ k j d h l. distinct (suc k) (suc j) d (omega (arith, h)) (omega (arith, l))))
