-- Truth values: what an "or", an "and" and a "not" say of their parts.
use Rattle.std.proofs.Common.{◌≡◌, Bool, true, false, not, ◌&&◌, ◌||◌, refl, sym, ◌∙◌, true≢false}

-- ---- one of two

pub or-left : (a b : Bool) → (a || b) ≡ false → a ≡ false
or-left true b h = h
or-left false b h = refl

pub or-right : (a b : Bool) → (a || b) ≡ false → b ≡ false
or-right true b h = absurd (true≢false h)
or-right false b h = h

pub or-none : (a : Bool) → (a || false) ≡ a
or-none true = refl
or-none false = refl

pub or-all : (a : Bool) → (a || true) ≡ true
or-all true = refl
or-all false = refl

pub or-group : (a b c : Bool) → ((a || b) || c) ≡ (a || (b || c))
or-group true b c = refl
or-group false b c = refl

pub or-turn : (a b c : Bool) → (a || (b || c)) ≡ (b || (a || c))
or-turn true true c = refl
or-turn true false c = refl
or-turn false b c = refl

pub or-pairs : (a b c d : Bool) → ((a || b) || (c || d)) ≡ ((a || c) || (b || d))
or-pairs true b c d = refl
or-pairs false true true d = refl
or-pairs false true false d = refl
or-pairs false false c d = refl

-- ---- both of two

pub and-left : (a b : Bool) → (a && b) ≡ true → a ≡ true
and-left true b h = refl
and-left false b h = h

pub and-right : (a b : Bool) → (a && b) ≡ true → b ≡ true
and-right true b h = h
and-right false b h = absurd (true≢false (sym h))

pub and-both : (a b : Bool) → (a && b) ≡ true → (a ≡ true) × (b ≡ true)
and-both a b h = (and-left a b h, and-right a b h)

pub and-false : (a : Bool) → (a && false) ≡ false
and-false true = refl
and-false false = refl

pub and-none : (a b : Bool) → (a && b && false) ≡ false
and-none true true = refl
and-none true false = refl
and-none false b = refl

-- ---- one alone

pub not-false : (a : Bool) → not a ≡ false → a ≡ true
not-false true h = refl
not-false false h = absurd (true≢false h)

pub not-true : (a : Bool) → not a ≡ true → a ≡ false
not-true true h = absurd (true≢false (sym h))
not-true false h = refl

pub never-both : (a : Bool) → a ≡ true → a ≡ false → ⊥
never-both a h k = true≢false (sym h ∙ k)

pub never : {A : Type 0} → false ≡ true → A
never h = absurd (true≢false (sym h))

-- ---- two that follow from each other

pub both-ways : (a b : Bool) → (a ≡ true → b ≡ true) → (b ≡ true → a ≡ true) → a ≡ b
both-ways true b h k = sym (h refl)
both-ways false true h k = k refl
both-ways false false h k = refl

pub fails-back : (a b : Bool) → (a ≡ true → b ≡ true) → b ≡ false → a ≡ false
fails-back true b go off = sym (go refl) ∙ off
fails-back false b go off = refl
