-- What is read of octets doesn't depend on where they lie.
use Rattle.std.proofs.Common.{◌≡◌, ℕ, ◌+◌, Bool, true, false, cond, eqb, List, [], ◌∷◌, length, Option, Some, None, Result, Ok, Err, refl, ap}
use Rattle.ber_grammar.specs.Element.{Element}
use Rattle.ber_grammar.specs.Place.{Piece, Spot, placed, content_piece}
use Rattle.ber_grammar.specs.Reader.{◌>>=◌, and_then, kept}
use Rattle.ber_grammar.specs.Rows.{parts_at, single}
use Rattle.ber_grammar.specs.Steps.{required}
use Rattle.ber_grammar.specs.Fields.{spot_in, fields_in, only_in, with_tag, only_with, first_with, field_with, whole_at, whole_in}

-- ---- alike: the same but for places

abbrev pub Maybe : {A : Type 0} → (A → A → Type 0) → Option A → Option A → Type 0
Maybe Alike None None = Unit {0}
Maybe Alike None (Some y) = ⊥
Maybe Alike (Some x) None = ⊥
Maybe Alike (Some x) (Some y) = Alike x y

abbrev pub Both : {A F : Type 0} → (A → A → Type 0) → Result A F → Result A F → Type 0
Both Alike (Ok x) (Ok y) = Alike x y
Both Alike (Ok x) (Err g) = ⊥
Both Alike (Err f) (Ok y) = ⊥
Both Alike (Err f) (Err g) = f ≡ g

abbrev pub Parts : Piece → Piece → Type 0
Parts p q = p.octets ≡ q.octets

abbrev pub Spots : Spot → Spot → Type 0
Spots s t = s.element ≡ t.element

abbrev pub Rows : List Spot → List Spot → Type 0
Rows [] [] = Unit {0}
Rows [] (t ∷ ts) = ⊥
Rows (s ∷ ss) [] = ⊥
Rows (s ∷ ss) (t ∷ ts) = Spots s t × Rows ss ts

-- ---- steps

pub then_maybe : {A B : Type 0} (P : A → A → Type 0) (Q : B → B → Type 0) (o u : Option A) (f g : A → Option B) → Maybe P o u → ((x y : A) → P x y → Maybe Q (f x) (g y)) → Maybe Q (and_then o f) (and_then u g)
then_maybe P Q None None f g h step = tt
then_maybe P Q None (Some y) f g h step = absurd h
then_maybe P Q (Some x) None f g h step = absurd h
then_maybe P Q (Some x) (Some y) f g h step = step x y h

pub then_same : {A B : Type 0} (P : A → A → Type 0) (o u : Option A) (f g : A → Option B) → Maybe P o u → ((x y : A) → P x y → f x ≡ g y) → and_then o f ≡ and_then u g
then_same P None None f g h step = refl
then_same P None (Some y) f g h step = absurd h
then_same P (Some x) None f g h step = absurd h
then_same P (Some x) (Some y) f g h step = step x y h

pub is_required : {A F : Type 0} (P : A → A → Type 0) (fault : F) (o u : Option A) → Maybe P o u → Both P (required fault o) (required fault u)
is_required P fault None None h = refl
is_required P fault None (Some y) h = absurd h
is_required P fault (Some x) None h = absurd h
is_required P fault (Some x) (Some y) h = h

pub then_both : {A B F : Type 0} (P : A → A → Type 0) (Q : B → B → Type 0) (r s : Result A F) (f g : A → Result B F) → Both P r s → ((x y : A) → P x y → Both Q (f x) (g y)) → Both Q (r >>= f) (s >>= g)
then_both P Q (Ok x) (Ok y) f g h step = step x y h
then_both P Q (Ok x) (Err d) f g h step = absurd h
then_both P Q (Err c) (Ok y) f g h step = absurd h
then_both P Q (Err c) (Err d) f g h step = h

-- something that is required, and then the next step
pub next : {A B F : Type 0} (P : A → A → Type 0) (Q : B → B → Type 0) (fault : F) (o u : Option A) (f g : A → Result B F) → Maybe P o u → ((x y : A) → P x y → Both Q (f x) (g y)) → Both Q (required fault o >>= f) (required fault u >>= g)
next P Q fault o u f g h step = then_both P Q (required fault o) (required fault u) f g (is_required P fault o u h) step

pub if_maybe : {A : Type 0} (P : A → A → Type 0) (b : Bool) (o u p q : Option A) → Maybe P o u → Maybe P p q → Maybe P (cond b o p) (cond b u q)
if_maybe P true o u p q h k = h
if_maybe P false o u p q h k = k

-- the same test of two things
pub both_if : {A : Type 0} (P : A → A → Type 0) (b c : Bool) (o u p q : Option A) → b ≡ c → Maybe P o u → Maybe P p q → Maybe P (cond b o p) (cond c u q)
both_if P b c o u p q e h k = rw e (if_maybe P c o u p q h k)

pub if_both : {A F : Type 0} (P : A → A → Type 0) (b : Bool) (r s t v : Result A F) → Both P r s → Both P t v → Both P (cond b r t) (cond b s v)
if_both P true r s t v h k = h
if_both P false r s t v h k = k

-- the same, read
pub plain : {A B F : Type 0} (P : A → A → Type 0) (view : A → B) (r s : Result A F) → ((x y : A) → P x y → view x ≡ view y) → Both P r s → (r >>= λ x. Ok (view x)) ≡ (s >>= λ x. Ok (view x))
plain P view (Ok x) (Ok y) see h = rw (see x y h) refl
plain P view (Ok x) (Err g) see h = absurd h
plain P view (Err f) (Ok y) see h = absurd h
plain P view (Err f) (Err g) see h = rw h refl

-- ---- fields

placed_alike : (from to : ℕ × ℕ) (es : List Element) → Rows (placed from es) (placed to es)
placed_alike from to [] = tt
placed_alike from to (e ∷ es) = (refl, placed_alike (from.0, from.1 + (e.head + length e.content)) (to.0, to.1 + (e.head + length e.content)) es)

all_placed : (from to : ℕ × ℕ) (o : Option (List Element)) → Maybe Rows (and_then o (λ es. Some (placed from es))) (and_then o (λ es. Some (placed to es)))
all_placed from to (Some es) = placed_alike from to es
all_placed from to None = tt

pub fields_alike : (p q : Piece) → Parts p q → Maybe Rows (fields_in p) (fields_in q)
unfolding fields_in
fields_alike p q e = rw e (all_placed (p.block, p.place) (q.block, q.place) (kept (parts_at q.octets)))

only_one : (ss ts : List Spot) → Rows ss ts → Maybe Spots (single ss) (single ts)
only_one [] [] h = tt
only_one [] (t ∷ ts) h = absurd h
only_one (s ∷ ss) [] h = absurd h
only_one (s ∷ []) (t ∷ []) h = h.0
only_one (s ∷ []) (t ∷ u ∷ ts) h = absurd h.1
only_one (s ∷ r ∷ ss) (t ∷ []) h = absurd h.1
only_one (s ∷ r ∷ ss) (t ∷ u ∷ ts) h = tt

pub only_alike : (p q : Piece) → Parts p q → Maybe Spots (only_in p) (only_in q)
unfolding only_in
only_alike p q e = then_maybe Rows Spots (fields_in p) (fields_in q) single single (fields_alike p q e) only_one

pub with_tag-alike : (tag : ℕ) (s t : Spot) → Spots s t → Maybe Parts (with_tag tag s) (with_tag tag t)
with_tag-alike tag s t e = both_if Parts (eqb s.element.tag tag) (eqb t.element.tag tag) (Some (content_piece s)) (Some (content_piece t)) None None (ap (λ (x : Element). eqb x.tag tag) e) (ap (λ (x : Element). x.content) e) tt

pub only_with-alike : (tag : ℕ) (p q : Piece) → Parts p q → Maybe Parts (only_with tag p) (only_with tag q)
unfolding only_with
only_with-alike tag p q e = then_maybe Spots Parts (only_in p) (only_in q) (with_tag tag) (with_tag tag) (only_alike p q e) (with_tag-alike tag)

pub first_with-alike : (tag : ℕ) (ss ts : List Spot) → Rows ss ts → Maybe Parts (first_with tag ss) (first_with tag ts)
first_with-alike tag [] [] h = tt
first_with-alike tag [] (t ∷ ts) h = absurd h
first_with-alike tag (s ∷ ss) [] h = absurd h
first_with-alike tag (s ∷ ss) (t ∷ ts) (e, h) =
    both_if Parts (eqb s.element.tag tag) (eqb t.element.tag tag) (Some (content_piece s)) (Some (content_piece t)) (first_with tag ss) (first_with tag ts) (ap (λ (x : Element). eqb x.tag tag) e) (ap (λ (x : Element). x.content) e) (first_with-alike tag ss ts h)

pub field_with-alike : (tag : ℕ) (p q : Piece) → Parts p q → Maybe Parts (field_with tag p) (field_with tag q)
unfolding field_with
field_with-alike tag p q e = then_maybe Rows Parts (fields_in p) (fields_in q) (first_with tag) (first_with tag) (fields_alike p q e) (first_with-alike tag)

element_alike : (p q : Piece) (o : Option Element) → Maybe Spots (and_then o (λ e. Some (spot_in p e))) (and_then o (λ e. Some (spot_in q e)))
element_alike p q (Some e) = refl
element_alike p q None = tt

pub whole_alike : (p q : Piece) → Parts p q → Maybe Spots (whole_in p) (whole_in q)
whole_alike p q e = rw e (element_alike p q (whole_at q.octets))
