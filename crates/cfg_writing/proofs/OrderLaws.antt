-- The writer's objects in the order of their lines.
use Rattle.std.proofs.Common.{◌≡◌, ℕ, Bool, true, false, cond, List, [], ◌∷◌, map, nat_le, refl, ap, ◌∙◌}
use Rattle.std.specs.Ordering.{nat_cmp}
use Rattle.std.specs.List.Sorted.{IsSortedByKey, IsStableByKey}
use Rattle.cfg_writing.specs.declared.writing.Object.{Object}
use Rattle.cfg_writing.specs.Objects.{line_of}
use Rattle.cfg_writing.specs.Written.{number, put_in, in_order}
use Rattle.list_laws.proofs.Sorting.{insert_by, sort_by, sorted_is}

abbrev pub key : Object → ℕ
key object = number (line_of object)

map-cond : (b : Bool) (xs ys : List Object) → map line_of (cond b xs ys) ≡ cond b (map line_of xs) (map line_of ys)
map-cond true xs ys = refl
map-cond false xs ys = refl

map-insert : (x : Object) (ys : List Object) → map line_of (insert_by key x ys) ≡ put_in (line_of x) (map line_of ys)
map-insert x [] = refl
map-insert x (y ∷ ys) = map-cond (nat_le (key x) (key y)) (x ∷ y ∷ ys) (y ∷ insert_by key x ys)
    ∙ ap (λ more. cond (nat_le (key x) (key y)) (line_of x ∷ line_of y ∷ map line_of ys) (line_of y ∷ more)) (map-insert x ys)

map-sort : (xs : List Object) → map line_of (sort_by key xs) ≡ in_order (map line_of xs)
map-sort [] = refl
map-sort (x ∷ xs) = map-insert x (sort_by key xs) ∙ ap (put_in (line_of x)) (map-sort xs)

pub ordered : (xs ys : List Object) → IsSortedByKey key nat_cmp ys → IsStableByKey key nat_cmp xs ys → map line_of ys ≡ in_order (map line_of xs)
ordered xs ys s t = ap (map line_of) (sorted_is key xs ys s t) ∙ map-sort xs
