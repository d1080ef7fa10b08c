-- The Data of a structure, part by part.
use Rattle.std.proofs.Common.{◌≡◌, ap, sym, ◌∙◌, ◌≤◌, ◌<◌, ℕ, zero, suc, ◌+◌, List, [], ◌∷◌, ◌++◌, length, take, drop, get_or, arith, length-append, append_assoc, append-nil}
use Rattle.std.proofs.lemmas.List.{drop-drop, drop-map}
use Rattle.sv_base.specs.declared.numbers.AttrId.{AttrId}
use Rattle.sv_base.specs.declared.types.TypeOf.{TypeOf}
use Rattle.sv_base.specs.declared.types.TypeOf.TheVariants as types
use Rattle.value_store.specs.Stored.{Stored, attribute}
use Rattle.sv_base.specs.Data.{data_row, data_seen, element, length_field}
use Rattle.sv_base.specs.Types.{Fields}
use Rattle.sv_base.specs.Fields.{shape_of, fields_of}
use Rattle.sv_base.specs.declared.types.Part1.{Part1}
use Rattle.sv_base.specs.declared.value.Value.{Value}
use Rattle.value_store.specs.Members.{leaves, leaves_in, value_with, row_with, values_at}

pub leaves_more : (ps : List Part1) (i : ℕ) (p : Part1) → i < length ps → p ≡ get_or ps i p
    → leaves_in (fields_of (take (suc i) ps)) ≡ leaves_in (fields_of (take i ps)) + leaves (shape_of p.kind)
leaves_more [] i p below is = absurd (omega (arith, below))
leaves_more (q ∷ ps) zero p below is = omega (arith, ap (λ (x : Part1). leaves (shape_of x.kind)) is)
leaves_more (q ∷ ps) (suc i) p below is = omega (arith, leaves_more ps i p (omega (arith, below)) is)

pub leaves_within : (ps : List Part1) (i : ℕ) → leaves_in (fields_of (take i ps)) ≤ leaves_in (fields_of ps)
leaves_within [] zero = omega arith
leaves_within [] (suc i) = omega arith
leaves_within (q ∷ ps) zero = omega arith
leaves_within (q ∷ ps) (suc i) = omega (arith, leaves_within ps i)

-- the Data of the first parts and of one more
pub row_more : (ps : List Part1) (i : ℕ) (p : Part1) (vs : List Value) → i < length ps → p ≡ get_or ps i p
    → data_row (row_with (fields_of (take (suc i) ps)) vs) ≡ data_row (row_with (fields_of (take i ps)) vs) ++ data_seen (value_with (shape_of p.kind) (drop (leaves_in (fields_of (take i ps))) vs))
row_more [] i p vs below is = absurd (omega (arith, below))
row_more (q ∷ ps) zero p vs below is = append-nil (data_seen (value_with (shape_of q.kind) vs)) ∙ ap (λ (x : Part1). data_seen (value_with (shape_of x.kind) vs)) (sym is)
row_more (q ∷ ps) (suc i) p vs below is =
    ap (λ l. data_seen (value_with (shape_of q.kind) vs) ++ l) (row_more ps i p (drop (leaves (shape_of q.kind)) vs) (omega (arith, below)) is)
    ∙ (sym (append_assoc (data_seen (value_with (shape_of q.kind) vs)) (data_row (row_with (fields_of (take i ps)) (drop (leaves (shape_of q.kind)) vs))) (data_seen (value_with (shape_of p.kind) (drop (leaves_in (fields_of (take i ps))) (drop (leaves (shape_of q.kind)) vs)))))
    ∙ ap (λ l. data_row (row_with (fields_of (take (suc i) (q ∷ ps))) vs) ++ data_seen (value_with (shape_of p.kind) l)) (drop-drop (leaves_in (fields_of (take i ps))) (leaves (shape_of q.kind)) vs))

pub row_within : (ps : List Part1) (i : ℕ) (vs : List Value) → length (data_row (row_with (fields_of (take i ps)) vs)) ≤ length (data_row (row_with (fields_of ps) vs))
row_within [] zero vs = omega arith
row_within [] (suc i) vs = omega arith
row_within (q ∷ ps) zero vs = omega arith
row_within (q ∷ ps) (suc i) vs = omega (
  arith,
  row_within ps i (drop (leaves (shape_of q.kind)) vs),
  length-append (data_seen (value_with (shape_of q.kind) vs)) (data_row (row_with (fields_of (take i ps)) (drop (leaves (shape_of q.kind)) vs))),
  length-append (data_seen (value_with (shape_of q.kind) vs)) (data_row (row_with (fields_of ps) (drop (leaves (shape_of q.kind)) vs))),
)

-- ---- what the calls need

-- the content of a structure's Data
pub inside : (k : TypeOf) (f : Fields) (ps : List Part1) (vs : List Value) → k ≡ types.Struct f → fields_of ps ≡ f
    → (leaves (shape_of k) ≡ leaves_in (fields_of ps)) × (data_seen (value_with (shape_of k) vs) ≡ element 162 (data_row (row_with (fields_of ps) vs)))
inside k f ps vs is fields = (ap (λ t. leaves (shape_of t)) is ∙ ap leaves_in (sym fields), ap (λ t. data_seen (value_with (shape_of t) vs)) is ∙ ap (λ g. element 162 (data_row (row_with g vs))) (sym fields))

pub content_is_shorter : (content : List ℕ) → length content ≤ length (element 162 content)
content_is_shorter content = omega (arith, length-append (length_field (length content)) content)

pub values_after : (all : List Stored) (n : ℕ) (attrs : List AttrId) → values_at all (drop n attrs) ≡ drop n (values_at all attrs)
values_after all n attrs = sym (drop-map (λ (x : AttrId). (attribute all x.0).held.value) n attrs)

-- the Data of one part, and of those before it, are no longer than all
pub part_within : (ps : List Part1) (i : ℕ) (p : Part1) (vs : List Value) → i < length ps → p ≡ get_or ps i p
    → length (data_row (row_with (fields_of (take i ps)) vs)) + length (data_seen (value_with (shape_of p.kind) (drop (leaves_in (fields_of (take i ps))) vs))) ≤ length (data_row (row_with (fields_of ps) vs))
part_within ps i p vs below is = omega (arith, ap length (row_more ps i p vs below is), row_within ps (suc i) vs, length-append (data_row (row_with (fields_of (take i ps)) vs)) (data_seen (value_with (shape_of p.kind) (drop (leaves_in (fields_of (take i ps))) vs))))

pub leaves_left : (ps : List Part1) (i : ℕ) (p : Part1) → i < length ps → p ≡ get_or ps i p → leaves_in (fields_of (take i ps)) + leaves (shape_of p.kind) ≤ leaves_in (fields_of ps)
leaves_left ps i p below is = omega (arith, leaves_more ps i p below is, leaves_within ps (suc i))
