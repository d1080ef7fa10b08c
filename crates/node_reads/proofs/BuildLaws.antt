-- The row of a structure, part by part.
use Rattle.std.proofs.Common.{◌≡◌, ◌∙◌, ap, sym, ◌<◌, ℕ, zero, suc, List, [], ◌∷◌, ◌++◌, length, take, drop, get_or, refl, arith}
use Rattle.std.proofs.lemmas.List.{drop-drop}
use Rattle.sv_base.specs.Tree.{Seen, Row, none, more}
use Rattle.sv_base.specs.Seen.{seen_of, row_of}
use Rattle.sv_base.specs.Fields.{shape_of, fields_of}
use Rattle.sv_base.specs.declared.types.Part1.{Part1}
use Rattle.sv_base.specs.declared.value.Value.{Value}
use Rattle.value_store.specs.Members.{leaves, leaves_in, value_with, row_with}

-- one more at the end of a row
abbrev pub with_last : Row → Seen → Row
with_last none s = more s none
with_last (more t r) s = more t (with_last r s)

pub row-more : (vs : List Value) (v : Value) → row_of (vs ++ v ∷ []) ≡ with_last (row_of vs) (seen_of v)
row-more [] v = refl
row-more (w ∷ vs) v = ap (more (seen_of w)) (row-more vs v)

pub parts-more : (ps : List Part1) (i : ℕ) (p : Part1) (vs : List Value) → i < length ps → p ≡ get_or ps i p
    → row_with (fields_of (take (suc i) ps)) vs ≡ with_last (row_with (fields_of (take i ps)) vs) (value_with (shape_of p.kind) (drop (leaves_in (fields_of (take i ps))) vs))
parts-more [] i p vs h is = absurd (omega (arith, h))
parts-more (q ∷ ps) zero p vs h is = ap (λ (x : Part1). more (value_with (shape_of x.kind) vs) none) (sym is)
parts-more (q ∷ ps) (suc i) p vs h is = ap (more (value_with (shape_of q.kind) vs)) (parts-more ps i p (drop (leaves (shape_of q.kind)) vs) (omega (arith, h)) is
    ∙ ap (λ l. with_last (row_with (fields_of (take i ps)) (drop (leaves (shape_of q.kind)) vs)) (value_with (shape_of p.kind) l)) (drop-drop (leaves_in (fields_of (take i ps))) (leaves (shape_of q.kind)) vs))
