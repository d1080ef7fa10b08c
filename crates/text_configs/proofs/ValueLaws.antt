-- The values that a text gives its attributes: their types can be set, and hold the first value.
use Rattle.std.proofs.Common.{◌≡◌, inl, inr, sym, subst, arith}
use Rattle.sv_base.specs.declared.types.TypeOf.{TypeOf}
use Rattle.sv_base.specs.declared.types.TypeOf.TheVariants as types
use Rattle.bay_rooms.specs.Slots.{IsSettable}
use Rattle.bay_model.specs.Places.{largest}
use Rattle.text_words.specs.Grammar.{IsType}
use Rattle.cfg_lines.specs.Sizes.{most_octets}

pub settable : (k : TypeOf) → IsType k → IsSettable k
settable types.Bool h = tt
settable (types.Int w) h = h
settable (types.Uint w) (inl e) = inl e
settable (types.Uint w) (inr (inl e)) = inr (inl e)
settable (types.Uint w) (inr (inr e)) = inr (inr (inl e))
settable (types.Bits n) h = tt
settable types.Time h = tt
settable (types.Text n) h = tt
settable (types.Octets n) h = tt
settable types.Stamp h = absurd h
settable types.EntryId h = absurd h
settable (types.Struct f) h = absurd h

-- the largest value of a type has as many octets as are counted for it
pub largest-counted : (k : TypeOf) → IsType k → largest k ≡ most_octets k
largest-counted types.Bool h = omega arith
largest-counted (types.Int w) (inl e) = subst (λ w. largest (types.Int w) ≡ most_octets (types.Int w)) (sym e) (omega arith)
largest-counted (types.Int w) (inr (inl e)) = subst (λ w. largest (types.Int w) ≡ most_octets (types.Int w)) (sym e) (omega arith)
largest-counted (types.Int w) (inr (inr (inl e))) = subst (λ w. largest (types.Int w) ≡ most_octets (types.Int w)) (sym e) (omega arith)
largest-counted (types.Int w) (inr (inr (inr e))) = subst (λ w. largest (types.Int w) ≡ most_octets (types.Int w)) (sym e) (omega arith)
largest-counted (types.Uint w) (inl e) = subst (λ w. largest (types.Uint w) ≡ most_octets (types.Uint w)) (sym e) (omega arith)
largest-counted (types.Uint w) (inr (inl e)) = subst (λ w. largest (types.Uint w) ≡ most_octets (types.Uint w)) (sym e) (omega arith)
largest-counted (types.Uint w) (inr (inr e)) = subst (λ w. largest (types.Uint w) ≡ most_octets (types.Uint w)) (sym e) (omega arith)
largest-counted (types.Bits n) h = omega arith
largest-counted types.Time h = omega arith
largest-counted (types.Text n) h = omega arith
largest-counted (types.Octets n) h = omega arith
largest-counted types.Stamp h = absurd h
largest-counted types.EntryId h = absurd h
largest-counted (types.Struct f) h = absurd h
