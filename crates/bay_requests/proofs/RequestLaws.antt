-- What is read of lists is what their elements are, in order.
use Rattle.std.proofs.Common.{◌≡◌, ◌⊎◌, inl, inr, List, [], ◌∷◌, map, Ok, refl, sym, ap, ◌∙◌}
use Rattle.std.specs.List.{zip}
use Rattle.ber_grammar.specs.Place.{Spot}
use Rattle.sv_base.specs.Tree.{Seen}
use Rattle.sv_base.specs.Seen.{seen_of, row_of}
use Rattle.sv_base.specs.Same.{value_of}
use Rattle.sv_base.specs.declared.value.Value.{Value}
use Rattle.sv_base.proofs.RowLaws.{value-seen, seen-value}
use Rattle.mms_data.specs.Reading.{data_at, in_row}
use Rattle.mms_pdu.specs.Datum.{value_at}
use Rattle.mms_pdu.proofs.DatumLaws.{value_is}

-- a value that was read of Data is the one that they are
pub value_read : (s : Spot) (v : Value) → data_at 10 s.element ≡ Ok (seen_of v) → v ≡ value_of (value_at s)
value_read s v read = sym (ap value_of (value_is s (seen_of v) read) ∙ value-seen v)

-- a row of values that were read
pub row_of_values : (ds : List Seen) → row_of (map value_of ds) ≡ in_row ds
row_of_values [] = refl
row_of_values (d ∷ ds) = let one = seen-value d in let rest = row_of_values ds in cc

-- where one of two lists has ended, nothing stands beside each other
pub zip_ended : {A B C D : Type 0} (f : A → C) (g : B → D) (xs : List A) (ys : List B)
    → ((u : List A) × ((xs ≡ []) × (u ≡ []))) ⊎ ((u : List B) × ((ys ≡ []) × (u ≡ []))) → zip (map f xs) (map g ys) ≡ []
zip_ended f g xs ys (inl (u, (e, o))) = ap (λ (l : _). zip (map f l) (map g ys)) e
zip_ended f g xs ys (inr (u, (e, o))) = ap (λ (l : _). zip (map f xs) (map g l)) e ∙ none (map f xs)
  where
    none : {X Y : Type 0} (ks : List X) → zip {X = Y} ks [] ≡ []
    none [] = refl
    none (k ∷ ks) = refl
