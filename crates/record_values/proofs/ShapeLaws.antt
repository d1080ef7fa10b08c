-- A value that a text has by its shape is sound.
use Rattle.std.proofs.Common.{◌≡◌, ℕ, Bool, true, false, List, [], ◌∷◌, length, map, refl, sym, ap, ◌∙◌, arith}
use Rattle.std.specs.Prelude.{Option, None, Some, codes, ◌==◌, if◌then◌else◌}
use Rattle.std.specs.List.{list_all}
use Rattle.sv_base.specs.declared.types.TypeOf.TheVariants as types
use Rattle.sv_base.specs.declared.value.Value.{Value}
use Rattle.sv_base.specs.declared.value.Value.TheVariants as values
use Rattle.sv_base.specs.declared.components.Comp.{Comp}
use Rattle.text_words.specs.Words.{behind}
use Rattle.text_words.specs.Numbers.{number_at, int_at}
use Rattle.text_words.specs.Values.{read_as, truth_at, is_graphic, is_binary, hex_at}
use Rattle.object_model.specs.Fits.{is_sound}
use Rattle.record_values.specs.Shapes.{is_bits, is_int, bits_of, integer_of, signed_of, number_of, text_of, marked_at, truth_or, shape_at}
use Rattle.text_values.proofs.ValueLaws.{sound}

sound-read : {A : Type 0} (kind : A → Value) → ((a : A) → is_sound (kind a) ≡ true) → (o : Option A) (v : Value) → read_as kind o ≡ Some v → is_sound v ≡ true
sound-read kind sound None v h = absurd cc
sound-read kind sound (Some a) v h = let same : kind a ≡ v = cc in ap is_sound (sym same) ∙ sound a

sound-bits : (word : List ℕ) (v : Value) → bits_of word ≡ Some v → is_sound v ≡ true
sound-bits word v h = by (list_all is_binary word) h where
  by : (b : Bool) → (if b then Some (values.Bits (map (λ octet. octet == 49) word)) else None) ≡ Some v → is_sound v ≡ true
  by true h = let same : values.Bits (map (λ octet. octet == 49) word) ≡ v = cc in ap is_sound (sym same)
  by false h = absurd cc

sound-text : (octets : List ℕ) (v : Value) → text_of octets ≡ Some v → is_sound v ≡ true
sound-text octets v h = by (list_all is_graphic octets) refl h where
  by : (b : Bool) → list_all is_graphic octets ≡ b → (if b then Some (values.Text octets) else None) ≡ Some v → is_sound v ≡ true
  by true e h = let same : values.Text octets ≡ v = cc in ap is_sound (sym same) ∙ sound (types.Text (length octets)) (values.Text octets) (omega arith, e)
  by false e h = absurd cc

sound-integer : (word : List ℕ) (v : Value) → integer_of word ≡ Some v → is_sound v ≡ true
sound-integer word v h = sound-read values.Int (λ z. refl) (int_at 64 word) v h

sound-number : (comp : Comp) (word : List ℕ) (v : Value) → number_of comp word ≡ Some v → is_sound v ≡ true
sound-number comp word v h = by (is_int comp) (behind (codes "-") word) h where
  by : (b : Bool) (o : Option (List ℕ)) → (if b then integer_of word else signed_of word o) ≡ Some v → is_sound v ≡ true
  by true o h = sound-integer word v h
  by false None h = sound-read values.Uint (λ n. refl) (number_at word) v h
  by false (Some digits) h = sound-integer word v h

sound-marked : (comp : Comp) (word : List ℕ) (v : Value) → marked_at comp word ≡ Some v → is_sound v ≡ true
unfolding marked_at
sound-marked comp [] v h = absurd cc
sound-marked comp (mark ∷ octets) v h = by (mark == 39) (mark == 120) (is_bits comp) h where
  by : (a b c : Bool) → (if a then text_of octets else if b then read_as values.Octets (hex_at octets) else if c then bits_of (mark ∷ octets) else number_of comp (mark ∷ octets)) ≡ Some v → is_sound v ≡ true
  by true b c h = sound-text octets v h
  by false true c h = sound-read values.Octets (λ o. refl) (hex_at octets) v h
  by false false true h = sound-bits (mark ∷ octets) v h
  by false false false h = sound-number comp (mark ∷ octets) v h

pub sound-shape : (comp : Comp) (word : List ℕ) (v : Value) → shape_at comp word ≡ Some v → is_sound v ≡ true
unfolding shape_at
sound-shape comp word v h = by (truth_at word) h where
  by : (o : Option Bool) → truth_or o (marked_at comp word) ≡ Some v → is_sound v ≡ true
  by None h = sound-marked comp word v h
  by (Some b) h = let same : values.Bool b ≡ v = cc in ap is_sound (sym same)
