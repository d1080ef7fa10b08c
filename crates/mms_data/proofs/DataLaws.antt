-- Reading Data, one level at a time.
use Rattle.std.proofs.Common.{◌≡◌, ℕ, zero, suc, ◌-◌, ◌<◌, true, false, eqb, List, [], ◌∷◌, ◌++◌, map, Result, Ok, Err, refl, sym, ap, subst, ◌∙◌, arith}
use Rattle.std.specs.Prelude.{IfSome}
use Rattle.std.proofs.lemmas.Bool.{eq-eqb}
use Rattle.std.proofs.lemmas.List.{map-append}
use Rattle.ber_grammar.specs.Element.{Element}
use Rattle.ber_grammar.specs.Reader.{Gives, GivesOrMemory}
use Rattle.ber_grammar.specs.Reading.{first_at}
use Rattle.ber_grammar.specs.Rows.{row_at}
use Rattle.ber_grammar.proofs.RowLaws.{Goes, Goes-more, Goes-refused}
use Rattle.sv_base.specs.Tree.{Seen, Row, more, structure}
use Rattle.sv_base.specs.Seen.{seen_of, row_of}
use Rattle.sv_base.specs.declared.value.Value.{Value}
use Rattle.mms_data.specs.declared.fault.DataFault.{DataFault}
use Rattle.mms_data.specs.declared.fault.DataFault.TheVariants.{Tag, Length, Depth, Memory}
use Rattle.mms_data.specs.Grammar.{is_context}
use Rattle.mms_data.specs.Reading.{fault_of, malformed, in_row, plain_at, struct_at, data_at}

pub gives_or_memory : {X Y : Type 0} (view : X → Y) (r : Result X DataFault) (read : Result Y DataFault) → Gives view r read → GivesOrMemory fault_of view r read
gives_or_memory view (Ok x) read g = g
gives_or_memory view (Err Tag) read g = g
gives_or_memory view (Err Length) read g = g
gives_or_memory view (Err Depth) read g = g
gives_or_memory view (Err Memory) read g = tt

pub data_at-outside : (n : ℕ) (e : Element) → is_context e.tag ≡ false → data_at n e ≡ Err Tag
unfolding data_at
data_at-outside zero e h = rw h refl
data_at-outside (suc n) e h = rw h refl

pub data_at-deep : (n : ℕ) (e : Element) → n ≡ 0 → is_context e.tag ≡ true → data_at n e ≡ Err Depth
unfolding data_at
data_at-deep zero e z h = rw h refl
data_at-deep (suc n) e z h = absurd (omega (arith, z))

pub data_at-struct : (n : ℕ) (e : Element) → 0 < n → is_context e.tag ≡ true → e.tag ≡ 162 → data_at n e ≡ struct_at (data_at (n - 1)) e.content
unfolding data_at
data_at-struct zero e p h t = absurd (omega (arith, p))
data_at-struct (suc n) e p h t = let k : suc n - 1 ≡ n = omega arith in rw (h, eq-eqb e.tag 162 t, k) refl

pub data_at-plain : (n : ℕ) (e : Element) → 0 < n → is_context e.tag ≡ true → eqb e.tag 162 ≡ false → data_at n e ≡ plain_at e
unfolding data_at
data_at-plain zero e p h t = absurd (omega (arith, p))
data_at-plain (suc n) e p h t = rw (h, t) refl

pub in_row-seen : (vs : List Value) → in_row (map seen_of vs) ≡ row_of vs
in_row-seen [] = refl
in_row-seen (v ∷ vs) = ap (λ (r : Row). more (seen_of v) r) (in_row-seen vs)

pub struct_at-ok : (read : Element → Result Seen DataFault) (content : List ℕ) (vs : List Value) (r : Row) → row_at read malformed content ≡ Ok (map seen_of vs) → r ≡ row_of vs → struct_at read content ≡ Ok (structure r)
struct_at-ok read content vs r h is = rw h (ap (λ (x : Row). Ok (structure x)) (in_row-seen vs ∙ sym is))

-- the loop over the parts
module _ (read : Element → Result Seen DataFault) where
  pub one_more : (items grown : List Value) (octets rest after : List ℕ) (e : Element) (v : Value) → Goes read malformed (map seen_of items) octets rest → first_at rest ≡ Ok (e, after) → read e ≡ Ok (seen_of v) → grown ≡ items ++ v ∷ []
      → Goes read malformed (map seen_of grown) octets after
  one_more items grown octets rest after e v h first this pushed =
      subst (λ (x : List Seen). Goes read malformed x octets after) (sym (ap (λ (x : List Value). map seen_of x) pushed ∙ map-append seen_of items (v ∷ [])))
      (Goes-more read malformed (map seen_of items) octets rest after e (seen_of v) h first this)

  pub part_fails : (err : DataFault) (front : List Seen) (octets rest after : List ℕ) (e : Element) → Goes read malformed front octets rest → first_at rest ≡ Ok (e, after)
      → IfSome (fault_of err) (λ f. read e ≡ Err f) → IfSome (fault_of err) (λ f. row_at read malformed octets ≡ Err f)
  part_fails Memory front octets rest after e h first this = tt
  part_fails Tag front octets rest after e h first this = Goes-refused read malformed front octets rest after e Tag h first this
  part_fails Length front octets rest after e h first this = Goes-refused read malformed front octets rest after e Length h first this
  part_fails Depth front octets rest after e h first this = Goes-refused read malformed front octets rest after e Depth h first this
