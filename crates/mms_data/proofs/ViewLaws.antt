-- Data that is checked and not kept.
use Rattle.std.proofs.Common.{◌≡◌, ℕ, eqb, true, false, List, ◌∷◌, length, Result, Ok, Err, refl, sym, ap, ◌∙◌}
use Rattle.std.specs.Prelude.{IsOk, MatchResult}
use Rattle.std.proofs.Math.Nat.{pos_of_ne-zero}
use Rattle.std.proofs.lemmas.Bool.{eqb-true, eqb-false}
use Rattle.std.proofs.lemmas.List.{nil_from_length}
use Rattle.list_laws.proofs.Options.{err_is}
use Rattle.ber_grammar.specs.declared.fault.BerFault.{BerFault}
use Rattle.ber_grammar.specs.Element.{Element}
use Rattle.ber_grammar.specs.Octets.{IsBytes}
use Rattle.ber_grammar.specs.Place.{Spot}
use Rattle.ber_grammar.specs.Reader.{◌>>=◌, Gives, Reads}
use Rattle.ber_grammar.specs.Reading.{first_at}
use Rattle.ber_grammar.specs.Rows.{row_at}
use Rattle.ber_grammar.proofs.ReaderLaws.{exact_from, reads_from, gives_at, refuses_at}
use Rattle.ber_grammar.proofs.RowLaws.{row_none, row_step, row_stop}
use Rattle.sv_base.specs.Tree.{Seen, structure}
use Rattle.mms_data.specs.declared.fault.DataFault.{DataFault}
use Rattle.mms_data.specs.declared.fault.DataFault.TheVariants.{Length}
use Rattle.mms_data.specs.Grammar.{IsWithin, IsRefusedData}
use Rattle.mms_data.specs.Reading.{malformed, in_row, struct_at, data_at}
use Rattle.mms_data.specs.View.{checked, IsViewed, view_at}
use Rattle.mms_data.proofs.GrammarLaws.{data_exact}

-- ---- an element in place

pub viewed : (s : Spot) → Ok tt ≡ checked (data_at 10 s.element) → Ok s ≡ view_at s
unfolding view_at
viewed s h = kept_view s (data_at 10 s.element) h
  where
    kept_view : (s : Spot) (r : Result Seen DataFault) → Ok tt ≡ checked r → Ok s ≡ (r >>= λ value. Ok s)
    kept_view s (Ok x) h = refl
    kept_view s (Err f) h = absurd cc

pub not_viewed : (s : Spot) (f : DataFault) → Err f ≡ checked (data_at 10 s.element) → Err f ≡ view_at s
unfolding view_at
not_viewed s f h = kept_fault s f (data_at 10 s.element) h
  where
    kept_fault : (s : Spot) (f : DataFault) (r : Result Seen DataFault) → Err f ≡ checked r → Err f ≡ (r >>= λ value. Ok s)
    kept_fault s f (Ok x) h = absurd cc
    kept_fault s f (Err g) h = ap (λ (x : DataFault). Err x) (err_is {A = Unit {0}} f g h)

pub viewed_is : (s : Spot) → Ok s ≡ view_at s → IsOk (data_at 10 s.element)
unfolding view_at
viewed_is s h = ok_of s (data_at 10 s.element) h
  where
    ok_of : (s : Spot) (r : Result Seen DataFault) → Ok s ≡ (r >>= λ value. Ok s) → IsOk r
    ok_of s (Ok x) h = refl
    ok_of s (Err f) h = absurd cc

abbrev ViewTells : Spot → Result Spot DataFault → Type 0
ViewTells s (Ok d) = IsViewed s d
ViewTells s (Err f) = IsRefusedData 10 s.element f

view_tells : (s : Spot) (r : Result Seen DataFault) → MatchResult r (IsWithin 10 s.element) (IsRefusedData 10 s.element) → ViewTells s (r >>= λ value. Ok s)
view_tells s (Ok x) h = (refl, x, h)
view_tells s (Err f) h = h

pub view_exact : (s : Spot) → IsBytes s.element.content → Reads (λ (d : Spot). d) (view_at s) (IsViewed s) (IsRefusedData 10 s.element)
unfolding view_at
view_exact s fits =
    let h = data_exact 10 s.element fits in
    exact_from (data_at 10 s.element >>= λ value. Ok s) (IsViewed s) (IsRefusedData 10 s.element) (ViewTells s) (λ d t. t) (λ f t. t) (view_tells s (data_at 10 s.element) h.tells)
    (λ d (same, value, is). rw (sym (gives_at (data_at 10 s.element) value (h.only value is))) (ap (λ (x : Spot). Ok x) (sym same)))
    (λ f is. rw (sym (refuses_at (data_at 10 s.element) f (h.refuses f is))) refl)

gives_equal : {Y F : Type 0} (r read : Result Y F) → r ≡ read → Gives (λ (y : Y). y) r read
gives_equal (Ok y) read e = sym e
gives_equal (Err f) read e = sym e

pub view_reads : (r : Result Spot DataFault) (s : Spot) → IsBytes s.element.content → r ≡ view_at s → Reads {Y = Spot} (λ d. d) r (IsViewed s) (IsRefusedData 10 s.element)
view_reads r s fits h = reads_from (λ (d : Spot). d) r (view_at s) (IsViewed s) (IsRefusedData 10 s.element) (view_exact s fits) (gives_equal r (view_at s) h)

-- ---- parts that are checked one after another

-- what is made of what is read is checked where that is
pub checked_made : {A B F : Type 0} (r : Result A F) (make : A → B) → checked (r >>= λ x. Ok (make x)) ≡ checked r
checked_made (Ok x) make = refl
checked_made (Err f) make = refl

pub checked_struct : (read : Element → Result Seen DataFault) (content : List ℕ) → checked (struct_at read content) ≡ checked (row_at read malformed content)
checked_struct read content = checked_made (row_at read malformed content) (λ ss. structure (in_row ss))

module _ (read : Element → Result Seen DataFault) where
  one_then : (one : Result Seen DataFault) (rest : Result (List Seen) DataFault) → Ok tt ≡ checked one → checked (one >>= λ x. rest >>= λ others. Ok (x ∷ others)) ≡ checked rest
  one_then (Ok x) rest h = checked_made rest (λ others. x ∷ others)
  one_then (Err f) rest h = absurd cc

  one_fails : (one : Result Seen DataFault) (rest : Result (List Seen) DataFault) (f : DataFault) → Err f ≡ checked one → checked (one >>= λ x. rest >>= λ others. Ok (x ∷ others)) ≡ Err f
  one_fails (Ok x) rest f h = absurd cc
  one_fails (Err g) rest f h = sym h

  pub checked_more : (octets rest after : List ℕ) (e : Element) → checked (row_at read malformed octets) ≡ checked (row_at read malformed rest) → first_at rest ≡ Ok (e, after) → Ok tt ≡ checked (read e)
      → checked (row_at read malformed octets) ≡ checked (row_at read malformed after)
  checked_more octets rest after e h first this = h ∙ ap checked (row_step read malformed rest e after first) ∙ one_then (read e) (row_at read malformed after) this

  pub checked_fails : (octets rest after : List ℕ) (e : Element) (f : DataFault) → checked (row_at read malformed octets) ≡ checked (row_at read malformed rest) → first_at rest ≡ Ok (e, after) → Err f ≡ checked (read e)
      → Err f ≡ checked (row_at read malformed octets)
  checked_fails octets rest after e f h first this = sym (h ∙ ap checked (row_step read malformed rest e after first) ∙ one_fails (read e) (row_at read malformed after) f this)

  pub checked_broken : (octets rest : List ℕ) (f : BerFault) → checked (row_at read malformed octets) ≡ checked (row_at read malformed rest) → first_at rest ≡ Err f → eqb (length rest) 0 ≡ false
      → Err Length ≡ checked (row_at read malformed octets)
  checked_broken octets rest f h first some = sym (h ∙ ap checked (row_stop read malformed rest f first (pos_of_ne-zero (eqb-false (length rest) 0 some))))

  pub checked_all : (octets rest : List ℕ) → checked (row_at read malformed octets) ≡ checked (row_at read malformed rest) → eqb (length rest) 0 ≡ true
      → Ok tt ≡ checked (row_at read malformed octets)
  checked_all octets rest h none = sym (h ∙ ap (λ (x : List ℕ). checked (row_at read malformed x)) (nil_from_length rest (eqb-true (length rest) 0 none)) ∙ ap checked (row_none read malformed))
