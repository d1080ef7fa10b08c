-- User data of the presentation layer.
use Rattle.std.proofs.Common.{◌≡◌, ℕ, zero, suc, ◌<◌, ◌^◌, cond, eqb, ltb, List, [], ◌∷◌, length, Some, None, Result, Ok, Err, refl, sym, subst, arith}
use Rattle.std.proofs.lemmas.Bool.{eqb-true, eq-eqb, ltb-true, ltb-false, lt-ltb, cond_both}
use Rattle.list_laws.proofs.Options.{some_is, chosen}
use Rattle.ber_grammar.specs.declared.fault.BerFault.{BerFault}
use Rattle.ber_grammar.specs.declared.fault.BerFault.TheVariants.{BadNumber}
use Rattle.ber_grammar.specs.Octets.{big_endian}
use Rattle.ber_grammar.specs.Content.{IsUint}
use Rattle.ber_grammar.specs.Place.{Spot, Piece, content_piece}
use Rattle.ber_grammar.specs.Reader.{and_then, kept, Gives, Reads}
use Rattle.ber_grammar.specs.Reading.{uint_at}
use Rattle.ber_grammar.proofs.OptionLaws.{then_some, kept_some}
use Rattle.ber_grammar.proofs.ReaderLaws.{reads_from}
use Rattle.ber_grammar.proofs.UintLaws.{uint_again}
use Rattle.session_pres.specs.declared.codes.TheConstants.{FULLY_ENCODED_DATA, SINGLE_ASN1_TYPE, INTEGER, OBJECT_IDENTIFIER, SEQUENCE}
use Rattle.session_pres.specs.declared.fault.SpFault.{SpFault}
use Rattle.session_pres.specs.declared.fault.SpFault.TheVariants as faults
use Rattle.ber_grammar.specs.Steps.{IsLacking, required}
use Rattle.ber_grammar.specs.Fields.{fields_in, only_in, only_with}
use Rattle.session_pres.specs.UserData.{IsContext, IsPair, IsPdv, IsPdvList, IsUserData, context_at, pair_at, pdv_at, pdv_list_at, user_data_at}
use Rattle.ber_grammar.proofs.FieldLaws.{fields_found, fields_again, single_found, single_again, only_with-found, only_with-again}
use Rattle.ber_grammar.proofs.StepLaws.{required_exact}

-- a number that is read and small is spelled
abbrev SmallTells : List ℕ → Result ℕ BerFault → Type 0
SmallTells content (Ok n) = n < 2 ^ 32 → IsUint content n
SmallTells content (Err f) = Unit {0}

small_tells : (content : List ℕ) → SmallTells content (uint_at content)
unfolding uint_at
small_tells [] = tt
small_tells (zero ∷ rest) =
    cond_both (ltb 8 (length rest)) (Err BadNumber) (Ok (big_endian rest)) (λ r. SmallTells (0 ∷ rest) r) (λ e. tt)
    (λ e lt. (omega (arith, ltb-false 8 (length rest) e), omega arith, refl, omega (arith, lt)))
small_tells (suc a ∷ rest) =
    cond_both (ltb (suc a) 128) (cond (ltb 8 (length (suc a ∷ rest))) (Err BadNumber) (Ok (big_endian (suc a ∷ rest)))) (Err BadNumber) (λ r. SmallTells (suc a ∷ rest) r)
    (λ t. cond_both (ltb 8 (length (suc a ∷ rest))) (Err BadNumber) (Ok (big_endian (suc a ∷ rest))) (λ r. SmallTells (suc a ∷ rest) r) (λ e. tt)
    (λ e lt. let le = ltb-false 8 (length (suc a ∷ rest)) e in (omega (arith, le), ltb-true _ _ t, refl, omega (arith, lt))))
    (λ t. tt)

pub context_found : (content : List ℕ) (n : ℕ) → context_at content ≡ Some n → IsContext content n
unfolding context_at
context_found content n h =
    let a = then_some (kept (uint_at content)) (λ n. cond (ltb n 4294967296) (Some n) None) n h in
    let c = chosen (ltb a.0 4294967296) (Some a.0) n a.2 in
    let small = ltb-true a.0 4294967296 c.0 in
    let number : SmallTells content (Ok a.0) = subst (λ (r : Result ℕ BerFault). SmallTells content r) (kept_some (uint_at content) a.0 a.1) (small_tells content) in
    subst (λ (m : ℕ). IsContext content m) (some_is a.0 n c.1) (number small, small)

pub context_again : (content : List ℕ) (n : ℕ) → IsContext content n → context_at content ≡ Some n
unfolding context_at
context_again content n h = rw (uint_again content n h.0, lt-ltb n 4294967296 h.1) refl

-- ---- a PDV

pair_found : (a b : Spot) (pdv : ℕ × Piece) → pair_at a b ≡ Some pdv → IsPair a b pdv
unfolding pair_at
pair_found a b pdv h =
    let t = chosen (eqb a.element.tag INTEGER) (and_then (context_at a.element.content) (λ n. cond (eqb b.element.tag SINGLE_ASN1_TYPE) (and_then (only_in (content_piece b)) (λ s. Some (n, content_piece b))) None)) pdv h in
    let n = then_some (context_at a.element.content) (λ n. cond (eqb b.element.tag SINGLE_ASN1_TYPE) (and_then (only_in (content_piece b)) (λ s. Some (n, content_piece b))) None) pdv t.1 in
    let u = chosen (eqb b.element.tag SINGLE_ASN1_TYPE) (and_then (only_in (content_piece b)) (λ s. Some (n.0, content_piece b))) pdv n.2 in
    let s = then_some (only_in (content_piece b)) (λ s. Some (n.0, content_piece b)) pdv u.1 in
    subst (λ (p : ℕ × Piece). IsPair a b p) (some_is (n.0, content_piece b) pdv s.2)
    (eqb-true a.element.tag INTEGER t.0, context_found a.element.content n.0 n.1, eqb-true b.element.tag SINGLE_ASN1_TYPE u.0, refl, s.0, single_found (content_piece b) s.0 s.1)

pair_again : (a b : Spot) (pdv : ℕ × Piece) → IsPair a b pdv → pair_at a b ≡ Some pdv
unfolding pair_at
pair_again a b pdv (ta, n, tb, is, s, are) =
    rw (eq-eqb a.element.tag INTEGER ta, context_again a.element.content pdv.0 n, eq-eqb b.element.tag SINGLE_ASN1_TYPE tb, sym is, single_again pdv.1 s are) refl

pdv_found : (fields : List Spot) (pdv : ℕ × Piece) → pdv_at fields ≡ Some pdv → IsPdv fields pdv
pdv_found [] pdv h = absurd cc
pdv_found (a ∷ []) pdv h = absurd cc
pdv_found (a ∷ b ∷ []) pdv h = pair_found a b pdv h
pdv_found (a ∷ b ∷ c ∷ []) pdv h = let t = chosen (eqb a.element.tag OBJECT_IDENTIFIER) (pair_at b c) pdv h in (eqb-true a.element.tag OBJECT_IDENTIFIER t.0, pair_found b c pdv t.1)
pdv_found (a ∷ b ∷ c ∷ d ∷ more) pdv h = absurd cc

pdv_again : (fields : List Spot) (pdv : ℕ × Piece) → IsPdv fields pdv → pdv_at fields ≡ Some pdv
pdv_again [] pdv h = absurd h
pdv_again (a ∷ []) pdv h = absurd h
pdv_again (a ∷ b ∷ []) pdv h = pair_again a b pdv h
pdv_again (a ∷ b ∷ c ∷ []) pdv h = rw (eq-eqb a.element.tag OBJECT_IDENTIFIER h.0) (pair_again b c pdv h.1)
pdv_again (a ∷ b ∷ c ∷ d ∷ more) pdv h = absurd h

pub pdv_list_found : (values : Piece) (pdv : ℕ × Piece) → pdv_list_at values ≡ Some pdv → IsPdvList values pdv
unfolding pdv_list_at
pdv_list_found values pdv h =
    let value = then_some (only_with SEQUENCE values) (λ value. and_then (fields_in value) pdv_at) pdv h in
    let fields = then_some (fields_in value.0) pdv_at pdv value.2 in
    (value.0, only_with-found SEQUENCE values value.0 value.1, fields.0, fields_found value.0 fields.0 fields.1, pdv_found fields.0 pdv fields.2)

pub pdv_list_again : (values : Piece) (pdv : ℕ × Piece) → IsPdvList values pdv → pdv_list_at values ≡ Some pdv
unfolding pdv_list_at
pdv_list_again values pdv (value, only, fields, are, is) = rw (only_with-again SEQUENCE values value only, fields_again value fields are) (pdv_again fields pdv is)

-- ---- user data

pub user_data_found : (input : Piece) (pdv : ℕ × Piece) → user_data_at input ≡ Some pdv → IsUserData input pdv
unfolding user_data_at
user_data_found input pdv h =
    let values = then_some (only_with FULLY_ENCODED_DATA input) pdv_list_at pdv h in
    (values.0, only_with-found FULLY_ENCODED_DATA input values.0 values.1, pdv_list_found values.0 pdv values.2)

pub user_data_again : (input : Piece) (pdv : ℕ × Piece) → IsUserData input pdv → user_data_at input ≡ Some pdv
unfolding user_data_at
user_data_again input pdv (values, only, is) = rw (only_with-again FULLY_ENCODED_DATA input values only) (pdv_list_again values pdv is)

pub data_reads : {X : Type 0} (view : X → ℕ × Piece) (r : Result X SpFault) (input : Piece) → Gives view r (required faults.Pdv (user_data_at input)) → Reads {Y = ℕ × Piece} view r (IsUserData input) (IsLacking faults.Pdv (IsUserData input))
data_reads view r input g = reads_from view r (required faults.Pdv (user_data_at input)) (IsUserData input) (IsLacking faults.Pdv (IsUserData input)) (required_exact (user_data_at input) faults.Pdv (IsUserData input) (user_data_found input) (user_data_again input)) g
