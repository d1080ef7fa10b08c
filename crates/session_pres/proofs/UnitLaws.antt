-- SPDUs are read as they are spelled.
use Rattle.std.proofs.Common.{◌≡◌, ℕ, ◌+◌, true, false, cond, eqb, List, [], ◌∷◌, ◌++◌, length, drop, Option, Some, None, Result, Ok, Err, inl, inr, refl, sym, ap, subst, ◌∙◌, arith}
use Rattle.std.specs.Prelude.{◌&&◌}
use Rattle.std.proofs.lemmas.Bool.{eqb-true, eq-eqb, cond_both, and_parts}
use Rattle.std.proofs.lemmas.List.{length-append, drop_at}
use Rattle.list_laws.proofs.Options.{some_is, chosen}
use Rattle.ber_grammar.specs.Place.{Piece}
use Rattle.ber_grammar.specs.Reader.{◌>>=◌, Gives, Reads}
use Rattle.ber_grammar.proofs.OptionLaws.{then_some}
use Rattle.ber_grammar.proofs.ReaderLaws.{reads_from}
use Rattle.session_pres.specs.declared.codes.TheConstants.{FINISH, CONNECT, ABORT}
use Rattle.session_pres.specs.declared.fault.SpFault.{SpFault}
use Rattle.session_pres.specs.declared.fault.SpFault.TheVariants as faults
use Rattle.ber_grammar.specs.Steps.{Then, IsLacking, required}
use Rattle.session_pres.specs.Places.{behind}
use Rattle.session_pres.specs.Parameters.{IsLength, IsUserOf}
use Rattle.session_pres.specs.ParameterReading.{length_at, user_at}
use Rattle.session_pres.specs.Units.{IsUnit, HasUser, IsUserRefused, HasData, IsDataRefused, Seen, connect, transfer, finish, abort, IsTransfer, IsSpdu, begins, HasCode, IsSpduRefused}
use Rattle.session_pres.specs.UnitReading.{counted_at, unit_at, user_of, data_of, is_transfer, transfer_at, spdu_at}
use Rattle.session_pres.proofs.ParameterLaws.{LengthTells, length_tells, length_again, user_found, user_again, piece_is}
use Rattle.ber_grammar.proofs.StepLaws.{Exact, then_exact, step_exact, required_exact, made_exact}

-- ---- a code and a length

begins_found : (code : ℕ) (octets : List ℕ) → begins code octets ≡ true → octets ≡ code ∷ drop 1 octets
begins_found code [] h = absurd cc
begins_found code (a ∷ rest) h = ap (λ (x : ℕ). x ∷ rest) (eqb-true a code h)

begins_again : (code : ℕ) (octets rest : List ℕ) → octets ≡ code ∷ rest → begins code octets ≡ true
begins_again code octets rest p = ap (begins code) p ∙ eq-eqb code code refl

abbrev IsCounted : Piece → Piece → Type 0
IsCounted input parameters = (len : List ℕ) × IsLength len (length parameters.octets) × (input.octets ≡ len ++ parameters.octets) × (parameters ≡ behind (length len) input)

counted_from : (input : Piece) (x : ℕ × ℕ) → LengthTells input.octets (Some x) → length input.octets ≡ x.1 + x.0 → IsCounted input (behind x.1 input)
counted_from input x (len, rest, is_length, p, q) count =
    let after : drop x.1 input.octets ≡ rest = ap (drop x.1) p ∙ drop_at len rest x.1 (sym q) in
    let size : length (drop x.1 input.octets) ≡ x.0 = ap (λ (xs : List ℕ). length xs) after ∙ omega (arith, count, q, ap (λ (xs : List ℕ). length xs) p, length-append len rest) in
    (len, subst (λ (n : ℕ). IsLength len n) (sym size) is_length, p ∙ ap (λ (xs : List ℕ). len ++ xs) (sym after), ap (λ (n : ℕ). behind n input) q)

counted_found : (input parameters : Piece) → counted_at input ≡ Some parameters → IsCounted input parameters
unfolding counted_at
counted_found input parameters h =
    let x = then_some (length_at input.octets) (λ len. cond (eqb (length input.octets) (len.1 + len.0)) (Some (behind len.1 input)) None) parameters h in
    let c = chosen (eqb (length input.octets) (x.0.1 + x.0.0)) (Some (behind x.0.1 input)) parameters x.2 in
    let tells = subst (λ (r : Option (ℕ × ℕ)). LengthTells input.octets r) x.1 (length_tells input.octets) in
    subst (λ (p : Piece). IsCounted input p) (some_is (behind x.0.1 input) parameters c.1) (counted_from input x.0 tells (eqb-true _ _ c.0))

counted_again : (input parameters : Piece) → IsCounted input parameters → counted_at input ≡ Some parameters
unfolding counted_at
counted_again input parameters (len, is_length, p, q) =
    let head : length_at input.octets ≡ Some (length parameters.octets, length len) = ap length_at p ∙ length_again len (length parameters.octets) parameters.octets is_length in
    let all : eqb (length input.octets) (length len + length parameters.octets) ≡ true = eq-eqb _ _ (ap (λ (xs : List ℕ). length xs) p ∙ length-append len parameters.octets) in
    rw (head, all) (ap (λ (x : Piece). Some x) (sym q))

pub unit_found : (code : ℕ) (input parameters : Piece) → unit_at code input ≡ Some parameters → IsUnit code input parameters
unfolding unit_at
unit_found code input parameters h =
    let c = chosen (begins code input.octets) (counted_at (behind 1 input)) parameters h in
    let counted = counted_found (behind 1 input) parameters c.1 in
    record {
      len = counted.0;
      is_length = counted.1;
      whole = begins_found code input.octets c.0 ∙ ap (λ (xs : List ℕ). code ∷ xs) counted.2;
      place = (ap (λ (p : Piece). p.block) counted.3, omega (arith, ap (λ (p : Piece). p.place) counted.3));
    }

pub unit_again : (code : ℕ) (input parameters : Piece) → IsUnit code input parameters → unit_at code input ≡ Some parameters
unfolding unit_at
unit_again code input parameters u =
    let rest : drop 1 input.octets ≡ u.len ++ parameters.octets = ap (drop 1) u.whole in
    let at : parameters ≡ behind (length u.len) (behind 1 input) =
    piece_is _ _ (sym (ap (drop (length u.len)) rest ∙ drop_at u.len parameters.octets (length u.len) refl)) u.place.0 (omega (arith, u.place.1)) in
    rw (begins_again code input.octets (u.len ++ parameters.octets) u.whole) (counted_again (behind 1 input) parameters (u.len, u.is_length, rest, at))

pub user_exact : (code : ℕ) (input : Piece) → Exact (user_of code input) (HasUser code input) (IsUserRefused code input)
unfolding user_of
user_exact code input =
    step_exact (unit_at code input) faults.Spdu (λ parameters. required faults.Parameter (user_at parameters)) (IsUnit code input) IsUserOf (λ parameters. IsLacking faults.Parameter (IsUserOf parameters))
    (unit_found code input) (unit_again code input) (λ parameters s. required_exact (user_at parameters) faults.Parameter (IsUserOf parameters) (user_found parameters) (user_again parameters))

pub data_exact : (code : ℕ) (input : Piece) → Exact (data_of code input) (HasData code input) (IsDataRefused code input)
unfolding data_of
data_exact code input =
    then_exact (user_of code input) (λ user. required faults.Parameter user) (HasUser code input) (IsUserRefused code input) (λ user given. user ≡ Some given) (λ user. IsLacking faults.Parameter (λ given. user ≡ Some given))
    (user_exact code input) (λ user s. required_exact user faults.Parameter (λ given. user ≡ Some given) (λ x h. h) (λ x h. h))

-- ---- an SPDU

code_of_user : (code : ℕ) (input : Piece) (user : Option Piece) → HasUser code input user → begins code input.octets ≡ true
code_of_user code input user (parameters, u, is) = begins_again code input.octets (u.len ++ parameters.octets) u.whole

code_of_data : (code : ℕ) (input user : Piece) → HasData code input user → begins code input.octets ≡ true
code_of_data code input user (found, h, is) = code_of_user code input found h

one_code : (c d : ℕ) (octets : List ℕ) → begins c octets ≡ true → begins d octets ≡ true → c ≡ d
one_code c d [] p q = absurd cc
one_code c d (a ∷ rest) p q = sym (eqb-true a c p) ∙ eqb-true a d q

code_of_transfer : (input user : Piece) → IsTransfer input user → begins 1 input.octets ≡ true
code_of_transfer input user h = begins_again 1 input.octets (0 ∷ 1 ∷ 0 ∷ user.octets) h.0

-- the code that a spelled SPDU has
abbrev code_of : Seen → ℕ
code_of (connect user) = CONNECT
code_of (transfer user) = 1
code_of (finish user) = FINISH
code_of abort = ABORT

has_code : (input : Piece) (s : Seen) → IsSpdu input s → begins (code_of s) input.octets ≡ true
has_code input (connect user) h = code_of_data CONNECT input user h
has_code input (transfer user) h = code_of_transfer input user h
has_code input (finish user) h = code_of_user FINISH input user h
has_code input abort (user, h) = code_of_user ABORT input user h

-- an SPDU of another code is none of this one
other_code : (input : Piece) (s : Seen) (code : ℕ) → begins code input.octets ≡ true → IsSpdu input s → code_of s ≡ code
other_code input s code b h = one_code (code_of s) code input.octets (has_code input s h) b

-- ---- the reader of each code gives what an SPDU that has it is

abbrev SpduExact : Piece → Result Seen SpFault → Type 0
SpduExact input r = Exact r (IsSpdu input) (IsSpduRefused input)

-- a reader of one form of SPDU, among all forms
among : {A : Type 0} (input : Piece) (r : Result A SpFault) (make : A → Seen) (S : A → Type 0) (R : SpFault → Type 0) → Exact r S R
    → ((x : A) → S x → IsSpdu input (make x)) → ((s : Seen) → IsSpdu input s → Then S (λ x y. y ≡ make x) s) → ((f : SpFault) → R f → IsSpduRefused input f) → ((f : SpFault) → IsSpduRefused input f → R f)
    → SpduExact input (r >>= λ x. Ok (make x))
among input (Ok x) make S R h to from refused back = let m = made_exact (Ok x) make S R h in record {
  tells = to x h.tells;
  only = λ y s. m.only y (from y s);
  refuses = λ f q. m.refuses f (back f q);
}
among input (Err d) make S R h to from refused back = let m = made_exact (Err d) make S R h in record {
  tells = refused d h.tells;
  only = λ y s. m.only y (from y s);
  refuses = λ f q. m.refuses f (back f q);
}

connect_from : (input : Piece) → HasCode CONNECT input → (s : Seen) → IsSpdu input s → Then (HasData CONNECT input) (λ x y. y ≡ connect x) s
connect_from input b (connect user) h = (user, h, refl)
connect_from input b (transfer user) h = absurd (omega (arith, other_code input (transfer user) CONNECT b h))
connect_from input b (finish user) h = absurd (omega (arith, other_code input (finish user) CONNECT b h))
connect_from input b abort h = absurd (omega (arith, other_code input abort CONNECT b h))

connect_back : (input : Piece) → HasCode CONNECT input → (f : SpFault) → IsSpduRefused input f → IsDataRefused CONNECT input f
connect_back input b f (inl (c, r)) = r
connect_back input b f (inr (inl (c, r))) = absurd (omega (arith, one_code FINISH CONNECT input.octets c b))
connect_back input b f (inr (inr (inl (c, r)))) = absurd (omega (arith, one_code ABORT CONNECT input.octets c b))
connect_back input b f (inr (inr (inr (e, none, n, o, others)))) = absurd (none b)

finish_from : (input : Piece) → HasCode FINISH input → (s : Seen) → IsSpdu input s → Then (HasUser FINISH input) (λ x y. y ≡ finish x) s
finish_from input b (connect user) h = absurd (omega (arith, other_code input (connect user) FINISH b h))
finish_from input b (transfer user) h = absurd (omega (arith, other_code input (transfer user) FINISH b h))
finish_from input b (finish user) h = (user, h, refl)
finish_from input b abort h = absurd (omega (arith, other_code input abort FINISH b h))

finish_back : (input : Piece) → HasCode FINISH input → (f : SpFault) → IsSpduRefused input f → IsUserRefused FINISH input f
finish_back input b f (inl (c, r)) = absurd (omega (arith, one_code CONNECT FINISH input.octets c b))
finish_back input b f (inr (inl (c, r))) = r
finish_back input b f (inr (inr (inl (c, r)))) = absurd (omega (arith, one_code ABORT FINISH input.octets c b))
finish_back input b f (inr (inr (inr (e, m, none, o, others)))) = absurd (none b)

abort_from : (input : Piece) → HasCode ABORT input → (s : Seen) → IsSpdu input s → Then (HasUser ABORT input) (λ x y. y ≡ abort) s
abort_from input b (connect user) h = absurd (omega (arith, other_code input (connect user) ABORT b h))
abort_from input b (transfer user) h = absurd (omega (arith, other_code input (transfer user) ABORT b h))
abort_from input b (finish user) h = absurd (omega (arith, other_code input (finish user) ABORT b h))
abort_from input b abort (user, h) = (user, h, refl)

abort_back : (input : Piece) → HasCode ABORT input → (f : SpFault) → IsSpduRefused input f → IsUserRefused ABORT input f
abort_back input b f (inl (c, r)) = absurd (omega (arith, one_code CONNECT ABORT input.octets c b))
abort_back input b f (inr (inl (c, r))) = absurd (omega (arith, one_code FINISH ABORT input.octets c b))
abort_back input b f (inr (inr (inl (c, r)))) = r
abort_back input b f (inr (inr (inr (e, m, n, none, others)))) = absurd (none b)

-- ---- data

four_found : (octets : List ℕ) → is_transfer octets ≡ true → octets ≡ 1 ∷ 0 ∷ 1 ∷ 0 ∷ drop 4 octets
four_found [] h = absurd cc
four_found (a ∷ []) h = absurd cc
four_found (a ∷ b ∷ []) h = absurd cc
four_found (a ∷ b ∷ c ∷ []) h = absurd cc
four_found (a ∷ b ∷ c ∷ d ∷ rest) h =
    let p = and_parts (eqb a 1 && eqb b 0 && eqb c 1) (eqb d 0) h in
    let q = and_parts (eqb a 1 && eqb b 0) (eqb c 1) p.0 in
    let r = and_parts (eqb a 1) (eqb b 0) q.0 in
    rw (eqb-true a 1 r.0, eqb-true b 0 r.1, eqb-true c 1 q.1, eqb-true d 0 p.1) refl

transfer_found : (input : Piece) (s : Seen) → transfer_at input ≡ Some s → IsSpdu input s
unfolding transfer_at
transfer_found input s h =
    let c = chosen (is_transfer input.octets) (Some (transfer (behind 4 input))) s h in
    subst (λ (x : Seen). IsSpdu input x) (some_is (transfer (behind 4 input)) s c.1) (four_found input.octets c.0, (refl, refl))

transfer_again : (input user : Piece) → IsTransfer input user → transfer_at input ≡ Some (transfer user)
unfolding transfer_at
transfer_again input user (p, at) =
    let test : is_transfer input.octets ≡ true = ap is_transfer p in
    let same : behind 4 input ≡ user = piece_is _ _ (ap (drop 4) p) (sym at.0) (sym at.1) in
    rw (test, same) refl

-- it has the code of no other form
record NoOther (input : Piece) : Type 0 where
  not_connect : begins CONNECT input.octets ≡ false
  not_finish : begins FINISH input.octets ≡ false
  not_abort : begins ABORT input.octets ≡ false

no_code : (code : ℕ) (input : Piece) → begins code input.octets ≡ false → HasCode code input → ⊥
no_code code input e h = cc

spelled_again : (input : Piece) → NoOther input → (s : Seen) → IsSpdu input s → transfer_at input ≡ Some s
spelled_again input n (connect user) h = absurd (no_code CONNECT input n.not_connect (has_code input (connect user) h))
spelled_again input n (transfer user) h = transfer_again input user h
spelled_again input n (finish user) h = absurd (no_code FINISH input n.not_finish (has_code input (finish user) h))
spelled_again input n abort h = absurd (no_code ABORT input n.not_abort (has_code input abort h))

none_spelled : (input : Piece) → ¬ HasCode CONNECT input → ¬ HasCode FINISH input → ¬ HasCode ABORT input → ((user : Piece) → ¬ IsTransfer input user) → (s : Seen) → ¬ IsSpdu input s
none_spelled input m n o none (connect user) = λ h. m (has_code input (connect user) h)
none_spelled input m n o none (transfer user) = none user
none_spelled input m n o none (finish user) = λ h. n (has_code input (finish user) h)
none_spelled input m n o none abort = λ h. o (has_code input abort h)

lacking_back : (input : Piece) → NoOther input → (f : SpFault) → IsSpduRefused input f → IsLacking faults.Spdu (IsSpdu input) f
lacking_back input n f (inl (c, r)) = absurd (no_code CONNECT input n.not_connect c)
lacking_back input n f (inr (inl (c, r))) = absurd (no_code FINISH input n.not_finish c)
lacking_back input n f (inr (inr (inl (c, r)))) = absurd (no_code ABORT input n.not_abort c)
lacking_back input n f (inr (inr (inr (e, m, k, o, none)))) = (e, none_spelled input m k o none)

refused_as : {A F : Type 0} (r : Result A F) (S : A → Type 0) (R Q : F → Type 0) → ((f : F) → R f → Q f) → ((f : F) → Q f → R f) → Exact r S R → Exact r S Q
refused_as (Ok x) S R Q to back h = record { tells = h.tells; only = h.only; refuses = λ f q. h.refuses f (back f q) }
refused_as (Err d) S R Q to back h = record { tells = to d h.tells; only = h.only; refuses = λ f q. h.refuses f (back f q) }

data_spdu : (input : Piece) → NoOther input → SpduExact input (required faults.Spdu (transfer_at input))
data_spdu input n =
    refused_as (required faults.Spdu (transfer_at input)) (IsSpdu input) (IsLacking faults.Spdu (IsSpdu input)) (IsSpduRefused input)
    (λ f (e, none). inr (inr (inr (e, no_code CONNECT input n.not_connect, no_code FINISH input n.not_finish, no_code ABORT input n.not_abort, λ user. none (transfer user)))))
    (lacking_back input n)
    (required_exact (transfer_at input) faults.Spdu (IsSpdu input) (transfer_found input) (spelled_again input n))

-- ---- any SPDU

pub spdu_exact : (input : Piece) → SpduExact input (spdu_at input)
unfolding spdu_at
spdu_exact input =
    cond_both (begins CONNECT input.octets) (data_of CONNECT input >>= λ given. Ok (connect given)) _ (SpduExact input)
    (λ b. among input (data_of CONNECT input) connect (HasData CONNECT input) (IsDataRefused CONNECT input) (data_exact CONNECT input) (λ x h. h) (connect_from input b) (λ f r. inl (b, r)) (connect_back input b))
    (λ m. cond_both (begins FINISH input.octets) (user_of FINISH input >>= λ user. Ok (finish user)) _ (SpduExact input)
    (λ b. among input (user_of FINISH input) finish (HasUser FINISH input) (IsUserRefused FINISH input) (user_exact FINISH input) (λ x h. h) (finish_from input b) (λ f r. inr (inl (b, r))) (finish_back input b))
    (λ n. cond_both (begins ABORT input.octets) (user_of ABORT input >>= λ user. Ok abort) (required faults.Spdu (transfer_at input)) (SpduExact input)
    (λ b. among input (user_of ABORT input) (λ user. abort) (HasUser ABORT input) (IsUserRefused ABORT input) (user_exact ABORT input) (λ x h. (x, h)) (abort_from input b) (λ f r. inr (inr (inl (b, r)))) (abort_back input b))
    (λ o. data_spdu input (record { not_connect = m; not_finish = n; not_abort = o }))))

pub spdu_reads : {X : Type 0} (view : X → Seen) (r : Result X SpFault) (input : Piece) → Gives view r (spdu_at input) → Reads view r (IsSpdu input) (IsSpduRefused input)
spdu_reads view r input g = reads_from view r (spdu_at input) (IsSpdu input) (IsSpduRefused input) (spdu_exact input) g

pub user_reads : {X : Type 0} (view : X → Option Piece) (r : Result X SpFault) (code : ℕ) (input : Piece) → Gives view r (user_of code input) → Reads view r (HasUser code input) (IsUserRefused code input)
user_reads view r code input g = reads_from view r (user_of code input) (HasUser code input) (IsUserRefused code input) (user_exact code input) g
