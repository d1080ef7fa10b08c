-- What reading says of a TPDU, and what is spelled is read.
use Rattle.std.proofs.Common.{◌≡◌, ◌≢◌, ℕ, ◌+◌, ◌*◌, ◌≤◌, ◌<◌, ◌⊎◌, Bool, true, false, cond, eqb, ltb, List, [], ◌∷◌, ◌++◌, length, Option, Some, None, Result, Ok, Err, refl, sym, ap, subst, ◌∙◌, inl, inr, arith}
use Rattle.std.specs.Prelude.{MatchResult}
use Rattle.std.specs.List.{flat_map}
use Rattle.std.proofs.lemmas.Bool.{eqb-true, eqb-false, ltb-true, ltb-false, lt-ltb, le-ltb, ne_eqb, eq-eqb, cond_both}
use Rattle.std.proofs.lemmas.List.{length-append}
use Rattle.tpkt_cotp.specs.declared.codes.TheConstants.{CR, CC, DR, DT, ER, END_OF_TSDU}
use Rattle.tpkt_cotp.specs.declared.fault.TpFault.{TpFault}
use Rattle.tpkt_cotp.specs.declared.fault.TpFault.TheVariants as faults
use Rattle.tpkt_cotp.specs.declared.state.State.{State}
use Rattle.tpkt_cotp.specs.declared.tsdus.Cr.{Cr}
use Rattle.tpkt_cotp.specs.declared.tsdus.Tsdu.{Tsdu}
use Rattle.tpkt_cotp.specs.declared.tsdus.Tsdu.TheVariants.{Connect, Data, Disconnect}
use Rattle.ber_grammar.specs.Reader.{◌>>=◌}
use Rattle.tpkt_cotp.specs.Parameters.{spelled, parameters_of}
use Rattle.tpkt_cotp.specs.Tpdu.{awaited, HasHeader, IsConnection, IsTaken, IsMalformed, IsKnown, IsOutOfTurn, IsCodeRefused, IsRefusedTpdu, connection_at, connect_at, segment_at, data_at, coded_at, tpdu_at}
use Rattle.tpkt_cotp.proofs.ParameterLaws.{ParametersTell, unsaid, over_unsaid, parameters_tell, parameters_again, parameters_refused}

-- ---- what follows the code of a CR or a CC

abbrev ConnectionTells : ℕ → List ℕ → Result Cr TpFault → Type 0
ConnectionTells li rest (Ok cr) = IsConnection li rest cr
ConnectionTells li rest (Err f) = IsMalformed li rest f

with_parameters : (li a b c d class : ℕ) (more : List ℕ) (r : Result Cr TpFault) → li ≡ 6 + length more → class < 16 → ParametersTell (unsaid (c * 256 + d)) more r → ConnectionTells li (a ∷ b ∷ c ∷ d ∷ class ∷ more) r
with_parameters li a b c d class more (Ok cr) count low (ps, whole, all, says) = record {
  dst_high = a;
  dst_low = b;
  src_high = c;
  src_low = d;
  class = class;
  parameters = ps;
  whole = ap (λ (x : List ℕ). a ∷ b ∷ c ∷ d ∷ class ∷ x) whole;
  header = count ∙ ap (λ (x : List ℕ). 6 + length x) whole;
  class_zero = low;
  each = all;
  says = says ∙ over_unsaid (c * 256 + d) ps;
}
with_parameters li a b c d class more (Err f) count low (same, bad) = inr (inr (inr (same, count, low, bad)))

connection_tells : (li : ℕ) (rest : List ℕ) → ConnectionTells li rest (connection_at li rest)
connection_tells li [] = refl
connection_tells li (a ∷ []) = refl
connection_tells li (a ∷ b ∷ []) = refl
connection_tells li (a ∷ b ∷ c ∷ []) = refl
connection_tells li (a ∷ b ∷ c ∷ d ∷ []) = refl
connection_tells li (a ∷ b ∷ c ∷ d ∷ class ∷ more) =
    let read = parameters_of (unsaid (c * 256 + d)) more in
    let whole = cond (eqb li (6 + length more)) read (Err faults.Tpdu) in
    cond_both (ltb li 6) (Err faults.Tpdu) (cond (ltb class 16) whole (Err faults.Class)) (λ r. ConnectionTells li (a ∷ b ∷ c ∷ d ∷ class ∷ more) r)
    (λ e. inl (refl, ltb-true li 6 e))
    (λ e. let long : 6 ≤ li = ltb-false li 6 e in
    cond_both (ltb class 16) whole (Err faults.Class) (λ r. ConnectionTells li (a ∷ b ∷ c ∷ d ∷ class ∷ more) r)
    (λ low. cond_both (eqb li (6 + length more)) read (Err faults.Tpdu) (λ r. ConnectionTells li (a ∷ b ∷ c ∷ d ∷ class ∷ more) r)
    (λ count. with_parameters li a b c d class more read (eqb-true li (6 + length more) count) (ltb-true class 16 low) (parameters_tell (unsaid (c * 256 + d)) more))
    (λ other. inr (inr (inl (refl, long, ltb-true class 16 low, eqb-false li (6 + length more) other)))))
    (λ high. inr (inl (refl, long, ltb-false class 16 high))))

pub connection_again : (li : ℕ) (rest : List ℕ) (cr : Cr) → IsConnection li rest cr → connection_at li rest ≡ Ok cr
connection_again li rest cr is =
    let ps = is.parameters in
    let src : ℕ = is.src_high * 256 + is.src_low in
    let read : parameters_of (unsaid src) (flat_map spelled ps) ≡ Ok cr = parameters_again (unsaid src) ps is.each ∙ ap (λ (x : Cr). let y : Result Cr TpFault = Ok x in y) (over_unsaid src ps ∙ sym is.says) in
    let long : 6 ≤ li = omega (arith, is.header) in
    ap (connection_at li) is.whole ∙ rw (le-ltb li 6 long, lt-ltb is.class 16 is.class_zero, eq-eqb li (6 + length (flat_map spelled ps)) is.header) read

malformed_again : (li : ℕ) (rest : List ℕ) (f : TpFault) → IsMalformed li rest f → connection_at li rest ≡ Err f
malformed_again li [] f h = ap (λ (x : TpFault). let y : Result Cr TpFault = Err x in y) (sym h)
malformed_again li (a ∷ []) f h = ap (λ (x : TpFault). let y : Result Cr TpFault = Err x in y) (sym h)
malformed_again li (a ∷ b ∷ []) f h = ap (λ (x : TpFault). let y : Result Cr TpFault = Err x in y) (sym h)
malformed_again li (a ∷ b ∷ c ∷ []) f h = ap (λ (x : TpFault). let y : Result Cr TpFault = Err x in y) (sym h)
malformed_again li (a ∷ b ∷ c ∷ d ∷ []) f h = ap (λ (x : TpFault). let y : Result Cr TpFault = Err x in y) (sym h)
malformed_again li (a ∷ b ∷ c ∷ d ∷ class ∷ more) f (inl (same, short)) = rw (lt-ltb li 6 short, same) refl
malformed_again li (a ∷ b ∷ c ∷ d ∷ class ∷ more) f (inr (inl (same, long, high))) = rw (le-ltb li 6 long, le-ltb class 16 high, same) refl
malformed_again li (a ∷ b ∷ c ∷ d ∷ class ∷ more) f (inr (inr (inl (same, long, low, other)))) = rw (le-ltb li 6 long, lt-ltb class 16 low, ne_eqb li (6 + length more) other, same) refl
malformed_again li (a ∷ b ∷ c ∷ d ∷ class ∷ more) f (inr (inr (inr (same, count, low, bad)))) =
    let long : 6 ≤ li = omega (arith, count) in
    rw (le-ltb li 6 long, lt-ltb class 16 low, eq-eqb li (6 + length more) count, same) (parameters_refused (unsaid (c * 256 + d)) more bad)

-- ---- after a header that is whole

abbrev CodedTells : State → ℕ → ℕ → List ℕ → Result (State × Option Tsdu) TpFault → Type 0
CodedTells s li code rest (Ok x) = IsTaken s (li ∷ code ∷ rest) x.0 x.1
CodedTells s li code rest (Err f) = IsCodeRefused s li code rest f

abbrev made : State → Cr → Result (State × Option Tsdu) TpFault
made s cr = Ok (record { dialled = s.dialled; connected = true; tsdu = s.tsdu }, Some (Connect cr))

made_tells : (s : State) (li code : ℕ) (rest : List ℕ) (r : Result Cr TpFault) → s.connected ≡ false → code ≡ awaited s.dialled → ConnectionTells li rest r → CodedTells s li code rest (r >>= made s)
made_tells s li code rest (Ok cr) none turn h = (none, li, rest, ap (λ (x : ℕ). li ∷ x ∷ rest) turn, h, refl)
made_tells s li code rest (Err f) none turn h = inr (inr (inl (none, turn, h)))

connect_tells : (s : State) (is_awaited : Bool) (li code : ℕ) (rest : List ℕ) → (is_awaited ≡ true → code ≡ awaited s.dialled) → (is_awaited ≡ false → code ≢ awaited s.dialled) → (code ≡ CR) ⊎ (code ≡ CC)
    → CodedTells s li code rest (connect_at s is_awaited li rest)
connect_tells s is_awaited li code rest turn other known =
    cond_both is_awaited (cond s.connected (Err faults.Sequence) (connection_at li rest >>= made s)) (Err faults.Sequence) (λ r. CodedTells s li code rest r)
    (λ e. cond_both s.connected (Err faults.Sequence) (connection_at li rest >>= made s) (λ r. CodedTells s li code rest r)
    (λ there. inr (inl (refl, inr (known, inl there))))
    (λ none. made_tells s li code rest (connection_at li rest) none (turn e) (connection_tells li rest)))
    (λ e. inr (inl (refl, inr (known, inr (other e)))))

segment_tells : (s : State) (li : ℕ) (rest : List ℕ) → s.connected ≡ true → li ≡ 2 → HasHeader li rest → CodedTells s li DT rest (segment_at s rest)
segment_tells s li [] there two header = absurd (omega (arith, header.1, two))
segment_tells s li (nr ∷ octets) there two header =
    cond_both (ltb 70000 (length s.tsdu + length octets)) (Err faults.TsduLimit) _ (λ r. CodedTells s li DT (nr ∷ octets) r)
    (λ e. inr (inr (inr (inr (refl, there, refl, two, nr, octets, refl, ltb-true 70000 (length s.tsdu + length octets) e)))))
    (λ e. let few : length (s.tsdu ++ octets) ≤ 70000 = omega (arith, length-append s.tsdu octets, ltb-false 70000 (length s.tsdu + length octets) e) in
    cond_both (ltb nr END_OF_TSDU) (Ok (record { dialled = s.dialled; connected = true; tsdu = s.tsdu ++ octets }, None)) (Ok (record { dialled = s.dialled; connected = true; tsdu = [] }, Some (Data (s.tsdu ++ octets)))) (λ r. CodedTells s li DT (nr ∷ octets) r)
    (λ low. (there, nr, octets, ap (λ (x : ℕ). x ∷ DT ∷ nr ∷ octets) two, ltb-true nr END_OF_TSDU low, few, refl))
    (λ high. (there, nr, octets, ap (λ (x : ℕ). x ∷ DT ∷ nr ∷ octets) two, ltb-false nr END_OF_TSDU high, refl, few, refl)))

data_tells : (s : State) (li : ℕ) (rest : List ℕ) → HasHeader li rest → CodedTells s li DT rest (data_at s li rest)
data_tells s li rest header =
    cond_both s.connected (cond (eqb li 2) (segment_at s rest) (Err faults.Tpdu)) (Err faults.Sequence) (λ r. CodedTells s li DT rest r)
    (λ there. cond_both (eqb li 2) (segment_at s rest) (Err faults.Tpdu) (λ r. CodedTells s li DT rest r)
    (λ e. segment_tells s li rest there (eqb-true li 2 e) header)
    (λ e. inr (inr (inr (inl (refl, there, refl, eqb-false li 2 e))))))
    (λ none. inr (inl (refl, inl (refl, none))))

other_true : (b : Bool) → cond b false true ≡ true → b ≡ false
other_true true e = cc
other_true false e = refl

other_false : (b : Bool) → cond b false true ≡ false → b ≡ true
other_false true e = refl
other_false false e = cc

awaited_dialled : (b : Bool) → b ≡ true → awaited b ≡ CC
awaited_dialled b e = rw e refl

awaited_listening : (b : Bool) → b ≡ false → awaited b ≡ CR
awaited_listening b e = rw e refl

coded_tells : (s : State) (li code : ℕ) (rest : List ℕ) → HasHeader li rest → CodedTells s li code rest (coded_at s li code rest)
coded_tells s li code rest header =
    cond_both (eqb code DT) (data_at s li rest) _ (λ r. CodedTells s li code rest r)
    (λ e. subst (λ (x : ℕ). CodedTells s li x rest (data_at s li rest)) (sym (eqb-true code DT e)) (data_tells s li rest header))
    (λ e1. cond_both (eqb code CR) (connect_at s (cond s.dialled false true) li rest) _ (λ r. CodedTells s li code rest r)
    (λ e. let is : code ≡ CR = eqb-true code CR e in
    connect_tells s (cond s.dialled false true) li code rest (λ h. is ∙ sym (awaited_listening s.dialled (other_true s.dialled h))) (λ h k. absurd (omega (arith, is, k, awaited_dialled s.dialled (other_false s.dialled h)))) (inl is))
    (λ e2. cond_both (eqb code CC) (connect_at s s.dialled li rest) _ (λ r. CodedTells s li code rest r)
    (λ e. let is : code ≡ CC = eqb-true code CC e in
    connect_tells s s.dialled li code rest (λ h. is ∙ sym (awaited_dialled s.dialled h)) (λ h k. absurd (omega (arith, is, k, awaited_listening s.dialled h))) (inr is))
    (λ e3. cond_both (eqb code DR) (Ok (s, Some Disconnect)) _ (λ r. CodedTells s li code rest r)
    (λ e. (li, code, rest, refl, header, inl (eqb-true code DR e), refl))
    (λ e4. cond_both (eqb code ER) (Ok (s, Some Disconnect)) (Err faults.Tpdu) (λ r. CodedTells s li code rest r)
    (λ e. (li, code, rest, refl, header, inr (eqb-true code ER e), refl))
    (λ e5. inl (refl, unknown code (eqb-false code DT e1) (eqb-false code CR e2) (eqb-false code CC e3) (eqb-false code DR e4) (eqb-false code ER e5)))))))
  where
    unknown : (code : ℕ) → code ≢ DT → code ≢ CR → code ≢ CC → code ≢ DR → code ≢ ER → ¬ IsKnown code
    unknown code a b c d e (inl h) = a h
    unknown code a b c d e (inr (inl h)) = b h
    unknown code a b c d e (inr (inr (inl h))) = c h
    unknown code a b c d e (inr (inr (inr (inl h)))) = d h
    unknown code a b c d e (inr (inr (inr (inr h)))) = e h

-- ---- a TPDU

abbrev pub TpduTells : State → List ℕ → Result (State × Option Tsdu) TpFault → Type 0
TpduTells s tpdu (Ok x) = IsTaken s tpdu x.0 x.1
TpduTells s tpdu (Err f) = IsRefusedTpdu s tpdu f

headed_tells : (s : State) (li code : ℕ) (rest : List ℕ) (r : Result (State × Option Tsdu) TpFault) → HasHeader li rest → CodedTells s li code rest r → TpduTells s (li ∷ code ∷ rest) r
headed_tells s li code rest (Ok x) header h = h
headed_tells s li code rest (Err f) header h = inr (header, h)

pub tpdu_tells : (s : State) (tpdu : List ℕ) → TpduTells s tpdu (tpdu_at s tpdu)
unfolding tpdu_at
tpdu_tells s [] = refl
tpdu_tells s (li ∷ []) = refl
tpdu_tells s (li ∷ code ∷ rest) =
    cond_both (eqb li 0) (Err faults.Tpdu) (cond (ltb (1 + length rest) li) (Err faults.Tpdu) (coded_at s li code rest)) (λ r. TpduTells s (li ∷ code ∷ rest) r)
    (λ e. inl (refl, λ h. omega (arith, h.0, eqb-true li 0 e)))
    (λ e. cond_both (ltb (1 + length rest) li) (Err faults.Tpdu) (coded_at s li code rest) (λ r. TpduTells s (li ∷ code ∷ rest) r)
    (λ k. inl (refl, λ h. omega (arith, h.1, ltb-true (1 + length rest) li k)))
    (λ k. let some : li ≢ 0 = eqb-false li 0 e in
    let fits : li ≤ 1 + length rest = ltb-false (1 + length rest) li k in
    let header : HasHeader li rest = (omega arith, fits) in
    headed_tells s li code rest (coded_at s li code rest) header (coded_tells s li code rest header)))

-- ---- what is spelled is read

pub header_again : (s : State) (li code : ℕ) (rest : List ℕ) → HasHeader li rest → tpdu_at s (li ∷ code ∷ rest) ≡ coded_at s li code rest
unfolding tpdu_at
header_again s li code rest header =
    let some : li ≢ 0 = omega (arith, header.0) in
    rw (ne_eqb li 0 some, le-ltb (1 + length rest) li header.1) refl

no_header_again : (s : State) (li code : ℕ) (rest : List ℕ) → ¬ HasHeader li rest → tpdu_at s (li ∷ code ∷ rest) ≡ Err faults.Tpdu
unfolding tpdu_at
no_header_again s li code rest none =
    cond_both (eqb li 0) (Err faults.Tpdu) (cond (ltb (1 + length rest) li) (Err faults.Tpdu) (coded_at s li code rest)) (λ r. r ≡ Err faults.Tpdu)
    (λ e. refl)
    (λ e. cond_both (ltb (1 + length rest) li) (Err faults.Tpdu) (coded_at s li code rest) (λ r. r ≡ Err faults.Tpdu)
    (λ k. refl)
    (λ k. let some : li ≢ 0 = eqb-false li 0 e in
    let fits : li ≤ 1 + length rest = ltb-false (1 + length rest) li k in
    absurd (none (omega arith, fits))))

-- the awaited one of CR and CC
awaited_coded : (s : State) (li code : ℕ) (rest : List ℕ) → code ≡ awaited s.dialled → coded_at s li code rest ≡ connect_at s true li rest
awaited_coded s li code rest is =
    cond_both s.dialled true false (λ b. coded_at s li code rest ≡ connect_at s true li rest)
    (λ e. let code_is : code ≡ CC = is ∙ awaited_dialled s.dialled e in rw (code_is, e) refl)
    (λ e. let code_is : code ≡ CR = is ∙ awaited_listening s.dialled e in rw (code_is, e) refl)

connection_header : (li : ℕ) (rest : List ℕ) (cr : Cr) → IsConnection li rest cr → HasHeader li rest
connection_header li rest cr is = (omega (arith, is.header), omega (arith, is.header, ap length is.whole))

data_coded : (s : State) (rest : List ℕ) → s.connected ≡ true → coded_at s 2 DT rest ≡ segment_at s rest
data_coded s rest there = rw there refl

segment_fits : (tsdu octets : List ℕ) → length (tsdu ++ octets) ≤ 70000 → ltb 70000 (length tsdu + length octets) ≡ false
segment_fits tsdu octets le = le-ltb 70000 (length tsdu + length octets) (omega (arith, length-append tsdu octets))

pub taken_again : (s t : State) (tpdu : List ℕ) (e : Option Tsdu) → IsTaken s tpdu t e → tpdu_at s tpdu ≡ Ok (t, e)
taken_again s t tpdu (Some (Connect cr)) (none, li, rest, whole, is, to) =
    ap (λ (x : List ℕ). tpdu_at s x) whole ∙ header_again s li (awaited s.dialled) rest (connection_header li rest cr is) ∙ awaited_coded s li (awaited s.dialled) rest refl
    ∙ rw (none, connection_again li rest cr is, to) refl
taken_again s t tpdu (Some (Data octets)) (there, nr, more, whole, end, is, few, to) =
    let count : length (s.tsdu ++ more) ≤ 70000 = subst (λ (x : List ℕ). length x ≤ 70000) is few in
    ap (λ (x : List ℕ). tpdu_at s x) whole ∙ header_again s 2 DT (nr ∷ more) (omega arith, omega arith) ∙ data_coded s (nr ∷ more) there
    ∙ rw (segment_fits s.tsdu more count, le-ltb nr END_OF_TSDU end, is, to) refl
taken_again s t tpdu (Some Disconnect) (li, code, rest, whole, header, inl is, to) =
    ap (λ (x : List ℕ). tpdu_at s x) whole ∙ header_again s li code rest header ∙ rw (is, to) refl
taken_again s t tpdu (Some Disconnect) (li, code, rest, whole, header, inr is, to) =
    ap (λ (x : List ℕ). tpdu_at s x) whole ∙ header_again s li code rest header ∙ rw (is, to) refl
taken_again s t tpdu None (there, nr, more, whole, not_end, few, to) =
    ap (λ (x : List ℕ). tpdu_at s x) whole ∙ header_again s 2 DT (nr ∷ more) (omega arith, omega arith) ∙ data_coded s (nr ∷ more) there
    ∙ rw (segment_fits s.tsdu more few, lt-ltb nr END_OF_TSDU not_end, to) refl

unknown_again : (s : State) (li code : ℕ) (rest : List ℕ) → ¬ IsKnown code → coded_at s li code rest ≡ Err faults.Tpdu
unknown_again s li code rest none =
    rw (ne_eqb code DT (λ h. none (inl h)), ne_eqb code CR (λ h. none (inr (inl h))), ne_eqb code CC (λ h. none (inr (inr (inl h)))), ne_eqb code DR (λ h. none (inr (inr (inr (inl h))))), ne_eqb code ER (λ h. none (inr (inr (inr (inr h)))))) refl

-- a CR or a CC of a connection that is there
there_coded : (s : State) (is_awaited : Bool) (li : ℕ) (rest : List ℕ) → (s.connected ≡ true) ⊎ (is_awaited ≡ false) → connect_at s is_awaited li rest ≡ Err faults.Sequence
there_coded s true li rest (inl there) = rw there refl
there_coded s false li rest (inl there) = refl
there_coded s true li rest (inr other) = absurd cc
there_coded s false li rest (inr other) = refl

turn_request : (s : State) → (s.connected ≡ true) ⊎ (CR ≢ awaited s.dialled) → (s.connected ≡ true) ⊎ (cond s.dialled false true ≡ false)
turn_request s (inl there) = inl there
turn_request s (inr other) = inr (flipped s.dialled other)
  where
    flipped : (b : Bool) → CR ≢ awaited b → cond b false true ≡ false
    flipped true h = refl
    flipped false h = absurd (h refl)

turn_confirm : (s : State) → (s.connected ≡ true) ⊎ (CC ≢ awaited s.dialled) → (s.connected ≡ true) ⊎ (s.dialled ≡ false)
turn_confirm s (inl there) = inl there
turn_confirm s (inr other) = inr (flipped s.dialled other)
  where
    flipped : (b : Bool) → CC ≢ awaited b → b ≡ false
    flipped true h = absurd (h refl)
    flipped false h = refl

turn_again : (s : State) (li code : ℕ) (rest : List ℕ) → IsOutOfTurn s code → coded_at s li code rest ≡ Err faults.Sequence
turn_again s li code rest (inl (is, none)) = rw (is, none) refl
turn_again s li code rest (inr (inl is, turn)) =
    ap (λ (x : ℕ). coded_at s li x rest) is ∙ there_coded s (cond s.dialled false true) li rest (turn_request s (subst (λ (x : ℕ). (s.connected ≡ true) ⊎ (x ≢ awaited s.dialled)) is turn))
turn_again s li code rest (inr (inr is, turn)) =
    ap (λ (x : ℕ). coded_at s li x rest) is ∙ there_coded s s.dialled li rest (turn_confirm s (subst (λ (x : ℕ). (s.connected ≡ true) ⊎ (x ≢ awaited s.dialled)) is turn))

coded_again : (s : State) (li code : ℕ) (rest : List ℕ) (f : TpFault) → IsCodeRefused s li code rest f → coded_at s li code rest ≡ Err f
coded_again s li code rest f (inl (same, none)) = rw same (unknown_again s li code rest none)
coded_again s li code rest f (inr (inl (same, turn))) = rw same (turn_again s li code rest turn)
coded_again s li code rest f (inr (inr (inl (none, is, bad)))) = awaited_coded s li code rest is ∙ rw (none, malformed_again li rest f bad) refl
coded_again s li code rest f (inr (inr (inr (inl (same, there, is, ne))))) = rw (same, is, there, ne_eqb li 2 ne) refl
coded_again s li code rest f (inr (inr (inr (inr (same, there, is, two, nr, more, whole, many))))) = rw (same, is, two, whole, there, lt-ltb 70000 (length s.tsdu + length more) many) refl

nothing_again : (s : State) (f : TpFault) → f ≡ faults.Tpdu → tpdu_at s [] ≡ Err f
unfolding tpdu_at
nothing_again s f h = rw h refl

lone_again : (s : State) (li : ℕ) (f : TpFault) → f ≡ faults.Tpdu → tpdu_at s (li ∷ []) ≡ Err f
unfolding tpdu_at
lone_again s li f h = rw h refl

pub refused_again : (s : State) (tpdu : List ℕ) (f : TpFault) → IsRefusedTpdu s tpdu f → tpdu_at s tpdu ≡ Err f
refused_again s [] f h = nothing_again s f h
refused_again s (li ∷ []) f h = lone_again s li f h
refused_again s (li ∷ code ∷ rest) f (inl (same, none)) = rw same (no_header_again s li code rest none)
refused_again s (li ∷ code ∷ rest) f (inr (header, h)) = header_again s li code rest header ∙ coded_again s li code rest f h

-- ---- the whole

matches : (s : State) (tpdu : List ℕ) (r : Result (State × Option Tsdu) TpFault) → TpduTells s tpdu r → MatchResult r (λ x. IsTaken s tpdu x.0 x.1) (λ f. IsRefusedTpdu s tpdu f)
matches s tpdu (Ok x) h = h
matches s tpdu (Err f) h = h

pub tpdu_matches : (s : State) (tpdu : List ℕ) → MatchResult (tpdu_at s tpdu) (λ x. IsTaken s tpdu x.0 x.1) (λ f. IsRefusedTpdu s tpdu f)
tpdu_matches s tpdu = matches s tpdu (tpdu_at s tpdu) (tpdu_tells s tpdu)
