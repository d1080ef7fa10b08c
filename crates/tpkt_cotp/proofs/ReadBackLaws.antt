-- What one side writes the other side reads.
use Rattle.std.proofs.Common.{◌≡◌, ◌≢◌, ℕ, zero, suc, ◌+◌, ◌-◌, ◌*◌, ◌/◌, ◌%◌, ◌<◌, ◌≤◌, Bool, true, false, List, [], ◌∷◌, ◌++◌, length, take, drop, min, Option, Some, None, Ok, refl, sym, ap, subst, ◌∙◌, append_assoc, arith}
use Rattle.std.specs.Prelude.{MatchOption}
use Rattle.std.specs.List.{flat_map, AllByRecursion}
use Rattle.std.proofs.Math.Nat.{lt-mul-div-succ}
use Rattle.std.proofs.lemmas.List.{append-nil, length-append, length-take, length-drop, take-append-drop}
use Rattle.std.proofs.lemmas.List.Concat.{flat_map-append, flat_map-cons}
use Rattle.tpkt_cotp.specs.declared.codes.TheConstants.{CR, CC, DT, TPDU_SIZE, CALLING, CALLED, END_OF_TSDU}
use Rattle.tpkt_cotp.specs.declared.state.State.{State}
use Rattle.tpkt_cotp.specs.declared.tsdus.Cr.{Cr}
use Rattle.tpkt_cotp.specs.declared.tsdus.Tsdu.{Tsdu}
use Rattle.tpkt_cotp.specs.declared.tsdus.Tsdu.TheVariants.{Connect, Data}
use Rattle.ber_grammar.specs.Octets.{IsBytes}
use Rattle.tpkt_cotp.specs.Packet.{packet, IsTpdu}
use Rattle.tpkt_cotp.specs.Parameters.{Parameter, spelled, IsAllowed, said}
use Rattle.tpkt_cotp.specs.Tpdu.{IsConnection, awaited, tpdu_at}
use Rattle.tpkt_cotp.specs.Stream.{start, Runs, Takes, StandsAt}
use Rattle.tpkt_cotp.specs.Written.{size_parameter, selector, parameters_for, IsCr, connection, confirm_of, called_with, confirmed, call_of, IsExponent, room, segments_at, segments_of, tsdu_of}
use Rattle.tpkt_cotp.proofs.TpduLaws.{taken_again}
use Rattle.tpkt_cotp.proofs.WrittenLaws.{room_bounds}
use Rattle.tpkt_cotp.proofs.StreamLaws.{Takes-one, Takes-then, partial_none, one_stream}

-- ---- the DTs of a TSDU

abbrev with_tsdu : State → List ℕ → State
with_tsdu s octets = record { dialled = s.dialled; connected = true; tsdu = octets }

segments_run : (n most : ℕ) (octets : List ℕ) (s : State) → s.connected ≡ true → length (s.tsdu ++ octets) ≤ 70000 → Runs s (segments_at n most octets) (Data (s.tsdu ++ octets) ∷ []) (with_tsdu s [])
segments_run zero most octets s there few =
    (with_tsdu s [], Some (Data (s.tsdu ++ octets)), [], taken_again s (with_tsdu s []) (2 ∷ DT ∷ END_OF_TSDU ∷ octets) (Some (Data (s.tsdu ++ octets))) (there, END_OF_TSDU, octets, refl, omega arith, refl, few, refl), refl, (refl, refl))
segments_run (suc n) most octets s there few =
    let front : List ℕ = take most octets in
    let whole : (s.tsdu ++ front) ++ drop most octets ≡ s.tsdu ++ octets = append_assoc s.tsdu front (drop most octets) ∙ ap (λ (x : List ℕ). s.tsdu ++ x) (take-append-drop most octets) in
    let some : length (s.tsdu ++ front) ≤ 70000 = omega (arith, few, ap length whole, length-append (s.tsdu ++ front) (drop most octets)) in
    let rest = segments_run n most (drop most octets) (with_tsdu s (s.tsdu ++ front)) refl (subst (λ (x : List ℕ). length x ≤ 70000) (sym whole) few) in (
      with_tsdu s (s.tsdu ++ front),
      None,
      Data (s.tsdu ++ octets) ∷ [],
      taken_again s (with_tsdu s (s.tsdu ++ front)) (2 ∷ DT ∷ 0 ∷ front) None (there, 0, front, refl, omega arith, some, refl),
      refl,
      subst (λ (x : List ℕ). Runs (with_tsdu s (s.tsdu ++ front)) (segments_at n most (drop most octets)) (Data x ∷ []) (with_tsdu s [])) whole rest,
    )

segments_fit : (n most : ℕ) (octets : List ℕ) → most ≤ 65528 → length octets ≤ most * suc n → AllByRecursion IsTpdu (segments_at n most octets)
segments_fit zero most octets few le = ((omega arith, omega (arith, le)), tt)
segments_fit (suc n) most octets few le =
    ((omega arith, omega (arith, length-take most octets)), segments_fit n most (drop most octets) few (omega (arith, length-drop most octets, le)))

pub segments_all : (most : ℕ) (octets : List ℕ) → 0 < most → most ≤ 65528 → AllByRecursion IsTpdu (segments_of most octets)
unfolding segments_of
segments_all most octets some few =
    let lt : length octets - 1 < most * ((length octets - 1) / most + 1) = lt-mul-div-succ (length octets - 1) some in
    segments_fit ((length octets - 1) / most) most octets few (omega (arith, lt))

segments_give : (most : ℕ) (octets : List ℕ) (s : State) → s.connected ≡ true → length (s.tsdu ++ octets) ≤ 70000 → Runs s (segments_of most octets) (Data (s.tsdu ++ octets) ∷ []) (with_tsdu s [])
unfolding segments_of
segments_give most octets s there few = segments_run ((length octets - 1) / most) most octets s there few

pub tsdu_takes : (e : ℕ) (octets : List ℕ) (s : State) → IsExponent e → s.connected ≡ true → length (s.tsdu ++ octets) ≤ 70000 → Takes s (tsdu_of e octets) (Data (s.tsdu ++ octets) ∷ []) (with_tsdu s []) []
unfolding tsdu_of
tsdu_takes e octets s is there few =
    let b = room_bounds e is in
    record {
      tpdus = segments_of (room e) octets;
      whole = sym (append-nil (flat_map packet (segments_of (room e) octets)));
      each = segments_all (room e) octets (omega (arith, b.0)) b.1;
      runs = segments_give (room e) octets s there few;
    }

-- A TSDU that is written after a stream with nothing open is given, whatever was given before, and nothing is open then.
pub tsdu_stands : (dialled : Bool) (s : State) (b octets : List ℕ) (e : ℕ) (es : List Tsdu) → IsBytes (b ++ tsdu_of e octets) → IsExponent e → length octets ≤ 70000 → s.connected ≡ true → s.tsdu ≡ [] → StandsAt dialled s [] b es
    → StandsAt dialled (with_tsdu s []) [] (b ++ tsdu_of e octets) (es ++ Data octets ∷ [])
tsdu_stands dialled s b octets e es fits is few there none before =
    let same : s.tsdu ++ octets ≡ octets = ap (λ (x : List ℕ). x ++ octets) none in
    let takes : Takes s (tsdu_of e octets) (Data octets ∷ []) (with_tsdu s []) [] = subst (λ (x : List ℕ). Takes s (tsdu_of e octets) (Data x ∷ []) (with_tsdu s []) []) same (tsdu_takes e octets s is there (subst (λ (x : List ℕ). length x ≤ 70000) (sym same) few)) in
    record { fits = fits; takes = Takes-then (start dialled) s (with_tsdu s []) b (tsdu_of e octets) [] [] es (Data octets ∷ []) before.takes takes; partial = partial_none }

pub tsdu_read : (dialled : Bool) (s t : State) (rest b octets : List ℕ) (e : ℕ) (es ds : List Tsdu) → IsExponent e → length octets ≤ 70000 → s.connected ≡ true → s.tsdu ≡ [] → StandsAt dialled s [] b es
    → StandsAt dialled t rest (b ++ tsdu_of e octets) ds → (ds ≡ es ++ Data octets ∷ []) × (rest ≡ []) × (t.connected ≡ true) × (t.tsdu ≡ [])
tsdu_read dialled s t rest b octets e es ds is few there none before after =
    let one = one_stream dialled t (with_tsdu s []) rest [] (b ++ tsdu_of e octets) ds (es ++ Data octets ∷ []) after (tsdu_stands dialled s b octets e es after.fits is few there none before) in
    (one.0, one.2, ap (λ (x : State). x.connected) one.1, ap (λ (x : State). x.tsdu) one.1)

-- ---- a CR and a CC

abbrev size_list : Option ℕ → List Parameter
size_list None = []
size_list (Some e) = record { code = TPDU_SIZE; value = e ∷ [] } ∷ []

abbrev selector_list : ℕ → Option (List ℕ) → List Parameter
selector_list code None = []
selector_list code (Some value) = record { code = code; value = value } ∷ []

abbrev list_for : Option ℕ → Option (List ℕ) → Option (List ℕ) → List Parameter
list_for size calling called = size_list size ++ (selector_list CALLED called ++ selector_list CALLING calling)

abbrev cr_of : ℕ → Option ℕ → Option (List ℕ) → Option (List ℕ) → Cr
cr_of src size calling called = record { src = src; size = size; calling = calling; called = called }

size_spelled : (size : Option ℕ) → size_parameter size ≡ flat_map spelled (size_list size)
size_spelled None = refl
size_spelled (Some e) = refl

selector_spelled : (code : ℕ) (value : Option (List ℕ)) → selector code value ≡ flat_map spelled (selector_list code value)
selector_spelled code None = refl
selector_spelled code (Some value) = let p : Parameter = record { code = code; value = value } in sym (append-nil (spelled p)) ∙ sym (flat_map-cons spelled p [])

list_spelled : (src : ℕ) (size : Option ℕ) (calling called : Option (List ℕ)) → parameters_for (cr_of src size calling called) ≡ flat_map spelled (list_for size calling called)
list_spelled src size calling called =
    rw (size_spelled size, selector_spelled CALLED called, selector_spelled CALLING calling)
    (sym (flat_map-append spelled (size_list size) (selector_list CALLED called ++ selector_list CALLING calling) ∙ ap (λ (x : List ℕ). flat_map spelled (size_list size) ++ x) (flat_map-append spelled (selector_list CALLED called) (selector_list CALLING calling))))

abbrev IsSize : Option ℕ → Type 0
IsSize size = MatchOption size (Unit {0}) (λ e. (7 ≤ e) × (e ≤ 13))

least_is : (e : ℕ) → e ≤ 13 → e ≡ min e 13
least_is e le = omega arith

list_says : (src : ℕ) (size : Option ℕ) (calling called : Option (List ℕ)) → IsSize size → cr_of src size calling called ≡ said src (list_for size calling called)
list_says src None None None is = refl
list_says src None None (Some b) is = refl
list_says src None (Some a) None is = refl
list_says src None (Some a) (Some b) is = refl
list_says src (Some e) None None is = ap (λ (x : ℕ). cr_of src (Some x) None None) (least_is e is.1)
list_says src (Some e) None (Some b) is = ap (λ (x : ℕ). cr_of src (Some x) None (Some b)) (least_is e is.1)
list_says src (Some e) (Some a) None is = ap (λ (x : ℕ). cr_of src (Some x) (Some a) None) (least_is e is.1)
list_says src (Some e) (Some a) (Some b) is = ap (λ (x : ℕ). cr_of src (Some x) (Some a) (Some b)) (least_is e is.1)

other_code : (code : ℕ) (value : List ℕ) → code ≢ TPDU_SIZE → IsAllowed (record { code = code; value = value })
other_code code value ne is = absurd (ne is)

list_allowed : (size : Option ℕ) (calling called : Option (List ℕ)) → IsSize size → AllByRecursion IsAllowed (list_for size calling called)
list_allowed None None None is = tt
list_allowed None None (Some b) is = (other_code CALLED b (omega arith), tt)
list_allowed None (Some a) None is = (other_code CALLING a (omega arith), tt)
list_allowed None (Some a) (Some b) is = (other_code CALLED b (omega arith), (other_code CALLING a (omega arith), tt))
list_allowed (Some e) None None is = (λ _. (e, refl, is.0), tt)
list_allowed (Some e) None (Some b) is = (λ _. (e, refl, is.0), (other_code CALLED b (omega arith), tt))
list_allowed (Some e) (Some a) None is = (λ _. (e, refl, is.0), (other_code CALLING a (omega arith), tt))
list_allowed (Some e) (Some a) (Some b) is = (λ _. (e, refl, is.0), (other_code CALLED b (omega arith), (other_code CALLING a (omega arith), tt)))

whole_src : (src : ℕ) → src ≡ src / 256 * 256 + src % 256
whole_src src = omega arith

pub is_connection : (dst src : ℕ) (cr : Cr) → cr.src ≡ src → IsCr cr → IsConnection (6 + length (parameters_for cr)) (dst / 256 ∷ dst % 256 ∷ src / 256 ∷ src % 256 ∷ 0 ∷ parameters_for cr) cr
is_connection dst src cr same is =
    let ps = list_for cr.size cr.calling cr.called in
    let spelling : parameters_for cr ≡ flat_map spelled ps = list_spelled cr.src cr.size cr.calling cr.called in
    record {
      dst_high = dst / 256;
      dst_low = dst % 256;
      src_high = src / 256;
      src_low = src % 256;
      class = 0;
      parameters = ps;
      whole = ap (λ (x : List ℕ). dst / 256 ∷ dst % 256 ∷ src / 256 ∷ src % 256 ∷ 0 ∷ x) spelling;
      header = ap (λ (x : List ℕ). 6 + length x) spelling;
      class_zero = omega arith;
      each = list_allowed cr.size cr.calling cr.called is.0;
      says = list_says cr.src cr.size cr.calling cr.called is.0 ∙ ap (λ (x : ℕ). said x ps) (same ∙ whole_src src);
    }

abbrev opened : Bool → State
opened dialled = record { dialled = dialled; connected = true; tsdu = [] }

-- The first TPDU of a stream is the awaited one, as it is written.
connection_stands : (dialled : Bool) (octets : List ℕ) (dst : ℕ) (cr : Cr) → IsBytes octets → IsCr cr → octets ≡ packet (connection (awaited dialled) dst cr.src (parameters_for cr)) → StandsAt dialled (opened dialled) [] octets (Connect cr ∷ [])
connection_stands dialled octets dst cr fits is whole =
    let tpdu : List ℕ = connection (awaited dialled) dst cr.src (parameters_for cr) in
    let step : tpdu_at (start dialled) tpdu ≡ Ok (opened dialled, Some (Connect cr)) = taken_again (start dialled) (opened dialled) tpdu (Some (Connect cr)) (refl, 6 + length (parameters_for cr), _, refl, is_connection dst cr.src cr refl is, refl) in
    let one : IsTpdu tpdu = (omega arith, omega (arith, is.1)) in
    record { fits = fits; takes = Takes-one (start dialled) (opened dialled) octets tpdu [] (Some (Connect cr)) one (whole ∙ sym (append-nil (packet tpdu))) step; partial = partial_none }

connection_read : (dialled : Bool) (t : State) (rest octets : List ℕ) (dst : ℕ) (cr : Cr) (ds : List Tsdu) → IsCr cr → octets ≡ packet (connection (awaited dialled) dst cr.src (parameters_for cr)) → StandsAt dialled t rest octets ds
    → (ds ≡ Connect cr ∷ []) × (rest ≡ []) × (t.connected ≡ true) × (t.tsdu ≡ [])
connection_read dialled t rest octets dst cr ds is whole after =
    let one = one_stream dialled t (opened dialled) rest [] octets ds (Connect cr ∷ []) after (connection_stands dialled octets dst cr after.fits is whole) in
    (one.0, one.2, ap (λ (x : State). x.connected) one.1, ap (λ (x : State). x.tsdu) one.1)

-- The CC that is written is read by the side that dialled.
pub confirm_stands : (cr : Cr) → IsBytes (confirm_of cr) → IsCr cr → StandsAt true (opened true) [] (confirm_of cr) (Connect (confirmed cr) ∷ [])
unfolding confirm_of
confirm_stands cr fits is = connection_stands true (packet (connection CC cr.src 1 (parameters_for cr))) cr.src (confirmed cr) fits is refl

pub confirm_read : (t : State) (rest : List ℕ) (cr : Cr) (ds : List Tsdu) → IsCr cr → StandsAt true t rest (confirm_of cr) ds → (ds ≡ Connect (confirmed cr) ∷ []) × (rest ≡ []) × (t.connected ≡ true) × (t.tsdu ≡ [])
unfolding confirm_of
confirm_read t rest cr ds is after = connection_read true t rest (packet (connection CC cr.src 1 (parameters_for cr))) cr.src (confirmed cr) ds is refl after

pub called_fits : (src : ℕ) → IsCr (called_with src)
called_fits src = ((omega arith, omega arith), omega arith)

-- The CR that is written is read by the other side.
pub call_stands : (src : ℕ) → IsBytes (call_of src) → StandsAt false (opened false) [] (call_of src) (Connect (called_with src) ∷ [])
unfolding call_of
call_stands src fits = connection_stands false (packet (connection CR 0 src (parameters_for (called_with src)))) 0 (called_with src) fits (called_fits src) refl

pub call_read : (t : State) (rest : List ℕ) (src : ℕ) (ds : List Tsdu) → StandsAt false t rest (call_of src) ds → (ds ≡ Connect (called_with src) ∷ []) × (rest ≡ []) × (t.connected ≡ true) × (t.tsdu ≡ [])
unfolding call_of
call_read t rest src ds after = connection_read false t rest (packet (connection CR 0 src (parameters_for (called_with src)))) 0 (called_with src) ds (called_fits src) refl after
