-- What is written are octets.
use Rattle.std.proofs.Common.{◌≡◌, ℕ, zero, suc, ◌+◌, ◌-◌, ◌/◌, ◌%◌, ◌^◌, ◌<◌, ◌≤◌, Bool, true, false, List, [], ◌∷◌, ◌++◌, length, take, drop, refl, sym, subst, arith}
use Rattle.std.specs.List.{flat_map, AllByRecursion}
use Rattle.std.proofs.lemmas.List.{take-append-drop}
use Rattle.std.proofs.lemmas.List.Concat.{flat_map-cons}
use Rattle.ber_grammar.specs.Octets.{IsBytes}
use Rattle.ber_grammar.proofs.OctetLaws.{IsBytes-cons, IsBytes-front, IsBytes-back, IsBytes-append}
use Rattle.tpkt_cotp.specs.declared.codes.TheConstants.{CR, CC, DT, END_OF_TSDU}
use Rattle.tpkt_cotp.specs.declared.tsdus.Cr.{Cr}
use Rattle.tpkt_cotp.specs.declared.state.State.{State}
use Rattle.tpkt_cotp.specs.declared.tsdus.Tsdu.{Tsdu}
use Rattle.tpkt_cotp.specs.declared.tsdus.Tsdu.TheVariants.{Connect, Data}
use Rattle.tpkt_cotp.specs.Packet.{packet, IsTpdu}
use Rattle.tpkt_cotp.specs.Stream.{StandsAt}
use Rattle.tpkt_cotp.specs.Written.{parameters_for, IsCr, connection, confirm_of, confirmed, called_with, call_of, IsExponent, room, segments_at, segments_of, tsdu_of}
use Rattle.tpkt_cotp.proofs.ReadBackLaws.{segments_all, called_fits, tsdu_stands, confirm_stands, call_stands}
use Rattle.tpkt_cotp.proofs.WrittenLaws.{room_bounds}

pub packet_octets : (tpdu : List ℕ) → IsTpdu tpdu → IsBytes tpdu → IsBytes (packet tpdu)
packet_octets tpdu is fits =
    let len : List ℕ = (length tpdu + 4) / 256 ∷ (length tpdu + 4) % 256 ∷ tpdu in
    IsBytes-cons 3 (0 ∷ len) (omega arith) (IsBytes-cons 0 len (omega arith) (IsBytes-cons ((length tpdu + 4) / 256) ((length tpdu + 4) % 256 ∷ tpdu) (omega (arith, is.1)) (IsBytes-cons ((length tpdu + 4) % 256) tpdu (omega arith) fits)))

-- ---- the DTs of a TSDU

dt_octets : (nr : ℕ) (octets : List ℕ) → nr < 256 → IsBytes octets → IsBytes (2 ∷ DT ∷ nr ∷ octets)
dt_octets nr octets lt fits = IsBytes-cons 2 (DT ∷ nr ∷ octets) (omega arith) (IsBytes-cons DT (nr ∷ octets) (omega arith) (IsBytes-cons nr octets lt fits))

segments_octets : (n most : ℕ) (octets : List ℕ) → IsBytes octets → AllByRecursion IsBytes (segments_at n most octets)
segments_octets zero most octets fits = (dt_octets END_OF_TSDU octets (omega arith) fits, tt)
segments_octets (suc n) most octets fits =
    let whole : IsBytes (take most octets ++ drop most octets) = subst IsBytes (sym (take-append-drop most octets)) fits in
    (dt_octets 0 (take most octets) (omega arith) (IsBytes-front (take most octets) (drop most octets) whole), segments_octets n most (drop most octets) (IsBytes-back (take most octets) (drop most octets) whole))

all_octets : (most : ℕ) (octets : List ℕ) → IsBytes octets → AllByRecursion IsBytes (segments_of most octets)
unfolding segments_of
all_octets most octets fits = segments_octets ((length octets - 1) / most) most octets fits

packets_octets : (tpdus : List (List ℕ)) → AllByRecursion IsTpdu tpdus → AllByRecursion IsBytes tpdus → IsBytes (flat_map packet tpdus)
packets_octets [] each fits = λ i. omega arith
packets_octets (p ∷ ps) each fits = subst IsBytes (sym (flat_map-cons packet p ps)) (IsBytes-append (packet p) (flat_map packet ps) (packet_octets p each.0 fits.0) (packets_octets ps each.1 fits.1))

pub tsdu_octets : (e : ℕ) (octets : List ℕ) → IsExponent e → IsBytes octets → IsBytes (tsdu_of e octets)
unfolding tsdu_of
tsdu_octets e octets is fits =
    let b = room_bounds e is in
    packets_octets (segments_of (room e) octets) (segments_all (room e) octets (omega (arith, b.0)) b.1) (all_octets (room e) octets fits)

-- ---- a CR and a CC

connection_octets : (code dst src : ℕ) (parameters : List ℕ) → code < 256 → dst < 2 ^ 16 → src < 2 ^ 16 → length parameters ≤ 249 → IsBytes parameters → IsBytes (packet (connection code dst src parameters))
connection_octets code dst src parameters low dst_low src_low few fits =
    let class : List ℕ = 0 ∷ parameters in
    let source : List ℕ = src / 256 ∷ src % 256 ∷ class in
    let target : List ℕ = dst / 256 ∷ dst % 256 ∷ source in
    packet_octets (connection code dst src parameters) (omega arith, omega (arith, few))
    (IsBytes-cons (6 + length parameters) (code ∷ target) (omega (arith, few)) (IsBytes-cons code target low
    (IsBytes-cons (dst / 256) (dst % 256 ∷ source) (omega (arith, dst_low)) (IsBytes-cons (dst % 256) source (omega arith)
    (IsBytes-cons (src / 256) (src % 256 ∷ class) (omega (arith, src_low)) (IsBytes-cons (src % 256) class (omega arith) (IsBytes-cons 0 parameters (omega arith) fits)))))))

pub confirm_octets : (cr : Cr) → IsCr cr → cr.src < 2 ^ 16 → IsBytes (parameters_for cr) → IsBytes (confirm_of cr)
unfolding confirm_of
confirm_octets cr is low fits = connection_octets CC cr.src 1 (parameters_for cr) (omega arith) low (omega arith) is.1 fits

few_octets : (xs : List ℕ) → AllByRecursion (λ x. x < 256) xs → IsBytes xs
few_octets [] all = λ i. omega arith
few_octets (x ∷ xs) all = IsBytes-cons x xs all.0 (few_octets xs all.1)

called_octets : (src : ℕ) → IsBytes (parameters_for (called_with src))
called_octets src =
    few_octets (parameters_for (called_with src)) (omega arith, (omega arith, (omega arith, (omega arith, (omega arith, (omega arith, (omega arith, (omega arith, (omega arith, (omega arith, (omega arith, tt)))))))))))

pub call_octets : (src : ℕ) → src < 2 ^ 16 → IsBytes (call_of src)
unfolding call_of
call_octets src low = connection_octets CR 0 src (parameters_for (called_with src)) (omega arith) (omega arith) low (called_fits src).1 (called_octets src)

-- ---- what the other side stands for then

-- a connection is there, and no TSDU is open
abbrev OpenAt : Bool → List ℕ → List Tsdu → Type 0
OpenAt dialled octets es = (t : State) × StandsAt dialled t [] octets es × (t.connected ≡ true) × (t.tsdu ≡ [])

pub tsdu_taken : (dialled : Bool) (s : State) (b octets : List ℕ) (e : ℕ) (es : List Tsdu) → IsExponent e → length octets ≤ 70000 → IsBytes octets → StandsAt dialled s [] b es → s.connected ≡ true → s.tsdu ≡ [] → OpenAt dialled (b ++ tsdu_of e octets) (es ++ Data octets ∷ [])
tsdu_taken dialled s b octets e es is few fits before there none =
    (record { dialled = s.dialled; connected = true; tsdu = [] }, tsdu_stands dialled s b octets e es (IsBytes-append b (tsdu_of e octets) before.fits (tsdu_octets e octets is fits)) is few there none before, refl, refl)

pub call_taken : (src : ℕ) → src < 2 ^ 16 → OpenAt false (call_of src) (Connect (called_with src) ∷ [])
call_taken src low = (_, call_stands src (call_octets src low), refl, refl)

pub confirm_taken : (cr : Cr) → IsCr cr → cr.src < 2 ^ 16 → IsBytes (parameters_for cr) → OpenAt true (confirm_of cr) (Connect (confirmed cr) ∷ [])
confirm_taken cr is low fits = (_, confirm_stands cr (confirm_octets cr is low fits) is, refl, refl)
