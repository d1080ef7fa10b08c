-- The laws of streams, told of the objects that stand for them.
use Rattle.std.proofs.Common.{◌≡◌, ℕ, ◌+◌, ◌≤◌, Bool, true, false, List, [], ◌∷◌, ◌++◌, length, Option, refl, sym, subst, ◌∙◌, arith}
use Rattle.std.specs.List.{AllByRecursion}
use Rattle.tpkt_cotp.specs.declared.fault.TpFault.{TpFault}
use Rattle.tpkt_cotp.specs.declared.state.State.{State}
use Rattle.tpkt_cotp.specs.declared.transport.TransportIn.{TransportIn}
use Rattle.tpkt_cotp.specs.declared.tsdus.Cr.{Cr}
use Rattle.tpkt_cotp.specs.declared.tsdus.Tsdu.{Tsdu}
use Rattle.tpkt_cotp.specs.declared.tsdus.Tsdu.TheVariants.{Connect, Data}
use Rattle.tpkt_cotp.specs.Tpdu.{IsConnection}
use Rattle.tpkt_cotp.specs.Stream.{StandsFor, StandsAt, IsRefused, IsOpen, Keeps}
use Rattle.tpkt_cotp.specs.Written.{IsCr, IsExponent, Fits, room, AreSegments, segments_of, tsdu_of, parameters_for, confirm_of, confirmed, call_of, called_with}
use Rattle.tpkt_cotp.proofs.StreamLaws.{one_stream, never_both}
use Rattle.tpkt_cotp.proofs.WrittenLaws.{room_bounds, segments_are, segments_only}
use Rattle.tpkt_cotp.proofs.ReadBackLaws.{is_connection, tsdu_read, confirm_read, call_read}
use Rattle.tpkt_cotp.proofs.KeptLaws as bounds

object_is : (held other : List ℕ) (s t : State) (f g : Option TpFault) → held ≡ other → s ≡ t → f ≡ g → (let x : TransportIn = record { held = held; state = s; refused = f } in x) ≡ (let y : TransportIn = record { held = other; state = t; refused = g } in y)
object_is held other s t f g p q r = rw (p, q, r) refl

pub one_object : (a b : TransportIn) (dialled : Bool) (octets : List ℕ) (es ds : List Tsdu) → StandsFor a dialled octets es → StandsFor b dialled octets ds → (es ≡ ds) × (a ≡ b)
one_object a b dialled octets es ds x y =
    let one = one_stream dialled a.state b.state a.held b.held octets es ds x.1 y.1 in
    (one.0, object_is a.held b.held a.state b.state a.refused b.refused one.2 one.1 (x.0 ∙ sym y.0))

pub never : (a : TransportIn) (dialled : Bool) (octets : List ℕ) (es ds : List Tsdu) (f : TpFault) → StandsFor a dialled octets es → IsRefused dialled octets ds f → ⊥
never a dialled octets es ds f x y = never_both dialled a.state a.held octets es ds f x.1 y

pub keeps : (a : TransportIn) (dialled : Bool) (octets : List ℕ) (es : List Tsdu) → StandsFor a dialled octets es → Keeps a 65534 70000
keeps a dialled octets es x = let k = bounds.kept dialled a.state a.held octets es x.1 in (omega (arith, k.0), k.1)

pub fit : (a : TransportIn) (dialled : Bool) (octets : List ℕ) (es : List Tsdu) → StandsFor a dialled octets es → AllByRecursion Fits es
fit a dialled octets es x = bounds.all_fit dialled a.state a.held octets es x.1

pub segments : (exponent : ℕ) (octets : List ℕ) → IsExponent exponent → AreSegments (room exponent) octets (segments_of (room exponent) octets)
segments exponent octets is = segments_are (room exponent) octets (omega (arith, (room_bounds exponent is).0))

pub only : (exponent : ℕ) (octets : List ℕ) (tpdus : List (List ℕ)) → IsExponent exponent → AreSegments (room exponent) octets tpdus → tpdus ≡ segments_of (room exponent) octets
only exponent octets tpdus is are = segments_only (room exponent) octets tpdus (omega (arith, (room_bounds exponent is).0)) are

pub tsdu : (a b : TransportIn) (dialled : Bool) (before octets : List ℕ) (exponent : ℕ) (es ds : List Tsdu) → IsExponent exponent → length octets ≤ 70000
    → StandsFor a dialled before es → IsOpen a → StandsFor b dialled (before ++ tsdu_of exponent octets) ds → (ds ≡ es ++ Data octets ∷ []) × IsOpen b
tsdu a b dialled before octets exponent es ds is few x open_a y =
    let stood : StandsAt dialled a.state [] before es = subst (λ (h : List ℕ). StandsAt dialled a.state h before es) open_a.0 x.1 in
    let r = tsdu_read dialled a.state b.state b.held before octets exponent es ds is few open_a.1 open_a.2 stood y.1 in
    (r.0, (r.1, r.2, r.3))

pub call : (a : TransportIn) (src : ℕ) (es : List Tsdu) → StandsFor a false (call_of src) es → (es ≡ Connect (called_with src) ∷ []) × IsOpen a
call a src es x = let r = call_read a.state a.held src es x.1 in (r.0, (r.1, r.2, r.3))

pub confirm : (a : TransportIn) (cr : Cr) (es : List Tsdu) → IsCr cr → StandsFor a true (confirm_of cr) es → (es ≡ Connect (confirmed cr) ∷ []) × IsOpen a
confirm a cr es is x = let r = confirm_read a.state a.held cr es is x.1 in (r.0, (r.1, r.2, r.3))

pub said : (cr : Cr) → IsCr cr → (li : ℕ) × (rest : List ℕ) × (li ≤ 255) × IsConnection li rest cr
said cr is = (6 + length (parameters_for cr), _, omega (arith, is.1), is_connection 0 cr.src cr refl is)
