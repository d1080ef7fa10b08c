-- What is read of Data is the value that they are, and each value is read.
use Rattle.std.proofs.Common.{◌≡◌, List, map, Some, Result, Ok, refl, sym, ap, subst, ◌∙◌}
use Rattle.std.specs.Prelude.{MatchResult}
use Rattle.std.specs.Result.{result_unwrap_or}
use Rattle.list_laws.proofs.Options.{ok_is}
use Rattle.ber_grammar.specs.Octets.{IsBytes}
use Rattle.ber_grammar.specs.Place.{Spot, Piece}
use Rattle.ber_grammar.proofs.OptionLaws.{kept_some}
use Rattle.ber_grammar.proofs.ReaderLaws.{bind_ok}
use Rattle.sv_base.specs.Tree.{Seen, plain, other}
use Rattle.mms_data.specs.declared.fault.DataFault.{DataFault}
use Rattle.mms_data.specs.Grammar.{IsWithin, IsRefusedData}
use Rattle.mms_data.specs.Reading.{data_at}
use Rattle.mms_data.specs.View.{view_at}
use Rattle.mms_data.proofs.GrammarLaws.{data_exact, data_again}
use Rattle.mms_pdu.specs.Each.{each_in}
use Rattle.mms_pdu.specs.Datum.{AreData, datum_at, value_at}
use Rattle.mms_pdu.proofs.EachLaws.{each_found, each_again}

-- a value that was read of an element is the one that it stands for
pub value_is : (s : Spot) (v : Seen) → data_at 10 s.element ≡ Ok v → value_at s ≡ v
unfolding value_at
value_is s v read = rw read refl

pub datum_found : (s d : Spot) → IsBytes s.element.content → datum_at s ≡ Some d → IsWithin 10 s.element (value_at d)
unfolding view_at value_at
datum_found s d fits h =
    let a = bind_ok (data_at 10 s.element) (λ value. Ok s) d (kept_some (view_at s) d h) in
    let same : s ≡ d = ok_is {F = DataFault} s d a.2 in
    let is : IsWithin 10 s.element a.0 = subst (λ (r : Result Seen DataFault). MatchResult r (IsWithin 10 s.element) (IsRefusedData 10 s.element)) a.1 (data_exact 10 s.element fits).tells in
    let value : a.0 ≡ result_unwrap_or (data_at 10 d.element) (plain other) = ap (λ (r : Result Seen DataFault). result_unwrap_or r (plain other)) (sym a.1) ∙ ap (λ (x : Spot). result_unwrap_or (data_at 10 x.element) (plain other)) same in
    subst (λ (x : Seen). IsWithin 10 s.element x) value is

pub datum_again : (s : Spot) (v : Seen) → IsBytes s.element.content → IsWithin 10 s.element v → (d : Spot) × (datum_at s ≡ Some d) × (value_at d ≡ v)
unfolding view_at value_at
datum_again s v fits h =
    let read = data_again 10 s.element v fits h in
    (s, rw read refl, rw read refl)

pub data_found : (p : Piece) (ds : List Spot) → IsBytes p.octets → each_in datum_at p ≡ Some ds → AreData p.octets (map value_at ds)
data_found p ds fits h = each_found datum_at (IsWithin 10) value_at datum_found p ds fits h

pub list_again : (p : Piece) (values : List Seen) → IsBytes p.octets → AreData p.octets values → (ds : List Spot) × (each_in datum_at p ≡ Some ds) × (map value_at ds ≡ values)
list_again p values fits (es, row, h) = each_again datum_at (IsWithin 10) value_at datum_again p es values fits row h
