-- What is read is one thing, or refused for one cause, and never both.
use Rattle.std.proofs.Common.{◌≡◌, ℕ, Result, Ok, Err, sym, ◌∙◌}
use Rattle.list_laws.proofs.Options.{ok_is, err_is}
use Rattle.ber_grammar.specs.Place.{Piece}
use Rattle.ber_grammar.specs.Steps.{IsLacking, required}
use Rattle.ber_grammar.proofs.ReaderLaws.{gives_at, refuses_at}
use Rattle.ber_grammar.proofs.StepLaws.{Exact, required_exact}
use Rattle.session_pres.specs.declared.codes.TheConstants.{DISCONNECT}
use Rattle.session_pres.specs.declared.fault.SpFault.TheVariants as faults
use Rattle.session_pres.specs.Units.{HasUser, IsUserRefused, IsSpdu, IsSpduRefused}
use Rattle.session_pres.specs.UnitReading.{user_of, spdu_at}
use Rattle.session_pres.specs.UserData.{IsUserData, user_data_at}
use Rattle.session_pres.specs.Presentation.{IsCp, IsCpRefused, IsCpa, IsCpaRefused, IsAc, IsAcRefused}
use Rattle.session_pres.specs.PresentationReading.{cp_at, cpa_at, ac_at}
use Rattle.session_pres.specs.OneWay.{IsOneWay}
use Rattle.session_pres.proofs.UnitLaws.{user_exact, spdu_exact}
use Rattle.session_pres.proofs.UserDataLaws.{user_data_found, user_data_again}
use Rattle.session_pres.proofs.PresentationLaws.{cp_exact, cpa_exact, ac_exact}

not_both : {Y F : Type 0} (y : Y) (f : F) (r : Result Y F) → Ok y ≡ r → Err f ≡ r → ⊥
not_both y f (Ok z) e d = cc
not_both y f (Err g) e d = cc

one_way : {Y F : Type 0} (r : Result Y F) (S : Y → Type 0) (R : F → Type 0) → Exact r S R → IsOneWay S R
one_way {Y = Y} {F = F} r S R e = record {
  one_value = λ x y s t. ok_is {F = F} x y (gives_at r x (e.only x s) ∙ sym (gives_at r y (e.only y t)));
  one_cause = λ f g p q. err_is {A = Y} f g (refuses_at r f (e.refuses f p) ∙ sym (refuses_at r g (e.refuses g q)));
  not_both = λ x f s p. not_both x f r (gives_at r x (e.only x s)) (refuses_at r f (e.refuses f p));
}

pub spdu_one : (input : Piece) → IsOneWay (IsSpdu input) (IsSpduRefused input)
spdu_one input = one_way (spdu_at input) (IsSpdu input) (IsSpduRefused input) (spdu_exact input)

pub dn_one : (input : Piece) → IsOneWay (HasUser DISCONNECT input) (IsUserRefused DISCONNECT input)
dn_one input = one_way (user_of DISCONNECT input) (HasUser DISCONNECT input) (IsUserRefused DISCONNECT input) (user_exact DISCONNECT input)

pub cp_one : (input : Piece) → IsOneWay (IsCp input) (IsCpRefused input)
cp_one input = one_way (cp_at input) (IsCp input) (IsCpRefused input) (cp_exact input)

pub cpa_one : (input : Piece) → IsOneWay (IsCpa input) (IsCpaRefused input)
cpa_one input = one_way (cpa_at input) (IsCpa input) (IsCpaRefused input) (cpa_exact input)

pub ac_one : (input : Piece) → IsOneWay (IsAc input) (IsAcRefused input)
ac_one input = one_way (ac_at input) (IsAc input) (IsAcRefused input) (ac_exact input)

pub pdv_exact : (input : Piece) → Exact {Y = ℕ × Piece} (required faults.Pdv (user_data_at input)) (IsUserData input) (IsLacking faults.Pdv (IsUserData input))
pdv_exact input = required_exact (user_data_at input) faults.Pdv (IsUserData input) (user_data_found input) (user_data_again input)

pub pdv_one : (input : Piece) → IsOneWay {Y = ℕ × Piece} (IsUserData input) (IsLacking faults.Pdv (IsUserData input))
pdv_one input = one_way (required faults.Pdv (user_data_at input)) (IsUserData input) (IsLacking faults.Pdv (IsUserData input)) (pdv_exact input)
