-- Each layer reads what its grammar spells, and the other way round, as octets alone.
use Rattle.std.proofs.Common.{◌≡◌, ℕ, List, Option, Result, Ok, Err, sym, ap, subst, ◌∙◌}
use Rattle.std.specs.Option.{option_map}
use Rattle.list_laws.proofs.Options.{ok_is}
use Rattle.ber_grammar.specs.Octets.{IsBytes}
use Rattle.ber_grammar.specs.Place.{Piece, anywhere}
use Rattle.ber_grammar.specs.Reader.{◌>>=◌, with_fault, Reads}
use Rattle.ber_grammar.specs.Steps.{required}
use Rattle.ber_grammar.proofs.ReaderLaws.{gives_at}
use Rattle.session_pres.specs.declared.codes.TheConstants.{DISCONNECT}
use Rattle.session_pres.specs.declared.fault.SpFault.TheVariants as session
use Rattle.session_pres.specs.Units.{Seen, HasUser, IsUserRefused, IsSpdu, IsSpduRefused}
use Rattle.session_pres.specs.UnitReading.{spdu_at, user_of}
use Rattle.session_pres.specs.UserData.{IsUserData, user_data_at}
use Rattle.session_pres.specs.Presentation.{Request, IsCp, IsCpRefused, IsAc, IsAcRefused}
use Rattle.session_pres.specs.PresentationReading.{cp_at, ac_at}
use Rattle.session_pres.specs.Plain.{Told, told, Asked, asked, octets as bare, pdv_octets, spdu_from, cp_from, ac_from, dn_from, pdv_from}
use Rattle.session_pres.proofs.UnitLaws.{spdu_exact, user_exact}
use Rattle.session_pres.proofs.PresentationLaws.{cp_exact, ac_exact}
use Rattle.session_pres.proofs.OneWayLaws.{pdv_exact}
use Rattle.session_pres.proofs.AnywhereLaws.{spdu_anywhere, cp_anywhere, ac_anywhere, dn_anywhere, pdv_anywhere}
use Rattle.acse_apdu.specs.declared.codes.TheConstants.{RLRQ, RLRE}
use Rattle.acse_apdu.specs.declared.fault.AcFault.{AcFault}
use Rattle.acse_apdu.specs.Grammar.{IsAarq, IsAare, IsRelease}
use Rattle.acse_apdu.specs.Reading.{octets_in, aarq_at, aare_at, release_at, pdu_of_aarq, pdu_of_aare, rlrq_of, rlre_of}
use Rattle.acse_apdu.proofs.ApduLaws.{aarq_exact, aare_exact, release_exact, aarq_again, aare_again, release_again}
use Rattle.acse_apdu.proofs.AnywhereLaws.{aarq-anywhere, aare-anywhere, rlrq-anywhere, rlre-anywhere}
use Rattle.mms_initiate.specs.declared.initiate.Initiate.{Initiate}
use Rattle.mms_elements.specs.declared.fault.PduFault.{PduFault}
use Rattle.mms_initiate.specs.Initiate.{IsAccepted}
use Rattle.mms_initiate.specs.InitiateReading.{initiate_at}
use Rattle.mms_initiate.proofs.InitiateLaws.{initiate_exact}

-- ---- from a reader to its relation, and back

found : {Y Z F : Type 0} (view : Y → Z) (r : Result Y F) (read : Result Z F) (S : Y → Type 0) (R : F → Type 0) (z : Z) → Reads (λ (y : Y). y) r S R → (r >>= λ y. Ok (view y)) ≡ read → read ≡ Ok z → (y : Y) × S y × (z ≡ view y)
found {F = F} view (Ok y) read S R z reads e h = (y, reads.tells, ok_is {F = F} z (view y) (sym h ∙ sym e))
found view (Err f) read S R z reads e h = absurd cc

again : {Y Z F : Type 0} (view : Y → Z) (r : Result Y F) (read : Result Z F) (S : Y → Type 0) (R : F → Type 0) (y : Y) → Reads (λ (y : Y). y) r S R → (r >>= λ y. Ok (view y)) ≡ read → S y → read ≡ Ok (view y)
again {Y = Y} {Z = Z} {F = F} view r read S R y reads e s = sym e ∙ ap (λ (x : Result Y F). let z : Result Z F = x >>= λ y. Ok (view y) in z) (sym (gives_at r y (reads.only y s)))

pub unfaulted : {A E F : Type 0} (fault : E → F) (r : Result A E) (x : A) → with_fault fault r ≡ Ok x → r ≡ Ok x
unfaulted fault (Ok y) x e = ap (λ (z : _). Ok z) (ok_is y x e)
unfaulted fault (Err f) x e = absurd cc

-- ---- each layer

pub spdu_found : (input : List ℕ) (t : Told) → spdu_from input ≡ Ok t → (s : Seen) × IsSpdu (anywhere input) s × (t ≡ told s)
spdu_found input t h = found told (spdu_at (anywhere input)) (spdu_from input) (IsSpdu (anywhere input)) (IsSpduRefused (anywhere input)) t (spdu_exact (anywhere input)) (spdu_anywhere (anywhere input)) h

pub spdu_back : (input : List ℕ) (s : Seen) → IsSpdu (anywhere input) s → spdu_from input ≡ Ok (told s)
spdu_back input s is = again told (spdu_at (anywhere input)) (spdu_from input) (IsSpdu (anywhere input)) (IsSpduRefused (anywhere input)) s (spdu_exact (anywhere input)) (spdu_anywhere (anywhere input)) is

pub cp_found : (p : Piece) (a : Asked) → cp_from p.octets ≡ Ok a → (cp : Request) × IsCp p cp × (a ≡ asked cp)
cp_found p a h = found asked (cp_at p) (cp_from p.octets) (IsCp p) (IsCpRefused p) a (cp_exact p) (cp_anywhere p) h

pub cp_back : (p : Piece) (cp : Request) → IsCp p cp → cp_from p.octets ≡ Ok (asked cp)
cp_back p cp is = again asked (cp_at p) (cp_from p.octets) (IsCp p) (IsCpRefused p) cp (cp_exact p) (cp_anywhere p) is

pub ac_found : (input a : List ℕ) → ac_from input ≡ Ok a → (apdu : Piece) × IsAc (anywhere input) apdu × (a ≡ apdu.octets)
ac_found input a h = found bare (ac_at (anywhere input)) (ac_from input) (IsAc (anywhere input)) (IsAcRefused (anywhere input)) a (ac_exact (anywhere input)) (ac_anywhere (anywhere input)) h

pub ac_back : (input : List ℕ) (apdu : Piece) → IsAc (anywhere input) apdu → ac_from input ≡ Ok apdu.octets
ac_back input apdu is = again bare (ac_at (anywhere input)) (ac_from input) (IsAc (anywhere input)) (IsAcRefused (anywhere input)) apdu (ac_exact (anywhere input)) (ac_anywhere (anywhere input)) is

pub dn_found : (input : List ℕ) (u : Option (List ℕ)) → dn_from input ≡ Ok u → (user : Option Piece) × HasUser DISCONNECT (anywhere input) user × (u ≡ option_map bare user)
dn_found input u h = found (option_map bare) (user_of DISCONNECT (anywhere input)) (dn_from input) (HasUser DISCONNECT (anywhere input)) (IsUserRefused DISCONNECT (anywhere input)) u (user_exact DISCONNECT (anywhere input)) (dn_anywhere (anywhere input)) h

pub dn_back : (input : List ℕ) (user : Option Piece) → HasUser DISCONNECT (anywhere input) user → dn_from input ≡ Ok (option_map bare user)
dn_back input user is = again (option_map bare) (user_of DISCONNECT (anywhere input)) (dn_from input) (HasUser DISCONNECT (anywhere input)) (IsUserRefused DISCONNECT (anywhere input)) user (user_exact DISCONNECT (anywhere input)) (dn_anywhere (anywhere input)) is

pub pdv_found : (p : Piece) (x : ℕ × List ℕ) → pdv_from p.octets ≡ Ok x → (pdv : ℕ × Piece) × IsUserData p pdv × (x ≡ pdv_octets pdv)
pdv_found p x h = found pdv_octets (required session.Pdv (user_data_at p)) (pdv_from p.octets) (IsUserData p) _ x (pdv_exact p) (pdv_anywhere p) h

pub pdv_back : (p : Piece) (pdv : ℕ × Piece) → IsUserData p pdv → pdv_from p.octets ≡ Ok (pdv_octets pdv)
pdv_back p pdv is = again pdv_octets (required session.Pdv (user_data_at p)) (pdv_from p.octets) (IsUserData p) _ pdv (pdv_exact p) (pdv_anywhere p) is

pub aarq_found : (p : Piece) (a : List ℕ) → IsBytes p.octets → pdu_of_aarq p.octets ≡ Ok a → (pdu : Piece) × IsAarq p pdu × (a ≡ pdu.octets)
aarq_found p a fits h = found bare (aarq_at p) (pdu_of_aarq p.octets) (IsAarq p) _ a (aarq_exact p fits) (aarq-anywhere p) h

pub aarq_back : (p pdu : Piece) → IsAarq p pdu → pdu_of_aarq p.octets ≡ Ok pdu.octets
aarq_back p pdu is = sym (aarq-anywhere p) ∙ ap octets_in (aarq_again p pdu is)

pub aare_found : (p : Piece) (a : List ℕ) → IsBytes p.octets → pdu_of_aare p.octets ≡ Ok a → (pdu : Piece) × IsAare p pdu × (a ≡ pdu.octets)
aare_found p a fits h = found bare (aare_at p) (pdu_of_aare p.octets) (IsAare p) _ a (aare_exact p fits) (aare-anywhere p) h

pub aare_back : (p pdu : Piece) → IsAare p pdu → pdu_of_aare p.octets ≡ Ok pdu.octets
aare_back p pdu is = sym (aare-anywhere p) ∙ ap octets_in (aare_again p pdu is)

release_told : (tag : ℕ) (p : Piece) (r : Result (Unit {0}) AcFault) (R : AcFault → Type 0) → Reads (λ (x : Unit {0}). x) r (λ x. IsRelease tag p) R → r ≡ Ok tt → IsRelease tag p
release_told tag p (Ok x) R reads h = reads.tells
release_told tag p (Err f) R reads h = absurd cc

pub rlrq_found : (p : Piece) → rlrq_of p.octets ≡ Ok tt → IsRelease RLRQ p
rlrq_found p h = release_told RLRQ p (release_at RLRQ p) _ (release_exact RLRQ p) (rlrq-anywhere p ∙ h)

pub rlre_found : (p : Piece) → rlre_of p.octets ≡ Ok tt → IsRelease RLRE p
rlre_found p h = release_told RLRE p (release_at RLRE p) _ (release_exact RLRE p) (rlre-anywhere p ∙ h)

pub rlrq_back : (p : Piece) → IsRelease RLRQ p → rlrq_of p.octets ≡ Ok tt
rlrq_back p is = sym (rlrq-anywhere p) ∙ release_again RLRQ p is

pub rlre_back : (p : Piece) → IsRelease RLRE p → rlre_of p.octets ≡ Ok tt
rlre_back p is = sym (rlre-anywhere p) ∙ release_again RLRE p is

initiate_told : (tag : ℕ) (input : List ℕ) (i : Initiate) (r : Result Initiate PduFault) (R : PduFault → Type 0) → Reads (λ (x : Initiate). x) r (IsAccepted tag input) R → r ≡ Ok i → IsAccepted tag input i
initiate_told tag input i (Ok j) R reads h = subst (IsAccepted tag input) (ok_is j i h) reads.tells
initiate_told tag input i (Err f) R reads h = absurd cc

pub initiate_found : (tag : ℕ) (input : List ℕ) (i : Initiate) → IsBytes input → initiate_at tag input ≡ Ok i → IsAccepted tag input i
initiate_found tag input i fits h = initiate_told tag input i (initiate_at tag input) _ (initiate_exact tag input fits) h
