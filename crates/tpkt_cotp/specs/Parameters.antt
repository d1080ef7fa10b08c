-- The parameters of a CR and of a CC (ISO 8073, "Connection Request (CR) TPDU", variable part): each is a code, the
-- length of its value, and the value.
use Rattle.std.specs.Prelude.{◌≡◌, ℕ, zero, suc, ◌≤◌, List, [], ◌∷◌, length, take, drop, min, slice_index, Option, Some, None, Result, Ok, Err, nat_lt, ◌==◌, if◌then◌else◌}
use Rattle.tpkt_cotp.specs.declared.codes.TheConstants.{TPDU_SIZE, CALLING, CALLED}
use Rattle.tpkt_cotp.specs.declared.fault.TpFault.{TpFault}
use Rattle.tpkt_cotp.specs.declared.fault.TpFault.TheVariants.{Tpdu}
use Rattle.tpkt_cotp.specs.declared.tsdus.Cr.{Cr}
use Rattle.ber_grammar.specs.Reader.{◌>>=◌, first_of_two}

pub record Parameter : Type 0 where
  pub code : ℕ
  pub value : List ℕ

abbrev pub spelled : Parameter → List ℕ
spelled p = p.code ∷ length p.value ∷ p.value

-- A TPDU size is one octet, an exponent of two that is at least 7. What other parameters hold is not judged.
abbrev pub IsAllowed : Parameter → Type 0
IsAllowed p = p.code ≡ TPDU_SIZE → (exponent : ℕ) × (p.value ≡ exponent ∷ []) × (7 ≤ exponent)

-- the value of the last parameter of this code
abbrev pub last_of : ℕ → List Parameter → Option (List ℕ)
last_of code [] = None
last_of code (p ∷ ps) = first_of_two (last_of code ps) (if p.code == code then Some p.value else None)

-- an exponent above 13 counts as 13
abbrev pub exponent_of : Option (List ℕ) → Option ℕ
exponent_of None = None
exponent_of (Some value) = Some (min (slice_index value 0) 13)

-- What the parameters say of a connection: of a repeated one the last counts, and unknown ones are skipped.
abbrev pub said : ℕ → List Parameter → Cr
said src ps = record { src = src; size = exponent_of (last_of TPDU_SIZE ps); calling = last_of CALLING ps; called = last_of CALLED ps }

-- ---- reading

abbrev pub size_at : Cr → List ℕ → Result Cr TpFault
size_at cr [] = Err Tpdu
size_at cr (e ∷ []) = if nat_lt e 7 then Err Tpdu else Ok (record { src = cr.src; size = Some (min e 13); calling = cr.calling; called = cr.called })
size_at cr (e ∷ f ∷ more) = Err Tpdu

-- one parameter, put to what the earlier ones said
abbrev pub put_at : Cr → ℕ → List ℕ → Result Cr TpFault
put_at cr code value =
    if code == TPDU_SIZE then size_at cr value
    else if code == CALLING then Ok (record { src = cr.src; size = cr.size; calling = Some value; called = cr.called })
    else if code == CALLED then Ok (record { src = cr.src; size = cr.size; calling = cr.calling; called = Some value })
    else Ok cr

-- the first parameter's code and value and what follows it, or None where there is no octet
abbrev pub parameter_at : List ℕ → Result (Option (ℕ × List ℕ × List ℕ)) TpFault
parameter_at [] = Ok None
parameter_at (code ∷ []) = Err Tpdu
parameter_at (code ∷ len ∷ more) = if nat_lt (length more) len then Err Tpdu else Ok (Some (code, take len more, drop len more))

-- All parameters in turn, at most that many as the number says.
abbrev pub parameters_at : ℕ → Cr → List ℕ → Result Cr TpFault
parameters_at n cr [] = Ok cr
parameters_at n cr (code ∷ []) = Err Tpdu
parameters_at zero cr (code ∷ len ∷ more) = Err Tpdu
parameters_at (suc n) cr (code ∷ len ∷ more) = if nat_lt (length more) len then Err Tpdu else (put_at cr code (take len more) >>= λ next. parameters_at n next (drop len more))

unfoldable pub parameters_of : Cr → List ℕ → Result Cr TpFault
parameters_of cr octets = parameters_at (length octets) cr octets
