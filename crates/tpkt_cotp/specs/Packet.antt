-- A TPKT (RFC 1006, "Packet Format"): 3, 0, two octets of its whole length, and its TPDU.
use Rattle.std.specs.Prelude.{◌≡◌, ℕ, ◌+◌, ◌-◌, ◌*◌, ◌/◌, ◌%◌, ◌<◌, ◌≤◌, List, [], ◌∷◌, ◌++◌, length, take, drop, min, Option, Some, None, Result, Ok, Err, nat_lt, ◌⊎◌, ◌==◌, if◌then◌else◌}
use Rattle.tpkt_cotp.specs.declared.fault.TpFault.{TpFault}
use Rattle.tpkt_cotp.specs.declared.fault.TpFault.TheVariants.{Version, Length}

abbrev pub packet : List ℕ → List ℕ
packet tpdu = 3 ∷ 0 ∷ (length tpdu + 4) / 256 ∷ (length tpdu + 4) % 256 ∷ tpdu

-- what a TPKT holds: its length is 7 to 65535
abbrev pub IsTpdu : List ℕ → Type 0
IsTpdu tpdu = (3 ≤ length tpdu) × (length tpdu + 4 ≤ 65535)

-- less than a whole TPKT: a beginning of one
abbrev pub IsPartial : List ℕ → Type 0
IsPartial rest = (tpdu more : List ℕ) × IsTpdu tpdu × (0 < length more) × (packet tpdu ≡ rest ++ more)

-- No TPKT begins so, however it goes on: an octet of the first two is wrong, or the length is.
abbrev pub IsBad : List ℕ → TpFault → Type 0
IsBad input f = ((f ≡ Version) × (a : ℕ) × (rest : List ℕ) × (input ≡ a ∷ rest) × (a ≡ 3 → ⊥))
    ⊎ ((f ≡ Version) × (b : ℕ) × (rest : List ℕ) × (input ≡ 3 ∷ b ∷ rest) × (b ≡ 0 → ⊥))
    ⊎ ((f ≡ Length) × (c d : ℕ) × (rest : List ℕ) × (input ≡ 3 ∷ 0 ∷ c ∷ d ∷ rest) × (c * 256 + d < 7))

-- ---- reading

-- The first TPKT's TPDU and what follows, or None where none is whole yet.
abbrev pub body_at : ℕ → List ℕ → Result (Option (List ℕ × List ℕ)) TpFault
body_at len rest = if nat_lt len 7 then Err Length else if nat_lt (length rest) (len - 4) then Ok None else Ok (Some (take (len - 4) rest, drop (len - 4) rest))

abbrev pub length_at : List ℕ → Result (Option (List ℕ × List ℕ)) TpFault
length_at [] = Ok None
length_at (c ∷ []) = Ok None
length_at (c ∷ d ∷ rest) = body_at (c * 256 + d) rest

abbrev pub second_at : List ℕ → Result (Option (List ℕ × List ℕ)) TpFault
second_at [] = Ok None
second_at (b ∷ rest) = if b == 0 then length_at rest else Err Version

unfoldable pub packet_at : List ℕ → Result (Option (List ℕ × List ℕ)) TpFault
packet_at [] = Ok None
packet_at (a ∷ rest) = if a == 3 then second_at rest else Err Version

-- how many octets a TPKT that began so wants next: those of its header, or else those of its TPDU
unfoldable pub wanted_at : List ℕ → ℕ
wanted_at [] = 4
wanted_at (a ∷ []) = 3
wanted_at (a ∷ b ∷ []) = 2
wanted_at (a ∷ b ∷ c ∷ []) = 1
wanted_at (a ∷ b ∷ c ∷ d ∷ rest) = c * 256 + d - (4 + length rest)

-- what it wants next was moved to it from the front of a piece, as far as the piece has it
abbrev pub TopsUp : List ℕ → List ℕ → List ℕ → List ℕ → Type 0
TopsUp held piece now rest = (now ≡ held ++ take (min (wanted_at held) (length piece)) piece) × (rest ≡ drop (min (wanted_at held) (length piece)) piece)

-- first the rest of its header, and then that of its TPDU
abbrev pub Completes : List ℕ → List ℕ → List ℕ → List ℕ → Type 0
Completes held piece now rest = (headed behind : List ℕ) × TopsUp held piece headed behind × TopsUp headed behind now rest
