-- How long the PDU of a response is, by sums.
use Rattle.std.specs.Prelude.{ℕ, ◌+◌, List, ◌++◌, length, Option, Some, None, nat_le, if◌then◌else◌}
use Rattle.ber_write.specs.Minimal.{head_octets, octets_of, uint_octets, element_size}
use Rattle.mms_elements.specs.declared.tags.TheConstants.{CONFIRMED_RESPONSE, INVOKE_ID}

-- the content of the PDU: the invoke number, and the service's element, whose content has n octets
unfoldable pub service_size : ℕ → ℕ → ℕ
service_size invoke n = element_size (length (uint_octets invoke)) + element_size n

-- what stands in the PDU before the content, of n octets, of the service's element with this tag; none where the PDU is longer
-- than the size
abbrev pub begun : ℕ → ℕ → ℕ → ℕ → Option (List ℕ)
begun size invoke tag n =
    if nat_le (element_size (service_size invoke n)) size
    then Some ((head_octets CONFIRMED_RESPONSE (service_size invoke n) ++ octets_of INVOKE_ID (uint_octets invoke)) ++ head_octets tag n)
    else None

-- the PDU of names whose identifiers have n octets
unfoldable pub names_size : ℕ → ℕ → ℕ
names_size invoke n = element_size (service_size invoke (element_size n + 3))

-- n octets of identifiers and those of one more, where they fit
abbrev pub with_one : ℕ → ℕ → ℕ → List ℕ → Option ℕ
with_one size invoke n name = if nat_le (names_size invoke (n + element_size (length name))) size then Some (n + element_size (length name)) else None
