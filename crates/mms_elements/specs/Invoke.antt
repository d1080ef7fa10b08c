-- ISO 9506-2, Unsigned32: the invoke number of a confirmed service.
use Rattle.std.specs.Prelude.{◌≡◌, ℕ, ◌^◌, ◌<◌, List, nat_lt, Option, Some, None, if◌then◌else◌}
use Rattle.ber_grammar.specs.Content.{IsUint}
use Rattle.ber_grammar.specs.Element.{Element, Begins}
use Rattle.ber_grammar.specs.Reader.{and_then, kept}
use Rattle.ber_grammar.specs.Reading.{uint_at}
use Rattle.mms_elements.specs.declared.tags.TheConstants.{INVOKE_ID}

-- a number of 32 bits, however many octets spell it
abbrev pub IsUnsigned32 : List ℕ → ℕ → Type 0
IsUnsigned32 content n = IsUint content n × (n < 2 ^ 32)

-- The content begins with an INTEGER, which is the invoke number, and then come the octets of the service.
abbrev pub IsInvoked : List ℕ → ℕ → List ℕ → Type 0
IsInvoked content invoke rest = (e : Element) × Begins content e rest × (e.tag ≡ INVOKE_ID) × IsUnsigned32 e.content invoke

-- ---- reading

-- a number below a bound
unfoldable pub below_at : ℕ → List ℕ → Option ℕ
below_at bound content = and_then (kept (uint_at content)) (λ n. if nat_lt n bound then Some n else None)
