-- The lines that a stream answers of itself, and those of what is framed.
use Rattle.std.specs.Prelude.{ℕ, List, ◌++◌, codes, decimal}
use Rattle.hex.specs.Hex.{encode_lower}
use Rattle.osi_stack.specs.Framed.{framed}
use Rattle.osi_stack.specs.declared.events.Line.{Line}

-- octets that are sent on the wire, as a line
abbrev pub frame_line : ℕ → List ℕ → List ℕ
frame_line a octets = decimal a ++ codes " frame " ++ encode_lower octets ++ codes "\n"

-- what the stack refuses: the layer, the number of its cause, and how many octets of the stream it took before
abbrev pub fault_line : ℕ → ℕ → ℕ → ℕ → List ℕ
fault_line a layer code octets = decimal a ++ codes " fault " ++ decimal layer ++ codes " " ++ decimal code ++ codes " at " ++ decimal octets ++ codes "\n"

-- how else a stream ends
abbrev pub released_line : ℕ → List ℕ
released_line a = decimal a ++ codes " released\n"

abbrev pub aborted_line : ℕ → List ℕ
aborted_line a = decimal a ++ codes " aborted\n"

-- a PDU on this line, in all its TPKTs
abbrev pub framed_line : Line → ℕ → List ℕ → List ℕ
framed_line line a pdu = frame_line a (framed line pdu)
