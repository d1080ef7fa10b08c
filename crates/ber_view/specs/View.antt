-- An element of the program as one of the grammar.
use Rattle.ber_view.specs.declared.element.Tlv.{Tlv}
use Rattle.ber_grammar.specs.Element.{Element}
use Rattle.ber_grammar.specs.Place.{Spot}

abbrev pub element : Tlv → Element
element e = record { tag = e.tag; head = e.head; content = e.content.now }

-- the element, and where its content lies
abbrev pub spot : Tlv → Spot
spot e = record { element = element e; block = e.content.ref_ptr.0; place = e.content.ref_ptr.1 }
