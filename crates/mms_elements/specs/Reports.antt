-- A report, by its elements and in the minimal spelling of each (ISO 9506-2, Unconfirmed-PDU with an InformationReport).
use Rattle.std.specs.Prelude.{◌≡◌, ℕ, ◌≤◌, List, [], ◌∷◌, ◌++◌}
use Rattle.ber_grammar.specs.Element.{Element, Spells, IsRow}
use Rattle.ber_write.specs.Minimal.{octets_of}
use Rattle.mms_elements.specs.declared.tags.TheConstants.{INFORMATION_REPORT, LIST_OF_VARIABLE, REPORT_RESULTS, UNCONFIRMED, VARIABLE_LIST_NAME}

-- Unconfirmed-PDU with an informationReport: the variables, and the results
abbrev pub report_fields : List ℕ → List ℕ → List ℕ
report_fields names results = names ++ octets_of REPORT_RESULTS results

unfoldable pub report_octets : List ℕ → List ℕ → List ℕ
report_octets names results = octets_of UNCONFIRMED (octets_of INFORMATION_REPORT (report_fields names results))

-- the one element of the variables: a list of them, or the name of a list
abbrev pub IsSpecificationElement : List ℕ → Type 0
IsSpecificationElement names = (e : Element) × Spells names e × (LIST_OF_VARIABLE ≤ e.tag) × (e.tag ≤ VARIABLE_LIST_NAME)

-- the octets are an informationReport of these variables and these results
abbrev pub IsReport : List ℕ → List ℕ → List ℕ → Type 0
IsReport input names results = (e k v r : Element) × Spells input e × (e.tag ≡ UNCONFIRMED) × IsRow e.content (k ∷ []) × (k.tag ≡ INFORMATION_REPORT) × IsRow k.content (v ∷ r ∷ []) × Spells names v × (r.tag ≡ REPORT_RESULTS) × (r.content ≡ results)
