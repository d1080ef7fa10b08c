-- What is sent of controls, as information reports (IEC 61850-8-1, LastApplError and CommandTermination; ISO 9506-2,
-- InformationReport), in the minimal spelling of each element.
use Rattle.std.specs.Prelude.{ℕ, pos, List, [], ◌++◌, codes, Option, None, Some, slice_get}
use Rattle.std.specs.Option.{option_map_or}
use Rattle.ber_write.specs.Minimal.{octets_of, uint_octets, int_octets}
use Rattle.sv_base.specs.Data.{data_of}
use Rattle.sv_base.specs.declared.config.Config.{Config}
use Rattle.sv_base.specs.declared.config.CtlDef.{CtlDef}
use Rattle.bay_answers.specs.declared.control_errors.TheConstants.{UNKNOWN}
use Rattle.mms_data.specs.declared.tags.TheConstants.{INTEGER, OCTET_STRING, STRUCTURE, UNSIGNED, VISIBLE_STRING}
use Rattle.mms_pdu.specs.AskingOctets.{domain_name}
use Rattle.mms_elements.specs.Reports.{report_octets}
use Rattle.mms_elements.specs.declared.tags.TheConstants.{LIST_OF_VARIABLE, VMD_SPECIFIC}
use Rattle.bay_model.specs.declared.control.ApplError.{ApplError}
use Rattle.bay_model.specs.declared.control.Termination.{Termination}
use Rattle.output_shapes.specs.Shapes.{oper_item}
use Rattle.bay_answers.specs.RepliesVariables.{variable_octets}

-- the variable LastApplError, which is vmd-specific
abbrev pub error_variable : List ℕ
error_variable = variable_octets (octets_of VMD_SPECIFIC (codes "LastApplError"))

-- Origin: orCat, and orIdent
abbrev pub origin_octets : ApplError → List ℕ
origin_octets e = octets_of INTEGER (int_octets e.or_cat) ++ octets_of OCTET_STRING e.or_ident

-- CntrlObj, a visible string; Error; Origin, a structure; ctlNum; AddCause, an integer that isn't negative
abbrev pub error_parts : ApplError → List ℕ
error_parts e = octets_of VISIBLE_STRING e.object ++ (octets_of INTEGER (int_octets UNKNOWN) ++ (octets_of STRUCTURE (origin_octets e) ++ (octets_of UNSIGNED (uint_octets e.ctl_num) ++ octets_of INTEGER (uint_octets e.cause))))

-- its value, a structure
unfoldable pub error_data : ApplError → List ℕ
error_data e = octets_of STRUCTURE (error_parts e)

-- the variable Oper of a control's line
abbrev pub oper_variable : CtlDef → List ℕ
oper_variable k = variable_octets (domain_name k.domain (oper_item k))

-- an information report of a list of variables, and their values
abbrev pub report_of : List ℕ → List ℕ → List ℕ
report_of variables values = report_octets (octets_of LIST_OF_VARIABLE variables) values

-- a LastApplError before a reply
abbrev pub error_pdu : ApplError → List ℕ
error_pdu e = report_of error_variable (error_data e)

-- A positive termination has the variable Oper with its value; a negative one LastApplError and Oper, in one report.
abbrev pub termination_of : CtlDef → Termination → Option ApplError → List ℕ
termination_of k t None = report_of (oper_variable k) (data_of t.oper)
termination_of k t (Some e) = report_of (error_variable ++ oper_variable k) (error_data e ++ data_of t.oper)

abbrev pub termination_pdu : Config → Termination → List ℕ
termination_pdu c t = option_map_or (λ k. termination_of k t t.error) (slice_get c.controls t.control.0) []
