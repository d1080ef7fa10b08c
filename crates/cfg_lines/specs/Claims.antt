-- The names that lines take. The last line is the first of the list.
use Rattle.std.specs.Prelude.{ℕ, ◌==◌, List, [], ◌∷◌, ◌++◌, map, codes, if◌then◌else◌}
use Rattle.sv_base.specs.declared.parameters.CtlParameter.TheVariants.{CtlModel, SboTimeout, SboClass}
use Rattle.sv_base.specs.Parameters.{parameter_name}
use Rattle.sv_base.specs.declared.ctl_services.CtlService.TheVariants as services
use Rattle.sv_base.specs.CtlServices.{service_name}
use Rattle.cfg_lines.specs.Paths.{below, node_key, item_key}
use Rattle.cfg_lines.specs.declared.line.Line.{Line}
use Rattle.cfg_lines.specs.declared.line.Line.TheVariants as lines
use Rattle.sv_base.specs.declared.ctl_models.TheConstants.{SBO_NORMAL, SBO_ENHANCED}

-- domains and logical nodes, by their references
abbrev pub heads_by : Line → List (List ℕ)
heads_by (lines.Ld name) = name ∷ []
heads_by (lines.Ln node) = node_key node.domain node.ln ∷ []
heads_by line = []

abbrev pub heads : List Line → List (List ℕ)
heads [] = []
heads (line ∷ before) = heads_by line ++ heads before

-- data sets
abbrev pub set_key : List ℕ → List ℕ → List ℕ → List ℕ
set_key domain node name = below (node_key domain node) name

abbrev pub sets_by : Line → List (List ℕ)
sets_by (lines.Set set) = set_key set.domain set.ln set.name ∷ []
sets_by line = []

abbrev pub sets : List Line → List (List ℕ)
sets [] = []
sets (line ∷ before) = sets_by line ++ sets before

-- What a control has under CO and under CF by its model (IEC 61850-8-1, control services): SBO control has a selection, by
-- SBO or by SBOw.
abbrev pub operations : ℕ → List (List ℕ)
operations model = if model == SBO_NORMAL then service_name services.Oper ∷ service_name services.Sbo ∷ service_name services.Cancel ∷ []
    else if model == SBO_ENHANCED then service_name services.Oper ∷ service_name services.SboWithValue ∷ service_name services.Cancel ∷ []
    else service_name services.Oper ∷ []

abbrev pub settings : ℕ → List (List ℕ)
settings model = if model == SBO_NORMAL then parameter_name CtlModel ∷ parameter_name SboTimeout ∷ parameter_name SboClass ∷ []
    else if model == SBO_ENHANCED then parameter_name CtlModel ∷ parameter_name SboTimeout ∷ parameter_name SboClass ∷ []
    else parameter_name CtlModel ∷ []

abbrev pub control_keys : List ℕ → List ℕ → List ℕ → ℕ → List (List ℕ)
control_keys domain node path model = map (λ part. below (item_key domain node (codes "CO") path) part) (operations model)
    ++ map (λ part. below (item_key domain node (codes "CF") path) part) (settings model)

abbrev pub group_key : List ℕ → List ℕ → List ℕ
group_key domain node = item_key domain node (codes "SP") (codes "SGCB")

-- attributes, report control blocks, controls and setting group control blocks
abbrev pub claims_by : Line → List (List ℕ)
claims_by (lines.Attr attr) = item_key attr.domain attr.ln attr.fc attr.path ∷ []
claims_by (lines.Brcb block) = item_key block.domain block.ln (codes "BR") block.name ∷ []
claims_by (lines.Ctl control) = control_keys control.domain control.ln control.path control.model
claims_by (lines.Sgcb groups) = group_key groups.domain (codes "LLN0") ∷ []
claims_by line = []

abbrev pub claims : List Line → List (List ℕ)
claims [] = []
claims (line ∷ before) = claims_by line ++ claims before
