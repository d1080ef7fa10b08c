-- why `laws::types_are_elements` answers as its contract says
use Rattle.sv_base.specs.Fields.{shape_of}
use Rattle.mms_data.proofs.TypeElementLaws.{type_begun}
use Rattle.mms_data.proofs.laws.types_are_elements.Goals as goal

pub returns : goal.returns
returns c = λ t rest fits. type_begun (shape_of t) rest fits
