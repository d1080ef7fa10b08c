-- Results of reads, as far as a PDU can hold them (ISO 9506-2, Read).
use Rattle.std.specs.Prelude.{◌≡◌, ◌<◌, ℕ, ◌+◌, Bool, true, false, List, [], ◌∷◌, length, map, min, Option, None, Some, Result, Ok, Err, slice_get}
use Rattle.sv_base.specs.declared.config.Config.{Config}
use Rattle.sv_base.specs.declared.value.Value.{Value}
use Rattle.bay_model.specs.declared.request.Target.{Target}
use Rattle.bay_model.specs.declared.request.Target.TheVariants as targets
use Rattle.bay_model.specs.Lookups.{node_of}
use Rattle.bay_model.specs.Model.{Role, selecting}
use Rattle.bay_model.specs.Configured.{control_defined}
use Rattle.bay_model.specs.Named.{nodes, configured_model}
use Rattle.bay_model.specs.Sizes.{access_result}
use Rattle.sv_base.specs.declared.config.CtlDef.{CtlDef}
use Rattle.sv_base.specs.declared.value.Value.TheVariants as kinds
use Rattle.bay_replies.specs.Given.{target_read}
use Rattle.bay_replies.specs.declared.reads.Read.{Read}
use Rattle.bay_replies.specs.declared.replies.Replies.{Replies}
use Rattle.bay_model.specs.declared.access_errors.TheConstants.{OBJECT_ACCESS_DENIED}

-- the node of a target is there
abbrev pub IsTarget : Config → Target → Type 0
IsTarget c (targets.Node n name) = n.0 < length (nodes c)
IsTarget c _ = Unit {0}

-- ---- reads before their turn

-- the control whose SBO stands at a node
abbrev pub selecting_of : Role → Option ℕ
selecting_of (selecting k) = Some k
selecting_of _ = None

abbrev pub selecting_in : Config → Target → Option ℕ
selecting_in c (targets.Node n name) = selecting_of (node_of (configured_model c) n.0).role
selecting_in c _ = None

-- what a control's SBO gives where its read selects
abbrev pub reference_read : Option CtlDef → Result Value ℕ
reference_read None = Err OBJECT_ACCESS_DENIED
reference_read (Some k) = Ok (kinds.Text (control_defined k).reference)

-- a result before its turn, and how many octets it has at least: an SBO gives its reference, or the empty text later on
abbrev pub early_read : Replies → Target → Option ℕ → Result Value ℕ
early_read r t None = target_read r t
early_read r t (Some k) = reference_read (slice_get r.model.now.controls k)

abbrev pub early_len : Replies → Target → Option ℕ → ℕ
early_len r t None = length (access_result (target_read r t))
early_len r t (Some k) = 2

pub record IsEarly (r : Replies) (t : Target) (one : Result Value ℕ) (len : ℕ) : Type 0 where
  pub result : one ≡ early_read r t (selecting_in r.model.now t)
  pub long : len ≡ min (early_len r t (selecting_in r.model.now t)) 4294967295

abbrev pub early_reads : Replies → List Target → List (Result Value ℕ)
early_reads r ts = map (λ t. early_read r t (selecting_in r.model.now t)) ts

-- how many octets the results have at least
abbrev pub least_len : Replies → List Target → ℕ
least_len r [] = 0
least_len r (t ∷ ts) = early_len r t (selecting_in r.model.now t) + least_len r ts

-- all results before their turn; or they are longer than a PDU of this size whichever reads of SBO select
abbrev pub IsReadBy : Replies → ℕ → List Target → List (Result Value ℕ) → Bool → Type 0
IsReadBy r size ts results false = results ≡ early_reads r ts
IsReadBy r size ts results true = size < least_len r ts

-- all that were read before their turn; a PDU of the greatest size is out of memory
pub record IsRead (r : Replies) (size : ℕ) (ts : List Target) (x : Read) : Type 0 where
  pub small : size < 4294967295
  pub read : IsReadBy r size ts x.results.items x.is_cut
