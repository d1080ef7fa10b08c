-- The replies, by what is lent of a bay (ISO 9506-2, the confirmed services).
use Rattle.std.specs.Prelude.{ℕ, Bool, true, false, not, ◌==◌, List, [], ◌∷◌, map, Option, None, Some, Result, Err, if◌then◌else◌}
use Rattle.std.specs.Option.{option_map_or}
use Rattle.std.specs.List.{filter}
use Rattle.sv_base.specs.declared.numbers.NodeId.{NodeId}
use Rattle.bay_model.specs.declared.reply.Asked.{Asked}
use Rattle.bay_model.specs.declared.reply.Asked.TheVariants as asked
use Rattle.bay_model.specs.declared.reply.Reply.{Reply}
use Rattle.bay_model.specs.declared.reply.Reply.TheVariants as replies
use Rattle.bay_model.specs.declared.request.Scope.{Scope}
use Rattle.bay_model.specs.declared.request.Scope.TheVariants as scopes
use Rattle.bay_model.specs.declared.request.Service.{Service}
use Rattle.bay_model.specs.declared.request.Service.TheVariants as services
use Rattle.bay_model.specs.declared.request.SetName.{SetName}
use Rattle.bay_model.specs.Named.{configured_model}
use Rattle.bay_model.specs.NamedLines.{domains}
use Rattle.bay_model.specs.Names.{is_below, sorted, is_unknown, variables_of}
use Rattle.bay_model.specs.Services.{type_reply, set_name, read_reply}
use Rattle.bay_model.specs.Sizes.{within}
use Rattle.data_sets.specs.Books.{number_named, set_at, items_in, deletion}
use Rattle.data_sets.specs.declared.book.DeleteFault.{DeleteFault}
use Rattle.data_sets.specs.declared.book.DeleteFault.TheVariants as faults
use Rattle.bay_replies.specs.declared.replies.Replies.{Replies}
use Rattle.bay_replies.specs.Given.{node_read}
use Rattle.bay_model.specs.declared.object_classes.TheConstants.{NAMED_VARIABLE, NAMED_VARIABLE_LIST, DOMAIN}
use Rattle.bay_model.specs.declared.service_errors.TheConstants.{ACCESS, OBJECT_NON_EXISTENT}
use Rattle.sv_base.specs.declared.rejections.TheConstants.{UNKNOWN_PDU}

-- ---- names

-- in ascending order, those above a name; all where there is none
abbrev pub listed : Option (List ℕ) → List (List ℕ) → List (List ℕ)
listed after names = filter (λ n. option_map_or (λ a. is_below a n) after true) (sorted names)

abbrev pub empty_if : Bool → List (List ℕ)
empty_if b = if b then [] ∷ [] else []

-- what a class of names has in a scope
abbrev pub scoped : Replies → ℕ → Scope → List (List ℕ)
scoped r class scopes.Vmd = if class == DOMAIN then domains r.model.now else []
scoped r class (scopes.Domain d) =
    if class == NAMED_VARIABLE then variables_of (configured_model r.model.now) d
    else (if class == NAMED_VARIABLE_LIST then items_in d r.book.now.sets else [])
scoped r class scopes.Assoc = []

abbrev pub names_by : Replies → ℕ → ℕ → Scope → Option (List ℕ) → Reply
names_by r size class scope after = if is_unknown (configured_model r.model.now) scope then replies.Error ACCESS OBJECT_NON_EXISTENT else replies.Names (within size (listed after (scoped r class scope)))

-- ---- data sets

abbrev pub is_fixed : Result ℕ DeleteFault → Bool
is_fixed (Err faults.NotDeletable) = true
is_fixed _ = false

abbrev pub set_by : Replies → SetName → Option ℕ → Reply
set_by r n None = replies.Error ACCESS OBJECT_NON_EXISTENT
set_by r n (Some k) = replies.SetOf (not (is_fixed (deletion r.book.now n))) (set_at r.book.now k).nodes

abbrev pub asked_set : Bool → SetName → Asked
asked_set spec n = if spec then asked.Set n else asked.No

abbrev pub read_set_by : Replies → ℕ → SetName → Bool → Option ℕ → Reply
read_set_by r size n spec None = replies.Error ACCESS OBJECT_NON_EXISTENT
read_set_by r size n spec (Some k) = read_reply size (asked_set spec n) (map (λ (x : NodeId). node_read r x.0) (set_at r.book.now k).nodes)

-- ---- the replies; a service that writes has none here

abbrev pub replied : Replies → ℕ → Service → Reply
replied r size services.Status = replies.Status
replied r size services.Identify = replies.Identify
replied r size services.Conclude = replies.Conclude
replied r size (services.Names class scope after) = names_by r size class scope after
replied r size (services.TypeOfNode t) = type_reply t
replied r size (services.ReadSet domain item spec) = read_set_by r size (set_name domain item) spec (number_named (set_name domain item) r.book.now)
replied r size (services.SetOf domain item) = set_by r (set_name domain item) (number_named (set_name domain item) r.book.now)
replied r size (services.Reject n) = replies.Reject n
replied r size _ = replies.Reject UNKNOWN_PDU
