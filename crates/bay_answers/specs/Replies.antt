-- The PDUs of what a bay answers (ISO 9506-2, MMSpdu; IEC 61850-8-1, the mapping of its services).
use Rattle.std.specs.Prelude.{◌≡◌, ℕ, ◌==◌, ◌||◌, Bool, true, false, nat_le, nat_lt, if◌then◌else◌}
use Rattle.std.specs.Prelude.{List, [], ◌∷◌, ◌++◌, length, map, None, Some}
use Rattle.sv_base.specs.declared.config.Config.{Config}
use Rattle.mms_elements.specs.declared.tags.TheConstants.{GET_NAME_LIST, READ, WRITE, GET_ATTRIBUTES, GET_LIST_ATTRIBUTES, DELETE_LIST}
use Rattle.mms_pdu.specs.ReplyOctets.{answer_octets, error_octets, reject_octets, concluded_octets}
use Rattle.bay_model.specs.declared.reply.Reply.{Reply}
use Rattle.bay_model.specs.declared.reply.Reply.TheVariants as replies
use Rattle.bay_model.specs.declared.answer.Output.{Output}
use Rattle.bay_model.specs.declared.answer.Output.TheVariants as outputs
use Rattle.object_model.specs.Tables.{node_type}
use Rattle.report_cut.specs.Pdus.{pdus}
use Rattle.bay_answers.specs.ControlPdus.{error_pdu, termination_pdu}
use Rattle.bay_answers.specs.RepliesContents.{status_content, identify_content, names_content, type_content}
use Rattle.bay_answers.specs.RepliesContents.{read_content, written_content, set_content, deleted_content}
use Rattle.bay_answers.specs.declared.tags.TheConstants.{DEFINE_LIST, IDENTIFY, STATUS}
use Rattle.sv_base.specs.declared.rejections.TheConstants.{UNKNOWN_SERVICE, INVALID_ARGUMENT}
use Rattle.bay_model.specs.declared.service_errors.TheConstants.{SERVICE, PDU_SIZE}

-- the response of the service with this tag; where it is longer than the size, the error class service with the code pdu-size
abbrev pub response : ℕ → ℕ → ℕ → List ℕ → List ℕ
response size invoke tag content = if nat_le (length (answer_octets invoke tag content)) size then answer_octets invoke tag content else error_octets invoke SERVICE PDU_SIZE

-- ---- GetNameList

abbrev pub names_octets : ℕ → List (List ℕ) → Bool → List ℕ
names_octets invoke names more = answer_octets invoke GET_NAME_LIST (names_content names more)

-- moreFollows is as long either way
abbrev pub names_fit : ℕ → ℕ → List (List ℕ) → Bool
names_fit size invoke names = nat_le (length (names_octets invoke names true)) size

-- what fits of a list from its beginning, where these fit already
abbrev pub fitting : {A : Type 0} → (List A → Bool) → List A → List A → List A
fitting fits so_far [] = so_far
fitting fits so_far (x ∷ xs) = if fits (so_far ++ x ∷ []) then fitting fits (so_far ++ x ∷ []) xs else so_far

-- as many names as fit
abbrev pub shown : ℕ → ℕ → List (List ℕ) → List (List ℕ)
shown size invoke names = fitting (names_fit size invoke) [] names

-- and whether a further one doesn't fit
abbrev pub names_response : ℕ → ℕ → List (List ℕ) → List ℕ
names_response size invoke names = names_octets invoke (shown size invoke names) (nat_lt (length (shown size invoke names)) (length names))

-- ---- replies

-- A reject of an unknown service or of an argument is of a request with an invoke number.
abbrev pub rejected : ℕ → ℕ → List ℕ
rejected invoke n = reject_octets (if n == UNKNOWN_SERVICE || n == INVALID_ARGUMENT then Some invoke else None) n

-- In the response, the tags of Status and Identify are those of structures, and Define is a NULL.
abbrev pub reply_octets : Config → ℕ → ℕ → Reply → List ℕ
reply_octets c size invoke replies.Status = response size invoke STATUS status_content
reply_octets c size invoke replies.Identify = response size invoke IDENTIFY (identify_content c)
reply_octets c size invoke replies.Conclude = concluded_octets
reply_octets c size invoke (replies.Names names) = names_response size invoke names
reply_octets c size invoke (replies.TypeOfNode n) = response size invoke GET_ATTRIBUTES (type_content (node_type c n.0))
reply_octets c size invoke (replies.Read asked results) = response size invoke READ (read_content asked results)
reply_octets c size invoke (replies.Wrote codes) = response size invoke WRITE (written_content codes)
reply_octets c size invoke replies.Defined = response size invoke DEFINE_LIST []
reply_octets c size invoke (replies.SetOf deletable members) = response size invoke GET_LIST_ATTRIBUTES (set_content c deletable members)
reply_octets c size invoke (replies.Deleted matched deleted) = response size invoke DELETE_LIST (deleted_content matched deleted)
reply_octets c size invoke (replies.Error class code) = error_octets invoke class code
reply_octets c size invoke (replies.Reject n) = rejected invoke n

-- ---- outputs

-- The LastApplErrors of a reply stand before it, in order.
abbrev pub output_pdus : Config → ℕ → Output → List (List ℕ)
output_pdus c size (outputs.Reply before invoke reply) = map error_pdu before ++ reply_octets c size invoke reply ∷ []
output_pdus c size (outputs.Report r) = pdus r size
output_pdus c size (outputs.Termination t) = termination_pdu c t ∷ []

-- ---- as many names as fit, without saying how they are found

-- no further one fits
abbrev pub IsFull : {A : Type 0} → (List A → Bool) → List A → List A → Type 0
IsFull fits given [] = Unit {0}
IsFull fits given (x ∷ rest) = fits (given ++ x ∷ []) ≡ false

abbrev pub is_any : {A : Type 0} → List A → Bool
is_any [] = false
is_any (x ∷ rest) = true

-- the first names, which fit, and all of them unless a further one doesn't; moreFollows exactly where there is one
pub record AreAsManyAsFit (size invoke : ℕ) (names : List (List ℕ)) (octets : List ℕ) : Type 0 where
  pub given : List (List ℕ)
  pub rest : List (List ℕ)
  pub first : given ++ rest ≡ names
  pub fit : names_fit size invoke given ≡ true
  pub full : IsFull (names_fit size invoke) given rest
  pub told : octets ≡ names_octets invoke given (is_any rest)
