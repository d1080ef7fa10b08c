-- Reads of variables (ISO 9506-2, Read; IEC 61850-7-2, Select): what a bay lends to a reply, and the reads of SBO in their turn, each of
-- which selects its control or gives the empty text.
use Rattle.std.specs.Prelude.{◌≡◌, ◌≤◌, ℕ, max, Bool, true, false, List, [], ◌∷◌, Option, None, Some, Result, Ok, slice_set, if◌then◌else◌}
use Rattle.sv_base.specs.declared.config.Config.{Config}
use Rattle.sv_base.specs.declared.value.Value.{Value}
use Rattle.sv_base.specs.declared.value.Value.TheVariants as kinds
use Rattle.bay_model.specs.declared.reply.Asked.{Asked}
use Rattle.bay_model.specs.declared.reply.Reply.{Reply}
use Rattle.bay_model.specs.declared.reply.Reply.TheVariants as replies
use Rattle.bay_model.specs.declared.request.Target.{Target}
use Rattle.bay_model.specs.Points.{selected_control}
use Rattle.bay_model.specs.Services.{read_reply}
use Rattle.control_core.specs.Controls.{can_select_at}
use Rattle.control_core.specs.Tables.{Table, control_at, after_deed}
use Rattle.bay_replies.specs.declared.replies.Replies.{Replies}
use Rattle.bay_replies.specs.Reading.{selecting_in}
use Rattle.bay_replies.specs.Standing.{IsServed}
use Rattle.bay_core.specs.State.{State}
use Rattle.bay_model.specs.declared.service_errors.TheConstants.{SERVICE, PDU_SIZE}

-- the parts of a bay, lent to a reply as of the arrival of a step at a moment
pub record IsLent (r : Replies) (s : State) (moment : ℕ) : Type 0 where
  pub model : r.model.now ≡ s.config
  pub store : r.store.now ≡ s.stored
  pub groups : r.groups.now ≡ s.groups
  pub blocks : r.blocks.now ≡ s.parts
  pub book : r.book.now ≡ s.book
  pub was : r.was ≡ s.latest
  pub now : r.now ≡ max s.latest moment
  pub within : r.was ≤ 4294967295999
  pub served : IsServed r.model.now r.store.now r.groups.now r.blocks.now r.book.now

-- ---- one read in its turn

abbrev pub selects : Table → ℕ → Bool
selects t k = can_select_at t.moment (control_at t.controls k)

-- the controls after a's read of what is the SBO of this control, if of any
abbrev pub after_turn : ℕ → Option ℕ → Table → Table
after_turn a None t = t
after_turn a (Some k) t = if selects t k then after_deed (selected_control a k) t else t

abbrev pub empty_text : Result Value ℕ
empty_text = Ok (kinds.Text [])

-- its result, which was made before as if it selects
abbrev pub in_turn : Option ℕ → Table → Result Value ℕ → Result Value ℕ
in_turn None t r = r
in_turn (Some k) t r = if selects t k then r else empty_text

-- among others, at its place
abbrev pub with_turn : ℕ → Option ℕ → Table → List (Result Value ℕ) → List (Result Value ℕ)
with_turn place None t rs = rs
with_turn place (Some k) t rs = if selects t k then rs else slice_set rs place empty_text

-- ---- several, one after another

abbrev pub after_turns : ℕ → Config → List Target → Table → Table
after_turns a c [] t = t
after_turns a c (x ∷ xs) t = after_turns a c xs (after_turn a (selecting_in c x) t)

abbrev pub in_turns : ℕ → Config → List Target → Table → List (Result Value ℕ) → List (Result Value ℕ)
in_turns a c [] t rs = rs
in_turns a c (x ∷ xs) t [] = []
in_turns a c (x ∷ xs) t (r ∷ rs) = in_turn (selecting_in c x) t r ∷ in_turns a c xs (after_turn a (selecting_in c x) t) rs

-- the reply, where the results may have been cut as they are longer than a PDU of this size
abbrev pub reply_of : ℕ → Asked → Bool → List (Result Value ℕ) → Reply
reply_of size asked true results = replies.Error SERVICE PDU_SIZE
reply_of size asked false results = read_reply size asked results
