-- why `bay::Bay::reply_to` answers as its contract says
use Rattle.std.proofs.Common.{◌∙◌, ℕ, Option, unwrap_or, Result, Ok, Err, ap}
use Rattle.std.specs.Prelude.{IfOk}
use Rattle.std.specs.Option.{option_map}
use Rattle.bay_model.specs.declared.reply.Reply.{Reply}
use Rattle.assoc_table.specs.declared.waiting.Ends.{Ends}
use Rattle.assoc_table.specs.Tables.{row_of}
use Rattle.bay_core.specs.Asked.{IsReplyAt}
use Rattle.bay_core.specs.State.{State}
use Rattle.bay_core.proofs.LentLaws.{reply-at}
use Rattle.bay_core.proofs.bay.Bay.reply_to.Goals as goal

if-ok : {A E : Type 0} (P Q : A → Type 0) (r : Result A E) → ((x : A) → P x → Q x) → IfOk r P → IfOk r Q
if-ok P Q (Ok x) goes is = goes x is
if-ok P Q (Err e) goes is = is

pub returns : goal.returns
returns c =
    let z = c.args.self.now in
    let lent = c.replies.ensures in
    let parts = c.replies.result in
    if-ok _ (λ (r : Reply). IsReplyAt z c.args.moment c.args.a.0 c.args.service.now r) c.reply.result
    (λ r is. reply-at z parts.model.now parts.store.now parts.groups.now parts.blocks.now parts.book.now parts.was parts.now c.unwrap_or-size.result c.args.moment c.args.a.0 c.args.service.now r
    lent.model lent.store lent.groups lent.blocks lent.book lent.was lent.now c.requires.number
    (c.unwrap_or-size.ensures ∙ ap (λ (o : Option ℕ). unwrap_or o 0) (c.size.ensures ∙ ap (λ (t : State). option_map (λ (e : Ends). e.size) (row_of t.rows c.args.a.0).ends) c.self.view_is)) is)
    c.reply.ensures
