-- What a bay lends to a reply.
use Rattle.std.proofs.Common.{◌≡◌, ◌∙◌, ℕ, List, map, max, ap, sym, subst, arith, unwrap_or}
use Rattle.sv_base.specs.declared.config.Config.{Config}
use Rattle.sv_base.specs.Filled.{Filled}
use Rattle.bay_model.specs.Named.{configured_model}
use Rattle.data_sets.specs.Books.{Book}
use Rattle.data_sets.specs.Standing.{data_set}
use Rattle.value_store.specs.Stored.{Stored}
use Rattle.setting_groups.specs.Grouped.{Grouped}
use Rattle.setting_groups.specs.Standing.{Stands as GroupsStand}
use Rattle.bay_values.specs.Held.{AreGrouped}
use Rattle.report_block.specs.declared.block.ReportBlock.{ReportBlock}
use Rattle.bay_replies.specs.Standing.{IsReplyTo, IsServed, StandAt}
use Rattle.std.specs.Option.{option_map}
use Rattle.assoc_table.specs.declared.waiting.Ends.{Ends}
use Rattle.assoc_table.specs.Tables.{IsNumber, row_of}
use Rattle.bay_model.specs.declared.reply.Reply.{Reply}
use Rattle.bay_model.specs.declared.request.Service.{Service}
use Rattle.bay_model.specs.Services.{reply, singles_of}
use Rattle.bay_model.specs.Singles.{outcomes}
use Rattle.report_block.specs.Standing.{BlocksStand}
use Rattle.value_store.specs.Wholes.{Stands as ValuesStand}
use Rattle.bay_core.specs.Asked.{IsReplyAt}
use Rattle.bay_core.proofs.AskLaws.{size-told}
use Rattle.bay_core.specs.State.{State, IsFurnished}
use Rattle.block_watch.specs.declared.watch.Watch.{Watch}
use Rattle.block_watch.proofs.BookLaws.{sets-allowed, sets-lent}

pub served-parts : (c : Config) (stored : List Stored) (groups : Grouped) (book : Book) (parts : List ReportBlock) (w : Watch) (octets : Filled ℕ) (room : ℕ) → IsFurnished c stored book parts w octets room → AreGrouped c groups → IsServed c stored groups parts book
served-parts c stored groups book parts w octets room f fit = record {
  grouped = f.servable.grouped;
  framed = fit.framed;
  values = f.values.count;
  blocks = f.count;
  lent = sets-lent c book f.booked.served;
  named = f.booked.named;
  plain = sets-allowed c book f.booked.served;
}

-- the reply that they give is that after all points that the state stands for
pub reply-at : (s : State) (mine : Config) (stored : List Stored) (groups : Grouped) (parts : List ReportBlock) (book : Book) (was now size moment a : ℕ) (service : Service) (r : Reply) → mine ≡ s.config → stored ≡ s.stored → groups ≡ s.groups → parts ≡ s.parts → book ≡ s.book
    → was ≡ s.latest → now ≡ max s.latest moment → IsNumber a → size ≡ unwrap_or (option_map (λ (e : Ends). e.size) (row_of s.rows a).ends) 0 → IsReplyTo mine stored groups parts book was now size service r → IsReplyAt s moment a service r
reply-at s mine stored groups parts book was now size moment a service r config values grouped blocks booked_ from to number sized is = λ c n past st.
    let m = configured_model c in
    let stand : StandAt c stored groups parts book was past = record {
      values = subst (λ l. ValuesStand l m past) (sym values) st.values;
      blocks = subst (BlocksStand m past) (sym blocks) st.blocks;
      sets = record {
        sets = ap (λ (b : Book). map data_set b.sets) booked_ ∙ st.sets;
        count = ap (λ (b : Book). b.configured) booked_ ∙ st.configured;
      };
      is_latest = from ∙ st.is_latest;
      settings = subst (λ g. GroupsStand g m past) (sym grouped) st.groups;
    } in
    let told = subst (λ (d : Config). IsReplyTo d stored groups parts book was now size service r) (config ∙ st.is_config) is a n moment past stand (omega (arith, from, to)) in
    subst (λ k. r ≡ reply m past k service (outcomes m a n moment (singles_of m past service) past)) (sized ∙ size-told m s.rows past a st.associations number) told
