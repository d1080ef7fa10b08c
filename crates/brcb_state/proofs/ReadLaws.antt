-- What a component reads.
use Rattle.std.proofs.Common.{◌≡◌, ℕ, List, [], ◌∷◌, refl, ap, ap₂, ◌∙◌}
use Rattle.std.specs.Prelude.{pos, Option, None, Some, is_some}
use Rattle.std.specs.Option.{option_map, option_map_or}
use Rattle.sv_base.specs.declared.value.Value.TheVariants as kinds
use Rattle.sv_base.specs.declared.components.Comp.{Comp}
use Rattle.sv_base.specs.declared.components.Comp.TheVariants as comps
use Rattle.bay_model.specs.Model.{Model, Parameters}
use Rattle.bay_model.specs.Points.{Past, now}
use Rattle.bay_model.specs.Entries.{Entry, selected}
use Rattle.bay_model.specs.Components.{stamp_of, no_stamp, time_of_newest, seconds_of, owner_of, read_component}
use Rattle.brcb_state.specs.declared.block.Block.{Block}
use Rattle.brcb_state.specs.declared.block.Holder.{Holder}
use Rattle.brcb_state.specs.Components.{read_of}
use Rattle.brcb_state.specs.Standing.{Stands, kept_at, newest_of}

newest-time : (es : List Entry) → option_map_or stamp_of (newest_of es) no_stamp ≡ time_of_newest es
newest-time [] = refl
newest-time (e ∷ []) = refl
newest-time (e ∷ f ∷ es) = newest-time (f ∷ es)

enabled-same : (e : Option Holder) → is_some e ≡ is_some (option_map (λ (h : Holder). h.by.0) e)
enabled-same None = refl
enabled-same (Some a) = refl

pub reads : (c : Model) (b : ℕ) (comp : Comp) (past : Past) (s : Block) → Stands s c b past → read_of comp (kept_at c b past) (newest_of (selected c b past)) (now past) s ≡ read_component c b comp past
reads c b comps.RptID past s st = ap (λ (o : Parameters). kinds.Text o.rpt_id) st.options
reads c b comps.RptEna past s st = ap kinds.Bool (enabled-same s.enabler ∙ ap is_some st.enabler)
reads c b comps.DatSet past s st = ap (λ (o : Parameters). kinds.Text o.dat_set) st.options
reads c b comps.ConfRev past s st = ap kinds.Uint st.revision
reads c b comps.OptFlds past s st = ap (λ (o : Parameters). kinds.Bits o.opt_flds) st.options
reads c b comps.BufTm past s st = ap (λ (o : Parameters). kinds.Uint o.buf_tm) st.options
reads c b comps.SqNum past s st = ap kinds.Uint st.count
reads c b comps.TrgOps past s st = ap (λ (o : Parameters). kinds.Bits o.trg_ops) st.options
reads c b comps.IntgPd past s st = ap (λ (o : Parameters). kinds.Uint o.intg_pd) st.options
reads c b comps.GI past s st = refl
reads c b comps.PurgeBuf past s st = refl
reads c b comps.EntryID past s st = refl
reads c b comps.TimeofEntry past s st = ap kinds.Stamp (newest-time (selected c b past))
reads c b comps.ResvTms past s st = ap (λ x. kinds.Int (pos (seconds_of x))) st.reservation
reads c b comps.Owner past s st = ap₂ (λ o x. kinds.Octets (owner_of o x)) st.owner st.reservation
