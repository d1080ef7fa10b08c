-- What a write is answered.
use Rattle.std.proofs.Common.{◌≡◌, ℕ, Bool, true, false, List, [], ◌∷◌, refl, sym, ap, ap₂, ◌∙◌}
use Rattle.std.specs.Prelude.{Option, Result, Ok, Err, ◌||◌, not, ◌==◌, if◌then◌else◌}
use Rattle.std.specs.Option.{option_map_or}
use Rattle.sv_base.specs.declared.numbers.AssocNo.{AssocNo}
use Rattle.sv_base.specs.declared.value.Value.{Value}
use Rattle.sv_base.specs.declared.components.Comp.{Comp}
use Rattle.sv_base.specs.Kinds.{is_kind, is_in_range}
use Rattle.bay_model.specs.Model.{Model, Parameters}
use Rattle.bay_model.specs.ComponentTable.{comp_kind}
use Rattle.bay_model.specs.Points.{Deed, wrote, Past, now}
use Rattle.bay_model.specs.Associations.{address}
use Rattle.bay_model.specs.Blocks.{is_held}
use Rattle.bay_model.specs.Reservations.{Reservation, is_for_another, is_reserved_for_another}
use Rattle.bay_model.specs.BlockWrites.{is_written, contradicts, component_refusals, write_component, is_of_nothing}
use Rattle.bay_model.specs.Outcomes.{Outcome, refused, first_of, first_code, outcome_by}
use Rattle.brcb_state.specs.declared.block.Block.{Block}
use Rattle.brcb_state.specs.declared.told.Effect.{Effect}
use Rattle.brcb_state.specs.Changes.{is_its, effect_of}
use Rattle.brcb_state.specs.Refusals.{answer_to, names_nothing, is_foreign}
use Rattle.brcb_state.specs.Standing.{Stands, kept_at, is_known, outcome_of}
use Rattle.brcb_state.proofs.HolderLaws.{held-same}

first-same : {A : Type 0} (ts : List (Bool × ℕ)) (done : A) (d : Deed) → outcome_by (first_of ts done) d ≡ first_code ts d
first-same [] done d = refl
first-same (t ∷ ts) done d = either t.0 (first-same ts done d) where
  either : (u : Bool) → outcome_by (first_of ts done) d ≡ first_code ts d → outcome_by (if u then Err t.1 else first_of ts done) d ≡ (if u then refused t.1 else first_code ts d)
  either true same = refl
  either false same = same

pub answered : (c : Model) (a : AssocNo) (b : ℕ) (comp : Comp) (v : Value) (past : Past) (s : Block) → Stands s c b past
    → outcome_of (wrote a.0 b comp v) (answer_to a (is_foreign (address a.0 past) (now past) s) comp v (names_nothing (kept_at c b past) (is_known c past v) comp v) s)
    ≡ write_component c a.0 b comp v past
answered c a b comp v past s st =
    let foreign : is_foreign (address a.0 past) (now past) s ≡ is_reserved_for_another b a.0 past = ap (λ x. option_map_or (is_for_another (address a.0 past)) x false) st.reservation in
    let held = held-same a comp v s.enabler ∙ ap (is_held (λ e. e == a.0) comp v) st.enabler in
    first-same (component_refusals (is_its a) (is_foreign (address a.0 past) (now past) s) comp v (is_of_nothing c b comp v past) s.enabler s.options) (effect_of comp v s) (wrote a.0 b comp v)
    ∙ (ap₂ (λ (h : Bool) (o : Parameters). first_code ((not (is_kind (comp_kind comp) v), 7) ∷ (not (is_written comp), 3) ∷ (h, 2) ∷ (contradicts comp v o, 8)
    ∷ (not (is_in_range (comp_kind comp) v) || is_of_nothing c b comp v past, 11) ∷ []) (wrote a.0 b comp v))
    (ap₂ (λ (x y : Bool). x || y) foreign held) st.options)
