-- What the process does with a control: it ends what the control executes, blocks it or unblocks it.
use Rattle.std.proofs.Common.{◌≡◌, ◌<◌, ◌∷◌, ℕ, suc, Bool, List, None, Some, Option, length, refl, ap, arith, subst}
use Rattle.std.proofs.lemmas.List.{length-map}
use Rattle.sv_base.specs.declared.config.Config.{Config}
use Rattle.sv_base.specs.declared.numbers.CtlNo.{CtlNo}
use Rattle.bay_model.specs.Configured.{control_defined}
use Rattle.bay_model.specs.Named.{configured_model}
use Rattle.bay_model.specs.Points.{Deed, Past, finished, blocked}
use Rattle.bay_model.specs.Singles.{arrival}
use Rattle.assoc_table.specs.Coming.{came}
use Rattle.assoc_table.specs.Seats.{Row}
use Rattle.assoc_table.specs.Tables.{IsNumber}
use Rattle.control_core.specs.Controls.{due}
use Rattle.control_core.specs.Tables.{after_deed, control_at}
use Rattle.bay_queues.specs.Queued.{IsQueued}
use Rattle.bay_queues.specs.Standing.{coming_of}
use Rattle.bay_queues.specs.Taken.{put_rows}
use Rattle.bay_queues.proofs.StandLaws as waits
use Rattle.window_core.specs.Points.{at}
use Rattle.bay_core.specs.Commanded.{after_end}
use Rattle.bay_core.specs.Standing.{StandsAt}
use Rattle.bay_core.specs.State.{State}
use Rattle.bay_core.proofs.MoveLaws.{came-with, counts, groups-quiet, passed, queued, queues-stand}
use Rattle.block_events.proofs.PartLaws.{parts-left}

rows-put : (o : Option ℕ) (k : CtlNo) (good : Bool) (rows : List Row) → came (finished k.0 good) (coming_of o k good) rows ≡ put_rows o k good rows
rows-put None k good rows = refl
rows-put (Some a) k good rows = refl

pub ended-at : (s : State) (c : Config) (n t : ℕ) (k : CtlNo) (good : Bool) (past : Past) → k.0 < length s.config.controls → IsQueued s.rows s.controls
    → ((a : ℕ) → due (control_at s.controls.controls k.0).execution ≡ Some a → IsNumber a) → StandsAt s c n (arrival n t ∷ past)
    → StandsAt (record (after_end k good s) { steps = suc s.steps }) c (suc n) (at n t (finished k.0 good) ∷ past)
ended-at s c n t k good past below is numbers here =
    let m = configured_model c in
    let d : Deed = finished k.0 good in
    let o = due (control_at s.controls.controls k.0).execution in
    let there : k.0 < length m.controls = omega (arith, below, ap (λ (q : Config). length q.controls) here.is_config, length-map c.controls control_defined) in
    let st = came-with s c n t d past (coming_of o k good) s.stored s.parts s.groups (waits.done-comes m n t k good past (queued s) (queues-stand s c n (arrival n t ∷ past) here) is there numbers) refl here.values
    (parts-left m n t d past s.parts s.parts (record { address = refl; opens = λ b. tt; note = λ b. refl; cuts = λ b. refl }) (λ b q at_b. (q, at_b, refl)) here.blocks) (groups-quiet s c n t d past tt here) here in
    counts (after_end k good s) c n (at n t d ∷ past)
    (subst (λ (rows : List Row). StandsAt (record s { rows = rows; controls = after_deed d s.controls }) c n (at n t d ∷ past)) (rows-put o k good s.rows) st)

pub blocked-at : (s : State) (c : Config) (n t k : ℕ) (flag : Bool) (past : Past) → StandsAt s c n (arrival n t ∷ past)
    → StandsAt (record s { steps = suc s.steps; controls = after_deed (blocked k flag) s.controls }) c (suc n) (at n t (blocked k flag) ∷ past)
blocked-at s c n t k flag past here = passed s c n t (blocked k flag) past s.parts s.groups (record { number = tt; puts = λ a. refl; sets = refl }) (λ x. refl)
    (record { address = refl; opens = λ b. tt; note = λ b. refl; cuts = λ b. refl }) (λ b q there. (q, there, refl)) (groups-quiet s c n t (blocked k flag) past tt here) here
