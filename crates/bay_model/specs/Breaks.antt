-- Integrity, and what breaks the gathering of events (IEC 61850-7-2, BRCB attributes IntgPd, GI and PurgeBuf).
use Rattle.std.specs.Prelude.{ℕ, ◌-◌, ◌/◌, Bool, true, false, not, ◌&&◌, ◌||◌, ◌==◌, nat_lt, List, [], ◌∷◌, if◌then◌else◌}
use Rattle.bay_model.specs.Model.{Model, Parameters}
use Rattle.bay_model.specs.Points.{Deed, Point, Past, now}
use Rattle.bay_model.specs.Parameters.{parameters_at, is_purging_change, purges, is_interrogation, bit}

abbrev pub is_empty : {A : Type 0} → List A → Bool
is_empty [] = true
is_empty (x ∷ xs) = false

-- the origin of the integrity periods: `now` at the last purging change of block b, else the moment of the first step
abbrev pub origin : Model → ℕ → Past → ℕ
origin c b [] = 0
origin c b (p ∷ before) = if is_empty before || is_purging_change c b p.deed before then now (p ∷ before) else origin c b before

-- with a data set, TrgOps bit 4 (integrity) and an IntgPd above 0: a period ended between the moments was and moment
abbrev pub is_period_over : Parameters → (origin was moment : ℕ) → Bool
is_period_over options origin was moment = not (is_empty options.dat_set) && bit 4 options.trg_ops && not (options.intg_pd == 0) && nat_lt ((was - origin) / options.intg_pd) ((moment - origin) / options.intg_pd)

-- point p, not the first, has integrity: a period ended between the point before it and p
abbrev pub integrity : Model → ℕ → Point → Past → Bool
integrity c b p [] = false
integrity c b p (q ∷ before) = is_period_over (parameters_at c b (q ∷ before)) (origin c b (q ∷ before)) (now (q ∷ before)) (now (p ∷ q ∷ before))

-- the deed breaks block b: an accepted GI TRUE, PurgeBuf TRUE or purging change
abbrev pub cuts : Model → ℕ → Deed → Past → Bool
cuts c b deed before = is_interrogation b deed || purges c b deed before

-- point p breaks block b: it has integrity, or its deed breaks
abbrev pub breaks : Model → ℕ → Point → Past → Bool
breaks c b p before = integrity c b p before || cuts c b p.deed before
